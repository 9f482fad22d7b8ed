-- A read with what stands outside it is a rewriting of its memory.
use Rattle.std.proofs.Common.{◌≡◌, ℕ, zero, suc, ◌+◌, ◌*◌, ◌<◌, inl, inr, true, false, cond, List, [], ◌∷◌, ◌++◌, map, length, set, take, Some, refl, sym, ap, ◌∙◌, subst, arith, nat_eq, nat_lt}
use Rattle.std.specs.Prelude.{slice_get, count_by}
use Rattle.std.specs.Option.{option_map}
use Rattle.std.specs.List.{flat_map}
use Rattle.std.proofs.lemmas.Bool.{ne_eqb, cases_eq}
use Rattle.std.proofs.lemmas.Bool.Decides.{nat_tests}
use Rattle.std.proofs.lemmas.Option.{same_Some}
use Rattle.std.proofs.lemmas.List.{map-append}
use Rattle.std.proofs.lemmas.List.Sums.{sum_by-append, sum_by-cons}
use Rattle.std.proofs.Math.Seq.{take-length}
use Rattle.std.proofs.Math.Nat.{mul-lt-mul_of_pos_left}
use Rattle.lib_core.specs.declared.library.Library.{Library}
use Rattle.net_core.specs.declared.bits.Clock.{Clock}
use Rattle.net_core.specs.declared.bits.Clock.TheVariants.{Root, Never}
use Rattle.net_core.specs.declared.cells.Comb.{Comb}
use Rattle.net_core.specs.declared.cells.Reg.{Reg}
use Rattle.net_core.specs.declared.mems.Mem.{Mem}
use Rattle.net_core.specs.declared.mems.RdPort.{RdPort}
use Rattle.net_core.specs.declared.mems.WrPort.{WrPort}
use Rattle.net_core.specs.declared.modules.Module.{Module}
use Rattle.net_core.specs.Memory.{frame_of, ReadAllows, MemAllows}
use Rattle.net_core.specs.Nodes.{Node, comb_node, reg_node, read_node, slot_node, mem_nodes, nodes_of, Rises, Ordered}
use Rattle.net_core.specs.Ports.{Interface, inputs_of, read_clock, mem_clocks, ram_clocks, clocks_of}
use Rattle.net_core.specs.Runs.{Run}
use Rattle.net_core.specs.Simulation.{Simulates}
use Rattle.net_core.specs.Valid.{silent_nodes}
use Rattle.net_core.specs.Values.{Wave, Happening, value_of}
use Rattle.net_core.proofs.Basics.{get_left, get_joined, get_below}
use Rattle.net_core.proofs.Ordering.{comb_place, reg_place, read_place, slot_place}
use Rattle.net_core.proofs.Searching.{get_set_same, get_set_other}
use Rattle.net_edit.specs.Laws.{IsKnownClock}
use Rattle.net_edit.proofs.Lists.{Has, has_left, has_right, has_either, map_has, has_flat}
use Rattle.rewriting.specs.Keeping.{Lost, PortPlace, ReadAt, WriteAt, read_reach, reach_at, KeepsPorts}
use Rattle.rewriting.specs.Known.{AreEnough, IsGuarded, QuietAt}
use Rattle.rewriting.specs.Reads.{with_read, read_room}
use Rattle.rewriting.specs.Rewrites.{GrowsBy, StandsAround, Rewrites}
use Rattle.rewriting.proofs.Staying.{inside_stays, quiet_stays}
use Rattle.emu_read.specs.Emulating.{Outside, emulated, IsQuietBefore, spread, Rising, Emulation, EmulationIsRewriting}
use Rattle.emu_read.proofs.Joined.{count_join, is_silent}
use Rattle.emu_read.proofs.OtherRead.{set_has, port_cases, old_clock, port_silent}
use Rattle.emu_read.proofs.Prefixes.{at_taken, taken_at, run_prefix}

module _ (lib : Library) (modules : List Interface) (lost : Lost) (m : Module) (k j : ℕ) (x : Mem) (p q : RdPort) (quiet : List ℕ) (out : Outside) (h : Emulation lib modules lost m k j x p q quiet out) where
  abbrev new : Module
  new = emulated m k x j q out

  abbrev y : Mem
  y = with_read x j q

  -- ---- runs

  mem_set : slice_get new.mems k ≡ Some y
  mem_set = get_set_same m.mems k y (get_below m.mems k x h.is.mem)

  read_set : slice_get y.reads j ≡ Some q
  read_set = get_set_same x.reads j q (get_below x.reads j p h.is.read)

  old_mem : (events : List Happening) (v : Wave) → Run lib new events v → IsQuietBefore x p quiet events v → MemAllows (inputs_of m) x events v
  old_mem events v run calm =
      let now = run.mems k y mem_set in
      record {
        words = now.words;
        holds = record { starts = now.holds.starts; steps = now.holds.steps };
        reads = λ a r here. elim (cases_eq a j) [
          | inl e ↦
              let same : p ≡ r = same_Some p r (sym h.is.read ∙ ap (slice_get x.reads) (sym e) ∙ here) in
              subst (λ z. ReadAllows (inputs_of m) (frame_of x) x.writes z.clock z now.words events v) same (h.reads events v run calm now.words (now.reads j q read_set))
          | inr ne ↦ now.reads a r (get_set_other x.reads j a q ne ∙ here)
        ];
      }

  old_run : (events : List Happening) (v : Wave) → Run lib new events v → IsQuietBefore x p quiet events v → Run lib m events v
  old_run events v run calm = record {
    inputs = run.inputs;
    combs = λ i c at. run.combs i c (get_left m.combs out.combs i c at);
    regs = λ i r at. run.regs i r (get_left m.regs out.regs i r at);
    mems = λ i z at. elim (cases_eq i k) [
      | inl e ↦ subst (λ w. MemAllows (inputs_of m) w events v) (same_Some x z (sym h.is.mem ∙ ap (slice_get m.mems) (sym e) ∙ at)) (old_mem events v run calm)
      | inr ne ↦ run.mems i z (get_set_other m.mems k i y ne ∙ at)
    ];
    rams = run.rams;
  }

  none_before : (events : List Happening) (v : Wave) → IsQuietBefore x p quiet (take 0 events) v
  none_before events v t e next at then = cc

  -- each first part of the run is one of the old module, so the read was quiet before
  prefix : (events : List Happening) (v : Wave) → Run lib new events v → (n : ℕ) → Run lib m (take n events) v
  prefix events v run zero = old_run (take 0 events) v (run_prefix 0 events v lib new run) (none_before events v)
  prefix events v run (suc n) =
      let before = prefix events v run n in
      old_run (take (suc n) events) v (run_prefix (suc n) events v lib new run) (λ t e next at then a l w listed there on b.
      let (few, here) = at_taken (suc n) events (suc t) next then in
      let (some, is) = at_taken (suc n) events t e at in
      h.calm a l listed p w h.is.read there (take n events) v before t e (taken_at n events t e (omega (arith, few)) is) on b)

  whole : (events : List Happening) (v : Wave) → Run lib new events v → Run lib m events v
  whole events v run = subst (λ es. Run lib m es v) (take-length events) (prefix events v run (length events))

  -- ---- clocks

  read_known : (c : Clock) → p.clock ≡ Some c → Has (clocks_of m) c
  read_known c e =
      let one : Has (read_clock p.clock) c = subst (λ o. Has (read_clock o) c) (sym e) (0, refl) in
      let reads = flat_map (λ (r : RdPort). read_clock r.clock) x.reads in
      let writes = map (λ (w : WrPort). w.clock) x.writes in
      let in_mem : Has (mem_clocks x) c = has_left reads writes c (has_flat (λ (r : RdPort). read_clock r.clock) x.reads p c (j, h.is.read) one) in
      let mems = flat_map mem_clocks m.mems in
      let rams = flat_map ram_clocks m.rams in
      has_right (map (λ (r : Reg). r.clock) m.regs) (mems ++ rams) c (has_left mems rams c (has_flat mem_clocks m.mems x c (k, h.is.mem) in_mem))

  clock_before : (c : Clock) → Has (clocks_of new) c → Has (clocks_of m) c
  clock_before c there =
      let clock : Reg → Clock = λ r. r.clock in
      let regs = map clock m.regs in
      let others = flat_map mem_clocks new.mems ++ flat_map ram_clocks m.rams in
      elim (has_either (map clock (m.regs ++ out.regs)) others c there) [
        | inl a ↦ elim (has_either regs (map clock out.regs) c (subst (λ l. Has l c) (map-append clock m.regs out.regs) a)) [
          | inl b ↦ has_left regs (flat_map mem_clocks m.mems ++ flat_map ram_clocks m.rams) c b
          | inr b ↦ let (r, (i, at), e) = map_has clock out.regs c b in subst (Has (clocks_of m)) e (read_known r.clock (h.clocks i r at))
        ]
        | inr b ↦ old_clock m k j x p q h.is h.clock c (has_right regs others c b)
      ]

  known : (c : Clock) → IsKnownClock new c → IsKnownClock m c
  known Never g = tt
  known (Root net rising) (a, edge, at) = let (b, there) = clock_before (Root net edge) (a, at) in (b, edge, there)

  simulates : Simulates lib modules [] m new
  simulates = record {
    frame = record {
      name = refl;
      attrs = refl;
      ports = refl;
      carried = refl;
      joins = λ a b. refl;
      roots = λ place root. let (b, there) = clock_before (Root root.net root.rising) (root.clock, root.used) in record { net = root.net; rising = root.rising; clock = b; input = root.input; used = there };
    };
    runs = λ events v run. record { wave = v; run = whole events v run; same = λ t n off. refl; shows = λ t e at. refl };
  }

  -- ---- order

  module _ (o : Ordered m) where
    rise : Rising m q out h.top o.rank
    rise = h.rising o

    abbrev rank : ℕ → ℕ
    rank = spread o.rank m.nets h.top rise.high

    spread_old : (n : ℕ) → n < m.nets → rank n ≡ suc h.top * o.rank n + h.top
    spread_old n l = let e : nat_lt n m.nets ≡ true = grind (arith, nat_tests) in ap (λ b. cond b (suc h.top * o.rank n + h.top) (rise.high n)) e

    keeps : (i : ℕ) (s : Node) → slice_get (nodes_of m) i ≡ Some s → Rises o.rank s → Rises rank s
    keeps i s at up n z d needs =
        let a = spread_old z (h.within.nodes.needs i s at z needs) in
        let b = spread_old n (h.within.nodes.drives i s at n d) in
        let less : suc h.top * o.rank z < suc h.top * o.rank n = mul-lt-mul_of_pos_left (up n z d needs) (omega arith) in
        omega (arith, a, b, less)

    ordered : Ordered new
    ordered = record {
      rank = rank;
      combs = λ i c at. elim (get_joined m.combs out.combs i c at) [ inl old ↦ (let (l, there) = comb_place m i c old in keeps l (comb_node c) there (o.combs i c old)) | inr (l, e, own) ↦ rise.combs l c own ];
      regs = λ i r at. elim (get_joined m.regs out.regs i r at) [ inl old ↦ (let (l, there) = reg_place m i r old in keeps l (reg_node r) there (o.regs i r old)) | inr (l, e, own) ↦ rise.regs l r own ];
      reads = port_cases modules m k j x p q h.is (λ i a r. Rises rank (read_node r)) rise.read (λ i z at a r here. let (l, there) = read_place m i z at a r here in keeps l (read_node r) there (o.reads i z at a r here));
      slots = λ i c at a s here. let (l, there) = slot_place m i c at a s here in keeps l (slot_node s) there (o.slots i c at a s here);
    }

  -- ---- size

  none_silent : {X : Type 0} (f : X → Node) (xs : List X) → ((i : ℕ) (z : X) → slice_get xs i ≡ Some z → 0 < length (f z).drives) → count_by is_silent (map f xs) ≡ 0
  none_silent f [] some = refl
  none_silent f (z ∷ xs) some =
      let here = some 0 z refl in
      let no : nat_eq (length (f z).drives) 0 ≡ false = ne_eqb (length (f z).drives) 0 (λ e. omega (arith, here, e)) in
      let none : cond (is_silent (f z)) 1 0 ≡ 0 = ap (λ b. cond {A = ℕ} b 1 0) no in
      let one = sum_by-cons (λ (s : Node). cond (is_silent s) 1 0) (f z) (map f xs) in
      let rest = none_silent f xs (λ i w at. some (suc i) w at) in
      omega (arith, none, one, rest)

  silent : silent_nodes new ≡ silent_nodes m
  silent =
      let combs = map comb_node m.combs in
      let regs = map reg_node m.regs in
      let before = flat_map mem_nodes m.mems in
      let now = flat_map mem_nodes new.mems in
      let a = ap (λ l. count_by is_silent (l ++ (map reg_node (m.regs ++ out.regs) ++ now))) (map-append comb_node m.combs out.combs) in
      let b = count_join is_silent (combs ++ map comb_node out.combs) (map reg_node (m.regs ++ out.regs) ++ now) in
      let c = count_join is_silent combs (map comb_node out.combs) in
      let d = ap (λ l. count_by is_silent (l ++ now)) (map-append reg_node m.regs out.regs) in
      let e = count_join is_silent (regs ++ map reg_node out.regs) now in
      let f = count_join is_silent regs (map reg_node out.regs) in
      let g = count_join is_silent combs (regs ++ before) in
      let i = count_join is_silent regs before in
      let no_combs = none_silent comb_node out.combs h.few.combs in
      let no_regs = none_silent reg_node out.regs h.few.regs in
      let reads = port_silent m k j x p q h.is h.long in
      omega (arith, a, b, c, d, e, f, g, i, no_combs, no_regs, reads)

  grows : GrowsBy (read_room x p) m new
  grows = record {
    nets = let l = h.few.nets in omega (arith, l);
    bits = let l = h.few.bits in let e = sum_by-append (λ (r : Reg). length r.q) m.regs out.regs in omega (arith, l, e);
    logic = let l = h.few.logic in let e = sum_by-append (λ (c : Comb). length c.y) m.combs out.combs in omega (arith, l, e);
    silent = let e = silent in omega (arith, e);
  }

  around : StandsAround m new
  around = record {
    more_combs = out.combs;
    more_regs = out.regs;
    combs = refl;
    regs = refl;
    clocks = known;
    nets = omega arith;
    name = refl;
    attrs = refl;
    wires = refl;
    declared = refl;
    parts = refl;
    rams = refl;
    carried = refl;
  }

  -- ---- ports

  reach_set : (rs : List RdPort) (a b : ℕ) → slice_get rs a ≡ Some p → option_map read_reach (slice_get (set rs a q) b) ≡ option_map read_reach (slice_get rs b)
  reach_set [] a b at = refl
  reach_set (r ∷ rs) zero zero at =
      let one : read_reach q ≡ read_reach p = (λ i. record { wide = h.wide i; addr = h.addr i }) in
      ap Some (one ∙ sym (ap read_reach (same_Some r p at)))
  reach_set (r ∷ rs) zero (suc b) at = refl
  reach_set (r ∷ rs) (suc a) zero at = refl
  reach_set (r ∷ rs) (suc a) (suc b) at = reach_set rs a b at

  reach_same : (s : PortPlace) → reach_at y s ≡ reach_at x s
  reach_same (ReadAt a) = reach_set x.reads j a h.is.read
  reach_same (WriteAt l) = refl

  kept : KeepsPorts lost x y
  kept = record {
    folds = λ fold g. record { width = refl; alike = λ a b la lb e. e };
    enables = λ l g one. one;
    addresses = λ g a b e. reach_same a ∙ e ∙ sym (reach_same b);
  }

  enough_back : (bits : ℕ) → AreEnough y bits → AreEnough x bits
  enough_back bits g = record {
    words = g.words;
    reads = λ a r at. elim (cases_eq a j) [
      | inl e ↦
          let same : p ≡ r = same_Some p r (sym h.is.read ∙ ap (slice_get x.reads) (sym e) ∙ at) in
          let few = g.reads j q read_set in
          let wide = h.wide ∙ ap (λ (z : RdPort). z.wide) same in
          omega (arith, few, wide)
      | inr ne ↦ g.reads a r (get_set_other x.reads j a q ne ∙ at)
    ];
    writes = g.writes;
  }

  enough_on : (bits : ℕ) → AreEnough x bits → AreEnough y bits
  enough_on bits g = record {
    words = g.words;
    reads = λ a r at. elim (set_has x.reads j p q r h.is.read (a, at)) [
      | inl e ↦ let few = g.reads j p h.is.read in let wide = h.wide in let same = ap (λ (z : RdPort). z.wide) e in omega (arith, few, wide, same)
      | inr (l, old) ↦ g.reads l r old
    ];
    writes = g.writes;
  }

  guarded : IsGuarded lib m x → IsGuarded lib new y
  guarded g = record {
    offset = g.offset;
    enough = enough_on x.abits g.enough;
    least = λ bits e. g.least bits (enough_back bits e);
    inside = λ l w at. inside_stays lib modules m new x w simulates (g.inside l w at);
  }

  still_quiet : (i l : ℕ) → lost.quiet i l ≡ false → QuietAt lib m x i l → QuietAt lib new y i l
  still_quiet i l keep g r w hr hw = elim (cases_eq i j) [
    | inl e ↦
        let own : q ≡ r = same_Some q r (sym read_set ∙ ap (slice_get y.reads) (sym e) ∙ hr) in
        let en : r.en ≡ p.en = sym (ap (λ (z : RdPort). z.en) own) ∙ h.enable l (ap (λ a. lost.quiet a l) (sym e) ∙ keep) in
        let before = quiet_stays lib modules m new p w simulates (g p w (ap (slice_get x.reads) e ∙ h.is.read) hw) in
        λ events v run t ev at on b. before events v run t ev at (ap (λ z. value_of (v t) z) (sym en) ∙ on) b
    | inr ne ↦ quiet_stays lib modules m new r w simulates (g r w (sym (get_set_other x.reads j i q ne) ∙ hr) hw)
  ]

  rewrites : Rewrites lib modules k x y lost (read_room x p) m new
  rewrites = record {
    was = h.is.mem;
    is = refl;
    kept = kept;
    around = around;
    size = grows;
    simulates = simulates;
    ordered = ordered;
    valid = h.valid;
    guarded = λ keep g. guarded g;
    quiet = still_quiet;
  }

pub emulation_is_rewriting : EmulationIsRewriting
emulation_is_rewriting lib modules lost m k j x p q quiet out h = rewrites lib modules lost m k j x p q quiet out h
