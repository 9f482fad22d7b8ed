-- Cells and nets that are added.
use Rattle.std.proofs.Common.{◌≡◌, ℕ, ◌+◌, ◌<◌, ◌⊎◌, inl, inr, Bool, true, false, cond, List, [], ◌∷◌, ◌++◌, map, length, Option, Some, None, refl, sym, ap, ◌∙◌, subst, arith}
use Rattle.std.specs.Prelude.{slice_get}
use Rattle.std.specs.List.{flat_map}
use Rattle.net_core.specs.declared.bits.Clock.{Clock}
use Rattle.net_core.specs.declared.bits.Clock.TheVariants.{Root}
use Rattle.net_core.specs.declared.cells.Comb.{Comb}
use Rattle.net_core.specs.declared.cells.Reg.{Reg}
use Rattle.net_core.specs.declared.mems.Mem.{Mem}
use Rattle.net_core.specs.declared.mems.RdPort.{RdPort}
use Rattle.net_core.specs.declared.rams.RamCell.{RamCell}
use Rattle.net_core.specs.declared.rams.SlotUse.{SlotUse}
use Rattle.net_core.specs.declared.modules.Module.{Module}
use Rattle.net_core.specs.Drivers.{Driver, Input, CombOut, RegOut, ReadOut, SlotOut, HasOneDriver}
use Rattle.net_core.specs.Nodes.{Node, comb_node, reg_node, read_node, slot_node, nodes_of, HasNet, Drives, Rises, Ordered}
use Rattle.net_core.specs.Ports.{inputs_of, clocks_of, mem_clocks, ram_clocks, IsClockRoot}
use Rattle.net_core.specs.Valid.{AreApart}
use Rattle.net_core.proofs.Basics.{get_left}
use Rattle.net_core.proofs.Ordering.{comb_place, reg_place, read_place, slot_place, each_node}
use Rattle.net_core.proofs.Searching.{get_pushed}
use Rattle.net_edit.specs.Edits.{with_nets, with_comb, with_reg}
use Rattle.net_edit.specs.Ranks.{height}
use Rattle.net_edit.specs.Laws.{IsUndriven, IsCut, HasRanks, CutHasRanks, AddedCombIsOrdered, AddedRegIsOrdered, IsKnownClock, AddedNetsSimulate, AddedCombSimulates, AddedRegSimulates, AddedCombHasOneDriver, AddedRegHasOneDriver, AddedCombIsWithin, AddedRegIsWithin}
use Rattle.net_edit.proofs.Heights.{height_at}
use Rattle.net_edit.proofs.Lists.{Has, has_left, has_right, has_either, map_has, has_map, pushed_has}
use Rattle.net_edit.proofs.Places.{place_of, place_found, place_missing}

-- ---- order

module _ (m : Module) (p : Node) (above : ℕ → Bool) (cut : IsCut m p above) (o : Ordered m) where
  abbrev lifted : ℕ → ℕ
  lifted n = o.rank n + cond (above n) (height o.rank p.needs) 0

  lift_by : (a b : Bool) (low high top : ℕ) → low < high → (a ≡ true → b ≡ true) → low + cond a top 0 < high + cond b top 0
  lift_by true true low high top l c = omega (arith, l)
  lift_by true false low high top l c = let e = c refl in absurd (cc)
  lift_by false true low high top l c = omega (arith, l)
  lift_by false false low high top l c = omega (arith, l)

  still_rises : (k : ℕ) (q : Node) → slice_get (nodes_of m) k ≡ Some q → Rises o.rank q → Rises lifted q
  still_rises k q at rise n x drives needs = lift_by (above x) (above n) (o.rank x) (o.rank n) (height o.rank p.needs) (rise n x drives needs) (cut.closed k q at n x needs drives)

  now_above : (a b : Bool) (low high top : ℕ) → a ≡ false → b ≡ true → low < top → low + cond a top 0 < high + cond b top 0
  now_above false true low high top ea eb l = omega (arith, l)
  now_above true b low high top ea eb l = absurd (cc)
  now_above false false low high top ea eb l = absurd (cc)

  pub cut_ranks : HasRanks m p
  cut_ranks = record {
    order = record {
      rank = lifted;
      combs = λ i c at. let (k, there) = comb_place m i c at in still_rises k (comb_node c) there (o.combs i c at);
      regs = λ i r at. let (k, there) = reg_place m i r at in still_rises k (reg_node r) there (o.regs i r at);
      reads = λ i x at j r h. let (k, there) = read_place m i x at j r h in still_rises k (read_node r) there (o.reads i x at j r h);
      slots = λ i c at j s h. let (k, there) = slot_place m i c at j s h in still_rises k (slot_node s) there (o.slots i c at j s h);
    };
    rises = λ n x drives needs. now_above (above x) (above n) (o.rank x) (o.rank n) (height o.rank p.needs) (cut.needs x needs) (cut.drives n drives) (height_at o.rank p.needs x needs);
  }

pub cut_has_ranks : CutHasRanks
cut_has_ranks m p above cut o = cut_ranks m p above cut o

pub added_comb_is_ordered : AddedCombIsOrdered
added_comb_is_ordered m c o rises = record {
  order = record {
    rank = o.rank;
    combs = λ i y at. elim (get_pushed m.combs c y i at) [ inl old ↦ o.combs i y old | inr (e, is) ↦ subst (λ z. Rises o.rank (comb_node z)) is rises ];
    regs = o.regs;
    reads = o.reads;
    slots = o.slots;
  };
  same = λ n. refl;
}

pub added_reg_is_ordered : AddedRegIsOrdered
added_reg_is_ordered m r o rises = record {
  order = record {
    rank = o.rank;
    combs = o.combs;
    regs = λ i y at. elim (get_pushed m.regs r y i at) [ inl old ↦ o.regs i y old | inr (e, is) ↦ subst (λ z. Rises o.rank (reg_node z)) is rises ];
    reads = o.reads;
    slots = o.slots;
  };
  same = λ n. refl;
}

-- ---- runs

root_kept : (m new : Module) → inputs_of new ≡ inputs_of m → clocks_of new ≡ clocks_of m → (place : ℕ) → IsClockRoot new place → IsClockRoot m place
root_kept m new inputs clocks place root = record {
  net = root.net;
  rising = root.rising;
  clock = root.clock;
  input = ap (λ l. slice_get l place) (sym inputs) ∙ root.input;
  used = ap (λ l. slice_get l root.clock) (sym clocks) ∙ root.used;
}

pub added_nets_simulate : AddedNetsSimulate
added_nets_simulate lib modules m count = record {
  frame = record { name = refl; attrs = refl; ports = refl; carried = refl; joins = λ i j. refl; roots = root_kept m (with_nets m count) refl refl };
  runs = λ events v run. record {
    wave = v;
    run = record { inputs = run.inputs; combs = run.combs; regs = run.regs; mems = run.mems; rams = run.rams };
    same = λ t n off. refl;
    shows = λ t e at. refl;
  };
}

pub added_comb_simulates : AddedCombSimulates
added_comb_simulates lib modules m c = record {
  frame = record { name = refl; attrs = refl; ports = refl; carried = refl; joins = λ i j. refl; roots = root_kept m (with_comb m c) refl refl };
  runs = λ events v run. record {
    wave = v;
    run = record { inputs = run.inputs; combs = λ i y at. run.combs i y (get_left m.combs (c ∷ []) i y at); regs = run.regs; mems = run.mems; rams = run.rams };
    same = λ t n off. refl;
    shows = λ t e at. refl;
  };
}

module _ (m : Module) (r : Reg) where
  abbrev reg_clocks : List Clock
  reg_clocks = map (λ (r : Reg). r.clock) m.regs

  abbrev other_clocks : List Clock
  other_clocks = flat_map mem_clocks m.mems ++ flat_map ram_clocks m.rams

  clock_cases : (c : Clock) → Has (clocks_of (with_reg m r)) c → Has (clocks_of m) c ⊎ (r.clock ≡ c)
  clock_cases c h = elim (has_either (map (λ (r : Reg). r.clock) (m.regs ++ r ∷ [])) other_clocks c h) [
    | inl a ↦
        let (y, at, e) = map_has (λ (r : Reg). r.clock) (m.regs ++ r ∷ []) c a in
        elim (pushed_has m.regs r y at) [
          | inl old ↦ inl (has_left reg_clocks other_clocks c (subst (Has reg_clocks) e (has_map (λ (r : Reg). r.clock) m.regs y old)))
          | inr same ↦ inr (ap (λ (r : Reg). r.clock) same ∙ e)
        ]
    | inr b ↦ inl (has_right reg_clocks other_clocks c b)
  ]

  reg_roots : IsKnownClock m r.clock → (place : ℕ) → IsClockRoot (with_reg m r) place → IsClockRoot m place
  reg_roots known place root = elim (clock_cases (Root root.net root.rising) (root.clock, root.used)) [
    | inl (k, at) ↦ record { net = root.net; rising = root.rising; clock = k; input = root.input; used = at }
    | inr is ↦
        let (k, edge, at) = subst (IsKnownClock m) is known in
        record { net = root.net; rising = edge; clock = k; input = root.input; used = at }
  ]

pub added_reg_simulates : AddedRegSimulates
added_reg_simulates lib modules m r known = record {
  frame = record { name = refl; attrs = refl; ports = refl; carried = refl; joins = λ i j. refl; roots = reg_roots m r known };
  runs = λ events v run. record {
    wave = v;
    run = record { inputs = run.inputs; combs = run.combs; regs = λ i y at. run.regs i y (get_left m.regs (r ∷ []) i y at); mems = run.mems; rams = run.rams };
    same = λ t n off. refl;
    shows = λ t e at. refl;
  };
}

-- ---- drivers

abbrev chosen : (ℕ → Driver) → Option ℕ → Driver → Driver
chosen f None d = d
chosen f (Some k) d = f k

module _ (m : Module) (old : HasOneDriver m) (nets : List ℕ) (own : ℕ → Driver) (free : (k n : ℕ) → slice_get nets k ≡ Some n → IsUndriven m n) (apart : AreApart nets) where
  abbrev driver : ℕ → Driver
  driver n = chosen own (place_of nets n) (old.driver n)

  still : (n : ℕ) (d : Driver) → ((k : ℕ) → slice_get nets k ≡ Some n → ⊥) → old.driver n ≡ d → driver n ≡ d
  still n d off is = ap (λ o. chosen own o (old.driver n)) (place_missing nets n (λ (k, at). off k at)) ∙ is

  its_own : (k n : ℕ) → slice_get nets k ≡ Some n → driver n ≡ own k
  its_own k n at = ap (λ o. chosen own o (old.driver n)) (place_found nets apart k n at)

  still_input : (k n : ℕ) → slice_get (inputs_of m) k ≡ Some n → driver n ≡ Input k
  still_input k n at = still n (Input k) (λ l g. (free l n g).inputs k at) (old.inputs k n at)

  still_comb : (i : ℕ) (c : Comb) → slice_get m.combs i ≡ Some c → (k n : ℕ) → slice_get c.y k ≡ Some n → driver n ≡ CombOut i k
  still_comb i c at k n h = let (j, there) = comb_place m i c at in still n (CombOut i k) (λ l g. (free l n g).nodes j (comb_node c) there (k, h)) (old.combs i c at k n h)

  still_reg : (i : ℕ) (r : Reg) → slice_get m.regs i ≡ Some r → (k n : ℕ) → slice_get r.q k ≡ Some n → driver n ≡ RegOut i k
  still_reg i r at k n h = let (j, there) = reg_place m i r at in still n (RegOut i k) (λ l g. (free l n g).nodes j (reg_node r) there (k, h)) (old.regs i r at k n h)

  still_read : (i : ℕ) (x : Mem) → slice_get m.mems i ≡ Some x → (j : ℕ) (r : RdPort) → slice_get x.reads j ≡ Some r → (k n : ℕ) → slice_get r.out k ≡ Some n → driver n ≡ ReadOut i j k
  still_read i x at j r here k n h = let (a, there) = read_place m i x at j r here in still n (ReadOut i j k) (λ l g. (free l n g).nodes a (read_node r) there (k, h)) (old.reads i x at j r here k n h)

  still_slot : (i : ℕ) (c : RamCell) → slice_get m.rams i ≡ Some c → (j : ℕ) (s : SlotUse) → slice_get c.slots j ≡ Some s → (k n : ℕ) → slice_get s.out k ≡ Some n → driver n ≡ SlotOut i j k
  still_slot i c at j s here k n h = let (a, there) = slot_place m i c at j s here in still n (SlotOut i j k) (λ l g. (free l n g).nodes a (slot_node s) there (k, h)) (old.slots i c at j s here k n h)

pub added_comb_has_one_driver : AddedCombHasOneDriver
added_comb_has_one_driver m c old free apart =
    let own : ℕ → Driver = λ k. CombOut (length m.combs) k in
    record {
      driver = driver m old c.y own free apart;
      inputs = still_input m old c.y own free apart;
      combs = λ i y at k n h. elim (get_pushed m.combs c y i at) [
        | inl there ↦ still_comb m old c.y own free apart i y there k n h
        | inr (e, is) ↦ its_own m old c.y own free apart k n (ap (λ (z : Comb). slice_get z.y k) is ∙ h) ∙ ap (λ a. CombOut a k) (sym e)
      ];
      regs = still_reg m old c.y own free apart;
      reads = still_read m old c.y own free apart;
      slots = still_slot m old c.y own free apart;
    }

pub added_reg_has_one_driver : AddedRegHasOneDriver
added_reg_has_one_driver m r old free apart =
    let own : ℕ → Driver = λ k. RegOut (length m.regs) k in
    record {
      driver = driver m old r.q own free apart;
      inputs = still_input m old r.q own free apart;
      combs = still_comb m old r.q own free apart;
      regs = λ i y at k n h. elim (get_pushed m.regs r y i at) [
        | inl there ↦ still_reg m old r.q own free apart i y there k n h
        | inr (e, is) ↦ its_own m old r.q own free apart k n (ap (λ (z : Reg). slice_get z.q k) is ∙ h) ∙ ap (λ a. RegOut a k) (sym e)
      ];
      reads = still_read m old r.q own free apart;
      slots = still_slot m old r.q own free apart;
    }

-- ---- nodes

-- what holds of each node of a module, and of the new one, holds of each node of the new module
pub comb_nodes : (m : Module) (c : Comb) (P : Node → Type 0) → ((k : ℕ) (p : Node) → slice_get (nodes_of m) k ≡ Some p → P p) → P (comb_node c) → (k : ℕ) (p : Node) → slice_get (nodes_of (with_comb m c)) k ≡ Some p → P p
comb_nodes m c P old new = each_node (with_comb m c) P
    (λ i y at. elim (get_pushed m.combs c y i at) [ inl there ↦ (let (k, h) = comb_place m i y there in old k (comb_node y) h) | inr (e, is) ↦ subst (λ z. P (comb_node z)) is new ])
    (λ i r at. let (k, h) = reg_place m i r at in old k (reg_node r) h)
    (λ i x at j r here. let (k, h) = read_place m i x at j r here in old k (read_node r) h)
    (λ i d at j s here. let (k, h) = slot_place m i d at j s here in old k (slot_node s) h)

pub reg_nodes : (m : Module) (r : Reg) (P : Node → Type 0) → ((k : ℕ) (p : Node) → slice_get (nodes_of m) k ≡ Some p → P p) → P (reg_node r) → (k : ℕ) (p : Node) → slice_get (nodes_of (with_reg m r)) k ≡ Some p → P p
reg_nodes m r P old new = each_node (with_reg m r) P
    (λ i c at. let (k, h) = comb_place m i c at in old k (comb_node c) h)
    (λ i y at. elim (get_pushed m.regs r y i at) [ inl there ↦ (let (k, h) = reg_place m i y there in old k (reg_node y) h) | inr (e, is) ↦ subst (λ z. P (reg_node z)) is new ])
    (λ i x at j y here. let (k, h) = read_place m i x at j y here in old k (read_node y) h)
    (λ i d at j s here. let (k, h) = slot_place m i d at j s here in old k (slot_node s) h)

pub added_comb_is_within : AddedCombIsWithin
added_comb_is_within m c within fits = record {
  drives = comb_nodes m c (λ p. (n : ℕ) → Drives p n → n < m.nets) within.drives fits.drives;
  needs = comb_nodes m c (λ p. (n : ℕ) → HasNet p.needs n → n < m.nets) within.needs fits.needs;
}

pub added_reg_is_within : AddedRegIsWithin
added_reg_is_within m r within fits = record {
  drives = reg_nodes m r (λ p. (n : ℕ) → Drives p n → n < m.nets) within.drives fits.drives;
  needs = reg_nodes m r (λ p. (n : ℕ) → HasNet p.needs n → n < m.nets) within.needs fits.needs;
}
