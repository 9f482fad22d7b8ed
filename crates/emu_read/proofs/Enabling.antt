-- A read with an enable is one without, and what is kept outside.
use Rattle.std.proofs.Common.{◌≡◌, ℕ, zero, suc, ◌+◌, ◌<◌, Bool, true, false, cond, not, ◌&&◌, ◌||◌, List, [], ◌∷◌, length, Some, refl, sym, ap, ◌∙◌, subst, arith}
use Rattle.std.specs.Prelude.{slice_get}
use Rattle.std.specs.List.{range_with_len}
use Rattle.std.proofs.lemmas.Option.{same_Some}
use Rattle.lib_core.specs.declared.library.Library.{Library}
use Rattle.lib_core.specs.declared.library.Tri.{Tri}
use Rattle.lib_core.specs.declared.library.Tri.TheVariants.{Any}
use Rattle.lib_core.specs.Rams.{tri_at}
use Rattle.net_core.specs.declared.bits.Bit.{Bit}
use Rattle.net_core.specs.declared.bits.Bit.TheVariants.{Zero, Net}
use Rattle.net_core.specs.declared.bits.Clock.{Clock}
use Rattle.net_core.specs.declared.mems.Mem.{Mem}
use Rattle.net_core.specs.declared.mems.RdPort.{RdPort}
use Rattle.net_core.specs.declared.mems.WrPort.{WrPort}
use Rattle.net_core.specs.declared.modules.Module.{Module}
use Rattle.net_core.specs.Cells.{RegAllows}
use Rattle.net_core.specs.Memory.{Words, Frame, frame_of, base_of, hits, loaded, read_bit, read_next, ClockedAllows, ReadAllows}
use Rattle.net_core.specs.Ports.{inputs_of}
use Rattle.net_core.specs.Runs.{Run}
use Rattle.net_core.specs.Valid.{NoneDefined}
use Rattle.net_core.specs.Values.{Valuation, Wave, Happening, At, value_of, values_of, bit_at, tri_of, Agrees, has_edge}
use Rattle.net_core.proofs.Basics.{get_right, get_below}
use Rattle.net_edit.specs.Edits.{as_bits, nets_from}
use Rattle.net_edit.proofs.Lists.{last_at}
use Rattle.net_gates.proofs.NewCell.{agrees_told}
use Rattle.rewriting.specs.Reads.{is_listed}
use Rattle.emu_read.specs.Emulating.{Outside, emulated, IsQuietNow, IsQuietBefore, ReadsAsBefore}
use Rattle.emu_read.specs.Enable.{plain_reg, loads_always, EnableNames, enable_outside, IsPlainRead}
use Rattle.emu_read.proofs.Masks.{listed_at, without_same, with_same, loaded_same, misses}
use Rattle.emu_read.proofs.Stepping.{told_agrees, net_at, shown, allowed}

pub range_get : (a count k : ℕ) → k < count → slice_get (range_with_len a count) k ≡ Some (a + k)
range_get a zero k l = absurd (omega (arith, l))
range_get a (suc count) zero l = let e : a ≡ a + 0 = omega arith in ap Some e
range_get a (suc count) (suc k) l = let e : a + 1 + k ≡ a + suc k = omega arith in range_get (a + 1) count k (omega (arith, l)) ∙ ap Some e

pub net_value : (u : Valuation) (ns : List ℕ) (k n : ℕ) → slice_get ns k ≡ Some n → bit_at (values_of u (as_bits ns)) k ≡ u n
net_value u [] k n h = cc
net_value u (x ∷ ns) zero n h = ap u (same_Some x n h)
net_value u (x ∷ ns) (suc k) n h = net_value u ns k n h

pub net_bit : (ns : List ℕ) (k n : ℕ) → slice_get ns k ≡ Some n → slice_get (as_bits ns) k ≡ Some (Net n)
net_bit [] k n h = cc
net_bit (x ∷ ns) zero n h = ap (λ a. Some (Net a)) (same_Some x n h)
net_bit (x ∷ ns) (suc k) n h = net_bit ns k n h

pub none_any : (xs : List Tri) → NoneDefined xs → (k : ℕ) → tri_at xs k ≡ Any
none_any [] none k = refl
none_any (x ∷ xs) none zero = none 0 x refl
none_any (x ∷ xs) none (suc k) = none_any xs (λ i t at. none (suc i) t at) k

-- a register without other pins takes its operand at each edge
pub reg_step : (inputs : List ℕ) (name : List ℕ) (c : Clock) (d : List Bit) (q : List ℕ) (events : List Happening) (v : Wave) → RegAllows inputs (plain_reg name c d q) events v → (t : ℕ) (e next : Happening) → At events t e → At events (suc t) next → (k n : ℕ) (b : Bit) → slice_get q k ≡ Some n → slice_get d k ≡ Some b → v (suc t) n ≡ cond (has_edge inputs e.edge c) (value_of (v t) b) (v t n)
reg_step inputs name c d q events v r t e next at then k n b hq hd =
    let now : v t n ≡ r.kept t k = agrees_told (r.kept t k) (v t n) (r.shows t e at k n hq) in
    let later : v (suc t) n ≡ r.kept (suc t) k = agrees_told (r.kept (suc t) k) (v (suc t) n) (r.shows (suc t) next then k n hq) in
    later ∙ stepped (has_edge inputs e.edge c) (value_of (v t) b) (r.kept t k) (r.kept (suc t) k) (r.steps t e at k n b hq hd) ∙ ap (cond (has_edge inputs e.edge c) (value_of (v t) b)) (sym now)
  where
    stepped : (edge d kept after : Bool) → Agrees (cond (not edge) (tri_of kept) (tri_of d)) after → after ≡ cond edge d kept
    stepped true d kept after h = agrees_told d after h
    stepped false d kept after h = agrees_told kept after h

-- the step of a read that is never reset
pub next_plain : (inputs : List ℕ) (f : Frame) (ws : List WrPort) (c : Clock) (r : RdPort) (e : Happening) (u : Valuation) (words : ℕ → ℕ → Tri) (kept : ℕ → Bool) (k out : ℕ) → r.arst ≡ Zero → r.srst ≡ Zero → read_next inputs f ws c r e u words kept k out ≡ cond (not (has_edge inputs e.edge c)) (tri_of (kept k)) (cond (value_of u r.en) (read_bit f (base_of u r.addr) k (λ word bit. loaded r.trans r.coll ws (hits inputs f e u word bit ws) (words word bit))) (tri_of (kept k)))
next_plain inputs f ws c r e u words kept k out arst srst =
    let takes : Tri = cond (value_of u r.en) (read_bit f (base_of u r.addr) k (λ word bit. loaded r.trans r.coll ws (hits inputs f e u word bit ws) (words word bit))) (tri_of (kept k)) in
    (λ i. cond (value_of u (arst i)) (tri_of (u out)) (cond (not (has_edge inputs e.edge c)) (tri_of (kept k)) (cond (value_of u (srst i) && (not r.ce_over_srst || value_of u r.en)) (tri_at r.srst_value k) takes)))

-- what the choice shows after a moment is what the old read may show
combine : (edge en was q held out q_next held_next was_next out_next shown : Bool) (now before : Tri) → out ≡ cond was q held → was_next ≡ cond edge en was → held_next ≡ cond edge out held → out_next ≡ cond was_next q_next held_next → shown ≡ out → Agrees (cond (not edge) (tri_of q) now) q_next → (edge ≡ true → en ≡ true → now ≡ before) → Agrees (cond (not edge) (tri_of shown) (cond en before (tri_of shown))) out_next
combine false en was q held out q_next held_next was_next out_next shown now before a b c d s step same =
    let e : q_next ≡ q = agrees_told q q_next step in
    told_agrees shown out_next (d ∙ (λ i. cond (b i) (e i) (c i)) ∙ sym a ∙ sym s)
combine true false was q held out q_next held_next was_next out_next shown now before a b c d s step same =
    told_agrees shown out_next (d ∙ (λ i. cond (b i) q_next (c i)) ∙ sym s)
combine true true was q held out q_next held_next was_next out_next shown now before a b c d s step same =
    let e : out_next ≡ q_next = d ∙ (λ i. cond (b i) q_next held_next) in
    subst (Agrees before) (sym e) (subst (λ z. Agrees z q_next) (same refl refl) step)

module _ (lib : Library) (m : Module) (k j : ℕ) (x : Mem) (p : RdPort) (clock : Clock) (quiet : List ℕ) (names : EnableNames) (plain : IsPlainRead m k j x p clock) where
  abbrev width : ℕ
  width = length p.out

  abbrev q : RdPort
  q = loads_always quiet p (nets_from m.nets width)

  abbrev outside : Outside
  outside = enable_outside m.nets clock p names

  abbrev held_net : ℕ → ℕ
  held_net a = m.nets + width + a

  abbrev loaded_net : ℕ
  loaded_net = m.nets + width + width

  module _ (events : List Happening) (v : Wave) (run : Run lib (emulated m k x j q outside) events v) (calm : IsQuietBefore x p quiet events v) (words : Words) (reads : ReadAllows (inputs_of m) (frame_of x) x.writes p.clock q words events v) where
    abbrev inputs : List ℕ
    inputs = inputs_of m

    free : ClockedAllows inputs (frame_of x) x.writes clock q words events v
    free = subst (λ o. ReadAllows inputs (frame_of x) x.writes o q words events v) plain.clocked reads

    loaded_run : RegAllows inputs (plain_reg names.loaded clock (p.en ∷ []) (loaded_net ∷ [])) events v
    loaded_run = run.regs (length m.regs + 0) _ (get_right m.regs outside.regs 0)

    held_run : RegAllows inputs (plain_reg names.held clock (as_bits p.out) (nets_from (m.nets + width) width)) events v
    held_run = run.regs (length m.regs + 1) _ (get_right m.regs outside.regs 1)

    -- what the outputs show at each moment
    chosen : (t : ℕ) (e : Happening) → At events t e → (a n : ℕ) → slice_get p.out a ≡ Some n → v t n ≡ cond (v t loaded_net) (v t (m.nets + a)) (v t (held_net a))
    chosen t e at a n there =
        let l : a < width = get_below p.out a n there in
        let shows = run.combs (length m.combs) _ (last_at m.combs _) t e at a n there in
        let low = net_value (v t) (nets_from (m.nets + width) width) a (held_net a) (range_get (m.nets + width) width a l) in
        let high = net_value (v t) (nets_from m.nets width) a (m.nets + a) (range_get m.nets width a l) in
        agrees_told _ (v t n) shows ∙ (λ i. cond (v t loaded_net) (high i) (low i))

    -- what the new read shows after a moment
    free_step : (t : ℕ) (e next : Happening) → At events t e → At events (suc t) next → (a : ℕ) → a < width → Agrees (cond (not (has_edge inputs e.edge clock)) (tri_of (v t (m.nets + a))) (read_bit (frame_of x) (base_of (v t) p.addr) a (λ word bit. loaded q.trans q.coll x.writes (hits inputs (frame_of x) e (v t) word bit x.writes) (words t word bit)))) (v (suc t) (m.nets + a))
    free_step t e next at then a l =
        let there = range_get m.nets width a l in
        let shown : (s : ℕ) (d : Happening) → At events s d → v s (m.nets + a) ≡ free.kept s a = λ s d here.
        agrees_told (free.kept s a) (v s (m.nets + a)) (subst (λ b. Agrees (cond (value_of (v s) b) (tri_at q.arst_value a) (tri_of (free.kept s a))) (v s (m.nets + a))) plain.arst (free.shows s d here a (m.nets + a) there)) in
        let step = subst (λ z. Agrees z (free.kept (suc t) a)) (next_plain inputs (frame_of x) x.writes clock q e (v t) (words t) (free.kept t) a (m.nets + a) plain.arst plain.srst) (free.steps t e at a (m.nets + a) there) in
        let here = shown t e at in
        let after = shown (suc t) next then in
        subst (λ b. Agrees (cond (not (has_edge inputs e.edge clock)) (tri_of b) (read_bit (frame_of x) (base_of (v t) p.addr) a (λ word bit. loaded q.trans q.coll x.writes (hits inputs (frame_of x) e (v t) word bit x.writes) (words t word bit)))) (v (suc t) (m.nets + a))) (sym here)
        (subst (Agrees (cond (not (has_edge inputs e.edge clock)) (tri_of (free.kept t a)) (read_bit (frame_of x) (base_of (v t) p.addr) a (λ word bit. loaded q.trans q.coll x.writes (hits inputs (frame_of x) e (v t) word bit x.writes) (words t word bit))))) (sym after) step)

    -- where the read is enabled, no listed write hits, so it takes the same
    takes_same : (t : ℕ) (e : Happening) → IsQuietNow x p quiet (v t) → value_of (v t) p.en ≡ true → (a : ℕ) → read_bit (frame_of x) (base_of (v t) p.addr) a (λ word bit. loaded q.trans q.coll x.writes (hits inputs (frame_of x) e (v t) word bit x.writes) (words t word bit)) ≡ read_bit (frame_of x) (base_of (v t) p.addr) a (λ word bit. loaded p.trans p.coll x.writes (hits inputs (frame_of x) e (v t) word bit x.writes) (words t word bit))
    takes_same t e now on a =
        let same : (word bit : ℕ) → loaded q.trans q.coll x.writes (hits inputs (frame_of x) e (v t) word bit x.writes) (words t word bit) ≡ loaded p.trans p.coll x.writes (hits inputs (frame_of x) e (v t) word bit x.writes) (words t word bit) = λ word bit.
        loaded_same quiet q.trans q.coll p.trans p.coll (without_same quiet p.trans) (with_same quiet p.coll) x.writes (hits inputs (frame_of x) e (v t) word bit x.writes) (words t word bit) (misses quiet inputs (frame_of x) e (v t) word bit 0 x.writes (λ l w there listed b.
        let zero_more : 0 + l ≡ l = omega arith in
        let (i, is) = listed_at quiet l (ap (is_listed quiet) (sym zero_more) ∙ listed) in
        now i l w is there on b)) in
        (λ i. read_bit (frame_of x) (base_of (v t) p.addr) a (λ word bit. same word bit i))

    old_step : (t : ℕ) (e next : Happening) → At events t e → At events (suc t) next → (shown : ℕ → Bool) (a n : ℕ) → slice_get p.out a ≡ Some n → shown a ≡ v t n → Agrees (read_next inputs (frame_of x) x.writes clock p e (v t) (words t) shown a n) (v (suc t) n)
    old_step t e next at then shown a n there told =
        let l : a < width = get_below p.out a n there in
        let flag = reg_step inputs names.loaded clock (p.en ∷ []) (loaded_net ∷ []) events v loaded_run t e next at then 0 loaded_net p.en refl refl in
        let held = reg_step inputs names.held clock (as_bits p.out) (nets_from (m.nets + width) width) events v held_run t e next at then a (held_net a) (Net n) (range_get (m.nets + width) width a l) (net_bit p.out a n there) in
        subst (λ z. Agrees z (v (suc t) n)) (sym (next_plain inputs (frame_of x) x.writes clock p e (v t) (words t) shown a n plain.arst plain.srst))
        (combine (has_edge inputs e.edge clock) (value_of (v t) p.en) (v t loaded_net) (v t (m.nets + a)) (v t (held_net a)) (v t n) (v (suc t) (m.nets + a)) (v (suc t) (held_net a)) (v (suc t) loaded_net) (v (suc t) n) (shown a) _ _ (chosen t e at a n there) flag held (chosen (suc t) next then a n there) told (free_step t e next at then a l) (λ edge on. takes_same t e (calm t e next at then) on a))

    old_allowed : ReadAllows inputs (frame_of x) x.writes p.clock p words events v
    old_allowed = subst (λ o. ReadAllows inputs (frame_of x) x.writes o p words events v) (sym plain.clocked)
        (allowed inputs (frame_of x) x.writes clock p words events v plain.arst (none_any p.init_value plain.start) (λ t e next at then a n there. old_step t e next at then (shown inputs (frame_of x) x.writes clock p words events v t) a n there (ap (net_at inputs (frame_of x) x.writes clock p words events v t) there)))

  pub reads_as_before : ReadsAsBefore lib m k x j p q quiet outside
  reads_as_before events v run calm words reads = old_allowed events v run calm words reads
