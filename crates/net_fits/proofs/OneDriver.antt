-- Each net has at most one driver.
use Rattle.std.proofs.Common.{◌≡◌, ℕ, zero, suc, ◌+◌, ◌≤◌, Bool, true, false, cond, List, [], ◌∷◌, ◌++◌, Some, slice_get, nat_eq, refl, sym, ap, ◌∙◌, subst, arith}
use Rattle.std.specs.Prelude.{filter}
use Rattle.std.specs.List.{flat_map}
use Rattle.std.proofs.lemmas.Bool.Decides.{nat_tests}
use Rattle.std.proofs.lemmas.Option.{same_Some}
use Rattle.lib_core.specs.declared.library.Tri.{Tri}
use Rattle.rtlil_text.specs.declared.doc.DocModule.{DocModule}
use Rattle.rtlil_text.specs.declared.doc.Item.{Item}
use Rattle.rtlil_text.specs.Grammar.{All}
use Rattle.net_core.specs.declared.bits.Bit.{Bit}
use Rattle.net_core.specs.declared.cells.Comb.{Comb}
use Rattle.net_core.specs.declared.cells.Reg.{Reg}
use Rattle.net_core.specs.declared.modules.Module.{Module}
use Rattle.net_core.specs.declared.modules.Wire.{Wire}
use Rattle.net_core.specs.declared.rams.RamCell.{RamCell}
use Rattle.net_core.specs.declared.rams.SlotUse.{SlotUse}
use Rattle.net_core.specs.Drivers.{CombOut, Driver, Free, HasOneDriver, Input, RegOut, SlotOut}
use Rattle.net_core.specs.Ports.{by_port, inputs_of, Interface, is_input_wire, wire_bits}
use Rattle.net_wires.specs.declared.clock.ClockRoot.{ClockRoot}
use Rattle.net_wires.specs.Links.{links_of}
use Rattle.net_wires.specs.Spans.{spans, There}
use Rattle.net_wires.specs.Spans as spanned
use Rattle.net_gather.specs.Cells.{Context}
use Rattle.net_gather.specs.Gather.{counts_before, gathered}
use Rattle.net_gather.specs.Laws.{PlacesInOrder, PlacesWithin, TablesFit}
use Rattle.net_cells.specs.Wires.{wires_from}
use Rattle.net_module.specs.Assembly.{carried_cells, module_of}
use Rattle.net_fits.specs.Cells.{IsSound}
use Rattle.net_fits.specs.Driven.{cell_sources}
use Rattle.net_fits.specs.Rams.{AreRams, is_this, outs_of, ram_cells}
use Rattle.net_fits.proofs.Ends.{behind_none, ended, IsEnd}
use Rattle.net_fits.proofs.Lists.{all_join, how_many, many_joined, many_there}
use Rattle.net_fits.proofs.NetCounts.{by_port_counted, carried_outs, cells_counted, comb_outs, ends_once, inputs_counted, nets_counted, rams_counted, reg_outs, sources_joined}
use Rattle.net_fits.proofs.Solved.{inputs_from, Solved}
use Rattle.net_fits.proofs.Sound.{cells_faultless}

-- ---- a table of drivers

-- a net, and what drives it
record Entry : Type 0 where
  net : ℕ
  driver : Driver

abbrev is_of : ℕ → Entry → Bool
is_of n e = nat_eq n e.net

abbrev driver_in : List Entry → ℕ → Driver
driver_in [] n = Free
driver_in (e ∷ es) n = cond (nat_eq n e.net) e.driver (driver_in es n)

own_net : (n : ℕ) → nat_eq n n ≡ true
own_net n = grind (arith, nat_tests)

first_case : (b : Bool) (d e : Driver) → b ≡ true → cond b d e ≡ d
first_case true d e h = refl
first_case false d e h = absurd cc

later_case : (b : Bool) (d e : Driver) (k : ℕ) → cond b 1 0 + k ≤ 1 → 1 ≤ k → cond b d e ≡ e
later_case true d e k h some = absurd (omega (arith, h, some))
later_case false d e k h some = refl

-- an entry of a net that has no other is found
found_one : (es : List Entry) (j n : ℕ) (d : Driver) → slice_get es j ≡ Some (record { net = n; driver = d }) → how_many (is_of n) es ≤ 1 → driver_in es n ≡ d
found_one [] j n d at once = absurd cc
found_one (e ∷ es) zero n d at once =
    let same = same_Some e (record { net = n; driver = d }) at in
    first_case (nat_eq n e.net) e.driver (driver_in es n) (ap (nat_eq n) (ap (λ (x : Entry). x.net) same) ∙ own_net n) ∙ ap (λ (x : Entry). x.driver) same
found_one (e ∷ es) (suc j) n d at once =
    let some : 1 ≤ how_many (is_of n) es = many_there (is_of n) es j (record { net = n; driver = d }) at (own_net n) in
    later_case (nat_eq n e.net) e.driver (driver_in es n) (how_many (is_of n) es) once some ∙ found_one es j n d at (omega (arith, once))

-- ---- entries for nets in their order

abbrev Has : List Entry → ℕ → Driver → Type 0
Has es n d = (j : ℕ) × (slice_get es j ≡ Some (record { net = n; driver = d }))

has_left : (xs ys : List Entry) (n : ℕ) (d : Driver) → Has xs n d → Has (xs ++ ys) n d
has_left [] ys n d h = (let e = h.1 in absurd cc)
has_left (x ∷ xs) ys n d (zero, e) = (zero, e)
has_left (x ∷ xs) ys n d (suc j, e) = (let rest = has_left xs ys n d (j, e) in (suc rest.0, rest.1))

has_right : (xs ys : List Entry) (n : ℕ) (d : Driver) → Has ys n d → Has (xs ++ ys) n d
has_right [] ys n d h = h
has_right (x ∷ xs) ys n d h = (let rest = has_right xs ys n d h in (suc rest.0, rest.1))

abbrev tagged : (ℕ → Driver) → ℕ → List ℕ → List Entry
tagged f from [] = []
tagged f from (n ∷ ns) = record { net = n; driver = f from } ∷ tagged f (suc from) ns

tagged_has : (f : ℕ → Driver) (from k n : ℕ) (ns : List ℕ) → slice_get ns k ≡ Some n → Has (tagged f from ns) n (f (from + k))
tagged_has f from k n [] e = absurd cc
tagged_has f from zero n (m ∷ ms) e =
    let here : from ≡ from + 0 = omega arith in
    (zero, ap (λ (x : ℕ). Some (record { net = x; driver = f from })) (same_Some m n e) ∙ ap (λ (x : ℕ). Some (record { net = n; driver = f x })) here)
tagged_has f from (suc k) n (m ∷ ms) e =
    let rest = tagged_has f (suc from) k n ms e in
    let there : suc from + k ≡ from + suc k = omega arith in
    (suc rest.0, rest.1 ∙ ap (λ (x : ℕ). Some (record { net = n; driver = f x })) there)

tagged_counted : (f : ℕ → Driver) (from n : ℕ) (ns : List ℕ) → how_many (is_of n) (tagged f from ns) ≡ how_many (nat_eq n) ns
tagged_counted f from n [] = refl
tagged_counted f from n (m ∷ ms) = ap (λ k. cond (nat_eq n m) 1 0 + k) (tagged_counted f (suc from) n ms)

-- entries for the nets of parts
abbrev each_tagged : {X : Type 0} → (X → List ℕ) → (ℕ → ℕ → Driver) → ℕ → List X → List Entry
each_tagged nets f from [] = []
each_tagged nets f from (x ∷ xs) = tagged (f from) 0 (nets x) ++ each_tagged nets f (suc from) xs

each_has : {X : Type 0} (nets : X → List ℕ) (f : ℕ → ℕ → Driver) (from i k n : ℕ) (xs : List X) (x : X) → slice_get xs i ≡ Some x → slice_get (nets x) k ≡ Some n → Has (each_tagged nets f from xs) n (f (from + i) k)
each_has nets f from i k n [] x e at = absurd cc
each_has nets f from zero k n (y ∷ ys) x e at =
    let here : from ≡ from + 0 = omega arith in
    let place : 0 + k ≡ k = omega arith in
    let there : slice_get (nets y) k ≡ Some n = ap (λ z. slice_get (nets z) k) (same_Some y x e) ∙ at in
    has_left (tagged (f from) 0 (nets y)) (each_tagged nets f (suc from) ys) n (f (from + 0) k)
    (subst (Has (tagged (f from) 0 (nets y)) n) (ap (f from) place ∙ ap (λ j. f j k) here) (tagged_has (f from) 0 k n (nets y) there))
each_has nets f from (suc i) k n (y ∷ ys) x e at =
    let there : suc from + i ≡ from + suc i = omega arith in
    has_right (tagged (f from) 0 (nets y)) (each_tagged nets f (suc from) ys) n (f (from + suc i) k)
    (subst (Has (each_tagged nets f (suc from) ys) n) (ap (λ j. f j k) there) (each_has nets f (suc from) i k n ys x e at))

each_counted : {X : Type 0} (nets : X → List ℕ) (f : ℕ → ℕ → Driver) (from n : ℕ) (xs : List X) → how_many (is_of n) (each_tagged nets f from xs) ≡ how_many (nat_eq n) (flat_map nets xs)
each_counted nets f from n [] = refl
each_counted nets f from n (x ∷ xs) =
    let a = many_joined (is_of n) (tagged (f from) 0 (nets x)) (each_tagged nets f (suc from) xs) in
    let b = many_joined (nat_eq n) (nets x) (flat_map nets xs) in
    let c = tagged_counted (f from) 0 n (nets x) in
    let d = each_counted nets f (suc from) n xs in
    omega (arith, a, b, c, d)

-- entries for the slots of RAM cells
abbrev slots_tagged : ℕ → List RamCell → List Entry
slots_tagged from [] = []
slots_tagged from (c ∷ cs) = each_tagged (λ (s : SlotUse). s.out) (SlotOut from) 0 c.slots ++ slots_tagged (suc from) cs

slots_has : (from i j k n : ℕ) (cs : List RamCell) (c : RamCell) (s : SlotUse) → slice_get cs i ≡ Some c → slice_get c.slots j ≡ Some s → slice_get s.out k ≡ Some n → Has (slots_tagged from cs) n (SlotOut (from + i) j k)
slots_has from i j k n [] c s e at out = absurd cc
slots_has from zero j k n (d ∷ ds) c s e at out =
    let here : from ≡ from + 0 = omega arith in
    let place : 0 + j ≡ j = omega arith in
    let there : slice_get d.slots j ≡ Some s = ap (λ (z : RamCell). slice_get z.slots j) (same_Some d c e) ∙ at in
    has_left (each_tagged (λ (s : SlotUse). s.out) (SlotOut from) 0 d.slots) (slots_tagged (suc from) ds) n (SlotOut (from + 0) j k)
    (subst (Has (each_tagged (λ (s : SlotUse). s.out) (SlotOut from) 0 d.slots) n) (ap (λ x. SlotOut from x k) place ∙ ap (λ x. SlotOut x j k) here) (each_has (λ (s : SlotUse). s.out) (SlotOut from) 0 j k n d.slots s there out))
slots_has from (suc i) j k n (d ∷ ds) c s e at out =
    let there : suc from + i ≡ from + suc i = omega arith in
    has_right (each_tagged (λ (s : SlotUse). s.out) (SlotOut from) 0 d.slots) (slots_tagged (suc from) ds) n (SlotOut (from + suc i) j k)
    (subst (Has (slots_tagged (suc from) ds) n) (ap (λ x. SlotOut x j k) there) (slots_has (suc from) i j k n ds c s e at out))

slots_counted : (from n : ℕ) (cs : List RamCell) → how_many (is_of n) (slots_tagged from cs) ≡ how_many (nat_eq n) (flat_map outs_of cs)
slots_counted from n [] = refl
slots_counted from n (c ∷ cs) =
    let a = many_joined (is_of n) (each_tagged (λ (s : SlotUse). s.out) (SlotOut from) 0 c.slots) (slots_tagged (suc from) cs) in
    let b = many_joined (nat_eq n) (outs_of c) (flat_map outs_of cs) in
    let d = each_counted (λ (s : SlotUse). s.out) (SlotOut from) 0 n c.slots in
    let e = slots_counted (suc from) n cs in
    omega (arith, a, b, d, e)

-- ---- a module without memories

-- how often a net is driven in it
abbrev times_driven : ℕ → Module → ℕ
times_driven n m = how_many (nat_eq n) (inputs_of m) + (how_many (nat_eq n) (comb_outs m.combs) + (how_many (nat_eq n) (reg_outs m.regs) + how_many (nat_eq n) (flat_map outs_of m.rams)))

abbrev entries : Module → List Entry
entries m =
    tagged Input 0 (inputs_of m) ++ (each_tagged (λ (c : Comb). c.y) CombOut 0 m.combs ++ (each_tagged (λ (r : Reg). r.q) RegOut 0 m.regs ++ slots_tagged 0 m.rams))

entries_counted : (n : ℕ) (m : Module) → how_many (is_of n) (entries m) ≡ times_driven n m
entries_counted n m =
    let a = many_joined (is_of n) (tagged Input 0 (inputs_of m)) (each_tagged (λ (c : Comb). c.y) CombOut 0 m.combs ++ (each_tagged (λ (r : Reg). r.q) RegOut 0 m.regs ++ slots_tagged 0 m.rams)) in
    let b = many_joined (is_of n) (each_tagged (λ (c : Comb). c.y) CombOut 0 m.combs) (each_tagged (λ (r : Reg). r.q) RegOut 0 m.regs ++ slots_tagged 0 m.rams) in
    let c = many_joined (is_of n) (each_tagged (λ (r : Reg). r.q) RegOut 0 m.regs) (slots_tagged 0 m.rams) in
    let d = tagged_counted Input 0 n (inputs_of m) in
    let e = each_counted (λ (c : Comb). c.y) CombOut 0 n m.combs in
    let f = each_counted (λ (r : Reg). r.q) RegOut 0 n m.regs in
    let g = slots_counted 0 n m.rams in
    omega (arith, a, b, c, d, e, f, g)

found : (m : Module) (n : ℕ) (d : Driver) → times_driven n m ≤ 1 → Has (entries m) n d → driver_in (entries m) n ≡ d
found m n d once h = found_one (entries m) h.0 n d h.1 (omega (arith, entries_counted n m, once))

from_zero : (k : ℕ) → 0 + k ≡ k
from_zero k = omega arith

no_item : {X : Type 0} (i : ℕ) (x : X) → slice_get [] i ≡ Some x → ⊥
no_item i x e = cc

one_driver : (m : Module) → m.mems ≡ [] → ((n : ℕ) → times_driven n m ≤ 1) → HasOneDriver m
one_driver m none once =
    let ins = tagged Input 0 (inputs_of m) in
    let combs = each_tagged (λ (c : Comb). c.y) CombOut 0 m.combs in
    let regs = each_tagged (λ (r : Reg). r.q) RegOut 0 m.regs in
    let slots = slots_tagged 0 m.rams in
    record {
      driver = driver_in (entries m);
      inputs = λ k n at. found m n (Input k) (once n) (has_left ins _ n (Input k) (subst (Has ins n) (ap Input (from_zero k)) (tagged_has Input 0 k n (inputs_of m) at)));
      combs = λ i c e k n at. found m n (CombOut i k) (once n) (has_right ins _ n (CombOut i k) (has_left combs _ n (CombOut i k) (subst (Has combs n) (ap (λ x. CombOut x k) (from_zero i)) (each_has (λ (c : Comb). c.y) CombOut 0 i k n m.combs c e at))));
      regs = λ i r e k n at. found m n (RegOut i k) (once n) (has_right ins _ n (RegOut i k) (has_right combs _ n (RegOut i k) (has_left regs slots n (RegOut i k) (subst (Has regs n) (ap (λ x. RegOut x k) (from_zero i)) (each_has (λ (r : Reg). r.q) RegOut 0 i k n m.regs r e at)))));
      reads = λ i x e. absurd (no_item i x (sym (ap (λ xs. slice_get xs i) none) ∙ e));
      slots = λ i c e j s f k n at. found m n (SlotOut i j k) (once n) (has_right ins _ n (SlotOut i j k) (has_right combs _ n (SlotOut i j k) (has_right regs slots n (SlotOut i j k) (subst (Has slots n) (ap (λ x. SlotOut x j k) (from_zero i)) (slots_has 0 i j k n m.rams c s e f at)))));
    }

-- ---- the module that is made of gathered cells

pub solved_drivers : TablesFit → PlacesWithin → PlacesInOrder → ((items : List Item) → There (spanned.wire_bits items) (spans 0 items)) → (modules : List Interface) (x : Context) (m : DocModule) (places : List Bit) (count : ℕ) (roots : List ClockRoot) (starts : List Tri) (rams : List RamCell)
    → IsSound modules x m → Solved x m places count → AreRams places count (gathered x m.items).cells rams → HasOneDriver (module_of m (gathered x m.items).cells places count roots starts rams)
unfolding module_of
solved_drivers tables within in_order there modules x m places count roots starts rams sound s are =
    let g = gathered x m.items in
    let t = links_of g.places g.pairs in
    let ends = ended within in_order there x m places count s in
    let both : All (IsEnd g.places t) (inputs_from 0 m.items ++ cell_sources g.cells) = all_join (IsEnd g.places t) (inputs_from 0 m.items) (cell_sources g.cells) ends.inputs ends.cells in
    let few : (n : ℕ) → times_driven n (module_of m g.cells places count roots starts rams) ≤ 1 = λ n.
    (let wires = filter is_input_wire (wires_from places m.items) in
    let one : how_many (is_this n) _ ≤ 1 = ends_once g.places t places s.solves n (inputs_from 0 m.items ++ cell_sources g.cells) both ends.once in
    let whole = sources_joined n places (inputs_from 0 m.items) (cell_sources g.cells) in
    let inputs = nets_counted n (wire_bits (by_port wires) ++ carried_outs (carried_cells places g.cells)) in
    let split = many_joined (is_this n) (wire_bits (by_port wires)) (carried_outs (carried_cells places g.cells)) in
    let order = by_port_counted (is_this n) (λ (w : Wire). w.bits) wires in
    let first = inputs_counted n places 0 places m.items (behind_none places) in
    let cells = cells_counted n places roots starts x.library g.cells (tables x 0 (counts_before m.items) m.items (cells_faultless x m sound.faultless)) in
    let slots = rams_counted n places roots starts count (ram_cells g.cells) rams are in
    omega (arith, one, whole, inputs, split, order, first, cells, slots)) in
    one_driver (module_of m g.cells places count roots starts rams) refl few
