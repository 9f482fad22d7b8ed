-- One place is worked off, and all places of a list are.
use Rattle.std.proofs.Common.{◌≡◌, ℕ, zero, suc, ◌+◌, ◌<◌, ◌≤◌, Bool, List, [], ◌∷◌, length, take, drop, get_or, Some, refl, sym, ap, subst, add-one, drop-cons, ◌∙◌, arith}
use Rattle.std.specs.Prelude.{slice_get, option_map, option_and_then}
use Rattle.std.proofs.lemmas.Option.{same_Some, slice_get-get_or}
use Rattle.lib_core.specs.Picks.{picked}
use Rattle.cell_table.specs.Row.{HaveValues}
use Rattle.net_core.specs.declared.bits.Event.{Event}
use Rattle.net_core.specs.declared.cells.Comb.{Comb}
use Rattle.net_core.specs.declared.cells.Reg.{Reg}
use Rattle.net_core.specs.declared.mems.Mem.{Mem}
use Rattle.net_core.specs.declared.mems.RdPort.{RdPort}
use Rattle.net_core.specs.declared.rams.RamCell.{RamCell}
use Rattle.net_core.specs.declared.rams.SlotUse.{SlotUse}
use Rattle.net_core.specs.declared.modules.Module.{Module}
use Rattle.net_core.specs.Drivers.{HasOneDriver}
use Rattle.net_core.specs.Nodes.{Node, comb_node, reg_node, read_node, slot_node, NetsWithin}
use Rattle.net_core.specs.Values.{Valuation, bit_at}
use Rattle.net_core.proofs.Basics.{get_below}
use Rattle.ram_step.specs.Moments.{valuation}
use Rattle.picked_run.specs.States.{SimLook}
use Rattle.sim_settle.specs.declared.places.NodePlace.{NodePlace}
use Rattle.sim_settle.specs.declared.places.NodePlace.TheVariants as place
use Rattle.sim_settle.specs.declared.schedules.Schedule.{Schedule}
use Rattle.sim_settle.specs.Nets.{AreBelow, AreApart, Writes, Fills}
use Rattle.sim_settle.specs.Places.{node_at, HasNode}
use Rattle.sim_settle.specs.Schedules.{IsSchedule, IsWide}
use Rattle.sim_settle.specs.Working.{PlaceSays, PlaceSteps, Worked, Begins}
use Rattle.sim_settle.proofs.Marking.{nets_below}
use Rattle.sim_settle.proofs.Placing.{node_stands, reg_of, read_of, slot_of}
use Rattle.sim_settle.proofs.Workings.{drives_apart}

pub needs_within : (m : Module) → NetsWithin m → (at : NodePlace) (p : Node) → node_at m at ≡ Some p → (values : List Bool) → length values ≡ m.nets → HaveValues p.needs values
needs_within m within at p hp values long n needs =
    let w = node_stands m at p hp in
    let lt = within.needs w.0 p w.1 n needs in
    omega (arith, lt, long)

pub drives_within : (m : Module) → NetsWithin m → (at : NodePlace) → HasNode m at → (nets : List ℕ) → ((p : Node) → node_at m at ≡ Some p → nets ≡ p.drives) → (values : List Bool) → length values ≡ m.nets → AreBelow (length values) nets
drives_within m within at has nets drives values long k n hk =
    let lt = nets_below m within at has.0 has.1 nets (drives has.0 has.1) k n hk in
    omega (arith, lt, long)

pub nets_apart : (m : Module) → HasOneDriver m → (at : NodePlace) → HasNode m at → (nets : List ℕ) → ((p : Node) → node_at m at ≡ Some p → nets ≡ p.drives) → AreApart nets
nets_apart m d at has nets drives k l n hk hl =
    let e = drives has.0 has.1 in
    drives_apart m d at has.0 has.1 k l n (ap (λ z. slice_get z k) (sym e) ∙ hk) (ap (λ z. slice_get z l) (sym e) ∙ hl)

pub place_steps : (m : Module) (seed t : ℕ) (s : SimLook) (at : NodePlace) (nets : List ℕ) (out : List Bool) (v w : Valuation) → ((p : Node) → node_at m at ≡ Some p → nets ≡ p.drives) → length out ≡ length nets → ((k : ℕ) → k < length out → PlaceSays m seed t s at v k (bit_at out k)) → Writes nets (valuation out) v w → PlaceSteps m seed t s at v w
place_steps m seed t s at nets out v w drives long says writes = record {
  shows = λ p hp k n hk.
      let there = ap (λ z. slice_get z k) (drives p hp) ∙ hk in
      let below = get_below nets k n there in
      let P : Bool → Type 0 = λ b. PlaceSays m seed t s at v k b in
      subst P (sym (writes.written k n there)) (says k (omega (arith, below, long)));
  keeps = λ p hp n none. writes.kept n (λ (k, hk). none (k, ap (λ z. slice_get z k) (sym (drives p hp)) ∙ hk));
}

-- the rest, worked off from here, is the whole
pub work_more : (m : Module) (seed t : ℕ) (s : SimLook) (work : List NodePlace) (i : ℕ) (at : NodePlace) (first v u : Valuation) → i < length work → at ≡ get_or work i at → PlaceSteps m seed t s at v u → ((w : Valuation) → Worked m seed t s (drop i work) v w → Worked m seed t s work first w) → (w : Valuation) → Worked m seed t s (drop (i + 1) work) u w → Worked m seed t s work first w
work_more m seed t s work i at first v u lt is step so_far w more =
    let split : drop i work ≡ at ∷ drop (suc i) work = drop-cons work i at lt ∙ ap (λ y. y ∷ drop (suc i) work) (sym is) in
    let place : drop (i + 1) work ≡ drop (suc i) work = ap (λ k. drop k work) (add-one i) in
    let P : List NodePlace → Type 0 = λ l. Worked m seed t s l u w in
    let Q : List NodePlace → Type 0 = λ l. Worked m seed t s l v w in
    so_far w (subst Q (sym split) (u, step, subst P place more))

nothing_left : {X : Type 0} (xs : List X) (i : ℕ) → length xs ≤ i → drop i xs ≡ []
nothing_left [] zero h = refl
nothing_left [] (suc i) h = refl
nothing_left (x ∷ xs) zero h = absurd (omega (arith, h))
nothing_left (x ∷ xs) (suc i) h = nothing_left xs i (omega (arith, h))

pub work_ends : (m : Module) (seed t : ℕ) (s : SimLook) (work : List NodePlace) (i : ℕ) (first v : Valuation) → length work ≤ i → ((w : Valuation) → Worked m seed t s (drop i work) v w → Worked m seed t s work first w) → Worked m seed t s work first v
work_ends m seed t s work i first v end so_far =
    let P : List NodePlace → Type 0 = λ l. Worked m seed t s l v v in
    so_far v (subst P (sym (nothing_left work i end)) refl)

bit_get : (xs : List Bool) (k : ℕ) (b : Bool) → slice_get xs k ≡ Some b → bit_at xs k ≡ b
bit_get [] k b h = cc
bit_get (x ∷ xs) zero b h = same_Some x b h
bit_get (x ∷ xs) (suc k) b h = bit_get xs k b h

pub begins_so : (m : Module) (seed t : ℕ) (e : Event) (s : Schedule) (free inputs : List ℕ) (bits : List Bool) (v0 v1 v2 : Valuation) → IsSchedule m s → free ≡ s.free → inputs ≡ s.inputs → bits ≡ e.values → Fills free (picked seed t 0) v0 v1 → Writes inputs (valuation bits) v1 v2 → Begins m seed t e v2
begins_so m seed t e s free inputs bits v0 v1 v2 is same_free same_inputs same_bits fills writes =
    let all = same_inputs ∙ is.inputs in
    record {
      free = λ n lt none.
          let among = is.free n lt none in
          writes.kept n (λ (k, hk). none.inputs k (ap (λ z. slice_get z k) (sym all) ∙ hk))
          ∙ fills.filled n (among.0, ap (λ z. slice_get z among.0) same_free ∙ among.1);
      inputs = λ k n b hk hb.
          writes.written k n (ap (λ z. slice_get z k) all ∙ hk) ∙ bit_get bits k b (ap (λ z. slice_get z k) same_bits ∙ hb);
    }

pub element_of : {X : Type 0} (slice whole : List X) (i : ℕ) (x : X) → slice ≡ whole → i < length whole → x ≡ get_or slice i x → slice_get whole i ≡ Some x
element_of slice whole i x same lt is = slice_get-get_or whole i x lt ∙ ap Some (sym (is ∙ ap (λ l. get_or l i x) same))

take_length : {X : Type 0} (n : ℕ) (xs : List X) → n ≤ length xs → n ≡ length (take n xs)
take_length zero xs h = refl
take_length (suc n) [] h = absurd (omega (arith, h))
take_length (suc n) (x ∷ xs) h = ap suc (take_length n xs (omega (arith, h)))

-- the nets of a place are no more than there is room for
pub fits_room : (m : Module) (at : NodePlace) → HasNode m at → (nets : List ℕ) → ((p : Node) → node_at m at ≡ Some p → nets ≡ p.drives) → (room : List Bool) → IsWide m (length room) → length nets ≤ length room
fits_room m at has nets drives room wide =
    let le = wide at has.0 has.1 in
    let long = ap length (drives has.0 has.1) in
    omega (arith, le, long)

pub part_length : (m : Module) (at : NodePlace) → HasNode m at → (nets : List ℕ) → ((p : Node) → node_at m at ≡ Some p → nets ≡ p.drives) → (room : List Bool) → IsWide m (length room) → length nets ≡ length (take (length nets) room)
part_length m at has nets drives room wide = take_length (length nets) room (fits_room m at has nets drives room wide)

-- the node of each kind of place
pub node_of_comb : (m : Module) (at : NodePlace) (i : ℕ) → at ≡ place.Comb i → (c : Comb) → slice_get m.combs i ≡ Some c → node_at m at ≡ Some (comb_node c)
node_of_comb m at i e c found = ap (node_at m) e ∙ ap (option_map comb_node) found

pub node_of_reg : (m : Module) (at : NodePlace) (i : ℕ) → at ≡ place.Reg i → (r : Reg) → slice_get m.regs i ≡ Some r → node_at m at ≡ Some (reg_node r)
node_of_reg m at i e r found = ap (node_at m) e ∙ ap (option_map reg_node) found

pub node_of_read : (m : Module) (at : NodePlace) (i j : ℕ) → at ≡ place.Read i j → (x : Mem) (r : RdPort) → slice_get m.mems i ≡ Some x → slice_get x.reads j ≡ Some r → node_at m at ≡ Some (read_node r)
node_of_read m at i j e x r found read =
    ap (node_at m) e ∙ ap (option_and_then (λ (y : Mem). option_map read_node (slice_get y.reads j))) found ∙ ap (option_map read_node) read

pub node_of_slot : (m : Module) (at : NodePlace) (i j : ℕ) → at ≡ place.Slot i j → (c : RamCell) (s : SlotUse) → slice_get m.rams i ≡ Some c → slice_get c.slots j ≡ Some s → node_at m at ≡ Some (slot_node s)
node_of_slot m at i j e c s found slot =
    ap (node_at m) e ∙ ap (option_and_then (λ (y : RamCell). option_map slot_node (slice_get y.slots j))) found ∙ ap (option_map slot_node) slot

pub reg_below : (m : Module) (at : NodePlace) (i : ℕ) → at ≡ place.Reg i → HasNode m at → i < length m.regs
reg_below m at i e has = let w = reg_of m i has.0 (ap (node_at m) (sym e) ∙ has.1) in get_below m.regs i w.0 w.1

pub mem_below : (m : Module) (at : NodePlace) (i j : ℕ) → at ≡ place.Read i j → HasNode m at → i < length m.mems
mem_below m at i j e has = let w = read_of m i j has.0 (ap (node_at m) (sym e) ∙ has.1) in get_below m.mems i w.0 w.2

pub port_below : (m : Module) (at : NodePlace) (i j : ℕ) → at ≡ place.Read i j → HasNode m at → (x : Mem) → slice_get m.mems i ≡ Some x → j < length x.reads
port_below m at i j e has x found =
    let w = read_of m i j has.0 (ap (node_at m) (sym e) ∙ has.1) in
    let P : Mem → Type 0 = λ y. j < length y.reads in
    subst P (same_Some w.0 x (sym w.2 ∙ found)) (get_below w.0.reads j w.1 w.3)

pub ram_below : (m : Module) (at : NodePlace) (i j : ℕ) → at ≡ place.Slot i j → HasNode m at → i < length m.rams
ram_below m at i j e has = let w = slot_of m i j has.0 (ap (node_at m) (sym e) ∙ has.1) in get_below m.rams i w.0 w.2

pub slot_below : (m : Module) (at : NodePlace) (i j : ℕ) → at ≡ place.Slot i j → HasNode m at → (c : RamCell) → slice_get m.rams i ≡ Some c → j < length c.slots
slot_below m at i j e has c found =
    let w = slot_of m i j has.0 (ap (node_at m) (sym e) ∙ has.1) in
    let P : RamCell → Type 0 = λ y. j < length y.slots in
    subst P (same_Some w.0 c (sym w.2 ∙ found)) (get_below w.0.slots j w.1 w.3)

pub same_read : {X : Type 0} (xs : List X) (i : ℕ) (d e : X) → i < length xs → get_or xs i d ≡ get_or xs i e
same_read [] i d e h = absurd (omega (arith, h))
same_read (x ∷ xs) zero d e h = refl
same_read (x ∷ xs) (suc i) d e h = same_read xs i d e (omega (arith, h))
