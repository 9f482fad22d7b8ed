-- RAM cells over bits and clocks that are alike.
use Rattle.std.proofs.Common.{◌≡◌, ℕ, Bool, true, false, cond, List, [], ◌∷◌, ◌++◌, map, length, drop, Option, Some, None, refl, sym, ap, ◌∙◌}
use Rattle.std.specs.Str.{bytes_eq}
use Rattle.std.proofs.lemmas.Slice.Eq.{bytes_eq-Decides}
use Rattle.lib_core.specs.declared.library.Group.{Group}
use Rattle.lib_core.specs.declared.library.Variant.{Variant}
use Rattle.net_core.specs.declared.bits.Bit.{Bit}
use Rattle.net_core.specs.Shape.{is_never}
use Rattle.net_wires.specs.declared.clock.ClockRoot.{ClockRoot}
use Rattle.net_wires.specs.declared.source.Source.{Source}
use Rattle.net_wires.specs.Nets.{bit_of}
use Rattle.ram_rows.specs.declared.pins.SlotPin.TheVariants as pin
use Rattle.ram_rows.specs.declared.slots.SlotRow.{SlotRow}
use Rattle.ram_rows.specs.RamNames.{slot_name}
use Rattle.ram_rows.specs.RamPins.{suffix}
use Rattle.raw_cells.specs.declared.raw.RamUse.{RamUse}
use Rattle.raw_cells.specs.declared.raw.RawPin.{RawPin}
use Rattle.raw_cells.specs.Bits.{bits_of, first_or_zero, pin_named, sources_at, sources_of}
use Rattle.raw_cells.specs.Clocks.{clock_by, first_root}
use Rattle.raw_cells.specs.RamCells.{groups_slots, names_slots, ram_of, slot_of}
use Rattle.raw_cells.proofs.Alike.{AreAlike, CellAlike, IsAlike, nets_long, SlotAlike, slots_append, SlotsAlike}

-- bits of places and clocks of places
pub record Seen : Type 0 where
  pub places : List Bit
  pub roots : List ClockRoot

abbrev pub BitsTied : Seen → Seen → List Source → List Source → Type 0
BitsTied a b [] [] = Unit {0}
BitsTied a b [] (r ∷ rs) = ⊥
BitsTied a b (s ∷ ss) [] = ⊥
BitsTied a b (s ∷ ss) (r ∷ rs) = IsAlike (bit_of a.places s) (bit_of b.places r) × BitsTied a b ss rs

-- a clock that never ticks in the first does not tick in the second
abbrev pub ClockTied : Seen → Seen → List Source → List Source → Type 0
ClockTied a b ss rs = (rising : Bool) → is_never (clock_by a.places rising (first_root a.roots ss)) ≡ true → is_never (clock_by b.places rising (first_root b.roots rs)) ≡ true

pub record PinTied (a b : Seen) (p q : RawPin) : Type 0 where
  pub name : p.name ≡ q.name
  pub bits : BitsTied a b p.bits q.bits
  pub clock : (slot : List ℕ) → p.name ≡ slot_name slot (suffix pin.Clk) → ClockTied a b p.bits q.bits

abbrev pub PinsTied : Seen → Seen → List RawPin → List RawPin → Type 0
PinsTied a b [] [] = Unit {0}
PinsTied a b [] (q ∷ qs) = ⊥
PinsTied a b (p ∷ ps) [] = ⊥
PinsTied a b (p ∷ ps) (q ∷ qs) = PinTied a b p q × PinsTied a b ps qs

-- ---- pins by their names

bits_case : (a b : Seen) (t u : Bool) (p q : RawPin) (o r : Option RawPin) → t ≡ u → BitsTied a b p.bits q.bits → BitsTied a b (sources_of o) (sources_of r) → BitsTied a b (sources_of (cond t (Some p) o)) (sources_of (cond u (Some q) r))
bits_case a b true true p q o r e h k = h
bits_case a b true false p q o r e h k = absurd cc
bits_case a b false true p q o r e h k = absurd cc
bits_case a b false false p q o r e h k = k

found_bits : (a b : Seen) (ps qs : List RawPin) (name : List ℕ) → PinsTied a b ps qs → BitsTied a b (sources_at ps name) (sources_at qs name)
found_bits a b [] [] name h = tt
found_bits a b [] (q ∷ qs) name h = absurd h
found_bits a b (p ∷ ps) [] name h = absurd h
found_bits a b (p ∷ ps) (q ∷ qs) name h =
    bits_case a b (bytes_eq p.name name) (bytes_eq q.name name) p q (pin_named ps name) (pin_named qs name) (ap (λ n. bytes_eq n name) h.0.name) h.0.bits (found_bits a b ps qs name h.1)

clock_case : (a b : Seen) (t u : Bool) (p q : RawPin) (o r : Option RawPin) → t ≡ u → (t ≡ true → ClockTied a b p.bits q.bits) → ClockTied a b (sources_of o) (sources_of r)
    → ClockTied a b (sources_of (cond t (Some p) o)) (sources_of (cond u (Some q) r))
clock_case a b true true p q o r e h k = h refl
clock_case a b true false p q o r e h k = absurd cc
clock_case a b false true p q o r e h k = absurd cc
clock_case a b false false p q o r e h k = k

found_clock : (a b : Seen) (ps qs : List RawPin) (slot : List ℕ) → PinsTied a b ps qs → ClockTied a b (sources_at ps (slot_name slot (suffix pin.Clk))) (sources_at qs (slot_name slot (suffix pin.Clk)))
found_clock a b [] [] slot h = λ rising e. refl
found_clock a b [] (q ∷ qs) slot h = absurd h
found_clock a b (p ∷ ps) [] slot h = absurd h
found_clock a b (p ∷ ps) (q ∷ qs) slot h =
    let name = slot_name slot (suffix pin.Clk) in
    clock_case a b (bytes_eq p.name name) (bytes_eq q.name name) p q (pin_named ps name) (pin_named qs name) (ap (λ n. bytes_eq n name) h.0.name)
    (λ e. h.0.clock slot ((bytes_eq-Decides p.name name).0 e)) (found_clock a b ps qs slot h.1)

all_alike : (a b : Seen) (ss rs : List Source) → BitsTied a b ss rs → AreAlike (bits_of a.places ss) (bits_of b.places rs)
all_alike a b [] [] h = tt
all_alike a b [] (r ∷ rs) h = absurd h
all_alike a b (s ∷ ss) [] h = absurd h
all_alike a b (s ∷ ss) (r ∷ rs) h = (h.0, all_alike a b ss rs h.1)

first_alike : (bs cs : List Bit) → AreAlike bs cs → IsAlike (first_or_zero bs) (first_or_zero cs)
first_alike [] [] h = tt
first_alike [] (c ∷ cs) h = absurd h
first_alike (b ∷ bs) [] h = absurd h
first_alike (b ∷ bs) (c ∷ cs) h = h.0

-- ---- slots

slot_alike : (a b : Seen) (ps qs : List RawPin) (g : Group) (n : List ℕ) (r : SlotRow) → PinsTied a b ps qs → SlotAlike (slot_of a.places a.roots ps g n r) (slot_of b.places b.roots qs g n r)
unfolding slot_of
slot_alike a b ps qs g n r h =
    let here : (name : List ℕ) → AreAlike (bits_of a.places (sources_at ps name)) (bits_of b.places (sources_at qs name)) =
    λ name. all_alike a b (sources_at ps name) (sources_at qs name) (found_bits a b ps qs name h) in
    let one : (name : List ℕ) → IsAlike (first_or_zero (bits_of a.places (sources_at ps name))) (first_or_zero (bits_of b.places (sources_at qs name))) =
    λ name. first_alike _ _ (here name) in
    record {
      used = refl;
      level = refl;
      never = found_clock a b ps qs n h r.rising;
      clken = one (slot_name n (suffix pin.ClkEn));
      rden = one (slot_name n (suffix pin.RdEn));
      srst = one (slot_name n (suffix pin.RdSrst));
      arst = one (slot_name n (suffix pin.RdArst));
      addr = here (slot_name n (suffix pin.Addr));
      out = nets_long _ _ (here (slot_name n (suffix pin.RdData)));
      value = here (slot_name n (suffix pin.WrData));
      wren = here (slot_name n (suffix pin.WrEn));
      wrbe = here (slot_name n (suffix pin.WrBe));
      srst_value = refl;
      arst_value = refl;
      init_value = refl;
    }

names_alike : (a b : Seen) (ps qs : List RawPin) (g : Group) (ns : List (List ℕ)) (rs : List SlotRow) → PinsTied a b ps qs → SlotsAlike (names_slots a.places a.roots ps g ns rs) (names_slots b.places b.roots qs g ns rs)
names_alike a b ps qs g [] rs h = tt
names_alike a b ps qs g (n ∷ ns) [] h = tt
names_alike a b ps qs g (n ∷ ns) (r ∷ rs) h = (slot_alike a b ps qs g n r h, names_alike a b ps qs g ns rs h)

groups_alike : (a b : Seen) (ps qs : List RawPin) (gs : List Group) (rs : List SlotRow) → PinsTied a b ps qs → SlotsAlike (groups_slots a.places a.roots ps gs rs) (groups_slots b.places b.roots qs gs rs)
groups_alike a b ps qs [] rs h = tt
groups_alike a b ps qs (g ∷ gs) rs h =
    slots_append (names_slots a.places a.roots ps g g.names rs) (names_slots b.places b.roots qs g g.names rs)
    (groups_slots a.places a.roots ps gs (drop (length g.names) rs)) (groups_slots b.places b.roots qs gs (drop (length g.names) rs))
    (names_alike a b ps qs g g.names rs h) (groups_alike a b ps qs gs (drop (length g.names) rs) h)

pub cell_alike : (a b : Seen) (name : List ℕ) (u : RamUse) (v : Variant) (ps qs : List RawPin) → PinsTied a b ps qs → CellAlike (ram_of a.places a.roots name u v ps) (ram_of b.places b.roots name u v qs)
unfolding ram_of
cell_alike a b name u v ps qs h = record { ram = refl; variant = refl; slots = groups_alike a b ps qs v.groups u.row.slots h; init = refl }
