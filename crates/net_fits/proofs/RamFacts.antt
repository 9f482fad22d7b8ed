-- The bits and the clocks of a RAM cell that is made of a gathered cell.
use Rattle.std.proofs.Common.{ℕ, ◌<◌, List, [], ◌∷◌, drop, length, ◌≡◌, ◌+◌, ◌≤◌, ◌++◌, nat_eq, refl, arith}
use Rattle.std.specs.List.{count_by, flat_map}
use Rattle.lib_core.specs.declared.library.Group.{Group}
use Rattle.lib_core.specs.declared.library.Variant.{Variant}
use Rattle.rtlil_text.specs.Grammar.{All, AreDistinct}
use Rattle.net_core.specs.declared.bits.Bit.{Bit}
use Rattle.net_core.specs.declared.rams.SlotUse.{SlotUse}
use Rattle.net_core.specs.Pins as pinned
use Rattle.net_wires.specs.declared.clock.ClockRoot.{ClockRoot}
use Rattle.net_wires.specs.Nets.{InOrder}
use Rattle.ram_rows.specs.declared.pins.SlotPin.TheVariants as pin
use Rattle.ram_rows.specs.declared.slots.SlotRow.{SlotRow}
use Rattle.ram_rows.specs.RamNames.{slot_name}
use Rattle.ram_rows.specs.RamPins.{suffix}
use Rattle.raw_cells.specs.declared.raw.RamUse.{RamUse}
use Rattle.raw_cells.specs.declared.raw.RawPin.{RawPin}
use Rattle.raw_cells.specs.Bits.{bits_at, bits_of, sources_at}
use Rattle.raw_cells.specs.RamCells.{groups_slots, names_slots, ram_of, slot_of}
use Rattle.net_fits.specs.Clocks.{ComesFrom}
use Rattle.net_core.specs.Ports.{nets_of}
use Rattle.cell_rows.specs.declared.pin.PinRow.{PinRow}
use Rattle.net_gather.specs.FilePins.{in_table}
use Rattle.net_gather.specs.Laws.{FitsTable}
use Rattle.net_fits.specs.RamParts.{DrivenOrAbsent, groups_read, HasParts, names_read}
use Rattle.net_fits.specs.Rams.{driving_sources, is_this, IsBelow, outs_of}
use Rattle.net_fits.proofs.ClockFacts.{pin_clocks_come}
use Rattle.net_fits.proofs.Ends.{counts_are}
use Rattle.net_fits.proofs.Lists.{all_flat, all_join, all_map, all_then, how_many, many_joined}
use Rattle.net_fits.proofs.NamedPins.{named_driven_once}
use Rattle.net_fits.proofs.NetCounts.{nets_counted, sources_joined}
use Rattle.net_fits.proofs.NetsBelow.{at_below, first_at, nets_below_of, places_below}

record SlotParts (places : List Bit) (count : ℕ) (roots : List ClockRoot) (s : SlotUse) : Type 0 where
  bits : All (IsBelow count) (pinned.slot_bits s)
  outs : All (λ n. n < count) s.out
  clock : ComesFrom places roots s.clock

module _ (places : List Bit) (count : ℕ) (within : All (IsBelow count) places) (roots : List ClockRoot) (pins : List RawPin) where
  one_slot : (g : Group) (slot : List ℕ) (row : SlotRow) → SlotParts places count roots (slot_of places roots pins g slot row)
  unfolding slot_of
  one_slot g slot row =
      let bits = at_below places count within roots [] pins in
      let bit = first_at places count within roots [] pins in
      record {
        bits = (
          bit (slot_name slot (suffix pin.ClkEn)),
          (
            bit (slot_name slot (suffix pin.RdEn)),
            (
              bit (slot_name slot (suffix pin.RdSrst)),
              (
                bit (slot_name slot (suffix pin.RdArst)),
                all_join (IsBelow count) _ _ (bits (slot_name slot (suffix pin.Addr)))
                    (all_join (IsBelow count) _ _ (bits (slot_name slot (suffix pin.WrData)))
                    (all_join (IsBelow count) _ _ (bits (slot_name slot (suffix pin.WrEn))) (bits (slot_name slot (suffix pin.WrBe))))),
              ),
            ),
          ),
        );
        outs = nets_below_of count (bits_at places pins (slot_name slot (suffix pin.RdData))) (bits (slot_name slot (suffix pin.RdData)));
        clock = pin_clocks_come places roots pins (slot_name slot (suffix pin.Clk)) row.rising;
      }

  names_parts : (g : Group) (ns : List (List ℕ)) (rows : List SlotRow) → All (SlotParts places count roots) (names_slots places roots pins g ns rows)
  names_parts g [] rows = tt
  names_parts g (n ∷ ns) [] = tt
  names_parts g (n ∷ ns) (r ∷ rs) = (one_slot g n r, names_parts g ns rs)

  groups_parts : (gs : List Group) (rows : List SlotRow) → All (SlotParts places count roots) (groups_slots places roots pins gs rows)
  groups_parts [] rows = tt
  groups_parts (g ∷ gs) rows = all_join (SlotParts places count roots) (names_slots places roots pins g g.names rows) _ (names_parts g g.names rows) (groups_parts gs (drop (length g.names) rows))

pub ram_has_parts : (places : List Bit) (count : ℕ) (roots : List ClockRoot) (name : List ℕ) (u : RamUse) (v : Variant) (pins : List RawPin) → InOrder 0 places count → HasParts places count roots (ram_of places roots name u v pins)
unfolding ram_of
ram_has_parts places count roots name u v pins o =
    let slots = groups_slots places roots pins v.groups u.row.slots in
    let parts = groups_parts places count (places_below places count o) roots pins v.groups u.row.slots in
    record {
      bits = all_flat (IsBelow count) pinned.slot_bits slots (all_then (SlotParts places count roots) (λ s. All (IsBelow count) (pinned.slot_bits s)) slots (λ s p. p.bits) parts);
      outs = all_flat (λ n. n < count) (λ (s : SlotUse). s.out) slots (all_then (SlotParts places count roots) (λ (s : SlotUse). All (λ n. n < count) s.out) slots (λ s p. p.outs) parts);
      clocks = all_map (ComesFrom places roots) (λ (s : SlotUse). s.clock) slots (all_then (SlotParts places count roots) (λ (s : SlotUse). ComesFrom places roots s.clock) slots (λ s p. p.clock) parts);
    }

-- ---- what the slots show

module _ (net : ℕ) (places : List Bit) (roots : List ClockRoot) (pins : List RawPin) where
  -- how often the net stands at the pins of these names
  abbrev often_at : List (List ℕ) → ℕ
  often_at ns = how_many (is_this net) (bits_of places (flat_map (sources_at pins) ns))

  often_joined : (ns ms : List (List ℕ)) → often_at (ns ++ ms) ≡ often_at ns + often_at ms
  often_joined [] ms = omega arith
  often_joined (n ∷ ns) ms =
      let rest = often_joined ns ms in
      let a = sources_joined net places (sources_at pins n) (flat_map (sources_at pins) (ns ++ ms)) in
      let b = sources_joined net places (sources_at pins n) (flat_map (sources_at pins) ns) in
      omega (arith, rest, a, b)

  abbrev shown : List SlotUse → ℕ
  shown ss = how_many (nat_eq net) (flat_map (λ (s : SlotUse). s.out) ss)

  shown_joined : (ss us : List SlotUse) → shown (ss ++ us) ≡ shown ss + shown us
  shown_joined [] us = omega arith
  shown_joined (s ∷ ss) us =
      let rest = shown_joined ss us in
      let a = many_joined (nat_eq net) s.out (flat_map (λ (s : SlotUse). s.out) (ss ++ us)) in
      let b = many_joined (nat_eq net) s.out (flat_map (λ (s : SlotUse). s.out) ss) in
      omega (arith, rest, a, b)

  names_shown : (g : Group) (ns : List (List ℕ)) (rows : List SlotRow) → shown (names_slots places roots pins g ns rows) ≡ often_at (names_read ns rows)
  unfolding slot_of
  names_shown g [] rows = refl
  names_shown g (n ∷ ns) [] = refl
  names_shown g (n ∷ ns) (r ∷ rs) =
      let bits = bits_at places pins (slot_name n (suffix pin.RdData)) in
      let rest = names_shown g ns rs in
      let a = many_joined (nat_eq net) (nets_of bits) (flat_map (λ (s : SlotUse). s.out) (names_slots places roots pins g ns rs)) in
      let b = nets_counted net bits in
      let c = sources_joined net places (sources_at pins (slot_name n (suffix pin.RdData))) (flat_map (sources_at pins) (names_read ns rs)) in
      omega (arith, rest, a, b, c)

  groups_shown : (gs : List Group) (rows : List SlotRow) → shown (groups_slots places roots pins gs rows) ≡ often_at (groups_read gs rows)
  groups_shown [] rows = refl
  groups_shown (g ∷ gs) rows =
      let here = names_shown g g.names rows in
      let rest = groups_shown gs (drop (length g.names) rows) in
      let a = shown_joined (names_slots places roots pins g g.names rows) (groups_slots places roots pins gs (drop (length g.names) rows)) in
      let b = often_joined (names_read g.names rows) (groups_read gs (drop (length g.names) rows)) in
      omega (arith, here, rest, a, b)

pub ram_shows_once : (places : List Bit) (roots : List ClockRoot) (name : List ℕ) (u : RamUse) (v : Variant) (table : List PinRow) (pins : List RawPin) → FitsTable table pins
    → AreDistinct (groups_read v.groups u.row.slots) → All (λ n. DrivenOrAbsent (in_table table n)) (groups_read v.groups u.row.slots)
    → (net : ℕ) → count_by (nat_eq net) (outs_of (ram_of places roots name u v pins)) ≤ count_by (is_this net) (bits_of places (driving_sources pins))
unfolding ram_of
ram_shows_once places roots name u v table pins fits new all net =
    let once = named_driven_once places table pins (groups_read v.groups u.row.slots) fits new all net in
    let same = groups_shown net places roots pins v.groups u.row.slots in
    let left = counts_are (nat_eq net) (flat_map (λ (s : SlotUse). s.out) (groups_slots places roots pins v.groups u.row.slots)) in
    let right = counts_are (is_this net) (bits_of places (flat_map (sources_at pins) (groups_read v.groups u.row.slots))) in
    omega (arith, once, same, left, right)
