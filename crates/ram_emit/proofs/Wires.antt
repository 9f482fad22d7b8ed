-- The nets of ports and inout bits are ones of wires and carried cells.
use Rattle.std.proofs.Common.{◌≡◌, ℕ, suc, ◌⊎◌, inl, inr, Bool, true, false, cond, List, [], ◌∷◌, ◌++◌, Some, ap, nat_le}
use Rattle.std.specs.Prelude.{filter}
use Rattle.std.specs.List.{flat_map}
use Rattle.net_core.specs.declared.bits.Bit.{Bit}
use Rattle.net_core.specs.declared.bits.Bit.TheVariants.{Zero as Low, One as High, Net}
use Rattle.net_core.specs.declared.cells.Pin.{Pin}
use Rattle.net_core.specs.declared.modules.Module.{Module}
use Rattle.net_core.specs.declared.modules.Wire.{Wire}
use Rattle.net_core.specs.Nodes.{HasNet}
use Rattle.net_core.specs.Pins.{carried_bits, all_bits, inner_bits}
use Rattle.net_core.specs.Ports.{Interface, is_input_wire, is_inout, insert_port, by_port, wire_bits, bits_of_pins, driving_bits, nets_of, input_bits, inputs_of, is_inout_pin, inout_pin_bits}
use Rattle.ram_emit.proofs.Placed.{Has, has_left, has_right, has_either, has_none, has_first, flat_has, has_flat}

pub filter_has : {X : Type 0} (p : X → Bool) (xs : List X) (y : X) → Has (filter p xs) y → Has xs y
filter_has p [] y h = h
filter_has p (x ∷ xs) y h =
    let P : Bool → Type 0 = λ b. Has (cond b (x ∷ filter p xs) (filter p xs)) y → Has (x ∷ xs) y in
    let f : P (p x) = elim (p x) as P [
      | true ↦ λ g. elim (has_first x y (filter p xs) g) [ inl e ↦ (0, ap Some e) | inr q ↦ let (k, at) = filter_has p xs y q in (suc k, at) ]
      | false ↦ λ g. let (k, at) = filter_has p xs y g in (suc k, at)
    ] in
    f h

insert_has : (w : Wire) (xs : List Wire) (y : Wire) → Has (insert_port w xs) y → (w ≡ y) ⊎ Has xs y
insert_has w [] y h = elim (has_first w y [] h) [ inl e ↦ inl e | inr g ↦ inr g ]
insert_has w (x ∷ xs) y h =
    let P : Bool → Type 0 = λ b. Has (cond b (w ∷ x ∷ xs) (x ∷ insert_port w xs)) y → (w ≡ y) ⊎ Has (x ∷ xs) y in
    let f : P (nat_le w.port x.port) = elim (nat_le w.port x.port) as P [
      | true ↦ λ g. has_first w y (x ∷ xs) g
      | false ↦ λ g. elim (has_first x y (insert_port w xs) g) [ inl e ↦ inr (0, ap Some e) | inr q ↦ elim (insert_has w xs y q) [ inl e ↦ inl e | inr (k, at) ↦ inr (suc k, at) ] ]
    ] in
    f h

port_has : (xs : List Wire) (y : Wire) → Has (by_port xs) y → Has xs y
port_has [] y h = h
port_has (x ∷ xs) y h = elim (insert_has x (by_port xs) y h) [ inl e ↦ (0, ap Some e) | inr g ↦ let (k, at) = port_has xs y g in (suc k, at) ]

nets_has : (bs : List Bit) (n : ℕ) → Has (nets_of bs) n → HasNet bs n
nets_has [] n h = absurd (has_none n h)
nets_has (Low ∷ bs) n h = let (k, at) = nets_has bs n h in (suc k, at)
nets_has (High ∷ bs) n h = let (k, at) = nets_has bs n h in (suc k, at)
nets_has (Net x ∷ bs) n h = elim (has_first x n (nets_of bs) h) [ inl e ↦ (0, ap (λ y. Some (Net y)) e) | inr g ↦ let (k, at) = nets_has bs n g in (suc k, at) ]

pin_has : (p : Pin → Bool) (pins : List Pin) (b : Bit) → Has (bits_of_pins (filter p pins)) b → Has (bits_of_pins pins) b
pin_has p pins b h = let (q, at, inside) = flat_has (λ (r : Pin). r.bits) (filter p pins) b h in has_flat (λ (r : Pin). r.bits) pins q b (filter_has p pins q at) inside

module _ (m : Module) where
  wire_there : (n : ℕ) → HasNet (wire_bits m.wires) n → HasNet (all_bits m) n
  wire_there n h = has_left (wire_bits m.wires) (flat_map carried_bits m.carried ++ inner_bits m) (Net n) h

  carried_there : (n : ℕ) → HasNet (flat_map carried_bits m.carried) n → HasNet (all_bits m) n
  carried_there n h = has_right (wire_bits m.wires) (flat_map carried_bits m.carried ++ inner_bits m) (Net n) (has_left (flat_map carried_bits m.carried) (inner_bits m) (Net n) h)

  pub inputs_there : (n : ℕ) → Has (inputs_of m) n → HasNet (all_bits m) n
  inputs_there n h =
      elim (has_either (wire_bits (by_port (filter is_input_wire m.wires))) (flat_map driving_bits m.carried) (Net n) (nets_has (input_bits m) n h)) [
        | inl a ↦
            let (w, at, inside) = flat_has (λ (w : Wire). w.bits) (by_port (filter is_input_wire m.wires)) (Net n) a in
            wire_there n (has_flat (λ (w : Wire). w.bits) m.wires w (Net n) (filter_has is_input_wire m.wires w (port_has (filter is_input_wire m.wires) w at)) inside)
        | inr a ↦
            let (y, at, inside) = flat_has driving_bits m.carried (Net n) a in
            carried_there n (has_flat carried_bits m.carried y (Net n) at (pin_has (λ p. p.drives) y.pins (Net n) inside))
      ]

  pub inout_there : (n : ℕ) → HasNet (wire_bits (filter is_inout m.wires)) n → HasNet (all_bits m) n
  inout_there n h =
      let (w, at, inside) = flat_has (λ (w : Wire). w.bits) (filter is_inout m.wires) (Net n) h in
      wire_there n (has_flat (λ (w : Wire). w.bits) m.wires w (Net n) (filter_has is_inout m.wires w at) inside)

  pub pins_there : (modules : List Interface) (n : ℕ) → HasNet (flat_map (inout_pin_bits modules) m.carried) n → HasNet (all_bits m) n
  pins_there modules n h =
      let (y, at, inside) = flat_has (inout_pin_bits modules) m.carried (Net n) h in
      carried_there n (has_flat carried_bits m.carried y (Net n) at (pin_has (λ p. is_inout_pin modules y.kind p.name) y.pins (Net n) inside))
