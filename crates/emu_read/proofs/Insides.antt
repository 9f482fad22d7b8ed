-- Nets of a valid module that stand among no inout bits.
use Rattle.std.proofs.Common.{◌≡◌, ℕ, suc, ◌+◌, ◌^◌, ◌<◌, ◌≤◌, inl, inr, Bool, true, false, cond, List, [], ◌∷◌, ◌++◌, map, length, Some, refl, sym, ap, subst, arith, length-append}
use Rattle.std.specs.Prelude.{slice_get, filter}
use Rattle.std.specs.List.{flat_map}
use Rattle.std.proofs.lemmas.List.{length-map}
use Rattle.lib_core.specs.declared.library.Library.{Library}
use Rattle.net_core.specs.declared.bits.Bit.{Bit}
use Rattle.net_core.specs.declared.bits.Bit.TheVariants.{Net}
use Rattle.net_core.specs.declared.bits.Clock.{Clock}
use Rattle.net_core.specs.declared.bits.Clock.TheVariants.{Root, Never}
use Rattle.net_core.specs.declared.cells.Pin.{Pin}
use Rattle.net_core.specs.declared.cells.Reg.{Reg}
use Rattle.net_core.specs.declared.mems.Mem.{Mem}
use Rattle.net_core.specs.declared.mems.RdPort.{RdPort}
use Rattle.net_core.specs.declared.mems.WrPort.{WrPort}
use Rattle.net_core.specs.declared.modules.MemPart.{MemPart}
use Rattle.net_core.specs.declared.modules.Module.{Module}
use Rattle.net_core.specs.declared.modules.Wire.{Wire}
use Rattle.net_core.specs.Nodes.{Node, comb_node, reg_node, read_node, mem_nodes, ram_nodes, nodes_of, HasNet, Drives}
use Rattle.net_core.specs.Pins.{comb_bits, reg_bits, read_bits, write_bits, mem_bits, ram_bits, carried_bits, inner_bits, all_bits}
use Rattle.net_core.specs.Ports.{Interface, is_inout, wire_bits, bits_of_pins, is_inout_pin, inout_pin_bits, inout_bits, read_clock, mem_clocks, ram_clocks, clocks_of}
use Rattle.net_core.specs.Valid.{IsValid}
use Rattle.net_core.proofs.Basics.{get_below}
use Rattle.net_core.proofs.Counting.{valid_nodes}
use Rattle.net_core.proofs.Ordering.{read_place}
use Rattle.net_edit.specs.Edits.{with_nets, with_reg}
use Rattle.net_edit.specs.Laws.{IsUndriven, IsKnownClock}
use Rattle.net_edit.proofs.Adding.{reg_nodes}
use Rattle.net_edit.proofs.Lists.{Has, has_left, has_right, has_either, has_first, flat_has, has_flat, has_map}
use Rattle.rewriting.specs.Reads.{IsRead}
use Rattle.emu_read.specs.Joining.{IsInside}
use Rattle.emu_read.proofs.Joined.{inout_wires, inout_pins}

filter_has : {X : Type 0} (p : X → Bool) (xs : List X) (y : X) → Has (filter p xs) y → Has xs y
filter_has p [] y h = h
filter_has p (x ∷ xs) y h =
    let P : Bool → Type 0 = λ b. Has (cond b (x ∷ filter p xs) (filter p xs)) y → Has (x ∷ xs) y in
    let f : P (p x) = elim (p x) as P [
      | true ↦ λ g. elim (has_first x y (filter p xs) g) [ inl e ↦ (0, ap Some e) | inr q ↦ let (k, at) = filter_has p xs y q in (suc k, at) ]
      | false ↦ λ g. let (k, at) = filter_has p xs y g in (suc k, at)
    ] in
    f h

pin_has : (p : Pin → Bool) (pins : List Pin) (b : Bit) → Has (bits_of_pins (filter p pins)) b → Has (bits_of_pins pins) b
pin_has p pins b h = let (q, at, inside) = flat_has (λ (r : Pin). r.bits) (filter p pins) b h in has_flat (λ (r : Pin). r.bits) pins q b (filter_has p pins q at) inside

-- inout bits are bits of the module
inout_there : (modules : List Interface) (m : Module) (n : ℕ) → HasNet (inout_bits modules m) n → HasNet (all_bits m) n
inout_there modules m n h =
    let rest = flat_map carried_bits m.carried ++ inner_bits m in
    elim (has_either (inout_wires m) (inout_pins modules m) (Net n) h) [
      | inl a ↦
          let (w, at, inside) = flat_has (λ (w : Wire). w.bits) (filter is_inout m.wires) (Net n) a in
          has_left (wire_bits m.wires) rest (Net n) (has_flat (λ (w : Wire). w.bits) m.wires w (Net n) (filter_has is_inout m.wires w at) inside)
      | inr a ↦
          let (y, at, inside) = flat_has (inout_pin_bits modules) m.carried (Net n) a in
          has_right (wire_bits m.wires) rest (Net n) (has_left (flat_map carried_bits m.carried) (inner_bits m) (Net n) (has_flat carried_bits m.carried y (Net n) at (pin_has (λ p. is_inout_pin modules y.kind p.name) y.pins (Net n) inside)))
    ]

module _ (lib : Library) (modules : List Interface) (m : Module) (valid : IsValid lib modules m) where
  -- what a cell reads
  pub inner_inside : (n : ℕ) → HasNet (inner_bits m) n → IsInside modules m n
  inner_inside n h = record {
    below = valid.nets n (has_right (wire_bits m.wires) (flat_map carried_bits m.carried ++ inner_bits m) (Net n) (has_right (flat_map carried_bits m.carried) (inner_bits m) (Net n) h));
    apart = λ g. elim (has_either (inout_wires m) (inout_pins modules m) (Net n) g) [ inl a ↦ valid.inouts.wires_inside n a h | inr a ↦ valid.inouts.pins_inside n a h ];
  }

  -- what a node drives
  pub driven_inside : (l : ℕ) (s : Node) → slice_get (nodes_of m) l ≡ Some s → (n : ℕ) → Drives s n → IsInside modules m n
  driven_inside l s at n d = record {
    below = valid.driven_nets l s at n d;
    apart = λ g. elim (has_either (inout_wires m) (inout_pins modules m) (Net n) g) [ inl a ↦ valid.inouts.undriven_wires n l s a at d | inr a ↦ valid.inouts.undriven_pins n l s a at d ];
  }

  -- a new net
  pub new_inside : (count n : ℕ) → m.nets ≤ n → n < m.nets + count → IsInside modules (with_nets m count) n
  new_inside count n low high = record { below = high; apart = λ g. let l = valid.nets n (inout_there modules m n g) in omega (arith, l, low) }

  module _ (k j : ℕ) (x : Mem) (p : RdPort) (is : IsRead m k j x p) where
    pub port_inside : (n : ℕ) → HasNet (read_bits p) n → IsInside modules m n
    port_inside n h =
        let in_mem = has_left (flat_map read_bits x.reads) (flat_map write_bits x.writes) (Net n) (has_flat read_bits x.reads p (Net n) (j, is.read) h) in
        let rest = flat_map ram_bits m.rams ++ flat_map (λ (z : MemPart). bits_of_pins z.pins) m.parts in
        let mems = flat_map mem_bits m.mems in
        let regs = flat_map reg_bits m.regs in
        inner_inside n (has_right (flat_map comb_bits m.combs) (regs ++ (mems ++ rest)) (Net n) (has_right regs (mems ++ rest) (Net n) (has_left mems rest (Net n) (has_flat mem_bits m.mems x (Net n) (k, is.mem) in_mem))))

    pub out_inside : (n : ℕ) → Has p.out n → IsInside modules m n
    out_inside n h = let (l, at) = read_place m k x is.mem j p is.read in driven_inside l (read_node p) at n h

    reads_some : 0 < length (flat_map mem_nodes m.mems)
    reads_some =
        let (l, at) = has_flat mem_nodes m.mems x (read_node p) (k, is.mem) (has_map read_node x.reads p (j, is.read)) in
        let few = get_below (flat_map mem_nodes m.mems) l (read_node p) at in
        omega (arith, few)

    nodes_counted : length (nodes_of m) ≡ length m.combs + (length m.regs + (length (flat_map mem_nodes m.mems) + length (flat_map ram_nodes m.rams)))
    nodes_counted =
        let reads = flat_map mem_nodes m.mems in
        let slots = flat_map ram_nodes m.rams in
        let a = length-append (map comb_node m.combs) (map reg_node m.regs ++ (reads ++ slots)) in
        let b = length-append (map reg_node m.regs) (reads ++ slots) in
        let c = length-append reads slots in
        let d = length-map m.combs comb_node in
        let e = length-map m.regs reg_node in
        omega (arith, a, b, c, d, e)

    -- there is room for the number of one more cell
    pub comb_counted : length m.combs + 1 < 2 ^ 32
    comb_counted = let few = (valid_nodes lib modules m valid).0 in let all = nodes_counted in let some = reads_some in omega (arith, few, all, some)

    pub reg_counted : length m.regs + 1 < 2 ^ 32
    reg_counted = let few = (valid_nodes lib modules m valid).0 in let all = nodes_counted in let some = reads_some in omega (arith, few, all, some)

-- the clock of a read is one of the module's
pub port_clock : (m : Module) (k j : ℕ) (x : Mem) (p : RdPort) (c : Clock) → IsRead m k j x p → p.clock ≡ Some c → Has (clocks_of m) c
port_clock m k j x p c is e =
    let one : Has (read_clock p.clock) c = subst (λ o. Has (read_clock o) c) (sym e) (0, refl) in
    let in_mem = has_left (flat_map (λ (r : RdPort). read_clock r.clock) x.reads) (map (λ (w : WrPort). w.clock) x.writes) c (has_flat (λ (r : RdPort). read_clock r.clock) x.reads p c (j, is.read) one) in
    let mems = flat_map mem_clocks m.mems in
    let rams = flat_map ram_clocks m.rams in
    has_right (map (λ (r : Reg). r.clock) m.regs) (mems ++ rams) c (has_left mems rams c (has_flat mem_clocks m.mems x c (k, is.mem) in_mem))

pub clock_known : (m : Module) (c : Clock) → Has (clocks_of m) c → IsKnownClock m c
clock_known m Never h = tt
clock_known m (Root net rising) (k, at) = (k, rising, at)

-- a net stays undriven beside a register
pub reg_undriven : (m : Module) (r : Reg) (n : ℕ) → IsUndriven m n → (Has r.q n → ⊥) → IsUndriven (with_reg m r) n
reg_undriven m r n free off = record { inputs = free.inputs; nodes = reg_nodes m r (λ s. Drives s n → ⊥) free.nodes off }
