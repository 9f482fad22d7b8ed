-- Counts of the places where a net stands.
use Rattle.std.proofs.Common.{◌≡◌, ℕ, ◌+◌, ◌^◌, ◌<◌, cond, List, [], ◌∷◌, ◌++◌, length, ap, ◌∙◌, zero-add, arith}
use Rattle.std.specs.List.{flat_map}
use Rattle.std.proofs.lemmas.List.Sums.{sum_by-append}
use Rattle.net_core.specs.declared.bits.Bit.{Bit}
use Rattle.net_core.specs.declared.cells.Comb.{Comb}
use Rattle.net_core.specs.declared.cells.Reg.{Reg}
use Rattle.net_core.specs.declared.cells.Carried.{Carried}
use Rattle.net_core.specs.declared.mems.Mem.{Mem}
use Rattle.net_core.specs.declared.rams.RamCell.{RamCell}
use Rattle.net_core.specs.declared.modules.MemPart.{MemPart}
use Rattle.net_core.specs.declared.modules.Module.{Module}
use Rattle.net_core.specs.declared.modules.Wire.{Wire}
use Rattle.net_core.specs.Pins.{comb_bits, reg_bits, mem_bits, ram_bits}
use Rattle.net_edit.specs.Users.{carried_reads, part_reads, output_bits, is_net_of, uses_in, capped, users_of}

pub uses_joined : (net : ℕ) (xs ys : List Bit) → uses_in net (xs ++ ys) ≡ uses_in net xs + uses_in net ys
uses_joined net xs ys = sum_by-append (λ b. cond (is_net_of net b) 1 0) xs ys

-- the end of a loop over the parts of a module
pub ended : {X : Type 0} (f : X → List Bit) (net count whole : ℕ) (rest : List X) → length rest < 1 → count < 2 ^ 64 → capped (count + uses_in net (flat_map f rest)) ≡ whole → count ≡ whole
ended f net count whole [] none low is = capped_end count whole low is
  where
    capped_end : (count whole : ℕ) → count < 2 ^ 64 → capped (count + 0) ≡ whole → count ≡ whole
    capped_end count whole low is = omega (arith, low, is)
ended f net count whole (x ∷ rest) none low is = absurd (omega (arith, none))

-- a count of some bits, and then of those behind them
then : (net count next after : ℕ) (xs ys : List Bit) → next ≡ capped (count + uses_in net xs) → after ≡ capped (next + uses_in net ys) → after ≡ capped (count + uses_in net (xs ++ ys))
then net count next after xs ys e f = let j = uses_joined net xs ys in omega (arith, e, f, j)

-- the counts of all parts of a module, part by part
pub module_counted : (m : Module) (net : ℕ) (combs : List Comb) (regs : List Reg) (mems : List Mem) (rams : List RamCell) (carried : List Carried) (parts : List MemPart) (wires : List Wire) (n1 n2 n3 n4 n5 n6 n7 : ℕ)
    → combs ≡ m.combs → regs ≡ m.regs → mems ≡ m.mems → rams ≡ m.rams → carried ≡ m.carried → parts ≡ m.parts → wires ≡ m.wires
    → n1 ≡ capped (0 + uses_in net (flat_map comb_bits combs)) → n2 ≡ capped (n1 + uses_in net (flat_map reg_bits regs)) → n3 ≡ capped (n2 + uses_in net (flat_map mem_bits mems)) → n4 ≡ capped (n3 + uses_in net (flat_map ram_bits rams)) → n5 ≡ capped (n4 + uses_in net (flat_map carried_reads carried)) → n6 ≡ capped (n5 + uses_in net (flat_map part_reads parts)) → n7 ≡ capped (n6 + uses_in net (flat_map output_bits wires))
    → n7 ≡ capped (users_of m net)
module_counted m net combs regs mems rams carried parts wires n1 n2 n3 n4 n5 n6 n7 ec er em eu ed ep ew e1 e2 e3 e4 e5 e6 e7 =
    let c : List Bit = flat_map comb_bits combs in
    let r : List Bit = flat_map reg_bits regs in
    let x : List Bit = flat_map mem_bits mems in
    let u : List Bit = flat_map ram_bits rams in
    let d : List Bit = flat_map carried_reads carried in
    let p : List Bit = flat_map part_reads parts in
    let w : List Bit = flat_map output_bits wires in
    let t6 : n7 ≡ capped (n5 + uses_in net (p ++ w)) = then net n5 n6 n7 p w e6 e7 in
    let t5 : n7 ≡ capped (n4 + uses_in net (d ++ (p ++ w))) = then net n4 n5 n7 d (p ++ w) e5 t6 in
    let t4 : n7 ≡ capped (n3 + uses_in net (u ++ (d ++ (p ++ w)))) = then net n3 n4 n7 u (d ++ (p ++ w)) e4 t5 in
    let t3 : n7 ≡ capped (n2 + uses_in net (x ++ (u ++ (d ++ (p ++ w))))) = then net n2 n3 n7 x (u ++ (d ++ (p ++ w))) e3 t4 in
    let t2 : n7 ≡ capped (n1 + uses_in net (r ++ (x ++ (u ++ (d ++ (p ++ w)))))) = then net n1 n2 n7 r (x ++ (u ++ (d ++ (p ++ w)))) e2 t3 in
    let t1 : n7 ≡ capped (0 + uses_in net (c ++ (r ++ (x ++ (u ++ (d ++ (p ++ w))))))) = then net 0 n1 n7 c (r ++ (x ++ (u ++ (d ++ (p ++ w))))) e1 t2 in
    let z : 0 + uses_in net (c ++ (r ++ (x ++ (u ++ (d ++ (p ++ w)))))) ≡ uses_in net (c ++ (r ++ (x ++ (u ++ (d ++ (p ++ w)))))) = zero-add (uses_in net (c ++ (r ++ (x ++ (u ++ (d ++ (p ++ w))))))) in
    t1 ∙ ap capped z ∙ (λ i. capped (uses_in net (flat_map comb_bits (ec i) ++ (flat_map reg_bits (er i) ++ (flat_map mem_bits (em i) ++ (flat_map ram_bits (eu i) ++ (flat_map carried_reads (ed i) ++ (flat_map part_reads (ep i) ++ flat_map output_bits (ew i)))))))))
