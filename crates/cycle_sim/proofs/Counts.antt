-- A module that can run has few enough cells, and its state keeps the variants of its RAM cells.
use Rattle.std.proofs.Common.{◌≡◌, ℕ, zero, suc, ◌≤◌, true, List, [], ◌∷◌, ◌++◌, map, length, Option, Some, None, refl, sym, ap, ◌∙◌, arith, length-append}
use Rattle.std.specs.Prelude.{slice_get}
use Rattle.std.specs.List.{flat_map}
use Rattle.std.proofs.lemmas.Option.{same_Some}
use Rattle.lib_core.specs.declared.library.Library.{Library}
use Rattle.lib_core.specs.declared.library.Variant.{Variant}
use Rattle.net_core.specs.declared.rams.RamCell.{RamCell}
use Rattle.net_core.specs.declared.modules.Module.{Module}
use Rattle.net_core.specs.Drivers.{HasOneDriver, Input}
use Rattle.net_core.specs.Nodes.{comb_node, reg_node, read_node, mem_nodes, ram_nodes}
use Rattle.net_core.specs.Ports.{inputs_of}
use Rattle.net_core.specs.Runs.{variant_of}
use Rattle.net_core.specs.Shape.{fits_variant}
use Rattle.picked_run.specs.Conditions.{CanRun}
use Rattle.picked_run.specs.States.{SimLook}
use Rattle.sim_settle.specs.Nets.{AreApart}
use Rattle.sim_settle.specs.Places.{AreFew}
use Rattle.sim_settle.specs.Working.{VariantsAgree}
use Rattle.sim_state.specs.SimStates.{IsSimState}

length_map : {X Y : Type 0} (f : X → Y) (xs : List X) → length (map f xs) ≡ length xs
length_map f [] = refl
length_map f (x ∷ xs) = ap suc (length_map f xs)

part_below : {X Y : Type 0} (f : X → List Y) (xs : List X) (i : ℕ) (x : X) → slice_get xs i ≡ Some x → length (f x) ≤ length (flat_map f xs)
part_below f [] i x h = cc
part_below f (y ∷ ys) zero x h =
    let same = ap (λ z. length (f z)) (same_Some y x h) in
    let joined = length-append (f y) (flat_map f ys) in
    omega (arith, same, joined)
part_below f (y ∷ ys) (suc i) x h =
    let rest = part_below f ys i x h in
    let joined = length-append (f y) (flat_map f ys) in
    omega (arith, rest, joined)

pub few_cells : (lib : Library) (m : Module) → CanRun lib m → AreFew m
few_cells lib m can =
    let reads = flat_map mem_nodes m.mems in
    let slots = flat_map ram_nodes m.rams in
    let first = length-append (map comb_node m.combs) (map reg_node m.regs ++ (reads ++ slots)) in
    let second = length-append (map reg_node m.regs) (reads ++ slots) in
    let third = length-append reads slots in
    let combs = length_map comb_node m.combs in
    let regs = length_map reg_node m.regs in
    let few = can.few_nodes in
    record {
      combs = omega (arith, first, second, third, combs, regs, few);
      regs = omega (arith, first, second, third, combs, regs, few);
      mems = can.few_mems;
      rams = can.few_rams;
      reads = λ i x found.
          let part = part_below mem_nodes m.mems i x found in
          let long = length_map read_node x.reads in
          omega (arith, first, second, third, few, part, long);
      slots = λ i c found. let below = (can.rams i c found).slots in omega (arith, below);
    }

some_variant : (c : RamCell) (o : Option Variant) → fits_variant c o ≡ true → (x : Variant) × (o ≡ Some x)
some_variant c None h = cc
some_variant c (Some x) h = (x, refl)

pub variants_agree : (lib : Library) (m : Module) (s : SimLook) → CanRun lib m → IsSimState lib m s → VariantsAgree lib m s
variants_agree lib m s can state = λ i c a found held.
    let x = some_variant c (variant_of lib c) (can.rams i c found).fits in
    let w = state.variants i c x.0 found x.1 in
    let same = same_Some w.0 a (same_Some (Some w.0) (Some a) (sym w.1 ∙ held)) in
    x.1 ∙ ap Some (sym w.2) ∙ ap (λ z. Some z.variant) same

same_input : (k l : ℕ) → Input k ≡ Input l → k ≡ l
same_input k l e = cc

pub inputs_apart : (m : Module) → HasOneDriver m → AreApart (inputs_of m)
inputs_apart m d k l n hk hl = same_input k l (sym (d.inputs k n hk) ∙ d.inputs l n hl)
