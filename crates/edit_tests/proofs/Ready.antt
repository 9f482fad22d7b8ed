-- A module without anything is ready for gates over constants, and with a gate it is ready for the next one.
use Rattle.std.proofs.Common.{◌≡◌, ℕ, zero, suc, ◌<◌, Bool, List, [], ◌∷◌, Some, sym, subst}
use Rattle.net_core.specs.declared.bits.Bit.{Bit}
use Rattle.net_core.specs.declared.bits.Bit.TheVariants.{One}
use Rattle.net_core.specs.declared.modules.Module.{Module}
use Rattle.net_core.specs.Nodes.{HasNet}
use Rattle.net_core.specs.Values.{Valuation}
use Rattle.net_edit.specs.Edits.{Editing}
use Rattle.net_edit.specs.Ranks.{BitsBelow}
use Rattle.net_gates.specs.Adds.{IsWithin, AddsBit, IsReady}
use Rattle.edit_tests.specs.Nothing.{nothing}

nothing_within : IsWithin nothing
nothing_within = record {
  nodes = record { drives = λ i p at n d. cc; needs = λ i p at n h. cc };
  inputs = λ k n at. cc;
}

one_below : (top n : ℕ) → HasNet (One ∷ []) n → n < top
one_below top n (zero, at) = cc
one_below top n (suc k, at) = cc

and_one_below : (top : ℕ) (y : Bit) → BitsBelow top (y ∷ []) → (n : ℕ) → HasNet (y ∷ One ∷ []) n → n < top
and_one_below top y below n (zero, at) = below n (zero, at)
and_one_below top y below n (suc zero, at) = cc
and_one_below top y below n (suc (suc k), at) = cc

and_ones_below : (top : ℕ) (y : Bit) → BitsBelow top (y ∷ One ∷ []) → (n : ℕ) → HasNet (y ∷ One ∷ One ∷ []) n → n < top
and_ones_below top y below n (zero, at) = below n (zero, at)
and_ones_below top y below n (suc zero, at) = cc
and_ones_below top y below n (suc (suc zero), at) = cc
and_ones_below top y below n (suc (suc (suc k)), at) = cc

pub nothing_ready : (e : Editing) → e.netlist ≡ nothing → IsReady e (One ∷ [])
nothing_ready e is = record {
  within = subst IsWithin (sym is) nothing_within;
  below = one_below e.netlist.nets;
}

pub next_ready : (old new : Editing) (from : List Bit) (y : Bit) (f : Valuation → Bool) → AddsBit old new from y f → IsReady new (y ∷ One ∷ [])
next_ready old new from y f adds = record {
  within = adds.extends.within;
  below = and_one_below new.netlist.nets y adds.extends.below;
}

pub chosen_ready : (e : Editing) (y : Bit) → IsReady e (y ∷ One ∷ []) → IsReady e (y ∷ One ∷ One ∷ [])
chosen_ready e y ready = record { within = ready.within; below = and_ones_below e.netlist.nets y ready.below }
