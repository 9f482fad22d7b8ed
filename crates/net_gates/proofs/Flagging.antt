-- A register, and a choice by what it shows.
use Rattle.std.proofs.Common.{◌≡◌, ℕ, zero, suc, ◌+◌, ◌<◌, ◌≤◌, List, [], ◌∷◌, ◌++◌, length, get_or, Some, sym, ap, ◌∙◌, subst, arith}
use Rattle.std.specs.Prelude.{slice_get}
use Rattle.net_core.specs.declared.bits.Bit.{Bit}
use Rattle.net_core.specs.declared.bits.Bit.TheVariants.{Zero, Net}
use Rattle.net_core.specs.declared.modules.Module.{Module}
use Rattle.net_core.specs.Values.{Agrees}
use Rattle.net_edit.specs.declared.fault.EditFault.{EditFault}
use Rattle.net_edit.specs.declared.fault.EditFault.TheVariants.{Full, Memory}
use Rattle.net_edit.specs.Edits.{Editing, bits_from, IsOver, IsOverBy}
use Rattle.net_edit.specs.Ranks.{height, BitsBelow}
use Rattle.net_edit.proofs.Heights.{height_joined}
use Rattle.net_gates.specs.declared.flags.FlagPins.{FlagPins}
use Rattle.net_gates.specs.declared.registers.RegPins.{RegPins}
use Rattle.net_gates.specs.Adds.{Grows, Adds, IsReady}
use Rattle.net_gates.specs.Flags.{flag_pins, AddsFlag}
use Rattle.net_gates.specs.Meanings.{either_list}
use Rattle.net_gates.specs.Registers.{after, Remembers, AddsRegister}
use Rattle.net_gates.proofs.Composing.{below_joined, below_more, extensions_compose, extends_as}
use Rattle.net_gates.proofs.Growing.{inputs_same, run_before}

-- a register remembers in a module that has more logic
pub remembers_still : (old new : Module) (p : RegPins) (nets : List ℕ) → Grows old new → Remembers old p nets → Remembers new p nets
remembers_still old new p nets g r = record {
  starts = λ lib events v run e at. r.starts lib events v (run_before old new g lib events v run) e at;
  steps = λ lib events v run t e next at then k q d there here.
      subst (λ ins. Agrees (after ins p e (v t) k q d) (v (suc t) q)) (sym (inputs_same old new g)) (r.steps lib events v (run_before old new g lib events v run) t e next at then k q d there here);
}

module _ (old : Editing) (flag : FlagPins) (low high : List Bit) (ready : IsReady old (flag.en ∷ flag.set ∷ low ++ high)) where
  below_lists : BitsBelow old.netlist.nets (low ++ high)
  below_lists n (k, at) = ready.below n (suc (suc k), at)

  pub register_ready : IsReady old (flag.en ∷ Zero ∷ flag.set ∷ [])
  register_ready = record { within = ready.within; below = λ n (k, at). one k n at }
    where
      one : (k n : ℕ) → slice_get (flag.en ∷ Zero ∷ flag.set ∷ []) k ≡ Some (Net n) → n < old.netlist.nets
      one zero n at = ready.below n (0, at)
      one (suc zero) n at = cc
      one (suc (suc zero)) n at = ready.below n (1, at)
      one (suc (suc (suc k))) n at = cc

  module _ (mid new : Editing) (ys : List Bit) (one : AddsRegister old mid (flag_pins flag)) where
    pub mux_ready : (select : Bit) → select ≡ Net old.netlist.nets → IsReady mid (low ++ high ++ select ∷ [])
    mux_ready select e = record {
      within = one.extends.within;
      below = below_joined mid.netlist.nets (low ++ high) (select ∷ [])
          (below_more old.netlist.nets mid.netlist.nets (low ++ high) one.extends.grows.nets below_lists)
          (subst (λ z. BitsBelow mid.netlist.nets (z ∷ [])) (sym e) one.extends.below);
    }

    pub flag_added : (select : Bit) → select ≡ Net old.netlist.nets → Adds mid new (low ++ high ++ select ∷ []) ys (either_list select low high) → AddsFlag old new flag low high ys
    flag_added select e two =
        let n = old.netlist.nets in
        let chosen : Adds mid new (low ++ high ++ Net n ∷ []) ys (either_list (Net n) low high) = subst (λ z. Adds mid new (low ++ high ++ z ∷ []) ys (either_list z low high)) e two in
        let turned : (rank : ℕ → ℕ) → height rank (low ++ high ++ Net n ∷ []) ≤ height rank ((Net n ∷ []) ++ (low ++ high)) = λ rank. omega (arith, height_joined rank (low ++ high) (Net n ∷ []), height_joined rank (Net n ∷ []) (low ++ high)) in
        record {
          net = n;
          extends = extensions_compose old mid new [] (Net n ∷ []) (low ++ high) ys one.extends (extends_as mid new (low ++ high ++ Net n ∷ []) ((Net n ∷ []) ++ (low ++ high)) ys chosen.extends turned) below_lists;
          remembers = remembers_still mid.netlist new.netlist (flag_pins flag) (n ∷ []) chosen.extends.grows one.remembers;
          means = chosen.means;
        }

-- the bit that a register of one bit shows
pub select_is : (n : ℕ) (now shown : List Bit) (pins : RegPins) (flag : FlagPins) → now ≡ shown → shown ≡ bits_from n (length pins.d) → pins ≡ flag_pins flag → get_or now 0 Zero ≡ Net n
select_is n now shown pins flag a b c = ap (λ l. get_or l 0 Zero) (a ∙ b ∙ ap (λ (p : RegPins). bits_from n (length p.d)) c)

-- no room behind the flag is no room for both
pub over_flag : (f : EditFault) (old mid len : ℕ) (p : RegPins) (flag : FlagPins) → p ≡ flag_pins flag → mid ≡ old + length p.d → IsOver (mid + len) f → IsOverBy (old + (1 + len)) f
over_flag (Full seen) old mid len p flag e more over =
    let one : length p.d ≡ 1 = ap (λ (q : RegPins). length q.d) e in
    (omega (arith, over.0, over.1), omega (arith, over.1, more, one))
over_flag Memory old mid len p flag e more over = over
