-- What an edit is where a gate was refused.
use Rattle.std.proofs.Common.{◌≡◌, OnErr, ℕ, inl, inr, [], refl, sym, subst, arith, append-nil}
use Rattle.std.specs.Prelude.{Result, Ok, Err}
use Rattle.std.proofs.lemmas.Option.{none-some}
use Rattle.net_core.specs.declared.modules.Module.{Module}
use Rattle.net_edit.specs.declared.fault.EditFault.{EditFault}
use Rattle.net_edit.specs.declared.fault.EditFault.TheVariants.{Full, Memory}
use Rattle.net_edit.specs.Edits.{Editing, with_nets, with_fresh}
use Rattle.net_gates.specs.Adds.{Grows}
use Rattle.net_gates.specs.Cells.{IsLeft}
use Rattle.net_gates.proofs.Growing.{grows_on}

-- nothing was added yet
pub left_as_was : (old new : Editing) (width : ℕ) → new ≡ old → IsLeft old new width Memory
left_as_was old new width e = inl e

-- new nets alone were added
pub left_with_nets : (old new : Editing) (width : ℕ) → new ≡ with_fresh old width → IsLeft old new width Memory
left_with_nets old new width e = inr e

-- new nets were refused
pub left_at_once : (f : EditFault) (old new : Editing) (width : ℕ) → new ≡ old → IsLeft old new width f
left_at_once (Full seen) old new width e = e
left_at_once Memory old new width e = inl e

grows_by_nets : (m : Module) (count : ℕ) → Grows m (with_nets m count)
grows_by_nets m count = record {
  more_combs = [];
  more_regs = [];
  combs = sym (append-nil m.combs);
  regs = sym (append-nil m.regs);
  clocks = λ i r at. absurd (none-some r at);
  nets = omega arith;
  name = refl;
  attrs = refl;
  wires = refl;
  declared = refl;
  parts = refl;
  mems = refl;
  rams = refl;
  carried = refl;
}

grows_itself : (m : Module) → Grows m m
grows_itself m = record {
  more_combs = [];
  more_regs = [];
  combs = sym (append-nil m.combs);
  regs = sym (append-nil m.regs);
  clocks = λ i r at. absurd (none-some r at);
  nets = omega arith;
  name = refl;
  attrs = refl;
  wires = refl;
  declared = refl;
  parts = refl;
  mems = refl;
  rams = refl;
  carried = refl;
}

-- an edit that keeps all
pub grows_same : (old new : Editing) → new ≡ old → Grows old.netlist new.netlist
grows_same old new e = subst (λ (x : Editing). Grows old.netlist x.netlist) (sym e) (grows_itself old.netlist)

-- a refused gate loses nothing
pub left_grows : (f : EditFault) (old new : Editing) (width : ℕ) → IsLeft old new width f → Grows old.netlist new.netlist
left_grows (Full seen) old new width e = grows_same old new e
left_grows Memory old new width h = elim h [
  | inl e ↦ grows_same old new e
  | inr e ↦ subst (λ (x : Editing). Grows old.netlist x.netlist) (sym e) (grows_by_nets old.netlist width)
]

-- nor one behind others
pub left_behind : (f : EditFault) (old mid new : Editing) (width : ℕ) → Grows old.netlist mid.netlist → IsLeft mid new width f → Grows old.netlist new.netlist
left_behind f old mid new width g left = grows_on old.netlist mid.netlist new.netlist g (left_grows f mid new width left)

-- where the answer is a refusal, what holds anyway holds
pub on_any : {A E : Type 0} {P : Type 0} (r : Result A E) → P → OnErr r P
on_any (Ok x) p = tt
on_any (Err e) p = p
