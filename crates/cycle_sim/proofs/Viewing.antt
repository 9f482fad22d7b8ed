-- What the parts of a simulation say of what contracts see of it.
use Rattle.std.proofs.Common.{◌≡◌, ℕ, ◌<◌, Bool, true, false, List, length, get_or, Option, Some, sym, ap, subst, ◌∙◌}
use Rattle.std.specs.Prelude.{is_some, IsSome}
use Rattle.std.proofs.lemmas.Option.{same_Some}
use Rattle.net_core.specs.declared.bits.Event.{Event}
use Rattle.net_core.specs.Values.{bit_at}
use Rattle.sim_settle.proofs.Writing.{bit_at_is}
use Rattle.cycle_sim.proofs.Placed.{same_read}
use Rattle.cycle_sim.specs.Views.{SimView, settled_values, with_values, stepped_view, HasSettled, SettledWith, ShowsInputs}

pub values_are : (settled : Bool) (items values : List Bool) → settled_values settled items ≡ Some values → items ≡ values
values_are true items values h = same_Some items values h
values_are false items values h = cc

-- the settled values of a view that differs from an earlier one in them alone
pub settled_like : (old now : SimView) (e : Event) (values : List Bool) → now ≡ with_values old now.values → SettledWith now e values → SettledWith old e values
settled_like old now e values same h =
    let P : SimView → Type 0 = λ z. SettledWith z e values in
    subst P same h

pub stepped_like : (old now next : SimView) (e : Event) (values : List Bool) → now ≡ with_values old now.values → next ≡ stepped_view now e values → next ≡ stepped_view old e values
stepped_like old now next e values same h = h ∙ ap (λ z. stepped_view z e values) same

pub shows_inputs : (s : SimView) (e : Event) → HasSettled s e → ShowsInputs s e
shows_inputs s e (values, is, settled) = (values, is, λ k n b hk hb. settled.inputs k n b hk hb)

pub output_is : (items values : List Bool) (i : ℕ) (x : Bool) → i < length items → x ≡ get_or items i x → items ≡ values → x ≡ bit_at values i
output_is items values i x lt is same = is ∙ same_read items i x false lt ∙ sym (bit_at_is items i) ∙ ap (λ l. bit_at l i) same

pub nets_like : (old now : SimView) → now ≡ with_values old now.values → now.unit.nets ≡ old.unit.nets
nets_like old now same = ap (λ (s : SimView). s.unit.nets) same

pub steps_like : (old now : SimView) → now ≡ with_values old now.values → now.steps ≡ old.steps
steps_like old now same = ap (λ (s : SimView). s.steps) same

pub is_there : (o : Option (List Bool)) (values : List Bool) → o ≡ Some values → IsSome o
is_there o values e = ap is_some e
