use Rattle.std.proofs.Common.{◌≡◌, ◌*◌, ap, ◌∙◌, rules, subst, List, map, length}
use Rattle.std.specs.Prelude.{IfOk}
use Rattle.std.specs.List.{range_with_len}
use Rattle.row_store.specs.Rows.{row_cut}
use Rattle.lib_core.specs.declared.library.Tri.{Tri}
use Rattle.ram_step.proofs.Starting.{same_cut, length-replicate'}
use Rattle.ram_step.proofs.starts.same_rows.Goals as goal

pub given_rows-requires : goal.given_rows-requires
given_rows-requires g c =
    (search rules, (c.requires.some_bits, (c.requires.bits, (c.requires.few_limbs, ap length (c.as_slice.ensures.value ∙ c.in_ok-init.ensures) ∙ length-replicate' (c.args.words * c.args.width) c.args.tri))))

pub returns : goal.returns
returns g c =
    let made = ap (λ (init : List Tri). map (row_cut init c.args.width) (range_with_len 0 c.args.words)) (c.as_slice.ensures.value ∙ c.in_ok-init.ensures) ∙ same_cut c.args.width c.args.words c.args.tri in
    subst (λ (z : List (List Tri)). IfOk c.given_rows.result (λ rows. rows ≡ z)) made c.given_rows.ensures
