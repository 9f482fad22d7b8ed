use Rattle.std.proofs.Common.{◌≡◌, ◌<◌, ◌^◌, arith, rules, subst, List}
use Rattle.std.specs.Prelude.{IfOk}
use Rattle.lib_core.specs.declared.library.Tri.{Tri}
use Rattle.ram_step.proofs.Starting.{cut_rows, whole_rows}
use Rattle.ram_step.proofs.starts.given_rows.Goals as goal

pub new-requires : goal.new-requires
new-requires g c =
    let few : g.row.LIMBS < 2 ^ 26 = omega (arith, c.requires.few_limbs) in
    (search rules, (c.requires.some_bits, (c.requires.bits, (c.requires.few_limbs, whole_rows c.args.init.now c.args.width c.args.words c.requires.whole))))

pub returns : goal.returns
returns g c = subst (λ (z : List (List Tri)). IfOk c.new.result (λ rows. rows ≡ z)) (cut_rows c.args.init.now c.args.width c.args.words c.requires.some_bits c.requires.whole) c.new.ensures
