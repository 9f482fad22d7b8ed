use Rattle.std.proofs.Common.{◌≤◌, ◌-◌, ◌^◌, sym, subst, arith}
use Rattle.net_core.proofs.Numbers.{width_at_is}
use Rattle.ram_step.proofs.Starting.{few_rows}
use Rattle.ram_step.proofs.starts.last_level.Goals as goal

pub returns-clause-width : goal.returns-clause-width
returns-clause-width g c = sym (width_at_is c.args.geometry.now.widths (g.row.LEVELS - 1))

pub returns-clause-some_bits : goal.returns-clause-some_bits
returns-clause-some_bits g c = subst (λ n. 1 ≤ n) (width_at_is c.args.geometry.now.widths (g.row.LEVELS - 1)) (c.requires.sized.some_bits (g.row.LEVELS - 1) (omega (arith, c.requires.some_levels, c.requires.levels)))

pub returns-clause-few_bits : goal.returns-clause-few_bits
returns-clause-few_bits g c = subst (λ n. n ≤ 1024) (width_at_is c.args.geometry.now.widths (g.row.LEVELS - 1)) (c.requires.sized.few_bits (g.row.LEVELS - 1) (omega (arith, c.requires.some_levels, c.requires.levels)))

pub returns-clause-few_words : goal.returns-clause-few_words
returns-clause-few_words g c = subst (λ n. n ≤ 2 ^ 20) (sym c.rows_of.ensures) (few_rows c.args.geometry.now.abits (g.row.LEVELS - 1) c.requires.abits)
