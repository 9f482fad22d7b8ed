use Rattle.std.proofs.Common.{◌∙◌, ap}
use Rattle.std.specs.Prelude.{codes}
use Rattle.cell_consts.specs.Consts.{number_attr}
use Rattle.mem_pack.specs.Lists as lists
use Rattle.mem_pack.specs.Packed as packed
use Rattle.mem_pack.proofs.Steps.{three_put}
use Rattle.mem_pack.proofs.params.push_read_clocks.Goals as goal

pub returns : goal.returns
unfolding packed.read_clock_params
returns c =
    three_put _ _ _ _ _ _ _ _ _ _ c.in_ok-push_number.ensures c.in_ok-push_flags.ensures c.in_ok-push_flags-2.ensures
    (ap (λ x. number_attr (codes "\\RD_PORTS") x) (c.in_ok-count.ensures ∙ ap lists.read_numbers c.as_slice-reads.ensures))
    (ap (λ x. packed.flags_attr (codes "\\RD_CLK_ENABLE") x) (c.in_ok-clocked.ensures ∙ ap lists.read_clocked c.as_slice-reads.ensures))
    (ap (λ x. packed.flags_attr (codes "\\RD_CLK_POLARITY") x) (c.in_ok-rising.ensures ∙ ap lists.read_rising c.as_slice-reads.ensures))
