use Rattle.std.proofs.Common.{◌∙◌, ap}
use Rattle.std.specs.Prelude.{codes}
use Rattle.mem_pack.specs.Lists as lists
use Rattle.mem_pack.specs.Packed as packed
use Rattle.mem_pack.proofs.Steps.{two_put}
use Rattle.mem_pack.proofs.params.push_read_ports.Goals as goal

pub returns : goal.returns
unfolding packed.read_port_params
returns c =
    two_put _ _ _ _ _ _ _ c.in_ok-push_flags.ensures c.in_ok-push_flags-2.ensures
    (ap (λ x. packed.flags_attr (codes "\\RD_WIDE_CONTINUATION") x) (c.in_ok-behind.ensures ∙ ap lists.read_behind c.as_slice-reads.ensures))
    (ap (λ x. packed.flags_attr (codes "\\RD_CE_OVER_SRST") x) (c.in_ok-over.ensures ∙ ap lists.read_over c.as_slice-reads.ensures))
