use Rattle.std.proofs.Common.{◌∙◌, ap}
use Rattle.std.specs.Prelude.{codes}
use Rattle.mem_pack.specs.Lists as lists
use Rattle.mem_pack.specs.Packed as packed
use Rattle.mem_pack.proofs.Steps.{two_put}
use Rattle.mem_pack.proofs.params.push_write_ports.Goals as goal

pub returns : goal.returns
unfolding packed.write_port_params
returns c =
    two_put _ _ _ _ _ _ _ c.in_ok-push_flags.ensures c.in_ok-push_flags-2.ensures
    (ap (λ x. packed.flags_attr (codes "\\WR_PRIORITY_MASK") x) (c.in_ok-prio.ensures ∙ ap lists.write_prio c.as_slice-writes.ensures))
    (ap (λ x. packed.flags_attr (codes "\\WR_WIDE_CONTINUATION") x) (c.in_ok-behind.ensures ∙ ap lists.write_behind c.as_slice-writes.ensures))
