use Rattle.std.proofs.Common.{rules, ◌≡◌, ◌∙◌, subst}
use Rattle.net_module.proofs.Joined.{memories_are}
use Rattle.net_module.proofs.assembly.assemble.Goals as goal

pub returns : goal.returns
returns c = record {
  starts = c.in_ok-wires.starts;
  are_starts = search rules;
  is = search rules;
  nodes = search rules;
  owners = search rules;
}
