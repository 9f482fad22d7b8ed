use Rattle.std.proofs.Common.{[], List, subst, ◌∙◌}
use Rattle.net_wires.specs.declared.source.Source.{Source}
use Rattle.net_wires.specs.Drivers.{Tally}
use Rattle.net_checks.proofs.drivers.tally.Goals as goal

pub returns : goal.returns
returns c =
    subst (λ (ds : List Source). Tally c.args.gathered.now.places ds c.drive.new.self) (c.as_slice.ensures.value ∙ c.in_ok-driven.ensures) (c.drive.ensures c.args.gathered.now.places [] c.in_ok-drivers.ensures)
