use Rattle.std.proofs.Common.{◌∙◌, subst}
use Rattle.net_module.specs.Bodies.{AreOf}
use Rattle.net_module.specs.Made.{wiring}
use Rattle.net_module.proofs.Joined.{joined_is}
use Rattle.net_module.proofs.assembly.put_together.Goals as goal

pub returns-clause-module : goal.returns-clause-module
returns-clause-module c d e =
    c.joined.ensures ∙ joined_is (wiring c.args.around.now) c.args.nets d c.args.cells.now c.args.shell c.in_ok-bodies.bodies e (subst (λ xs. AreOf xs c.in_ok-bodies.bodies) c.in_ok-made.ensures.cells c.in_ok-bodies.ensures)
