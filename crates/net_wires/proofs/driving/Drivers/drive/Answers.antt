use Rattle.std.proofs.Common.{Bool, ◌||◌, ap}
use Rattle.net_wires.proofs.Tallying.{drive_tally}
use Rattle.net_wires.proofs.driving.Drivers.drive.Goals as goal

pub returns : goal.returns
returns c = λ n driven t. drive_tally n driven c.args.sources.now c.args.self.now _ c.bump_all.ensures (ap (λ (b : Bool). c.args.self.now.constant || b) c.any_constant.ensures) t
