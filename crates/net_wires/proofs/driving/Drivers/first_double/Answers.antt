use Rattle.std.proofs.Common.{List, ℕ, subst}
use Rattle.net_wires.specs.Counting.{IsFirstAboveOne}
use Rattle.net_wires.proofs.Tallying.{first_is}
use Rattle.net_wires.proofs.driving.Drivers.first_double.Goals as goal

pub returns : goal.returns
returns c = λ n driven t. first_is n driven c.args.self.now c.first_double.result t (subst (λ (xs : List ℕ). IsFirstAboveOne xs c.first_double.result) c.as_slice.ensures.value c.first_double.ensures)
