use Rattle.net_wires.specs.Numbers.{is_zero, is_one, is_net}
use Rattle.net_wires.proofs.number.bit_at.Goals as goal

pub returns-in-Zero-clause-joined : goal.returns-in-Zero-clause-joined
returns-in-Zero-clause-joined c = λ seen t e. rw c.in-Zero.is (t, e, is_zero)

pub returns-in-One-clause-joined : goal.returns-in-One-clause-joined
returns-in-One-clause-joined c = λ seen t e. rw c.in-One.is (t, e, is_one)

pub returns-in-End-clause-joined : goal.returns-in-End-clause-joined
returns-in-End-clause-joined c = λ seen t e.
    let j = c.number_of.ensures.joined seen t e in
    rw c.in-End.is (j.0, j.1, is_net c.in-End.at c.number_of.result j.2)
