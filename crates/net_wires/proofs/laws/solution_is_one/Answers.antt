use Rattle.std.proofs.Common.{sym, ◌∙◌}
use Rattle.net_wires.specs.Links.{links_of}
use Rattle.net_wires.proofs.Ready.{length_links, links_own, links_within}
use Rattle.net_wires.proofs.Unique.{one_solution}
use Rattle.net_wires.proofs.laws.solution_is_one.Goals as goal

pub returns : goal.returns
returns c = λ n ps a b k l w none la lb sa oa sb ob.
    one_solution (links_of n ps) a b k l (links_own n ps) (links_within n ps w) none (la ∙ sym (length_links n ps)) (lb ∙ sym (length_links n ps)) sa oa sb ob
