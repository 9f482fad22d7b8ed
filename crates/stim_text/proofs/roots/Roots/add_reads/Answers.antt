use Rattle.std.proofs.Common.{refl}
use Rattle.std.specs.List.{flat_map}
use Rattle.net_core.specs.Ports.{read_clock}
use Rattle.stim_text.proofs.Rooting.{turn, done, no_clock, one_clock}
use Rattle.stim_text.proofs.roots.Roots.add_reads.Goals as goal

pub loop-rest-preserved : goal.loop-rest-preserved
loop-rest-preserved c =
    turn (λ r. read_clock r.clock) (flat_map (λ r. read_clock r.clock)) (λ x xs. refl) c.loop-rest.self c.loop-rest.self _ c.loop-rest.rest.now c.read-item.result c.in-len1-up.len_at_least c.read-item.is
    (no_clock c.loop-rest.self c.read-item.result.clock c.in_default-clock.is) c.loop-rest.invariant

pub loop-rest-preserved-in_ok-add : goal.loop-rest-preserved-in_ok-add
loop-rest-preserved-in_ok-add c =
    turn (λ r. read_clock r.clock) (flat_map (λ r. read_clock r.clock)) (λ x xs. refl) c.loop-rest.self c.add.new.self _ c.loop-rest.rest.now c.read-item.result c.in-len1-up.len_at_least c.read-item.is
    (one_clock c.loop-rest.self c.add.new.self c.read-item.result.clock c.in-Some.clock c.in-Some.is c.in_ok-add.ensures) c.loop-rest.invariant

pub returns : goal.returns
returns c = done (λ r. read_clock r.clock) (flat_map (λ r. read_clock r.clock)) (λ x xs. refl) c.loop-rest.self _ c.loop-rest.rest.now refl c.in_default.len_below c.loop-rest.invariant
