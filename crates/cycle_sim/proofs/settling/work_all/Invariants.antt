use Rattle.std.proofs.Common.{◌≡◌, length, drop}
use Rattle.net_core.specs.Values.{Valuation}
use Rattle.ram_step.specs.Moments.{valuation}
use Rattle.sim_settle.specs.Working.{Worked}
use Rattle.cycle_sim.proofs.settling.work_all.Given as goal

abbrev pub invariant-loop-at : goal.invariant-loop-at
invariant-loop-at l =
    (length l.values ≡ length l.initial.values)
    × (length l.picks ≡ length l.initial.picks)
    × (length l.shown ≡ length l.initial.shown)
    × ((w : Valuation) → Worked l.«module» l.seed l.number l.state (drop l.at-index l.work) (valuation l.values) w → Worked l.«module» l.seed l.number l.state l.work (valuation l.initial.values) w)
