use Rattle.std.proofs.Common.{List, subst, arith}
use Rattle.ram_step.specs.Moments.{valuation}
use Rattle.sim_settle.specs.declared.places.NodePlace.{NodePlace}
use Rattle.sim_settle.specs.Working.{Worked}
use Rattle.sim_settle.proofs.Settling.{settles}
use Rattle.cycle_sim.proofs.Counts.{variants_agree}
use Rattle.cycle_sim.proofs.settling.settle.Goals as goal

pub work_all-requires-clause-picks : goal.work_all-requires-clause-picks
work_all-requires-clause-picks c = λ at p hp. let le = c.requires.schedule.width at p hp in omega (arith, le, c.requires.picks)

pub work_all-requires-clause-shown : goal.work_all-requires-clause-shown
work_all-requires-clause-shown c = λ at p hp. let le = c.requires.schedule.width at p hp in omega (arith, le, c.requires.shown)

pub returns : goal.returns
returns c = λ lib can state.
    let m = c.args.«module».now in
    let look = c.args.state.now in
    let first = valuation c.begin.new.values in
    let last = valuation c.work_all.new.values in
    let P : List NodePlace → Type 0 = λ l. Worked m c.args.seed c.args.number look l first last in
    settles lib m c.requires.driven can.reads_agree c.args.seed c.args.number c.args.event.now look (variants_agree lib m look can state) c.args.schedule.now.work c.requires.schedule.order first last c.begin.ensures (subst P c.as_slice.ensures c.work_all.ensures)
