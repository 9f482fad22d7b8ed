use Rattle.std.proofs.Common.{sym, ap, ◌∙◌}
use Rattle.std.proofs.lemmas.Option.{same_Some}
use Rattle.net_core.specs.declared.cells.Comb.{Comb}
use Rattle.net_core.specs.Logic.{comb_shows}
use Rattle.ram_step.specs.Moments.{valuation}
use Rattle.picked_run.specs.States.{key_of, comb_number}
use Rattle.sim_cells.specs.Choices.{taken}
use Rattle.cycle_sim.proofs.Placed.{element_of}
use Rattle.cycle_sim.proofs.showing.show_logic.Goals as goal

pub show_comb-requires-clause-nets : goal.show_comb-requires-clause-nets
show_comb-requires-clause-nets c =
    let cell = c.index-as_slice-comb.result in
    c.requires.nets cell (element_of c.as_slice.result.now c.args.«module».now.combs c.args.comb cell c.as_slice.ensures c.requires.comb c.index-as_slice-comb.is)

pub show_comb-requires-clause-picks : goal.show_comb-requires-clause-picks
show_comb-requires-clause-picks c =
    let cell = c.index-as_slice-comb.result in
    c.requires.picks cell (element_of c.as_slice.result.now c.args.«module».now.combs c.args.comb cell c.as_slice.ensures c.requires.comb c.index-as_slice-comb.is)

pub show_comb-requires-clause-out : goal.show_comb-requires-clause-out
show_comb-requires-clause-out c =
    let cell = c.index-as_slice-comb.result in
    c.requires.out cell (element_of c.as_slice.result.now c.args.«module».now.combs c.args.comb cell c.as_slice.ensures c.requires.comb c.index-as_slice-comb.is)

pub returns : goal.returns
returns c = λ d at k lt.
    let cell = c.index-as_slice-comb.result in
    let found = element_of c.as_slice.result.now c.args.«module».now.combs c.args.comb cell c.as_slice.ensures c.requires.comb c.index-as_slice-comb.is in
    let same = same_Some cell d (sym found ∙ at) in
    c.show_comb.ensures k lt ∙ ap (λ (z : Comb). taken (key_of c.args.seed c.args.event (comb_number c.args.comb)) k (comb_shows z (valuation c.args.values.now) k)) same
