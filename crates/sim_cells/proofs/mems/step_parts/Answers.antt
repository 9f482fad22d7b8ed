use Rattle.std.proofs.Common.{[]}
use Rattle.ram_step.specs.Moments.{valuation}
use Rattle.sim_cells.proofs.MemStates.{words_written}
use Rattle.sim_cells.proofs.mems.step_parts.Goals as goal

pub returns-clause-words : goal.returns-clause-words
returns-clause-words c =
    words_written (record { words = c.args.words.now; kept = []; ports = 0 }) c.args.mem.now (valuation c.args.values.now) c.args.event.now c.find_bases.new.bases c.write_all.new.words c.requires.fits.sizes.width.0 c.requires.words c.write_all.ensures.words c.find_bases.ensures.value c.write_all.ensures.bits
