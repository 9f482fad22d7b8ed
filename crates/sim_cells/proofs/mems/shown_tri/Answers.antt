use Rattle.std.proofs.Common.{sym, ◌∙◌}
use Rattle.ram_step.specs.Moments.{valuation}
use Rattle.sim_cells.proofs.Taking.{shown_now}
use Rattle.sim_cells.proofs.mems.shown_tri.Goals as goal

pub returns-else-is_clocked : goal.returns-else-is_clocked
returns-else-is_clocked c =
    shown_now c.args.mem.now c.args.words.now (valuation c.args.values.now) c.args.kept.now c.args.read.now c.args.base c.args.place c.content.result c.requires.fits.sizes.width.0 c.requires.base (sym c.is_clocked.ensures ∙ c.if-is_clocked.false) c.content.ensures
