use Rattle.std.proofs.Common.{◌+◌, ◌-◌, ap, arith, ◌∙◌}
use Rattle.net_wires.specs.Signals.{run_bits}
use Rattle.net_wires.proofs.Bits.{in_range, length_run, out_of_range, run_cut}
use Rattle.net_wires.proofs.reading.cut_run.Goals as goal

pub returns-then-high-run : goal.returns-then-high-run
returns-then-high-run c = out_of_range c.args.high _ (omega (arith, length_run c.args.run.base c.args.run.width, c.if-high-run.true)) c.broken.result c.broken.ensures

pub returns : goal.returns
returns c = (
  in_range c.args.high _ (omega (arith, length_run c.args.run.base c.args.run.width, c.if-high-run.false)),
  ap (λ n. run_bits (c.args.run.base + n) (c.args.high + 1 - n)) c.min-begin.ensures ∙ run_cut c.args.run.base c.args.run.width c.args.high c.args.low c.if-high-run.false,
)
