use Rattle.std.proofs.Common.{length, ap, ◌∙◌, arith}
use Rattle.lib_core.specs.Rams.{tri_at}
use Rattle.ram_step.specs.Moments.{valuation}
use Rattle.sim_cells.proofs.Writing.{port_more, all_written}
use Rattle.sim_cells.proofs.hits.write_all.Goals as goal

pub loop-own-preserved : goal.loop-own-preserved
loop-own-preserved c =
    let inv = c.loop-own.invariant in
    let n = c.loop-own.own in
    let long = ap length c.as_slice-own-end.ensures in
    let lengths = c.write_port.ensures.words in (
      c.write_port.ensures.words ∙ inv.0,
      c.write_port.ensures.hits ∙ inv.1,
      λ p h. port_more c.args.mem.now (valuation c.args.values.now) p c.args.bases.now n (tri_at c.write_port.new.words p) (tri_at c.loop-own.words p) (tri_at c.args.words.now p) c.requires.bases.count (omega (arith, c.loop-own-test.true, long)) (c.write_port.ensures.bits p h) (inv.2 p (omega (arith, h, lengths))),
    )

pub returns-clause-bits : goal.returns-clause-bits
returns-clause-bits c = λ p h.
    let inv = c.loop-own.invariant in
    let long = ap length c.as_slice-own-end.ensures in
    all_written c.args.mem.now (valuation c.args.values.now) p c.args.bases.now c.loop-own.own (tri_at c.loop-own.words p) (tri_at c.args.words.now p) c.requires.bases.count (omega (arith, c.loop-own-test.false, long)) (inv.2 p h)
