use Rattle.std.proofs.Common.{Bool, List, replicate, false, ap, ◌∙◌, arith}
use Rattle.raw_cells.specs.declared.raw.RawCell.{RawCell}
use Rattle.net_checks.specs.Inouts.{inout_bits}
use Rattle.net_checks.specs.Marks.{mark_sources}
use Rattle.net_checks.proofs.Marked.{marked_is}
use Rattle.net_checks.proofs.Within.{inouts_within}
use Rattle.net_checks.proofs.inout_pins.inout_marks.Goals as goal

pub returns : goal.returns
returns c =
    marked_is c.args.gathered.now.places c.mark_sources.new.marks.items (inout_bits c.args.inouts.now c.args.items.now c.args.gathered.now.cells)
    (inouts_within c.args.gathered.now.places c.args.inouts.now c.args.items.now c.args.gathered.now.cells (omega (arith, c.requires.sound.wires, c.requires.sound.first)) c.requires.sound.cells)
    (c.mark_sources.ensures ∙ ap (λ (ms : List Bool). mark_sources ms c.as_slice-2.result.now) c.in_ok-marks.ensures
    ∙ ap (mark_sources (replicate c.args.gathered.now.places false))
    (c.as_slice-2.ensures.value ∙ c.in_ok-bits.ensures ∙ ap (λ (cs : List RawCell). inout_bits c.args.inouts.now c.args.items.now cs) c.as_slice.ensures))
