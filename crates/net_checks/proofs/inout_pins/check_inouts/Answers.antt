use Rattle.std.proofs.Common.{◌≡◌, Bool, List, ap, subst, ◌∙◌}
use Rattle.net_wires.specs.declared.source.Source.{Source}
use Rattle.net_wires.specs.Spans.{Entry, spans}
use Rattle.raw_cells.specs.declared.raw.RawCell.{RawCell}
use Rattle.net_checks.specs.declared.fault.ModuleFault.{ModuleFault}
use Rattle.net_checks.specs.Finds.{FindsFirst}
use Rattle.net_checks.specs.Inouts.{inout_bits, inout_faults, is_among}
use Rattle.net_checks.specs.Marks.{is_source_marked}
use Rattle.net_checks.proofs.Marked.{one_test}
use Rattle.net_checks.proofs.inout_pins.check_inouts.Goals as goal

pub returns : goal.returns
returns c =
    let test : Source → Bool = is_among (inout_bits c.args.inouts.now c.args.items.now c.args.gathered.now.cells) in
    let tests : is_source_marked c.as_slice.result.now ≡ test =
    one_test (is_source_marked c.as_slice.result.now) test (λ s. ap (λ (ms : List Bool). is_source_marked ms s) c.as_slice.ensures.value ∙ c.in_ok-marks.ensures s) in
    subst (λ (fs : List ModuleFault). FindsFirst c.check_items.result fs (λ x. Unit {0}))
    (ap (λ (f : Source → Bool). inout_faults f c.in_ok-names.names c.as_slice-2.result.now c.args.items.now) tests
    ∙ ap (λ (ns : List Entry). inout_faults test ns c.as_slice-2.result.now c.args.items.now) c.in_ok-names.ensures.spans
    ∙ ap (λ (cs : List RawCell). inout_faults test (spans 0 c.args.items.now) cs c.args.items.now) c.as_slice-2.ensures)
    c.check_items.ensures
