use Rattle.std.proofs.Common.{◌≡◌, List, sym, ap, subst, ◌∙◌}
use Rattle.net_wires.specs.declared.clock.ClockRoot.{ClockRoot}
use Rattle.raw_cells.specs.declared.raw.RawCell.{RawCell}
use Rattle.net_checks.specs.Checks.{module_links}
use Rattle.net_checks.specs.ClockPins.{clock_drives, clock_faults}
use Rattle.net_checks.specs.Finds.{Halts}
use Rattle.net_checks.proofs.Alike.{one_clocks}
use Rattle.net_checks.proofs.Handing.{finds_err}
use Rattle.net_checks.proofs.clocks.check_clocks.Goals as goal

pub returns-in_err-check_cells : goal.returns-in_err-check_cells
returns-in_err-check_cells c = λ clocks a.
    let one : c.in_ok-clocks.clocks ≡ clocks = one_clocks (module_links c.args.gathered.now) (clock_drives c.args.items.now c.args.gathered.now) c.in_ok-clocks.clocks clocks c.in_ok-clocks.ensures a in
    let same : clock_faults c.as_slice.result.now c.as_slice-2.result.now ≡ clock_faults clocks c.args.gathered.now.cells =
    ap (λ (cs : List ClockRoot). clock_faults cs c.as_slice-2.result.now) (c.as_slice.ensures ∙ one) ∙ ap (λ (cs : List RawCell). clock_faults clocks cs) c.as_slice-2.ensures in
    finds_err c.from_residual-in_err-check_cells.result c.in_err-check_cells.field-0.0 (clock_faults clocks c.args.gathered.now.cells) (λ roots. roots ≡ clocks) c.from_residual-in_err-check_cells.ensures.1
    (subst (Halts c.in_err-check_cells.field-0.0) same c.in_err-check_cells.ensures)

pub returns : goal.returns
returns c = λ clocks a.
    let one : c.in_ok-clocks.clocks ≡ clocks = one_clocks (module_links c.args.gathered.now) (clock_drives c.args.items.now c.args.gathered.now) c.in_ok-clocks.clocks clocks c.in_ok-clocks.ensures a in
    let same : clock_faults c.as_slice.result.now c.as_slice-2.result.now ≡ clock_faults clocks c.args.gathered.now.cells =
    ap (λ (cs : List ClockRoot). clock_faults cs c.as_slice-2.result.now) (c.as_slice.ensures ∙ one) ∙ ap (λ (cs : List RawCell). clock_faults clocks cs) c.as_slice-2.ensures in
    (sym same ∙ c.in_ok-check_cells.ensures.0, one)
