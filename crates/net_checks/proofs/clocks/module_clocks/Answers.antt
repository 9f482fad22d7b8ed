use Rattle.std.proofs.Common.{List, sym, ap, subst, ◌∙◌}
use Rattle.std.specs.List.{flat_map}
use Rattle.net_wires.specs.Clocks.{InvertersWithin}
use Rattle.raw_cells.specs.declared.raw.RawCell.{RawCell}
use Rattle.net_checks.specs.ClockPins.{cell_inverters}
use Rattle.net_checks.proofs.Inverting.{inverters_within}
use Rattle.net_checks.proofs.clocks.module_clocks.Goals as goal

pub clocks-requires-clause-inverters : goal.clocks-requires-clause-inverters
clocks-requires-clause-inverters c =
    subst (InvertersWithin c.args.gathered.now.places) (sym (c.as_slice-5.ensures.value ∙ c.in_ok-inverters.ensures ∙ ap (λ (cs : List RawCell). flat_map cell_inverters cs) c.as_slice-2.ensures))
    (inverters_within c.args.gathered.now.places c.args.gathered.now.cells c.requires.sound.cells)
