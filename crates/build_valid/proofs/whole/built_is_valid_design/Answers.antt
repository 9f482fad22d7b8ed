use Rattle.build_valid.proofs.Validated as validated
use Rattle.build_valid.proofs.Validated.{Laws}
use Rattle.build_valid.proofs.whole.built_is_valid_design.Goals as goal

pub returns : goal.returns
returns c =
    let laws : Laws = record {
      tables = c.tables_fit.ensures;
      pairs = c.pairs_within.ensures;
      shapes = c.rams_fit.ensures;
      sound = c.gathered_is_sound.ensures;
      inouts = c.shown_inouts.ensures;
      ranks = c.ranks_agree.ensures;
      roots = c.clocks_lead_to_roots.ensures;
      nets = c.solved_cells.ensures;
      parts = c.ram_has_parts.ensures;
      shown = c.ram_shows_once.ensures;
      valid = c.built_is_valid.ensures;
      ports = c.built_has_ports.ensures;
    } in
    validated.design_valid laws
