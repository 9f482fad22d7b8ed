use Rattle.build_valid.proofs.Roots as roots
use Rattle.build_valid.proofs.sound.wired_roots.Goals as goal

pub returns : goal.returns
returns c = roots.roots_among c.clocks_lead_to_roots.ensures
