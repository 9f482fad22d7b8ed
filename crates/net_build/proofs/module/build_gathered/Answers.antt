use Rattle.net_build.proofs.Built.{sound_so}
use Rattle.net_build.proofs.module.build_gathered.Goals as goal

pub check_module-requires-clause-sound : goal.check_module-requires-clause-sound
check_module-requires-clause-sound c = sound_so c.args.around.now c.args.doc.now c.args.gathered.now c.requires.sound c.requires.gathered c.gathered_is_sound.ensures
