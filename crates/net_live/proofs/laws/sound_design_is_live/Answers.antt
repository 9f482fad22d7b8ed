use Rattle.net_live.proofs.laws.sound_design_is_live.Goals as goal

pub returns : goal.returns
returns c = λ lib d sound i m at. let s = sound i m at in c.ordered_is_live.ensures lib m s.one_driver s.reads_agree s.ordered
