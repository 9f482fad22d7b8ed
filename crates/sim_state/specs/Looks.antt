-- What contracts see of the state of a RAM cell, whatever the numbers of its limbs and widths.
use Rattle.std.specs.Prelude.{ℕ}
use Rattle.ram_step.specs.States.{RamLook}
use Rattle.sim_state.specs.declared.levels.Levels.{Levels}
use Rattle.sim_state.specs.declared.levels.Levels.TheVariants.{One, Two, Three, Four, Five, Six, Seven, Eight}
use Rattle.sim_state.specs.declared.boxes.Limbs.{Limbs}
use Rattle.sim_state.specs.declared.boxes.Limbs.TheVariants.{Narrow, Middle, Wide}

abbrev pub level_look : {limbs : ℕ} → Levels limbs → RamLook
level_look (One a) = a
level_look (Two a) = a
level_look (Three a) = a
level_look (Four a) = a
level_look (Five a) = a
level_look (Six a) = a
level_look (Seven a) = a
level_look (Eight a) = a

abbrev pub limb_look : Limbs → RamLook
limb_look (Narrow l) = level_look l
limb_look (Middle l) = level_look l
limb_look (Wide l) = level_look l
