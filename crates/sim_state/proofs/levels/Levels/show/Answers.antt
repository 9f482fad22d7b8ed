use Rattle.std.proofs.Common.{ap}
use Rattle.sim_state.specs.Looks.{level_look}
use Rattle.sim_state.proofs.levels.Levels.show.Goals as goal

pub returns-in-One-clause-bits : goal.returns-in-One-clause-bits
returns-in-One-clause-bits g c = rw (ap level_look c.in-One.is) c.show_slot.ensures.bits

pub returns-in-Two-clause-bits : goal.returns-in-Two-clause-bits
returns-in-Two-clause-bits g c = rw (ap level_look c.in-Two.is) c.show_slot-in-Two.ensures.bits

pub returns-in-Three-clause-bits : goal.returns-in-Three-clause-bits
returns-in-Three-clause-bits g c = rw (ap level_look c.in-Three.is) c.show_slot-in-Three.ensures.bits

pub returns-in-Four-clause-bits : goal.returns-in-Four-clause-bits
returns-in-Four-clause-bits g c = rw (ap level_look c.in-Four.is) c.show_slot-in-Four.ensures.bits

pub returns-in-Five-clause-bits : goal.returns-in-Five-clause-bits
returns-in-Five-clause-bits g c = rw (ap level_look c.in-Five.is) c.show_slot-in-Five.ensures.bits

pub returns-in-Six-clause-bits : goal.returns-in-Six-clause-bits
returns-in-Six-clause-bits g c = rw (ap level_look c.in-Six.is) c.show_slot-in-Six.ensures.bits

pub returns-in-Seven-clause-bits : goal.returns-in-Seven-clause-bits
returns-in-Seven-clause-bits g c = rw (ap level_look c.in-Seven.is) c.show_slot-in-Seven.ensures.bits

pub returns-in-Eight-clause-bits : goal.returns-in-Eight-clause-bits
returns-in-Eight-clause-bits g c = rw (ap level_look c.in-Eight.is) c.show_slot-in-Eight.ensures.bits
