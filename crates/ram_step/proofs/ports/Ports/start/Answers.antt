use Rattle.std.proofs.Common.{◌-◌, arith}
use Rattle.net_core.specs.Ram.{word_of}
use Rattle.ram_step.specs.Ports.{slot_of}
use Rattle.ram_step.specs.Moments.{valuation}
use Rattle.ram_step.proofs.Places.{high_below, begins}
use Rattle.ram_step.proofs.ports.Ports.start.Goals as goal

pub overflow_sub-result : goal.overflow_sub-result
overflow_sub-result g c = high_below c.args.self.now.variant c.args.port.now.pins.now.level (word_of (valuation c.args.values.now) (slot_of c.args.port.now)) (c.width-high.result - 1) c.place-last.result c.place-last.ensures.bit

pub returns-clause-bits : goal.returns-clause-bits
returns-clause-bits g c = begins c.args.self.now.variant c.args.port.now.pins.now.level (word_of (valuation c.args.values.now) (slot_of c.args.port.now)) (c.width-high.result - 1) c.place-last.result c.place-last.ensures.word c.place-last.ensures.bit

pub returns-clause-room : goal.returns-clause-room
returns-clause-room g c =
    let low = high_below c.args.self.now.variant c.args.port.now.pins.now.level (word_of (valuation c.args.values.now) (slot_of c.args.port.now)) (c.width-high.result - 1) c.place-last.result c.place-last.ensures.bit in
    omega (arith, low, c.width-high.ensures, c.place-last.ensures.width, c.requires.some_bits)
