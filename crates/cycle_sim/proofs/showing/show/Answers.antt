use Rattle.std.proofs.Common.{arith}
use Rattle.net_core.specs.Nodes.{comb_node, read_node, slot_node}
use Rattle.cycle_sim.proofs.Placed.{node_of_comb, node_of_read, node_of_slot, reg_below, mem_below, port_below, ram_below, slot_below}
use Rattle.cycle_sim.proofs.showing.show.Goals as goal

pub show_logic-requires-clause-nets : goal.show_logic-requires-clause-nets
show_logic-requires-clause-nets c = λ d found. c.requires.nets (comb_node d) (node_of_comb c.args.«module».now c.args.at c.in-Comb.comb c.in-Comb.is d found)

pub show_logic-requires-clause-picks : goal.show_logic-requires-clause-picks
show_logic-requires-clause-picks c = λ d found. c.requires.picks (comb_node d) (node_of_comb c.args.«module».now c.args.at c.in-Comb.comb c.in-Comb.is d found)

pub show_logic-requires-clause-out : goal.show_logic-requires-clause-out
show_logic-requires-clause-out c = λ d found. c.requires.out (comb_node d) (node_of_comb c.args.«module».now c.args.at c.in-Comb.comb c.in-Comb.is d found)

pub show_register-requires-clause-index : goal.show_register-requires-clause-index
show_register-requires-clause-index c = reg_below c.args.«module».now c.args.at c.in-Reg.reg c.in-Reg.is c.requires.node

pub show_read-requires-clause-index : goal.show_read-requires-clause-index
show_read-requires-clause-index c = mem_below c.args.«module».now c.args.at c.in-Read.mem c.in-Read.port c.in-Read.is c.requires.node

pub show_read-requires-clause-port : goal.show_read-requires-clause-port
show_read-requires-clause-port c = port_below c.args.«module».now c.args.at c.in-Read.mem c.in-Read.port c.in-Read.is c.requires.node

pub show_read-requires-clause-room : goal.show_read-requires-clause-room
show_read-requires-clause-room c = λ x r found read.
    let same = c.requires.out (read_node r) (node_of_read c.args.«module».now c.args.at c.in-Read.mem c.in-Read.port c.in-Read.is x r found read) in
    omega (arith, same)

pub show_slot-requires-clause-index : goal.show_slot-requires-clause-index
show_slot-requires-clause-index c = ram_below c.args.«module».now c.args.at c.in-Slot.cell c.in-Slot.slot c.in-Slot.is c.requires.node

pub show_slot-requires-clause-slot : goal.show_slot-requires-clause-slot
show_slot-requires-clause-slot c = slot_below c.args.«module».now c.args.at c.in-Slot.cell c.in-Slot.slot c.in-Slot.is c.requires.node

pub show_slot-requires-clause-room : goal.show_slot-requires-clause-room
show_slot-requires-clause-room c = λ d s found slot.
    let same = c.requires.out (slot_node s) (node_of_slot c.args.«module».now c.args.at c.in-Slot.cell c.in-Slot.slot c.in-Slot.is d s found slot) in
    omega (arith, same)
