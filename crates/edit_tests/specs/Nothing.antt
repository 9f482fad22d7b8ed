-- A module without anything.
use Rattle.std.specs.Prelude.{[]}
use Rattle.net_core.specs.declared.modules.Module.{Module}

abbrev pub nothing : Module
nothing = record { name = []; attrs = []; nets = 0; wires = []; declared = []; parts = []; mems = []; combs = []; regs = []; rams = []; carried = [] }
