-- Want of memory, in a module and in a design.
use Rattle.std.specs.Prelude.{◌≡◌}
use Rattle.mem_collect.specs.declared.fault.CollectCode.TheVariants as code
use Rattle.net_collect.specs.declared.fault.DesignFault.{DesignFault}

abbrev pub IsMemoryIn : DesignFault → Type 0
IsMemoryIn f = f.fault.code ≡ code.Memory
