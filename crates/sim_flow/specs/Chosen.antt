-- Which module of a design is simulated.
use Rattle.std.specs.Prelude.{Bool, true, false, ◌&&◌, List, [], Option, slice_get, position, codes}
use Rattle.std.specs.List.{list_any}
use Rattle.std.specs.Option.{unwrap_or}
use Rattle.std.specs.Str.{bytes_eq}
use Rattle.lib_core.specs.declared.library.Tri.{Tri}
use Rattle.lib_core.specs.declared.library.Tri.TheVariants as tri
use Rattle.net_core.specs.declared.mems.Attr.{Attr}
use Rattle.net_core.specs.declared.modules.Design.{Design}
use Rattle.net_core.specs.declared.modules.Module.{Module}

abbrev pub is_set : Tri → Bool
is_set tri.Zero = false
is_set tri.One = true
is_set tri.Any = false

-- the attribute \top with a bit that is 1
abbrev pub marks_top : Attr → Bool
marks_top a = bytes_eq a.name (codes "\\top") && list_any is_set a.bits

abbrev pub is_top : Module → Bool
is_top m = list_any marks_top m.attrs

-- a module without ports in which nothing is
unfoldable pub no_module : Module
no_module = record { name = []; attrs = []; nets = 0; wires = []; declared = []; parts = []; mems = []; combs = []; regs = []; rams = []; carried = [] }

-- the first module that is marked as the top, else the first, else one without ports
unfoldable pub simulated_of : List Module → Module
simulated_of ms = unwrap_or (slice_get ms (unwrap_or (position is_top ms) 0)) no_module

abbrev pub simulated : Design → Module
simulated d = simulated_of d.modules
