-- Which properties the ports of a kind may have: a clock where they work at an edge, the read pins where they
-- read into a register, the write properties where they write. The names are those of Yosys' memory_libmap.
use Rattle.std.specs.Prelude.{Bool, true, false}
use Rattle.lib_core.specs.declared.library.PortKind.{PortKind}
use Rattle.lib_core.specs.declared.library.PortKind.TheVariants as kind
use Rattle.lib_core.specs.declared.library.Property.{Property}
use Rattle.lib_core.specs.declared.library.Property.TheVariants as property

abbrev pub has_property : PortKind → Property → Bool
has_property k property.Width = true
has_property kind.Sr property.Clock = true
has_property kind.Sr property.Clken = true
has_property kind.Sr property.Rden = true
has_property kind.Sr property.Rdsrst = true
has_property kind.Sr property.Rdarst = true
has_property kind.Sr property.Rdinit = true
has_property kind.Sw property.Clock = true
has_property kind.Sw property.Clken = true
has_property kind.Sw property.Wrtrans = true
has_property kind.Sw property.Wrprio = true
has_property kind.Sw property.WrbeSeparate = true
has_property kind.Arsw property.Clock = true
has_property kind.Arsw property.Clken = true
has_property kind.Arsw property.Wrtrans = true
has_property kind.Arsw property.Wrprio = true
has_property kind.Arsw property.WrbeSeparate = true
has_property kind.Srsw p = true
has_property k p = false
