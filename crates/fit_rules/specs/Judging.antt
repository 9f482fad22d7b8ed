-- The limits as tests.
use Rattle.std.specs.Prelude.{ℕ, ◌+◌, ◌*◌, Bool, true, ◌&&◌, nat_le, List, [], ◌∷◌, length, Option, Some, None}
use Rattle.std.specs.List.{list_all}
use Rattle.lib_core.specs.declared.library.Library.{Library}
use Rattle.lib_core.specs.declared.library.RamKind.{RamKind}
use Rattle.lib_core.specs.declared.library.Variant.{Variant}
use Rattle.lib_core.specs.declared.library.Group.{Group}
use Rattle.net_core.specs.declared.mems.Mem.{Mem}
use Rattle.net_core.specs.declared.mems.RdPort.{RdPort}
use Rattle.net_core.specs.declared.mems.WrPort.{WrPort}

abbrev pub read_within : RdPort → Bool
read_within r = nat_le r.wide 6

abbrev pub write_within : WrPort → Bool
write_within w = nat_le w.wide 6 && nat_le (length w.en) 4194304

abbrev pub sizes_within : Mem → Bool
sizes_within m = nat_le m.size 1048576 && (nat_le 1 m.width && (nat_le m.width 65536 && (nat_le m.abits 32 && nat_le (m.size * m.width) 8388608)))

abbrev pub ports_within : Mem → Bool
ports_within m = list_all read_within m.reads && list_all write_within m.writes

abbrev pub mem_within : Mem → Bool
mem_within m = sizes_within m && ports_within m

-- each width is from 1 to 1024, and at least twice the one before
abbrev pub width_within : ℕ → Bool
width_within w = nat_le 1 w && nat_le w 1024

abbrev pub is_doubled : ℕ → List ℕ → Bool
is_doubled w [] = true
is_doubled w (v ∷ vs) = nat_le (2 * w) v

abbrev pub widths_within : List ℕ → Bool
widths_within [] = true
widths_within (w ∷ ws) = width_within w && (is_doubled w ws && widths_within ws)

abbrev pub byte_within : Option ℕ → Bool
byte_within None = true
byte_within (Some b) = nat_le 1 b

abbrev pub group_within : Group → Bool
group_within g = nat_le (length g.names) 8

abbrev pub numbers_within : Variant → Bool
numbers_within x = nat_le x.abits 20 && (nat_le x.cost 1048576 && byte_within x.byte)

abbrev pub lengths_within : Variant → Bool
lengths_within x = nat_le (length x.widths) (x.abits + 1) && (nat_le (length x.widths) 8 && nat_le (length x.groups) 4)

abbrev pub variant_within : Variant → Bool
variant_within x = numbers_within x && (lengths_within x && (widths_within x.widths && list_all group_within x.groups))

abbrev pub ram_within : RamKind → Bool
ram_within k = nat_le (length k.variants) 256 && list_all variant_within k.variants

abbrev pub library_within : Library → Bool
library_within lib = nat_le (length lib.rams) 64 && list_all ram_within lib.rams
