-- The packed cell passes no limit of a reader.
use Rattle.std.proofs.Common.{◌≡◌, ℕ, ◌+◌, ◌*◌, ◌≤◌, false, Some, None, arith}
use Rattle.std.specs.Prelude.{nat_lt, ◌||◌, if◌then◌else◌}
use Rattle.std.proofs.lemmas.Bool.Decides.{nat_tests}
use Rattle.net_core.specs.declared.mems.Mem.{Mem}
use Rattle.mem_rows.specs.Limits.{first_of, ports_limit, size_limit}
use Rattle.mem_pack.specs.Laws.{IsPackable, IsReadable, IsSmall, packed_row, PackedIsWithin}
use Rattle.mem_pack.proofs.Small.{packable_is_small}

not_above : (limit n : ℕ) → n ≤ limit → nat_lt limit n ≡ false
not_above limit n h = grind (arith, nat_tests)

no_size : (m : Mem) → IsPackable m → IsReadable m → size_limit m.size m.offset m.width ≡ None
no_size m p r = λ i.
    if not_above 1048576 (m.offset + m.size) p.fits.sizes.addresses i then Some 1048577
    else (if not_above 1024 m.width r.width i then Some 1025
    else (if not_above 4194304 (m.size * m.width) r.bits i then Some 4194305
    else None))

no_ports : (m : Mem) → IsPackable m → IsSmall m → ports_limit (packed_row m) ≡ None
no_ports m p s = λ i.
    if not_above 32 m.abits p.fits.sizes.abits i then Some 33
    else (if not_above 64 (packed_row m).reads s.reads i || not_above 64 (packed_row m).writes s.writes i then Some 65
    else None)

pub packed_is_within : PackedIsWithin
packed_is_within m p r = λ i. first_of (no_size m p r i) (no_ports m p (packable_is_small m p) i)
