-- Places with the way that led there, as one table of connects: node 3 * place + way, where the way is 0 for connects alone,
-- 1 for an odd number of inverters, and 2 for an even one.
use Rattle.std.specs.Prelude.{◌≡◌, ℕ, ◌+◌, ◌*◌, ◌/◌, ◌%◌, List, map, length, get_or, Some, slice_get, if◌then◌else◌, ◌==◌}
use Rattle.std.specs.List.{range_with_len}
use Rattle.net_wires.specs.declared.clock.ClockRoot.{ClockRoot}
use Rattle.net_wires.specs.declared.clock.ClockRoot.TheVariants as clock
use Rattle.net_wires.specs.declared.clock.Drive.{Drive}
use Rattle.net_wires.specs.declared.clock.Drive.TheVariants as drive
use Rattle.net_wires.specs.declared.link.Link.{Link}
use Rattle.net_wires.specs.declared.link.Link.TheVariants as links
use Rattle.net_wires.specs.declared.source.Source.{Source}
use Rattle.net_wires.specs.declared.source.Source.TheVariants as source
use Rattle.net_wires.specs.Links.{IsWithin}

-- a constant counts where connects alone led to it
abbrev pub constant_at : ℕ → Link
constant_at way = if way == 0 then links.One else links.Zero

-- the way behind one inverter more
abbrev pub turned : ℕ → ℕ
turned way = if way == 1 then 2 else 1

abbrev pub inverted : Source → ℕ → Link
inverted (source.At q) way = links.To (3 * q + turned way)
inverted s way = links.Zero

abbrev pub driven : Drive → ℕ → ℕ → Link
driven drive.Open node way = links.Zero
driven drive.Digit node way = constant_at way
driven drive.Root node way = links.End node
driven (drive.Inverts s) node way = inverted s way

abbrev pub through : Link → Drive → ℕ → ℕ → Link
through links.Zero d node way = constant_at way
through links.One d node way = constant_at way
through (links.End e) d node way = driven d node way
through (links.To q) d node way = links.To (3 * q + way)

abbrev pub hop : List Link → List Drive → ℕ → Link
hop t ds node = through (get_or t (node / 3) links.Zero) (get_or ds (node / 3) drive.Open) node (node % 3)

abbrev pub ways : List Link → List Drive → List Link
ways t ds = map (hop t ds) (range_with_len 0 (3 * length t))

-- what the end of a node says
abbrev pub root_at : Link → ClockRoot
root_at (links.End node) = clock.Root (node / 3) (node % 3 == 1)
root_at links.One = clock.Never
root_at links.Zero = clock.Unknown
root_at (links.To node) = clock.Unknown

abbrev pub IsDriveWithin : ℕ → Drive → Type 0
IsDriveWithin n (drive.Inverts s) = IsWithin n s
IsDriveWithin n d = Unit {0}

-- what inverters invert is there
abbrev pub DrivesWithin : ℕ → List Drive → Type 0
DrivesWithin n ds = (p : ℕ) (d : Drive) → slice_get ds p ≡ Some d → IsDriveWithin n d
