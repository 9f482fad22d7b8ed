-- Where a place leads through connects and inverters: what a clock is.
use Rattle.std.specs.Prelude.{◌≡◌, ℕ, Bool, false, not, List, [], ◌∷◌, length, replicate, get_or, Some, slice_get, slice_set}
use Rattle.net_wires.specs.declared.clock.ClockRoot.{ClockRoot}
use Rattle.net_wires.specs.declared.clock.ClockRoot.TheVariants as clock
use Rattle.net_wires.specs.declared.clock.Drive.{Drive}
use Rattle.net_wires.specs.declared.clock.Drive.TheVariants as drive
use Rattle.net_wires.specs.declared.clock.Inverter.{Inverter}
use Rattle.net_wires.specs.declared.link.Link.{Link}
use Rattle.net_wires.specs.declared.link.Link.TheVariants as links
use Rattle.net_wires.specs.declared.source.Pair.{Pair}
use Rattle.net_wires.specs.declared.source.Source.{Source}
use Rattle.net_wires.specs.declared.source.Source.TheVariants as source
use Rattle.net_wires.specs.Links.{IsWithin}

-- ---- what drives places that no connect drives

-- each of these places has this driver
abbrev pub driven_by : Drive → List Drive → List ℕ → List Drive
driven_by d ds [] = ds
driven_by d ds (p ∷ ps) = driven_by d (slice_set ds p d) ps

abbrev pub inverted_by : List Drive → List Inverter → List Drive
inverted_by ds [] = ds
inverted_by ds (i ∷ is) = inverted_by (slice_set ds i.to (drive.Inverts i.from)) is

-- Of n places: these are inputs, these are driven by inverters, these by a digit without a value, and the others by nothing
-- that a clock leads through. Where each place has one driver, the order of these steps does not count.
abbrev pub drives : ℕ → List ℕ → List Inverter → List ℕ → List Drive
drives n roots inverters digits = driven_by drive.Digit (inverted_by (driven_by drive.Root (replicate n drive.Open) roots) inverters) digits

-- the places that connects drive by a digit without a value
abbrev pub digit_of : Source → Source → List ℕ → List ℕ
digit_of (source.At l) source.Loose ps = l ∷ ps
digit_of l r ps = ps

abbrev pub tied_digits : List Pair → List ℕ
tied_digits [] = []
tied_digits (p ∷ ps) = digit_of p.left p.right (tied_digits ps)

-- ---- steps, along connects t and what drives their ends

-- connects alone lead from the place to a digit of a constant
pub data IsConstant (t : List Link) (ds : List Drive) : ℕ → Type 0 where
  zero : (p : ℕ) → slice_get t p ≡ Some links.Zero → IsConstant t ds p
  one : (p : ℕ) → slice_get t p ≡ Some links.One → IsConstant t ds p
  digit : (p e : ℕ) → slice_get t p ≡ Some (links.End e) → slice_get ds p ≡ Some drive.Digit → IsConstant t ds p
  connect : (p q : ℕ) → slice_get t p ≡ Some (links.To q) → IsConstant t ds q → IsConstant t ds p

-- connects and inverters lead from the place to an input; flipped where the inverters are odd in number
pub data LeadsToRoot (t : List Link) (ds : List Drive) : ℕ → ℕ → Bool → Type 0 where
  here : (p e : ℕ) → slice_get t p ≡ Some (links.End e) → slice_get ds p ≡ Some drive.Root → LeadsToRoot t ds p p false
  connect : (p q r : ℕ) (flipped : Bool) → slice_get t p ≡ Some (links.To q) → LeadsToRoot t ds q r flipped → LeadsToRoot t ds p r flipped
  invert : (p e q r : ℕ) (flipped : Bool) → slice_get t p ≡ Some (links.End e) → slice_get ds p ≡ Some (drive.Inverts (source.At q)) → LeadsToRoot t ds q r flipped → LeadsToRoot t ds p r (not flipped)

abbrev pub IsClock : List Link → List Drive → ℕ → ClockRoot → Type 0
IsClock t ds p clock.Never = IsConstant t ds p
IsClock t ds p (clock.Root r flipped) = LeadsToRoot t ds p r flipped
IsClock t ds p clock.Unknown = (IsConstant t ds p → ⊥) × ((r : ℕ) (flipped : Bool) → LeadsToRoot t ds p r flipped → ⊥)

-- where each place leads
pub record AreClocks (t : List Link) (ds : List Drive) (clocks : List ClockRoot) : Type 0 where
  pub long : length clocks ≡ length t
  pub each : (p : ℕ) (c : ClockRoot) → slice_get clocks p ≡ Some c → IsClock t ds p c

-- a bit of a clock pin: a digit of a constant, or what its place leads to
abbrev pub clock_of : List ClockRoot → Source → ClockRoot
clock_of cs (source.At p) = get_or cs p clock.Unknown
clock_of cs s = clock.Never

abbrev pub InvertersWithin : ℕ → List Inverter → Type 0
InvertersWithin n [] = Unit {0}
InvertersWithin n (i ∷ is) = IsWithin n i.from × InvertersWithin n is
