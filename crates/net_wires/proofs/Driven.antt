-- What drives places that no connect drives, and loops over places.
use Rattle.std.proofs.Common.{◌≡◌, inl, inr, ℕ, zero, suc, ◌+◌, ◌*◌, ◌/◌, ◌<◌, ◌≤◌, List, [], ◌∷◌, ◌++◌, map, length, get_or, replicate, Some, refl, sym, ap, subst, ◌∙◌, arith}
use Rattle.std.specs.Prelude.{slice_get, slice_set}
use Rattle.std.specs.List.{range_with_len}
use Rattle.std.proofs.lemmas.List.{length-set, length-replicate}
use Rattle.std.proofs.lemmas.List.FromFn.{map-range_with_len_more}
use Rattle.std.proofs.lemmas.Option.{same_Some, slice_get-get_or}
use Rattle.net_wires.specs.declared.clock.Drive.{Drive}
use Rattle.net_wires.specs.declared.clock.Drive.TheVariants as drive
use Rattle.net_wires.specs.declared.clock.Inverter.{Inverter}
use Rattle.net_wires.specs.declared.link.Link.{Link}
use Rattle.net_wires.specs.declared.link.Link.TheVariants as links
use Rattle.net_wires.specs.declared.source.Source.{Source}
use Rattle.net_wires.specs.declared.source.Source.TheVariants as source
use Rattle.net_wires.specs.Clocks.{driven_by, drives, inverted_by, InvertersWithin}
use Rattle.net_wires.specs.Links.{IsWithin}
use Rattle.net_wires.specs.Ties.{AllInside, IsInside}
use Rattle.net_wires.specs.Ways.{DrivesWithin, IsDriveWithin}
use Rattle.net_wires.proofs.Ready.{set_is}

-- one item more of a range
pub range_turn : {X : Type 0} (f : ℕ → X) (i : ℕ) (old new : List X) (x : X) → old ≡ map f (range_with_len 0 i) → x ≡ f i → new ≡ old ++ x ∷ [] → new ≡ map f (range_with_len 0 (i + 1))
range_turn f i old new x was is after = after ∙ ap (λ (xs : List _). xs ++ x ∷ []) was ∙ ap (λ y. map f (range_with_len 0 i) ++ y ∷ []) is ∙ sym (map-range_with_len_more f 0 i i (omega arith))

range_from : {X : Type 0} (f : ℕ → X) (a n i : ℕ) → i < n → slice_get (map f (range_with_len a n)) i ≡ Some (f (a + i))
range_from f a zero i h = absurd (omega (arith, h))
range_from f a (suc n) zero h = let e : a ≡ a + 0 = omega arith in ap (λ k. Some (f k)) e
range_from f a (suc n) (suc i) h = let e : a + 1 + i ≡ a + suc i = omega arith in range_from f (a + 1) n i (omega (arith, h)) ∙ ap (λ k. Some (f k)) e

pub range_at : {X : Type 0} (f : ℕ → X) (n i : ℕ) → i < n → slice_get (map f (range_with_len 0 n)) i ≡ Some (f i)
range_at f n i h = let e : 0 + i ≡ i = omega arith in range_from f 0 n i h ∙ ap (λ k. Some (f k)) e

-- ---- lengths

length_driven : (d : Drive) (ds : List Drive) (ps : List ℕ) → length (driven_by d ds ps) ≡ length ds
length_driven d ds [] = refl
length_driven d ds (p ∷ ps) = length_driven d (slice_set ds p d) ps ∙ length-set ds p d

length_inverted : (ds : List Drive) (is : List Inverter) → length (inverted_by ds is) ≡ length ds
length_inverted ds [] = refl
length_inverted ds (i ∷ is) = length_inverted (slice_set ds i.to (drive.Inverts i.from)) is ∙ length-set ds i.to (drive.Inverts i.from)

pub length_drives : (n : ℕ) (roots : List ℕ) (is : List Inverter) (digits : List ℕ) → length (drives n roots is digits) ≡ n
length_drives n roots is digits =
    length_driven drive.Digit (inverted_by (driven_by drive.Root (replicate n drive.Open) roots) is) digits ∙ length_inverted (driven_by drive.Root (replicate n drive.Open) roots) is
    ∙ length_driven drive.Root (replicate n drive.Open) roots ∙ length-replicate n drive.Open

-- ---- what inverters invert is there

open_in : (n m : ℕ) → DrivesWithin n (replicate m drive.Open)
open_in n zero p d at = cc
open_in n (suc m) zero d at = subst (IsDriveWithin n) (same_Some drive.Open d at) tt
open_in n (suc m) (suc p) d at = open_in n m p d at

set_in : (n : ℕ) (ds : List Drive) (p : ℕ) (x : Drive) → IsDriveWithin n x → DrivesWithin n ds → DrivesWithin n (slice_set ds p x)
set_in n ds p x h all i d at = elim (set_is ds p i d x at) [ inl e ↦ subst (IsDriveWithin n) e h | inr old ↦ all i d old ]

driven_in : (n : ℕ) (x : Drive) (ds : List Drive) (ps : List ℕ) → IsDriveWithin n x → DrivesWithin n ds → DrivesWithin n (driven_by x ds ps)
driven_in n x ds [] h all = all
driven_in n x ds (p ∷ ps) h all = driven_in n x (slice_set ds p x) ps h (set_in n ds p x h all)

inverted_in : (n : ℕ) (ds : List Drive) (is : List Inverter) → InvertersWithin n is → DrivesWithin n ds → DrivesWithin n (inverted_by ds is)
inverted_in n ds [] h all = all
inverted_in n ds (i ∷ is) h all = inverted_in n (slice_set ds i.to (drive.Inverts i.from)) is h.1 (set_in n ds i.to (drive.Inverts i.from) h.0 all)

pub drives_in : (n : ℕ) (roots : List ℕ) (is : List Inverter) (digits : List ℕ) → InvertersWithin n is → DrivesWithin n (drives n roots is digits)
drives_in n roots is digits h =
    driven_in n drive.Digit (inverted_by (driven_by drive.Root (replicate n drive.Open) roots) is) digits tt
    (inverted_in n (driven_by drive.Root (replicate n drive.Open) roots) is h (driven_in n drive.Root (replicate n drive.Open) roots tt (open_in n n)))

-- ---- a node's place is there

wider_link : (n m : ℕ) (x : Link) → n ≤ m → IsInside n x → IsInside m x
wider_link n m links.Zero le h = tt
wider_link n m links.One le h = tt
wider_link n m (links.End p) le h = omega (arith, h, le)
wider_link n m (links.To p) le h = omega (arith, h, le)

wider_source : (n m : ℕ) (s : Source) → n ≤ m → IsWithin n s → IsWithin m s
wider_source n m source.Zero le h = tt
wider_source n m source.One le h = tt
wider_source n m source.Loose le h = tt
wider_source n m (source.At p) le h = omega (arith, h, le)

wider_drive : (n m : ℕ) (d : Drive) → n ≤ m → IsDriveWithin n d → IsDriveWithin m d
wider_drive n m drive.Open le h = tt
wider_drive n m drive.Digit le h = tt
wider_drive n m drive.Root le h = tt
wider_drive n m (drive.Inverts s) le h = wider_source n m s le h

pub link_there : (t : List Link) (m node : ℕ) (d : Link) → AllInside (length t) t → length t ≤ m → node < 3 * length t → IsInside m (get_or t (node / 3) d)
link_there t m node d all le h = wider_link (length t) m (get_or t (node / 3) d) le (all (node / 3) (get_or t (node / 3) d) (slice_get-get_or t (node / 3) d (omega (arith, h))))

pub drive_there : (ds : List Drive) (n m node : ℕ) (d : Drive) → length ds ≡ n → DrivesWithin n ds → n ≤ m → node < 3 * n → IsDriveWithin m (get_or ds (node / 3) d)
drive_there ds n m node d long all le h = wider_drive n m (get_or ds (node / 3) d) le (all (node / 3) (get_or ds (node / 3) d) (slice_get-get_or ds (node / 3) d (omega (arith, h, long))))
