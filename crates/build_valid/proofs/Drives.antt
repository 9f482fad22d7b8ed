-- What drives places: digits without a value, and inverters.
use Rattle.std.proofs.Common.{◌≡◌, ◌⊎◌, inl, inr, ℕ, zero, suc, ◌<◌, Bool, false, List, [], ◌∷◌, ◌++◌, length, get_or, replicate, Some, refl, sym, ap, ◌∙◌, arith}
use Rattle.std.specs.Prelude.{slice_get, slice_set}
use Rattle.std.proofs.lemmas.Bool.{cases_eq}
use Rattle.std.proofs.lemmas.List.{length-set}
use Rattle.std.proofs.lemmas.Option.{same_Some, slice_get-get_or}
use Rattle.net_wires.specs.declared.clock.Drive.{Drive}
use Rattle.net_wires.specs.declared.clock.Drive.TheVariants as drive
use Rattle.net_wires.specs.declared.clock.Inverter.{Inverter}
use Rattle.net_wires.specs.declared.link.Link.{Link}
use Rattle.net_wires.specs.declared.link.Link.TheVariants as links
use Rattle.net_wires.specs.declared.source.Source.{Source}
use Rattle.net_wires.specs.declared.source.Source.TheVariants as source
use Rattle.net_wires.specs.Clocks as clocked
use Rattle.net_wires.specs.Clocks.{driven_by, drives, inverted_by, IsConstant, LeadsToRoot}
use Rattle.net_wires.proofs.Driven.{length_drives}
use Rattle.net_wires.proofs.Places.{set_other, set_same}
use Rattle.net_wires.proofs.Ready.{set_is}

-- a number stands in a list
abbrev pub StandsIn : List ℕ → ℕ → Type 0
StandsIn ps p = (k : ℕ) × (slice_get ps k ≡ Some p)

-- ---- digits

set_digit : (ds : List Drive) (q p : ℕ) → slice_get ds p ≡ Some drive.Digit → slice_get (slice_set ds q drive.Digit) p ≡ Some drive.Digit
set_digit ds q p at =
    elim (cases_eq p q) [
      | inl e ↦ ap (λ k. slice_get (slice_set ds k drive.Digit) p) (sym e) ∙ set_same ds p drive.Digit drive.Digit at
      | inr ne ↦ set_other ds q p drive.Digit ne ∙ at
    ]

digit_stays : (ds : List Drive) (ps : List ℕ) (p : ℕ) → slice_get ds p ≡ Some drive.Digit → slice_get (driven_by drive.Digit ds ps) p ≡ Some drive.Digit
digit_stays ds [] p at = at
digit_stays ds (q ∷ qs) p at = digit_stays (slice_set ds q drive.Digit) qs p (set_digit ds q p at)

pub digit_there : (ds : List Drive) (ps : List ℕ) (p k : ℕ) → p < length ds → slice_get ps k ≡ Some p → slice_get (driven_by drive.Digit ds ps) p ≡ Some drive.Digit
digit_there ds [] p k h at = absurd cc
digit_there ds (q ∷ qs) p zero h at =
    let same : q ≡ p = same_Some q p at in
    digit_stays (slice_set ds q drive.Digit) qs p (ap (λ j. slice_get (slice_set ds j drive.Digit) p) same ∙ set_same ds p (get_or ds p drive.Open) drive.Digit (slice_get-get_or ds p drive.Open h))
digit_there ds (q ∷ qs) p (suc k) h at = digit_there (slice_set ds q drive.Digit) qs p k (let e = length-set ds q drive.Digit in omega (arith, h, e)) at

digits_are : (ds : List Drive) (ps : List ℕ) (p : ℕ) → slice_get (driven_by drive.Digit ds ps) p ≡ Some drive.Digit → StandsIn ps p ⊎ (slice_get ds p ≡ Some drive.Digit)
digits_are ds [] p at = inr at
digits_are ds (q ∷ qs) p at =
    elim (digits_are (slice_set ds q drive.Digit) qs p at) [
      | inl there ↦ inl (suc there.0, there.1)
      | inr old ↦ elim (cases_eq p q) [ inl same ↦ inl (zero, ap (λ k. Some k) (sym same)) | inr ne ↦ inr (sym (set_other ds q p drive.Digit ne) ∙ old) ]
    ]

none_open : (n p : ℕ) (d : Drive) → (drive.Open ≡ d → ⊥) → slice_get (replicate n drive.Open) p ≡ Some d → ⊥
none_open zero p d ne at = cc
none_open (suc n) zero d ne at = ne (same_Some drive.Open d at)
none_open (suc n) (suc p) d ne at = none_open n p d ne at

-- what such digits alone drive
pub digit_among : (n : ℕ) (ps : List ℕ) (p : ℕ) → slice_get (driven_by drive.Digit (replicate n drive.Open) ps) p ≡ Some drive.Digit → StandsIn ps p
digit_among n ps p at = elim (digits_are (replicate n drive.Open) ps p at) [ inl there ↦ there | inr open_ ↦ absurd (none_open n p drive.Digit (λ e. cc) open_) ]

pub stands_left : (xs ys : List ℕ) (p : ℕ) → StandsIn xs p → StandsIn (xs ++ ys) p
stands_left [] ys p s = absurd (let e = s.1 in cc)
stands_left (x ∷ xs) ys p (zero, at) = (zero, at)
stands_left (x ∷ xs) ys p (suc k, at) = let rest = stands_left xs ys p (k, at) in (suc rest.0, rest.1)

pub stands_right : (xs ys : List ℕ) (p : ℕ) → StandsIn ys p → StandsIn (xs ++ ys) p
stands_right [] ys p s = s
stands_right (x ∷ xs) ys p s = let rest = stands_right xs ys p s in (suc rest.0, rest.1)

-- ---- constants in a longer table

pub constant_up : (n : ℕ) (t s : List Link) (ds es : List Drive) → ((p : ℕ) → p < n → slice_get t p ≡ slice_get s p) → ((p q : ℕ) → p < n → slice_get s p ≡ Some (links.To q) → q < n)
    → ((p : ℕ) → p < n → slice_get ds p ≡ Some drive.Digit → slice_get es p ≡ Some drive.Digit) → (p : ℕ) → p < n → IsConstant s ds p → IsConstant t es p
constant_up n t s ds es same inside digits _ h (clocked.zero p at) = clocked.zero p (same p h ∙ at)
constant_up n t s ds es same inside digits _ h (clocked.one p at) = clocked.one p (same p h ∙ at)
constant_up n t s ds es same inside digits _ h (clocked.digit p e at is) = clocked.digit p e (same p h ∙ at) (digits p h is)
constant_up n t s ds es same inside digits _ h (IsConstant.connect p q at more) = IsConstant.connect p q (same p h ∙ at) (constant_up n t s ds es same inside digits q (inside p q h at) more)

-- ---- inverters

-- this inverter is one of these
abbrev pub InvertsIn : List Inverter → Source → ℕ → Type 0
InvertsIn is from to = (k : ℕ) × (i : Inverter) × (slice_get is k ≡ Some i) × (i.from ≡ from) × (i.to ≡ to)

abbrev origin : Drive → Source
origin (drive.Inverts s) = s
origin d = source.Zero

digits_keep : (ds : List Drive) (ps : List ℕ) (p : ℕ) (s : Source) → slice_get (driven_by drive.Digit ds ps) p ≡ Some (drive.Inverts s) → slice_get ds p ≡ Some (drive.Inverts s)
digits_keep ds [] p s at = at
digits_keep ds (q ∷ qs) p s at = elim (set_is ds q p (drive.Inverts s) drive.Digit (digits_keep (slice_set ds q drive.Digit) qs p s at)) [ inl e ↦ absurd cc | inr old ↦ old ]

roots_keep : (ds : List Drive) (ps : List ℕ) (p : ℕ) (s : Source) → slice_get (driven_by drive.Root ds ps) p ≡ Some (drive.Inverts s) → slice_get ds p ≡ Some (drive.Inverts s)
roots_keep ds [] p s at = at
roots_keep ds (q ∷ qs) p s at = elim (set_is ds q p (drive.Inverts s) drive.Root (roots_keep (slice_set ds q drive.Root) qs p s at)) [ inl e ↦ absurd cc | inr old ↦ old ]

inverters_are : (ds : List Drive) (is : List Inverter) (p : ℕ) (s : Source) → slice_get (inverted_by ds is) p ≡ Some (drive.Inverts s) → InvertsIn is s p ⊎ (slice_get ds p ≡ Some (drive.Inverts s))
inverters_are ds [] p s at = inr at
inverters_are ds (i ∷ is) p s at =
    elim (inverters_are (slice_set ds i.to (drive.Inverts i.from)) is p s at) [
      | inl there ↦ inl (suc there.0, there.1, there.2, there.3, there.4)
      | inr old ↦ elim (cases_eq p i.to) [
        | inl same ↦ elim (set_is ds i.to p (drive.Inverts s) (drive.Inverts i.from) old) [
          | inl e ↦ inl (zero, i, refl, ap origin e, sym same)
          | inr was ↦ inr was
        ]
        | inr ne ↦ inr (sym (set_other ds i.to p (drive.Inverts i.from) ne) ∙ old)
      ]
    ]

pub inverter_among : (n : ℕ) (from : List ℕ) (is : List Inverter) (digits : List ℕ) (p : ℕ) (s : Source) → slice_get (drives n from is digits) p ≡ Some (drive.Inverts s) → InvertsIn is s p
inverter_among n from is digits p s at =
    let start = driven_by drive.Root (replicate n drive.Open) from in
    elim (inverters_are start is p s (digits_keep (inverted_by start is) digits p s at)) [ inl there ↦ there | inr old ↦ absurd (none_open n p (drive.Inverts s) (λ e. cc) (roots_keep (replicate n drive.Open) from p s old)) ]

-- connects alone lead from a place to the root
pub data ConnectsLead (t : List Link) : ℕ → ℕ → Type 0 where
  here : (p : ℕ) → ConnectsLead t p p
  more : (p q r : ℕ) → slice_get t p ≡ Some (links.To q) → ConnectsLead t q r → ConnectsLead t p r

-- an inverter whose input connects alone lead to the root
pub record LastInverter (t : List Link) (ds : List Drive) (r : ℕ) : Type 0 where
  pub to : ℕ
  pub from : ℕ
  pub inverts : slice_get ds to ≡ Some (drive.Inverts (source.At from))
  pub leads : ConnectsLead t from r

-- an inverter stands on the way, or connects alone lead to the root and nothing is flipped
pub last_inverter : (t : List Link) (ds : List Drive) (p r : ℕ) (flipped : Bool) → LeadsToRoot t ds p r flipped → LastInverter t ds r ⊎ ((flipped ≡ false) × ConnectsLead t p r)
last_inverter t ds _ _ _ (clocked.here p e at is) = inr (refl, ConnectsLead.here p)
last_inverter t ds _ r f (LeadsToRoot.connect p q _ _ at rest) = elim (last_inverter t ds q r f rest) [ inl found ↦ inl found | inr straight ↦ inr (straight.0, ConnectsLead.more p q r at straight.1) ]
last_inverter t ds _ r _ (clocked.invert p e q _ f at is rest) =
    elim (last_inverter t ds q r f rest) [ inl found ↦ inl found | inr straight ↦ inl (record { to = p; from = q; inverts = is; leads = straight.1 }) ]

-- ---- digits among all that drives

length_driven : (d : Drive) (ds : List Drive) (ps : List ℕ) → length (driven_by d ds ps) ≡ length ds
length_driven d ds [] = refl
length_driven d ds (p ∷ ps) = length_driven d (slice_set ds p d) ps ∙ length-set ds p d

pub digit_drives_here : (n : ℕ) (from : List ℕ) (is : List Inverter) (digits : List ℕ) (p : ℕ) → p < n → StandsIn digits p → slice_get (drives n from is digits) p ≡ Some drive.Digit
digit_drives_here n from is digits p h s =
    let start = inverted_by (driven_by drive.Root (replicate n drive.Open) from) is in
    let long = length_drives n from is digits in
    let same = length_driven drive.Digit start digits in
    digit_there start digits p s.0 (omega (arith, h, long, same)) s.1
