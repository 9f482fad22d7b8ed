-- A place leads to one clock.
use Rattle.std.proofs.Common.{◌≡◌, ℕ, Bool, not, List, Some, refl, sym, ap, subst, ◌∙◌}
use Rattle.std.specs.Prelude.{slice_get}
use Rattle.std.proofs.lemmas.Option.{same_Some}
use Rattle.net_wires.specs.declared.clock.ClockRoot.{ClockRoot}
use Rattle.net_wires.specs.declared.clock.ClockRoot.TheVariants as clock
use Rattle.net_wires.specs.declared.clock.Drive.{Drive}
use Rattle.net_wires.specs.declared.clock.Drive.TheVariants as drive
use Rattle.net_wires.specs.declared.link.Link.{Link}
use Rattle.net_wires.specs.declared.link.Link.TheVariants as links
use Rattle.net_wires.specs.declared.source.Source.TheVariants as source
use Rattle.net_wires.specs.Clocks as clocks
use Rattle.net_wires.specs.Clocks.{IsClock, IsConstant, LeadsToRoot}

same_link : (t : List Link) (p : ℕ) (x y : Link) → slice_get t p ≡ Some x → slice_get t p ≡ Some y → x ≡ y
same_link t p x y a b = same_Some x y (sym a ∙ b)

same_drive : (ds : List Drive) (p : ℕ) (x y : Drive) → slice_get ds p ≡ Some x → slice_get ds p ≡ Some y → x ≡ y
same_drive ds p x y a b = same_Some x y (sym a ∙ b)

abbrev target : Link → ℕ
target (links.To q) = q
target x = 0

abbrev origin : Drive → ℕ
origin (drive.Inverts (source.At q)) = q
origin d = 0

module _ (t : List Link) (ds : List Drive) where
  constant_no_root : (p r : ℕ) (b : Bool) → IsConstant t ds p → LeadsToRoot t ds p r b → ⊥
  constant_no_root _ r b (clocks.zero p at) (clocks.here _ e h is) = let x = same_link t p links.Zero (links.End e) at h in cc
  constant_no_root _ r b (clocks.zero p at) (LeadsToRoot.connect _ q _ f h rest) = let x = same_link t p links.Zero (links.To q) at h in cc
  constant_no_root _ r b (clocks.zero p at) (clocks.invert _ e q _ f h is rest) = let x = same_link t p links.Zero (links.End e) at h in cc
  constant_no_root _ r b (clocks.one p at) (clocks.here _ e h is) = let x = same_link t p links.One (links.End e) at h in cc
  constant_no_root _ r b (clocks.one p at) (LeadsToRoot.connect _ q _ f h rest) = let x = same_link t p links.One (links.To q) at h in cc
  constant_no_root _ r b (clocks.one p at) (clocks.invert _ e q _ f h is rest) = let x = same_link t p links.One (links.End e) at h in cc
  constant_no_root _ r b (clocks.digit p o at has) (clocks.here _ e h is) = let x = same_drive ds p drive.Digit drive.Root has is in cc
  constant_no_root _ r b (clocks.digit p o at has) (LeadsToRoot.connect _ q _ f h rest) = let x = same_link t p (links.End o) (links.To q) at h in cc
  constant_no_root _ r b (clocks.digit p o at has) (clocks.invert _ e q _ f h is rest) = let x = same_drive ds p drive.Digit (drive.Inverts (source.At q)) has is in cc
  constant_no_root _ r b (IsConstant.connect p q at more) (clocks.here _ e h is) = let x = same_link t p (links.To q) (links.End e) at h in cc
  constant_no_root _ r b (IsConstant.connect p q at more) (LeadsToRoot.connect _ o _ f h rest) =
      let x : q ≡ o = ap target (same_link t p (links.To q) (links.To o) at h) in
      constant_no_root q r b more (subst (λ n. LeadsToRoot t ds n r b) (sym x) rest)
  constant_no_root _ r b (IsConstant.connect p q at more) (clocks.invert _ e o _ f h is rest) = let x = same_link t p (links.To q) (links.End e) at h in cc

  one_root : (p r s : ℕ) (b d : Bool) → LeadsToRoot t ds p r b → LeadsToRoot t ds p s d → (r ≡ s) × (b ≡ d)
  one_root _ _ _ _ _ (clocks.here p e at has) (clocks.here _ o h is) = (refl, refl)
  one_root _ _ s _ d (clocks.here p e at has) (LeadsToRoot.connect _ q _ f h rest) = let x = same_link t p (links.End e) (links.To q) at h in cc
  one_root _ _ s _ _ (clocks.here p e at has) (clocks.invert _ o q _ f h is rest) = let x = same_drive ds p drive.Root (drive.Inverts (source.At q)) has is in cc
  one_root _ r _ b _ (LeadsToRoot.connect p q _ _ at more) (clocks.here _ o h is) = let x = same_link t p (links.To q) (links.End o) at h in cc
  one_root _ r s b d (LeadsToRoot.connect p q _ _ at more) (LeadsToRoot.connect _ o _ _ h rest) =
      let x : q ≡ o = ap target (same_link t p (links.To q) (links.To o) at h) in
      one_root q r s b d more (subst (λ n. LeadsToRoot t ds n s d) (sym x) rest)
  one_root _ r s b _ (LeadsToRoot.connect p q _ _ at more) (clocks.invert _ o k _ f h is rest) = let x = same_link t p (links.To q) (links.End o) at h in cc
  one_root _ r _ _ _ (clocks.invert p e q _ b at has more) (clocks.here _ o h is) = let x = same_drive ds p (drive.Inverts (source.At q)) drive.Root has is in cc
  one_root _ r s _ d (clocks.invert p e q _ b at has more) (LeadsToRoot.connect _ o _ _ h rest) = let x = same_link t p (links.End e) (links.To o) at h in cc
  one_root _ r s _ _ (clocks.invert p e q _ b at has more) (clocks.invert _ o k _ d h is rest) =
      let x : q ≡ k = ap origin (same_drive ds p (drive.Inverts (source.At q)) (drive.Inverts (source.At k)) has is) in
      let y = one_root q r s b d more (subst (λ n. LeadsToRoot t ds n s d) (sym x) rest) in
      (y.0, ap not y.1)

  pub one_clock : (p : ℕ) (x y : ClockRoot) → IsClock t ds p x → IsClock t ds p y → x ≡ y
  one_clock p clock.Never clock.Never f g = refl
  one_clock p clock.Never (clock.Root r b) f g = absurd (constant_no_root p r b f g)
  one_clock p clock.Never clock.Unknown f g = absurd (g.0 f)
  one_clock p (clock.Root r b) clock.Never f g = absurd (constant_no_root p r b g f)
  one_clock p (clock.Root r b) (clock.Root s d) f g = let e = one_root p r s b d f g in ap (λ n. clock.Root n b) e.0 ∙ ap (clock.Root s) e.1
  one_clock p (clock.Root r b) clock.Unknown f g = absurd (g.1 r b f)
  one_clock p clock.Unknown clock.Never f g = absurd (f.0 g)
  one_clock p clock.Unknown (clock.Root r b) f g = absurd (f.1 r b g)
  one_clock p clock.Unknown clock.Unknown f g = refl
