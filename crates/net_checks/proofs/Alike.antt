-- Where places lead, and which lie on rings, is one list each.
use Rattle.std.proofs.Common.{◌≡◌, ℕ, suc, ◌<◌, Bool, true, false, List, [], ◌∷◌, length, Some, refl, sym, ap, ◌∙◌, arith}
use Rattle.std.specs.Prelude.{slice_get}
use Rattle.std.proofs.lemmas.Option.{same_Some, slice_get_within}
use Rattle.net_wires.specs.declared.clock.ClockRoot.{ClockRoot}
use Rattle.net_wires.specs.declared.clock.Drive.{Drive}
use Rattle.net_wires.specs.declared.link.Link.{Link}
use Rattle.net_wires.specs.Clocks.{AreClocks}
use Rattle.net_wires.specs.Ties.{Marks}
use Rattle.net_wires.proofs.OneClock.{one_clock}

same_list : {X : Type 0} (xs ys : List X) → length xs ≡ length ys → ((i : ℕ) (x y : X) → slice_get xs i ≡ Some x → slice_get ys i ≡ Some y → x ≡ y) → xs ≡ ys
same_list [] [] e h = refl
same_list [] (y ∷ ys) e h = absurd (omega (arith, e))
same_list (x ∷ xs) [] e h = absurd (omega (arith, e))
same_list (x ∷ xs) (y ∷ ys) e h = ap (λ z. z ∷ xs) (h 0 x y refl refl) ∙ ap (λ zs. y ∷ zs) (same_list xs ys (omega (arith, e)) (λ i a b. h (suc i) a b))

pub one_clocks : (t : List Link) (ds : List Drive) (xs ys : List ClockRoot) → AreClocks t ds xs → AreClocks t ds ys → xs ≡ ys
one_clocks t ds xs ys a b = same_list xs ys (a.long ∙ sym b.long) (λ i x y at is. one_clock t ds i x y (a.each i x at) (b.each i y is))

same_truth : (a b : Bool) → (a ≡ true → b ≡ true) → (b ≡ true → a ≡ true) → a ≡ b
same_truth true b f g = sym (f refl)
same_truth false true f g = g refl
same_truth false false f g = refl

on_too : (t : List Link) (xs ys : List Bool) (i : ℕ) (y : Bool) → Marks t xs → Marks t ys → slice_get xs i ≡ Some true → slice_get ys i ≡ Some y → y ≡ true
on_too t xs ys i y a b at is =
    let there : i < length t = omega (arith, slice_get_within xs i true at, a.long) in
    same_Some y true (sym is ∙ b.whole i there (a.sound i at))

pub one_marks : (t : List Link) (xs ys : List Bool) → Marks t xs → Marks t ys → xs ≡ ys
one_marks t xs ys a b =
    same_list xs ys (a.long ∙ sym b.long)
    (λ i x y at is. same_truth x y (λ e. on_too t xs ys i y a b (at ∙ ap Some e) is) (λ e. on_too t ys xs i x b a (is ∙ ap Some e) at))
