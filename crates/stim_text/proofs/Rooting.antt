-- The nets of clocks, clock by clock.
use Rattle.std.proofs.Common.{◌≡◌, ℕ, ◌-◌, ◌≤◌, ◌<◌, Bool, Option, Some, None, List, [], ◌∷◌, ◌++◌, length, take, drop, get_or, refl, sym, ap, ◌∙◌, arith}
use Rattle.std.proofs.Math.Seq.{take-length}
use Rattle.net_core.specs.declared.bits.Clock.{Clock}
use Rattle.net_core.specs.declared.bits.Clock.TheVariants as clock
use Rattle.net_core.specs.Ports.{read_clock}
use Rattle.stim_text.specs.Inputs.{with_net, with_roots}

pub roots_on : (t : List ℕ) (a b : List Clock) → with_roots (with_roots t a) b ≡ with_roots t (a ++ b)
unfolding with_roots
roots_on t [] b = refl
roots_on t (clock.Root n rising ∷ a) b = roots_on (with_net t n) a b
roots_on t (clock.Never ∷ a) b = roots_on t a b

pub roots_none : (t : List ℕ) → with_roots t [] ≡ t
unfolding with_roots
roots_none t = refl

pub root_added : (t : List ℕ) (c : Clock) (n : ℕ) (rising : Bool) → c ≡ clock.Root n rising → with_net t n ≡ with_roots t (c ∷ [])
unfolding with_roots
root_added t c n rising e = sym (ap (λ (k : Clock). with_roots t (k ∷ [])) e)

pub no_clock : (t : List ℕ) (o : Option Clock) → o ≡ None → t ≡ with_roots t (read_clock o)
unfolding with_roots
no_clock t o e = sym (ap (λ (k : Option Clock). with_roots t (read_clock k)) e)

pub one_clock : (t u : List ℕ) (o : Option Clock) (c : Clock) → o ≡ Some c → u ≡ with_roots t (c ∷ []) → u ≡ with_roots t (read_clock o)
one_clock t u o c e h = h ∙ sym (ap (λ (k : Option Clock). with_roots t (read_clock k)) e)

pub two_roots : (t u v : List ℕ) (a b : List Clock) → u ≡ with_roots t a → v ≡ with_roots u b → v ≡ with_roots t (a ++ b)
two_roots t u v a b e h = h ∙ ap (λ (z : List ℕ). with_roots z b) e ∙ roots_on t a b

-- a list with an item is its first one and the others
pub front : {X : Type 0} (xs : List X) (x : X) → 1 ≤ length xs → x ≡ get_or xs 0 x → xs ≡ x ∷ take (length xs - 1) (drop 1 xs)
front [] x h e = absurd (omega (arith, h))
front (y ∷ ys) x h e =
    let k : length (y ∷ ys) - 1 ≡ length ys = omega arith in
    ap (λ (z : _). z ∷ ys) (sym e) ∙ ap (λ (zs : List _). x ∷ zs) (sym (ap (λ n. take n ys) k ∙ take-length ys))

-- ---- loops: `f` gives the clocks of an item, and `clocks` those of all
module _ {X : Type 0} (f : X → List Clock) (clocks : List X → List Clock) (step : (x : X) (xs : List X) → clocks (x ∷ xs) ≡ f x ++ clocks xs) where
  pub turn : (t u all : List ℕ) (rest : List X) (x : X) → 1 ≤ length rest → x ≡ get_or rest 0 x → u ≡ with_roots t (f x) → with_roots t (clocks rest) ≡ all → with_roots u (clocks (take (length rest - 1) (drop 1 rest))) ≡ all
  turn t u all rest x long first is so_far =
      ap (λ (z : List ℕ). with_roots z (clocks (take (length rest - 1) (drop 1 rest)))) is
      ∙ roots_on t (f x) (clocks (take (length rest - 1) (drop 1 rest)))
      ∙ ap (with_roots t) (sym (step x (take (length rest - 1) (drop 1 rest))))
      ∙ ap (λ (xs : List X). with_roots t (clocks xs)) (sym (front rest x long first))
      ∙ so_far

  pub done : (t all : List ℕ) (rest : List X) → clocks [] ≡ [] → length rest < 1 → with_roots t (clocks rest) ≡ all → t ≡ all
  done t all [] none h so_far = sym (roots_none t) ∙ ap (with_roots t) (sym none) ∙ so_far
  done t all (x ∷ xs) none h so_far = absurd (omega arith)
