-- What a read keeps, told by what it shows; and what a register without resets shows.
use Rattle.std.proofs.Common.{◌≡◌, ℕ, zero, suc, Bool, true, false, cond, List, Option, Some, None, refl, sym, ap, ◌∙◌, subst}
use Rattle.std.specs.Prelude.{slice_get}
use Rattle.lib_core.specs.declared.library.Tri.{Tri}
use Rattle.lib_core.specs.declared.library.Tri.TheVariants as tri
use Rattle.lib_core.specs.Rams.{tri_at}
use Rattle.net_core.specs.declared.bits.Bit.TheVariants.{Zero}
use Rattle.net_core.specs.declared.bits.Clock.{Clock}
use Rattle.net_core.specs.declared.mems.RdPort.{RdPort}
use Rattle.net_core.specs.declared.mems.WrPort.{WrPort}
use Rattle.net_core.specs.Memory.{Words, Frame, read_next, ClockedAllows}
use Rattle.net_core.specs.Values.{Wave, Happening, At, value_of, tri_of, Agrees}

settled : (t : Tri) → (b : Bool) × Agrees t b
settled tri.Zero = (false, refl)
settled tri.One = (true, refl)
settled tri.Any = (false, tt)

pub told_agrees : (b x : Bool) → x ≡ b → Agrees (tri_of b) x
told_agrees true x e = e
told_agrees false x e = e

-- A read without an asynchronous reset shows what it keeps. So it is allowed where its nets step as it does, from each moment to
-- the next one that there is.
module _ (inputs : List ℕ) (f : Frame) (ws : List WrPort) (c : Clock) (r : RdPort) (words : Words) (events : List Happening) (v : Wave) where
  abbrev pub net_at : ℕ → Option ℕ → Bool
  net_at t None = false
  net_at t (Some n) = v t n

  abbrev pub shown : ℕ → ℕ → Bool
  shown t k = net_at t (slice_get r.out k)

  abbrev last : ℕ → ℕ → Option ℕ → Option Happening → Bool
  last t k None e = false
  last t k (Some n) None = false
  last t k (Some n) (Some e) = (settled (read_next inputs f ws c r e (v t) (words t) (shown t) k n)).0

  abbrev here_or : Option Happening → Bool → Bool → Bool
  here_or (Some e) a b = a
  here_or None a b = b

  abbrev kept : ℕ → ℕ → Bool
  kept zero k = shown zero k
  kept (suc t) k = here_or (slice_get events (suc t)) (shown (suc t) k) (last t k (slice_get r.out k) (slice_get events t))

  kept_here : (t : ℕ) (e : Happening) → At events t e → (k : ℕ) → kept t k ≡ shown t k
  kept_here zero e at k = refl
  kept_here (suc t) e at k = ap (λ o. here_or o (shown (suc t) k) (last t k (slice_get r.out k) (slice_get events t))) at

  pub allowed : r.arst ≡ Zero → ((k : ℕ) → tri_at r.init_value k ≡ tri.Any) → ((t : ℕ) (e next : Happening) → At events t e → At events (suc t) next → (k n : ℕ) → slice_get r.out k ≡ Some n → Agrees (read_next inputs f ws c r e (v t) (words t) (shown t) k n) (v (suc t) n)) → ClockedAllows inputs f ws c r words events v
  allowed quiet open_start next_is = record {
    kept = kept;
    starts = λ k. subst (λ z. Agrees z (kept 0 k)) (sym (open_start k)) tt;
    shows = λ t e at k n there.
        let same : kept t k ≡ v t n = kept_here t e at k ∙ ap (net_at t) there in
        subst (λ b. Agrees (cond (value_of (v t) b) (tri_at r.arst_value k) (tri_of (kept t k))) (v t n)) (sym quiet) (told_agrees (kept t k) (v t n) (sym same));
    steps = λ t e at k n there.
        let now : kept t ≡ shown t = λ i a. kept_here t e at a i in
        subst (λ (g : ℕ → Bool). Agrees (read_next inputs f ws c r e (v t) (words t) g k n) (kept (suc t) k)) (sym now) (step t e at k n there (slice_get events (suc t)) refl);
  }
    where
      step : (t : ℕ) (e : Happening) → At events t e → (k n : ℕ) → slice_get r.out k ≡ Some n → (o : Option Happening) → slice_get events (suc t) ≡ o → Agrees (read_next inputs f ws c r e (v t) (words t) (shown t) k n) (kept (suc t) k)
      step t e at k n there (Some next) is =
          let same : kept (suc t) k ≡ v (suc t) n = kept_here (suc t) next is k ∙ ap (net_at (suc t)) there in
          subst (Agrees (read_next inputs f ws c r e (v t) (words t) (shown t) k n)) (sym same) (next_is t e next at is k n there)
      step t e at k n there None is =
          let one : kept (suc t) k ≡ last t k (slice_get r.out k) (slice_get events t) = ap (λ o. here_or o (shown (suc t) k) (last t k (slice_get r.out k) (slice_get events t))) is in
          let two : last t k (slice_get r.out k) (slice_get events t) ≡ last t k (Some n) (Some e) = (λ i. last t k (there i) (at i)) in
          subst (Agrees (read_next inputs f ws c r e (v t) (words t) (shown t) k n)) (sym (one ∙ two)) (settled (read_next inputs f ws c r e (v t) (words t) (shown t) k n)).1
