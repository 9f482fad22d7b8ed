-- Inputs by their names, and values from a place on.
use Rattle.std.proofs.Common.{◌≡◌, ℕ, ◌+◌, ◌≤◌, Bool, true, List, [], ◌∷◌, ◌++◌, length, map, Option, Some, None, cond, refl, sym, ap, ◌∙◌, arith}
use Rattle.std.specs.Prelude.{◌&&◌, is_some, not}
use Rattle.std.specs.Map.{lookup}
use Rattle.std.specs.Str.{bytes_eq}
use Rattle.std.proofs.lemmas.List.{set_past}
use Rattle.std.proofs.lemmas.Bool.{false≢true}
use Rattle.stim_text.specs.declared.names.Span.{Span}
use Rattle.stim_text.specs.Inputs.{Wires, Pins, wire_at, pin_at, with_wire, with_pin}
use Rattle.stim_text.specs.Stimulus.{put}

-- ---- values

pub put_past : (place : ℕ) (bits values : List Bool) → length values ≤ place → put place bits values ≡ values
unfolding put
put_past place [] values h = refl
put_past place (b ∷ bits) values h = ap (put (place + 1) bits) (set_past values place b h) ∙ put_past (place + 1) bits values (omega arith)

-- ---- names

pub wire_found : {K : Type 0} (v : K → List ℕ) (n : List ℕ) (es : List (K × Span)) → lookup (λ k. bytes_eq n (v k)) es ≡ wire_at (map (λ e. (v e.0, e.1)) es) n
unfolding wire_at
wire_found v n [] = refl
wire_found v n (e ∷ es) = ap (λ (o : Option Span). cond (bytes_eq n (v e.0)) (Some e.1) o) (wire_found v n es)

pub pin_found : {K : Type 0} (v w : K → List ℕ) (cell pin : List ℕ) (es : List (K × Span)) → lookup (λ k. bytes_eq cell (v k) && bytes_eq pin (w k)) es ≡ pin_at (map (λ e. ((v e.0, w e.0), e.1)) es) cell pin
unfolding pin_at
pin_found v w cell pin [] = refl
pin_found v w cell pin (e ∷ es) = ap (λ (o : Option Span). cond (bytes_eq cell (v e.0) && bytes_eq pin (w e.0)) (Some e.1) o) (pin_found v w cell pin es)

pub is_nothing : {X : Type 0} (o : Option X) (b : Bool) → is_some o ≡ not b → b ≡ true → o ≡ None
is_nothing None b e h = refl
is_nothing (Some x) b e h = absurd (false≢true (sym (e ∙ ap not h)))

pub map_push : {X Y : Type 0} (f : X → Y) (xs : List X) (x : X) → map f (xs ++ x ∷ []) ≡ map f xs ++ f x ∷ []
map_push f [] x = refl
map_push f (y ∷ ys) x = ap (λ (zs : List _). f y ∷ zs) (map_push f ys x)

pub wire_new : (t : Wires) (n : List ℕ) (s : Span) (o : Option Span) → o ≡ wire_at t n → o ≡ None → with_wire t n s ≡ t ++ (n, s) ∷ []
unfolding with_wire
wire_new t n s o e h = rw (← e, h) refl

pub wire_old : (t : Wires) (n : List ℕ) (s found : Span) → wire_at t n ≡ Some found → with_wire t n s ≡ t
unfolding with_wire
wire_old t n s found e = rw e refl

pub pin_new : (t : Pins) (cell pin : List ℕ) (s : Span) (o : Option Span) → o ≡ pin_at t cell pin → o ≡ None → with_pin t cell pin s ≡ t ++ ((cell, pin), s) ∷ []
unfolding with_pin
pin_new t cell pin s o e h = rw (← e, h) refl

pub pin_old : (t : Pins) (cell pin : List ℕ) (s found : Span) → pin_at t cell pin ≡ Some found → with_pin t cell pin s ≡ t
unfolding with_pin
pin_old t cell pin s found e = rw e refl
