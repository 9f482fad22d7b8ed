-- Edges of an event as a module and as a cell alone see them.
use Rattle.std.proofs.Common.{◌≡◌, ◌≢◌, ℕ, zero, suc, ◌+◌, ◌<◌, Bool, not, ◌&&◌, cond, nat_eq, List, [], ◌∷◌, map, length, Option, Some, None, refl, sym, ap, subst, ◌∙◌, ⊎_elim, arith, eq-eqb}
use Rattle.std.specs.Prelude.{slice_get, option_map}
use Rattle.std.specs.List.{position_or_len}
use Rattle.std.proofs.lemmas.Option.{same_Some}
use Rattle.std.proofs.lemmas.Bool.{cases_eq, ne_eqb, lt-ltb}
use Rattle.lib_core.specs.declared.library.Tri.{Tri}
use Rattle.lib_core.specs.declared.library.Tri.TheVariants.{Zero, One, Any}
use Rattle.net_core.specs.declared.bits.Edge.{Edge}
use Rattle.net_core.specs.declared.bits.Clock.{Clock}
use Rattle.net_core.specs.declared.bits.Clock.TheVariants.{Root, Never}
use Rattle.net_core.specs.Values.{Happening, Agrees, is_input, has_edge, same_bool}
use Rattle.net_core.specs.Ports.{edge_place}
use Rattle.ram_step.specs.declared.picks.PickKey.{PickKey}
use Rattle.ram_step.specs.Moments.{edge_nets, edge_alone}
use Rattle.sim_cells.specs.Choices.{taken}

-- an input by its net
pub place_is_input : (inputs : List ℕ) (n k : ℕ) → slice_get inputs k ≡ Some n → (position_or_len (λ m. nat_eq m n) inputs < length inputs) × ((net : ℕ) → is_input inputs (position_or_len (λ m. nat_eq m n) inputs) net ≡ nat_eq n net)
place_is_input [] n k e = cc
place_is_input (m ∷ ms) n zero e =
    let same : m ≡ n = same_Some m n e in
    let place : position_or_len (λ z. nat_eq z n) (m ∷ ms) ≡ 0 = ap (λ t. cond (not t) (1 + position_or_len (λ z. nat_eq z n) ms) 0) (eq-eqb m n same) in
    (omega (arith, place), λ net. ap (λ i. is_input (m ∷ ms) i net) place ∙ ap (λ z. nat_eq z net) same)
place_is_input (m ∷ ms) n (suc k) e =
    ⊎_elim
    (λ (same : m ≡ n).
    let place : position_or_len (λ z. nat_eq z n) (m ∷ ms) ≡ 0 = ap (λ t. cond (not t) (1 + position_or_len (λ z. nat_eq z n) ms) 0) (eq-eqb m n same) in
    let below : position_or_len (λ z. nat_eq z n) (m ∷ ms) < length (m ∷ ms) = omega (arith, place) in
    (below, λ net. ap (λ i. is_input (m ∷ ms) i net) place ∙ ap (λ z. nat_eq z net) same))
    (λ (apart : m ≢ n).
    let rest = place_is_input ms n k e in
    let low = rest.0 in
    let place : position_or_len (λ z. nat_eq z n) (m ∷ ms) ≡ suc (position_or_len (λ z. nat_eq z n) ms) = ap (λ t. cond (not t) (1 + position_or_len (λ z. nat_eq z n) ms) 0) (ne_eqb m n apart) ∙ (let z : 1 + position_or_len (λ z. nat_eq z n) ms ≡ suc (position_or_len (λ z. nat_eq z n) ms) = omega arith in z) in
    let below : position_or_len (λ z. nat_eq z n) (m ∷ ms) < length (m ∷ ms) = omega (arith, place, low) in
    (below, λ net. ap (λ i. is_input (m ∷ ms) i net) place ∙ rest.1 net))
    (cases_eq m n)

-- the edges of an event as a module and as the cell alone see it
pub edge_same : (inputs : List ℕ) (o : Option Edge) → ((d : Edge) → o ≡ Some d → (k : ℕ) × (slice_get inputs k ≡ Some d.net)) → (c : Clock) → has_edge inputs (edge_place inputs o) c ≡ has_edge (edge_nets o) (edge_alone o) c
edge_same inputs None h c = refl
edge_same inputs (Some d) h Never =
    let w = h d refl in
    let p = place_is_input inputs d.net w.0 w.1 in
    let place : edge_place inputs (Some d) ≡ Some (position_or_len (λ m. nat_eq m d.net) inputs, d.rising) =
    ap (λ t. option_map (λ q. (q, d.rising)) (cond t (Some (position_or_len (λ m. nat_eq m d.net) inputs)) None)) (lt-ltb (position_or_len (λ m. nat_eq m d.net) inputs) (length inputs) p.0) in
    ap (λ z. has_edge inputs z Never) place
edge_same inputs (Some d) h (Root net rising) =
    let w = h d refl in
    let p = place_is_input inputs d.net w.0 w.1 in
    let place : edge_place inputs (Some d) ≡ Some (position_or_len (λ m. nat_eq m d.net) inputs, d.rising) =
    ap (λ t. option_map (λ q. (q, d.rising)) (cond t (Some (position_or_len (λ m. nat_eq m d.net) inputs)) None)) (lt-ltb (position_or_len (λ m. nat_eq m d.net) inputs) (length inputs) p.0) in
    ap (λ z. has_edge inputs z (Root net rising)) place ∙ ap (λ t. t && same_bool d.rising rising) (p.1 net)

-- two ways to see a moment at which each clock has its edge or not alike
abbrev pub SeesAlike : List ℕ → Happening → List ℕ → Happening → Type 0
SeesAlike inputs e others f = (c : Clock) → has_edge inputs e.edge c ≡ has_edge others f.edge c

pub agrees_taken : (key : PickKey) (number : ℕ) (t : Tri) → Agrees t (taken key number t)
agrees_taken key number Zero = refl
agrees_taken key number One = refl
agrees_taken key number Any = tt

pub agrees_along : (key : PickKey) (number : ℕ) (t : Tri) (b : Bool) → b ≡ taken key number t → Agrees t b
agrees_along key number t b e = subst (λ z. Agrees t z) (sym e) (agrees_taken key number t)

pub back : {X Y : Type 0} (f : X → Y) (xs : List X) (t : ℕ) (y : Y) → slice_get (map f xs) t ≡ Some y → (x : X) × ((slice_get xs t ≡ Some x) × (f x ≡ y))
back f [] t y e = cc
back f (x ∷ xs) zero y e = (x, (refl, same_Some (f x) y e))
back f (x ∷ xs) (suc t) y e = back f xs t y e
