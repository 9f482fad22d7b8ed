-- Nets that are marked as driven, and the others.
use Rattle.std.proofs.Common.{◌≡◌, ◌≢◌, ℕ, zero, suc, ◌+◌, ◌<◌, ◌≤◌, Bool, true, false, List, [], ◌∷◌, ◌++◌, inl, inr, map, take, length, get_or, Some, refl, sym, ap, ◌∙◌, subst, ⊎_elim, arith}
use Rattle.std.specs.Prelude.{slice_get, replicate}
use Rattle.std.proofs.lemmas.Bool.{cases_eq}
use Rattle.std.proofs.lemmas.Option.{same_Some, slice_get-get_or}
use Rattle.net_core.specs.declared.modules.Module.{Module}
use Rattle.net_core.specs.Values.{bit_at}
use Rattle.net_core.specs.Nodes.{Node, NetsWithin, IsNodeOrder, nodes_of}
use Rattle.net_core.specs.Ports.{inputs_of}
use Rattle.net_core.proofs.Basics.{get_left, get_right, get_joined}
use Rattle.picked_run.specs.Settled.{IsFree}
use Rattle.sim_settle.specs.declared.places.NodePlace.{NodePlace}
use Rattle.sim_settle.specs.declared.places.NodePlace.TheVariants as place
use Rattle.sim_settle.specs.Nets.{IsAmong, AreBelow}
use Rattle.sim_settle.specs.Places.{node_at, places_of, place_by, IsPlaceOrder}
use Rattle.sim_settle.specs.Marks.{IsUndriven, IsUnmarked, unmarked_one}
use Rattle.sim_settle.proofs.Placing.{node_stands, places_count, places_ordered}

pub place_read : (work : List NodePlace) (i : ℕ) → i < length work → slice_get work i ≡ Some (get_or work i (place.Comb 0))
place_read work i lt = slice_get-get_or work i (place.Comb 0) lt

pub nets_below : (m : Module) → NetsWithin m → (at : NodePlace) (p : Node) → node_at m at ≡ Some p → (nets : List ℕ) → nets ≡ p.drives → AreBelow m.nets nets
nets_below m within at p hp nets e k n hk =
    let w = node_stands m at p hp in
    within.drives w.0 p w.1 n (k, ap (λ l. slice_get l k) (sym e) ∙ hk)

pub apart_from : (m : Module) (n : ℕ) → IsUndriven m n → (at : NodePlace) (p : Node) → node_at m at ≡ Some p → (nets : List ℕ) → nets ≡ p.drives → IsAmong nets n → ⊥
apart_from m n undriven at p hp nets e (k, hk) = undriven at p hp (k, ap (λ l. slice_get l k) (sym e) ∙ hk)

pub free_undriven : (m : Module) (n : ℕ) → IsFree m n → IsUndriven m n
free_undriven m n free at p h drives = let w = node_stands m at p h in free.nodes w.0 p w.1 drives

pub free_inputs : (m : Module) (n : ℕ) → IsFree m n → (inputs : List ℕ) → inputs ≡ inputs_of m → IsAmong inputs n → ⊥
free_inputs m n free inputs e (k, hk) = free.inputs k (ap (λ l. slice_get l k) (sym e) ∙ hk)

below : (k i : ℕ) → k < i + 1 → k ≢ i → k < i
below k i lt apart = omega arith

-- the width is that of the places so far
abbrev pub ReachesTo : Module → List NodePlace → ℕ → ℕ → Type 0
ReachesTo m work count width = (a : ℕ) (at : NodePlace) (p : Node) → a < count → slice_get work a ≡ Some at → node_at m at ≡ Some p → length p.drives ≤ width

pub reaches_more : (m : Module) (work : List NodePlace) (i width next : ℕ) (at : NodePlace) (nets : List ℕ) → slice_get work i ≡ Some at → ((p : Node) → node_at m at ≡ Some p → nets ≡ p.drives) → width ≤ next → length nets ≤ next → ReachesTo m work i width → ReachesTo m work (i + 1) next
reaches_more m work i width next at nets here drives keeps covers so_far a q p lt ha hp =
    ⊎_elim
    (λ (same : a ≡ i).
    let e : at ≡ q = same_Some at q (sym here ∙ ap (slice_get work) (sym same) ∙ ha) in
    let long = ap length (drives p (ap (node_at m) e ∙ hp)) in
    omega (arith, long, covers))
    (λ (other : a ≢ i). let early = so_far a q p (below a i lt other) ha hp in omega (arith, early, keeps))
    (cases_eq a i)

clear : (n k : ℕ) → bit_at (replicate n false) k ≡ false
clear zero k = refl
clear (suc n) zero = refl
clear (suc n) (suc k) = clear n k

pub none_set : (marks : List Bool) (n k : ℕ) → marks ≡ replicate n false → bit_at marks k ≡ false
none_set marks n k e = ap (λ l. bit_at l k) e ∙ clear n k

length_clear : (n : ℕ) → length (replicate n false) ≡ n
length_clear zero = refl
length_clear (suc n) = ap suc (length_clear n)

pub none_long : (marks : List Bool) (n : ℕ) → marks ≡ replicate n false → length marks ≡ n
none_long marks n e = ap length e ∙ length_clear n

false_true : false ≡ true → ⊥
false_true e = cc

nothing : (j n : ℕ) → slice_get {X = ℕ} [] j ≡ Some n → ⊥
nothing j n h = cc

one_below : (i j n : ℕ) → slice_get (i ∷ []) j ≡ Some n → n < i + 1
one_below i zero n h = let e = same_Some i n h in omega (arith, e)
one_below i (suc j) n h = absurd (nothing j n h)

pub unmarked_none : (marks : List Bool) → IsUnmarked marks 0 []
unmarked_none marks = record { all = λ n lt h. absurd (omega (arith, lt)); within = λ k n h. cc }

pub unmarked_more : (marks : List Bool) (nets next : List ℕ) (i : ℕ) (driven : Bool) → bit_at marks i ≡ driven → next ≡ nets ++ unmarked_one i driven → IsUnmarked marks i nets → IsUnmarked marks (i + 1) next
unmarked_more marks nets next i true is pushed so_far =
    let P : List ℕ → Type 0 = λ l. IsUnmarked marks (i + 1) l in
    let same : IsUnmarked marks (i + 1) (nets ++ []) = record {
      all = λ n lt h.
          let other : n ≢ i = λ e. false_true (sym h ∙ ap (bit_at marks) e ∙ is) in
          let w = so_far.all n (below n i lt other) h in
          (w.0, get_left nets [] w.0 n w.1);
      within = λ k n h. elim (get_joined nets [] k n h) [ inl g ↦ (let lt = so_far.within k n g in omega (arith, lt)) | inr (j, e, g) ↦ absurd (nothing j n g) ];
    } in
    subst P (sym pushed) same
unmarked_more marks nets next i false is pushed so_far =
    let P : List ℕ → Type 0 = λ l. IsUnmarked marks (i + 1) l in
    let more : IsUnmarked marks (i + 1) (nets ++ i ∷ []) = record {
      all = λ n lt h.
          ⊎_elim
          (λ (same : n ≡ i). (length nets + 0, get_right nets (i ∷ []) 0 ∙ ap Some (sym same)))
          (λ (other : n ≢ i). let w = so_far.all n (below n i lt other) h in (w.0, get_left nets (i ∷ []) w.0 n w.1))
          (cases_eq n i);
      within = λ k n h. elim (get_joined nets (i ∷ []) k n h) [ inl g ↦ (let lt = so_far.within k n g in omega (arith, lt)) | inr (j, e, g) ↦ one_below i j n g ];
    } in
    subst P (sym pushed) more

pub taken_within : (m : Module) (order taken : List ℕ) (places : List NodePlace) → IsNodeOrder (nodes_of m) order → taken ≡ order → places ≡ places_of m → AreBelow (length places) taken
taken_within m order taken places o e f k n hk =
    let lt = o.within k n (ap (λ l. slice_get l k) (sym e) ∙ hk) in
    let same = places_count m in
    let long = ap length f in
    omega (arith, lt, same, long)

pub work_is : (m : Module) (order taken : List ℕ) (places work : List NodePlace) → IsNodeOrder (nodes_of m) order → taken ≡ order → places ≡ places_of m → work ≡ map (place_by places) taken → IsPlaceOrder m work
work_is m order taken places work o e f is =
    let all = is ∙ ap (λ l. map (place_by places) l) e ∙ ap (λ l. map (place_by l) order) f in
    subst (IsPlaceOrder m) (sym all) (places_ordered m order o)

-- the part of a buffer that a slice of it became
pub front : {X : Type 0} (n : ℕ) (xs rest : List X) → length xs ≡ n → take n (xs ++ rest) ≡ xs
front zero [] rest e = refl
front zero (x ∷ xs) rest e = absurd (omega (arith, e))
front (suc n) [] rest e = absurd (omega (arith, e))
front (suc n) (x ∷ xs) rest e = ap (λ l. x ∷ l) (front n xs rest (omega (arith, e)))
