-- Lists of states, made or changed cell by cell.
use Rattle.std.proofs.Common.{◌≡◌, ◌≢◌, ℕ, zero, suc, ◌+◌, ◌<◌, ◌≤◌, List, [], ◌∷◌, ◌++◌, length, get_or, set, take, Some, refl, sym, ap, subst, ◌∙◌, ⊎_elim, arith}
use Rattle.std.specs.Prelude.{slice_get}
use Rattle.std.proofs.lemmas.List.{get_or-set_same, get_or-set_other, length-set, length-append}
use Rattle.std.proofs.lemmas.Bool.{cases_eq, cases_lt}
use Rattle.std.proofs.lemmas.Option.{same_Some, slice_get-get_or, get_or_from_slice_get}
use Rattle.net_core.proofs.Basics.{get_left, get_right, get_below, get_within}
use Rattle.picked_run.specs.States.{each_cell, each_state}
use Rattle.sim_state.specs.Cells.{AreStates}

length_cells : {X Y : Type 0} (f : ℕ → X → Y) (from : ℕ) (xs : List X) → length (each_cell f from xs) ≡ length xs
length_cells f from [] = refl
length_cells f from (x ∷ xs) = ap suc (length_cells f (from + 1) xs)

cell_from : {X Y : Type 0} (f : ℕ → X → Y) (from : ℕ) (xs : List X) (i : ℕ) (x : X) → slice_get xs i ≡ Some x → slice_get (each_cell f from xs) i ≡ Some (f (from + i) x)
cell_from f from [] i x e = cc
cell_from f from (y ∷ xs) zero x e = ap (λ z. Some (f from z)) (same_Some y x e) ∙ ap (λ m. Some (f m x)) (let z : from ≡ from + 0 = omega arith in z)
cell_from f from (y ∷ xs) (suc i) x e = cell_from f (from + 1) xs i x e ∙ ap (λ m. Some (f m x)) (let z : from + 1 + i ≡ from + suc i = omega arith in z)

pub cell_at : {X Y : Type 0} (f : ℕ → X → Y) (xs : List X) (i : ℕ) (x : X) → slice_get xs i ≡ Some x → slice_get (each_cell f 0 xs) i ≡ Some (f i x)
cell_at f xs i x e = cell_from f 0 xs i x e ∙ ap (λ m. Some (f m x)) (let z : 0 + i ≡ i = omega arith in z)

state_from : {X S : Type 0} (f : ℕ → X → S → S) (from : ℕ) (xs : List X) (ss : List S) (i : ℕ) (x : X) (s : S) → slice_get xs i ≡ Some x → slice_get ss i ≡ Some s → slice_get (each_state f from xs ss) i ≡ Some (f (from + i) x s)
state_from f from [] ss i x s e g = cc
state_from f from (y ∷ xs) [] i x s e g = cc
state_from f from (y ∷ xs) (r ∷ ss) zero x s e g =
    ap (λ z. Some (f from z r)) (same_Some y x e) ∙ ap (λ z. Some (f from x z)) (same_Some r s g) ∙ ap (λ m. Some (f m x s)) (let z : from ≡ from + 0 = omega arith in z)
state_from f from (y ∷ xs) (r ∷ ss) (suc i) x s e g = state_from f (from + 1) xs ss i x s e g ∙ ap (λ m. Some (f m x s)) (let z : from + 1 + i ≡ from + suc i = omega arith in z)

pub state_at : {X S : Type 0} (f : ℕ → X → S → S) (xs : List X) (ss : List S) (i : ℕ) (x : X) (s : S) → slice_get xs i ≡ Some x → slice_get ss i ≡ Some s → slice_get (each_state f 0 xs ss) i ≡ Some (f i x s)
state_at f xs ss i x s e g = state_from f 0 xs ss i x s e g ∙ ap (λ m. Some (f m x s)) (let z : 0 + i ≡ i = omega arith in z)

-- one cell more
cells_take : {X Y : Type 0} (f : ℕ → X → Y) (from : ℕ) (xs : List X) (n : ℕ) (x : X) → slice_get xs n ≡ Some x → each_cell f from (take (n + 1) xs) ≡ each_cell f from (take n xs) ++ f (from + n) x ∷ []
cells_take f from [] n x e = cc
cells_take f from (y ∷ xs) zero x e =
    let z : from ≡ from + 0 = omega arith in
    ap (λ w. f from w ∷ []) (same_Some y x e) ∙ ap (λ m. f m x ∷ []) z
cells_take f from (y ∷ xs) (suc n) x e =
    let a : suc n + 1 ≡ suc (n + 1) = omega arith in
    let z : from + 1 + n ≡ from + suc n = omega arith in
    ap (λ m. each_cell f from (take m (y ∷ xs))) a ∙ ap (λ l. f from y ∷ l) (cells_take f (from + 1) xs n x e ∙ ap (λ m. each_cell f (from + 1) (take n xs) ++ f m x ∷ []) z)

pub cells_more : {X Y : Type 0} (f : ℕ → X → Y) (xs : List X) (n : ℕ) (x : X) (made new : List Y) (y : Y) → slice_get xs n ≡ Some x → made ≡ each_cell f 0 (take n xs) → new ≡ made ++ y ∷ [] → y ≡ f n x → new ≡ each_cell f 0 (take (n + 1) xs)
cells_more f xs n x made new y found was pushed here =
    let z : 0 + n ≡ n = omega arith in
    pushed ∙ ap (λ l. l ++ y ∷ []) was ∙ ap (λ w. each_cell f 0 (take n xs) ++ w ∷ []) (here ∙ ap (λ m. f m x) (sym z)) ∙ sym (cells_take f 0 xs n x found)

in_take : {X : Type 0} (n : ℕ) (xs : List X) (i : ℕ) → i < n → slice_get (take n xs) i ≡ slice_get xs i
in_take zero xs i h = absurd (omega arith)
in_take (suc n) [] i h = refl
in_take (suc n) (x ∷ xs) zero h = refl
in_take (suc n) (x ∷ xs) (suc i) h = in_take n xs i (omega arith)

length_take : {X : Type 0} (n : ℕ) (xs : List X) → n ≤ length xs → length (take n xs) ≡ n
length_take zero xs h = refl
length_take (suc n) [] h = absurd (omega arith)
length_take (suc n) (x ∷ xs) h = ap suc (length_take n xs (omega arith))

pub states_none : {X S : Type 0} (P : X → S → Type 0) (xs : List X) → AreStates P (take 0 xs) []
states_none P xs = record { count = refl; each = λ i x s e g. cc }

pub states_push : {X S : Type 0} (P : X → S → Type 0) (xs : List X) (n : ℕ) (x : X) (now : List S) (y : S) → slice_get xs n ≡ Some x → AreStates P (take n xs) now → P x y → AreStates P (take (n + 1) xs) (now ++ y ∷ [])
states_push {X} {S} P xs n x now y found are holds =
    let below = get_below xs n x found in
    let long : length now ≡ n = are.count ∙ length_take n xs (omega (arith, below)) in
    let more = length-append now (y ∷ []) in
    let taken = length_take (n + 1) xs (omega (arith, below)) in
    record {
      count = omega (arith, long, more, taken);
      each = λ i z s atx ats.
          let inside = get_below (now ++ y ∷ []) i s ats in
          let here : slice_get xs i ≡ Some z = sym (in_take (n + 1) xs i (omega (arith, inside, more, long))) ∙ atx in
          ⊎_elim
          (λ (low : i < n).
          let w = get_within now i (omega (arith, low, long)) in
          let same : w.0 ≡ s = same_Some w.0 s (sym (get_left now (y ∷ []) i w.0 w.1) ∙ ats) in
          are.each i z s (in_take n xs i low ∙ here) (w.1 ∙ ap (λ v. Some v) same))
          (λ (high : n ≤ i).
          let last : i ≡ n = omega (arith, high, inside, more, long) in
          let end : length now + 0 ≡ i = omega (arith, last, long) in
          let y_is : y ≡ s = same_Some y s (sym (get_right now (y ∷ []) 0) ∙ ap (slice_get (now ++ y ∷ [])) end ∙ ats) in
          let x_is : x ≡ z = same_Some x z (sym found ∙ ap (slice_get xs) (sym last) ∙ here) in
          subst (λ v. P v s) x_is (subst (P x) y_is holds))
          (cases_lt i n);
    }

pub states_begin : {X S : Type 0} (P : X → S → Type 0) (f : ℕ → X → S) (xs : List X) → ((i : ℕ) (x : X) → P x (f i x)) → AreStates P xs (each_cell f 0 xs)
states_begin P f xs holds = record {
  count = length_cells f 0 xs;
  each = λ i x s atx ats. subst (P x) (same_Some (f i x) s (sym (cell_at f xs i x atx) ∙ ats)) (holds i x);
}

pub states_set : {X S : Type 0} (P : X → S → Type 0) (xs : List X) (now : List S) (n : ℕ) (y : S) → n < length now → AreStates P xs now → ((x : X) → slice_get xs n ≡ Some x → P x y) → AreStates P xs (set now n y)
states_set P xs now n y inside are holds =
    let long = length-set now n y in
    record {
      count = long ∙ are.count;
      each = λ i x s atx ats.
          let below = get_below (set now n y) i s ats in
          let is = get_or_from_slice_get (set now n y) i s s ats in
          ⊎_elim
          (λ (same : i ≡ n).
          let y_is : y ≡ s = sym (get_or-set_same now n y s inside) ∙ ap (λ j. get_or (set now n y) j s) (sym same) ∙ is in
          subst (P x) y_is (holds x (ap (slice_get xs) (sym same) ∙ atx)))
          (λ apart.
          let was : get_or now i s ≡ s = sym (get_or-set_other now n i y s apart) ∙ is in
          are.each i x s atx (slice_get-get_or now i s (omega (arith, below, long)) ∙ ap (λ v. Some v) was))
          (cases_eq i n);
    }

-- the states below a number are those after a step, and the others as before
pub record IsSteppedBelow {X S : Type 0} (f : ℕ → X → S → S) (d : S) (xs : List X) (old now : List S) (n : ℕ) : Type 0 where
  pub count : length now ≡ length old
  pub done : (i : ℕ) → i < n → (x : X) → slice_get xs i ≡ Some x → get_or now i d ≡ f i x (get_or old i d)
  pub rest : (i : ℕ) → n ≤ i → get_or now i d ≡ get_or old i d

pub stepped_none : {X S : Type 0} (f : ℕ → X → S → S) (d : S) (xs : List X) (old : List S) → IsSteppedBelow f d xs old old 0
stepped_none f d xs old = record { count = refl; done = λ i h x e. absurd (omega arith); rest = λ i h. refl }

below_other : (i n : ℕ) → i < n + 1 → i ≢ n → i < n
below_other i n h apart = omega arith

pub stepped_more : {X S : Type 0} (f : ℕ → X → S → S) (d : S) (xs : List X) (old now : List S) (n : ℕ) (y : S) → n < length now → IsSteppedBelow f d xs old now n → ((x : X) → slice_get xs n ≡ Some x → y ≡ f n x (get_or now n d)) → IsSteppedBelow f d xs old (set now n y) (n + 1)
stepped_more f d xs old now n y inside st made = record {
  count = length-set now n y ∙ st.count;
  done = λ i h x e.
      ⊎_elim
      (λ (same : i ≡ n).
      ap (λ j. get_or (set now n y) j d) same ∙ get_or-set_same now n y d inside ∙ made x (ap (slice_get xs) (sym same) ∙ e) ∙ ap (f n x) (st.rest n (omega arith)) ∙ ap (λ j. f j x (get_or old j d)) (sym same))
      (λ apart. get_or-set_other now n i y d apart ∙ st.done i (below_other i n h apart) x e)
      (cases_eq i n);
  rest = λ i h. get_or-set_other now n i y d (λ e. absurd (omega arith)) ∙ st.rest i (omega arith);
}

states_are : {X S : Type 0} (f : ℕ → X → S → S) (d : S) (from : ℕ) (xs : List X) (old now : List S) → length now ≡ length xs → length old ≡ length xs → ((i : ℕ) (x : X) → slice_get xs i ≡ Some x → get_or now i d ≡ f (from + i) x (get_or old i d)) → now ≡ each_state f from xs old
states_are f d from [] old [] n o h = refl
states_are f d from [] old (y ∷ now) n o h = absurd (omega (arith, n))
states_are f d from (x ∷ xs) old [] n o h = absurd (omega (arith, n))
states_are f d from (x ∷ xs) [] (y ∷ now) n o h = absurd (omega (arith, o))
states_are f d from (x ∷ xs) (s ∷ old) (y ∷ now) n o h =
    let z : from + 0 ≡ from = omega arith in
    let here : y ≡ f from x s = h 0 x refl ∙ ap (λ m. f m x s) z in
    let rest = states_are f d (from + 1) xs old now (omega (arith, n)) (omega (arith, o)) (λ i w e. h (suc i) w e ∙ ap (λ m. f m w (get_or old i d)) (let t : from + suc i ≡ from + 1 + i = omega arith in t)) in
    λ i. here i ∷ rest i

pub stepped_all : {X S : Type 0} (f : ℕ → X → S → S) (d : S) (xs : List X) (old now : List S) (n : ℕ) → length old ≡ length xs → length xs ≤ n → IsSteppedBelow f d xs old now n → now ≡ each_state f 0 xs old
stepped_all f d xs old now n long all st =
    states_are f d 0 xs old now (st.count ∙ long) long (λ i x e.
    let below = get_below xs i x e in
    let z : i ≡ 0 + i = omega arith in
    st.done i (omega (arith, below, all)) x e ∙ ap (λ m. f m x (get_or old i d)) z)

pub element : {X : Type 0} (xs : List X) (n : ℕ) (x : X) → n < length xs → x ≡ get_or xs n x → slice_get xs n ≡ Some x
element xs n x h e = slice_get-get_or xs n x h ∙ ap (λ z. Some z) (sym e)

pub element_of : {X : Type 0} (xs ys : List X) (n : ℕ) (x : X) → xs ≡ ys → n < length ys → x ≡ get_or xs n x → slice_get ys n ≡ Some x
element_of xs ys n x same h e = element ys n x h (e ∙ ap (λ l. get_or l n x) same)

-- the same for a state that was read
pub stepped_at : {X S : Type 0} (f : ℕ → X → S → S) (d : S) (xs : List X) (old now : List S) (n : ℕ) (x : X) (was y : S) → slice_get xs n ≡ Some x → slice_get now n ≡ Some was → y ≡ f n x was → IsSteppedBelow f d xs old now n → IsSteppedBelow f d xs old (set now n y) (n + 1)
stepped_at f d xs old now n x was y found there made st =
    stepped_more f d xs old now n y (get_below now n was there) st (λ z e. made ∙ ap (λ w. f n w was) (same_Some x z (sym found ∙ e)) ∙ ap (f n z) (sym (get_or_from_slice_get now n was d there)))

pub states_at : {X S : Type 0} (P : X → S → Type 0) (xs : List X) (now : List S) (n : ℕ) (x : X) (was y : S) → slice_get xs n ≡ Some x → slice_get now n ≡ Some was → P x y → AreStates P xs now → AreStates P xs (set now n y)
states_at P xs now n x was y found there holds are =
    states_set P xs now n y (get_below now n was there) are (λ z e. subst (λ w. P w y) (same_Some x z (sym found ∙ e)) holds)

-- of the state of a cell
pub state_of : {X S : Type 0} (P : X → S → Type 0) (xs : List X) (states : List S) → AreStates P xs states → (i : ℕ) (x : X) → slice_get xs i ≡ Some x → i < length states
state_of P xs states are i x e =
    let below = get_below xs i x e in
    let count = are.count in
    omega (arith, below, count)
