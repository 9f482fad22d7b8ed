-- Choices grouped by the names of their options.
use Rattle.std.proofs.Common.{◌≡◌, ℕ, suc, ◌+◌, ◌<◌, ◌≤◌, Bool, true, false, List, [], ◌∷◌, ◌++◌, length, map, get_or, set, refl, ◌∙◌, ap, subst, ◌||◌, if◌then◌else◌, arith}
use Rattle.std.proofs.lemmas.Slice.Eq.{bytes_eq-Decides}
use Rattle.std.specs.Str.{bytes_eq}
use Rattle.lib_core.specs.declared.library.Choice.{Choice}
use Rattle.lib_judge.specs.Names.{place_of, with_name}
use Rattle.lib_judge.specs.Variants.{first_name, has_choice, has_name, with_choice, with_value}
use Rattle.lib_judge.proofs.Looked.{turned}

-- ---- where the option stands

there_by : (b : Bool) (vs : List Choice) (axes : List (List Choice)) (c : Choice) (k : ℕ) → (k < length axes → with_choice axes c ≡ set axes k (with_value (get_or axes k []) c)) → (if b then 0 else 1 + k) < length (vs ∷ axes) → (if b then with_value vs c ∷ axes else vs ∷ with_choice axes c) ≡ set (vs ∷ axes) (if b then 0 else 1 + k) (with_value (get_or (vs ∷ axes) (if b then 0 else 1 + k) []) c)
there_by true vs axes c k ih l = refl
there_by false vs axes c k ih l =
    let e : 1 + k ≡ suc k = omega arith in
    rw e (ap (λ (xs : List (List Choice)). vs ∷ xs) (ih (omega (arith, l))))

there : (axes : List (List Choice)) (c : Choice) → place_of (map first_name axes) c.name < length axes → with_choice axes c ≡ set axes (place_of (map first_name axes) c.name) (with_value (get_or axes (place_of (map first_name axes) c.name) []) c)
unfolding with_choice place_of
there [] c l = absurd (omega arith)
there (vs ∷ axes) c l = there_by (bytes_eq c.name (first_name vs)) vs axes c (place_of (map first_name axes) c.name) (λ h. there axes c h) l

pub put_there : (axes : List (List Choice)) (c : Choice) (k : ℕ) → k ≡ place_of (map first_name axes) c.name → k < length axes → with_choice axes c ≡ set axes k (with_value (get_or axes k []) c)
put_there axes c k e l = rw e (there axes c (subst (λ (n : ℕ). n < length axes) e l))

new_by : (b : Bool) (vs : List Choice) (axes : List (List Choice)) (c : Choice) (k : ℕ) → (length axes ≤ k → with_choice axes c ≡ axes ++ (c ∷ []) ∷ []) → length (vs ∷ axes) ≤ (if b then 0 else 1 + k) → (if b then with_value vs c ∷ axes else vs ∷ with_choice axes c) ≡ (vs ∷ axes) ++ (c ∷ []) ∷ []
new_by true vs axes c k ih l = absurd (omega arith)
new_by false vs axes c k ih l = ap (λ (xs : List (List Choice)). vs ∷ xs) (ih (omega (arith, l)))

new : (axes : List (List Choice)) (c : Choice) → length axes ≤ place_of (map first_name axes) c.name → with_choice axes c ≡ axes ++ (c ∷ []) ∷ []
unfolding with_choice place_of
new [] c l = refl
new (vs ∷ axes) c l = new_by (bytes_eq c.name (first_name vs)) vs axes c (place_of (map first_name axes) c.name) (λ h. new axes c h) l

pub put_new : (axes : List (List Choice)) (c : Choice) (k : ℕ) → k ≡ place_of (map first_name axes) c.name → length axes ≤ k → with_choice axes c ≡ axes ++ (c ∷ []) ∷ []
put_new axes c k e l = new axes c (subst (λ (n : ℕ). length axes ≤ n) e l)

-- ---- the names of the options

first_by : (b : Bool) (d : Choice) (ds : List Choice) (c : Choice) → first_name (if b then d ∷ ds else (d ∷ ds) ++ c ∷ []) ≡ d.name
first_by true d ds c = refl
first_by false d ds c = refl

first_kept : (vs : List Choice) (c : Choice) → bytes_eq c.name (first_name vs) ≡ true → first_name (with_value vs c) ≡ first_name vs
first_kept [] c h = (bytes_eq-Decides c.name []).0 h
first_kept (d ∷ ds) c h = first_by (has_choice (d ∷ ds) c) d ds c

behind : (b : Bool) (m n : List ℕ) (ns : List (List ℕ)) → m ∷ (if b then ns else ns ++ n ∷ []) ≡ (if b then m ∷ ns else (m ∷ ns) ++ n ∷ [])
behind true m n ns = refl
behind false m n ns = refl

there_already : (b : Bool) (m n : List ℕ) (ns : List (List ℕ)) → b ≡ true → m ∷ ns ≡ (if b || has_name ns n then m ∷ ns else (m ∷ ns) ++ n ∷ [])
there_already true m n ns h = refl
there_already false m n ns h = absurd (cc)

not_there : (b : Bool) (m n : List ℕ) (ns : List (List ℕ)) → b ≡ false → m ∷ (if has_name ns n then ns else ns ++ n ∷ []) ≡ (if b || has_name ns n then m ∷ ns else (m ∷ ns) ++ n ∷ [])
not_there true m n ns h = absurd (cc)
not_there false m n ns h = behind (has_name ns n) m n ns

named_by : (b : Bool) (vs : List Choice) (axes : List (List Choice)) (c : Choice) → bytes_eq c.name (first_name vs) ≡ b → map first_name (with_choice axes c) ≡ with_name (map first_name axes) c.name → map first_name (if b then with_value vs c ∷ axes else vs ∷ with_choice axes c) ≡ with_name (first_name vs ∷ map first_name axes) c.name
unfolding with_name
named_by true vs axes c h ih =
    ap (λ (n : List ℕ). n ∷ map first_name axes) (first_kept vs c h)
    ∙ there_already (bytes_eq (first_name vs) c.name) (first_name vs) c.name (map first_name axes) (turned (first_name vs) c.name ∙ h)
named_by false vs axes c h ih =
    ap (λ (ns : List (List ℕ)). first_name vs ∷ ns) ih
    ∙ not_there (bytes_eq (first_name vs) c.name) (first_name vs) c.name (map first_name axes) (turned (first_name vs) c.name ∙ h)

nothing_before : (n : List ℕ) → n ∷ [] ≡ with_name [] n
unfolding with_name
nothing_before n = refl

pub names_put : (axes : List (List Choice)) (c : Choice) → map first_name (with_choice axes c) ≡ with_name (map first_name axes) c.name
unfolding with_choice
names_put [] c = nothing_before c.name
names_put (vs ∷ axes) c = named_by (bytes_eq c.name (first_name vs)) vs axes c refl (names_put axes c)
