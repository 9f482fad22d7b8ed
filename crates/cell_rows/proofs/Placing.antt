-- The places of names, noted one after the other.
use Rattle.std.proofs.Common.{◌≡◌, ℕ, ◌+◌, ◌<◌, ◌≤◌, Bool, true, false, cond, List, [], length, drop, get_or, Option, None, Some, is_some, refl, ap, ◌∙◌, sym, arith}
use Rattle.std.specs.Prelude.{if◌then◌else◌}
use Rattle.std.specs.Str.{bytes_eq}
use Rattle.std.specs.Map.{lookup}
use Rattle.std.proofs.lemmas.List.{at_drop_more, at_drop_all}
use Rattle.std.proofs.lemmas.Bool.Decides.{same_from_decides}
use Rattle.std.proofs.lemmas.Slice.Eq.{bytes_eq-Decides}
use Rattle.cell_rows.specs.Kinds.{found, first_of, place_alone, place_from, place_of}

-- what is noted, and what will be, are the places
pub record Noted (names : List (List ℕ)) (i : ℕ) (place : ℕ) (places : List (List ℕ × ℕ)) : Type 0 where
  pub count : place ≡ i
  pub noted : (q : List ℕ) → first_of (found places q) (place_from place (drop i names) q) ≡ place_from 0 names q

-- one name first, and then the others
in_turn : (old here later : Option ℕ) → first_of (first_of old here) later ≡ first_of old (first_of here later)
in_turn None here later = refl
in_turn (Some p) here later = refl

alone : (test : Bool) (place : ℕ) (later : Option ℕ) → first_of (if test then Some place else None) later ≡ (if test then Some place else later)
alone true place later = refl
alone false place later = refl

pub none_noted : (names : List (List ℕ)) (places : List (List ℕ × ℕ)) → places ≡ [] → Noted names 0 0 places
none_noted names places e = record {
  count = refl;
  noted = λ q. ap (λ ps. first_of (found ps q) (place_from 0 names q)) e;
}

none_later : (o : Option ℕ) → first_of o None ≡ o
none_later None = refl
none_later (Some p) = refl

pub one_noted : (names : List (List ℕ)) (i place next : ℕ) (name d : List ℕ) (old new : List (List ℕ × ℕ)) → i < length names → name ≡ get_or names i d → next ≡ place + 1
    → ((q : List ℕ) → found new q ≡ first_of (found old q) (place_alone name place q)) → Noted names i place old → Noted names (i + 1) next new
one_noted names i place next name d old new within is up step before = record {
  count = omega (arith, before.count);
  noted = λ q.
      let later : Option ℕ = place_from next (drop (i + 1) names) q in
      let split : place_from place (drop i names) q ≡ (if bytes_eq q name then Some place else later) =
      at_drop_more (λ ns. place_from place ns q) names i d within ∙ (λ j. if bytes_eq q (sym is j) then Some place else place_from (sym up j) (drop (i + 1) names) q) in
      ap (λ o. first_of o later) (step q) ∙ in_turn (found old q) (place_alone name place q) later
      ∙ ap (first_of (found old q)) (alone (bytes_eq q name) place later ∙ sym split) ∙ before.noted q;
}

pub all_noted : (names : List (List ℕ)) (i place : ℕ) (places : List (List ℕ × ℕ)) → length names ≤ i → Noted names i place places → (q : List ℕ) → found places q ≡ place_of names q
unfolding place_of
all_noted names i place places past h q =
    sym (none_later (found places q)) ∙ ap (first_of (found places q)) (sym (at_drop_all (λ ns. place_from place ns q) names i past)) ∙ h.noted q

-- ---- noting one name

in_order : (x y : List ℕ) → bytes_eq x y ≡ bytes_eq y x
in_order x y =
    let d = bytes_eq-Decides x y in
    let e = bytes_eq-Decides y x in
    same_from_decides (bytes_eq x y) (bytes_eq y x) d ((λ h. sym (e.0 h)), (λ h. e.1 (sym h)))

at_name : (b : Bool) (name q : List ℕ) (places : List (List ℕ × ℕ)) → is_some (lookup (bytes_eq name) places) ≡ b → bytes_eq q name ≡ true → is_some (lookup (bytes_eq q) places) ≡ b
at_name b name q places h e =
    let same : q ≡ name = (bytes_eq-Decides q name).0 e in
    ap (λ n. is_some (lookup (bytes_eq n) places)) same ∙ h

stays : (t : Bool) (place : ℕ) (o : Option ℕ) → (t ≡ true → is_some o ≡ true) → o ≡ first_of o (if t then Some place else None)
stays true place None h = absurd (let e = h refl in cc)
stays false place None h = refl
stays t place (Some p) h = refl

-- a name that is there stays
pub there : (name : List ℕ) (place : ℕ) (old : List (List ℕ × ℕ)) → is_some (lookup (bytes_eq name) old) ≡ true → (q : List ℕ) → found old q ≡ first_of (found old q) (place_alone name place q)
there name place old h q = stays (bytes_eq q name) place (lookup (bytes_eq q) old) (at_name true name q old h)

comes : (t : Bool) (place : ℕ) (o n : Option ℕ) → (t ≡ true → is_some o ≡ false) → n ≡ cond t (Some place) o → n ≡ first_of o (if t then Some place else None)
comes true place None n h e = e
comes false place None n h e = e
comes true place (Some p) n h e = absurd (let k = h refl in cc)
comes false place (Some p) n h e = e

pub added : (name key : List ℕ) (place : ℕ) (old new : List (List ℕ × ℕ)) → is_some (lookup (bytes_eq name) old) ≡ false → key ≡ name → ((q : List ℕ) → lookup (bytes_eq q) new ≡ cond (bytes_eq key q) (Some place) (lookup (bytes_eq q) old)) → (q : List ℕ) → found new q ≡ first_of (found old q) (place_alone name place q)
added name key place old new h same says q =
    comes (bytes_eq q name) place (lookup (bytes_eq q) old) (lookup (bytes_eq q) new) (at_name false name q old h) (says q ∙ ap (λ k. cond (bytes_eq k q) (Some place) (lookup (bytes_eq q) old)) same ∙ ap (λ b. cond b (Some place) (lookup (bytes_eq q) old)) (in_order name q))
