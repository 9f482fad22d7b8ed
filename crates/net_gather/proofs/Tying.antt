-- The connects of a module one by one, and the first of their faults.
use Rattle.std.proofs.Common.{◌≡◌, ℕ, ◌+◌, List, [], ◌∷◌, ◌++◌, Option, Some, None, refl, ap, ◌∙◌}
use Rattle.std.proofs.lemmas.Option.{same_Some}
use Rattle.rtlil_text.specs.declared.doc.Item.{Item}
use Rattle.rtlil_text.specs.declared.doc.Item.TheVariants as item
use Rattle.net_wires.specs.declared.breach.Breach.{Breach}
use Rattle.net_wires.specs.declared.source.Pair.{Pair}
use Rattle.net_wires.specs.Connects.{connect_breaches, connect_pairs}
use Rattle.net_wires.specs.Links.{PairsWithin}
use Rattle.net_wires.specs.Parts.{signal_bits}
use Rattle.net_wires.specs.Spans.{Entry, There}
use Rattle.net_wires.proofs.Reach.{pair_in, signal_in}
use Rattle.net_gather.specs.declared.fault.Fault.{Fault}
use Rattle.net_gather.specs.Faults.{at}
use Rattle.net_gather.specs.Gather.{connect_faults, item_connect_breaches, item_pairs, pairs_of}
use Rattle.net_gather.specs.Ties.{first_of, if_sound, item_ties, or_first, ties_of}
use Rattle.net_gather.proofs.Few.{both}
use Rattle.net_gather.proofs.Fitting.{at_none, front_none, rest_none}

abbrev pub first_or : Option Fault → List Fault → Option Fault
first_or (Some f) fs = Some f
first_or None fs = first_of fs

-- the faults of an item come before those behind it
pub first_turn : (f : Option Fault) (k : ℕ) (bs : List Breach) (more : List Fault) → first_or f (at k bs ++ more) ≡ first_or (or_first f k (first_of bs)) more
first_turn (Some f) k bs more = refl
first_turn None k [] more = refl
first_turn None k (b ∷ bs) more = refl

pub first_none : (fs : List Fault) → first_of fs ≡ None → fs ≡ []
first_none [] e = refl
first_none (f ∷ fs) e = absurd cc

pub first_some : (fs : List Fault) (f : Fault) → first_of fs ≡ Some f → (rest : List Fault) × (fs ≡ f ∷ rest)
first_some [] f e = absurd cc
first_some (g ∷ fs) f e = (fs, ap (λ (h : Fault). h ∷ fs) (same_Some g f e))

-- where no connect breaks a rule, all of them tie what they join
sound_pairs : (bs : List Breach) (ps : List Pair) → bs ≡ [] → if_sound bs ps ≡ ps
sound_pairs [] ps e = refl
sound_pairs (b ∷ bs) ps e = absurd cc

item_same : (names : List Entry) (i : Item) → item_connect_breaches names i ≡ [] → item_ties names i ≡ item_pairs names i
item_same names (item.Wire w) e = refl
item_same names (item.Param p) e = refl
item_same names (item.Mem m) e = refl
item_same names (item.Cell c) e = refl
item_same names (item.Connect l r) e = sound_pairs (connect_breaches names l r) (connect_pairs names l r) e

pub ties_same : (names : List Entry) (k : ℕ) (is : List Item) → connect_faults names k is ≡ [] → ties_of names is ≡ pairs_of names is
ties_same names k [] e = refl
ties_same names k (i ∷ is) e =
    let here = item_same names i (at_none k (item_connect_breaches names i) (front_none (at k (item_connect_breaches names i)) (connect_faults names (k + 1) is) e)) in
    let rest = ties_same names (k + 1) is (rest_none (at k (item_connect_breaches names i)) (connect_faults names (k + 1) is) e) in
    ap (λ (ps : List Pair). ps ++ ties_of names is) here ∙ ap (λ (ps : List Pair). item_pairs names i ++ ps) rest

-- connects join bits of wires and constants
sound_within : (n : ℕ) (bs : List Breach) (ps : List Pair) → PairsWithin n ps → PairsWithin n (if_sound bs ps)
sound_within n [] ps h = h
sound_within n (b ∷ bs) ps h = tt

pub ties_within : (n : ℕ) (names : List Entry) (is : List Item) → There n names → PairsWithin n (ties_of names is)
ties_within n names [] t = tt
ties_within n names (item.Wire w ∷ is) t = ties_within n names is t
ties_within n names (item.Param p ∷ is) t = ties_within n names is t
ties_within n names (item.Mem m ∷ is) t = ties_within n names is t
ties_within n names (item.Cell c ∷ is) t = ties_within n names is t
ties_within n names (item.Connect l r ∷ is) t =
    both n (if_sound (connect_breaches names l r) (connect_pairs names l r)) (ties_of names is)
    (sound_within n (connect_breaches names l r) (connect_pairs names l r) (pair_in n (signal_bits names l) (signal_bits names r) (signal_in n names l t) (signal_in n names r t)))
    (ties_within n names is t)
