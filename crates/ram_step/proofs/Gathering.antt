-- Hits slot by slot, and what they come to.
use Rattle.std.proofs.Common.{◌≡◌, ℕ, zero, suc, ◌+◌, ◌<◌, ◌≤◌, Bool, true, false, not, ◌&&◌, ◌||◌, cond, nat_eq, List, [], ◌∷◌, map, length, get_or, drop, Option, Some, None, refl, sym, ap, ◌∙◌, arith, eq-eqb}
use Rattle.std.specs.Prelude.{slice_get}
use Rattle.std.proofs.Math.ListN.{replicate}
use Rattle.std.proofs.lemmas.Option.{same_Some, slice_get-get_or}
use Rattle.std.proofs.lemmas.Bool.{false≢true}
use Rattle.lib_core.specs.declared.library.Tri.TheVariants.{Any}
use Rattle.lib_core.specs.Rams.{is_behind, is_before}
use Rattle.net_core.specs.Memory.{is_hit, any_hit, tri_or_any}
use Rattle.net_core.specs.Ram.{Slot, is_above, view, beats_slots, slot_winner, all_behind, all_before, slot_loads, hits_itself}
use Rattle.row_store.specs.Limbs.{bit_in}
use Rattle.row_store.specs.Rows.{tri_by, tri_in}
use Rattle.row_store.proofs.Tables.{no_bit, or_false}
use Rattle.ram_step.specs.declared.hits.Hit.{Hit}
use Rattle.ram_step.specs.declared.gathers.Choice.{Choice}
use Rattle.ram_step.specs.declared.gathers.Choice.TheVariants.{Every, Itself, Unbeaten, NotBehind, NotBefore}
use Rattle.ram_step.specs.Hits.{hit_bit}
use Rattle.ram_step.specs.Gathers.{counts, some_hit, known_bit, or_else, candidate}

pub drop_at : {X : Type 0} (xs : List X) (n : ℕ) (x : X) → slice_get xs n ≡ Some x → drop n xs ≡ x ∷ drop (n + 1) xs
drop_at [] n x e = cc
drop_at (y ∷ ys) zero x e = let same = same_Some y x e in cc
drop_at (y ∷ ys) (suc n) x e = drop_at ys n x e ∙ ap (λ m. x ∷ drop m (y ∷ ys)) (let z : suc (n + 1) ≡ suc n + 1 = omega arith in z)

pub drop_all : {X : Type 0} (xs : List X) (n : ℕ) → length xs ≤ n → drop n xs ≡ []
drop_all [] zero h = refl
drop_all [] (suc n) h = refl
drop_all (y ∷ ys) zero h = absurd (omega arith)
drop_all (y ∷ ys) (suc n) h = drop_all ys n (omega arith)

pub get_map : {X Y : Type 0} (f : X → Y) (xs : List X) (n : ℕ) (x : X) → slice_get xs n ≡ Some x → slice_get (map f xs) n ≡ Some (f x)
get_map f [] n x e = cc
get_map f (y ∷ ys) zero x e = ap (λ z. Some (f z)) (same_Some y x e)
get_map f (y ∷ ys) (suc n) x e = get_map f ys n x e

-- hits that count, from a slot on
pub some_hit_at : (c : Choice) (own : Slot) (all : List Slot) (hs : List (Option Bool)) (n : ℕ) (s : Slot) (h : Option Bool) → slice_get all n ≡ Some s → slice_get hs n ≡ Some h → some_hit c own (drop n all) (drop n hs) ≡ ((counts c own s && is_hit h) || some_hit c own (drop (n + 1) all) (drop (n + 1) hs))
some_hit_at c own all hs n s h e f = ap (λ l. some_hit c own l (drop n hs)) (drop_at all n s e) ∙ ap (some_hit c own (s ∷ drop (n + 1) all)) (drop_at hs n h f)

pub or_assoc : (a b c : Bool) → ((a || b) || c) ≡ (a || (b || c))
or_assoc true b c = refl
or_assoc false b c = refl

pub hits_more : (old new : Bool) (c : Choice) (own : Slot) (all : List Slot) (hs : List (Option Bool)) (n : ℕ) (s : Slot) (h : Option Bool) (whole : Bool) → slice_get all n ≡ Some s → slice_get hs n ≡ Some h → new ≡ (old || (counts c own s && is_hit h)) → (old || some_hit c own (drop n all) (drop n hs)) ≡ whole → (new || some_hit c own (drop (n + 1) all) (drop (n + 1) hs)) ≡ whole
hits_more old new c own all hs n s h whole e f more was =
    ap (λ t. t || some_hit c own (drop (n + 1) all) (drop (n + 1) hs)) more
    ∙ or_assoc old (counts c own s && is_hit h) (some_hit c own (drop (n + 1) all) (drop (n + 1) hs))
    ∙ ap (λ t. old || t) (sym (some_hit_at c own all hs n s h e f))
    ∙ was

pub hits_done : (bits : Bool) (c : Choice) (own : Slot) (all : List Slot) (hs : List (Option Bool)) (n : ℕ) (whole : Bool) → length all ≤ n → (bits || some_hit c own (drop n all) (drop n hs)) ≡ whole → bits ≡ whole
hits_done bits c own all hs n whole end was =
    sym (or_false bits) ∙ ap (λ l. bits || some_hit c own l (drop n hs)) (sym (drop_all all n end)) ∙ was

pub not_or : (h good rest : Bool) → ((not h || good) && not rest) ≡ not ((not good && h) || rest)
not_or true true rest = refl
not_or true false rest = refl
not_or false true rest = refl
not_or false false rest = refl

-- what the choices are for
pub beats_is : (own : Slot) (all : List Slot) (hs : List (Option Bool)) → beats_slots own all hs ≡ not (some_hit Unbeaten own all hs)
beats_is own [] hs = refl
beats_is own (s ∷ ss) [] = refl
beats_is own (s ∷ ss) (h ∷ hs) = ap (λ t. (not (is_hit h) || (nat_eq own.number s.number || is_above own s)) && t) (beats_is own ss hs) ∙ not_or (is_hit h) (nat_eq own.number s.number || is_above own s) (some_hit Unbeaten own ss hs)

pub behind_is : (own : Slot) (all : List Slot) (hs : List (Option Bool)) → all_behind own all hs ≡ not (some_hit NotBehind own all hs)
behind_is own [] hs = refl
behind_is own (s ∷ ss) [] = refl
behind_is own (s ∷ ss) (h ∷ hs) = ap (λ t. (not (is_hit h) || is_behind (view own s)) && t) (behind_is own ss hs) ∙ not_or (is_hit h) (is_behind (view own s)) (some_hit NotBehind own ss hs)

pub before_is : (own : Slot) (all : List Slot) (hs : List (Option Bool)) → all_before own all hs ≡ not (some_hit NotBefore own all hs)
before_is own [] hs = refl
before_is own (s ∷ ss) [] = refl
before_is own (s ∷ ss) (h ∷ hs) = ap (λ t. (not (is_hit h) || is_before (view own s)) && t) (before_is own ss hs) ∙ not_or (is_hit h) (is_before (view own s)) (some_hit NotBefore own ss hs)

pub any_is : (own : Slot) (all : List Slot) (hs : List (Option Bool)) → length hs ≡ length all → any_hit hs ≡ some_hit Every own all hs
any_is own [] [] e = refl
any_is own [] (h ∷ hs) e = absurd (omega (arith, e))
any_is own (s ∷ ss) [] e = refl
any_is own (s ∷ ss) (h ∷ hs) e = ap (λ t. is_hit h || t) (any_is own ss hs (omega (arith, e)))

pub and_none : (a : Bool) → (a && false) ≡ false
and_none true = refl
and_none false = refl

-- where no hit is, none counts
pub none_counts : (c : Choice) (own : Slot) (all : List Slot) (hs : List (Option Bool)) → any_hit hs ≡ false → some_hit c own all hs ≡ false
none_counts c own [] hs e = refl
none_counts c own (s ∷ ss) [] e = refl
none_counts c own (s ∷ ss) (None ∷ hs) e = ap (λ t. t || some_hit c own ss hs) (and_none (counts c own s)) ∙ none_counts c own ss hs e
none_counts c own (s ∷ ss) (Some b ∷ hs) e = cc

pub chosen_or : (c : Bool) (b : Bool) (rest : Option Bool) → cond c (Some b) rest ≡ or_else (cond c (Some b) None) rest
chosen_or true b rest = refl
chosen_or false b rest = refl

-- the winner, from a slot on
pub winner_step : (all : List Slot) (hits : List (Option Bool)) (s : Slot) (ss : List Slot) (h : Option Bool) (hs : List (Option Bool)) → slot_winner all hits (s ∷ ss) (h ∷ hs) ≡ or_else (candidate s all hits h) (slot_winner all hits ss hs)
winner_step all hits s ss None hs = refl
winner_step all hits s ss (Some b) hs = chosen_or (beats_slots s all hits) b (slot_winner all hits ss hs)

pub or_else_assoc : (a b c : Option Bool) → or_else (or_else a b) c ≡ or_else a (or_else b c)
or_else_assoc None b c = refl
or_else_assoc (Some a) b c = refl

pub or_else_none : (a : Option Bool) → or_else a None ≡ a
or_else_none None = refl
or_else_none (Some a) = refl

pub winner_more : (old new : Option Bool) (all : List Slot) (hs : List (Option Bool)) (n : ℕ) (s : Slot) (h whole : Option Bool) → slice_get all n ≡ Some s → slice_get hs n ≡ Some h → new ≡ or_else old (candidate s all hs h) → or_else old (slot_winner all hs (drop n all) (drop n hs)) ≡ whole → or_else new (slot_winner all hs (drop (n + 1) all) (drop (n + 1) hs)) ≡ whole
winner_more old new all hs n s h whole e f more was =
    ap (λ t. or_else t (slot_winner all hs (drop (n + 1) all) (drop (n + 1) hs))) more
    ∙ or_else_assoc old (candidate s all hs h) (slot_winner all hs (drop (n + 1) all) (drop (n + 1) hs))
    ∙ ap (or_else old) (sym (ap (λ l. slot_winner all hs l (drop n hs)) (drop_at all n s e) ∙ ap (slot_winner all hs (s ∷ drop (n + 1) all)) (drop_at hs n h f) ∙ winner_step all hs s (drop (n + 1) all) h (drop (n + 1) hs)))
    ∙ was

pub winner_done : (found : Option Bool) (all : List Slot) (hs : List (Option Bool)) (n : ℕ) (whole : Option Bool) → length all ≤ n → or_else found (slot_winner all hs (drop n all) (drop n hs)) ≡ whole → found ≡ whole
winner_done found all hs n whole end was = sym (or_else_none found) ∙ ap (λ l. or_else found (slot_winner all hs l (drop n hs))) (sym (drop_all all n end)) ∙ was

pub nothing_known : (count k : ℕ) → known_bit (replicate count 0) (replicate count 0) k ≡ None
nothing_known count k = ap (λ t. cond t (Some (bit_in (replicate count 0) k)) None) (no_bit count k)

pub tri_by_known : (value known : Bool) → tri_by value known ≡ tri_or_any (cond known (Some value) None)
tri_by_known true true = refl
tri_by_known false true = refl
tri_by_known true false = refl
tri_by_known false false = refl

pub tri_known : (values known : List ℕ) (k : ℕ) → tri_in values known k ≡ tri_or_any (known_bit values known k)
tri_known values known k = tri_by_known (bit_in values k) (bit_in known k)

pub element : {X : Type 0} (xs : List X) (n : ℕ) (x : X) → n < length xs → x ≡ get_or xs n x → slice_get xs n ≡ Some x
element xs n x h e = slice_get-get_or xs n x h ∙ ap (λ z. Some z) (sym e)

-- what a slot writes where none before it does
pub win_bools : (kn m beaten v hv : Bool) → cond (kn || ((m && not beaten) && not kn)) (Some ((v && not ((m && not beaten) && not kn)) || (((m && not beaten) && not kn) && hv))) None ≡ or_else (cond kn (Some v) None) (cond m (cond (not beaten) (Some hv) None) None)
win_bools true true true true hv = refl
win_bools true true true false hv = refl
win_bools true true false true hv = refl
win_bools true true false false hv = refl
win_bools true false true true hv = refl
win_bools true false true false hv = refl
win_bools true false false true hv = refl
win_bools true false false false hv = refl
win_bools false true true true hv = refl
win_bools false true true false hv = refl
win_bools false true false true hv = refl
win_bools false true false false hv = refl
win_bools false false true true hv = refl
win_bools false false true false hv = refl
win_bools false false false true hv = refl
win_bools false false false false hv = refl

pub candidate_cond : (s : Slot) (all : List Slot) (hs : List (Option Bool)) (m hv : Bool) → cond m (cond (beats_slots s all hs) (Some hv) None) None ≡ candidate s all hs (cond m (Some hv) None)
candidate_cond s all hs true hv = refl
candidate_cond s all hs false hv = refl

pub winner_bits : (s : Slot) (all : List Slot) (hs : List (Option Bool)) (m hv v kn beaten wins rv rk : Bool) → beaten ≡ some_hit Unbeaten s all hs → wins ≡ ((m && not beaten) && not kn) → rv ≡ ((v && not wins) || (wins && hv)) → rk ≡ (kn || wins) → cond rk (Some rv) None ≡ or_else (cond kn (Some v) None) (candidate s all hs (cond m (Some hv) None))
winner_bits s all hs m hv v kn beaten wins rv rk b w ev ek =
    ap (λ t. cond t (Some rv) None) ek
    ∙ ap (λ t. cond (kn || wins) (Some t) None) ev
    ∙ ap (λ t. cond (kn || t) (Some ((v && not t) || (t && hv))) None) w
    ∙ win_bools kn m beaten v hv
    ∙ ap (λ t. or_else (cond kn (Some v) None) (cond m (cond t (Some hv) None) None)) (ap not b ∙ sym (beats_is s all hs))
    ∙ ap (or_else (cond kn (Some v) None)) (candidate_cond s all hs m hv)

pub hit_here : {limbs : ℕ} (row k : ℕ) (hit : Hit limbs) (o : Option (Hit limbs)) → hit.row ≡ row → Some hit ≡ o → cond (bit_in hit.mask k) (Some (bit_in hit.value k)) None ≡ hit_bit row k o
hit_here row k hit o here same = sym (ap (λ t. cond (t && bit_in hit.mask k) (Some (bit_in hit.value k)) None) (eq-eqb hit.row row here)) ∙ ap (hit_bit row k) same

-- what a loading read takes
pub picked_one : (made a b : Bool) → ((a && made) || (b && not made)) ≡ cond made a b
picked_one true true true = refl
picked_one true true false = refl
picked_one true false true = refl
picked_one true false false = refl
picked_one false true true = refl
picked_one false true false = refl
picked_one false false true = refl
picked_one false false false = refl

pub known_one : (made late a b : Bool) → ((a && made) || ((b && not made) && not late)) ≡ cond made a (b && not late)
known_one true late true true = refl
known_one true late true false = refl
known_one true late false true = refl
known_one true late false false = refl
known_one false late true true = refl
known_one false late true false = refl
known_one false late false true = refl
known_one false late false false = refl

pub load_bools : (hit unmade late wv wk ov ok : Bool) → (hit ≡ false → late ≡ false) → tri_by (cond (hit && not unmade) wv ov) (cond (hit && not unmade) wk (ok && not late)) ≡ cond hit (cond (not unmade) (tri_by wv wk) (cond (not late) (tri_by ov ok) Any)) (tri_by ov ok)
load_bools true false late wv wk ov ok h = refl
load_bools true true true wv wk ov true h = refl
load_bools true true true wv wk ov false h = refl
load_bools true true false wv wk ov true h = refl
load_bools true true false wv wk ov false h = refl
load_bools false unmade false wv wk ov true h = refl
load_bools false unmade false wv wk ov false h = refl
load_bools false unmade true wv wk ov ok h = absurd (false≢true (sym (h refl)))

pub load_bits : (own : Slot) (all : List Slot) (hs : List (Option Bool)) (hit unmade late made wv wk ov ok rv rk : Bool) → length hs ≡ length all → hit ≡ some_hit Every own all hs → unmade ≡ some_hit NotBehind own all hs → late ≡ some_hit NotBefore own all hs → tri_by wv wk ≡ tri_or_any (slot_winner all hs all hs) → made ≡ (hit && not unmade) → rv ≡ ((wv && made) || (ov && not made)) → rk ≡ ((wk && made) || ((ok && not made) && not late)) → tri_by rv rk ≡ slot_loads own all hs (tri_by ov ok)
load_bits own all hs hit unmade late made wv wk ov ok rv rk count h u l w m ev ek =
    let any : any_hit hs ≡ hit = any_is own all hs count ∙ sym h in
    let behind : all_behind own all hs ≡ not unmade = behind_is own all hs ∙ ap not (sym u) in
    let before : all_before own all hs ≡ not late = before_is own all hs ∙ ap not (sym l) in
    let none : hit ≡ false → late ≡ false = λ e. l ∙ none_counts NotBefore own all hs (any ∙ e) in
    ap (λ t. tri_by t rk) (ev ∙ picked_one made wv ov)
    ∙ ap (λ t. tri_by (cond made wv ov) t) (ek ∙ known_one made late wk ok)
    ∙ ap (λ t. tri_by (cond t wv ov) (cond t wk (ok && not late))) m
    ∙ load_bools hit unmade late wv wk ov ok none
    ∙ sym (ap (λ t. cond t (cond (all_behind own all hs) (tri_or_any (slot_winner all hs all hs)) (cond (all_before own all hs) (tri_by ov ok) Any)) (tri_by ov ok)) any
    ∙ ap (λ t. cond hit (cond t (tri_or_any (slot_winner all hs all hs)) (cond (all_before own all hs) (tri_by ov ok) Any)) (tri_by ov ok)) behind
    ∙ ap (λ t. cond hit (cond (not unmade) t (cond (all_before own all hs) (tri_by ov ok) Any)) (tri_by ov ok)) (sym w)
    ∙ ap (λ t. cond hit (cond (not unmade) (tri_by wv wk) (cond t (tri_by ov ok) Any)) (tri_by ov ok)) before)

pub itself_is : (own : Slot) (all : List Slot) (hs : List (Option Bool)) → hits_itself own all hs ≡ some_hit Itself own all hs
itself_is own [] hs = refl
itself_is own (s ∷ ss) [] = refl
itself_is own (s ∷ ss) (h ∷ hs) = ap (λ t. (nat_eq own.number s.number && is_hit h) || t) (itself_is own ss hs)

pub only_where : (value known own : Bool) → tri_by value (known && own) ≡ cond own (tri_by value known) Any
only_where true true true = refl
only_where true true false = refl
only_where true false true = refl
only_where true false false = refl
only_where false true true = refl
only_where false true false = refl
only_where false false true = refl
only_where false false false = refl
