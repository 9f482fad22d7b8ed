-- What the writes make of a place of the words, one bit and one write after the other.
use Rattle.std.proofs.Common.{◌≡◌, ℕ, zero, suc, ◌+◌, ◌-◌, ◌*◌, ◌^◌, ◌<◌, ◌≤◌, Bool, true, false, ◌&&◌, ◌||◌, cond, nat_eq, nat_le, nat_lt, List, [], ◌∷◌, map, length, get_or, set, take, Option, Some, None, refl, sym, ap, ◌∙◌, ⊎_elim, arith, eq-eqb}
use Rattle.std.specs.Prelude.{slice_get}
use Rattle.std.proofs.lemmas.Bool.{cases_eq, cases_order, ne_eqb, lt-ltb, le-ltb, le-leb, ltb-true, leb-true, eqb-true}
use Rattle.std.proofs.lemmas.List.{get_or-set_same, get_or-set_other}
use Rattle.std.proofs.lemmas.Option.{same_Some}
use Rattle.lib_core.specs.declared.library.Tri.{Tri}
use Rattle.lib_core.specs.declared.library.Tri.TheVariants.{Any}
use Rattle.lib_core.specs.Rams.{tri_at}
use Rattle.net_core.specs.declared.bits.Bit.{Bit}
use Rattle.net_core.specs.declared.mems.Mem.{Mem}
use Rattle.net_core.specs.declared.mems.WrPort.{WrPort}
use Rattle.net_core.specs.Values.{Valuation, values_of, bit_at}
use Rattle.net_core.specs.Memory.{is_hit, any_hit, winner, tri_or_any, written}
use Rattle.net_core.proofs.Basics.{get_within}
use Rattle.row_store.proofs.Tables.{tri_at_is}
use Rattle.sim_cells.specs.Places.{base_hit, base_hits, place_of}
use Rattle.sim_cells.specs.Writes.{own_hit, won_at}

pub length_hits : (x : Mem) (v : Valuation) (p : ℕ) (ws : List WrPort) (bases : List (Option ℕ)) → length bases ≡ length ws → length (base_hits x v p ws bases) ≡ length ws
length_hits x v p [] bases e = refl
length_hits x v p (w ∷ ws) [] e = absurd (omega (arith, e))
length_hits x v p (w ∷ ws) (b ∷ bs) e = ap suc (length_hits x v p ws bs (omega (arith, e)))

pub hits_at : (x : Mem) (v : Valuation) (p : ℕ) (ws : List WrPort) (bases : List (Option ℕ)) (i : ℕ) (w : WrPort) → length bases ≡ length ws → slice_get ws i ≡ Some w → get_or (base_hits x v p ws bases) i None ≡ base_hit x v p w (get_or bases i None)
hits_at x v p [] bases i w e h = cc
hits_at x v p (y ∷ ws) [] i w e h = absurd (omega (arith, e))
hits_at x v p (y ∷ ws) (b ∷ bs) zero w e h = ap (λ z. base_hit x v p z b) (same_Some y w h)
hits_at x v p (y ∷ ws) (b ∷ bs) (suc i) w e h = hits_at x v p ws bs i w (omega (arith, e)) h

pub hits_listed : (x : Mem) (v : Valuation) (p : ℕ) (ws : List WrPort) (bases : List (Option ℕ)) (hs : List (Option Bool)) → length bases ≡ length ws → length hs ≡ length ws → ((i : ℕ) (w : WrPort) → slice_get ws i ≡ Some w → get_or hs i None ≡ base_hit x v p w (get_or bases i None)) → hs ≡ base_hits x v p ws bases
hits_listed x v p [] bases [] e f h = refl
hits_listed x v p [] bases (k ∷ hs) e f h = absurd (omega (arith, f))
hits_listed x v p (w ∷ ws) [] hs e f h = absurd (omega (arith, e))
hits_listed x v p (w ∷ ws) (b ∷ bs) [] e f h = absurd (omega (arith, f))
hits_listed x v p (w ∷ ws) (b ∷ bs) (k ∷ hs) e f h =
    let here : k ≡ base_hit x v p w b = h 0 w refl in
    let rest = hits_listed x v p ws bs hs (omega (arith, e)) (omega (arith, f)) (λ i y found. h (suc i) y found) in
    λ i. here i ∷ rest i

pub bases_listed : (f : WrPort → Option ℕ) (ws : List WrPort) (bases : List (Option ℕ)) → length bases ≡ length ws → ((i : ℕ) (w : WrPort) → slice_get ws i ≡ Some w → get_or bases i None ≡ f w) → bases ≡ map f ws
bases_listed f [] [] e h = refl
bases_listed f [] (b ∷ bs) e h = absurd (omega (arith, e))
bases_listed f (w ∷ ws) [] e h = absurd (omega (arith, e))
bases_listed f (w ∷ ws) (b ∷ bs) e h =
    let here : b ≡ f w = h 0 w refl in
    let rest = bases_listed f ws bs (omega (arith, e)) (λ i y found. h (suc i) y found) in
    λ i. here i ∷ rest i

-- one place is written
pub tri_set : (xs : List Tri) (at p : ℕ) (t : Tri) → at < length xs → tri_at (set xs at t) p ≡ cond (nat_eq p at) t (tri_at xs p)
tri_set xs at p t inside =
    tri_at_is (set xs at t) p
    ∙ ⊎_elim
    (λ (same : p ≡ at). ap (λ j. get_or (set xs at t) j Any) same ∙ get_or-set_same xs at t Any inside ∙ sym (ap (λ b. cond b t (tri_at xs p)) (eq-eqb p at same)))
    (λ apart. get_or-set_other xs at p t Any apart ∙ sym (tri_at_is xs p) ∙ sym (ap (λ b. cond b t (tri_at xs p)) (ne_eqb p at apart)))
    (cases_eq p at)

-- places and bits that are counted from address 0
pub eq_moved : (start p at bit : ℕ) → bit ≡ start + at → nat_eq (start + p) bit ≡ nat_eq p at
eq_moved start p at bit e =
    ⊎_elim
    (λ (same : p ≡ at). eq-eqb (start + p) bit (omega (arith, same, e)) ∙ sym (eq-eqb p at same))
    (λ apart. ne_eqb (start + p) bit (λ f. apart (omega (arith, f, e))) ∙ sym (ne_eqb p at apart))
    (cases_eq p at)

pub hit_before : (x : Mem) (v : Valuation) (p : ℕ) (w : WrPort) (base : ℕ) → is_hit (base_hit x v p w (Some base)) ≡ true → (base ≤ x.offset * x.width + p) × (x.offset * x.width + p < base + length w.en)
hit_before x v p w base h =
    let bit = x.offset * x.width + p in
    let all = hit_test (nat_le base bit && nat_lt bit (base + x.width * 2 ^ w.wide) && bit_at (values_of v w.en) (bit - base)) (bit_at (values_of v w.value) (bit - base)) h in
    let low = leb-true base bit (front (nat_le base bit) (nat_lt bit (base + x.width * 2 ^ w.wide)) (front (nat_le base bit && nat_lt bit (base + x.width * 2 ^ w.wide)) (bit_at (values_of v w.en) (bit - base)) all)) in
    let lane = within v w.en (bit - base) (behind (nat_le base bit && nat_lt bit (base + x.width * 2 ^ w.wide)) (bit_at (values_of v w.en) (bit - base)) all) in
    (low, omega (arith, low, lane))
  where
    hit_test : (t b : Bool) → is_hit (cond t (Some b) None) ≡ true → t ≡ true
    hit_test true b e = refl
    hit_test false b e = e

    front : (a b : Bool) → (a && b) ≡ true → a ≡ true
    front true b e = refl
    front false b e = e

    behind : (a b : Bool) → (a && b) ≡ true → b ≡ true
    behind true b e = e
    behind false b e = cc

    within : (u : Valuation) (bits : List Bit) (k : ℕ) → bit_at (values_of u bits) k ≡ true → k < length bits
    within u [] k e = cc
    within u (b ∷ bs) zero e = omega arith
    within u (b ∷ bs) (suc k) e = let i = within u bs k e in omega (arith, i)

pub lt_more : (a b c : ℕ) → c ≡ b + 1 → nat_lt a c ≡ (nat_eq a b || nat_lt a b)
lt_more a b c e =
    ⊎_elim
    (λ (same : a ≡ b). lt-ltb a c (omega (arith, same, e)) ∙ sym (ap (λ t. t || nat_lt a b) (eq-eqb a b same)))
    (λ order. ⊎_elim
    (λ (less : a < b). lt-ltb a c (omega (arith, less, e)) ∙ sym (ap (λ t. nat_eq a b || t) (lt-ltb a b less) ∙ or_true (nat_eq a b)))
    (λ (more : b < a). le-ltb a c (omega (arith, more, e)) ∙ sym (ap (λ t. t || nat_lt a b) (ne_eqb a b (λ f. absurd (omega (arith, f, more)))) ∙ le-ltb a b (omega (arith, more))))
    order)
    (cases_order a b)
  where
    or_true : (t : Bool) → (t || true) ≡ true
    or_true true = refl
    or_true false = refl

-- a lane more is written
pub lane_more : (eq lt lt' hit : Bool) (new before won old : Tri) → lt' ≡ (eq || lt) → new ≡ cond (eq && hit) won before → before ≡ cond (hit && lt) won old → new ≡ cond (hit && lt') won old
lane_more true lt lt' true new before won old e f g = f ∙ sym (ap (λ t. cond (true && t) won old) e)
lane_more true lt lt' false new before won old e f g = f ∙ g
lane_more false lt lt' true new before won old e f g = f ∙ g ∙ sym (ap (λ t. cond (true && t) won old) e)
lane_more false lt lt' false new before won old e f g = f ∙ g

-- before the first lane nothing is written; after the last all that is hit
pub no_lane : (hit lt : Bool) (won old : Tri) → (hit ≡ true → lt ≡ false) → old ≡ cond (hit && lt) won old
no_lane true lt won old h = sym (ap (λ t. cond (true && t) won old) (h refl))
no_lane false lt won old h = refl

pub all_lanes : (hit lt : Bool) (new won old : Tri) → (hit ≡ true → lt ≡ true) → new ≡ cond (hit && lt) won old → new ≡ cond hit won old
all_lanes true lt new won old h e = e ∙ ap (λ t. cond (true && t) won old) (h refl)
all_lanes false lt new won old h e = e

or_none : (a : Bool) → (a || false) ≡ a
or_none true = refl
or_none false = refl

or_assoc : (a b c : Bool) → (a || (b || c)) ≡ ((a || b) || c)
or_assoc true b c = refl
or_assoc false b c = refl

pub any_take : (hs : List (Option Bool)) (n : ℕ) → n < length hs → any_hit (take (n + 1) hs) ≡ (any_hit (take n hs) || is_hit (get_or hs n None))
any_take [] n h = absurd (omega (arith, h))
any_take (g ∷ gs) zero h = or_none (is_hit g)
any_take (g ∷ gs) (suc n) h = ap (λ m. any_hit (take m (g ∷ gs))) (let z : suc n + 1 ≡ suc (n + 1) = omega arith in z) ∙ ap (λ t. is_hit g || t) (any_take gs n (omega (arith, h))) ∙ or_assoc (is_hit g) (any_hit (take n gs)) (is_hit (get_or gs n None))

pub take_whole : {X : Type 0} (xs : List X) (n : ℕ) → length xs ≤ n → take n xs ≡ xs
take_whole [] zero h = refl
take_whole [] (suc n) h = refl
take_whole (x ∷ xs) zero h = absurd (omega (arith, h))
take_whole (x ∷ xs) (suc n) h = ap (λ l. x ∷ l) (take_whole xs n (omega (arith, h)))

pub written_more : (hit any whole : Bool) (new w before old : Tri) → whole ≡ (any || hit) → new ≡ cond hit w before → before ≡ cond any w old → new ≡ cond whole w old
written_more true true whole new w before old e f g = f ∙ ap (λ t. cond t w old) (sym e)
written_more true false whole new w before old e f g = f ∙ ap (λ t. cond t w old) (sym e)
written_more false true whole new w before old e f g = f ∙ g ∙ ap (λ t. cond t w old) (sym e)
written_more false false whole new w before old e f g = f ∙ g ∙ ap (λ t. cond t w old) (sym e)

-- a place of the words by its bit
pub place_there : (x : Mem) (bit q : ℕ) → place_of x bit ≡ Some q → (bit ≡ x.offset * x.width + q) × (q < x.size * x.width)
place_there x bit q h =
    let start = x.offset * x.width in
    let parts = some_of (nat_le start bit && nat_lt bit (start + x.size * x.width)) (bit - start) q h in
    let low = leb-true start bit (front (nat_le start bit) (nat_lt bit (start + x.size * x.width)) parts.0) in
    let high = ltb-true bit (start + x.size * x.width) (behind (nat_le start bit) (nat_lt bit (start + x.size * x.width)) parts.0) in
    let e = parts.1 in
    (omega (arith, low, e), omega (arith, low, high, e))
  where
    some_of : (t : Bool) (p o : ℕ) → cond t (Some p) None ≡ Some o → (t ≡ true) × (p ≡ o)
    some_of true p o e = (refl, same_Some p o e)
    some_of false p o e = cc

    front : (a b : Bool) → (a && b) ≡ true → a ≡ true
    front true b e = refl
    front false b e = e

    behind : (a b : Bool) → (a && b) ≡ true → b ≡ true
    behind true b e = e
    behind false b e = cc

pub no_place : (x : Mem) (bit p : ℕ) → place_of x bit ≡ None → p < x.size * x.width → nat_eq (x.offset * x.width + p) bit ≡ false
no_place x bit p h below =
    ne_eqb (x.offset * x.width + p) bit (λ (e : x.offset * x.width + p ≡ bit).
    let start = x.offset * x.width in
    let low : nat_le start bit ≡ true = le-leb start bit (omega (arith, e)) in
    let high : nat_lt bit (start + x.size * x.width) ≡ true = lt-ltb bit (start + x.size * x.width) (omega (arith, e, below)) in
    let there : place_of x bit ≡ Some (bit - start) = ap (λ t. cond (t && nat_lt bit (start + x.size * x.width)) (Some (bit - start)) None) low ∙ ap (λ t. cond (true && t) (Some (bit - start)) None) high in
    none_some (bit - start) (sym h ∙ there))
  where
    none_some : (q : ℕ) → ◌≡◌ {A = Option ℕ} None (Some q) → ⊥
    none_some q e = cc

-- a bit where no word is
pub not_there : (x : Mem) (bit p : ℕ) (hit : Bool) (won old : Tri) → place_of x bit ≡ None → p < x.size * x.width → old ≡ cond (nat_eq (x.offset * x.width + p) bit && hit) won old
not_there x bit p hit won old h below = sym (ap (λ t. cond (t && hit) won old) (no_place x bit p h below))

-- a bit that the write does not hit
pub not_hit : (x : Mem) (v : Valuation) (bases : List (Option ℕ)) (own bit q p : ℕ) (won old : Tri) → place_of x bit ≡ Some q → is_hit (get_or (base_hits x v q x.writes bases) own None) ≡ false → old ≡ cond (nat_eq (x.offset * x.width + p) bit && is_hit (own_hit x v p bases own)) won old
unfolding own_hit
not_hit x v bases own bit q p won old h none =
    let there = place_there x bit q h in
    ap (λ t. cond t won old) (sym (no_hit (nat_eq (x.offset * x.width + p) bit) (is_hit (get_or (base_hits x v p x.writes bases) own None)) (λ e.
    let same : p ≡ q = omega (arith, eqb-true (x.offset * x.width + p) bit e, there.0) in
    ap (λ n. is_hit (get_or (base_hits x v n x.writes bases) own None)) same ∙ none)))
  where
    no_hit : (a b : Bool) → (a ≡ true → b ≡ false) → (a && b) ≡ false
    no_hit true b f = f refl
    no_hit false b f = refl

-- a bit that the write hits
pub hit_there : (x : Mem) (v : Valuation) (bases : List (Option ℕ)) (own bit q p : ℕ) (words new : List Tri) (t : Tri) → length words ≡ x.size * x.width → place_of x bit ≡ Some q → is_hit (get_or (base_hits x v q x.writes bases) own None) ≡ true → new ≡ set words q t → t ≡ tri_or_any (winner (base_hits x v q x.writes bases) 0 x.writes (base_hits x v q x.writes bases)) → tri_at new p ≡ cond (nat_eq (x.offset * x.width + p) bit && is_hit (own_hit x v p bases own)) (won_at x v p bases) (tri_at words p)
unfolding own_hit won_at
hit_there x v bases own bit q p words new t long h some made won =
    let there = place_there x bit q h in
    ap (λ l. tri_at l p) made
    ∙ tri_set words q p t (omega (arith, there.1, long))
    ∙ ap (λ b. cond b t (tri_at words p)) (sym (eq_moved (x.offset * x.width) p q bit there.0))
    ∙ put (nat_eq (x.offset * x.width + p) bit) (is_hit (get_or (base_hits x v p x.writes bases) own None)) t (won_at x v p bases) (tri_at words p) (λ e.
    let same : p ≡ q = omega (arith, eqb-true (x.offset * x.width + p) bit e, there.0) in
    (ap (λ n. is_hit (get_or (base_hits x v n x.writes bases) own None)) same ∙ some, won ∙ ap (λ n. tri_or_any (winner (base_hits x v n x.writes bases) 0 x.writes (base_hits x v n x.writes bases))) (sym same)))
  where
    put : (a b : Bool) (y z o : Tri) → (a ≡ true → (b ≡ true) × (y ≡ z)) → cond a y o ≡ cond (a && b) z o
    put true b y z o f = (f refl).1 ∙ sym (ap (λ w. cond (true && w) z o) (f refl).0)
    put false b y z o f = refl

own_is : (x : Mem) (v : Valuation) (p : ℕ) (bases : List (Option ℕ)) (own : ℕ) (w : WrPort) (o : Option ℕ) → length bases ≡ length x.writes → slice_get x.writes own ≡ Some w → get_or bases own None ≡ o → own_hit x v p bases own ≡ base_hit x v p w o
unfolding own_hit
own_is x v p bases own w o e found h = hits_at x v p x.writes bases own w e found ∙ ap (base_hit x v p w) h

-- a write without its edge writes nothing
pub none_own : (x : Mem) (v : Valuation) (p : ℕ) (bases : List (Option ℕ)) (own : ℕ) (won old : Tri) → length bases ≡ length x.writes → own < length x.writes → get_or bases own None ≡ None → old ≡ cond (is_hit (own_hit x v p bases own)) won old
none_own x v p bases own won old e inside h =
    let w = get_within x.writes own inside in
    sym (ap (λ z. cond (is_hit z) won old) (own_is x v p bases own w.0 None e w.1 h))

pub lane_start : (x : Mem) (v : Valuation) (p : ℕ) (bases : List (Option ℕ)) (own : ℕ) (w : WrPort) (base : ℕ) (won old : Tri) → length bases ≡ length x.writes → slice_get x.writes own ≡ Some w → get_or bases own None ≡ Some base → old ≡ cond (is_hit (own_hit x v p bases own) && nat_lt (x.offset * x.width + p) (base + 0)) won old
lane_start x v p bases own w base won old e found h =
    no_lane (is_hit (own_hit x v p bases own)) (nat_lt (x.offset * x.width + p) (base + 0)) won old (λ hit.
    let there = hit_before x v p w base (sym (ap is_hit (own_is x v p bases own w (Some base) e found h)) ∙ hit) in
    le-ltb (x.offset * x.width + p) (base + 0) (omega (arith, there.0)))

pub lane_end : (x : Mem) (v : Valuation) (p : ℕ) (bases : List (Option ℕ)) (own : ℕ) (w : WrPort) (base lane : ℕ) (new won old : Tri) → length bases ≡ length x.writes → slice_get x.writes own ≡ Some w → get_or bases own None ≡ Some base → length w.en ≤ lane → new ≡ cond (is_hit (own_hit x v p bases own) && nat_lt (x.offset * x.width + p) (base + lane)) won old → new ≡ cond (is_hit (own_hit x v p bases own)) won old
lane_end x v p bases own w base lane new won old e found h long was =
    all_lanes (is_hit (own_hit x v p bases own)) (nat_lt (x.offset * x.width + p) (base + lane)) new won old (λ hit.
    let there = hit_before x v p w base (sym (ap is_hit (own_is x v p bases own w (Some base) e found h)) ∙ hit) in
    lt-ltb (x.offset * x.width + p) (base + lane) (omega (arith, there.1, long))) was

pub port_more : (x : Mem) (v : Valuation) (p : ℕ) (bases : List (Option ℕ)) (own : ℕ) (new before old : Tri) → length bases ≡ length x.writes → own < length x.writes → new ≡ cond (is_hit (own_hit x v p bases own)) (won_at x v p bases) before → before ≡ cond (any_hit (take own (base_hits x v p x.writes bases))) (won_at x v p bases) old → new ≡ cond (any_hit (take (own + 1) (base_hits x v p x.writes bases))) (won_at x v p bases) old
unfolding own_hit
port_more x v p bases own new before old e inside f g =
    let hs = base_hits x v p x.writes bases in
    let long = length_hits x v p x.writes bases e in
    written_more (is_hit (get_or hs own None)) (any_hit (take own hs)) (any_hit (take (own + 1) hs)) new (won_at x v p bases) before old (any_take hs own (omega (arith, long, inside))) f g

pub all_written : (x : Mem) (v : Valuation) (p : ℕ) (bases : List (Option ℕ)) (own : ℕ) (new old : Tri) → length bases ≡ length x.writes → length x.writes ≤ own → new ≡ cond (any_hit (take own (base_hits x v p x.writes bases))) (won_at x v p bases) old → new ≡ written x.writes (base_hits x v p x.writes bases) old
unfolding won_at
all_written x v p bases own new old e long was =
    let hs = base_hits x v p x.writes bases in
    let count = length_hits x v p x.writes bases e in
    was ∙ ap (λ l. cond (any_hit l) (tri_or_any (winner hs 0 x.writes hs)) old) (take_whole hs own (omega (arith, count, long)))

pub none_of : (o : Option Bool) → ((b : Bool) → o ≡ Some b → ⊥) → is_hit o ≡ false
none_of None h = refl
none_of (Some b) h = absurd (h b refl)
