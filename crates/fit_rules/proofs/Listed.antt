-- A candidate that fits is one of the memory's candidates.
use Rattle.std.proofs.Common.{◌≡◌, ℕ, zero, suc, ◌+◌, ◌≤◌, ◌<◌, Bool, true, false, ◌&&◌, nat_eq, nat_le, nat_lt, inl, inr, List, [], ◌∷◌, ◌++◌, length, map, refl, sym, ap, subst, arith}
use Rattle.std.specs.Prelude.{Option, Some, None, slice_get, flat_map, option_to_list}
use Rattle.std.specs.List.{range_with_len}
use Rattle.std.proofs.Math.Nat.{eq-or-lt_of_le}
use Rattle.std.proofs.lemmas.Bool.{false≢true}
use Rattle.std.proofs.lemmas.Option.{none-some}
use Rattle.lib_core.specs.declared.library.Group.{Group}
use Rattle.lib_core.specs.declared.library.Library.{Library}
use Rattle.lib_core.specs.declared.library.RamKind.{RamKind}
use Rattle.lib_core.specs.declared.library.Variant.{Variant}
use Rattle.net_core.specs.declared.mems.Mem.{Mem}
use Rattle.net_core.specs.declared.mems.MemJob.{MemJob}
use Rattle.net_core.specs.declared.mems.RdPort.{RdPort}
use Rattle.net_core.specs.declared.mems.WrPort.{WrPort}
use Rattle.net_core.specs.declared.mems.Style.{Style}
use Rattle.geom_core.specs.declared.candidates.Candidate.{Candidate}
use Rattle.geom_core.specs.declared.candidates.Candidate.TheVariants.{Ram, Registers}
use Rattle.geom_core.specs.declared.candidates.RamChoice.{RamChoice}
use Rattle.geom_core.specs.declared.candidates.ReadPlace.{ReadPlace}
use Rattle.geom_core.specs.declared.candidates.ReadPlace.TheVariants as place
use Rattle.fit_rules.specs.declared.spots.Spot.{Spot}
use Rattle.fit_rules.specs.Candidates.{IsAmong, below, tuples, each_at, places, read_choices, write_choices, chosen, at_spot, at_variant, candidates}
use Rattle.fit_rules.specs.Standing.{write_stands, read_stands, place_suits, stands_at, at_group, first_ride, is_this, have_names, suits, left}
use Rattle.fit_rules.specs.Rules.{zip_each, zip_all, few_ports, is_aligned, writes_stand, writes_placed, reads_placed, ports_met, rest_met, ram_fits, style_allows}
use Rattle.fit_rules.specs.Fits.{spot_of, is_spot, fits_at, fits_variant, fits_ram, fits_style, candidate_fits}
use Rattle.fit_rules.proofs.Lengths.{and_left, and_right}
use Rattle.fit_rules.proofs.Valid.{stands_within}

among_left : {A : Type 0} (a : A) (xs ys : List A) → IsAmong a xs → IsAmong a (xs ++ ys)
among_left a [] ys h = absurd h
among_left a (x ∷ xs) ys h = elim h as (λ _. IsAmong a (x ∷ xs ++ ys)) [ inl e ↦ inl e | inr t ↦ inr (among_left a xs ys t) ]

among_right : {A : Type 0} (a : A) (xs ys : List A) → IsAmong a ys → IsAmong a (xs ++ ys)
among_right a [] ys h = h
among_right a (x ∷ xs) ys h = inr (among_right a xs ys h)

among_map : {A B : Type 0} (f : A → B) (a : A) (xs : List A) → IsAmong a xs → IsAmong (f a) (map f xs)
among_map f a [] h = absurd h
among_map f a (x ∷ xs) h = elim h as (λ _. IsAmong (f a) (map f (x ∷ xs))) [ inl e ↦ inl (ap f e) | inr t ↦ inr (among_map f a xs t) ]

among_flat_map : {X A : Type 0} (f : X → List A) (x : X) (a : A) (xs : List X) → IsAmong x xs → IsAmong a (f x) → IsAmong a (flat_map f xs)
among_flat_map f x a [] h k = absurd h
among_flat_map f x a (y ∷ ys) h k =
    elim h as (λ _. IsAmong a (flat_map f (y ∷ ys))) [
      | inl e ↦ among_left a (f y) (flat_map f ys) (subst (λ z. IsAmong a (f z)) (sym e) k)
      | inr t ↦ among_right a (f y) (flat_map f ys) (among_flat_map f x a ys t k)
    ]

among_range : (count start k : ℕ) → start ≤ k → k < start + count → IsAmong k (range_with_len start count)
among_range zero start k h i = absurd (omega (arith, h, i))
among_range (suc count) start k h i =
    elim (eq-or-lt_of_le {n = start} {m = k} h) as (λ _. IsAmong k (range_with_len start (suc count))) [
      | inl e ↦ inl e
      | inr l ↦ inr (among_range count (start + 1) k (omega (arith, l)) (omega (arith, i)))
    ]

among_below : (n k : ℕ) → k < n → IsAmong k (below n)
among_below n k h = among_range n 0 k (omega arith) (omega (arith, h))

among_each_at : {X A : Type 0} (f : ℕ → X → List A) (a : A) (n : ℕ) (xs : List X) (i : ℕ) (x : X) → slice_get xs i ≡ Some x → IsAmong a (f (n + i) x) → IsAmong a (each_at f n xs)
among_each_at f a n [] i x e h = absurd (none-some x e)
among_each_at f a n (y ∷ ys) zero x e h =
    let here : n + zero ≡ n = omega arith in
    let same : y ≡ x = cc in
    among_left a (f n y) (each_at f (n + 1) ys) (subst (λ z. IsAmong a (f n z)) (sym same) (subst (λ k. IsAmong a (f k x)) here h))
among_each_at f a n (y ∷ ys) (suc i) x e h =
    let here : n + suc i ≡ n + 1 + i = omega arith in
    among_right a (f n y) (each_at f (n + 1) ys) (among_each_at f a (n + 1) ys i x e (subst (λ k. IsAmong a (f k x)) here h))

-- an item of each list
AreAmong : {A : Type 0} → List A → List (List A) → Type 0
AreAmong [] [] = Unit {0}
AreAmong [] (xs ∷ rest) = ⊥
AreAmong (a ∷ t) [] = ⊥
AreAmong (a ∷ t) (xs ∷ rest) = IsAmong a xs × AreAmong t rest

among_tuples : {A : Type 0} (t : List A) (choices : List (List A)) → AreAmong t choices → IsAmong t (tuples choices)
unfolding AreAmong
among_tuples [] [] h = inl refl
among_tuples [] (xs ∷ rest) h = absurd h
among_tuples (a ∷ t) [] h = absurd h
among_tuples (a ∷ t) (xs ∷ rest) h = among_flat_map (λ x. map (λ s. x ∷ s) (tuples rest)) a (a ∷ t) xs h.0 (among_map (λ s. a ∷ s) t (tuples rest) (among_tuples t rest h.1))

-- a group that has a property is there
some_group : (o : Option Group) (test : Group → Bool) → elim o as (λ _. Bool) [ None ↦ false | Some g ↦ test g ] ≡ true → (g : Group) × (o ≡ Some g)
some_group None test e = absurd (false≢true e)
some_group (Some g) test e = (g, refl)

group_there : (v : Variant) (n : ℕ) (test : Group → Bool) → at_group v n test ≡ true → n < length v.groups
group_there v n test e = let h = some_group (slice_get v.groups n) test e in stands_within v.groups n h.0 h.1

writes_among : (v : Variant) (s : Spot) (ws : List WrPort) (groups : List ℕ) → zip_each (write_stands v s) ws groups ≡ true → AreAmong groups (map (λ (_ : WrPort). below (length v.groups)) ws)
unfolding AreAmong
writes_among v s [] [] e = tt
writes_among v s [] (g ∷ gs) e = absurd (false≢true e)
writes_among v s (w ∷ ws) [] e = absurd (false≢true e)
writes_among v s (w ∷ ws) (g ∷ gs) e = (
  among_below (length v.groups) g (group_there v g _ (and_left (write_stands v s w g) (zip_each (write_stands v s) ws gs) e)),
  writes_among v s ws gs (and_right (write_stands v s w g) (zip_each (write_stands v s) ws gs) e),
)

equal_numbers : (a b : ℕ) → nat_eq a b ≡ true → a ≡ b
equal_numbers a b e = grind arith

this_one : (o : Option ℕ) (w : ℕ) → is_this o w ≡ true → IsAmong w (option_to_list o)
this_one None w e = absurd (false≢true e)
this_one (Some n) w e = inl (equal_numbers n w e)

place_among : (m : Mem) (v : Variant) (groups : List ℕ) (r : RdPort) (p : ReadPlace) → place_suits v m.writes groups r p ≡ true → IsAmong p (places m v groups r)
place_among m v groups r (place.Group n) e =
    among_left (place.Group n) (map place.Group (below (length v.groups))) (map place.Ride (option_to_list (first_ride v r 0 m.writes groups)))
    (among_map place.Group n (below (length v.groups)) (among_below (length v.groups) n (group_there v n (λ g. suits g r.clock) (and_left (at_group v n (λ g. suits g r.clock)) (nat_lt 0 (left v groups n)) e))))
place_among m v groups r (place.Ride w) e =
    among_right (place.Ride w) (map place.Group (below (length v.groups))) (map place.Ride (option_to_list (first_ride v r 0 m.writes groups)))
    (among_map place.Ride w (option_to_list (first_ride v r 0 m.writes groups)) (this_one (first_ride v r 0 m.writes groups) w e))

reads_among : (m : Mem) (v : Variant) (s : Spot) (groups : List ℕ) (number : ℕ) (rs : List RdPort) (ps : List ReadPlace) → zip_all (read_stands v s m.writes groups) number rs ps ≡ true → AreAmong ps (map (places m v groups) rs)
unfolding AreAmong
reads_among m v s groups number [] [] e = tt
reads_among m v s groups number [] (p ∷ ps) e = absurd (false≢true e)
reads_among m v s groups number (r ∷ rs) [] e = absurd (false≢true e)
reads_among m v s groups number (r ∷ rs) (p ∷ ps) e = (
  place_among m v groups r p (and_left (place_suits v m.writes groups r p) (stands_at v s m.writes groups number r p) (and_left (read_stands v s m.writes groups number r p) (zip_all (read_stands v s m.writes groups) (number + 1) rs ps) e)),
  reads_among m v s groups (number + 1) rs ps (and_right (read_stands v s m.writes groups number r p) (zip_all (read_stands v s m.writes groups) (number + 1) rs ps) e),
)

spot_among : (m : Mem) (v : Variant) (s : Spot) (groups : List ℕ) (reads : List ReadPlace) → ports_met m v s groups reads ≡ true → IsAmong (chosen s groups reads) (at_spot m v s)
spot_among m v s groups reads e =
    let placed = and_right (is_aligned m) (writes_placed m v s groups && reads_placed m v s groups reads) (and_right (few_ports m) (is_aligned m && (writes_placed m v s groups && reads_placed m v s groups reads)) e) in
    let writes = and_left (writes_stand m v s groups) (have_names v groups) (and_left (writes_placed m v s groups) (reads_placed m v s groups reads) placed) in
    let rest = and_right (writes_placed m v s groups) (reads_placed m v s groups reads) placed in
    among_flat_map (λ groups. map (chosen s groups) (tuples (read_choices m v groups))) groups (chosen s groups reads) (tuples (write_choices m v))
    (among_tuples groups (write_choices m v) (writes_among v s m.writes groups writes))
    (among_map (chosen s groups) reads (tuples (read_choices m v groups)) (among_tuples reads (read_choices m v groups) (reads_among m v s groups 0 m.reads reads rest)))

le_true : (a b : ℕ) → nat_le a b ≡ true → a ≤ b
le_true a b e = grind arith

lt_true : (a b : ℕ) → nat_lt a b ≡ true → a < b
lt_true a b e = grind arith

variant_among : (job : MemJob) (c : RamChoice) (v : Variant) → fits_at job c v ≡ true → IsAmong (Ram c) (at_variant job.mem c.ram c.variant v)
unfolding ram_fits
variant_among job c v e =
    let m = job.mem in
    let spot = and_left (is_spot v (spot_of c)) (ram_fits job v (spot_of c) c.writes c.reads) e in
    let fold = le_true c.fold 6 (and_left (nat_le c.fold 6) (nat_lt c.level (length v.widths)) spot) in
    let level = lt_true c.level (length v.widths) (and_right (nat_le c.fold 6) (nat_lt c.level (length v.widths)) spot) in
    let ports = and_left (ports_met m v (spot_of c) c.writes c.reads) (rest_met job v (spot_of c) c.writes c.reads) (and_right (is_spot v (spot_of c)) (ram_fits job v (spot_of c) c.writes c.reads) e) in
    among_flat_map (λ f. flat_map (λ l. at_spot m v (record { ram = c.ram; variant = c.variant; fold = f; level = l })) (below (length v.widths))) c.fold (Ram c) (below 7)
    (among_below 7 c.fold (omega (arith, fold)))
    (among_flat_map (λ l. at_spot m v (record { ram = c.ram; variant = c.variant; fold = c.fold; level = l })) c.level (Ram c) (below (length v.widths))
    (among_below (length v.widths) c.level level)
    (spot_among m v (spot_of c) c.writes c.reads ports))

some_variant : (job : MemJob) (c : RamChoice) (o : Option Variant) → fits_variant job c o ≡ true → (v : Variant) × (o ≡ Some v) × (fits_at job c v ≡ true)
some_variant job c None e = absurd (false≢true e)
some_variant job c (Some v) e = (v, refl, e)

ram_among : (job : MemJob) (c : RamChoice) (k : RamKind) → fits_ram job k c ≡ true → IsAmong (Ram c) (each_at (at_variant job.mem c.ram) 0 k.variants)
ram_among job c k e =
    let h = some_variant job c (slice_get k.variants c.variant) e in
    let zero_more : 0 + c.variant ≡ c.variant = omega arith in
    among_each_at (at_variant job.mem c.ram) (Ram c) 0 k.variants c.variant h.0 h.1 (subst (λ n. IsAmong (Ram c) (at_variant job.mem c.ram n h.0)) (sym zero_more) (variant_among job c h.0 h.2))

some_ram : (job : MemJob) (style : Style) (c : RamChoice) (o : Option RamKind) → fits_style job style c o ≡ true → (k : RamKind) × (o ≡ Some k) × (fits_ram job k c ≡ true)
some_ram job style c None e = absurd (false≢true e)
some_ram job style c (Some k) e = (k, refl, and_right (style_allows style k) (fits_ram job k c) e)

pub fits_is_listed : (job : MemJob) (lib : Library) (style : Style) (c : Candidate) → candidate_fits job lib style c ≡ true → IsAmong c (candidates job.mem lib)
fits_is_listed job lib style Registers e = among_right Registers (each_at (λ r k. each_at (at_variant job.mem r) 0 k.variants) 0 lib.rams) (Registers ∷ []) (inl refl)
fits_is_listed job lib style (Ram c) e =
    let h = some_ram job style c (slice_get lib.rams c.ram) e in
    let zero_more : 0 + c.ram ≡ c.ram = omega arith in
    among_left (Ram c) (each_at (λ r k. each_at (at_variant job.mem r) 0 k.variants) 0 lib.rams) (Registers ∷ [])
    (among_each_at (λ r k. each_at (at_variant job.mem r) 0 k.variants) (Ram c) 0 lib.rams c.ram h.0 h.1
    (subst (λ n. IsAmong (Ram c) (each_at (at_variant job.mem n) 0 h.0.variants)) (sym zero_more) (ram_among job c h.0 h.2)))
