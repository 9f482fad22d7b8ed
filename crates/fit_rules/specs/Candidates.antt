-- The candidates of a memory, in order: by RAM, variant, fold, level, the group of each write and the place of each read;
-- registers last. (The order settles which of two equally good candidates is taken.)
use Rattle.std.specs.Prelude.{◌≡◌, ◌⊎◌, ℕ, ◌+◌, List, [], ◌∷◌, ◌++◌, map, flat_map, length, option_to_list}
use Rattle.std.specs.List.{range_with_len}
use Rattle.lib_core.specs.declared.library.Library.{Library}
use Rattle.lib_core.specs.declared.library.Variant.{Variant}
use Rattle.net_core.specs.declared.mems.Mem.{Mem}
use Rattle.net_core.specs.declared.mems.RdPort.{RdPort}
use Rattle.geom_core.specs.declared.candidates.Candidate.{Candidate}
use Rattle.geom_core.specs.declared.candidates.Candidate.TheVariants.{Ram, Registers}
use Rattle.geom_core.specs.declared.candidates.ReadPlace.{ReadPlace}
use Rattle.geom_core.specs.declared.candidates.ReadPlace.TheVariants as place
use Rattle.fit_rules.specs.declared.spots.Spot.{Spot}
use Rattle.fit_rules.specs.Standing.{first_ride}

-- the item stands in the list
abbrev pub IsAmong : {A : Type 0} → A → List A → Type 0
IsAmong a [] = ⊥
IsAmong a (x ∷ xs) = (x ≡ a) ⊎ IsAmong a xs

-- the numbers below n
abbrev pub below : ℕ → List ℕ
below n = range_with_len 0 n

-- all lists that take one item from each list, the first place slowest
abbrev pub tuples : {A : Type 0} → List (List A) → List (List A)
tuples [] = [] ∷ []
tuples (xs ∷ rest) = flat_map (λ x. map (λ t. x ∷ t) (tuples rest)) xs

-- f of each item and its number, joined
abbrev pub each_at : {X A : Type 0} → (ℕ → X → List A) → ℕ → List X → List A
each_at f n [] = []
each_at f n (x ∷ xs) = f n x ++ each_at f (n + 1) xs

-- the places of a read: the groups in order, then the name of a write, where it can stand at one
abbrev pub places : Mem → Variant → List ℕ → RdPort → List ReadPlace
places m v groups r = map place.Group (below (length v.groups)) ++ map place.Ride (option_to_list (first_ride v r 0 m.writes groups))

abbrev pub read_choices : Mem → Variant → List ℕ → List (List ReadPlace)
read_choices m v groups = map (places m v groups) m.reads

abbrev pub write_choices : Mem → Variant → List (List ℕ)
write_choices m v = map (λ _. below (length v.groups)) m.writes

abbrev pub chosen : Spot → List ℕ → List ReadPlace → Candidate
chosen s groups reads = Ram (record { ram = s.ram; variant = s.variant; fold = s.fold; level = s.level; writes = groups; reads = reads })

-- the candidates of one RAM, variant, fold and level
abbrev pub at_spot : Mem → Variant → Spot → List Candidate
at_spot m v s = flat_map (λ groups. map (chosen s groups) (tuples (read_choices m v groups))) (tuples (write_choices m v))

-- folds go from 0 to 6
abbrev pub at_variant : Mem → ℕ → ℕ → Variant → List Candidate
at_variant m ram n v = flat_map (λ f. flat_map (λ l. at_spot m v (record { ram = ram; variant = n; fold = f; level = l })) (below (length v.widths))) (below 7)

abbrev pub candidates : Mem → Library → List Candidate
candidates m lib = each_at (λ r k. each_at (at_variant m r) 0 k.variants) 0 lib.rams ++ Registers ∷ []
