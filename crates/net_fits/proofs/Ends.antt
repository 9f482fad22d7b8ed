-- What is driven by an input wire or a cell is the end of connects, and so a net.
use Rattle.std.proofs.Common.{◌≡◌, ℕ, zero, suc, ◌+◌, ◌≤◌, ◌<◌, Bool, true, false, cond, not, ◌&&◌, ◌||◌, List, [], ◌∷◌, ◌++◌, map, take, drop, Some, slice_get, refl, sym, ap, ◌∙◌, subst, arith}
use Rattle.std.specs.Prelude.{if◌then◌else◌, nat_lt, ◌==◌, slice_set}
use Rattle.std.specs.List.{count_by, list_any, range_with_len}
use Rattle.std.proofs.lemmas.Bool.Decides.{nat_tests}
use Rattle.std.proofs.lemmas.List.Sums.{sum_by-cons}
use Rattle.std.proofs.lemmas.Option.{get_or_from_slice_get, same_Some}
use Rattle.rtlil_text.specs.declared.doc.DocModule.{DocModule}
use Rattle.rtlil_text.specs.declared.doc.Item.{Item}
use Rattle.rtlil_text.specs.declared.doc.Item.TheVariants as item
use Rattle.rtlil_text.specs.Grammar.{All}
use Rattle.net_core.specs.declared.bits.Bit.{Bit}
use Rattle.net_core.specs.declared.bits.Bit.TheVariants as bits
use Rattle.net_core.specs.Valid.{are_nets, is_net}
use Rattle.net_wires.specs.declared.link.Link.{Link}
use Rattle.net_wires.specs.declared.link.Link.TheVariants as links
use Rattle.net_wires.specs.declared.source.Pair.{Pair}
use Rattle.net_wires.specs.declared.source.Source.{Source}
use Rattle.net_wires.specs.declared.source.Source.TheVariants as source
use Rattle.net_wires.specs.Drivers.{driver_count, has_conflict, is_constant, is_doubly_driven, is_place}
use Rattle.net_wires.specs.Links.{IsWithin, link_of, links_of, own, SourcesWithin, tie_all, tie_left, tie_pair}
use Rattle.net_wires.specs.Nets.{bit_of, Solves}
use Rattle.net_wires.specs.Spans.{spans, There, wire_bits}
use Rattle.net_wires.proofs.Driven.{range_at}
use Rattle.net_wires.proofs.Places.{set_other}
use Rattle.raw_cells.specs.declared.raw.RawCell.{RawCell}
use Rattle.raw_cells.specs.declared.raw.RawPin.{RawPin}
use Rattle.net_gather.specs.Cells.{Context}
use Rattle.net_gather.specs.Gather.{counts_before, gathered}
use Rattle.net_gather.specs.Laws.{CellsWithin, PlacesInOrder, PlacesWithin}
use Rattle.raw_cells.specs.Bits.{bits_of}
use Rattle.net_fits.specs.Cells.{CellsDriveNets, DrivesNets}
use Rattle.net_fits.specs.Driven.{cell_sources, left_sources}
use Rattle.net_fits.specs.Rams.{driving_sources, pin_sources}
use Rattle.net_fits.specs.Wires.{InputsAreNets}
use Rattle.net_fits.proofs.Solved.{input_run, inputs_from, run_from, Solved}
use Rattle.net_fits.proofs.Lists.{all_join, all_left, all_right, each_of, how_many, many_joined}

pub counts_are : {X : Type 0} (p : X → Bool) (xs : List X) → count_by p xs ≡ how_many p xs
counts_are p [] = refl
counts_are p (x ∷ xs) = sum_by-cons (λ y. cond (p y) 1 0) x xs ∙ ap (λ k. cond (p x) 1 0 + k) (counts_are p xs)

-- ---- no conflict of drivers

or_false : (a b : Bool) → (a || b) ≡ false → (a ≡ false) × (b ≡ false)
or_false true b e = absurd cc
or_false false b e = (refl, e)

none_any : {X : Type 0} (p : X → Bool) (xs : List X) → list_any p xs ≡ false → All (λ x. p x ≡ false) xs
none_any p [] e = tt
none_any p (x ∷ xs) e = let parts = or_false (p x) (list_any p xs) e in (parts.0, none_any p xs parts.1)

mapped : {X Y : Type 0} (P : Y → Type 0) (f : X → Y) (xs : List X) → All (λ x. P (f x)) xs → All P (map f xs)
mapped P f [] a = tt
mapped P f (x ∷ xs) a = (a.0, mapped P f xs a.1)

record NoConflict (n : ℕ) (driven : List Source) : Type 0 where
  once : (p : ℕ) → p < n → how_many (is_place p) driven ≤ 1
  places : All (λ s. is_constant s ≡ false) driven

not_below : (a b : ℕ) → nat_lt a b ≡ false → b ≤ a
not_below a b e = grind (arith, nat_tests)

no_conflict : (n : ℕ) (driven : List Source) → has_conflict n driven ≡ false → NoConflict n driven
no_conflict n driven e =
    let parts = or_false (list_any (is_doubly_driven driven) (range_with_len 0 n)) (list_any is_constant driven) e in
    record {
      once = λ p h. (let single : is_doubly_driven driven p ≡ false =
          each_of (λ b. b ≡ false) (map (is_doubly_driven driven) (range_with_len 0 n)) (mapped (λ b. b ≡ false) (is_doubly_driven driven) (range_with_len 0 n) (none_any (is_doubly_driven driven) (range_with_len 0 n) parts.0)) p (is_doubly_driven driven p) (range_at (is_doubly_driven driven) n p h) in
          let few : driver_count driven p ≤ 1 = not_below 1 (driver_count driven p) single in
          omega (arith, few, counts_are (is_place p) driven));
      places = none_any is_constant driven parts.1;
    }

-- ---- ends

-- a place that is its own end
abbrev pub IsEnd : ℕ → List Link → Source → Type 0
IsEnd n t source.Zero = ⊥
IsEnd n t source.One = ⊥
IsEnd n t source.Loose = ⊥
IsEnd n t (source.At p) = (p < n) × (slice_get t p ≡ Some (links.End p))

eqb_own : (p : ℕ) → (p == p) ≡ true
eqb_own p = grind (arith, nat_tests)

other_place : (l p : ℕ) → (l == p) ≡ false → p ≡ l → ⊥
other_place l p e same = let own_ : (l == p) ≡ true = ap (λ k. l == k) same ∙ eqb_own l in cc

-- a place that stands on no left side
tie_case : (t : List Link) (p l : ℕ) (x : Link) (b : Bool) → (l == p) ≡ b → cond b 1 0 ≤ 0 → slice_get (slice_set t l x) p ≡ slice_get t p
tie_case t p l x true e h = absurd (omega (arith, h))
tie_case t p l x false e h = set_other t l p x (other_place l p e)

tie_free : (t : List Link) (p : ℕ) (l r : Source) → cond (is_place p l) 1 0 ≤ 0 → slice_get (tie_left t l r) p ≡ slice_get t p
tie_free t p source.Zero r h = refl
tie_free t p source.One r h = refl
tie_free t p source.Loose r h = refl
tie_free t p (source.At l) r h = tie_case t p l (link_of l r) (l == p) refl h

ties_free : (t : List Link) (p : ℕ) (ps : List Pair) → how_many (is_place p) (left_sources ps) ≤ 0 → slice_get (tie_all t ps) p ≡ slice_get t p
ties_free t p [] h = refl
ties_free t p (q ∷ qs) h =
    let first : ◌≤◌ (cond (is_place p q.left) 1 0) 0 = omega (arith, h) in
    let rest : how_many (is_place p) (left_sources qs) ≤ 0 = omega (arith, h) in
    ties_free (tie_pair t q) p qs rest ∙ tie_free t p q.left q.right first

links_free : (n p : ℕ) (ps : List Pair) → p < n → how_many (is_place p) (left_sources ps) ≤ 0 → slice_get (links_of n ps) p ≡ Some (links.End p)
links_free n p ps h free = ties_free (own n) p ps free ∙ range_at links.End n p h

-- what stands among others is counted
end_at : (n : ℕ) (ps : List Pair) (s : Source) → is_constant s ≡ false → IsWithin n s → ((p : ℕ) → is_place p s ≡ true → p < n → how_many (is_place p) (left_sources ps) ≤ 0) → IsEnd n (links_of n ps) s
end_at n ps source.Zero c w f = absurd cc
end_at n ps source.One c w f = absurd cc
end_at n ps source.Loose c w f = absurd cc
end_at n ps (source.At p) c w f = (w, links_free n p ps w (f p (eqb_own p) w))

abbrev AllWithin : ℕ → List Source → Type 0
AllWithin n ss = All (IsWithin n) ss

passes_once : {X : Type 0} (p : X → Bool) (x : X) → p x ≡ true → ◌≡◌ {A = ℕ} (cond (p x) 1 0) 1
passes_once p x e = ap (λ b. cond b 1 0) e

all_ends : (n : ℕ) (ps : List Pair) (ss : List Source) → All (λ s. is_constant s ≡ false) ss → All (IsWithin n) ss → ((p : ℕ) → p < n → 1 ≤ how_many (is_place p) ss → how_many (is_place p) (left_sources ps) ≤ 0) → All (IsEnd n (links_of n ps)) ss
all_ends n ps [] c w f = tt
all_ends n ps (s ∷ ss) c w f = (
  end_at n ps s c.0 w.0 (λ p e h. f p h (let one = passes_once (is_place p) s e in omega (arith, one))),
  all_ends n ps ss c.1 w.1 (λ p h some. f p h (omega (arith, some))),
)

-- ---- places that are there

all_within : (n : ℕ) (ss : List Source) → SourcesWithin n ss → All (IsWithin n) ss
all_within n [] w = tt
all_within n (s ∷ ss) w = (w.0, all_within n ss w.1)

pin_case : (n : ℕ) (t : Bool) (ss : List Source) → SourcesWithin n ss → All (IsWithin n) (if t then ss else [])
pin_case n true ss w = all_within n ss w
pin_case n false ss w = tt

pins_within : (n : ℕ) (ps : List RawPin) → All (λ (p : RawPin). SourcesWithin n p.bits) ps → All (IsWithin n) (driving_sources ps)
pins_within n [] w = tt
pins_within n (p ∷ ps) w = all_join (IsWithin n) (pin_sources p) (driving_sources ps) (pin_case n p.drives p.bits w.0) (pins_within n ps w.1)

cells_within : (n : ℕ) (cs : List RawCell) → CellsWithin n cs → All (IsWithin n) (cell_sources cs)
cells_within n [] w = tt
cells_within n (c ∷ cs) w = all_join (IsWithin n) (driving_sources c.pins) (cell_sources cs) (pins_within n c.pins w.0) (cells_within n cs w.1)

run_within : (n from width : ℕ) → from + width ≤ n → All (IsWithin n) (run_from from width)
run_within n from zero h = tt
run_within n from (suc width) h = (omega (arith, h), run_within n (from + 1) width (omega (arith, h)))

input_case : (n from width : ℕ) (t : Bool) → from + width ≤ n → All (IsWithin n) (if t then run_from from width else [])
input_case n from width true h = run_within n from width h
input_case n from width false h = tt

inputs_within : (n from : ℕ) (is : List Item) → from + wire_bits is ≤ n → All (IsWithin n) (inputs_from from is)
inputs_within n from [] h = tt
inputs_within n from (item.Wire w ∷ is) h =
    all_join (IsWithin n) (input_run from w) (inputs_from (from + w.width) is) (input_case n from w.width (w.input && not w.output) (omega (arith, h))) (inputs_within n (from + w.width) is (omega (arith, h)))
inputs_within n from (item.Param p ∷ is) h = inputs_within n from is h
inputs_within n from (item.Mem m ∷ is) h = inputs_within n from is h
inputs_within n from (item.Cell c ∷ is) h = inputs_within n from is h
inputs_within n from (item.Connect l r ∷ is) h = inputs_within n from is h

-- ---- the ends of a solved module

-- what input wires and cells drive are ends, each driven once
pub record Ended (x : Context) (m : DocModule) : Type 0 where
  pub inputs : All (IsEnd (gathered x m.items).places (links_of (gathered x m.items).places (gathered x m.items).pairs)) (inputs_from 0 m.items)
  pub cells : All (IsEnd (gathered x m.items).places (links_of (gathered x m.items).places (gathered x m.items).pairs)) (cell_sources (gathered x m.items).cells)
  pub once : (p : ℕ) → p < (gathered x m.items).places → how_many (is_place p) (inputs_from 0 m.items ++ cell_sources (gathered x m.items).cells) ≤ 1

three : (p : Source → Bool) (a b c : List Source) → how_many p (a ++ (b ++ c)) ≡ how_many p a + (how_many p b + how_many p c)
three p a b c = let one = many_joined p a (b ++ c) in let two = many_joined p b c in omega (arith, one, two)

pub ended : PlacesWithin → PlacesInOrder → ((items : List Item) → There (wire_bits items) (spans 0 items)) → (x : Context) (m : DocModule) (places : List Bit) (count : ℕ) → Solved x m places count → Ended x m
ended within in_order there x m places count s =
    let g = gathered x m.items in
    let ins = inputs_from 0 m.items in
    let lefts = left_sources g.pairs in
    let outs = cell_sources g.cells in
    let near : There (wire_bits m.items) x.names = subst (There (wire_bits m.items)) (sym s.names) (there m.items) in
    let none = no_conflict g.places (ins ++ (lefts ++ outs)) s.drivers in
    let sum : (p : ℕ) → how_many (is_place p) (ins ++ (lefts ++ outs)) ≡ how_many (is_place p) ins + (how_many (is_place p) lefts + how_many (is_place p) outs) = λ p. three (is_place p) ins lefts outs in
    let grown = in_order x (counts_before m.items) m.items near in
    let more : g.places ≡ wire_bits m.items + grown.0 = grown.1 in
    record {
      inputs = all_ends g.places g.pairs ins (all_left (λ t. is_constant t ≡ false) ins (lefts ++ outs) none.places) (inputs_within g.places 0 m.items (omega (arith, more)))
          (λ p h some. (let few : how_many (is_place p) (ins ++ (lefts ++ outs)) ≤ 1 = none.once p h in omega (arith, few, sum p, some)));
      cells = all_ends g.places g.pairs outs (all_right (λ t. is_constant t ≡ false) lefts outs (all_right (λ t. is_constant t ≡ false) ins (lefts ++ outs) none.places)) (cells_within g.places g.cells (within x (counts_before m.items) m.items near))
          (λ p h some. (let few : how_many (is_place p) (ins ++ (lefts ++ outs)) ≤ 1 = none.once p h in omega (arith, few, sum p, some)));
      once = λ p h. (let few : how_many (is_place p) (ins ++ (lefts ++ outs)) ≤ 1 = none.once p h in let two = many_joined (is_place p) ins outs in omega (arith, few, sum p, two));
    }

-- ---- ends are nets

end_net : (n : ℕ) (t : List Link) (places : List Bit) → Solves t places → (s : Source) → IsEnd n t s → is_net (bit_of places s) ≡ true
end_net n t places v source.Zero e = absurd e
end_net n t places v source.One e = absurd e
end_net n t places v source.Loose e = absurd e
end_net n t places v (source.At p) e = let k = v.net p e.1 in ap is_net (get_or_from_slice_get places p (bits.Net k.0) bits.Zero k.1)

both : (a b : Bool) → a ≡ true → b ≡ true → (a && b) ≡ true
both true b d e = e
both false b d e = absurd cc

ends_nets : (n : ℕ) (t : List Link) (places : List Bit) → Solves t places → (ss : List Source) → All (IsEnd n t) ss → are_nets (bits_of places ss) ≡ true
ends_nets n t places v [] all = refl
ends_nets n t places v (s ∷ ss) all = both (is_net (bit_of places s)) (are_nets (bits_of places ss)) (end_net n t places v s all.0) (ends_nets n t places v ss all.1)

pins_ends : (n : ℕ) (t : List Link) (places : List Bit) → Solves t places → (d : Bool) (ss : List Source) → All (IsEnd n t) (if d then ss else []) → d ≡ true → are_nets (bits_of places ss) ≡ true
pins_ends n t places v true ss all d = ends_nets n t places v ss all
pins_ends n t places v false ss all d = absurd cc

pins_nets : (n : ℕ) (t : List Link) (places : List Bit) → Solves t places → (ps : List RawPin) → All (IsEnd n t) (driving_sources ps) → DrivesNets places ps
pins_nets n t places v [] all = tt
pins_nets n t places v (p ∷ ps) all =
    (pins_ends n t places v p.drives p.bits (all_left (IsEnd n t) (pin_sources p) (driving_sources ps) all), pins_nets n t places v ps (all_right (IsEnd n t) (pin_sources p) (driving_sources ps) all))

cells_nets : (n : ℕ) (t : List Link) (places : List Bit) → Solves t places → (cs : List RawCell) → All (IsEnd n t) (cell_sources cs) → CellsDriveNets places cs
cells_nets n t places v [] all = tt
cells_nets n t places v (c ∷ cs) all =
    (pins_nets n t places v c.pins (all_left (IsEnd n t) (driving_sources c.pins) (cell_sources cs) all), cells_nets n t places v cs (all_right (IsEnd n t) (driving_sources c.pins) (cell_sources cs) all))

pub solved_cells : PlacesWithin → PlacesInOrder → ((items : List Item) → There (wire_bits items) (spans 0 items)) → (x : Context) (m : DocModule) (places : List Bit) (count : ℕ) → Solved x m places count → CellsDriveNets places (gathered x m.items).cells
solved_cells within in_order there x m places count s = cells_nets (gathered x m.items).places _ places s.solves (gathered x m.items).cells (ended within in_order there x m places count s).cells

-- ---- the bits of input wires

-- these bits stand behind so many others
abbrev pub Behind : List Bit → ℕ → List Bit → Type 0
Behind places from left = (i : ℕ) → slice_get left i ≡ slice_get places (from + i)

pub behind_none : (places : List Bit) → Behind places 0 places
behind_none places i = (let e : i ≡ 0 + i = omega arith in ap (slice_get places) e)

pub behind_one : (places : List Bit) (from : ℕ) (b : Bit) (bs : List Bit) → Behind places from (b ∷ bs) → Behind places (from + 1) bs
behind_one places from b bs h i = (let e : from + suc i ≡ from + 1 + i = omega arith in h (suc i) ∙ ap (slice_get places) e)

pub behind_more : (places : List Bit) (width from : ℕ) (left : List Bit) → Behind places from left → Behind places (from + width) (drop width left)
behind_more places zero from left h = (let e : from ≡ from + 0 = omega arith in subst (λ k. Behind places k left) e h)
behind_more places (suc width) from [] h = λ i. (let e : from + (suc width + i) ≡ from + suc width + i = omega arith in h (suc width + i) ∙ ap (slice_get places) e)
behind_more places (suc width) from (b ∷ bs) h = (let e : from + 1 + width ≡ from + suc width = omega arith in subst (λ k. Behind places k (drop width bs)) e (behind_more places width (from + 1) bs (behind_one places from b bs h)))

run_nets : (n : ℕ) (t : List Link) (places : List Bit) → Solves t places → (width from : ℕ) (left : List Bit) → Behind places from left → All (IsEnd n t) (run_from from width) → are_nets (take width left) ≡ true
run_nets n t places v zero from left h all = refl
run_nets n t places v (suc width) from [] h all = refl
run_nets n t places v (suc width) from (b ∷ bs) h all =
    let k = v.net from all.0.1 in
    let e : from + 0 ≡ from = omega arith in
    let same : b ≡ bits.Net k.0 = same_Some b (bits.Net k.0) (h 0 ∙ ap (slice_get places) e ∙ k.1) in
    both (is_net b) (are_nets (take width bs)) (ap is_net same) (run_nets n t places v width (from + 1) bs (behind_one places from b bs h) all.1)

run_case : (n : ℕ) (t : List Link) (places : List Bit) → Solves t places → (width from : ℕ) (left : List Bit) (d : Bool) → Behind places from left → All (IsEnd n t) (if d then run_from from width else []) → d ≡ true → are_nets (take width left) ≡ true
run_case n t places v width from left true h all d = run_nets n t places v width from left h all
run_case n t places v width from left false h all d = absurd cc

inputs_nets : (n : ℕ) (t : List Link) (places : List Bit) → Solves t places → (from : ℕ) (left : List Bit) (is : List Item) → Behind places from left → All (IsEnd n t) (inputs_from from is) → InputsAreNets left is
inputs_nets n t places v from left [] h all = tt
inputs_nets n t places v from left (item.Wire w ∷ is) h all = (
  run_case n t places v w.width from left (w.input && not w.output) h (all_left (IsEnd n t) (input_run from w) (inputs_from (from + w.width) is) all),
  inputs_nets n t places v (from + w.width) (drop w.width left) is (behind_more places w.width from left h) (all_right (IsEnd n t) (input_run from w) (inputs_from (from + w.width) is) all),
)
inputs_nets n t places v from left (item.Param p ∷ is) h all = inputs_nets n t places v from left is h all
inputs_nets n t places v from left (item.Mem m ∷ is) h all = inputs_nets n t places v from left is h all
inputs_nets n t places v from left (item.Cell c ∷ is) h all = inputs_nets n t places v from left is h all
inputs_nets n t places v from left (item.Connect l r ∷ is) h all = inputs_nets n t places v from left is h all

pub solved_inputs : PlacesWithin → PlacesInOrder → ((items : List Item) → There (wire_bits items) (spans 0 items)) → (x : Context) (m : DocModule) (places : List Bit) (count : ℕ) → Solved x m places count → InputsAreNets places m.items
solved_inputs within in_order there x m places count s = inputs_nets (gathered x m.items).places _ places s.solves 0 places m.items (behind_none places) (ended within in_order there x m places count s).inputs
