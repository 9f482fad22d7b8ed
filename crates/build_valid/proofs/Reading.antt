-- A library that a text reads as, within the limits of a reader, is such as the laws of RAM cells take it.
use Rattle.std.proofs.Common.{◌≡◌, ℕ, zero, suc, ◌+◌, ◌*◌, ◌-◌, ◌≤◌, ◌<◌, Bool, true, false, cond, ◌&&◌, ◌||◌, List, [], ◌∷◌, ◌++◌, map, take, drop, length, Option, Some, None, refl, sym, ap, ◌∙◌, subst, arith}
use Rattle.std.specs.List as std_list
use Rattle.std.specs.List.{flat_map, list_all}
use Rattle.std.specs.Str.{bytes_eq}
use Rattle.std.proofs.lemmas.Bool.Decides.{nat_tests}
use Rattle.std.proofs.lemmas.Option.{get_or_from_slice_get, same_Some, slice_get_within}
use Rattle.std.proofs.lemmas.Slice.Eq.{bytes_eq-Decides}
use Rattle.lib_core.specs.declared.library.Choice.{Choice}
use Rattle.lib_core.specs.declared.library.Group.{Group}
use Rattle.lib_core.specs.declared.library.Library.{Library}
use Rattle.lib_core.specs.declared.library.RamKind.{RamKind}
use Rattle.lib_core.specs.declared.library.Variant.{Variant}
use Rattle.lib_core.specs.Rams.{last_width, last_words, width_at}
use Rattle.lib_tree.specs.declared.statement.Place.{Place}
use Rattle.lib_tree.specs.declared.statement.Place.TheVariants as place
use Rattle.lib_tree.specs.declared.statement.Item.{Item}
use Rattle.lib_tree.specs.declared.statement.Item.TheVariants as item
use Rattle.lib_tree.specs.declared.statement.Setting.{Setting}
use Rattle.lib_tree.specs.declared.statement.Setting.TheVariants as setting
use Rattle.lib_tree.specs.declared.statement.Size.TheVariants as size
use Rattle.lib_tree.specs.declared.statement.Statement.{Statement}
use Rattle.lib_tree.specs.declared.statement.Statement.TheVariants as statement
use Rattle.lib_tree.specs.Grammar.{after, is_nonempty, is_nonzero, is_proper, is_proper_item, may_stand, nests, sort_of}
use Rattle.lib_judge.specs.declared.judge.Sizes.{Sizes}
use Rattle.lib_judge.specs.declared.raw.RawPort.{RawPort}
use Rattle.lib_judge.specs.declared.raw.RawRam.{RawRam}
use Rattle.lib_judge.specs.Faults.{last_from}
use Rattle.lib_judge.specs.Judge.{plain_sizes, sizes_from, with_item}
use Rattle.lib_judge.specs.Names.{names_of_all, names_repeat}
use Rattle.lib_judge.specs.Raw.{block_length, rams_of}
use Rattle.lib_judge.specs.Sketch.{and_first, item_in, items_from, next_off, sketch_of}
use Rattle.lib_judge.specs.Variants.{has_name}
use Rattle.lib_read.specs.Expansion.{all_rows, kind_of, kinds_of, variant_of}
use Rattle.lib_read.specs.Groups.{group_of, groups_of, with_setting, with_settings}
use Rattle.lib_read.specs.Limits.{IsKindWithin, IsVariantWithin, IsWithinLimits}
use Rattle.lib_read.specs.Reads.{and_name, AreSound, LibReads}
use Rattle.rtlil_text.specs.Grammar.{All}
use Rattle.net_fits.proofs.Lists.{all_map, all_of, all_then, how_many, many_joined}
use Rattle.build_valid.specs.Libraries.{HasPortsApart, LibraryFits, port_names}
use Rattle.build_valid.proofs.Faultless.{swapped}
use Rattle.build_valid.proofs.RamTables.{new_by_count}

-- ---- limits

by_index : {X : Type 0} (P : X → Type 0) (xs : List X) → std_list.All P xs → All P xs
by_index P xs h = all_of P xs (λ i x at. subst P (get_or_from_slice_get xs i x x at) (h i x (slice_get_within xs i x at)))

last_is : (w : ℕ) (ws : List ℕ) → last_from w ws ≡ width_at (w ∷ ws) (length ws)
unfolding last_from
last_is w [] = refl
last_is w (x ∷ xs) = last_is x xs

last_same : (ws : List ℕ) → last_from 0 ws ≡ width_at ws (length ws - 1)
unfolding last_from
last_same [] = refl
last_same (w ∷ ws) = let e : length ws ≡ length (w ∷ ws) - 1 = omega arith in last_is w ws ∙ ap (width_at (w ∷ ws)) e

long_joined : {X : Type 0} (xs ys : List X) → length (xs ++ ys) ≡ length xs + length ys
long_joined [] ys = omega arith
long_joined (x ∷ xs) ys = let rest = long_joined xs ys in omega (arith, rest)

names_few : (gs : List Group) → All (λ (g : Group). length g.names ≤ 8) gs → length (flat_map (λ (g : Group). g.names) gs) ≤ 8 * length gs
names_few [] h = omega arith
names_few (g ∷ gs) h =
    let here = h.0 in
    let rest = names_few gs h.1 in
    let all = long_joined g.names (flat_map (λ (x : Group). x.names) gs) in
    omega (arith, here, rest, all)

-- what the limits say of each variant
record Within (v : Variant) : Type 0 where
  ports : length (port_names v) ≤ 32
  bits : last_words v * last_width v ≤ 4194304

product : (a b d : ℕ) → a ≡ d → a * b ≤ 4194304 → b * d ≤ 4194304
product a b d e h = subst (λ k. b * k ≤ 4194304) e (let same : b * a ≡ a * b = grind arith in omega (arith, h, same))

variant_within : (v : Variant) → IsVariantWithin v → Within v
variant_within v w =
    let few = names_few v.groups (by_index (λ (g : Group). length g.names ≤ 8) v.groups w.names) in
    let groups = w.groups in
    record {
      ports = omega (arith, few, groups);
      bits = product (last_from 0 v.widths) (last_words v) (last_width v) (last_same v.widths) w.bits;
    }

kind_within : (k : RamKind) → IsKindWithin k → (length k.variants ≤ 256) × All Within k.variants
kind_within k w = (w.variants, all_then IsVariantWithin Within k.variants variant_within (by_index IsVariantWithin k.variants w.each))

-- ---- statements are proper

and_parts : (a b : Bool) → (a && b) ≡ true → (a ≡ true) × (b ≡ true)
and_parts true b e = (refl, e)
and_parts false b e = absurd cc

abbrev AreProper : List Statement → Type 0
AreProper ss = All (λ s. is_proper s ≡ true) ss

proper_step : (stands proper rest : Bool) → (stands && (proper && rest)) ≡ true → (proper ≡ true) × (rest ≡ true)
proper_step stands proper rest e = and_parts proper rest (and_parts stands (proper && rest) e).1

proper_from : (p : Place) (ss : List Statement) → nests p ss ≡ true → AreProper ss
unfolding nests
proper_from p [] e = tt
proper_from place.Outside (s ∷ ss) e = let parts = proper_step (may_stand place.Outside (sort_of s)) (is_proper s) (nests (after place.Outside s) ss) e in (parts.0, proper_from (after place.Outside s) ss parts.1)
proper_from place.Ram (s ∷ ss) e = let parts = proper_step (may_stand place.Ram (sort_of s)) (is_proper s) (nests (after place.Ram s) ss) e in (parts.0, proper_from (after place.Ram s) ss parts.1)
proper_from (place.Options depth) (s ∷ ss) e =
    let parts = proper_step (may_stand (place.Options depth) (sort_of s)) (is_proper s) (nests (after (place.Options depth) s) ss) e in (parts.0, proper_from (after (place.Options depth) s) ss parts.1)
proper_from (place.Port kind depth) (s ∷ ss) e =
    let parts = proper_step (may_stand (place.Port kind depth) (sort_of s)) (is_proper s) (nests (after (place.Port kind depth) s) ss) e in (parts.0, proper_from (after (place.Port kind depth) s) ss parts.1)

take_proper : (n : ℕ) (ss : List Statement) → AreProper ss → AreProper (take n ss)
take_proper zero ss h = tt
take_proper (suc n) [] h = tt
take_proper (suc n) (s ∷ ss) h = (h.0, take_proper n ss h.1)

rams_proper : (ss : List Statement) → AreProper ss → All (λ (r : RawRam). AreProper r.body) (rams_of ss)
unfolding rams_of
rams_proper [] h = tt
rams_proper (statement.Ram line class name ∷ ss) h = (take_proper (block_length 0 ss) ss h.1, rams_proper ss h.1)
rams_proper (statement.Item i ∷ ss) h = rams_proper ss h.1
rams_proper (statement.Block scope choice ∷ ss) h = rams_proper ss h.1
rams_proper (statement.Port kind names ∷ ss) h = rams_proper ss h.1
rams_proper (statement.Setting s ∷ ss) h = rams_proper ss h.1
rams_proper (statement.End ∷ ss) h = rams_proper ss h.1

abbrev ItemsProper : List Item → Type 0
ItemsProper is = All (λ i. is_proper_item i ≡ true) is

item_proper : (s : Statement) (i : Item) → is_proper s ≡ true → item_in s ≡ Some i → is_proper_item i ≡ true
item_proper (statement.Item j) i h e = ap is_proper_item (sym (same_Some j i e)) ∙ h
item_proper (statement.Ram line class name) i h e = absurd cc
item_proper (statement.Block scope choice) i h e = absurd cc
item_proper (statement.Port kind names) i h e = absurd cc
item_proper (statement.Setting s) i h e = absurd cc
item_proper statement.End i h e = absurd cc

first_proper : (off : ℕ) (o : Option Item) (is : List Item) → ((i : Item) → o ≡ Some i → is_proper_item i ≡ true) → ItemsProper is → ItemsProper (and_first off o is)
first_proper zero (Some i) is f h = (f i refl, h)
first_proper zero None is f h = h
first_proper (suc off) (Some i) is f h = h
first_proper (suc off) None is f h = h

items_proper : (of_ram : List Choice) (off : ℕ) (ss : List Statement) → AreProper ss → ItemsProper (items_from of_ram off ss)
unfolding items_from
items_proper of_ram off [] h = tt
items_proper of_ram off (s ∷ ss) h = first_proper off (item_in s) (items_from of_ram (next_off of_ram [] off s) ss) (λ i e. item_proper s i h.0 e) (items_proper of_ram (next_off of_ram [] off s) ss h.1)

-- ---- widths

abbrev Positive : List ℕ → Type 0
Positive ws = All (λ w. 0 < w) ws

above_none : (n : ℕ) → is_nonzero n ≡ true → 0 < n
above_none n e = grind (arith, nat_tests)

all_positive : (ns : List ℕ) → list_all is_nonzero ns ≡ true → Positive ns
all_positive [] e = tt
all_positive (n ∷ ns) e = let parts = and_parts (is_nonzero n) (list_all is_nonzero ns) e in (above_none n parts.0, all_positive ns parts.1)

one_item : (z : Sizes) (i : Item) → is_proper_item i ≡ true → Positive z.widths → Positive (with_item z i).widths
one_item z (item.Size size.Abits n) h p = p
one_item z (item.Size size.Width n) h p = (above_none n h, tt)
one_item z (item.Size size.Byte n) h p = p
one_item z (item.Size size.Cost n) h p = p
one_item z (item.Widths ns per_port) h p = all_positive ns (and_parts (is_nonempty ns) (list_all is_nonzero ns) h).1
one_item z (item.Init f) h p = p
one_item z (item.Style t) h p = p

sizes_positive : (z : Sizes) (is : List Item) → ItemsProper is → Positive z.widths → Positive (sizes_from z is).widths
unfolding sizes_from
sizes_positive z [] h p = p
sizes_positive z (i ∷ is) h p = sizes_positive (with_item z i) is h.1 (one_item z i h.0 p)

widths_positive : (ram : RawRam) (row : List Choice) → AreProper ram.body → Positive (variant_of ram row).widths
unfolding variant_of
widths_positive ram row h = sizes_positive plain_sizes (sketch_of ram row).items (items_proper (take (length ram.options) row) 0 ram.body h) tt

-- ---- names of ports

or_parts : (a b : Bool) → (a || b) ≡ false → (a ≡ false) × (b ≡ false)
or_parts true b e = absurd cc
or_parts false b e = (refl, e)

never_case : (a : Bool) (x : ℕ) → a ≡ false → x ≤ 0 → cond a 1 0 + x ≤ 0
never_case true x e h = absurd cc
never_case false x e h = omega (arith, h)

never_named : (n : List ℕ) (ns : List (List ℕ)) → has_name ns n ≡ false → how_many (bytes_eq n) ns ≤ 0
never_named n [] e = omega arith
never_named n (m ∷ ms) e =
    let parts = or_parts (bytes_eq m n) (has_name ms n) e in
    never_case (bytes_eq n m) (how_many (bytes_eq n) ms) (swapped n m ∙ parts.0) (never_named n ms parts.1)

once_case : (b : Bool) (x : ℕ) → (b ≡ true → x ≤ 0) → x ≤ 1 → cond b 1 0 + x ≤ 1
once_case true x f h = (let none : x ≤ 0 = f refl in omega (arith, none))
once_case false x f h = omega (arith, h)

once_named : (ns : List (List ℕ)) (m : List ℕ) → names_repeat ns ≡ false → how_many (bytes_eq m) ns ≤ 1
unfolding names_repeat
once_named [] m e = omega arith
once_named (n ∷ ns) m e =
    let parts = or_parts (has_name ns n) (names_repeat ns) e in
    once_case (bytes_eq m n) (how_many (bytes_eq m) ns) (λ same. (let is : m ≡ n = (bytes_eq-Decides m n).0 same in subst (λ k. how_many (bytes_eq k) ns ≤ 0) (sym is) (never_named n ns parts.0))) (once_named ns m parts.1)

setting_names : (g : Group) (s : Setting) → (with_setting g s).names ≡ g.names
setting_names g (setting.Clock e) = refl
setting_names g setting.Clken = refl
setting_names g setting.Rden = refl
setting_names g (setting.Rdwr o) = refl
setting_names g (setting.Wrtrans t s) = refl
setting_names g (setting.Wrprio t) = refl
setting_names g (setting.Rdsrst f h) = refl
setting_names g (setting.Rdarst f) = refl
setting_names g (setting.Rdinit f) = refl
setting_names g setting.WrbeSeparate = refl
setting_names g (setting.Width tied ns) = refl

settings_names : (g : Group) (ss : List Setting) → (with_settings g ss).names ≡ g.names
unfolding with_settings
settings_names g [] = refl
settings_names g (s ∷ ss) = settings_names (with_setting g s) ss ∙ setting_names g s

group_names : (all : List RawPort) (ws : List ℕ) (p : RawPort) (choices : List Choice) (ss : List Setting) → (group_of all ws p choices ss).names ≡ p.names
unfolding group_of
group_names all ws p choices ss = settings_names _ ss

fewer_names : (m : List ℕ) (all : List RawPort) (ws : List ℕ) (ps : List RawPort) (row : List Choice) (sss : List (List Setting))
    → how_many (bytes_eq m) (flat_map (λ (g : Group). g.names) (groups_of all ws ps row sss)) ≤ how_many (bytes_eq m) (names_of_all ps)
unfolding groups_of
fewer_names m all ws [] row sss = omega arith
fewer_names m all ws (p ∷ ps) row [] = omega arith
fewer_names m all ws (p ∷ ps) row (ss ∷ sss) =
    let group = group_of all ws p (take (length p.options) row) ss in
    let others = groups_of all ws ps (drop (length p.options) row) sss in
    let same = ap (how_many (bytes_eq m)) (group_names all ws p (take (length p.options) row) ss) in
    let rest = fewer_names m all ws ps (drop (length p.options) row) sss in
    let a = many_joined (bytes_eq m) group.names (flat_map (λ (g : Group). g.names) others) in
    let b = many_joined (bytes_eq m) p.names (names_of_all ps) in
    omega (arith, same, rest, a, b)

ports_apart : (ram : RawRam) (row : List Choice) → names_repeat (names_of_all ram.ports) ≡ false → HasPortsApart (variant_of ram row)
unfolding variant_of
ports_apart ram row e =
    let z = sizes_from plain_sizes (sketch_of ram row).items in
    new_by_count [] (flat_map (λ (g : Group). g.names) (groups_of ram.ports z.widths ram.ports (drop (length ram.options) row) (sketch_of ram row).ports))
    (λ m. (let few = fewer_names m ram.ports z.widths ram.ports (drop (length ram.options) row) (sketch_of ram row).ports in let one = once_named (names_of_all ram.ports) m e in omega (arith, few, one)))

-- ---- all RAMs

sound_names : (earlier : List (List ℕ)) (rams : List RawRam) → AreSound earlier rams → All (λ (r : RawRam). names_repeat (names_of_all r.ports) ≡ false) rams
unfolding AreSound
sound_names earlier [] h = tt
sound_names earlier (r ∷ rs) h = ((or_parts _ (names_repeat (names_of_all r.ports)) h.0.names).1, sound_names (and_name earlier r) rs h.1)

each_row : (P : Variant → Type 0) (ram : RawRam) (rows : List (List Choice)) → ((row : List Choice) → P (variant_of ram row)) → All P (map (λ row. variant_of ram row) rows)
each_row P ram [] f = tt
each_row P ram (row ∷ rows) f = (f row, each_row P ram rows f)

kind_variants : (P : Variant → Type 0) (ram : RawRam) → ((row : List Choice) → P (variant_of ram row)) → All P (kind_of ram).variants
unfolding kind_of
kind_variants P ram f = each_row P ram (all_rows ram) f

pub read_library_fits : (bs : List ℕ) (lib : Library) → LibReads bs lib → IsWithinLimits lib → LibraryFits lib
read_library_fits bs lib r w =
    let rams = rams_of r.statements in
    let kinds = by_index IsKindWithin lib.rams w.each in
    let same : lib.rams ≡ kinds_of rams = ap (λ (l : Library). l.rams) r.expansion in
    let names = sound_names [] rams r.sound in
    let proper = rams_proper r.statements (proper_from place.Outside r.statements r.text.nested) in
    record {
      apart = subst (λ ks. All (λ (k : RamKind). All HasPortsApart k.variants) ks) (sym same)
          (all_map (λ (k : RamKind). All HasPortsApart k.variants) kind_of rams (all_then (λ (x : RawRam). names_repeat (names_of_all x.ports) ≡ false) (λ x. All HasPortsApart (kind_of x).variants) rams (λ x h. kind_variants HasPortsApart x (λ row. ports_apart x row h)) names));
      variants = all_then IsKindWithin (λ (k : RamKind). length k.variants ≤ 256) lib.rams (λ k h. (kind_within k h).0) kinds;
      ports = all_then IsKindWithin (λ (k : RamKind). All (λ v. length (port_names v) ≤ 32) k.variants) lib.rams (λ k h. all_then Within (λ v. length (port_names v) ≤ 32) k.variants (λ v h. h.ports) (kind_within k h).1) kinds;
      bits = all_then IsKindWithin (λ (k : RamKind). All (λ v. last_words v * last_width v ≤ 4194304) k.variants) lib.rams (λ k h. all_then Within (λ v. last_words v * last_width v ≤ 4194304) k.variants (λ v h. h.bits) (kind_within k h).1) kinds;
      widths = subst (λ ks. All (λ (k : RamKind). All (λ v. All (λ x. 0 < x) v.widths) k.variants) ks) (sym same)
          (all_map (λ (k : RamKind). All (λ v. All (λ x. 0 < x) v.widths) k.variants) kind_of rams (all_then (λ (x : RawRam). AreProper x.body) (λ x. All (λ (v : Variant). All (λ y. 0 < y) v.widths) (kind_of x).variants) rams (λ x h. kind_variants (λ (v : Variant). All (λ y. 0 < y) v.widths) x (λ row. widths_positive x row h)) proper));
    }
