-- No limit is passed where the library is within the limits, and the other way round.
use Rattle.std.proofs.Common.{◌≡◌, ℕ, ◌+◌, ◌*◌, ◌/◌, ◌-◌, ◌^◌, ◌≤◌, Bool, true, false, List, [], ◌∷◌, length, map, take, drop, nat_lt, nat_le, ◌&&◌, ◌||◌, refl, sym, ◌∙◌, subst, arith, length-append}
use Rattle.std.proofs.Math.Nat.{div-mul-le_self, le_trans, mul-le-mul_right}
use Rattle.std.proofs.lemmas.Bool.{ltb-false, le-ltb}
use Rattle.std.proofs.lemmas.Bool.Decides.{nat_tests}
use Rattle.std.proofs.lemmas.List.{length-map}
use Rattle.std.proofs.lemmas.List.Elements.{All-from_recursion, recursion_from_All}
use Rattle.std.proofs.lemmas.Nat.{le-div, pow_pos}
use Rattle.std.specs.List.{AllByRecursion as Each, list_any}
use Rattle.lib_core.specs.declared.library.Choice.{Choice}
use Rattle.lib_core.specs.declared.library.Group.{Group}
use Rattle.lib_tree.specs.declared.statement.Setting.{Setting}
use Rattle.lib_tree.specs.declared.statement.Setting.TheVariants as setting
use Rattle.lib_judge.specs.declared.faults.Judged.{Judged}
use Rattle.lib_judge.specs.declared.judge.Sizes.{Sizes}
use Rattle.lib_judge.specs.declared.raw.RawPort.{RawPort}
use Rattle.lib_judge.specs.declared.raw.RawRam.{RawRam}
use Rattle.lib_judge.specs.Faults.{all_options, any_costly, any_high, any_large, any_many, any_wide, is_wide, judge_of, judges_of, last_from, many_names}
use Rattle.lib_judge.specs.Judge.{plain_sizes, sizes_from}
use Rattle.lib_judge.specs.Sketch.{settings_of, sketch_of}
use Rattle.lib_read.specs.Expansion.{all_rows, kind_of, kinds_of, library_of, variant_of, variants_of}
use Rattle.lib_read.specs.Groups.{group_of, groups_of, with_setting, with_settings}
use Rattle.lib_read.specs.Limits.{IsKindWithin, IsVariantWithin, IsWithinLimits}
use Rattle.lib_read.specs.Reads.{AreFaultless, AreSound, and_name}
use Rattle.lib_read.proofs.Counts.{IsSomething, few_count, few_rows, some_row}
use Rattle.lib_read.proofs.Mentioned.{HasChoices}
use Rattle.lib_read.proofs.Sound.{IsTaken, none_of_sound, sound_of_none}

-- ---- tests of lists

or_none : (a b : Bool) → (a || b) ≡ false → (a ≡ false) × (b ≡ false)
or_none true b h = absurd (cc)
or_none false b h = (refl, h)

none_or : (a b : Bool) → a ≡ false → b ≡ false → (a || b) ≡ false
none_or true b h k = absurd (cc)
none_or false b h k = k

each_map : {A B : Type 0} (P : B → Type 0) (f : A → B) (xs : List A) → Each (λ (x : A). P (f x)) xs → Each P (map f xs)
each_map P f [] h = tt
each_map P f (x ∷ xs) h = (h.0, each_map P f xs h.1)

map_each : {A B : Type 0} (P : B → Type 0) (f : A → B) (xs : List A) → Each P (map f xs) → Each (λ (x : A). P (f x)) xs
map_each P f [] h = tt
map_each P f (x ∷ xs) h = (h.0, map_each P f xs h.1)

each_weaker : {A : Type 0} (P Q : A → Type 0) (xs : List A) → ((x : A) → P x → Q x) → Each P xs → Each Q xs
each_weaker P Q [] f h = tt
each_weaker P Q (x ∷ xs) f h = (f x h.0, each_weaker P Q xs f h.1)

-- ---- numbers of a variant

narrow : (ws : List ℕ) → is_wide ws ≡ false → Each (λ (w : ℕ). w ≤ 1024) ws
narrow [] h = tt
narrow (w ∷ ws) h = let p = or_none (nat_lt 1024 w) (is_wide ws) h in (ltb-false 1024 w p.0, narrow ws p.1)

not_wide : (ws : List ℕ) → Each (λ (w : ℕ). w ≤ 1024) ws → is_wide ws ≡ false
not_wide [] h = refl
not_wide (w ∷ ws) h = none_or (nat_lt 1024 w) (is_wide ws) (le-ltb 1024 w h.0) (not_wide ws h.1)

within_bits : (w d : ℕ) → w ≤ 4194304 / d → w * d ≤ 4194304
within_bits w d h = le_trans (mul-le-mul_right d h) (div-mul-le_self 4194304 d)

few_bits_by : (b : Bool) (w k : ℕ) → b ≡ true → (b && nat_lt (4194304 / 2 ^ k) w) ≡ false → w * 2 ^ k ≤ 4194304
few_bits_by true w k p h = within_bits w (2 ^ k) (ltb-false (4194304 / 2 ^ k) w h)
few_bits_by false w k p h = absurd (cc)

is_at_most : (a b : ℕ) → a ≤ b → nat_le a b ≡ true
is_at_most a b h = grind (arith, nat_tests)

few_bits : (a w k : ℕ) → a ≤ 20 → (nat_le a 20 && nat_lt (4194304 / 2 ^ k) w) ≡ false → w * 2 ^ k ≤ 4194304
few_bits a w k h p = few_bits_by (nat_le a 20) w k (is_at_most a 20 h) p

and_false : (b c : Bool) → c ≡ false → (b && c) ≡ false
and_false true c h = h
and_false false c h = refl

not_large : (a w k : ℕ) → w * 2 ^ k ≤ 4194304 → (nat_le a 20 && nat_lt (4194304 / 2 ^ k) w) ≡ false
not_large a w k h = and_false (nat_le a 20) (nat_lt (4194304 / 2 ^ k) w) (le-ltb (4194304 / 2 ^ k) w (le-div w 4194304 (2 ^ k) (pow_pos k) h))

-- ---- groups

kept_by_one : (g : Group) (s : Setting) → (with_setting g s).names ≡ g.names
kept_by_one g (setting.Clock e) = refl
kept_by_one g setting.Clken = refl
kept_by_one g setting.Rden = refl
kept_by_one g (setting.Rdwr o) = refl
kept_by_one g (setting.Wrtrans t s) = refl
kept_by_one g (setting.Wrprio t) = refl
kept_by_one g (setting.Rdsrst f h) = refl
kept_by_one g (setting.Rdarst f) = refl
kept_by_one g (setting.Rdinit f) = refl
kept_by_one g setting.WrbeSeparate = refl
kept_by_one g (setting.Width tied ns) = refl

kept_by_all : (g : Group) (ss : List Setting) → (with_settings g ss).names ≡ g.names
unfolding with_settings
kept_by_all g [] = refl
kept_by_all g (s ∷ ss) = kept_by_all (with_setting g s) ss ∙ kept_by_one g s

names_kept : (all : List RawPort) (ws : List ℕ) (p : RawPort) (choices : List Choice) (ss : List Setting) → (group_of all ws p choices ss).names ≡ p.names
unfolding group_of
names_kept all ws p choices ss = kept_by_all _ ss

few_groups : (all : List RawPort) (ws : List ℕ) (ps : List RawPort) (row : List Choice) (sss : List (List Setting)) → length (groups_of all ws ps row sss) ≤ length ps
unfolding groups_of
few_groups all ws [] row sss = omega arith
few_groups all ws (p ∷ ps) row [] = omega arith
few_groups all ws (p ∷ ps) row (ss ∷ sss) =
    let h = few_groups all ws ps (drop (length p.options) row) sss in omega (arith, h)

abbrev FewNames : Group → Type 0
FewNames g = length g.names ≤ 8

few_names : (all : List RawPort) (ws : List ℕ) (ps : List RawPort) (row : List Choice) (sss : List (List Setting)) → many_names ps ≡ false → Each FewNames (groups_of all ws ps row sss)
unfolding groups_of
few_names all ws [] row sss h = tt
few_names all ws (p ∷ ps) row [] h = tt
few_names all ws (p ∷ ps) row (ss ∷ sss) h =
    let q = or_none (nat_lt 8 (length p.names)) (many_names ps) h in (
      subst (λ (names : List (List ℕ)). length names ≤ 8) (sym (names_kept all ws p (take (length p.options) row) ss)) (ltb-false 8 (length p.names) q.0),
      few_names all ws ps (drop (length p.options) row) sss q.1,
    )

-- each port has its statements
sketched_ports : (of_ram of_ports : List Choice) (ps : List RawPort) → length (settings_of of_ram of_ports ps) ≡ length ps
unfolding settings_of
sketched_ports of_ram of_ports [] = refl
sketched_ports of_ram of_ports (p ∷ ps) = let h = sketched_ports of_ram (drop (length p.options) of_ports) ps in omega (arith, h)

all_groups : (all : List RawPort) (ws : List ℕ) (ps : List RawPort) (row : List Choice) (sss : List (List Setting)) → length sss ≡ length ps → length ps ≤ length (groups_of all ws ps row sss)
unfolding groups_of
all_groups all ws [] row sss e = omega arith
all_groups all ws (p ∷ ps) row [] e = absurd (omega arith)
all_groups all ws (p ∷ ps) row (ss ∷ sss) e =
    let h : length ps ≤ length (groups_of all ws ps (drop (length p.options) row) sss) = all_groups all ws ps (drop (length p.options) row) sss (omega arith) in
    omega (arith, h)

not_many_names : (all : List RawPort) (ws : List ℕ) (ps : List RawPort) (row : List Choice) (sss : List (List Setting)) → length sss ≡ length ps → Each FewNames (groups_of all ws ps row sss) → many_names ps ≡ false
unfolding groups_of
not_many_names all ws [] row sss e h = refl
not_many_names all ws (p ∷ ps) row [] e h = absurd (omega arith)
not_many_names all ws (p ∷ ps) row (ss ∷ sss) e h =
    none_or (nat_lt 8 (length p.names)) (many_names ps)
    (le-ltb 8 (length p.names) (subst (λ (names : List (List ℕ)). length names ≤ 8) (names_kept all ws p (take (length p.options) row) ss) h.0))
    (not_many_names all ws ps (drop (length p.options) row) sss (omega arith) h.1)

-- ---- one variant

-- a row of choices makes a variant that passes no limit
pub record IsRowTaken (ram : RawRam) (row : List Choice) : Type 0 where
  pub many : (judge_of ram row).many_widths ≡ false
  pub high : (judge_of ram row).high_abits ≡ false
  pub wide : (judge_of ram row).wide ≡ false
  pub costly : (judge_of ram row).costly ≡ false
  pub large : (judge_of ram row).large ≡ false

abbrev row_sizes : RawRam → List Choice → Sizes
row_sizes ram row = sizes_from plain_sizes (sketch_of ram row).items

row_within : (ram : RawRam) (row : List Choice) → length ram.ports ≤ 4 → many_names ram.ports ≡ false → IsRowTaken ram row → IsVariantWithin (variant_of ram row)
unfolding variant_of
row_within ram row few names t =
    let z = row_sizes ram row in
    let k = sketch_of ram row in
    let left = drop (length ram.options) row in
    let low : z.abits ≤ 20 = ltb-false 20 z.abits t.high in
    record {
      groups = le_trans (few_groups ram.ports z.widths ram.ports left k.ports) few;
      names = All-from_recursion FewNames (groups_of ram.ports z.widths ram.ports left k.ports) (few_names ram.ports z.widths ram.ports left k.ports names);
      widths = ltb-false 8 (length z.widths) t.many;
      abits = low;
      bits_of_a_word = All-from_recursion (λ (w : ℕ). w ≤ 1024) z.widths (narrow z.widths t.wide);
      cost = ltb-false 1048576 z.cost t.costly;
      bits = few_bits z.abits (last_from 0 z.widths) (z.abits - (length z.widths - 1)) low t.large;
    }

row_taken : (ram : RawRam) (row : List Choice) → IsVariantWithin (variant_of ram row) → IsRowTaken ram row
unfolding variant_of
row_taken ram row v =
    let z = row_sizes ram row in
    record {
      many = le-ltb 8 (length z.widths) v.widths;
      high = le-ltb 20 z.abits v.abits;
      wide = not_wide z.widths (recursion_from_All (λ (w : ℕ). w ≤ 1024) z.widths v.bits_of_a_word);
      costly = le-ltb 1048576 z.cost v.cost;
      large = not_large z.abits (last_from 0 z.widths) (z.abits - (length z.widths - 1)) v.bits;
    }

-- a variant has a group for each port
ports_taken : (ram : RawRam) (row : List Choice) → IsVariantWithin (variant_of ram row) → (length ram.ports ≤ 4) × (many_names ram.ports ≡ false)
unfolding variant_of
ports_taken ram row v =
    let z = row_sizes ram row in
    let k = sketch_of ram row in
    let left = drop (length ram.options) row in
    let e = sketched_ports (take (length ram.options) row) left ram.ports in (
      le_trans (all_groups ram.ports z.widths ram.ports left k.ports e) v.groups,
      not_many_names ram.ports z.widths ram.ports left k.ports e (recursion_from_All FewNames (groups_of ram.ports z.widths ram.ports left k.ports) v.names),
    )

-- ---- all variants

rows_taken : (ram : RawRam) (rows : List (List Choice)) → any_many (judges_of ram rows) ≡ false → any_high (judges_of ram rows) ≡ false → any_wide (judges_of ram rows) ≡ false → any_costly (judges_of ram rows) ≡ false → any_large (judges_of ram rows) ≡ false → Each (IsRowTaken ram) rows
rows_taken ram [] m h w c l = tt
rows_taken ram (row ∷ rows) m h w c l =
    let j = judge_of ram row in
    let js = judges_of ram rows in
    let m' = or_none j.many_widths (any_many js) m in
    let h' = or_none j.high_abits (any_high js) h in
    let w' = or_none j.wide (any_wide js) w in
    let c' = or_none j.costly (any_costly js) c in
    let l' = or_none j.large (any_large js) l in
    (record { many = m'.0; high = h'.0; wide = w'.0; costly = c'.0; large = l'.0 }, rows_taken ram rows m'.1 h'.1 w'.1 c'.1 l'.1)

none_taken : (ram : RawRam) (rows : List (List Choice)) (p : Judged → Bool) → ((row : List Choice) → IsRowTaken ram row → p (judge_of ram row) ≡ false) → Each (IsRowTaken ram) rows → list_any p (judges_of ram rows) ≡ false
none_taken ram [] p f h = refl
none_taken ram (row ∷ rows) p f h = none_or (p (judge_of ram row)) (list_any p (judges_of ram rows)) (f row h.0) (none_taken ram rows p f h.1)

-- ---- one RAM

kind_within : (earlier : ℕ) (ram : RawRam) → IsTaken earlier ram → IsKindWithin (kind_of ram)
unfolding kind_of
kind_within earlier ram t =
    let rows = all_rows ram in
    let few : length ram.ports ≤ 4 = ltb-false 4 (length ram.ports) t.groups in
    let each = rows_taken ram rows t.many t.high t.wide t.costly t.large in
    let within = each_weaker (IsRowTaken ram) (λ (row : List Choice). IsVariantWithin (variant_of ram row)) rows (λ row h. row_within ram row few t.names h) each in
    let made = each_map IsVariantWithin (λ (row : List Choice). variant_of ram row) rows within in
    record {
      variants = subst (λ (n : ℕ). n ≤ 256) (sym (length-map rows (λ (row : List Choice). variant_of ram row))) (few_rows (all_options ram) t.variants);
      each = All-from_recursion IsVariantWithin (variants_of ram rows) made;
    }

first_row : (ram : RawRam) (rows : List (List Choice)) → IsSomething rows → Each (λ (row : List Choice). IsVariantWithin (variant_of ram row)) rows → (length ram.ports ≤ 4) × (many_names ram.ports ≡ false)
first_row ram [] s h = absurd (omega arith)
first_row ram (row ∷ rows) s h = ports_taken ram row h.0

kind_taken : (earlier : ℕ) (ram : RawRam) → nat_le 64 earlier ≡ false → HasChoices ram → IsKindWithin (kind_of ram) → IsTaken earlier ram
unfolding kind_of
kind_taken earlier ram early choices k =
    let rows = all_rows ram in
    let made = recursion_from_All IsVariantWithin (variants_of ram rows) k.each in
    let within = map_each IsVariantWithin (λ (row : List Choice). variant_of ram row) rows made in
    let each = each_weaker (λ (row : List Choice). IsVariantWithin (variant_of ram row)) (IsRowTaken ram) rows (λ row h. row_taken ram row h) within in
    let some : IsSomething rows = some_row (all_options ram) ([] ∷ []) choices (omega arith) in
    let ports = first_row ram rows some within in
    let few : length rows ≤ 256 = subst (λ (n : ℕ). n ≤ 256) (length-map rows (λ (row : List Choice). variant_of ram row)) k.variants in
    record {
      rams = early;
      variants = few_count (all_options ram) few;
      groups = le-ltb 4 (length ram.ports) ports.0;
      names = ports.1;
      many = none_taken ram rows (λ (j : Judged). j.many_widths) (λ row h. h.many) each;
      high = none_taken ram rows (λ (j : Judged). j.high_abits) (λ row h. h.high) each;
      wide = none_taken ram rows (λ (j : Judged). j.wide) (λ row h. h.wide) each;
      costly = none_taken ram rows (λ (j : Judged). j.costly) (λ row h. h.costly) each;
      large = none_taken ram rows (λ (j : Judged). j.large) (λ row h. h.large) each;
    }

-- ---- all RAMs

is_early : (n : ℕ) → nat_le 64 n ≡ false → n + 1 ≤ 64
is_early n h = grind (arith, nat_tests)

early_is : (n : ℕ) → n + 1 ≤ 64 → nat_le 64 n ≡ false
early_is n h = grind (arith, nat_tests)

one_longer : (earlier : List (List ℕ)) (ram : RawRam) → length (and_name earlier ram) ≡ length earlier + 1
one_longer earlier ram = length-append earlier (ram.name ∷ [])

sound_rams : (earlier : List (List ℕ)) (rams : List RawRam) → length earlier ≤ 64 → AreFaultless earlier rams → AreSound earlier rams × (length earlier + length rams ≤ 64) × Each IsKindWithin (kinds_of rams)
unfolding AreFaultless AreSound
sound_rams earlier [] few h = (tt, omega arith, tt)
sound_rams earlier (ram ∷ rams) few h =
    let p = sound_of_none earlier ram h.0 in
    let one = one_longer earlier ram in
    let early : length earlier + 1 ≤ 64 = is_early (length earlier) p.1.rams in
    let q = sound_rams (and_name earlier ram) rams (omega (arith, one, early)) h.1 in
    let count : length (and_name earlier ram) + length rams ≤ 64 = q.1 in
    ((p.0, q.0), omega (arith, one, count), (kind_within (length earlier) ram p.1, q.2))

pub sound_and_within : (rams : List RawRam) → AreFaultless [] rams → AreSound [] rams × IsWithinLimits (library_of rams)
sound_and_within rams h =
    let p = sound_rams [] rams (omega arith) h in
    let count : length rams ≤ 64 = omega (arith, p.1) in (
      p.0,
      record {
        rams = subst (λ (n : ℕ). n ≤ 64) (sym (length-map rams (λ (ram : RawRam). kind_of ram))) count;
        each = All-from_recursion IsKindWithin (kinds_of rams) p.2;
      },
    )

faultless_rams : (earlier : List (List ℕ)) (rams : List RawRam) → length earlier + length rams ≤ 64 → Each HasChoices rams → AreSound earlier rams → Each IsKindWithin (kinds_of rams) → AreFaultless earlier rams
unfolding AreFaultless AreSound
faultless_rams earlier [] few choices s w = tt
faultless_rams earlier (ram ∷ rams) few choices s w =
    let one = one_longer earlier ram in
    let t = kind_taken (length earlier) ram (early_is (length earlier) (omega arith)) choices.0 w.0 in
    (none_of_sound earlier ram s.0 t, faultless_rams (and_name earlier ram) rams (omega (arith, one)) choices.1 s.1 w.1)

pub faultless_of_within : (rams : List RawRam) → Each HasChoices rams → AreSound [] rams → IsWithinLimits (library_of rams) → AreFaultless [] rams
faultless_of_within rams choices s w =
    let count : length rams ≤ 64 = subst (λ (n : ℕ). n ≤ 64) (length-map rams (λ (ram : RawRam). kind_of ram)) w.rams in
    faultless_rams [] rams (omega (arith, count)) choices s (recursion_from_All IsKindWithin (kinds_of rams) w.each)
