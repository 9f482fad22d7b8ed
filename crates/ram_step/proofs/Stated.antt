-- The state after a step, put together from its parts.
use Rattle.std.proofs.Common.{◌≡◌, ℕ, zero, suc, ◌<◌, Bool, true, List, [], ◌∷◌, ◌++◌, map, length, get_or, take, Option, Some, refl, sym, ap, ◌∙◌, arith}
use Rattle.std.specs.Prelude.{slice_get}
use Rattle.std.specs.List.{range_with_len}
use Rattle.std.proofs.lemmas.List.FromFn.{fill_by_all, length-map-range_with_len, get_or-map-range_with_len}
use Rattle.std.proofs.lemmas.List.{length-map}
use Rattle.std.proofs.lemmas.Option.{same_Some}
use Rattle.lib_core.specs.declared.library.Tri.{Tri}
use Rattle.lib_core.specs.declared.library.Tri.TheVariants.{Any}
use Rattle.lib_core.specs.declared.library.Variant.{Variant}
use Rattle.lib_core.specs.Rams.{last_width, last_words, filled}
use Rattle.net_core.specs.declared.bits.Event.{Event}
use Rattle.net_core.specs.declared.rams.RamCell.{RamCell}
use Rattle.net_core.specs.Values.{Valuation, bit_at}
use Rattle.net_core.specs.Ram.{Slot, slots_of, slots_written}
use Rattle.net_core.specs.Shape.{fits_variant}
use Rattle.row_store.specs.Rows.{row_of, bit_of}
use Rattle.row_store.proofs.Tables.{tri_at_is}
use Rattle.ram_step.specs.declared.hits.Hit.{Hit}
use Rattle.ram_step.specs.declared.picks.PickKey.{PickKey}
use Rattle.ram_step.specs.Owners.{SlotList}
use Rattle.ram_step.specs.Hits.{hit_bits}
use Rattle.ram_step.specs.Picks.{resolved, start_key}
use Rattle.ram_step.specs.Nexts.{AreHits, AreWords, next_of}
use Rattle.ram_step.specs.Steps.{IsKept}
use Rattle.ram_step.specs.States.{RamLook, kept_width, kept_by, words_by, written_bit, next_kept, IsStateOf, start_of, start_bit, start_kept}
use Rattle.ram_step.proofs.SlotsAt.{number_is}

pub words_ext : (x : Variant) (rows : List (List Tri)) (f : ℕ → ℕ → Tri) → AreWords x rows → ((word k : ℕ) → word < last_words x → k < last_width x → bit_of rows word k ≡ f word k) → rows ≡ words_by x f
words_ext x rows f are each =
    fill_by_all (λ word. map (f word) (range_with_len 0 (last_width x))) rows (last_words x) [] are.count (λ word below.
    fill_by_all (f word) (row_of rows word) (last_width x) Any (are.widths word below) (λ k within. sym (tri_at_is (row_of rows word) k) ∙ each word k below within))

pub kept_ext : (all : List Slot) (xs : List (List Bool)) (f : Slot → List Bool) → length xs ≡ length all → ((i : ℕ) (s : Slot) → slice_get all i ≡ Some s → get_or xs i [] ≡ f s) → xs ≡ map f all
kept_ext [] [] f count each = refl
kept_ext [] (x ∷ xs) f count each = absurd (omega (arith, count))
kept_ext (s ∷ ss) [] f count each = absurd (omega (arith, count))
kept_ext (s ∷ ss) (x ∷ xs) f count each =
    let here = each 0 s refl in
    let rest = kept_ext ss xs f (omega (arith, count)) (λ i t found. each (suc i) t found) in
    λ i. here i ∷ rest i

-- the slots of a cell in a state
abbrev pub slots_in : RamLook → RamCell → SlotList
slots_in a cell = record { variant = a.variant; all = slots_of a.variant cell }

pub are_words : (a : RamLook) (cell : RamCell) → IsStateOf a cell → AreWords a.variant a.words
are_words a cell st = record { count = st.words; widths = st.rows }

pub kept_at : (a : RamLook) (cell : RamCell) → IsStateOf a cell → (i : ℕ) (s : Slot) → slice_get (slots_of a.variant cell) i ≡ Some s → length (get_or a.kept i []) ≡ kept_width a.variant s
kept_at a cell st i s found = ap (λ n. length (get_or a.kept n [])) (sym (number_is a.variant cell i s st.fits found)) ∙ st.bits i s found

pub step_words : {limbs : ℕ} (a : RamLook) (cell : RamCell) (v : Valuation) (e : Event) (hits : List (Option (Hit limbs))) (words : List (List Tri)) → AreHits (slots_in a cell) v e hits → AreWords a.variant words → ((word k : ℕ) → word < last_words a.variant → k < last_width a.variant → bit_of words word k ≡ slots_written (slots_of a.variant cell) (hit_bits hits word k) (bit_of a.words word k)) → words ≡ words_by a.variant (written_bit a cell v e)
step_words a cell v e hits words are shape each =
    words_ext a.variant words (written_bit a cell v e) shape (λ word k below within.
    each word k below within ∙ ap (λ hs. slots_written (slots_of a.variant cell) hs (bit_of a.words word k)) (sym (are.bits word k)))

pub step_kept : (a : RamLook) (cell : RamCell) (v : Valuation) (e : Event) (key : PickKey) (kept : List (List Bool)) → IsStateOf a cell → length kept ≡ length a.kept → ((i : ℕ) (s : Slot) → slice_get (slots_of a.variant cell) i ≡ Some s → IsKept (slots_in a cell) v e a.words key s i a.kept kept) → kept ≡ map (next_kept a cell v e key) (slots_of a.variant cell)
step_kept a cell v e key kept st count each =
    kept_ext (slots_of a.variant cell) kept (next_kept a cell v e key) (count ∙ st.kept) (λ i s found.
    each i s found ∙ ap (λ n. kept_by a.variant s (λ k. resolved key s.number k (next_of (slots_in a cell) v e a.words s (bit_at (get_or a.kept n [])) k))) (sym (number_is a.variant cell i s st.fits found)))

pub step_state : (a : RamLook) (cell : RamCell) (v : Valuation) (e : Event) (key : PickKey) (words : List (List Tri)) (kept : List (List Bool)) → IsStateOf a cell → AreWords a.variant words → length kept ≡ length a.kept → ((i : ℕ) (s : Slot) → slice_get (slots_of a.variant cell) i ≡ Some s → IsKept (slots_in a cell) v e a.words key s i a.kept kept) → IsStateOf (record { variant = a.variant; words = words; kept = kept }) cell
step_state a cell v e key words kept st shape count each =
    record {
      fits = st.fits;
      words = shape.count;
      rows = shape.widths;
      kept = count ∙ st.kept;
      bits = λ i s found.
          ap (λ n. length (get_or kept n [])) (number_is a.variant cell i s st.fits found)
          ∙ ap length (each i s found)
          ∙ length-map-range_with_len (λ k. resolved key s.number k (next_of (slots_in a cell) v e a.words s (bit_at (get_or a.kept i [])) k)) 0 (kept_width a.variant s);
    }

-- a list that is written back whole
pub front : {X : Type 0} (n : ℕ) (xs ys : List X) → length xs ≡ n → take n (xs ++ ys) ≡ xs
front zero [] ys e = refl
front zero (x ∷ xs) ys e = cc
front (suc n) [] ys e = cc
front (suc n) (x ∷ xs) ys e = ap (λ l. x ∷ l) (front n xs ys (omega (arith, e)))

pub get_made : {X : Type 0} (f : ℕ → List X) (n i : ℕ) → i < n → get_or (map f (range_with_len 0 n)) i [] ≡ f i
get_made f n i h = get_or-map-range_with_len f 0 n i i [] h (omega arith)

pub get_mapped : (f : Slot → List Bool) (all : List Slot) (i : ℕ) (s : Slot) → slice_get all i ≡ Some s → get_or (map f all) i [] ≡ f s
get_mapped f [] i s e = cc
get_mapped f (t ∷ ts) zero s e = ap f (same_Some t s e)
get_mapped f (t ∷ ts) (suc i) s e = get_mapped f ts i s e

-- the state at the start is one of the cell
pub start_is_state : (x : Variant) (cell : RamCell) (key : PickKey) → fits_variant cell (Some x) ≡ true → IsStateOf (start_of x cell key) cell
start_is_state x cell key fit =
    record {
      fits = fit;
      words = length-map-range_with_len (λ word. map (start_bit x cell word) (range_with_len 0 (last_width x))) 0 (last_words x);
      rows = λ word h. ap length (get_made (λ w. map (start_bit x cell w) (range_with_len 0 (last_width x))) (last_words x) word h) ∙ length-map-range_with_len (start_bit x cell word) 0 (last_width x);
      kept = length-map (slots_of x cell) (start_kept x key);
      bits = λ i s found.
          ap (λ n. length (get_or (map (start_kept x key) (slots_of x cell)) n [])) (number_is x cell i s fit found)
          ∙ ap length (get_mapped (start_kept x key) (slots_of x cell) i s found)
          ∙ length-map-range_with_len (λ k. resolved (start_key key) s.number k (filled s.kind.start s.pins.init_value k)) 0 (kept_width x s);
    }
