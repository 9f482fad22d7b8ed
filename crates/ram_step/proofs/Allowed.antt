-- A run by picks is one that the cell allows.
use Rattle.std.proofs.Common.{◌≡◌, ◌≢◌, ℕ, zero, suc, ◌+◌, ◌/◌, ◌<◌, Bool, true, false, not, ◌&&◌, cond, nat_eq, List, [], ◌∷◌, map, length, get_or, Option, Some, None, refl, sym, ap, subst, ◌∙◌, ⊎_elim, arith, eq-eqb}
use Rattle.std.specs.Prelude.{slice_get, slice_index, option_map}
use Rattle.std.specs.List.{range_with_len, list_any, position_or_len}
use Rattle.std.proofs.lemmas.List.FromFn.{get_or-map-range_with_len}
use Rattle.std.proofs.lemmas.Option.{same_Some, get_or_from_slice_get}
use Rattle.std.proofs.lemmas.Bool.{cases_eq, ne_eqb, lt-ltb, eqb-true}
use Rattle.lib_core.specs.declared.library.Tri.{Tri}
use Rattle.lib_core.specs.declared.library.Tri.TheVariants.{Zero, One, Any}
use Rattle.lib_core.specs.declared.library.PortKind.{PortKind}
use Rattle.lib_core.specs.declared.library.PortKind.TheVariants.{Ar, Sr, Sw, Arsw, Srsw}
use Rattle.lib_core.specs.declared.library.Variant.{Variant}
use Rattle.lib_core.specs.Rams.{last_width, last_words, lies, reads_now, reads_later, kind_reads, filled, lane_width}
use Rattle.net_core.specs.declared.bits.Edge.{Edge}
use Rattle.net_core.specs.declared.bits.Event.{Event}
use Rattle.net_core.specs.declared.bits.Clock.{Clock}
use Rattle.net_core.specs.declared.bits.Clock.TheVariants.{Root, Never}
use Rattle.net_core.specs.declared.rams.RamCell.{RamCell}
use Rattle.net_core.specs.Values.{Valuation, Wave, Happening, Agrees, bit_at, tri_of, is_input, has_edge, same_bool}
use Rattle.net_core.specs.Ports.{edge_place, happening_of}
use Rattle.net_core.specs.Shape.{fits_variant, slot_fits, pins_fit, has_where, has_length}
use Rattle.net_core.specs.Ram.{Slot, slots_of, slot_width, word_of, place_at, hit_at, slot_edge, slot_active, slot_hits, slots_written, slot_in_arst, slot_in_srst, slot_enabled, slot_reading, slot_loads, own_loads, writes_itself, slot_next, lane_enabled, RegisteredAllows, ReadsNow}
use Rattle.net_core.proofs.Basics.{and_left, and_right, both, get_below}
use Rattle.row_store.specs.Rows.{bit_of}
use Rattle.row_store.proofs.Tables.{tri_at-made}
use Rattle.ram_step.specs.declared.picks.PickKey.{PickKey}
use Rattle.ram_step.specs.Picks.{resolved, start_key}
use Rattle.ram_step.specs.Moments.{edge_nets, edge_alone, inputs_alone, moment_of}
use Rattle.ram_step.specs.States.{RamLook, keeps, kept_width, kept_of, words_by, start_bit, start_kept, written_bit, next_tri, next_kept, shown_tri}
use Rattle.ram_step.specs.Runs.{PickedRun, EdgesAreInputs, PickedRunIsAllowed}
use Rattle.ram_step.proofs.SlotsAt.{slot_at, number_is}
use Rattle.ram_step.proofs.Keeping.{bit_at_is}
use Rattle.ram_step.proofs.Stated.{get_made, get_mapped}

-- an input by its net
pub place_is_input : (inputs : List ℕ) (n k : ℕ) → slice_get inputs k ≡ Some n → (position_or_len (λ m. nat_eq m n) inputs < length inputs) × ((net : ℕ) → is_input inputs (position_or_len (λ m. nat_eq m n) inputs) net ≡ nat_eq n net)
place_is_input [] n k e = cc
place_is_input (m ∷ ms) n zero e =
    let same : m ≡ n = same_Some m n e in
    let place : position_or_len (λ z. nat_eq z n) (m ∷ ms) ≡ 0 = ap (λ t. cond (not t) (1 + position_or_len (λ z. nat_eq z n) ms) 0) (eq-eqb m n same) in
    (omega (arith, place), λ net. ap (λ i. is_input (m ∷ ms) i net) place ∙ ap (λ z. nat_eq z net) same)
place_is_input (m ∷ ms) n (suc k) e =
    ⊎_elim
    (λ (same : m ≡ n).
    let place : position_or_len (λ z. nat_eq z n) (m ∷ ms) ≡ 0 = ap (λ t. cond (not t) (1 + position_or_len (λ z. nat_eq z n) ms) 0) (eq-eqb m n same) in
    let below : position_or_len (λ z. nat_eq z n) (m ∷ ms) < length (m ∷ ms) = omega (arith, place) in
    (below, λ net. ap (λ i. is_input (m ∷ ms) i net) place ∙ ap (λ z. nat_eq z net) same))
    (λ (apart : m ≢ n).
    let rest = place_is_input ms n k e in
    let low = rest.0 in
    let place : position_or_len (λ z. nat_eq z n) (m ∷ ms) ≡ suc (position_or_len (λ z. nat_eq z n) ms) = ap (λ t. cond (not t) (1 + position_or_len (λ z. nat_eq z n) ms) 0) (ne_eqb m n apart) ∙ (let z : 1 + position_or_len (λ z. nat_eq z n) ms ≡ suc (position_or_len (λ z. nat_eq z n) ms) = omega arith in z) in
    let below : position_or_len (λ z. nat_eq z n) (m ∷ ms) < length (m ∷ ms) = omega (arith, place, low) in
    (below, λ net. ap (λ i. is_input (m ∷ ms) i net) place ∙ rest.1 net))
    (cases_eq m n)

-- the edges of an event as a module and as the cell alone see it
pub edge_same : (inputs : List ℕ) (o : Option Edge) → ((d : Edge) → o ≡ Some d → (k : ℕ) × (slice_get inputs k ≡ Some d.net)) → (c : Clock) → has_edge inputs (edge_place inputs o) c ≡ has_edge (edge_nets o) (edge_alone o) c
edge_same inputs None h c = refl
edge_same inputs (Some d) h Never =
    let w = h d refl in
    let p = place_is_input inputs d.net w.0 w.1 in
    let place : edge_place inputs (Some d) ≡ Some (position_or_len (λ m. nat_eq m d.net) inputs, d.rising) =
    ap (λ t. option_map (λ q. (q, d.rising)) (cond t (Some (position_or_len (λ m. nat_eq m d.net) inputs)) None)) (lt-ltb (position_or_len (λ m. nat_eq m d.net) inputs) (length inputs) p.0) in
    ap (λ z. has_edge inputs z Never) place
edge_same inputs (Some d) h (Root net rising) =
    let w = h d refl in
    let p = place_is_input inputs d.net w.0 w.1 in
    let place : edge_place inputs (Some d) ≡ Some (position_or_len (λ m. nat_eq m d.net) inputs, d.rising) =
    ap (λ t. option_map (λ q. (q, d.rising)) (cond t (Some (position_or_len (λ m. nat_eq m d.net) inputs)) None)) (lt-ltb (position_or_len (λ m. nat_eq m d.net) inputs) (length inputs) p.0) in
    ap (λ z. has_edge inputs z (Root net rising)) place ∙ ap (λ t. t && same_bool d.rising rising) (p.1 net)

-- two ways to see a moment at which each clock has its edge or not alike
abbrev pub SeesAlike : List ℕ → Happening → List ℕ → Happening → Type 0
SeesAlike inputs e others f = (c : Clock) → has_edge inputs e.edge c ≡ has_edge others f.edge c

pub active_same : (inputs others : List ℕ) (e f : Happening) (v : Valuation) (s : Slot) → SeesAlike inputs e others f → slot_active inputs e v s ≡ slot_active others f v s
active_same inputs others e f v s h = ap (λ t. (s.pins.used && t) && slot_enabled v s) (h s.pins.clock)

pub hits_same : (inputs others : List ℕ) (x : Variant) (e f : Happening) (v : Valuation) (word k : ℕ) (all : List Slot) → SeesAlike inputs e others f → slot_hits inputs x e v word k all ≡ slot_hits others x f v word k all
hits_same inputs others x e f v word k [] h = refl
hits_same inputs others x e f v word k (s ∷ ss) h =
    let one = ap (λ t. hit_at x v s t (place_at x v s word k)) (active_same inputs others e f v s h) in
    let rest = hits_same inputs others x e f v word k ss h in
    λ i. one i ∷ rest i

pub next_same : (inputs others : List ℕ) (x : Variant) (all : List Slot) (s : Slot) (e f : Happening) (v : Valuation) (words : ℕ → ℕ → Tri) (kept : ℕ → Bool) (k out : ℕ) → SeesAlike inputs e others f → slot_next inputs x all s e v words kept k out ≡ slot_next others x all s f v words kept k out
next_same inputs others x all s e f v words kept k out h =
    let at = lies x s.pins.level (word_of v s) k in
    let old : Tri = words at.0 at.1 in
    let same = hits_same inputs others x e f v at.0 at.1 all h in
    let last : List (Option Bool) → Bool → Tri = λ hs w. cond w (own_loads s all hs old (kept k) s.kind.own) (slot_loads s all hs old) in
    let body : Bool → Tri → Tri = λ edge load. cond (slot_in_arst v s) (tri_of (v out)) (cond (not edge) (tri_of (kept k)) (cond (slot_in_srst v s) (filled s.kind.srst s.pins.srst_value k) (cond (not (slot_enabled v s && slot_reading v s)) (tri_of (kept k)) load))) in
    ap (λ t. body t (last (slot_hits inputs x e v at.0 at.1 all) (writes_itself inputs x e v s))) (ap (λ t. s.pins.used && t) (h s.pins.clock))
    ∙ ap (λ hs. body (slot_edge others f s) (last hs (writes_itself inputs x e v s))) same
    ∙ ap (λ t. body (slot_edge others f s) (last (slot_hits others x f v at.0 at.1 all) (t && list_any (λ i. lane_enabled v s (i / lane_width x.byte (slot_width x s))) (range_with_len 0 (slot_width x s))))) (active_same inputs others e f v s h)

pub agrees_resolved : (key : PickKey) (slot k : ℕ) (t : Tri) → Agrees t (resolved key slot k t)
agrees_resolved key slot k Zero = refl
agrees_resolved key slot k One = refl
agrees_resolved key slot k Any = tt

pub agrees_along : (key : PickKey) (slot k : ℕ) (t : Tri) (b : Bool) → b ≡ resolved key slot k t → Agrees t b
agrees_along key slot k t b e = subst (λ z. Agrees t z) (sym e) (agrees_resolved key slot k t)

pub bit_by : (x : Variant) (f : ℕ → ℕ → Tri) (word k : ℕ) → word < last_words x → k < last_width x → bit_of (words_by x f) word k ≡ f word k
bit_by x f word k below within = ap (λ r. bit_of (r ∷ []) 0 k) (get_made (λ w. map (f w) (range_with_len 0 (last_width x))) (last_words x) word below) ∙ tri_at-made (f word) (last_width x) k within

pub bit_made : (f : ℕ → Bool) (n k : ℕ) → k < n → bit_at (map f (range_with_len 0 n)) k ≡ f k
bit_made f n k h = bit_at_is (map f (range_with_len 0 n)) k ∙ get_or-map-range_with_len f 0 n k k false h (omega arith)

pub back : {X Y : Type 0} (f : X → Y) (xs : List X) (t : ℕ) (y : Y) → slice_get (map f xs) t ≡ Some y → (x : X) × ((slice_get xs t ≡ Some x) × (f x ≡ y))
back f [] t y e = cc
back f (x ∷ xs) zero y e = (x, (refl, same_Some (f x) y e))
back f (x ∷ xs) (suc t) y e = back f xs t y e

pub earlier : {X : Type 0} (xs : List X) (t : ℕ) (x : X) → slice_get xs (suc t) ≡ Some x → (y : X) × (slice_get xs t ≡ Some y)
earlier [] t x e = cc
earlier (y ∷ ys) zero x e = (y, refl)
earlier (y ∷ ys) (suc t) x e = earlier ys t x e

-- the variant stays that of the start
pub variant_is : (x : Variant) (cell : RamCell) (key : ℕ → PickKey) (events : List Event) (v : Wave) (run : PickedRun x cell key events v) (t : ℕ) (e : Event) → slice_get events t ≡ Some e → (run.state t).variant ≡ x
variant_is x cell key events v run zero e at = ap (λ a. a.variant) run.starts
variant_is x cell key events v run (suc t) e at =
    let w = earlier events t e at in
    ap (λ a. a.variant) (run.steps t w.0 w.1) ∙ variant_is x cell key events v run t w.0 w.1

pub not_now : (kind : PortKind) → reads_later kind ≡ true → reads_now kind ≡ false
not_now Ar h = cc
not_now Sr h = refl
not_now Sw h = refl
not_now Arsw h = cc
not_now Srsw h = refl

pub later_reads : (kind : PortKind) → reads_later kind ≡ true → kind_reads kind ≡ true
later_reads Ar h = refl
later_reads Sr h = refl
later_reads Sw h = cc
later_reads Arsw h = refl
later_reads Srsw h = refl

pub now_reads : (kind : PortKind) → reads_now kind ≡ true → kind_reads kind ≡ true
now_reads Ar h = refl
now_reads Sr h = refl
now_reads Sw h = cc
now_reads Arsw h = refl
now_reads Srsw h = refl

-- a place of the outputs of a slot that reads is one of its word
pub place_within : (x : Variant) (cell : RamCell) (i : ℕ) (s : Slot) (k net : ℕ) → fits_variant cell (Some x) ≡ true → slice_get (slots_of x cell) i ≡ Some s → kind_reads s.kind.kind ≡ true → slice_get s.pins.out k ≡ Some net → k < slot_width x s
place_within x cell i s k net fit found reads at =
    let w = slot_at x cell i fit (get_below (slots_of x cell) i s found) in
    let same : w.0 ≡ s = same_Some w.0 s (sym w.1.found ∙ found) in
    let fits : slot_fits x s.kind s.pins ≡ true = subst (λ z. slot_fits x z.kind z.pins ≡ true) same w.1.fits in
    let pins = and_left (pins_fit x s.kind s.pins) _ fits in
    let out = and_left (has_where (kind_reads s.kind.kind) s.pins.out (slot_width x s)) _ (and_right (has_length s.pins.addr x.abits) _ pins) in
    let long : length s.pins.out ≡ slot_width x s = eqb-true (length s.pins.out) (cond (kind_reads s.kind.kind) (slot_width x s) 0) out ∙ ap (λ t. cond t (slot_width x s) 0) reads in
    let below = get_below s.pins.out k net at in
    omega (arith, long, below)

pub and_none : (a : Bool) → (a && false) ≡ false
and_none true = refl
and_none false = refl

-- what a slot keeps over the run; at the start as it was picked
pub kept_run : (ℕ → RamLook) → PickKey → Slot → ℕ → ℕ → Bool
kept_run state key s zero k = resolved (start_key key) s.number k (filled s.kind.start s.pins.init_value k)
kept_run state key s (suc t) k = bit_at (kept_of (state (suc t)).kept s) k

pub kept_width_is : (x : Variant) (s : Slot) → keeps s ≡ true → kept_width x s ≡ slot_width x s
kept_width_is x s e = ap (λ t. cond t (slot_width x s) 0) e

pub kept_is : (x : Variant) (cell : RamCell) (key : ℕ → PickKey) (events : List Event) (v : Wave) (run : PickedRun x cell key events v) (i : ℕ) (s : Slot) → fits_variant cell (Some x) ≡ true → slice_get (slots_of x cell) i ≡ Some s → keeps s ≡ true → (t k : ℕ) → k < slot_width x s → kept_run run.state (key 0) s t k ≡ bit_at (kept_of (run.state t).kept s) k
unfolding kept_run
kept_is x cell key events v run i s fit found used zero k h =
    let width = kept_width_is x s used in
    sym (ap (λ a. bit_at (kept_of a.kept s) k) run.starts
    ∙ ap (λ n. bit_at (get_or (map (start_kept x (key 0)) (slots_of x cell)) n []) k) (number_is x cell i s fit found)
    ∙ ap (λ l. bit_at l k) (get_mapped (start_kept x (key 0)) (slots_of x cell) i s found)
    ∙ bit_made (λ j. resolved (start_key (key 0)) s.number j (filled s.kind.start s.pins.init_value j)) (kept_width x s) k (omega (arith, width, h)))
kept_is x cell key events v run i s fit found used (suc t) k h = refl

-- what is kept next of a place depends on what is kept of it alone
pub next_kept_same : (inputs : List ℕ) (x : Variant) (all : List Slot) (s : Slot) (e : Happening) (v : Valuation) (words : ℕ → ℕ → Tri) (kept other : ℕ → Bool) (k out : ℕ) → kept k ≡ other k → slot_next inputs x all s e v words kept k out ≡ slot_next inputs x all s e v words other k out
next_kept_same inputs x all s e v words kept other k out h = ap (λ b. slot_next inputs x all s e v words (λ j. b) k out) h

pub registered : (inputs : List ℕ) (x : Variant) (cell : RamCell) (key : ℕ → PickKey) (events : List Event) (v : Wave) → fits_variant cell (Some x) ≡ true → EdgesAreInputs inputs events → (run : PickedRun x cell key events v) → (i : ℕ) (s : Slot) → slice_get (slots_of x cell) i ≡ Some s → s.pins.used ≡ true → reads_later s.kind.kind ≡ true → RegisteredAllows inputs x (slots_of x cell) s (λ t word k. bit_of (run.state t).words word k) (map (happening_of inputs) events) v
unfolding kept_run
registered inputs x cell key events v fit edges run i s found used later =
    let keeping : keeps s ≡ true = both s.pins.used (reads_later s.kind.kind) used later in
    let reads = later_reads s.kind.kind later in
    let all : List Slot = slots_of x cell in
    record {
      kept = kept_run run.state (key 0) s;
      starts = λ k. agrees_resolved (start_key (key 0)) s.number k (filled s.kind.start s.pins.init_value k);
      shows = λ t h at k n there.
          let w = back (happening_of inputs) events t h at in
          let within = place_within x cell i s k n fit found reads there in
          let own : Bool → Tri = λ b. cond (slot_in_arst (v t) s) (filled s.kind.arst s.pins.arst_value k) (tri_of b) in
          let kept = kept_is x cell key events v run i s fit found keeping t k within in
          let tri : shown_tri (run.state t) (v t) s k ≡ own (kept_run run.state (key 0) s t k) =
          ap (λ b. cond b (let at = lies (run.state t).variant s.pins.level (word_of (v t) s) k in bit_of (run.state t).words at.0 at.1) (cond (keeps s) (own (bit_at (kept_of (run.state t).kept s) k)) Any)) (ap (λ b. s.pins.used && b) (not_now s.kind.kind later) ∙ and_none s.pins.used)
          ∙ ap (λ b. cond b (own (bit_at (kept_of (run.state t).kept s) k)) Any) keeping
          ∙ ap own (sym kept) in
          agrees_along (key t) s.number k (own (kept_run run.state (key 0) s t k)) (v t n) (run.shows t w.0 w.1.0 i s found k n there ∙ ap (resolved (key t) s.number k) tri);
      steps = λ t h at k out there.
          let w = back (happening_of inputs) events t h at in
          let e = w.0 in
          let within = place_within x cell i s k out fit found reads there in
          let width = kept_width_is x s keeping in
          let same = variant_is x cell key events v run t e w.1.0 in
          let kept = kept_is x cell key events v run i s fit found keeping t k within in
          let alike : SeesAlike (inputs_alone e) (moment_of e) inputs (happening_of inputs e) = λ c. sym (edge_same inputs e.edge (edges t e w.1.0) c) in
          let net : slice_index s.pins.out k ≡ out = get_or_from_slice_get s.pins.out k out 0 there in
          let words : ℕ → ℕ → Tri = bit_of (run.state t).words in
          let tri : next_tri (run.state t) cell (v t) e s k ≡ slot_next inputs x all s h (v t) words (kept_run run.state (key 0) s t) k out =
          ap (λ z. slot_next (inputs_alone e) z (slots_of z cell) s (moment_of e) (v t) words (bit_at (kept_of (run.state t).kept s)) k (slice_index s.pins.out k)) same
          ∙ ap (slot_next (inputs_alone e) x all s (moment_of e) (v t) words (bit_at (kept_of (run.state t).kept s)) k) net
          ∙ next_kept_same (inputs_alone e) x all s (moment_of e) (v t) words (bit_at (kept_of (run.state t).kept s)) (kept_run run.state (key 0) s t) k out (sym kept)
          ∙ next_same (inputs_alone e) inputs x all s (moment_of e) (happening_of inputs e) (v t) words (kept_run run.state (key 0) s t) k out alike
          ∙ ap (λ z. slot_next inputs x all s z (v t) words (kept_run run.state (key 0) s t) k out) w.1.1 in
          let stepped_kept : bit_at (kept_of (run.state (suc t)).kept s) k ≡ resolved (key t) s.number k (next_tri (run.state t) cell (v t) e s k) =
          ap (λ a. bit_at (kept_of a.kept s) k) (run.steps t e w.1.0)
          ∙ ap (λ n. bit_at (get_or (map (next_kept (run.state t) cell (v t) e (key t)) (slots_of (run.state t).variant cell)) n []) k) (number_is x cell i s fit found)
          ∙ ap (λ l. bit_at l k) (get_mapped (next_kept (run.state t) cell (v t) e (key t)) (slots_of (run.state t).variant cell) i s (ap (λ z. slice_get (slots_of z cell) i) same ∙ found))
          ∙ bit_made (λ j. resolved (key t) s.number j (next_tri (run.state t) cell (v t) e s j)) (kept_width (run.state t).variant s) k (subst (λ z. k < kept_width z s) (sym same) (omega (arith, width, within))) in
          agrees_along (key t) s.number k (slot_next inputs x all s h (v t) words (kept_run run.state (key 0) s t) k out) (kept_run run.state (key 0) s (suc t) k) (stepped_kept ∙ ap (resolved (key t) s.number k) tri);
    }

pub reads_at_once : (inputs : List ℕ) (x : Variant) (cell : RamCell) (key : ℕ → PickKey) (events : List Event) (v : Wave) (run : PickedRun x cell key events v) → (i : ℕ) (s : Slot) → slice_get (slots_of x cell) i ≡ Some s → s.pins.used ≡ true → reads_now s.kind.kind ≡ true → ReadsNow x s (λ t word k. bit_of (run.state t).words word k) (map (happening_of inputs) events) v
reads_at_once inputs x cell key events v run i s found used now t h at k n there =
    let w = back (happening_of inputs) events t h at in
    let e = w.0 in
    let same = variant_is x cell key events v run t e w.1.0 in
    let read : Variant → Tri = λ z. let place = lies z s.pins.level (word_of (v t) s) k in bit_of (run.state t).words place.0 place.1 in
    let tri : shown_tri (run.state t) (v t) s k ≡ read x =
    ap (λ b. cond b (read (run.state t).variant) (cond (keeps s) (cond (slot_in_arst (v t) s) (filled s.kind.arst s.pins.arst_value k) (tri_of (bit_at (kept_of (run.state t).kept s) k))) Any)) (both s.pins.used (reads_now s.kind.kind) used now)
    ∙ ap read same in
    agrees_along (key t) s.number k (read x) (v t n) (run.shows t e w.1.0 i s found k n there ∙ ap (resolved (key t) s.number k) tri)

pub allowed : PickedRunIsAllowed
allowed inputs x cell key events v fit edges run =
    record {
      words = λ t word k. bit_of (run.state t).words word k;
      starts = λ word k below within. ap (λ a. bit_of a.words word k) run.starts ∙ bit_by x (start_bit x cell) word k below within;
      steps = λ t h at word k below within.
          let w = back (happening_of inputs) events t h at in
          let e = w.0 in
          let same = variant_is x cell key events v run t e w.1.0 in
          let alike : SeesAlike (inputs_alone e) (moment_of e) inputs (happening_of inputs e) = λ c. sym (edge_same inputs e.edge (edges t e w.1.0) c) in
          let all : List Slot = slots_of x cell in
          let old : Tri = bit_of (run.state t).words word k in
          ap (λ a. bit_of a.words word k) (run.steps t e w.1.0)
          ∙ bit_by (run.state t).variant (written_bit (run.state t) cell (v t) e) word k (subst (λ z. word < last_words z) (sym same) below) (subst (λ z. k < last_width z) (sym same) within)
          ∙ ap (λ z. slots_written (slots_of z cell) (slot_hits (inputs_alone e) z (moment_of e) (v t) word k (slots_of z cell)) old) same
          ∙ ap (λ hs. slots_written all hs old) (hits_same (inputs_alone e) inputs x (moment_of e) (happening_of inputs e) (v t) word k all alike)
          ∙ ap (λ z. slots_written all (slot_hits inputs x z (v t) word k all) old) w.1.1;
      slots = λ i s found. (reads_at_once inputs x cell key events v run i s found, registered inputs x cell key events v fit edges run i s found);
    }
