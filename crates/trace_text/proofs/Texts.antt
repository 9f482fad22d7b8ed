-- The bytes of the text of traces, line by line.
use Rattle.std.proofs.Common.{◌≡◌, ℕ, ◌+◌, ◌*◌, Bool, List, [], ◌∷◌, ◌++◌, length, take, drop, decimal, codes, arith, refl, sym, ap, subst, ◌∙◌, length-append, length-take, length-drop, add-one}
use Rattle.std.specs.Prelude.{reverse}
use Rattle.std.proofs.lemmas.List.{length-reverse, length-map}
use Rattle.trace_text.specs.declared.rows.Row.{Row}
use Rattle.trace_text.specs.Trace.{rows_of, digit, digits, row_head, constant_text, row_text, event_text, events_text, seed_text, runs_text, trace_text}
use Rattle.trace_text.specs.Lengths.{digits_below, line_bytes, all_bytes, events_bytes, runs_bytes, text_bytes, HasBits, AreRuns, TextHasBytes}
use Rattle.trace_text.proofs.Sizes.{widths, module_widths}

length_digits : (bits : List Bool) → length (digits bits) ≡ length bits
length_digits bits = length-map (reverse bits) digit ∙ length-reverse bits

length_head : (event : ℕ) (r : Row) → length (row_head event r) ≡ length (decimal event) + length r.label + 2
unfolding row_head
length_head event r =
    omega (arith, length-append (decimal event ++ codes " " ++ r.label) (codes " "), length-append (decimal event ++ codes " ") r.label, length-append (decimal event) (codes " "))

length_constant : (width : ℕ) (bits : List Bool) → length (constant_text width bits) ≡ length (decimal width) + length bits + 2
unfolding constant_text
length_constant width bits =
    omega (arith, length-append (decimal width ++ codes "'" ++ digits bits) (codes "\n"), length-append (decimal width ++ codes "'") (digits bits), length-append (decimal width) (codes "'"), length_digits bits)

length_row : (event : ℕ) (r : Row) (bits : List Bool) → length bits ≡ r.width → length (row_text event r bits) ≡ length (decimal event) + line_bytes r
unfolding row_text line_bytes
length_row event r bits e =
    omega (arith, length-append (row_head event r) (constant_text r.width bits), length_head event r, length_constant r.width bits, e)

length_event : (event : ℕ) (rs : List Row) (bits : List Bool) → length bits ≡ widths rs → length (event_text event rs bits) ≡ length rs * length (decimal event) + all_bytes rs
unfolding event_text all_bytes
length_event event [] bits e = grind arith
length_event event (r ∷ rs) bits e =
    let now : length (take r.width bits) ≡ r.width = omega (arith, length-take r.width bits, e) in
    let later : length (drop r.width bits) ≡ widths rs = omega (arith, length-drop r.width bits, e) in
    omega (arith, length-append (row_text event r (take r.width bits)) (event_text event rs (drop r.width bits)), length_row event r (take r.width bits) now, length_event event rs (drop r.width bits) later)

digits_next : (n : ℕ) → digits_below (n + 1) ≡ digits_below n + length (decimal n)
unfolding digits_below
digits_next n = ap digits_below (add-one n)

-- the lines of events from a number on, by the digits of the numbers before and after them
length_events : (rs : List Row) (event : ℕ) (run : List (List Bool)) → HasBits (widths rs) run
    → length (events_text rs event run) + length rs * digits_below event ≡ length rs * digits_below (event + length run) + length run * all_bytes rs
unfolding events_text
length_events rs event [] has = grind arith
length_events rs event (bits ∷ more) has =
    let after = length_events rs (event + 1) more has.1 in
    let line = length_event event rs bits has.0 in
    let place : event + 1 + length more ≡ event + length (bits ∷ more) = omega arith in
    let end : digits_below (event + 1 + length more) ≡ digits_below (event + length (bits ∷ more)) = ap digits_below place in
    omega (arith, length-append (event_text event rs bits) (events_text rs (event + 1) more), after, line, ap (λ n. length rs * n) (digits_next event), ap (λ n. length rs * n) end)

length_run : (rs : List Row) (run : List (List Bool)) (events : ℕ) → length run ≡ events → HasBits (widths rs) run → length (events_text rs 0 run) ≡ events_bytes rs events
unfolding events_bytes digits_below
length_run rs run events e has =
    let none : length rs * digits_below 0 ≡ length rs * 0 = ap (λ n. length rs * n) refl in
    let end : digits_below (0 + length run) ≡ digits_below events = ap digits_below (omega (arith, e)) in
    omega (arith, length_events rs 0 run has, none, ap (λ n. length rs * n) end, ap (λ n. n * all_bytes rs) e)

length_seed : (seed : ℕ) → length (seed_text seed) ≡ length (decimal seed) + 6
unfolding seed_text
length_seed seed = omega (arith, length-append (codes "seed " ++ decimal seed) (codes "\n"), length-append (codes "seed ") (decimal seed))

length_runs : (rs : List Row) (events seed : ℕ) (runs : List (List (List Bool))) → AreRuns (widths rs) events runs
    → length (runs_text rs seed runs) + digits_below seed ≡ digits_below (seed + length runs) + length runs * (6 + events_bytes rs events)
unfolding runs_text
length_runs rs events seed [] are = grind arith
length_runs rs events seed (run ∷ more) are =
    let after = length_runs rs events (seed + 1) more are.1 in
    let one = length_run rs run events are.0.0 are.0.1 in
    let place : seed + 1 + length more ≡ seed + length (run ∷ more) = omega arith in
    let end : digits_below (seed + 1 + length more) ≡ digits_below (seed + length (run ∷ more)) = ap digits_below place in
    omega (arith, length-append (seed_text seed ++ events_text rs 0 run) (runs_text rs (seed + 1) more), length-append (seed_text seed) (events_text rs 0 run), length_seed seed, after, one, digits_next seed, end)

pub text_has_bytes : TextHasBytes
unfolding trace_text text_bytes runs_bytes digits_below
text_has_bytes m events seeds traces count are =
    let runs : AreRuns (widths (rows_of m)) events traces = subst (λ n. AreRuns n events traces) (sym (module_widths m)) are in
    let end : digits_below (0 + length traces) ≡ digits_below seeds = ap digits_below (omega (arith, count)) in
    omega (arith, length_runs (rows_of m) events 0 traces runs, end, ap (λ n. n * (6 + events_bytes (rows_of m) events)) count)
