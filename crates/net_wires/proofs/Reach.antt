-- Signals name bits that are there.
use Rattle.std.proofs.Common.{◌≡◌, ℕ, zero, suc, ◌+◌, ◌<◌, ◌≤◌, Bool, true, false, cond, List, [], ◌∷◌, ◌++◌, map, reverse, take, drop, Option, Some, None, refl, sym, subst, arith}
use Rattle.std.specs.Str.{bytes_eq}
use Rattle.std.proofs.lemmas.List.{reverse-append}
use Rattle.std.proofs.lemmas.Option.{same_Some}
use Rattle.net_core.specs.Values.{nat_bit}
use Rattle.rtlil_lex.specs.declared.token.Digit.{Digit}
use Rattle.rtlil_lex.specs.declared.token.Digit.TheVariants as digit
use Rattle.rtlil_text.specs.declared.doc.DocConst.{DocConst}
use Rattle.rtlil_text.specs.declared.doc.DocConst.TheVariants as const
use Rattle.rtlil_text.specs.declared.doc.Item.{Item}
use Rattle.rtlil_text.specs.declared.doc.Item.TheVariants as item
use Rattle.rtlil_text.specs.declared.doc.Part.{Part}
use Rattle.rtlil_text.specs.declared.doc.Part.TheVariants as part
use Rattle.net_wires.specs.declared.names.Span.{Span}
use Rattle.net_wires.specs.declared.source.Source.{Source}
use Rattle.net_wires.specs.declared.source.Source.TheVariants as source
use Rattle.net_wires.specs.Connects.{pair_up}
use Rattle.net_wires.specs.Links.{IsWithin, PairsWithin, SourcesWithin}
use Rattle.net_wires.specs.Parts.{State, start, put, closed, step, steps, signal_bits}
use Rattle.net_wires.specs.Settled.{loose_count, settled}
use Rattle.net_wires.specs.Signals.{bit_source, const_bits, digit_source, number_bits, span_bits, text_bits, upto}
use Rattle.net_wires.specs.Spans.{Entry, look, spans, There, wire_bits}

-- ---- wires

found_first : (b : Bool) (from width total : ℕ) (s : Span) (o : Option Span) → cond b (Some (record { base = from; width = width })) o ≡ Some s → from + width ≤ total → (o ≡ Some s → s.base + s.width ≤ total) → s.base + s.width ≤ total
found_first true from width total s o h le f = let e = same_Some (record { base = from; width = width }) s h in subst (λ (x : Span). x.base + x.width ≤ total) e le
found_first false from width total s o h le f = f h

there_from : (from : ℕ) (items : List Item) (name : List ℕ) (s : Span) → look (spans from items) name ≡ Some s → s.base + s.width ≤ from + wire_bits items
there_from from [] name s h = cc
there_from from (item.Wire w ∷ is) name s h =
    found_first (bytes_eq name w.name) from w.width (from + (w.width + wire_bits is)) s (look (spans (from + w.width) is) name) h (omega arith) (λ e. let r = there_from (from + w.width) is name s e in omega (arith, r))
there_from from (item.Param p ∷ is) name s h = there_from from is name s h
there_from from (item.Mem m ∷ is) name s h = there_from from is name s h
there_from from (item.Cell c ∷ is) name s h = there_from from is name s h
there_from from (item.Connect l r ∷ is) name s h = there_from from is name s h

pub all_there : (items : List Item) → There (wire_bits items) (spans 0 items)
all_there items name s h = let r = there_from 0 items name s h in omega (arith, r)

-- ---- bits

pub append_in : (n : ℕ) (xs ys : List Source) → SourcesWithin n xs → SourcesWithin n ys → SourcesWithin n (xs ++ ys)
append_in n [] ys h k = k
append_in n (x ∷ xs) ys h k = (h.0, append_in n xs ys h.1 k)

take_in : (n k : ℕ) (xs : List Source) → SourcesWithin n xs → SourcesWithin n (take k xs)
take_in n zero xs h = tt
take_in n (suc k) [] h = tt
take_in n (suc k) (x ∷ xs) h = (h.0, take_in n k xs h.1)

drop_in : (n k : ℕ) (xs : List Source) → SourcesWithin n xs → SourcesWithin n (drop k xs)
drop_in n zero xs h = h
drop_in n (suc k) [] h = tt
drop_in n (suc k) (x ∷ xs) h = drop_in n k xs h.1

reverse_in : (n : ℕ) (xs : List Source) → SourcesWithin n xs → SourcesWithin n (reverse xs)
reverse_in n [] h = tt
reverse_in n (x ∷ xs) h = subst (SourcesWithin n) (sym (reverse-append (x ∷ []) xs)) (append_in n (reverse xs) (x ∷ []) (reverse_in n xs h.1) (h.0, tt))

upto_in : (n : ℕ) (f : ℕ → Source) (k : ℕ) → ((i : ℕ) → i < k → IsWithin n (f i)) → SourcesWithin n (upto f k)
upto_in n f zero h = tt
upto_in n f (suc k) h = append_in n (upto f k) (f k ∷ []) (upto_in n f k (λ i lt. h i (omega (arith, lt)))) (h k (omega arith), tt)

bit_in : (n : ℕ) (b : Bool) → IsWithin n (bit_source b)
bit_in n true = tt
bit_in n false = tt

number_in : (n value k : ℕ) → SourcesWithin n (number_bits value k)
unfolding number_bits
number_in n value k = upto_in n (λ i. bit_source (nat_bit value i)) k (λ i lt. bit_in n (nat_bit value i))

text_in : (n : ℕ) (bs : List ℕ) → SourcesWithin n (text_bits bs)
text_in n [] = tt
text_in n (b ∷ bs) = append_in n (text_bits bs) (number_bits b 8) (text_in n bs) (number_in n b 8)

digit_in : (n : ℕ) (d : Digit) → IsWithin n (digit_source d)
digit_in n digit.Zero = tt
digit_in n digit.One = tt
digit_in n digit.X = tt
digit_in n digit.Z = tt
digit_in n digit.Dash = tt

digits_in : (n : ℕ) (ds : List Digit) → SourcesWithin n (map digit_source ds)
digits_in n [] = tt
digits_in n (d ∷ ds) = (digit_in n d, digits_in n ds)

const_in : (n : ℕ) (c : DocConst) → SourcesWithin n (const_bits c)
const_in n (const.Digits ds) = reverse_in n (map digit_source ds) (digits_in n ds)
const_in n (const.Number z) = number_in n _ 32
const_in n (const.Text t) = text_in n t

span_in : (n : ℕ) (o : Option Span) → ((s : Span) → o ≡ Some s → s.base + s.width ≤ n) → SourcesWithin n (span_bits o)
span_in n None f = tt
span_in n (Some s) f = let h = f s refl in upto_in n (λ k. source.At (s.base + k)) s.width (λ i lt. omega (arith, h, lt))

-- ---- what was read of a signal

abbrev AllWithin : ℕ → List (List Source) → Type 0
AllWithin n [] = Unit {0}
AllWithin n (xs ∷ xss) = SourcesWithin n xs × AllWithin n xss

record StateIn (n : ℕ) (st : State) : Type 0 where
  outer : AllWithin n st.outer
  before : SourcesWithin n st.before
  last : SourcesWithin n st.last

put_in : (n : ℕ) (st : State) (bits : List Source) → SourcesWithin n bits → StateIn n st → StateIn n (put st bits)
put_in n st bits h k = record { outer = k.outer; before = append_in n st.last st.before k.last k.before; last = h }

closed_in : (n : ℕ) (o : List (List Source)) (st : State) → AllWithin n o → StateIn n st → StateIn n (closed o st)
closed_in n [] st h k = k
closed_in n (b ∷ bs) st h k = record { outer = h.1; before = h.0; last = append_in n st.last st.before k.last k.before }

step_in : (n : ℕ) (names : List Entry) (st : State) (p : Part) → There n names → StateIn n st → StateIn n (step names st p)
step_in n names st (part.Fixed c) t k = put_in n st (const_bits c) (const_in n c) k
step_in n names st (part.Wire m) t k = put_in n st (span_bits (look names m)) (span_in n (look names m) (λ s e. t m s e)) k
step_in n names st (part.Slice high low) t k = record { outer = k.outer; before = k.before; last = take_in n _ (drop low st.last) (drop_in n low st.last k.last) }
step_in n names st part.Begin t k = record { outer = (append_in n st.last st.before k.last k.before, k.outer); before = tt; last = tt }
step_in n names st part.End t k = closed_in n st.outer st k.outer k

steps_in : (n : ℕ) (names : List Entry) (st : State) (ps : List Part) → There n names → StateIn n st → StateIn n (steps names st ps)
steps_in n names st [] t k = k
steps_in n names st (p ∷ ps) t k = steps_in n names (step names st p) ps t (step_in n names st p t k)

pub signal_in : (n : ℕ) (names : List Entry) (ps : List Part) → There n names → SourcesWithin n (signal_bits names ps)
signal_in n names ps t =
    let k = steps_in n names start ps t (record { outer = tt; before = tt; last = tt }) in
    append_in n (steps names start ps).last (steps names start ps).before k.last k.before

pub pair_in : (n : ℕ) (xs ys : List Source) → SourcesWithin n xs → SourcesWithin n ys → PairsWithin n (pair_up xs ys)
pair_in n [] ys h k = tt
pair_in n (x ∷ xs) [] h k = tt
pair_in n (x ∷ xs) (y ∷ ys) h k = (h.0, (k.0, pair_in n xs ys h.1 k.1))

pub settled_in : (n m next : ℕ) (ss : List Source) → n ≤ m → next + loose_count ss ≤ m → SourcesWithin n ss → SourcesWithin m (settled next ss)
settled_in n m next [] le room h = tt
settled_in n m next (source.Loose ∷ ss) le room h = (omega (arith, room), settled_in n m (next + 1) ss le (omega (arith, room)) h.1)
settled_in n m next (source.Zero ∷ ss) le room h = (tt, settled_in n m next ss le room h.1)
settled_in n m next (source.One ∷ ss) le room h = (tt, settled_in n m next ss le room h.1)
settled_in n m next (source.At p ∷ ss) le room h = let here = h.0 in (omega (arith, here, le), settled_in n m next ss le room h.1)
