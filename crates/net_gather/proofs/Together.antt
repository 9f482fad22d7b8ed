-- Cells and connects together.
use Rattle.std.proofs.Common.{◌≡◌, ℕ, List, [], ◌++◌, Option, Some, Result, Ok, Err, sym, ap, subst, ◌∙◌}
use Rattle.std.specs.List.{flat_map}
use Rattle.std.specs.Result.{IsErrAnd}
use Rattle.lib_core.specs.declared.library.Library.{Library}
use Rattle.rtlil_text.specs.declared.doc.Item.{Item}
use Rattle.rtlil_text.specs.Grammar.{memory_name}
use Rattle.cell_rows.specs.Kinds.{found, place_of}
use Rattle.net_wires.specs.declared.source.Pair.{Pair}
use Rattle.net_wires.specs.Spans.{Entry, spans, wire_bits}
use Rattle.net_gather.specs.declared.counts.Counts.{Counts}
use Rattle.net_gather.specs.declared.faces.Faces.{Faces}
use Rattle.net_gather.specs.declared.fault.Fault.{Fault}
use Rattle.net_gather.specs.declared.fault.Halt.{Halt}
use Rattle.net_gather.specs.declared.fault.Halt.TheVariants as halt
use Rattle.net_gather.specs.declared.gathering.Gathered.{Gathered}
use Rattle.raw_cells.specs.declared.raw.RawCell.{RawCell}
use Rattle.raw_cells.specs.declared.tied.Tied.{Tied}
use Rattle.raw_cells.specs.Tied.{tied_of}
use Rattle.net_gather.specs.Cells.{Context}
use Rattle.net_gather.specs.Faces.{faces_drive}
use Rattle.net_gather.specs.Faults.{FindsFirst, Halts}
use Rattle.net_gather.specs.Gather.{cell_faults, connect_faults, context, counts_before, counts_of, faults_of, gathered, pairs_of, raw_cells}
use Rattle.net_gather.specs.Sizes.{size_faults}
use Rattle.net_gather.specs.Ties.{first_of, ties_of}
use Rattle.net_gather.proofs.Tying.{first_some, ties_same}

-- what the code knows around a cell is what the items say
pub context_is : (lib : Library) (names : List Entry) (mem : List (List ℕ × ℕ)) (ram : List ℕ → Option ℕ) (f : Faces) (t : Tied) (n : ℕ) (ps : List Pair) (is : List Item) → names ≡ spans 0 is
    → ((n : List ℕ) → found mem n ≡ place_of (flat_map memory_name is) n) → t ≡ tied_of n ps → n ≡ wire_bits is → ps ≡ ties_of (spans 0 is) is
    → ◌≡◌ {A = Context} (record { library = lib; names = names; memory = λ n. found mem n; ram = ram; instance = λ n. found f.modules n; drives = λ k p. faces_drive f k p; tied = t }) (context lib ram f is)
context_is lib names mem ram f t n ps is e h a b d =
    let told : t ≡ tied_of (wire_bits is) (ties_of (spans 0 is) is) = a ∙ (λ i. tied_of (b i) (d i)) in
    λ i. record { library = lib; names = e i; memory = λ n. h n i; ram = ram; instance = λ n. found f.modules n; drives = λ k p. faces_drive f k p; tied = told i }

-- the halt of a call is handed on
finds_err : {X : Type 0} (r : Result X Halt) (e : Halt) (fs : List Fault) (P : X → Type 0) → IsErrAnd r (λ x. x ≡ e) → Halts e fs → FindsFirst r fs P
finds_err (Ok x) e fs P p s = absurd p
finds_err (Err x) e fs P p s = subst (λ (y : Halt). Halts y fs) (sym p) s

halts_front : (h : Halt) (as' bs : List Fault) → Halts h as' → Halts h (as' ++ bs)
halts_front halt.Memory as' bs s = tt
halts_front (halt.Broken f) as' bs s = (s.0 ++ bs, ap (λ (xs : List Fault). xs ++ bs) s.1)

cells_same : (x y : Context) (st : Counts) (is : List Item) → x ≡ y → st ≡ counts_before is → cell_faults y 0 (counts_before is) is ≡ cell_faults x 0 st is
cells_same x y st is p q = sym (ap (λ (z : Context). cell_faults z 0 st is) p ∙ ap (λ (s : Counts). cell_faults y 0 s is) q)

faults_are : (x y : Context) (names : List Entry) (st : Counts) (is : List Item) → x ≡ y → names ≡ y.names → st ≡ counts_before is → size_faults 0 0 is ≡ []
    → faults_of y is ≡ cell_faults x 0 st is ++ connect_faults names 0 is
faults_are x y names st is p n q z =
    ap (λ (fs : List Fault). fs ++ (cell_faults y 0 (counts_before is) is ++ connect_faults y.names 0 is)) z
    ∙ ap (λ (fs : List Fault). fs ++ connect_faults y.names 0 is) (cells_same x y st is p q)
    ∙ ap (λ (es : List Entry). cell_faults x 0 st is ++ connect_faults es 0 is) (sym n)

pub err_cells : {X : Type 0} (r : Result X Halt) (e : Halt) (x y : Context) (names : List Entry) (st : Counts) (is : List Item) (P : X → Type 0) → x ≡ y → names ≡ y.names → st ≡ counts_before is → size_faults 0 0 is ≡ []
    → IsErrAnd r (λ h. h ≡ e) → Halts e (cell_faults x 0 st is) → FindsFirst r (faults_of y is) P
err_cells r e x y names st is P p n q z err h = finds_err r e (faults_of y is) P err (subst (Halts e) (sym (faults_are x y names st is p n q z)) (halts_front e (cell_faults x 0 st is) (connect_faults names 0 is) h))

pub first_halts : (o : Option Fault) (f : Fault) (x y : Context) (names : List Entry) (st : Counts) (is : List Item) → x ≡ y → names ≡ y.names → st ≡ counts_before is → size_faults 0 0 is ≡ []
    → cell_faults x 0 st is ≡ [] → o ≡ first_of (connect_faults names 0 is) → o ≡ Some f → Halts (halt.Broken f) (faults_of y is)
first_halts o f x y names st is p n q z c first e =
    let s = first_some (connect_faults names 0 is) f (sym first ∙ e) in
    (s.0, faults_are x y names st is p n q z ∙ ap (λ (fs : List Fault). fs ++ connect_faults names 0 is) c ∙ s.1)

pub all_found : (x y : Context) (names : List Entry) (st : Counts) (is : List Item) (n m : ℕ) (cells : List RawCell) (pairs : List Pair) → x ≡ y → names ≡ y.names → st ≡ counts_before is → size_faults 0 0 is ≡ []
    → cell_faults x 0 st is ≡ [] → connect_faults names 0 is ≡ [] → n ≡ wire_bits is → m ≡ (counts_of x st is).places → cells ≡ raw_cells x st is → pairs ≡ ties_of names is
    → (faults_of y is ≡ []) × ◌≡◌ {A = Gathered} (record { wire_places = n; places = m; cells = cells; pairs = pairs }) (gathered y is)
all_found x y names st is n m cells pairs p e q z c d wn wm wc wp = (
  faults_are x y names st is p e q z ∙ ap (λ (fs : List Fault). fs ++ connect_faults names 0 is) c ∙ d,
  let places : m ≡ (counts_of y (counts_before is) is).places = wm ∙ ap (λ (v : Context). (counts_of v st is).places) p ∙ ap (λ (s : Counts). (counts_of y s is).places) q in
      let made : cells ≡ raw_cells y (counts_before is) is = wc ∙ ap (λ (v : Context). raw_cells v st is) p ∙ ap (λ (s : Counts). raw_cells y s is) q in
      let joined : pairs ≡ pairs_of y.names is = wp ∙ ties_same names 0 is d ∙ ap (λ (es : List Entry). pairs_of es is) e in
      λ i. record { wire_places = wn i; places = places i; cells = made i; pairs = joined i },
)
