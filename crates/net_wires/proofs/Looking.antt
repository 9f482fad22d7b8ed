-- Names looked up.
use Rattle.std.proofs.Common.{◌≡◌, ℕ, ◌+◌, ◌-◌, ◌≤◌, ◌||◌, length, get_or, take, drop, Bool, true, false, cond, List, [], ◌∷◌, ◌++◌, map, Option, Some, None, refl, sym, ap, subst, ◌∙◌, append_assoc, arith}
use Rattle.std.specs.List.{flat_map, list_any}
use Rattle.rtlil_text.specs.declared.doc.DocWire.{DocWire}
use Rattle.rtlil_text.specs.declared.doc.Item.{Item}
use Rattle.rtlil_text.specs.declared.doc.Item.TheVariants as item
use Rattle.rtlil_text.specs.Grammar.{AreNew, has, wire_name}
use Rattle.std.specs.Map.{lookup}
use Rattle.std.specs.Str.{bytes_eq}
use Rattle.net_wires.specs.declared.names.Span.{Span}
use Rattle.net_wires.specs.Spans.{Entry, look, spans, wire_bits}
use Rattle.net_wires.proofs.Places.{front}

pub lookup_mapped : {K : Type 0} (v : K → List ℕ) (test : List ℕ → Bool) (es : List (K × Span)) → lookup (λ k. test (v k)) es ≡ lookup test (map (λ e. (v e.0, e.1)) es)
lookup_mapped v test [] = refl
lookup_mapped v test (e ∷ es) = ap (λ (o : Option Span). cond (test (v e.0)) (Some e.1) o) (lookup_mapped v test es)

pub look_is : (es : List Entry) (n : List ℕ) → look es n ≡ lookup (bytes_eq n) es
look_is [] n = refl
look_is (e ∷ es) n = ap (λ (o : Option Span). cond (bytes_eq n e.0) (Some e.1) o) (look_is es n)

pub map_append_one : {X Y : Type 0} (f : X → Y) (xs : List X) (x : X) → map f (xs ++ x ∷ []) ≡ map f xs ++ f x ∷ []
map_append_one f [] x = refl
map_append_one f (y ∷ ys) x = ap (λ (zs : List _). f y ∷ zs) (map_append_one f ys x)

missed : (b : Bool) (s : Span) (o : Option Span) (c : Bool) → (c ≡ false → o ≡ None) → b || c ≡ false → cond b (Some s) o ≡ None
missed true s o c f h = cc
missed false s o c f h = f h

-- a name that none has is not found
pub not_found : (es : List Entry) (n : List ℕ) → has (map (λ e. e.0) es) n ≡ false → look es n ≡ None
unfolding has
not_found [] n h = refl
not_found (e ∷ es) n h = missed (bytes_eq n e.0) e.1 (look es n) (list_any (λ m. bytes_eq n m) (map (λ x. x.0) es)) (λ q. not_found es n q) h

-- ---- wires, one behind the other

-- the names so far, what is still to come, and where its first bit lies
pub record Going (es all : List Entry) (total base : ℕ) (rest : List Item) : Type 0 where
  pub whole : es ++ spans base rest ≡ all
  pub new : AreNew (map (λ e. e.0) es) (flat_map wire_name rest)
  pub room : base + wire_bits rest ≡ total

pub going_wire : (es all : List Entry) (total base : ℕ) (w : DocWire) (rest : List Item) → Going es all total base (item.Wire w ∷ rest)
    → (look es w.name ≡ None) × Going (es ++ (w.name, record { base = base; width = w.width }) ∷ []) all total (base + w.width) rest
going_wire es all total base w rest g = (
  not_found es w.name g.new.0,
  record {
    whole = append_assoc es ((w.name, record { base = base; width = w.width }) ∷ []) (spans (base + w.width) rest) ∙ g.whole;
    new = subst (λ (ns : List (List ℕ)). AreNew ns (flat_map wire_name rest)) (sym (map_append_one (λ (e : Entry). e.0) es (w.name, record { base = base; width = w.width }))) g.new.1;
    room = omega (arith, g.room);
  },
)

-- an item that is no wire changes nothing
abbrev pub IsNoWire : Item → Type 0
IsNoWire (item.Wire w) = ⊥
IsNoWire i = Unit {0}

pub going_other : (es all : List Entry) (total base : ℕ) (i : Item) (rest : List Item) → IsNoWire i → Going es all total base (i ∷ rest) → Going es all total base rest
going_other es all total base (item.Wire w) rest n g = absurd n
going_other es all total base (item.Param p) rest n g = record { whole = g.whole; new = g.new; room = g.room }
going_other es all total base (item.Mem m) rest n g = record { whole = g.whole; new = g.new; room = g.room }
going_other es all total base (item.Cell c) rest n g = record { whole = g.whole; new = g.new; room = g.room }
going_other es all total base (item.Connect l r) rest n g = record { whole = g.whole; new = g.new; room = g.room }

-- a turn of the loop
pub wire_turn : (es all : List Entry) (total base : ℕ) (w : DocWire) (x : Item) (rest : List Item) → 1 ≤ length rest → x ≡ get_or rest 0 x → x ≡ item.Wire w → Going es all total base rest
    → (look es w.name ≡ None) × Going (es ++ (w.name, record { base = base; width = w.width }) ∷ []) all total (base + w.width) (take (length rest - 1) (drop 1 rest))
wire_turn es all total base w x rest h first is g =
    going_wire es all total base w (take (length rest - 1) (drop 1 rest)) (subst (Going es all total base) (front rest x h first ∙ ap (λ (i : Item). i ∷ take (length rest - 1) (drop 1 rest)) is) g)

no_wire : (x : Item) → ((w : DocWire) → x ≡ item.Wire w → ⊥) → IsNoWire x
no_wire (item.Wire w) f = f w refl
no_wire (item.Param p) f = tt
no_wire (item.Mem m) f = tt
no_wire (item.Cell c) f = tt
no_wire (item.Connect l r) f = tt

pub other_turn : (es all : List Entry) (total base : ℕ) (x : Item) (rest : List Item) → 1 ≤ length rest → x ≡ get_or rest 0 x → ((w : DocWire) → x ≡ item.Wire w → ⊥) → Going es all total base rest
    → Going es all total base (take (length rest - 1) (drop 1 rest))
other_turn es all total base x rest h first none g = going_other es all total base x (take (length rest - 1) (drop 1 rest)) (no_wire x none) (subst (Going es all total base) (front rest x h first) g)
