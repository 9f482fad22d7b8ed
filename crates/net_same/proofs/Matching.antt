-- Wires and modules that are the same, taken apart, and what tables learn from them.
use Rattle.std.proofs.Common.{◌≡◌, ℕ, zero, suc, ◌≤◌, false, not, cond, List, [], ◌∷◌, ◌++◌, length, drop, get_or, replicate, Some, refl, sym, ap, ◌∙◌, subst, arith}
use Rattle.std.proofs.lemmas.Option.{same_Some}
use Rattle.std.proofs.lemmas.List.{length-replicate}
use Rattle.std.specs.Prelude.{slice_get}
use Rattle.std.specs.List.{AllByRecursion, flat_map}
use Rattle.net_core.specs.declared.mems.Attr.{Attr}
use Rattle.net_core.specs.declared.modules.Wire.{Wire}
use Rattle.net_core.specs.declared.modules.Module.{Module}
use Rattle.net_core.specs.Renaming.{renamed_bits}
use Rattle.net_same.specs.declared.tables.Tables.{Tables}
use Rattle.net_same.specs.Own.{bits_nets, wire_nets}
use Rattle.net_same.specs.Learning.{AreMet, IsRight, Step, Teaches, WiresTeach}
use Rattle.net_same.specs.Same.{is_start_attr, without_starts, BeginsPlain, IsSameWire, AreSameWires, IsAdded, WiresSame, IsSame, AllSame}
use Rattle.net_same.proofs.Learning.{split, rests, chain}

-- what holds of all items of a list holds of the first, and of the rest
pub first_all : {X : Type 0} (P : X → Type 0) (xs rest : List X) (a : X) → xs ≡ a ∷ rest → AllByRecursion P xs → P a × AllByRecursion P rest
first_all P xs rest a e h = subst (AllByRecursion P) e h

-- ---- attributes
plain_first : (a : Attr) (rest : List Attr) → is_start_attr a ≡ false → without_starts (a ∷ rest) ≡ a ∷ without_starts rest
plain_first a rest e = ap (λ b. cond (not b) (a ∷ without_starts rest) (without_starts rest)) e

begins : (xs rest : List Attr) (a : Attr) → xs ≡ a ∷ rest → BeginsPlain xs → without_starts xs ≡ a ∷ without_starts rest
begins xs rest a e plain = ap without_starts e ∙ plain_first a rest (subst BeginsPlain e plain)

pub attrs_first : (olds news xs ys : List Attr) (a b : Attr) → olds ≡ a ∷ xs → news ≡ b ∷ ys → BeginsPlain olds → BeginsPlain news → without_starts news ≡ without_starts olds → (b ≡ a) × (without_starts ys ≡ without_starts xs)
attrs_first olds news xs ys a b eo en po pn same =
    let e : b ∷ without_starts ys ≡ a ∷ without_starts xs = sym (begins news ys b en pn) ∙ same ∙ begins olds xs a eo po in
    (ap (λ l. get_or l 0 b) e, ap (λ l. drop 1 l) e)

pub attrs_joined : (olds news xs ys : List Attr) (a b : Attr) → olds ≡ a ∷ xs → news ≡ b ∷ ys → BeginsPlain olds → BeginsPlain news → b ≡ a → without_starts ys ≡ without_starts xs → without_starts news ≡ without_starts olds
attrs_joined olds news xs ys a b eo en po pn here rest = begins news ys b en pn ∙ ap (λ h. h ∷ without_starts ys) here ∙ ap (λ r. a ∷ r) rest ∙ sym (begins olds xs a eo po)

pub attrs_few : (olds news xs : List Attr) (a : Attr) → olds ≡ a ∷ xs → news ≡ [] → BeginsPlain olds → without_starts news ≡ without_starts olds → ⊥
attrs_few olds news xs a eo en po same = let e : [] ≡ a ∷ without_starts xs = sym (ap without_starts en) ∙ same ∙ begins olds xs a eo po in cc

pub attrs_past : (olds news : List Attr) → olds ≡ [] → BeginsPlain news → without_starts news ≡ without_starts olds → news ≡ []
attrs_past olds [] eo pn same = refl
attrs_past olds (b ∷ ys) eo pn same = let e : b ∷ without_starts ys ≡ [] = sym (plain_first b ys pn) ∙ same ∙ ap without_starts eo in absurd (cc)

-- ---- wires
first_kept : (f : ℕ → ℕ) (a b : Wire) (xs ys kept added : List Wire) → b ∷ ys ≡ kept ++ added → AreSameWires f (a ∷ xs) kept → AllByRecursion IsAdded added → IsSameWire f a b × WiresSame f xs ys
first_kept f a b xs ys [] added whole same more = absurd same
first_kept f a b xs ys (k ∷ ks) added whole same more = (
  subst (IsSameWire f a) (sym (ap (λ l. get_or l 0 b) whole)) same.0,
  record { kept = ks; added = added; whole = ap (λ l. drop 1 l) whole; same = same.1; more = more },
)

pub wires_first : (f : ℕ → ℕ) (olds news xs ys : List Wire) (a b : Wire) → olds ≡ a ∷ xs → news ≡ b ∷ ys → WiresSame f olds news → IsSameWire f a b × WiresSame f xs ys
wires_first f olds news xs ys a b eo en s =
    let w : WiresSame f (a ∷ xs) (b ∷ ys) = subst (λ l. WiresSame f l (b ∷ ys)) eo (subst (WiresSame f olds) en s) in
    first_kept f a b xs ys w.kept w.added w.whole w.same w.more

pub wires_joined : (f : ℕ → ℕ) (olds news xs ys : List Wire) (a b : Wire) → olds ≡ a ∷ xs → news ≡ b ∷ ys → IsSameWire f a b → WiresSame f xs ys → WiresSame f olds news
wires_joined f olds news xs ys a b eo en one rest =
    let w : WiresSame f (a ∷ xs) (b ∷ ys) = record { kept = b ∷ rest.kept; added = rest.added; whole = ap (λ ws. b ∷ ws) rest.whole; same = (one, rest.same); more = rest.more } in
    subst (λ l. WiresSame f l news) (sym eo) (subst (WiresSame f (a ∷ xs)) (sym en) w)

few_kept : (f : ℕ → ℕ) (a : Wire) (xs kept added : List Wire) → [] ≡ kept ++ added → AreSameWires f (a ∷ xs) kept → ⊥
few_kept f a xs [] added whole same = same
few_kept f a xs (k ∷ ks) added whole same = cc

pub wires_few : (f : ℕ → ℕ) (olds news xs : List Wire) (a : Wire) → olds ≡ a ∷ xs → news ≡ [] → WiresSame f olds news → ⊥
wires_few f olds news xs a eo en s =
    let w : WiresSame f (a ∷ xs) [] = subst (λ l. WiresSame f l []) eo (subst (WiresSame f olds) en s) in
    few_kept f a xs w.kept w.added w.whole w.same

none_kept : (f : ℕ → ℕ) (news kept added : List Wire) → news ≡ kept ++ added → AreSameWires f [] kept → AllByRecursion IsAdded added → AllByRecursion IsAdded news
none_kept f news [] added whole same more = subst (AllByRecursion IsAdded) (sym whole) more
none_kept f news (k ∷ ks) added whole same more = absurd same

pub wires_past : (f : ℕ → ℕ) (olds news : List Wire) → olds ≡ [] → WiresSame f olds news → AllByRecursion IsAdded news
wires_past f olds news eo s = let w : WiresSame f [] news = subst (λ l. WiresSame f l news) eo s in none_kept f news w.kept w.added w.whole w.same w.more

pub wires_met : (f : ℕ → ℕ) (t : Tables) (olds xs : List Wire) (a : Wire) → olds ≡ a ∷ xs → AreMet f t (flat_map wire_nets olds) → AreMet f t (wire_nets a) × AreMet f t (flat_map wire_nets xs)
wires_met f t olds xs a e h = split _ (wire_nets a) (flat_map wire_nets xs) (subst (λ l. AreMet f t (flat_map wire_nets l)) e h)

pub wires_taught_at : (olds olds2 news news2 : List Wire) (t u : Tables) → olds2 ≡ olds → news2 ≡ news → WiresTeach olds2 news2 t u → WiresTeach olds news t u
wires_taught_at olds olds2 news news2 t u eo en h = subst (λ l. WiresTeach l news t u) eo (subst (λ l. WiresTeach olds2 l t u) en h)

more_wires : (a b : Wire) (xs ys : List Wire) (t u v : Tables) → Teaches renamed_bits bits_nets a.bits b.bits t u → WiresTeach xs ys u v → WiresTeach (a ∷ xs) (b ∷ ys) t v
more_wires a b xs ys t u v one rest = record {
  step = λ f g told s.
      let w = wires_first f (a ∷ xs) (b ∷ ys) xs ys a b refl refl s in
      chain (one.step f g told w.0.bits) (rest.step f g told w.1);
}

pub wires_taught : (olds news xs ys : List Wire) (a b : Wire) (t u v : Tables) → olds ≡ a ∷ xs → news ≡ b ∷ ys → Teaches renamed_bits bits_nets a.bits b.bits t u → WiresTeach xs ys u v → WiresTeach olds news t v
wires_taught olds news xs ys a b t u v eo en one rest = wires_taught_at olds (a ∷ xs) news (b ∷ ys) t v (sym eo) (sym en) (more_wires a b xs ys t u v one rest)

pub few_wires_taught : (olds news xs : List Wire) (a : Wire) (t : Tables) → olds ≡ a ∷ xs → news ≡ [] → WiresTeach olds news t t
few_wires_taught olds news xs a t eo en = record { step = λ f g told s. absurd (wires_few f olds news xs a eo en s) }

pub no_wires_taught : (olds news : List Wire) (t : Tables) → olds ≡ [] → WiresTeach olds news t t
no_wires_taught olds news t e = record { step = λ f g told s. subst (λ l. Step f (flat_map wire_nets l) (flat_map wire_nets news) t t) (sym e) (rests f (flat_map wire_nets news) t) }

-- ---- tables that know nothing
repeated : (n i m x : ℕ) → slice_get (replicate n m) i ≡ Some x → x ≡ m
repeated zero i m x h = absurd (cc)
repeated (suc n) zero m x h = sym (same_Some m x h)
repeated (suc n) (suc i) m x h = repeated n i m x h

pub fresh_right : (f : ℕ → ℕ) (t : Tables) (olds news most : ℕ) → t.forth.items ≡ replicate olds most → t.back.items ≡ replicate news most → news ≤ most → IsRight f t
fresh_right f t olds news most forth back fits = record {
  right = λ n x h lt.
      let same : x ≡ most = repeated olds n most x (ap (λ l. slice_get l n) (sym forth) ∙ h) in
      let count : length t.back.items ≡ news = ap length back ∙ length-replicate news most in
      absurd (omega arith);
}

pub so_many : (t : List ℕ) (n most : ℕ) → t ≡ replicate n most → length t ≡ n
so_many t n most e = ap length e ∙ length-replicate n most

-- ---- modules
pub all_first : (olds news xs ys : List Module) (a b : Module) → olds ≡ a ∷ xs → news ≡ b ∷ ys → AllSame olds news → IsSame a b × AllSame xs ys
all_first olds news xs ys a b eo en s = let w : AllSame (a ∷ xs) (b ∷ ys) = subst (λ l. AllSame l (b ∷ ys)) eo (subst (AllSame olds) en s) in w

pub all_joined : (olds news xs ys : List Module) (a b : Module) → olds ≡ a ∷ xs → news ≡ b ∷ ys → IsSame a b → AllSame xs ys → AllSame olds news
all_joined olds news xs ys a b eo en one rest =
    let w : AllSame (a ∷ xs) (b ∷ ys) = (one, rest) in
    subst (λ l. AllSame l news) (sym eo) (subst (AllSame (a ∷ xs)) (sym en) w)

pub all_few : (olds news xs : List Module) (a : Module) → olds ≡ a ∷ xs → news ≡ [] → AllSame olds news → ⊥
all_few olds news xs a eo en s = subst (λ l. AllSame l []) eo (subst (AllSame olds) en s)

pub all_past : (olds news : List Module) → olds ≡ [] → AllSame olds news → news ≡ []
all_past olds [] e s = refl
all_past olds (b ∷ ys) e s = let w : AllSame [] (b ∷ ys) = subst (λ l. AllSame l (b ∷ ys)) e s in absurd w
