-- Strings, byte by byte, are those that the definition gives.
use Rattle.std.proofs.Common.{◌≡◌, ℕ, Bool, true, false, List, [], ◌∷◌, ◌++◌, Option, Some, None, refl, sym, ap, subst, ◌∙◌, append_assoc}
use Rattle.std.specs.Prelude.{◌==◌}
use Rattle.std.proofs.lemmas.Bool.{eqb-true}
use Rattle.rtlil_lex.specs.declared.string.Place.{Place}
use Rattle.rtlil_lex.specs.declared.string.Place.TheVariants as place
use Rattle.rtlil_lex.specs.Bytes.{is_octal, Ends}
use Rattle.rtlil_lex.specs.Values.{unescaped, octal_byte}
use Rattle.rtlil_lex.specs.Lexes.{Quoted, nothing, plain, escaped, octal_one, octal_two, octal_three}
use Rattle.rtlil_lex.specs.Lex.{plain_step, string_step, with_front, string_at}

pub front_grows : (before now : List ℕ) (o : Option (List ℕ × List ℕ)) → with_front before (with_front now o) ≡ with_front (before ++ now) o
front_grows before now None = refl
front_grows before now (Some x) = ap (λ (ys : List ℕ). Some (ys, x.1)) (simp append_assoc)

pub front_nil : (o : Option (List ℕ × List ℕ)) → with_front [] o ≡ o
front_nil None = refl
front_nil (Some x) = refl

-- what the rest of a string is behind a step
behind : Option Place → List ℕ → Option (List ℕ × List ℕ)
unfolding string_at
behind None bs = Some ([], bs)
behind (Some q) bs = string_at q bs

at_step : (p q : Place) (b : ℕ) (xs bs : List ℕ) → string_step p b ≡ (xs, Some q) → string_at p (b ∷ bs) ≡ with_front xs (string_at q bs)
unfolding string_at
at_step p q b xs bs e = rw e refl

at_end : (p : Place) (b : ℕ) (xs bs : List ℕ) → string_step p b ≡ (xs, None) → string_at p (b ∷ bs) ≡ Some (xs ++ [], bs)
unfolding string_at
at_end p b xs bs e = rw e refl

-- ---- octal digits that end

one_by : (a b : ℕ) (bs : List ℕ) → is_octal b ≡ false → string_at (place.One a) (b ∷ bs) ≡ with_front (octal_byte 48 48 a ∷ []) (string_at place.Plain (b ∷ bs))
unfolding string_at
one_by a b bs h = rw h (sym (front_grows (octal_byte 48 48 a ∷ []) (plain_step b).0 _))

pub one_ends : (a : ℕ) (bs : List ℕ) → Ends is_octal bs → string_at (place.One a) bs ≡ with_front (octal_byte 48 48 a ∷ []) (string_at place.Plain bs)
unfolding string_at
one_ends a [] h = refl
one_ends a (b ∷ bs) h = one_by a b bs h

two_by : (a c b : ℕ) (bs : List ℕ) → is_octal b ≡ false → string_at (place.Two a c) (b ∷ bs) ≡ with_front (octal_byte 48 a c ∷ []) (string_at place.Plain (b ∷ bs))
unfolding string_at
two_by a c b bs h = rw h (sym (front_grows (octal_byte 48 a c ∷ []) (plain_step b).0 _))

pub two_ends : (a c : ℕ) (bs : List ℕ) → Ends is_octal bs → string_at (place.Two a c) bs ≡ with_front (octal_byte 48 a c ∷ []) (string_at place.Plain bs)
unfolding string_at
two_ends a c [] h = refl
two_ends a c (b ∷ bs) h = two_by a c b bs h

-- ---- from the definition

ends_quote : (text rest : List ℕ) → Ends is_octal text → Ends is_octal (text ++ (34 ∷ rest))
ends_quote [] rest h = refl
ends_quote (b ∷ text) rest h = h

pub at_plain : (b : ℕ) (bs : List ℕ) → (b == 34) ≡ false → (b == 92) ≡ false → string_at place.Plain (b ∷ bs) ≡ with_front (b ∷ []) (string_at place.Plain bs)
at_plain b bs p q = at_step place.Plain place.Plain b (b ∷ []) bs (rw (p, q) refl)

pub at_escape : (bs : List ℕ) → string_at place.Plain (92 ∷ bs) ≡ string_at place.Escape bs
at_escape bs = at_step place.Plain place.Escape 92 [] bs refl ∙ front_nil (string_at place.Escape bs)

pub at_escaped : (b : ℕ) (bs : List ℕ) → is_octal b ≡ false → string_at place.Escape (b ∷ bs) ≡ with_front (unescaped b ∷ []) (string_at place.Plain bs)
at_escaped b bs h = at_step place.Escape place.Plain b (unescaped b ∷ []) bs (rw h refl)

pub at_one : (a : ℕ) (bs : List ℕ) → is_octal a ≡ true → string_at place.Escape (a ∷ bs) ≡ string_at (place.One a) bs
at_one a bs h = at_step place.Escape (place.One a) a [] bs (rw h refl) ∙ front_nil (string_at (place.One a) bs)

pub at_two : (a b : ℕ) (bs : List ℕ) → is_octal b ≡ true → string_at (place.One a) (b ∷ bs) ≡ string_at (place.Two a b) bs
at_two a b bs h = at_step (place.One a) (place.Two a b) b [] bs (rw h refl) ∙ front_nil (string_at (place.Two a b) bs)

pub at_three : (a b c : ℕ) (bs : List ℕ) → is_octal c ≡ true → string_at (place.Two a b) (c ∷ bs) ≡ with_front (octal_byte a b c ∷ []) (string_at place.Plain bs)
at_three a b c bs h = at_step (place.Two a b) place.Plain c (octal_byte a b c ∷ []) bs (rw h refl)

pub at_quote : (bs : List ℕ) → string_at place.Plain (34 ∷ bs) ≡ Some ([], bs)
at_quote bs = at_end place.Plain 34 [] bs refl

pub quoted_read : (t text rest : List ℕ) → Quoted t text → string_at place.Plain (text ++ (34 ∷ rest)) ≡ Some (t, rest)
quoted_read t text rest nothing = at_quote rest
quoted_read t text rest (plain {t = u} {text = more} b p q k) = at_plain b (more ++ (34 ∷ rest)) p q ∙ ap (with_front (b ∷ [])) (quoted_read u more rest k)
quoted_read t text rest (escaped {t = u} {text = more} b h k) =
    at_escape (b ∷ (more ++ (34 ∷ rest))) ∙ at_escaped b (more ++ (34 ∷ rest)) h ∙ ap (with_front (unescaped b ∷ [])) (quoted_read u more rest k)
quoted_read t text rest (octal_one {t = u} {text = more} a h ends k) =
    at_escape (a ∷ (more ++ (34 ∷ rest))) ∙ at_one a (more ++ (34 ∷ rest)) h ∙ one_ends a (more ++ (34 ∷ rest)) (ends_quote more rest ends) ∙ ap (with_front (octal_byte 48 48 a ∷ [])) (quoted_read u more rest k)
quoted_read t text rest (octal_two {t = u} {text = more} a b h g ends k) =
    at_escape (a ∷ b ∷ (more ++ (34 ∷ rest))) ∙ at_one a (b ∷ (more ++ (34 ∷ rest))) h ∙ at_two a b (more ++ (34 ∷ rest)) g ∙ two_ends a b (more ++ (34 ∷ rest)) (ends_quote more rest ends) ∙ ap (with_front (octal_byte 48 a b ∷ [])) (quoted_read u more rest k)
quoted_read t text rest (octal_three {t = u} {text = more} a b c h g f k) =
    at_escape (a ∷ b ∷ c ∷ (more ++ (34 ∷ rest))) ∙ at_one a (b ∷ c ∷ (more ++ (34 ∷ rest))) h ∙ at_two a b (c ∷ (more ++ (34 ∷ rest))) g ∙ at_three a b c (more ++ (34 ∷ rest)) f ∙ ap (with_front (octal_byte a b c ∷ [])) (quoted_read u more rest k)

-- ---- to the definition

-- what stands before a place in a string, of an escape that is open there
abbrev opened : Place → List ℕ
opened place.Plain = []
opened place.Escape = 92 ∷ []
opened (place.One a) = 92 ∷ a ∷ []
opened (place.Two a b) = 92 ∷ a ∷ b ∷ []

abbrev IsOpen : Place → Type 0
IsOpen place.Plain = Unit {0}
IsOpen place.Escape = Unit {0}
IsOpen (place.One a) = is_octal a ≡ true
IsOpen (place.Two a b) = (is_octal a ≡ true) × (is_octal b ≡ true)

pub record Found (before t bs rest : List ℕ) : Type 0 where
  pub text : List ℕ
  pub is : Quoted t (before ++ text)
  pub parts : bs ≡ text ++ (34 ∷ rest)

some_of : {A : Type 0} (o : Option A) (x y : A) → o ≡ Some x → o ≡ Some y → x ≡ y
some_of o x y p q = cc

with_found : (xs : List ℕ) (o : Option (List ℕ × List ℕ)) (x : List ℕ × List ℕ) → with_front xs o ≡ Some x → (y : List ℕ × List ℕ) × (o ≡ Some y) × ((xs ++ y.0, y.1) ≡ x)
with_found xs None x e = absurd cc
with_found xs (Some y) x e = (y, refl, some_of (Some (xs ++ y.0, y.1)) (xs ++ y.0, y.1) x refl e)

moved : (before : List ℕ) (bs : List ℕ) (x y : List ℕ × List ℕ) → x ≡ y → Found before x.0 bs x.1 → Found before y.0 bs y.1
moved before bs x y e f = subst (λ (z : List ℕ × List ℕ). Found before z.0 bs z.1) e f

ends_at : (text rest : List ℕ) (b : ℕ) (bs : List ℕ) → b ∷ bs ≡ text ++ (34 ∷ rest) → is_octal b ≡ false → Ends is_octal text
ends_at [] rest b bs e h = tt
ends_at (c ∷ text) rest b bs e h = let same : c ≡ b = cc in ap is_octal same ∙ h

plain_found : (b : ℕ) (bs : List ℕ) (x : List ℕ × List ℕ) (p q : Bool) → b == 34 ≡ p → b == 92 ≡ q → string_at place.Plain (b ∷ bs) ≡ Some x
    → ((y : List ℕ × List ℕ) → string_at place.Plain bs ≡ Some y → Found [] y.0 bs y.1) → ((y : List ℕ × List ℕ) → string_at place.Escape bs ≡ Some y → Found (92 ∷ []) y.0 bs y.1) → Found [] x.0 (b ∷ bs) x.1
plain_found b bs x true q e1 e2 h again open_escape =
    let v : b ≡ 34 = eqb-true b 34 e1 in
    let e : string_at place.Plain (b ∷ bs) ≡ Some ([], bs) = ap (λ (c : ℕ). string_at place.Plain (c ∷ bs)) v ∙ at_quote bs in
    moved [] (b ∷ bs) ([], bs) x (some_of (string_at place.Plain (b ∷ bs)) ([], bs) x e h) (record { text = []; is = nothing; parts = ap (λ (c : ℕ). c ∷ bs) v })
plain_found b bs x false true e1 e2 h again open_escape =
    let v : b ≡ 92 = eqb-true b 92 e2 in
    let f = open_escape x (sym (at_escape bs) ∙ ap (λ (c : ℕ). string_at place.Plain (c ∷ bs)) (sym v) ∙ h) in
    record { text = 92 ∷ f.text; is = f.is; parts = ap (λ (c : ℕ). c ∷ bs) v ∙ ap (λ (r : List ℕ). 92 ∷ r) f.parts }
plain_found b bs x false false e1 e2 h again open_escape =
    let k = with_found (b ∷ []) (string_at place.Plain bs) x (sym (at_plain b bs e1 e2) ∙ h) in
    let f = again k.0 k.1 in
    moved [] (b ∷ bs) (b ∷ k.0.0, k.0.1) x k.2 (record { text = b ∷ f.text; is = plain b e1 e2 f.is; parts = ap (λ (r : List ℕ). b ∷ r) f.parts })

escape_found : (b : ℕ) (bs : List ℕ) (x : List ℕ × List ℕ) (p : Bool) → is_octal b ≡ p → string_at place.Escape (b ∷ bs) ≡ Some x
    → ((y : List ℕ × List ℕ) → string_at place.Plain bs ≡ Some y → Found [] y.0 bs y.1)
    → (is_octal b ≡ true → (y : List ℕ × List ℕ) → string_at (place.One b) bs ≡ Some y → Found (92 ∷ b ∷ []) y.0 bs y.1) → Found (92 ∷ []) x.0 (b ∷ bs) x.1
escape_found b bs x true e h again one =
    let f = one e x (sym (at_one b bs e) ∙ h) in
    record { text = b ∷ f.text; is = f.is; parts = ap (λ (r : List ℕ). b ∷ r) f.parts }
escape_found b bs x false e h again one =
    let k = with_found (unescaped b ∷ []) (string_at place.Plain bs) x (sym (at_escaped b bs e) ∙ h) in
    let f = again k.0 k.1 in
    moved (92 ∷ []) (b ∷ bs) (unescaped b ∷ k.0.0, k.0.1) x k.2 (record { text = b ∷ f.text; is = escaped b e f.is; parts = ap (λ (r : List ℕ). b ∷ r) f.parts })

one_found : (a b : ℕ) (bs : List ℕ) (x : List ℕ × List ℕ) (p : Bool) → is_octal a ≡ true → is_octal b ≡ p → string_at (place.One a) (b ∷ bs) ≡ Some x
    → ((y : List ℕ × List ℕ) → string_at place.Plain (b ∷ bs) ≡ Some y → Found [] y.0 (b ∷ bs) y.1)
    → (is_octal b ≡ true → (y : List ℕ × List ℕ) → string_at (place.Two a b) bs ≡ Some y → Found (92 ∷ a ∷ b ∷ []) y.0 bs y.1) → Found (92 ∷ a ∷ []) x.0 (b ∷ bs) x.1
one_found a b bs x true d e h again two =
    let f = two e x (sym (at_two a b bs e) ∙ h) in
    record { text = b ∷ f.text; is = f.is; parts = ap (λ (r : List ℕ). b ∷ r) f.parts }
one_found a b bs x false d e h again two =
    let k = with_found (octal_byte 48 48 a ∷ []) (string_at place.Plain (b ∷ bs)) x (sym (one_ends a (b ∷ bs) e) ∙ h) in
    let f = again k.0 k.1 in
    moved (92 ∷ a ∷ []) (b ∷ bs) (octal_byte 48 48 a ∷ k.0.0, k.0.1) x k.2 (record { text = f.text; is = octal_one a d (ends_at f.text k.0.1 b bs f.parts e) f.is; parts = f.parts })

two_found : (a c b : ℕ) (bs : List ℕ) (x : List ℕ × List ℕ) (p : Bool) → is_octal a ≡ true → is_octal c ≡ true → is_octal b ≡ p → string_at (place.Two a c) (b ∷ bs) ≡ Some x
    → ((y : List ℕ × List ℕ) → string_at place.Plain (b ∷ bs) ≡ Some y → Found [] y.0 (b ∷ bs) y.1)
    → ((y : List ℕ × List ℕ) → string_at place.Plain bs ≡ Some y → Found [] y.0 bs y.1) → Found (92 ∷ a ∷ c ∷ []) x.0 (b ∷ bs) x.1
two_found a c b bs x true d g e h again later =
    let k = with_found (octal_byte a c b ∷ []) (string_at place.Plain bs) x (sym (at_three a c b bs e) ∙ h) in
    let f = later k.0 k.1 in
    moved (92 ∷ a ∷ c ∷ []) (b ∷ bs) (octal_byte a c b ∷ k.0.0, k.0.1) x k.2 (record { text = b ∷ f.text; is = octal_three a c b d g e f.is; parts = ap (λ (r : List ℕ). b ∷ r) f.parts })
two_found a c b bs x false d g e h again later =
    let k = with_found (octal_byte 48 a c ∷ []) (string_at place.Plain (b ∷ bs)) x (sym (two_ends a c (b ∷ bs) e) ∙ h) in
    let f = again k.0 k.1 in
    moved (92 ∷ a ∷ c ∷ []) (b ∷ bs) (octal_byte 48 a c ∷ k.0.0, k.0.1) x k.2 (record { text = f.text; is = octal_two a c d g (ends_at f.text k.0.1 b bs f.parts e) f.is; parts = f.parts })

nothing_found : (p : Place) (x : List ℕ × List ℕ) → string_at p [] ≡ Some x → ⊥
unfolding string_at
nothing_found p x e = cc

string_found : (bs : List ℕ) (p : Place) (x : List ℕ × List ℕ) → IsOpen p → string_at p bs ≡ Some x → Found (opened p) x.0 bs x.1
string_found [] p x o e = absurd (nothing_found p x e)
string_found (b ∷ bs) place.Plain x o e = plain_found b bs x (b == 34) (b == 92) refl refl e (λ y h. string_found bs place.Plain y tt h) (λ y h. string_found bs place.Escape y tt h)
string_found (b ∷ bs) place.Escape x o e = escape_found b bs x (is_octal b) refl e (λ y h. string_found bs place.Plain y tt h) (λ i y h. string_found bs (place.One b) y i h)
string_found (b ∷ bs) (place.One a) x o e =
    one_found a b bs x (is_octal b) o refl e
    (λ y h. plain_found b bs y (b == 34) (b == 92) refl refl h (λ z g. string_found bs place.Plain z tt g) (λ z g. string_found bs place.Escape z tt g))
    (λ i y h. string_found bs (place.Two a b) y (o, i) h)
string_found (b ∷ bs) (place.Two a c) x o e =
    two_found a c b bs x (is_octal b) o.0 o.1 refl e
    (λ y h. plain_found b bs y (b == 34) (b == 92) refl refl h (λ z g. string_found bs place.Plain z tt g) (λ z g. string_found bs place.Escape z tt g))
    (λ y h. string_found bs place.Plain y tt h)

pub found : (bs : List ℕ) (x : List ℕ × List ℕ) → string_at place.Plain bs ≡ Some x → Found [] x.0 bs x.1
found bs x e = string_found bs place.Plain x tt e
