-- Lists of wires that are the same but for their attributes, and added wires: what is seen of them from outside is the same.
use Rattle.std.proofs.Common.{◌≡◌, ℕ, Bool, true, false, cond, not, ◌&&◌, ◌||◌, List, [], ◌∷◌, ◌++◌, map, length, refl, ap, ◌∙◌, leb}
use Rattle.std.specs.List.{filter, AllByRecursion}
use Rattle.net_core.specs.declared.modules.Wire.{Wire}
use Rattle.net_core.specs.Ports.{is_input_wire, is_output_wire, is_inout, is_port, insert_port, by_port, wire_bits, face_of}
use Rattle.net_core.specs.Renaming.{renamed_wire}
use Rattle.net_same.specs.Same.{IsSameWire, AreSameWires, IsAdded, WiresSame}

-- the wires are one but for their attributes
pub record Near (a b : Wire) : Type 0 where
  pub name : b.name ≡ a.name
  pub port : b.port ≡ a.port
  pub input : b.input ≡ a.input
  pub output : b.output ≡ a.output
  pub offset : b.offset ≡ a.offset
  pub upto : b.upto ≡ a.upto
  pub signed : b.signed ≡ a.signed
  pub bits : b.bits ≡ a.bits

abbrev pub AreNear : List Wire → List Wire → Type 0
AreNear [] [] = Unit {0}
AreNear [] (y ∷ ys) = ⊥
AreNear (x ∷ xs) [] = ⊥
AreNear (x ∷ xs) (y ∷ ys) = Near x y × AreNear xs ys

near_of : (f : ℕ → ℕ) (xs ys : List Wire) → AreSameWires f xs ys → AreNear (map (renamed_wire f) xs) ys
near_of f [] [] h = tt
near_of f [] (y ∷ ys) h = absurd h
near_of f (x ∷ xs) [] h = absurd h
near_of f (x ∷ xs) (y ∷ ys) h =
    let s : IsSameWire f x y = h.0 in
    (record { name = s.name; port = s.port; input = s.input; output = s.output; offset = s.offset; upto = s.upto; signed = s.signed; bits = s.bits }, near_of f xs ys h.1)

-- tests that see neither attributes nor bits
chosen : (a b : Bool) → b ≡ a → (x y : Wire) (xs ys : List Wire) → Near x y → AreNear xs ys → AreNear (cond a (x ∷ xs) xs) (cond b (y ∷ ys) ys)
chosen true true e x y xs ys n h = (n, h)
chosen true false e x y xs ys n h = absurd (cc)
chosen false true e x y xs ys n h = absurd (cc)
chosen false false e x y xs ys n h = h

filter_near : (p : Wire → Bool) → ((a b : Wire) → Near a b → p b ≡ p a) → (xs ys : List Wire) → AreNear xs ys → AreNear (filter p xs) (filter p ys)
filter_near p e [] [] h = tt
filter_near p e [] (y ∷ ys) h = absurd h
filter_near p e (x ∷ xs) [] h = absurd h
filter_near p e (x ∷ xs) (y ∷ ys) h = chosen (p x) (p y) (e x y h.0) x y (filter p xs) (filter p ys) h.0 (filter_near p e xs ys h.1)

-- wires by port number
placed : (a b : Bool) → b ≡ a → (w v x y : Wire) (xs ys us vs : List Wire) → Near w v → Near x y → AreNear xs ys → AreNear us vs → AreNear (cond a (w ∷ x ∷ xs) (x ∷ us)) (cond b (v ∷ y ∷ ys) (y ∷ vs))
placed true true e w v x y xs ys us vs m n h k = (m, (n, h))
placed true false e w v x y xs ys us vs m n h k = absurd (cc)
placed false true e w v x y xs ys us vs m n h k = absurd (cc)
placed false false e w v x y xs ys us vs m n h k = (n, k)

ports_test : (w v x y : Wire) → Near w v → Near x y → leb v.port y.port ≡ leb w.port x.port
ports_test w v x y m n = ap (λ k. leb k y.port) m.port ∙ ap (leb w.port) n.port

insert_near : (w v : Wire) (xs ys : List Wire) → Near w v → AreNear xs ys → AreNear (insert_port w xs) (insert_port v ys)
insert_near w v [] [] n h = (n, tt)
insert_near w v [] (y ∷ ys) n h = absurd h
insert_near w v (x ∷ xs) [] n h = absurd h
insert_near w v (x ∷ xs) (y ∷ ys) n h =
    placed (leb w.port x.port) (leb v.port y.port) (ports_test w v x y n h.0) w v x y xs ys (insert_port w xs) (insert_port v ys) n h.0 h.1 (insert_near w v xs ys n h.1)

by_port_near : (xs ys : List Wire) → AreNear xs ys → AreNear (by_port xs) (by_port ys)
by_port_near [] [] h = tt
by_port_near [] (y ∷ ys) h = absurd h
by_port_near (x ∷ xs) [] h = absurd h
by_port_near (x ∷ xs) (y ∷ ys) h = insert_near x y (by_port xs) (by_port ys) h.0 (by_port_near xs ys h.1)

bits_near : (xs ys : List Wire) → AreNear xs ys → wire_bits ys ≡ wire_bits xs
bits_near [] [] h = refl
bits_near [] (y ∷ ys) h = absurd h
bits_near (x ∷ xs) [] h = absurd h
bits_near (x ∷ xs) (y ∷ ys) h =
    let n : Near x y = h.0 in
    ap (λ bs. bs ++ wire_bits ys) n.bits ∙ ap (λ bs. x.bits ++ bs) (bits_near xs ys h.1)

face_near : (x y : Wire) → Near x y → face_of y ≡ face_of x
face_near x y n =
    let width = ap length n.bits in
    λ i. record { name = n.name i; port = n.port i; input = n.input i; output = n.output i; offset = n.offset i; upto = n.upto i; signed = n.signed i; width = width i }

faces_near : (xs ys : List Wire) → AreNear xs ys → map face_of ys ≡ map face_of xs
faces_near [] [] h = refl
faces_near [] (y ∷ ys) h = absurd h
faces_near (x ∷ xs) [] h = absurd h
faces_near (x ∷ xs) (y ∷ ys) h = ap (λ r. r ∷ map face_of ys) (face_near x y h.0) ∙ ap (λ r. face_of x ∷ r) (faces_near xs ys h.1)

-- the tests of wires do not hold of added ones
dropped : (b : Bool) → b ≡ false → (w : Wire) (ws : List Wire) → cond b (w ∷ ws) ws ≡ ws
dropped true e w ws = absurd (cc)
dropped false e w ws = refl

none_added : (p : Wire → Bool) → ((w : Wire) → IsAdded w → p w ≡ false) → (ws : List Wire) → AllByRecursion IsAdded ws → filter p ws ≡ []
none_added p e [] h = refl
none_added p e (w ∷ ws) h = dropped (p w) (e w h.0) w (filter p ws) ∙ none_added p e ws h.1

kept_alone : (p : Wire → Bool) → ((w : Wire) → IsAdded w → p w ≡ false) → (xs ws : List Wire) → AllByRecursion IsAdded ws → filter p (xs ++ ws) ≡ filter p xs
kept_alone p e [] ws h = none_added p e ws h
kept_alone p e (x ∷ xs) ws h = ap (λ r. cond (p x) (x ∷ r) r) (kept_alone p e xs ws h)

no_input : (w : Wire) → IsAdded w → is_input_wire w ≡ false
no_input w h = ap (λ b. b && not w.output) h.no_input

no_output : (w : Wire) → IsAdded w → is_output_wire w ≡ false
no_output w h = ap (λ b. b && not w.input) h.no_output

no_inout : (w : Wire) → IsAdded w → is_inout w ≡ false
no_inout w h = ap (λ b. b && w.output) h.no_input

no_port : (w : Wire) → IsAdded w → is_port w ≡ false
no_port w h = ap (λ b. b || w.output) h.no_input ∙ h.no_output

input_near : (a b : Wire) → Near a b → is_input_wire b ≡ is_input_wire a
input_near a b n = ap (λ x. x && not b.output) n.input ∙ ap (λ x. a.input && not x) n.output

output_near : (a b : Wire) → Near a b → is_output_wire b ≡ is_output_wire a
output_near a b n = ap (λ x. x && not b.input) n.output ∙ ap (λ x. a.output && not x) n.input

inout_near : (a b : Wire) → Near a b → is_inout b ≡ is_inout a
inout_near a b n = ap (λ x. x && b.output) n.input ∙ ap (λ x. a.input && x) n.output

port_near : (a b : Wire) → Near a b → is_port b ≡ is_port a
port_near a b n = ap (λ x. x || b.output) n.input ∙ ap (λ x. a.input || x) n.output

-- what passes such a test among the wires of the new module is near to what passes it among the renamed wires of the old one
passed : (f : ℕ → ℕ) (p : Wire → Bool) → ((a b : Wire) → Near a b → p b ≡ p a) → ((w : Wire) → IsAdded w → p w ≡ false) → (olds news : List Wire) (s : WiresSame f olds news) → (filter p news ≡ filter p s.kept) × AreNear (filter p (map (renamed_wire f) olds)) (filter p s.kept)
passed f p near none olds news s = (
  ap (filter p) s.whole ∙ kept_alone p none s.kept s.added s.more,
  filter_near p near (map (renamed_wire f) olds) s.kept (near_of f olds s.kept s.same),
)

sorted_bits : (f : ℕ → ℕ) (p : Wire → Bool) → ((a b : Wire) → Near a b → p b ≡ p a) → ((w : Wire) → IsAdded w → p w ≡ false) → (olds news : List Wire) → WiresSame f olds news → wire_bits (by_port (filter p news)) ≡ wire_bits (by_port (filter p (map (renamed_wire f) olds)))
sorted_bits f p near none olds news s =
    let q = passed f p near none olds news s in
    ap (λ ws. wire_bits (by_port ws)) q.0 ∙ bits_near (by_port (filter p (map (renamed_wire f) olds))) (by_port (filter p s.kept)) (by_port_near (filter p (map (renamed_wire f) olds)) (filter p s.kept) q.1)

pub input_bits_same : (f : ℕ → ℕ) (olds news : List Wire) → WiresSame f olds news → wire_bits (by_port (filter is_input_wire news)) ≡ wire_bits (by_port (filter is_input_wire (map (renamed_wire f) olds)))
input_bits_same f olds news s = sorted_bits f is_input_wire input_near no_input olds news s

pub output_bits_same : (f : ℕ → ℕ) (olds news : List Wire) → WiresSame f olds news → wire_bits (by_port (filter is_output_wire news)) ≡ wire_bits (by_port (filter is_output_wire (map (renamed_wire f) olds)))
output_bits_same f olds news s = sorted_bits f is_output_wire output_near no_output olds news s

pub inout_bits_same : (f : ℕ → ℕ) (olds news : List Wire) → WiresSame f olds news → wire_bits (filter is_inout news) ≡ wire_bits (filter is_inout (map (renamed_wire f) olds))
inout_bits_same f olds news s =
    let q = passed f is_inout inout_near no_inout olds news s in
    ap wire_bits q.0 ∙ bits_near (filter is_inout (map (renamed_wire f) olds)) (filter is_inout s.kept) q.1

pub faces_same : (f : ℕ → ℕ) (olds news : List Wire) → WiresSame f olds news → map face_of (filter is_port news) ≡ map face_of (filter is_port (map (renamed_wire f) olds))
faces_same f olds news s =
    let q = passed f is_port port_near no_port olds news s in
    ap (map face_of) q.0 ∙ faces_near (filter is_port (map (renamed_wire f) olds)) (filter is_port s.kept) q.1
