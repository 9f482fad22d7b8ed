-- The nets among bits that are joined, and a loop's step over what gives such bits.
use Rattle.std.proofs.Common.{◌≡◌, ℕ, suc, ◌+◌, ◌<◌, Bool, true, false, cond, List, [], ◌∷◌, ◌++◌, length, get_or, drop, map, refl, sym, ap, ◌∙◌, subst, append_assoc, append-nil, add-one, drop-cons}
use Rattle.std.specs.List.{flat_map, filter}
use Rattle.net_core.specs.declared.bits.Bit.{Bit}
use Rattle.net_core.specs.declared.bits.Bit.TheVariants.{Zero as Low, One as High, Net}
use Rattle.net_core.specs.declared.cells.Pin.{Pin}
use Rattle.net_core.specs.declared.modules.Wire.{Wire}
use Rattle.net_core.specs.declared.cells.Carried.{Carried}
use Rattle.net_core.specs.declared.modules.Module.{Module}
use Rattle.net_core.specs.Ports.{is_input_wire, by_port, nets_of, bits_of_pins, driving_bits, wire_bits, inputs_of}
use denote.Ref.{Bor}

pub nets_joined : (xs ys : List Bit) → nets_of (xs ++ ys) ≡ nets_of xs ++ nets_of ys
nets_joined [] ys = refl
nets_joined (Low ∷ xs) ys = nets_joined xs ys
nets_joined (High ∷ xs) ys = nets_joined xs ys
nets_joined (Net n ∷ xs) ys = ap (λ ns. n ∷ ns) (nets_joined xs ys)

-- what is left, once one more is done
pub flat_more : {X : Type 0} (f : X → List Bit) (xs : List X) (i : ℕ) (x : X) (done next whole : List ℕ) → i < length xs → x ≡ get_or xs i x → next ≡ done ++ nets_of (f x) → done ++ nets_of (flat_map f (drop i xs)) ≡ whole → next ++ nets_of (flat_map f (drop (i + 1) xs)) ≡ whole
flat_more f xs i x done next whole lt is e h =
    let split : drop i xs ≡ x ∷ drop (suc i) xs = drop-cons xs i x lt ∙ ap (λ y. y ∷ drop (suc i) xs) (sym is) in
    let place : drop (i + 1) xs ≡ drop (suc i) xs = ap (λ k. drop k xs) (add-one i) in
    let joined = nets_joined (f x) (flat_map f (drop (suc i) xs)) in
    let left : next ++ nets_of (flat_map f (drop (i + 1) xs)) ≡ (done ++ nets_of (f x)) ++ nets_of (flat_map f (drop (suc i) xs)) = cc in
    let grouped = append_assoc done (nets_of (f x)) (nets_of (flat_map f (drop (suc i) xs))) in
    let whole_is : done ++ nets_of (flat_map f (x ∷ drop (suc i) xs)) ≡ whole = subst (λ r. done ++ nets_of (flat_map f r) ≡ whole) split h in
    left ∙ grouped ∙ ap (λ r. done ++ r) (sym joined) ∙ whole_is

abbrev pub driven : Pin → List Bit
driven p = cond p.drives p.bits []

pub pins_flat : (ps : List Pin) → bits_of_pins (filter (λ p. p.drives) ps) ≡ flat_map driven ps
pins_flat [] = refl
pins_flat (p ∷ ps) =
    let rest = pins_flat ps in
    let P : Bool → Type 0 = λ b. bits_of_pins (cond b (p ∷ filter (λ q. q.drives) ps) (filter (λ q. q.drives) ps)) ≡ cond b p.bits [] ++ flat_map driven ps in
    elim p.drives as P [ true ↦ ap (λ r. p.bits ++ r) rest | false ↦ rest ]

pub refs_flat : (rs : List (Bor Wire)) → wire_bits (map (λ r. r.now) rs) ≡ flat_map (λ r. r.now.bits) rs
refs_flat [] = refl
refs_flat (r ∷ rs) = ap (λ xs. r.now.bits ++ xs) (refs_flat rs)

pub driven_pushed : (p : Pin) (bits : List Bit) (done next : List ℕ) → p.drives ≡ true → bits ≡ p.bits → next ≡ done ++ nets_of bits → next ≡ done ++ nets_of (driven p)
driven_pushed p bits done next on same h = h ∙ ap (λ bs. done ++ nets_of bs) (same ∙ sym (ap (λ b. cond b p.bits []) on))

pub idle_left : (p : Pin) (done next : List ℕ) → p.drives ≡ false → next ≡ done → next ≡ done ++ nets_of (driven p)
idle_left p done next off h = h ∙ sym (append-nil done) ∙ ap (λ bs. done ++ nets_of bs) (sym (ap (λ b. cond b p.bits []) off))

-- the inputs, as they are put together
pub inputs_made : (m : Module) (wires : List Wire) (refs lent : List (Bor Wire)) (cells : List Carried) (start first second made : List ℕ) → wires ≡ m.wires → map (λ (r : Bor Wire). r.now) refs ≡ by_port (filter is_input_wire wires) → lent ≡ refs → start ≡ [] → first ≡ start ++ nets_of (wire_bits (map (λ (r : Bor Wire). r.now) lent)) → cells ≡ m.carried → second ≡ first ++ nets_of (flat_map driving_bits cells) → made ≡ second → made ≡ inputs_of m
inputs_made m wires refs lent cells start first second made hw hr hl hs h1 hc h2 hm =
    let ports = by_port (filter is_input_wire m.wires) in
    let one : first ≡ nets_of (wire_bits ports) =
    h1 ∙ ap (λ s. s ++ nets_of (wire_bits (map (λ (r : Bor Wire). r.now) lent))) hs ∙ ap (λ ls. nets_of (wire_bits (map (λ (r : Bor Wire). r.now) ls))) hl ∙ ap (λ ws. nets_of (wire_bits ws)) (hr ∙ ap (λ ws. by_port (filter is_input_wire ws)) hw) in
    hm ∙ h2 ∙ ap (λ f. f ++ nets_of (flat_map driving_bits cells)) one ∙ ap (λ cs. nets_of (wire_bits ports) ++ nets_of (flat_map driving_bits cs)) hc ∙ sym (nets_joined (wire_bits ports) (flat_map driving_bits m.carried))
