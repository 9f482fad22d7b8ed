-- What is kept of the inouts of modules tells what their interfaces tell, where wires have different names.
use Rattle.std.proofs.Common.{◌≡◌, ℕ, suc, ◌+◌, Bool, true, false, cond, ◌&&◌, ◌||◌, List, [], ◌∷◌, ◌++◌, map, Option, Some, slice_get, refl, sym, ap, ◌∙◌, arith}
use Rattle.std.specs.Prelude.{if◌then◌else◌}
use Rattle.std.specs.List.{find, flat_map}
use Rattle.std.specs.Str.{bytes_eq}
use Rattle.std.proofs.lemmas.Bool.{false_from_ne_true}
use Rattle.std.proofs.lemmas.Slice.Eq.{bytes_eq-Decides}
use Rattle.rtlil_text.specs.declared.doc.DocModule.{DocModule}
use Rattle.rtlil_text.specs.declared.doc.Item.{Item}
use Rattle.rtlil_text.specs.declared.doc.Item.TheVariants as item
use Rattle.rtlil_text.specs.Grammar.{All, AreDistinct, AreNew, has, module_name, wire_name}
use Rattle.net_core.specs.Ports.{face_is_inout, Interface, is_inout_pin, port_is_inout, PortFace}
use Rattle.net_core.specs.Valid.{is_there}
use Rattle.cell_rows.specs.Kinds.{place_from, place_of}
use Rattle.net_gather.specs.Faces.{doc_interface, doc_interfaces, item_ports, wire_face}
use Rattle.net_checks.specs.declared.inouts.Inouts.{Inouts}
use Rattle.net_checks.specs.Inouts.{AllInouts, AreInouts, has_inout, inout_at, inout_name, module_has, ShowsInouts}

same_truth : (a b : Bool) → (a ≡ true → b ≡ true) → (b ≡ true → a ≡ true) → a ≡ b
same_truth true b f g = sym (f refl)
same_truth false true f g = g refl
same_truth false false f g = refl

swapped : (x y : List ℕ) → bytes_eq x y ≡ bytes_eq y x
swapped x y = same_truth (bytes_eq x y) (bytes_eq y x) (λ e. (bytes_eq-Decides y x).1 (sym ((bytes_eq-Decides x y).0 e))) (λ e. (bytes_eq-Decides x y).1 (sym ((bytes_eq-Decides y x).0 e)))

-- ---- names that stand before

or_true : (a : Bool) → a || true ≡ true
or_true true = refl
or_true false = refl

or_more : (a b c : Bool) → (b ≡ true → c ≡ true) → a || b ≡ true → a || c ≡ true
or_more true b c f h = refl
or_more false b c f h = f h

has_more : (before : List (List ℕ)) (n pin : List ℕ) → has before pin ≡ true → has (before ++ n ∷ []) pin ≡ true
unfolding has
has_more [] n pin h = absurd (let e : false ≡ true = h in cc)
has_more (m ∷ ms) n pin h = or_more (bytes_eq pin m) (has ms pin) (has (ms ++ n ∷ []) pin) (λ e. has_more ms n pin e) h

or_front : (b : Bool) → b ≡ true → (b || false) ≡ true
or_front true e = refl
or_front false e = e

has_last : (before : List (List ℕ)) (n pin : List ℕ) → bytes_eq pin n ≡ true → has (before ++ n ∷ []) pin ≡ true
unfolding has
has_last [] n pin h = or_front (bytes_eq pin n) h
has_last (m ∷ ms) n pin h = ap (λ b. bytes_eq pin m || b) (has_last ms n pin h) ∙ or_true (bytes_eq pin m)

other_name : (before : List (List ℕ)) (n pin : List ℕ) → has before n ≡ false → has before pin ≡ true → bytes_eq pin n ≡ false
other_name before n pin new old = false_from_ne_true (bytes_eq pin n) (λ e. (let same : pin ≡ n = (bytes_eq-Decides pin n).0 e in let x : true ≡ false = sym old ∙ ap (has before) same ∙ new in cc))

absent_step : (on : Bool) (n pin : List ℕ) (ns : List (List ℕ)) (k : ℕ) → bytes_eq pin n ≡ false → ((j : ℕ) → is_there (place_from j ns pin) ≡ false) → is_there (place_from k (cond on (n ∷ []) [] ++ ns) pin) ≡ false
absent_step true n pin ns k e h = ap (λ b. is_there (cond b (Some k) (place_from (k + 1) ns pin))) e ∙ h (k + 1)
absent_step false n pin ns k e h = h k

-- a name that stood before is no inout behind
absent : (before : List (List ℕ)) (pin : List ℕ) (is : List Item) → AreNew before (flat_map wire_name is) → has before pin ≡ true → (k : ℕ) → is_there (place_from k (flat_map inout_name is) pin) ≡ false
absent before pin [] d h k = refl
absent before pin (item.Wire w ∷ is) d h k =
    absent_step (w.input && w.output) w.name pin (flat_map inout_name is) k (other_name before w.name pin d.0 h) (absent (before ++ w.name ∷ []) pin is d.1 (has_more before w.name pin h))
absent before pin (item.Param p ∷ is) d h k = absent before pin is d h k
absent before pin (item.Mem m ∷ is) d h k = absent before pin is d h k
absent before pin (item.Cell c ∷ is) d h k = absent before pin is d h k
absent before pin (item.Connect l r ∷ is) d h k = absent before pin is d h k

-- ---- ports

abbrev ports_have : List ℕ → List PortFace → Bool
ports_have pin ps = face_is_inout (find (λ (p : PortFace). bytes_eq p.name pin) ps)

hit_or_rest : (t : Bool) (p : PortFace) (o : Option PortFace) (b : Bool) → (t ≡ true → b ≡ (p.input && p.output)) → (t ≡ false → b ≡ face_is_inout o) → b ≡ face_is_inout (cond t (Some p) o)
hit_or_rest true p o b f g = f refl
hit_or_rest false p o b f g = g refl

no_output : (i o : Bool) → o ≡ false → (i && o) ≡ false
no_output true o e = e
no_output false o e = refl

no_input : (i o : Bool) → i ≡ false → (i && o) ≡ false
no_input i o e = ap (λ b. b && o) e

both_on : (i o : Bool) → i ≡ true → o ≡ true → (i && o) ≡ true
both_on i o e f = ap (λ b. b && o) e ∙ f

wire_step : (input output : Bool) (n : List ℕ) (p : PortFace) (k : ℕ) (pin : List ℕ) (ns : List (List ℕ)) (ps : List PortFace) → p.name ≡ n → p.input ≡ input → p.output ≡ output
    → (bytes_eq pin n ≡ true → (j : ℕ) → is_there (place_from j ns pin) ≡ false) → ((j : ℕ) → is_there (place_from j ns pin) ≡ ports_have pin ps)
    → is_there (place_from k ((if input && output then n ∷ [] else []) ++ ns) pin) ≡ ports_have pin ((if input || output then p ∷ [] else []) ++ ps)
wire_step false false n p k pin ns ps en ei eo f h = h k
wire_step true true n p k pin ns ps en ei eo f h =
    let same : bytes_eq p.name pin ≡ bytes_eq pin n = ap (λ m. bytes_eq m pin) en ∙ swapped n pin in
    hit_or_rest (bytes_eq p.name pin) p (find (λ (q : PortFace). bytes_eq q.name pin) ps) (is_there (cond (bytes_eq pin n) (Some k) (place_from (k + 1) ns pin)))
    (λ e. ap (λ b. is_there (cond b (Some k) (place_from (k + 1) ns pin))) (sym same ∙ e) ∙ sym (both_on p.input p.output ei eo))
    (λ e. ap (λ b. is_there (cond b (Some k) (place_from (k + 1) ns pin))) (sym same ∙ e) ∙ h (k + 1))
wire_step true false n p k pin ns ps en ei eo f h =
    let same : bytes_eq p.name pin ≡ bytes_eq pin n = ap (λ m. bytes_eq m pin) en ∙ swapped n pin in
    hit_or_rest (bytes_eq p.name pin) p (find (λ (q : PortFace). bytes_eq q.name pin) ps) (is_there (place_from k ns pin)) (λ e. f (sym same ∙ e) k ∙ sym (no_output p.input p.output eo)) (λ e. h k)
wire_step false true n p k pin ns ps en ei eo f h =
    let same : bytes_eq p.name pin ≡ bytes_eq pin n = ap (λ m. bytes_eq m pin) en ∙ swapped n pin in
    hit_or_rest (bytes_eq p.name pin) p (find (λ (q : PortFace). bytes_eq q.name pin) ps) (is_there (place_from k ns pin)) (λ e. f (sym same ∙ e) k ∙ sym (no_input p.input p.output ei)) (λ e. h k)

ports_told : (before : List (List ℕ)) (pin : List ℕ) (is : List Item) → AreNew before (flat_map wire_name is) → (k : ℕ) → is_there (place_from k (flat_map inout_name is) pin) ≡ ports_have pin (flat_map item_ports is)
ports_told before pin [] d k = refl
ports_told before pin (item.Wire w ∷ is) d k =
    wire_step w.input w.output w.name (wire_face w) k pin (flat_map inout_name is) (flat_map item_ports is) refl refl refl
    (λ e. absent (before ++ w.name ∷ []) pin is d.1 (has_last before w.name pin e)) (ports_told (before ++ w.name ∷ []) pin is d.1)
ports_told before pin (item.Param p ∷ is) d k = ports_told before pin is d k
ports_told before pin (item.Mem m ∷ is) d k = ports_told before pin is d k
ports_told before pin (item.Cell c ∷ is) d k = ports_told before pin is d k
ports_told before pin (item.Connect l r ∷ is) d k = ports_told before pin is d k

inouts_told : (m : DocModule) (o : List (List ℕ × ℕ)) (pin : List ℕ) → AreDistinct (flat_map wire_name m.items) → AreInouts m o → inout_at (Some o) pin ≡ port_is_inout pin (Some (doc_interface m))
unfolding place_of
inouts_told m o pin d h = ap is_there (h pin) ∙ ports_told [] pin m.items d 0

-- ---- modules

module_step : (t s : Bool) (at : ℕ) (full : List (List (List ℕ × ℕ))) (pin : List ℕ) (i : Interface) (later : Option ℕ) (other : Option Interface) → t ≡ s
    → inout_at (slice_get full at) pin ≡ port_is_inout pin (Some i) → module_has full pin later ≡ port_is_inout pin other
    → module_has full pin (cond t (Some at) later) ≡ port_is_inout pin (cond s (Some i) other)
module_step true true at full pin i later other e hit miss = hit
module_step false false at full pin i later other e hit miss = miss
module_step true false at full pin i later other e hit miss = absurd cc
module_step false true at full pin i later other e hit miss = absurd cc

modules_told : (at : ℕ) (full : List (List (List ℕ × ℕ))) (kind pin : List ℕ) (ms : List DocModule) (os : List (List (List ℕ × ℕ))) → AllInouts ms os
    → All (λ (m : DocModule). AreDistinct (flat_map wire_name m.items)) ms → ((j : ℕ) → slice_get full (at + j) ≡ slice_get os j)
    → module_has full pin (place_from at (map module_name ms) kind) ≡ is_inout_pin (doc_interfaces ms) kind pin
modules_told at full kind pin [] [] a d h = refl
modules_told at full kind pin [] (o ∷ os) a d h = absurd a
modules_told at full kind pin (m ∷ ms) [] a d h = absurd a
modules_told at full kind pin (m ∷ ms) (o ∷ os) a d h =
    let here : at + 0 ≡ at = omega arith in
    let later : (j : ℕ) → slice_get full (at + 1 + j) ≡ slice_get os j = λ j. (let n : at + 1 + j ≡ at + suc j = omega arith in ap (slice_get full) n ∙ h (suc j)) in
    module_step (bytes_eq kind m.name) (bytes_eq m.name kind) at full pin (doc_interface m) (place_from (at + 1) (map module_name ms) kind) _ (swapped kind m.name)
    (ap (λ (x : Option (List (List ℕ × ℕ))). inout_at x pin) (ap (slice_get full) (sym here) ∙ h 0) ∙ inouts_told m o pin d.0 a.0)
    (modules_told (at + 1) full kind pin ms os a.1 d.1 later)

pub shown_inouts : (ms : List DocModule) (x : Inouts) → ShowsInouts ms x → All (λ (m : DocModule). AreDistinct (flat_map wire_name m.items)) ms → (kind pin : List ℕ) → has_inout x kind pin ≡ is_inout_pin (doc_interfaces ms) kind pin
unfolding place_of
shown_inouts ms x s d kind pin =
    let same : (j : ℕ) → slice_get x.ports.items (0 + j) ≡ slice_get x.ports.items j = λ j. (let n : 0 + j ≡ j = omega arith in ap (slice_get x.ports.items) n) in
    ap (module_has x.ports.items pin) (s.places kind) ∙ modules_told 0 x.ports.items kind pin ms x.ports.items s.ports d same
