-- What is kept of the modules of a file tells what their interfaces tell.
use Rattle.std.proofs.Common.{◌≡◌, ℕ, suc, ◌+◌, Bool, true, false, cond, not, ◌&&◌, ◌||◌, List, [], ◌∷◌, ◌++◌, map, Option, Some, None, slice_get, refl, sym, ap, ◌∙◌, arith}
use Rattle.std.specs.Prelude.{if◌then◌else◌}
use Rattle.std.specs.List.{find, flat_map, list_any}
use Rattle.std.specs.Str.{bytes_eq}
use Rattle.std.proofs.lemmas.Slice.Eq.{bytes_eq-Decides}
use Rattle.rtlil_text.specs.declared.doc.DocModule.{DocModule}
use Rattle.rtlil_text.specs.declared.doc.Item.{Item}
use Rattle.rtlil_text.specs.declared.doc.Item.TheVariants as item
use Rattle.rtlil_text.specs.Grammar.{module_name}
use Rattle.net_core.specs.Ports.{Interface, PortFace}
use Rattle.net_core.specs.Valid.{carried_kinds, CarriedKind, drives_by_kind, instance_of, is_there, kind_of}
use Rattle.cell_rows.specs.Carried.{drives}
use Rattle.cell_rows.specs.Kinds.{found, is_carried, place_from, place_of}
use Rattle.net_gather.specs.declared.faces.Faces.{Faces}
use Rattle.net_gather.specs.Faces.{AllOutputs, AreOutputs, carried_drives, doc_interface, doc_interfaces, faces_drive, instance_drives, item_ports, output_at, output_name, Shows, wire_face}

same_truth : (a b : Bool) → (a ≡ true → b ≡ true) → (b ≡ true → a ≡ true) → a ≡ b
same_truth true b f g = sym (f refl)
same_truth false true f g = g refl
same_truth false false f g = refl

swapped : (x y : List ℕ) → bytes_eq x y ≡ bytes_eq y x
swapped x y = same_truth (bytes_eq x y) (bytes_eq y x) (λ e. (bytes_eq-Decides y x).1 (sym ((bytes_eq-Decides x y).0 e))) (λ e. (bytes_eq-Decides x y).1 (sym ((bytes_eq-Decides y x).0 e)))

-- ---- ports

abbrev drives_pin : List ℕ → PortFace → Bool
drives_pin pin p = bytes_eq p.name pin && (p.output && not p.input)

-- what is found first, or behind it
there_first : {X : Type 0} (test : Bool) (x : X) (o : Option X) (b : Bool) → is_there o ≡ b → is_there (cond test (Some x) o) ≡ (test || b)
there_first true x o b e = refl
there_first false x o b e = e

input_is_none : (a o i : Bool) → i ≡ true → (a && (o && not i)) ≡ false
input_is_none true true true e = refl
input_is_none true false i e = refl
input_is_none false o i e = refl
input_is_none true true false e = cc

output_is_one : (a o i : Bool) → o ≡ true → i ≡ false → (a && (o && not i)) ≡ a
output_is_one true true false e f = refl
output_is_one false o i e f = refl
output_is_one true false i e f = cc
output_is_one true true true e f = absurd cc

wire_step : (input output : Bool) (n : List ℕ) (p : PortFace) (k : ℕ) (pin : List ℕ) (ns : List (List ℕ)) (ps : List PortFace) → p.name ≡ n → p.input ≡ input → p.output ≡ output
    → ((j : ℕ) → is_there (place_from j ns pin) ≡ list_any (drives_pin pin) ps)
    → is_there (place_from k ((if output && not input then n ∷ [] else []) ++ ns) pin) ≡ list_any (drives_pin pin) ((if input || output then p ∷ [] else []) ++ ps)
wire_step false false n p k pin ns ps en ei eo h = h k
wire_step true true n p k pin ns ps en ei eo h = h k ∙ sym (ap (λ b. b || list_any (drives_pin pin) ps) (input_is_none (bytes_eq p.name pin) p.output p.input ei))
wire_step true false n p k pin ns ps en ei eo h = h k ∙ sym (ap (λ b. b || list_any (drives_pin pin) ps) (input_is_none (bytes_eq p.name pin) p.output p.input ei))
wire_step false true n p k pin ns ps en ei eo h =
    there_first (bytes_eq pin n) k (place_from (k + 1) ns pin) (list_any (drives_pin pin) ps) (h (k + 1))
    ∙ ap (λ b. b || list_any (drives_pin pin) ps) (swapped pin n ∙ ap (λ m. bytes_eq m pin) (sym en) ∙ sym (output_is_one (bytes_eq p.name pin) p.output p.input eo ei))

ports_told : (k : ℕ) (pin : List ℕ) (is : List Item) → is_there (place_from k (flat_map output_name is) pin) ≡ list_any (drives_pin pin) (flat_map item_ports is)
ports_told k pin [] = refl
ports_told k pin (item.Wire w ∷ is) = wire_step w.input w.output w.name (wire_face w) k pin (flat_map output_name is) (flat_map item_ports is) refl refl refl (λ j. ports_told j pin is)
ports_told k pin (item.Param p ∷ is) = ports_told k pin is
ports_told k pin (item.Mem m ∷ is) = ports_told k pin is
ports_told k pin (item.Cell c ∷ is) = ports_told k pin is
ports_told k pin (item.Connect l r ∷ is) = ports_told k pin is

outputs_told : (m : DocModule) (o : List (List ℕ × ℕ)) (pin : List ℕ) → AreOutputs m o → output_at (Some o) pin ≡ drives_by_kind None (Some (doc_interface m)) pin
unfolding place_of
outputs_told m o pin h = ap is_there (h pin) ∙ ports_told 0 pin m.items

-- ---- types

kinds_told : (name : List ℕ) (ks : List CarriedKind) → is_there (find (λ (k : CarriedKind). bytes_eq k.kind name) ks) ≡ list_any (λ t. bytes_eq t name) (map (λ (k : CarriedKind). k.kind) ks)
kinds_told name [] = refl
kinds_told name (k ∷ ks) = there_first (bytes_eq k.kind name) k _ _ (kinds_told name ks)

by_type : (name : List ℕ) → is_there (kind_of name) ≡ is_carried name
unfolding is_carried
by_type name = kinds_told name carried_kinds

-- ---- modules

module_step : (t s : Bool) (at : ℕ) (full : List (List (List ℕ × ℕ))) (kind pin : List ℕ) (i : Interface) (later : Option ℕ) (other : Option Interface) → t ≡ s
    → output_at (slice_get full at) pin ≡ drives_by_kind None (Some i) pin → instance_drives full kind pin later ≡ drives_by_kind None other pin
    → instance_drives full kind pin (cond t (Some at) later) ≡ drives_by_kind None (cond s (Some i) other) pin
module_step true true at full kind pin i later other e hit miss = hit
module_step false false at full kind pin i later other e hit miss = miss
module_step true false at full kind pin i later other e hit miss = absurd cc
module_step false true at full kind pin i later other e hit miss = absurd cc

modules_told : (at : ℕ) (full : List (List (List ℕ × ℕ))) (kind pin : List ℕ) (ms : List DocModule) (os : List (List (List ℕ × ℕ))) → AllOutputs ms os → ((j : ℕ) → slice_get full (at + j) ≡ slice_get os j) → kind_of kind ≡ None
    → instance_drives full kind pin (place_from at (map module_name ms) kind) ≡ drives_by_kind None (instance_of (doc_interfaces ms) kind) pin
unfolding drives
modules_told at full kind pin [] [] a h e = ap (λ (k : Option CarriedKind). drives_by_kind k None pin) e
modules_told at full kind pin [] (o ∷ os) a h e = absurd a
modules_told at full kind pin (m ∷ ms) [] a h e = absurd a
modules_told at full kind pin (m ∷ ms) (o ∷ os) a h e =
    let here : at + 0 ≡ at = omega arith in
    let later : (j : ℕ) → slice_get full (at + 1 + j) ≡ slice_get os j = λ j. (let n : at + 1 + j ≡ at + suc j = omega arith in ap (slice_get full) n ∙ h (suc j)) in
    module_step (bytes_eq kind m.name) (bytes_eq m.name kind) at full kind pin (doc_interface m) _ _ (swapped kind m.name)
    (ap (λ (x : Option (List (List ℕ × ℕ))). output_at x pin) (ap (slice_get full) (sym here) ∙ h 0) ∙ outputs_told m o pin a.0)
    (modules_told (at + 1) full kind pin ms os a.1 later e)

none_there : (o : Option CarriedKind) → is_there o ≡ false → o ≡ None
none_there None e = refl
none_there (Some k) e = absurd cc

some_there : (o : Option CarriedKind) (i : Option Interface) (pin : List ℕ) → is_there o ≡ true → drives_by_kind o None pin ≡ drives_by_kind o i pin
some_there (Some k) i pin e = refl
some_there None i pin e = absurd cc

shown : (carried : Bool) (outputs : List (List (List ℕ × ℕ))) (ms : List DocModule) (kind pin : List ℕ) (place : Option ℕ) → is_there (kind_of kind) ≡ carried → AllOutputs ms outputs → place ≡ place_of (map module_name ms) kind
    → (if carried then drives kind pin else instance_drives outputs kind pin place) ≡ carried_drives (doc_interfaces ms) kind pin
unfolding drives place_of
shown true outputs ms kind pin place e a p = some_there (kind_of kind) (instance_of (doc_interfaces ms) kind) pin e
shown false outputs ms kind pin place e a p =
    let none : kind_of kind ≡ None = none_there (kind_of kind) e in
    let same : (j : ℕ) → slice_get outputs (0 + j) ≡ slice_get outputs j = λ j. (let n : 0 + j ≡ j = omega arith in ap (slice_get outputs) n) in
    ap (instance_drives outputs kind pin) p ∙ modules_told 0 outputs kind pin ms outputs a same none ∙ ap (λ (k : Option CarriedKind). drives_by_kind k (instance_of (doc_interfaces ms) kind) pin) (sym none)

pub shown_drive : (ms : List DocModule) (f : Faces) → Shows ms f → (kind pin : List ℕ) → faces_drive f kind pin ≡ carried_drives (doc_interfaces ms) kind pin
shown_drive ms f s kind pin = shown (is_carried kind) f.outputs.items ms kind pin (found f.modules kind) (by_type kind) s.outputs (s.places kind)
