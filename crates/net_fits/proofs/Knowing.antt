-- What stands around the cells of a module tells what the interfaces of the file's modules tell.
use Rattle.std.proofs.Common.{◌≡◌, ℕ, ◌+◌, Bool, true, false, cond, List, [], ◌∷◌, map, Option, Some, refl, sym, ap, ◌∙◌}
use Rattle.std.specs.Str.{bytes_eq}
use Rattle.std.proofs.lemmas.Slice.Eq.{bytes_eq-Decides}
use Rattle.lib_core.specs.declared.library.Library.{Library}
use Rattle.rtlil_text.specs.declared.doc.DocModule.{DocModule}
use Rattle.rtlil_text.specs.declared.doc.Item.{Item}
use Rattle.rtlil_text.specs.Grammar.{module_name}
use Rattle.net_core.specs.Valid.{instance_of, is_there}
use Rattle.cell_rows.specs.Kinds.{place_from, place_of}
use Rattle.net_gather.specs.declared.faces.Faces.{Faces}
use Rattle.net_gather.specs.Faces.{doc_interface, doc_interfaces, ShownDrive, Shows}
use Rattle.net_gather.specs.Gather.{context}
use Rattle.net_fits.specs.Cells.{Knows}

same_truth : (a b : Bool) → (a ≡ true → b ≡ true) → (b ≡ true → a ≡ true) → a ≡ b
same_truth true b f g = sym (f refl)
same_truth false true f g = g refl
same_truth false false f g = refl

swapped : (x y : List ℕ) → bytes_eq x y ≡ bytes_eq y x
swapped x y = same_truth (bytes_eq x y) (bytes_eq y x) (λ e. (bytes_eq-Decides y x).1 (sym ((bytes_eq-Decides x y).0 e))) (λ e. (bytes_eq-Decides x y).1 (sym ((bytes_eq-Decides y x).0 e)))

there_case : {X Y : Type 0} (s t : Bool) (x : X) (y : Y) (o : Option X) (p : Option Y) → s ≡ t → is_there o ≡ is_there p → is_there (cond s (Some x) o) ≡ is_there (cond t (Some y) p)
there_case true true x y o p e h = refl
there_case false false x y o p e h = h
there_case true false x y o p e h = absurd cc
there_case false true x y o p e h = absurd cc

place_told : (at : ℕ) (ms : List DocModule) (name : List ℕ) → is_there (place_from at (map module_name ms) name) ≡ is_there (instance_of (doc_interfaces ms) name)
place_told at [] name = refl
place_told at (m ∷ ms) name = there_case (bytes_eq name m.name) (bytes_eq m.name name) at (doc_interface m) _ _ (swapped name m.name) (place_told (at + 1) ms name)

places_told : (ms : List DocModule) (name : List ℕ) → is_there (place_of (map module_name ms) name) ≡ is_there (instance_of (doc_interfaces ms) name)
unfolding place_of
places_told ms name = place_told 0 ms name

pub context_knows : ShownDrive → (lib : Library) (ram : List ℕ → Option ℕ) (faces : Faces) (ms : List DocModule) (is : List Item) → Shows ms faces → Knows (doc_interfaces ms) (context lib ram faces is)
context_knows shown lib ram faces ms is s = record {
  instances = λ name. ap is_there (s.places name) ∙ places_told ms name;
  drives = λ kind pin. shown ms faces s kind pin;
}
