-- What it says of a module that its lists of faults are empty.
use Rattle.std.proofs.Common.{◌≡◌, ℕ, zero, suc, ◌+◌, Bool, true, false, cond, List, [], ◌∷◌, ◌++◌, map, Option, Some, slice_get, refl, sym}
use Rattle.std.specs.Prelude.{if◌then◌else◌}
use Rattle.std.specs.List.{list_any}
use Rattle.std.specs.Str.{bytes_eq}
use Rattle.std.proofs.lemmas.Option.{same_Some}
use Rattle.std.proofs.lemmas.Slice.Eq.{bytes_eq-Decides}
use Rattle.lib_core.specs.declared.library.Library.{Library}
use Rattle.rtlil_text.specs.declared.doc.DocModule.{DocModule}
use Rattle.rtlil_text.specs.Grammar.{module_name}
use Rattle.net_core.specs.Valid.{instance_of, is_there}
use Rattle.cell_rows.specs.Kinds.{place_from, place_of}
use Rattle.net_wires.specs.Drivers.{has_conflict}
use Rattle.net_wires.specs.Nets.{HasNoRing}
use Rattle.net_gather.specs.Faces.{doc_interface, doc_interfaces}
use Rattle.net_gather.specs.Gather.{faults_of}
use Rattle.net_checks.specs.Checks.{module_inouts, module_links, ring_faults}
use Rattle.net_checks.specs.ClockPins.{clock_faults}
use Rattle.net_checks.specs.Driven.{driven, driver_faults}
use Rattle.net_build.specs.Faults.{AreChecked, IsFaultless}
use Rattle.net_build.specs.Means.{context_in, gathered_in}
use Rattle.net_fits.specs.Cells.{IsSound, Knows}
use Rattle.net_fits.specs.Written.{IsWritten}

-- ---- lists

pub none_mapped : {X Y : Type 0} (f : X → Y) (xs : List X) → map f xs ≡ [] → xs ≡ []
none_mapped f [] e = refl
none_mapped f (x ∷ xs) e = absurd cc

pub none_left : {X : Type 0} (xs ys : List X) → xs ++ ys ≡ [] → xs ≡ []
none_left [] ys e = refl
none_left (x ∷ xs) ys e = absurd cc

pub none_right : {X : Type 0} (xs ys : List X) → xs ++ ys ≡ [] → ys ≡ []
none_right [] ys e = e
none_right (x ∷ xs) ys e = absurd cc

pub none_if : {X : Type 0} (b : Bool) (x : X) → (if b then x ∷ [] else []) ≡ [] → b ≡ false
none_if true x e = absurd cc
none_if false x e = refl

-- ---- modules by their names

same_truth : (a b : Bool) → (a ≡ true → b ≡ true) → (b ≡ true → a ≡ true) → a ≡ b
same_truth true b f g = sym (f refl)
same_truth false true f g = g refl
same_truth false false f g = refl

pub swapped : (x y : List ℕ) → bytes_eq x y ≡ bytes_eq y x
swapped x y = same_truth (bytes_eq x y) (bytes_eq y x) (λ e. (bytes_eq-Decides y x).1 (sym ((bytes_eq-Decides x y).0 e))) (λ e. (bytes_eq-Decides x y).1 (sym ((bytes_eq-Decides y x).0 e)))

there_case : {X Y : Type 0} (s t : Bool) (x : X) (y : Y) (o : Option X) (p : Option Y) → s ≡ t → is_there o ≡ is_there p → is_there (cond s (Some x) o) ≡ is_there (cond t (Some y) p)
there_case true true x y o p e h = refl
there_case false false x y o p e h = h
there_case true false x y o p e h = absurd cc
there_case false true x y o p e h = absurd cc

place_told : (at : ℕ) (ms : List DocModule) (name : List ℕ) → is_there (place_from at (map module_name ms) name) ≡ is_there (instance_of (doc_interfaces ms) name)
place_told at [] name = refl
place_told at (m ∷ ms) name = there_case (bytes_eq name m.name) (bytes_eq m.name name) at (doc_interface m) _ _ (swapped name m.name) (place_told (at + 1) ms name)

places_told : (ms : List DocModule) (name : List ℕ) → is_there (place_of (map module_name ms) name) ≡ is_there (instance_of (doc_interfaces ms) name)
unfolding place_of
places_told ms name = place_told 0 ms name

pub context_tells : (lib : Library) (modules : List DocModule) (d : DocModule) → Knows (doc_interfaces modules) (context_in lib modules d)
context_tells lib modules d = record { instances = λ name. places_told modules name; drives = λ kind pin. refl }

pub faultless_sound : (lib : Library) (modules : List DocModule) (d : DocModule) → IsWritten d → IsFaultless lib modules d → IsSound (doc_interfaces modules) (context_in lib modules d) d
faultless_sound lib modules d w f = record { written = w; knows = context_tells lib modules d; faultless = none_mapped _ (faults_of (context_in lib modules d) d.items) f.gathered }

-- ---- checks

-- each list of faults of the checks is empty
pub record NothingFound (lib : Library) (modules : List DocModule) (d : DocModule) (checked : AreChecked lib modules d []) : Type 0 where
  pub drivers : driver_faults d.items (gathered_in lib modules d) ≡ []
  pub inouts : module_inouts checked.inouts d.items (gathered_in lib modules d) ≡ []
  pub clocks : clock_faults checked.clocks (gathered_in lib modules d).cells ≡ []
  pub rings : ring_faults checked.rings d.items ≡ []

pub nothing_found : (lib : Library) (modules : List DocModule) (d : DocModule) (checked : AreChecked lib modules d []) → NothingFound lib modules d checked
nothing_found lib modules d checked =
    let g = gathered_in lib modules d in
    let drivers = driver_faults d.items g in
    let inouts = module_inouts checked.inouts d.items g in
    let clocks = clock_faults checked.clocks g.cells in
    let rings = ring_faults checked.rings d.items in
    let all : drivers ++ (inouts ++ (clocks ++ rings)) ≡ [] = sym checked.is in
    let behind = none_right drivers (inouts ++ (clocks ++ rings)) all in
    let last = none_right inouts (clocks ++ rings) behind in
    record { drivers = none_left drivers _ all; inouts = none_left inouts _ behind; clocks = none_left clocks rings last; rings = none_right clocks rings last }

pub no_conflict : (lib : Library) (modules : List DocModule) (d : DocModule) → AreChecked lib modules d [] → has_conflict (gathered_in lib modules d).places (driven d.items (gathered_in lib modules d)) ≡ false
no_conflict lib modules d checked = none_if _ _ (nothing_found lib modules d checked).drivers

no_mark : (ms : List Bool) → list_any (λ on. on) ms ≡ false → (i : ℕ) → slice_get ms i ≡ Some true → ⊥
no_mark [] h i at = cc
no_mark (true ∷ ms) h i at = cc
no_mark (false ∷ ms) h zero at = let e = same_Some false true at in cc
no_mark (false ∷ ms) h (suc i) at = no_mark ms h i at

pub no_rings : (lib : Library) (modules : List DocModule) (d : DocModule) → AreChecked lib modules d [] → HasNoRing (module_links (gathered_in lib modules d))
no_rings lib modules d checked i h ring =
    no_mark checked.rings (none_if _ _ (nothing_found lib modules d checked).rings) i (checked.are_rings.whole i h ring)
