-- The modules of a document are known by faces, so that what holds of gathered cells holds here; RAM cells have their shapes.
use Rattle.std.proofs.Common.{◌≡◌, ℕ, ◌+◌, cond, List, [], ◌∷◌, map, length, Option, Some, refl, sym, ap, ◌∙◌, subst, suc}
use Rattle.std.specs.Prelude.{Vec}
use Rattle.std.specs.Global.{Global}
use Rattle.std.specs.List.{flat_map}
use Rattle.std.specs.Str.{bytes_eq}
use Rattle.lib_core.specs.declared.library.Library.{Library}
use Rattle.rtlil_text.specs.declared.doc.DocModule.{DocModule}
use Rattle.cell_rows.specs.Kinds.{found, place_from, place_of}
use Rattle.net_wires.specs.declared.clock.ClockRoot.{ClockRoot}
use Rattle.net_wires.specs.declared.number.Nets.{Nets}
use Rattle.net_gather.specs.declared.faces.Faces.{Faces}
use Rattle.net_gather.specs.Cells.{Context}
use Rattle.net_gather.specs.Faces.{AllOutputs, output_name, Shows}
use Rattle.net_gather.specs.Gather.{context, faults_of, gathered}
use Rattle.net_gather.specs.Laws.{Agrees, CellsShaped, RamsFit}
use Rattle.net_checks.specs.declared.inouts.Inouts.{Inouts}
use Rattle.net_checks.specs.Inouts.{AllInouts, ShowsInouts}
use Rattle.net_build.specs.Faults.{IsFaultless}
use Rattle.net_build.specs.Means.{context_in, gathered_in, ram_names}
use Rattle.net_build.proofs.Contexts.{context_is}
use Rattle.build_valid.proofs.Faultless.{none_mapped}

-- ---- names with their places

abbrev entries_from : ℕ → List (List ℕ) → List (List ℕ × ℕ)
entries_from k [] = []
entries_from k (n ∷ ns) = (n, k) ∷ entries_from (k + 1) ns

found_from : (k : ℕ) (ns : List (List ℕ)) (name : List ℕ) → found (entries_from k ns) name ≡ place_from k ns name
found_from k [] name = refl
found_from k (n ∷ ns) name = ap (λ o. cond (bytes_eq name n) (Some k) o) (found_from (k + 1) ns name)

found_all : (ns : List (List ℕ)) (name : List ℕ) → found (entries_from 0 ns) name ≡ place_of ns name
unfolding place_of
found_all ns name = found_from 0 ns name

abbrev outputs : List DocModule → List (List (List ℕ × ℕ))
outputs ms = map (λ (m : DocModule). entries_from 0 (flat_map output_name m.items)) ms

all_outputs : (ms : List DocModule) → AllOutputs ms (outputs ms)
all_outputs [] = tt
all_outputs (m ∷ ms) = (λ name. found_all (flat_map output_name m.items) name, all_outputs ms)

-- ---- faces

as_many : (ms : List DocModule) (ps : List (List (List ℕ × ℕ))) → AllInouts ms ps → length (outputs ms) ≡ length ps
as_many [] [] a = refl
as_many [] (p ∷ ps) a = absurd a
as_many (m ∷ ms) [] a = absurd a
as_many (m ∷ ms) (p ∷ ps) a = ap suc (as_many ms ps a.1)

-- as many others in the place of the items
abbrev holding : (d : Vec (List (List ℕ × ℕ)) Global) (ys : List (List (List ℕ × ℕ))) → length ys ≡ length d.items → Vec (List (List ℕ × ℕ)) Global
holding d ys e = record { ptr = d.ptr; len = d.len; cap = d.cap; alloc = d.alloc; items = ys; ok = (d.ok.0 ∙ sym e, d.ok.1); small = d.small }

pub faces_show : (ms : List DocModule) (x : Inouts) → ShowsInouts ms x → (f : Faces) × Shows ms f
faces_show ms x s =
    (record { modules = x.modules; outputs = holding x.ports (outputs ms) (as_many ms x.ports.items s.ports) }, record { places = s.places; outputs = all_outputs ms })

-- ---- shapes

pub cells_shaped : RamsFit → (lib : Library) (modules : List DocModule) (d : DocModule) (nets : Nets) (roots : List ClockRoot) → IsFaultless lib modules d → Agrees (gathered_in lib modules d) nets.bits roots
    → CellsShaped lib nets.bits roots (gathered_in lib modules d).cells
cells_shaped fit lib modules d nets roots f a =
    let ram : List ℕ → Option ℕ = λ name. place_of (ram_names lib) name in
    let there = faces_show modules f.checked.inouts f.checked.shows in
    let same : context lib ram there.0 d.items ≡ context_in lib modules d = context_is lib ram there.0 modules d (λ name. refl) there.1 in
    let none : faults_of (context_in lib modules d) d.items ≡ [] = none_mapped _ _ f.gathered in
    let told : CellsShaped lib nets.bits roots (gathered (context lib ram there.0 d.items) d.items).cells =
    fit lib ram there.0 d.items nets.bits roots (subst (λ (x : Context). faults_of x d.items ≡ []) (sym same) none) (subst (λ (x : Context). Agrees (gathered x d.items) nets.bits roots) (sym same) a) in
    subst (λ (x : Context). CellsShaped lib nets.bits roots (gathered x d.items).cells) same told
