-- The first fault of a module, looked for cell by cell.
use Rattle.std.proofs.Common.{◌≡◌, ℕ, ◌-◌, ◌≤◌, Bool, List, [], ◌∷◌, ◌++◌, length, take, drop, get_or, Option, Some, None, refl, ap, ◌∙◌, sym}
use Rattle.std.specs.Prelude.{slice_get}
use Rattle.net_core.specs.declared.modules.MemPart.{MemPart}
use Rattle.net_core.specs.declared.modules.Module.{Module}
use Rattle.mem_rows.specs.declared.row.MemRow.{MemRow}
use Rattle.mem_collect.specs.declared.fault.CollectCode.{CollectCode}
use Rattle.mem_collect.specs.declared.fault.CollectFault.{CollectFault}
use Rattle.part_faults.specs.declared.ids.WriteId.{WriteId}
use Rattle.part_faults.specs.Driven.{is_driven}
use Rattle.part_faults.specs.Faults.{code_of, code_of_row, entry, faults_from, first_code, has_open_contents, is_id_twice, lacks_memory, masks_overlap, misfits, part_faults, row_code}
use Rattle.part_faults.specs.Ids.{AddsId, ids_at}
use Rattle.part_faults.specs.Parts.{memory_named, row_of}
use Rattle.part_faults.specs.Writes.{ids_of, TellsIds, write_of}
use Rattle.part_faults.proofs.Writing.{first_and_rest, told_more, told_none}

-- the code by what the tables tell is the code
pub code_is : (m : Module) (memory : List ℕ → Option ℕ) (earlier all : ℕ → List ℕ) (p : MemPart) (r : MemRow) (lacks twice unfixed both wide : Bool) (found : Option CollectCode)
    → ((name : List ℕ) → memory name ≡ memory_named m name) → ((k : ℕ) → all k ≡ ids_of (memory_named m) m.parts k)
    → lacks ≡ lacks_memory memory r → twice ≡ is_id_twice memory earlier p.params r → unfixed ≡ has_open_contents (is_driven m) p.pins r → both ≡ masks_overlap memory all p r → wide ≡ misfits m.declared memory r
    → found ≡ first_code lacks twice unfixed both wide → found ≡ row_code m earlier p r
unfolding row_code
code_is m memory earlier all p r lacks twice unfixed both wide found same told a b c d e f =
    let places : memory ≡ memory_named m = λ i name. same name i in
    let ids : all ≡ ids_of (memory_named m) m.parts = λ i k. told k i in
    f ∙ (λ i. first_code (a i) (b i) (c i) (d i) (e i))
    ∙ (λ i. first_code (lacks_memory (places i) r) (is_id_twice (places i) earlier p.params r) (has_open_contents (is_driven m) p.pins r) (masks_overlap (places i) (ids i) p r) (misfits m.declared (places i) r))

-- ---- from cell to cell

-- the cells that are left have the faults of the module, and the table the write ports before them
pub record Going (m : Module) (rest : List MemPart) (rows : List (List ℕ)) : Type 0 where
  pub earlier : List MemPart
  pub faults : faults_from m earlier rest ≡ part_faults m
  pub ids : TellsIds m earlier rows

pub going_start : (m : Module) (parts : List MemPart) (rows : List (List ℕ)) (count : ℕ) → parts ≡ m.parts → count ≡ length m.declared → length rows ≡ count → ((k : ℕ) → ids_at rows k ≡ []) → Going m parts rows
unfolding part_faults
going_start m parts rows count whole counted len none = record { earlier = []; faults = ap (faults_from m []) whole; ids = told_none m rows count counted len none }

-- the code of a cell by the table
same_code : (m : Module) (earlier : List MemPart) (rows : List (List ℕ)) (p : MemPart) (r : Option MemRow) (code : Option CollectCode) → TellsIds m earlier rows → r ≡ row_of p → code ≡ code_of_row m (ids_at rows) p r → code ≡ code_of m earlier p
same_code m earlier rows p r code told is_row is_code =
    let ids : ids_at rows ≡ ids_of (memory_named m) earlier = λ i k. told.ids k i in
    is_code ∙ (λ i. code_of_row m (ids i) p (is_row i))

pub going_on : (m : Module) (rest : List MemPart) (p : MemPart) (r : Option MemRow) (code : Option CollectCode) (write : Option WriteId) (old new : List (List ℕ)) → 1 ≤ length rest → p ≡ get_or rest 0 p → r ≡ row_of p → code ≡ code_of_row m (ids_at old) p r → code ≡ None
    → write ≡ write_of (memory_named m) p → length new ≡ length old → AddsId old write new → Going m rest old → Going m (take (length rest - 1) (drop 1 rest)) new
going_on m rest p r code write old new some is_first is_row is_code no_code is_write counted adds before =
    let tail = take (length rest - 1) (drop 1 rest) in
    let none : code_of m before.earlier p ≡ None = sym (same_code m before.earlier old p r code before.ids is_row is_code) ∙ no_code in
    record {
      earlier = before.earlier ++ p ∷ [];
      faults =
          ap (λ o. entry p.name o ++ faults_from m (before.earlier ++ p ∷ []) tail) (sym none)
          ∙ ap (faults_from m before.earlier) (sym (first_and_rest rest p p some is_first)) ∙ before.faults;
      ids = told_more m before.earlier p write old new is_write counted adds before.ids;
    }

pub found_here : (m : Module) (rest : List MemPart) (p : MemPart) (r : Option MemRow) (code : Option CollectCode) (one : CollectCode) (fault : CollectFault) (rows : List (List ℕ)) → 1 ≤ length rest → p ≡ get_or rest 0 p → r ≡ row_of p → code ≡ code_of_row m (ids_at rows) p r → code ≡ Some one
    → fault ≡ record { name = p.name; code = one } → Going m rest rows → Some fault ≡ slice_get (part_faults m) 0
found_here m rest p r code one fault rows some is_first is_row is_code has_code is_fault before =
    let tail = take (length rest - 1) (drop 1 rest) in
    let here : code_of m before.earlier p ≡ Some one = sym (same_code m before.earlier rows p r code before.ids is_row is_code) ∙ has_code in
    ap Some is_fault ∙ ap (λ o. slice_get (entry p.name o ++ faults_from m (before.earlier ++ p ∷ []) tail) 0) (sym here)
    ∙ ap (λ ps. slice_get (faults_from m before.earlier ps) 0) (sym (first_and_rest rest p p some is_first)) ∙ ap (λ fs. slice_get fs 0) before.faults

pub found_none : (m : Module) (rest : List MemPart) (rows : List (List ℕ)) → rest ≡ [] → Going m rest rows → None ≡ slice_get (part_faults m) 0
found_none m rest rows none h = ap (λ ps. slice_get (faults_from m h.earlier ps) 0) (sym none) ∙ ap (λ fs. slice_get fs 0) h.faults

pub no_first : (faults : List CollectFault) → None ≡ slice_get faults 0 → faults ≡ []
no_first [] h = refl
no_first (f ∷ fs) h = absurd cc
