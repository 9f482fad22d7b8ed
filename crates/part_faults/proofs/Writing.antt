-- The write ports of a module's cells, noted one after the other.
use Rattle.std.proofs.Common.{◌≡◌, ℕ, suc, ◌+◌, ◌-◌, ◌<◌, ◌≤◌, Bool, true, false, List, [], ◌∷◌, ◌++◌, length, take, drop, get_or, Option, Some, None, refl, ap, ◌∙◌, sym, subst, arith}
use Rattle.std.specs.Prelude.{if◌then◌else◌}
use Rattle.std.specs.Str.{bytes_eq}
use Rattle.std.proofs.lemmas.List.{append_assoc}
use Rattle.std.proofs.lemmas.Option.{same_Some}
use Rattle.net_core.specs.declared.mems.Attr.{Attr}
use Rattle.net_core.specs.declared.mems.Mem.{Mem}
use Rattle.net_core.specs.declared.modules.MemPart.{MemPart}
use Rattle.net_core.specs.declared.modules.Module.{Module}
use Rattle.cell_rows.specs.Kinds.{place_from, place_of}
use Rattle.mem_rows.specs.declared.row.MemRow.{MemRow}
use Rattle.mem_rows.specs.declared.row.MemRow.TheVariants as row
use Rattle.part_faults.specs.declared.ids.WriteId.{WriteId}
use Rattle.part_faults.specs.Ids.{AddsId, ids_at, IsWithin, own_id}
use Rattle.part_faults.specs.Parts.{memory_named, names_of, row_of}
use Rattle.part_faults.specs.Writes.{ids_of, TellsIds, write_in, write_of, write_of_row}

-- ---- places are within

if_some : (b : Bool) (at k : ℕ) (other : Option ℕ) (n : ℕ) → (other ≡ Some k → k < suc at + n) → (if b then Some at else other) ≡ Some k → k < at + suc n
if_some true at k other n h e = let q : at ≡ k = same_Some at k e in omega (arith, q)
if_some false at k other n h e = let q : k < suc at + n = h e in omega (arith, q)

place_within : (at : ℕ) (names : List (List ℕ)) (name : List ℕ) (k : ℕ) → place_from at names name ≡ Some k → k < at + length names
place_within at [] name k e = absurd cc
place_within at (n ∷ ns) name k e = if_some (bytes_eq name n) at k (place_from (at + 1) ns name) (length ns) (λ h. let q : k < at + 1 + length ns = place_within (at + 1) ns name k h in omega (arith, q)) e

names_counted : (declared : List Mem) → length (names_of declared) ≡ length declared
names_counted [] = refl
names_counted (x ∷ xs) = ap suc (names_counted xs)

memory_within : (m : Module) (name : List ℕ) (k : ℕ) → memory_named m name ≡ Some k → k < length m.declared
unfolding memory_named place_of
memory_within m name k e =
    let q : k < 0 + length (names_of m.declared) = place_within 0 (names_of m.declared) name k e in
    let n : length (names_of m.declared) ≡ length m.declared = names_counted m.declared in
    omega (arith, q, n)

in_within : (o : Option ℕ) (id count : ℕ) (w : WriteId) → ((k : ℕ) → o ≡ Some k → k < count) → write_in o id ≡ Some w → w.memory < count
in_within None id count w h e = absurd cc
in_within (Some k) id count w h e =
    let q : k ≡ w.memory = ap (λ (x : WriteId). x.memory) (same_Some _ _ e) in
    let low : k < count = h k refl in
    omega (arith, q, low)

row_within : (memory : List ℕ → Option ℕ) (count : ℕ) (params : List Attr) (r : Option MemRow) (w : WriteId) → ((name : List ℕ) (k : ℕ) → memory name ≡ Some k → k < count) → write_of_row memory params r ≡ Some w → w.memory < count
row_within memory count params None w h e = absurd cc
row_within memory count params (Some (row.Whole r)) w h e = absurd cc
row_within memory count params (Some (row.Read r)) w h e = absurd cc
row_within memory count params (Some (row.OldRead r)) w h e = absurd cc
row_within memory count params (Some (row.Write r)) w h e = in_within (memory r.name) _ count w (h r.name) e
row_within memory count params (Some (row.Init r)) w h e = absurd cc

-- a write port is of a memory that the module declares
pub write_within : (m : Module) (memory : List ℕ → Option ℕ) (count : ℕ) (params : List Attr) (r : Option MemRow) (write : Option WriteId) → count ≡ length m.declared → ((name : List ℕ) → memory name ≡ memory_named m name) → write ≡ write_of_row memory params r → IsWithin count write
write_within m memory count params r write counted same is_write w e =
    let low : w.memory < length m.declared = row_within memory (length m.declared) params r w (λ name k h. memory_within m name k (sym (same name) ∙ h)) (sym is_write ∙ e) in
    omega (arith, low, counted)

-- ---- one port more

all_left : (xs : List ℕ) → xs ++ [] ≡ xs
all_left [] = refl
all_left (x ∷ xs) = ap (λ l. x ∷ l) (all_left xs)

ids_more : (memory : List ℕ → Option ℕ) (ps : List MemPart) (p : MemPart) (k : ℕ) → ids_of memory (ps ++ p ∷ []) k ≡ ids_of memory ps k ++ own_id (write_of memory p) k
unfolding ids_of
ids_more memory [] p k = all_left (own_id (write_of memory p) k)
ids_more memory (q ∷ qs) p k = ap (λ l. own_id (write_of memory q) k ++ l) (ids_more memory qs p k) ∙ sym (append_assoc (own_id (write_of memory q) k) (ids_of memory qs k) (own_id (write_of memory p) k))

-- the write port of a cell under the places that a table has
pub write_is : (m : Module) (memory : List ℕ → Option ℕ) (p : MemPart) (r : Option MemRow) (write : Option WriteId) → ((name : List ℕ) → memory name ≡ memory_named m name) → r ≡ row_of p → write ≡ write_of_row memory p.params r → write ≡ write_of (memory_named m) p
write_is m memory p r write same is_row is_write = is_write ∙ (λ i. write_of_row (λ name. same name i) p.params (is_row i))

pub told_more : (m : Module) (earlier : List MemPart) (p : MemPart) (write : Option WriteId) (old new : List (List ℕ)) → write ≡ write_of (memory_named m) p → length new ≡ length old → AddsId old write new → TellsIds m earlier old → TellsIds m (earlier ++ p ∷ []) new
told_more m earlier p write old new is_write counted adds before = record {
  count = counted ∙ before.count;
  ids = λ k. adds k ∙ (λ i. before.ids k i ++ own_id (is_write i) k) ∙ sym (ids_more (memory_named m) earlier p k);
}

pub told_none : (m : Module) (rows : List (List ℕ)) (count : ℕ) → count ≡ length m.declared → length rows ≡ count → ((k : ℕ) → ids_at rows k ≡ []) → TellsIds m [] rows
unfolding ids_of
told_none m rows count counted len none = record { count = len ∙ counted; ids = λ k. none k }

-- the cells before those that are left
pub record Noted (m : Module) (rest : List MemPart) (rows : List (List ℕ)) : Type 0 where
  pub earlier : List MemPart
  pub parts : earlier ++ rest ≡ m.parts
  pub ids : TellsIds m earlier rows

pub noted_more : (m : Module) (p : MemPart) (rest : List MemPart) (write : Option WriteId) (old new : List (List ℕ)) → write ≡ write_of (memory_named m) p → length new ≡ length old → AddsId old write new → Noted m (p ∷ rest) old → Noted m rest new
noted_more m p rest write old new is_write counted adds before = record {
  earlier = before.earlier ++ p ∷ [];
  parts = append_assoc before.earlier (p ∷ []) rest ∙ before.parts;
  ids = told_more m before.earlier p write old new is_write counted adds before.ids;
}

pub noted_all : (m : Module) (rest : List MemPart) (rows : List (List ℕ)) → rest ≡ [] → Noted m rest rows → TellsIds m m.parts rows
noted_all m rest rows none h =
    subst (λ ps. TellsIds m ps rows) (sym (all_parts h.earlier) ∙ ap (λ r. h.earlier ++ r) (sym none) ∙ h.parts) h.ids
  where
    all_parts : (ps : List MemPart) → ps ++ [] ≡ ps
    all_parts [] = refl
    all_parts (p ∷ ps) = ap (λ l. p ∷ l) (all_parts ps)

-- ---- one cell of those that are left

take_all : {X : Type 0} (xs : List X) → take (length xs) xs ≡ xs
take_all [] = refl
take_all (x ∷ xs) = ap (λ l. x ∷ l) (take_all xs)

pub first_and_rest : {X : Type 0} (xs : List X) (x d : X) → 1 ≤ length xs → x ≡ get_or xs 0 d → xs ≡ x ∷ take (length xs - 1) (drop 1 xs)
first_and_rest [] x d h e = absurd (omega (arith, h))
first_and_rest (y ∷ ys) x d h e =
    let one : length (y ∷ ys) - 1 ≡ length ys = omega arith in
    (λ i. sym e i ∷ sym (take_all ys) i) ∙ ap (λ n. x ∷ take n ys) (sym one)

pub noted_next : (m : Module) (rest : List MemPart) (p : MemPart) (write : Option WriteId) (old new : List (List ℕ)) → 1 ≤ length rest → p ≡ get_or rest 0 p → write ≡ write_of (memory_named m) p → length new ≡ length old → AddsId old write new → Noted m rest old → Noted m (take (length rest - 1) (drop 1 rest)) new
noted_next m rest p write old new some is_first is_write counted adds before =
    noted_more m p (take (length rest - 1) (drop 1 rest)) write old new is_write counted adds (subst (λ r. Noted m r old) (first_and_rest rest p p some is_first) before)

pub noted_none : (m : Module) (parts : List MemPart) (rows : List (List ℕ)) (count : ℕ) → parts ≡ m.parts → count ≡ length m.declared → length rows ≡ count → ((k : ℕ) → ids_at rows k ≡ []) → Noted m parts rows
noted_none m parts rows count whole counted len none = record { earlier = []; parts = whole; ids = told_none m rows count counted len none }
