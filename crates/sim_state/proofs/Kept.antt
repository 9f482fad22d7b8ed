-- What registers keep, in buffers; and what stands for want of a state.
use Rattle.std.proofs.Common.{◌≡◌, ℕ, zero, suc, ◌+◌, Bool, List, [], ◌∷◌, ◌++◌, length, set, take, Some, refl, sym, ap, subst, ◌∙◌}
use Rattle.std.specs.Prelude.{slice_get, Vec}
use Rattle.std.specs.Global.{Global}
use Rattle.std.proofs.lemmas.List.{map-set, map-append}
use Rattle.std.proofs.lemmas.Option.{same_Some}
use Rattle.std.proofs.lemmas.List.FromFn.{length-map-range_with_len}
use Rattle.net_core.specs.declared.bits.Event.{Event}
use Rattle.net_core.specs.declared.cells.Reg.{Reg}
use Rattle.net_core.specs.Values.{Valuation}
use Rattle.ram_step.specs.declared.picks.PickKey.{PickKey}
use Rattle.sim_cells.specs.KeptBits.{bit_lists}
use Rattle.sim_cells.specs.Registers.{reg_stepped}
use Rattle.sim_cells.specs.Memories.{MemLook}
use Rattle.picked_run.specs.States.{each_cell}
use Rattle.sim_state.specs.Cells.{AreStates, IsKept}
use Rattle.sim_state.proofs.Listing.{IsSteppedBelow, cells_more, stepped_at, states_at}

abbrev pub no_mem : MemLook
no_mem = record { words = []; kept = []; ports = 0 }

pub length_lists : (kept : List (Vec Bool Global)) → length (bit_lists kept) ≡ length kept
length_lists [] = refl
length_lists (k ∷ ks) = ap suc (length_lists ks)

pub list_at : (kept : List (Vec Bool Global)) (n : ℕ) (bits : Vec Bool Global) → slice_get kept n ≡ Some bits → slice_get (bit_lists kept) n ≡ Some bits.items
list_at [] n bits e = cc
list_at (k ∷ ks) zero bits e = ap (λ (l : Vec Bool Global). Some l.items) (same_Some k bits e)
list_at (k ∷ ks) (suc n) bits e = list_at ks n bits e

pub kept_pushed : (f : ℕ → Reg → List Bool) (xs : List Reg) (n : ℕ) (r : Reg) (kept new : List (Vec Bool Global)) (bits : Vec Bool Global) → slice_get xs n ≡ Some r → bit_lists kept ≡ each_cell f 0 (take n xs) → new ≡ kept ++ bits ∷ [] → bits.items ≡ f n r → bit_lists new ≡ each_cell f 0 (take (n + 1) xs)
kept_pushed f xs n r kept new bits found was pushed made =
    cells_more f xs n r (bit_lists kept) (bit_lists new) bits.items found was (ap bit_lists pushed ∙ map-append (λ (l : Vec Bool Global). l.items) kept (bits ∷ [])) made

pub kept_more : (f : ℕ → Reg → List Bool → List Bool) (xs : List Reg) (old kept : List (Vec Bool Global)) (n : ℕ) (r : Reg) (was bits : Vec Bool Global) → slice_get xs n ≡ Some r → slice_get kept n ≡ Some was → bits.items ≡ f n r was.items → IsSteppedBelow f [] xs (bit_lists old) (bit_lists kept) n → IsSteppedBelow f [] xs (bit_lists old) (bit_lists (set kept n bits)) (n + 1)
kept_more f xs old kept n r was bits found there made st =
    subst (λ (l : List (List Bool)). IsSteppedBelow f [] xs (bit_lists old) l (n + 1)) (sym (map-set (λ (l : Vec Bool Global). l.items) kept n bits))
    (stepped_at f [] xs (bit_lists old) (bit_lists kept) n r was.items bits.items found (list_at kept n was there) made st)

pub kept_states : (xs : List Reg) (kept : List (Vec Bool Global)) (n : ℕ) (r : Reg) (was bits : Vec Bool Global) → slice_get xs n ≡ Some r → slice_get kept n ≡ Some was → IsKept r bits.items → AreStates IsKept xs (bit_lists kept) → AreStates IsKept xs (bit_lists (set kept n bits))
kept_states xs kept n r was bits found there holds are =
    subst (λ (l : List (List Bool)). AreStates IsKept xs l) (sym (map-set (λ (l : Vec Bool Global). l.items) kept n bits))
    (states_at IsKept xs (bit_lists kept) n r was.items bits.items found (list_at kept n was there) holds are)

-- a step keeps one bit for each bit of Q
pub length-stepped : (r : Reg) (v : Valuation) (e : Event) (key : PickKey) (kept : List Bool) → length (reg_stepped r v e key kept) ≡ length r.q
length-stepped r v e key kept = length-map-range_with_len _ 0 (length r.q)
