-- States of a memory, at the start and after an event.
use Rattle.std.proofs.Common.{◌≡◌, ℕ, zero, suc, ◌*◌, ◌<◌, ◌≤◌, Bool, true, false, cond, List, [], ◌∷◌, ◌++◌, map, take, length, Option, refl, sym, ap, subst, ◌∙◌, arith}
use Rattle.std.specs.List.{range_with_len}
use Rattle.std.proofs.lemmas.List.FromFn.{fill_by_all, length-map-range_with_len}
use Rattle.lib_core.specs.declared.library.Tri.{Tri}
use Rattle.lib_core.specs.declared.library.Tri.TheVariants.{Any}
use Rattle.lib_core.specs.Rams.{tri_at}
use Rattle.net_core.specs.declared.bits.Event.{Event}
use Rattle.net_core.specs.declared.mems.Mem.{Mem}
use Rattle.net_core.specs.declared.mems.RdPort.{RdPort}
use Rattle.net_core.specs.Values.{Valuation}
use Rattle.net_core.specs.Memory.{written}
use Rattle.net_core.specs.Valid.{MemFits}
use Rattle.ram_step.specs.declared.picks.PickKey.{PickKey}
use Rattle.ram_step.specs.Picks.{start_key}
use Rattle.row_store.proofs.Tables.{tri_at_is}
use Rattle.sim_cells.specs.Memories.{MemLook, IsMemState, is_clocked, kept_width, kept_at, picked_bit, each_read, read_start, mem_start, next_kept, next_tri, written_place, mem_stepped}
use Rattle.sim_cells.specs.Places.{write_base, base_hits}
use Rattle.sim_cells.proofs.Hitting.{hits_are}
use Rattle.sim_cells.proofs.ReadLists.{each_at_own, length_each}

pub start_state : (x : Mem) (key : PickKey) → MemFits x → IsMemState (mem_start x key) x
start_state x key fits = record {
  words = fits.init;
  kept = length_each (read_start key) 0 x.reads;
  bits = λ port r found. ap length (each_at_own (read_start key) x.reads port r found) ∙ length-map-range_with_len (picked_bit (start_key key) port (tri_at r.init_value)) 0 (kept_width r);
  ports = refl;
}

pub stepped_state : (a : MemLook) (x : Mem) (v : Valuation) (e : Event) (key : PickKey) → IsMemState a x → IsMemState (mem_stepped a x v e key) x
stepped_state a x v e key is = record {
  words = length-map-range_with_len (written_place a x v e) 0 (x.size * x.width);
  kept = length_each (next_kept a x v e key) 0 x.reads;
  bits = λ port r found. ap length (each_at_own (next_kept a x v e key) x.reads port r found) ∙ length-map-range_with_len (picked_bit key port (next_tri a.words x v e (kept_at a.kept port) r)) 0 (kept_width r);
  ports = is.ports;
}

-- the words after the writes
pub words_written : (a : MemLook) (x : Mem) (v : Valuation) (e : Event) (bases : List (Option ℕ)) (new : List Tri) → 1 ≤ x.width → length a.words ≡ x.size * x.width → length new ≡ length a.words → bases ≡ map (write_base x v e) x.writes → ((p : ℕ) → p < length new → tri_at new p ≡ written x.writes (base_hits x v p x.writes bases) (tri_at a.words p)) → new ≡ map (written_place a x v e) (range_with_len 0 (x.size * x.width))
words_written a x v e bases new some count long made each =
    fill_by_all (written_place a x v e) new (x.size * x.width) Any (long ∙ count) (λ k h.
    sym (tri_at_is new k) ∙ each k (omega (arith, h, long, count))
    ∙ ap (λ bs. written x.writes (base_hits x v k x.writes bs) (tri_at a.words k)) made
    ∙ ap (λ hs. written x.writes hs (tri_at a.words k)) (hits_are x e v k x.writes some))

pub kept_few : (r : RdPort) → kept_width r ≤ length r.out
kept_few r = by (is_clocked r.clock)
  where
    by : (b : Bool) → cond b (length r.out) 0 ≤ length r.out
    by true = omega arith
    by false = omega arith

pub state_made : (x : Mem) (key : PickKey) (words : List Tri) (kept : List (List Bool)) (ports : ℕ) → MemFits x → words ≡ x.init → kept ≡ each_read (read_start key) 0 x.reads → ports ≡ length x.writes → IsMemState (record { words = words; kept = kept; ports = ports }) x
state_made x key words kept ports fits e f g = subst (λ a. IsMemState a x) (λ i. record { words = sym e i; kept = sym f i; ports = sym g i }) (start_state x key fits)

pub step_made : (a : MemLook) (x : Mem) (v : Valuation) (e : Event) (key : PickKey) (words : List Tri) (kept : List (List Bool)) (ports : ℕ) → words ≡ map (written_place a x v e) (range_with_len 0 (x.size * x.width)) → kept ≡ each_read (next_kept a x v e key) 0 x.reads → ports ≡ a.ports → ◌≡◌ {A = MemLook} (record { words = words; kept = kept; ports = ports }) (mem_stepped a x v e key)
step_made a x v e key words kept ports f g h = λ i. record { words = f i; kept = g i; ports = h i }

pub front : {X : Type 0} (n : ℕ) (xs ys : List X) → length xs ≡ n → take n (xs ++ ys) ≡ xs
front zero [] ys e = refl
front zero (x ∷ xs) ys e = cc
front (suc n) [] ys e = cc
front (suc n) (x ∷ xs) ys e = ap (λ l. x ∷ l) (front n xs ys (omega (arith, e)))
