-- What a register keeps and shows in a simulation: its meaning (Cells of net_core), with a value picked wherever any would do.
use Rattle.std.specs.Prelude.{ℕ, Bool, List, map, length, slice_index, slice_index_or}
use Rattle.std.specs.List.{range_with_len}
use Rattle.lib_core.specs.declared.library.Tri.{Tri}
use Rattle.lib_core.specs.Rams.{tri_at}
use Rattle.net_core.specs.declared.bits.Bit.TheVariants.{Zero as Low}
use Rattle.net_core.specs.declared.bits.Event.{Event}
use Rattle.net_core.specs.declared.cells.Reg.{Reg}
use Rattle.net_core.specs.Values.{Valuation, bit_at}
use Rattle.net_core.specs.Cells.{reg_shows, reg_next}
use Rattle.ram_step.specs.declared.picks.PickKey.{PickKey}
use Rattle.ram_step.specs.Picks.{start_key}
use Rattle.ram_step.specs.Moments.{inputs_alone, moment_of}
use Rattle.sim_cells.specs.Choices.{taken}

-- one bit for each bit of Q
abbrev pub reg_kept : Reg → (ℕ → Bool) → List Bool
reg_kept r bits = map bits (range_with_len 0 (length r.q))

-- the bits at the start; the event of the key counts for nothing
abbrev pub reg_start : Reg → PickKey → List Bool
reg_start r key = reg_kept r (λ k. taken (start_key key) k (tri_at r.init k))

-- what a register that keeps these bits shows at a place
abbrev pub reg_shown : Reg → Valuation → PickKey → List Bool → ℕ → Bool
reg_shown r v key kept k = taken key k (reg_shows r v (bit_at kept) k)

abbrev pub reg_next_tri : Reg → Valuation → Event → List Bool → ℕ → Tri
reg_next_tri r v e kept k = reg_next (inputs_alone e) r (moment_of e) v (bit_at kept) k (slice_index r.q k) (slice_index_or r.d k Low)

-- the bits after an event
abbrev pub reg_stepped : Reg → Valuation → Event → PickKey → List Bool → List Bool
reg_stepped r v e key kept = reg_kept r (λ k. taken key k (reg_next_tri r v e kept k))
