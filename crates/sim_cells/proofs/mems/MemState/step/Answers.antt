use Rattle.std.proofs.Common.{◌*◌, map, length, ap, sym, subst, ◌∙◌}
use Rattle.std.specs.List.{range_with_len}
use Rattle.lib_core.specs.Rams.{tri_at}
use Rattle.net_core.specs.Memory.{written}
use Rattle.ram_step.specs.Moments.{valuation}
use Rattle.sim_cells.specs.Memories.{IsMemState, kept_at, port_bits, each_read, place_hits, next_tri, mem_stepped}
use Rattle.sim_cells.specs.KeptBits.{bit_lists}
use Rattle.sim_cells.proofs.MemStates.{front, stepped_state, step_made}
use Rattle.sim_cells.proofs.mems.MemState.step.Goals as goal

pub returns-clause-value : goal.returns-clause-value
returns-clause-value c =
    let i = c.self.inside in
    let x = c.args.mem.now in
    let v = valuation c.args.values.now in
    let e = c.args.event.now in
    let key = c.args.key.now in
    let new = c.step_parts.new in
    let parts = c.step_parts.ensures in
    let words = front i.words.len new.words _ (parts.word_count ∙ c.as_mut_slice.ensures.len) ∙ parts.words ∙ ap (λ ws. map (λ p. written x.writes (place_hits x v e p) (tri_at ws p)) (range_with_len 0 (x.size * x.width))) c.as_mut_slice.ensures.value in
    let kept = ap bit_lists (front i.kept.len new.kept _ (parts.count ∙ c.as_mut_slice-2.ensures.len)) ∙ parts.kept
    ∙ ap (λ ws. each_read (λ port r. port_bits key port r (next_tri ws x v e (kept_at (bit_lists c.as_mut_slice-2.result.now) port) r)) 0 x.reads) c.as_mut_slice.ensures.value
    ∙ ap (λ ks. each_read (λ port r. port_bits key port r (next_tri i.words.items x v e (kept_at (bit_lists ks) port) r)) 0 x.reads) c.as_mut_slice-2.ensures.value in
    let ports = ap length (front i.hits.len new.hits _ (parts.hits ∙ c.as_mut_slice-4.ensures.len)) ∙ parts.hits ∙ ap length c.as_mut_slice-4.ensures.value in
    step_made (record { words = i.words.items; kept = bit_lists i.kept.items; ports = length i.hits.items }) x v e key _ _ _ words kept ports ∙ ap (λ z. mem_stepped z x v e key) c.self.view_is

pub returns-clause-state : goal.returns-clause-state
returns-clause-state c =
    let x = c.args.mem.now in
    let v = valuation c.args.values.now in
    subst (λ z. IsMemState z x) (sym (returns-clause-value c)) (stepped_state c.args.self.now x v c.args.event.now c.args.key.now c.requires.state)
