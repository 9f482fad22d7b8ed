use Rattle.std.proofs.Common.{refl, ap, ◌∙◌, map}
use Rattle.std.specs.List.{flat_map}
use Rattle.net_core.specs.Ports.{ram_clocks}
use Rattle.stim_text.specs.Inputs.{with_roots}
use Rattle.stim_text.proofs.Rooting.{turn, done}
use Rattle.stim_text.proofs.roots.Roots.add_rams.Goals as goal

pub loop-rest-preserved : goal.loop-rest-preserved
loop-rest-preserved c = turn ram_clocks (flat_map ram_clocks) (λ x xs. refl) c.loop-rest.self c.add_slots.new.self _ c.loop-rest.rest.now c.ram-item.result c.in-len1-up.len_at_least c.ram-item.is (c.in_ok-add_slots.ensures ∙ ap (λ ss. with_roots c.loop-rest.self (map (λ s. s.clock) ss)) c.as_slice.ensures) c.loop-rest.invariant

pub returns : goal.returns
returns c = done ram_clocks (flat_map ram_clocks) (λ x xs. refl) c.loop-rest.self _ c.loop-rest.rest.now refl c.in_default.len_below c.loop-rest.invariant
