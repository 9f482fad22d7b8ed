use Rattle.std.proofs.Common.{refl, [], ◌∷◌, map}
use Rattle.stim_text.proofs.Rooting.{turn, done}
use Rattle.stim_text.proofs.roots.Roots.add_slots.Goals as goal

pub loop-rest-preserved : goal.loop-rest-preserved
loop-rest-preserved c = turn (λ s. s.clock ∷ []) (map (λ s. s.clock)) (λ x xs. refl) c.loop-rest.self c.add.new.self _ c.loop-rest.rest.now c.slot-item.result c.in-len1-up.len_at_least c.slot-item.is c.in_ok-add.ensures c.loop-rest.invariant

pub returns : goal.returns
returns c = done (λ s. s.clock ∷ []) (map (λ s. s.clock)) (λ x xs. refl) c.loop-rest.self _ c.loop-rest.rest.now refl c.in_default.len_below c.loop-rest.invariant
