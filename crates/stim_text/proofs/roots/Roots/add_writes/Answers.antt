use Rattle.std.proofs.Common.{refl, [], ◌∷◌, map}
use Rattle.stim_text.proofs.Rooting.{turn, done}
use Rattle.stim_text.proofs.roots.Roots.add_writes.Goals as goal

pub loop-rest-preserved : goal.loop-rest-preserved
loop-rest-preserved c = turn (λ w. w.clock ∷ []) (map (λ w. w.clock)) (λ x xs. refl) c.loop-rest.self c.add.new.self _ c.loop-rest.rest.now c.write-item.result c.in-len1-up.len_at_least c.write-item.is c.in_ok-add.ensures c.loop-rest.invariant

pub returns : goal.returns
returns c = done (λ w. w.clock ∷ []) (map (λ w. w.clock)) (λ x xs. refl) c.loop-rest.self _ c.loop-rest.rest.now refl c.in_default.len_below c.loop-rest.invariant
