use Rattle.std.proofs.Common.{refl, [], ◌∷◌, map}
use Rattle.stim_text.proofs.Rooting.{turn, done}
use Rattle.stim_text.proofs.roots.Roots.add_regs.Goals as goal

pub loop-rest-preserved : goal.loop-rest-preserved
loop-rest-preserved c = turn (λ r. r.clock ∷ []) (map (λ r. r.clock)) (λ x xs. refl) c.loop-rest.self c.add.new.self _ c.loop-rest.rest.now c.reg-item.result c.in-len1-up.len_at_least c.reg-item.is c.in_ok-add.ensures c.loop-rest.invariant

pub returns : goal.returns
returns c = done (λ r. r.clock ∷ []) (map (λ r. r.clock)) (λ x xs. refl) c.loop-rest.self _ c.loop-rest.rest.now refl c.in_default.len_below c.loop-rest.invariant
