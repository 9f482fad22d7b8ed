use Rattle.std.proofs.Common.{refl, [], ◌∷◌, map, sym, ◌∙◌}
use Rattle.rtlil_text.specs.Grammar.{module_name}
use Rattle.doc_fits.specs.Tests.{are_new}
use Rattle.doc_fits.proofs.Taking.{turn, stop, done, one_is}
use Rattle.doc_fits.proofs.names.modules_are_new.Goals as goal

pub returns-then-not-branch : goal.returns-then-not-branch
returns-then-not-branch c =
    stop (λ m. module_name m ∷ []) (map module_name) (λ x xs. refl) c.loop-rest.names c.loop-rest.rest.now c.within-item.result c.in-len1-up.len_at_least c.within-item.is
    c.in_ok-add.field-0 (are_new [] (map module_name c.args.modules.now)) (c.in_ok-add.ensures.new ∙ sym (one_is c.loop-rest.names c.within-item.result.name)) c.if-not-branch.true c.loop-rest.invariant

pub loop-rest-preserved : goal.loop-rest-preserved
loop-rest-preserved c =
    turn (λ m. module_name m ∷ []) (map module_name) (λ x xs. refl) c.loop-rest.names c.loop-rest.rest.now c.within-item.result c.in-len1-up.len_at_least c.within-item.is
    c.add.new.self c.in_ok-add.field-0 (are_new [] (map module_name c.args.modules.now)) (c.in_ok-add.ensures.new ∙ sym (one_is c.loop-rest.names c.within-item.result.name)) c.in_ok-add.ensures.names c.if-not-branch.false c.loop-rest.invariant

pub returns : goal.returns
returns c = done (map module_name) c.loop-rest.names c.loop-rest.rest.now (are_new [] (map module_name c.args.modules.now)) refl c.in_default.len_below c.loop-rest.invariant
