use Rattle.std.proofs.Common.{◌∙◌, ◌+◌, [], ◌∷◌, ◌++◌, map, ap}
use Rattle.net_wires.specs.declared.clock.ClockRoot.TheVariants.{Never}
use Rattle.net_wires.specs.Links.{links_of}
use Rattle.raw_cells.specs.Tied.{digits_of, end_bit, end_root, link_roots}
use Rattle.raw_cells.proofs.Ends.{bits_are, roots_are, two_behind}
use Rattle.raw_cells.proofs.tied.tied_of.Goals as goal

pub returns : goal.returns
returns c =
    let f = c.in_ok-followed.followed in
    let n = c.args.count in
    let ps = c.args.pairs.now in
    let places = two_behind _ _ _ _ _ _ (c.in_ok-places.ensures ∙ ap (map end_bit) c.as_slice.ensures ∙ bits_are n ps f c.requires.within c.in_ok-followed.ensures.follows) c.in_ok-push.ensures.items c.in_ok-push-2.ensures.items in
    let roots = two_behind _ _ _ _ _ _ (c.in_ok-roots.ensures ∙ (λ i. map (end_root n (c.as_slice-2.ensures.value i)) (c.as_slice-3.ensures i)) ∙ roots_are n ps f c.in_ok-digits.digits.items c.requires.within c.in_ok-followed.ensures.follows c.in_ok-digits.ensures) c.in_ok-push-3.ensures.items c.in_ok-push-4.ensures.items ∙ ap (λ r. link_roots (links_of n ps) n (digits_of n ps) ++ r ∷ Never ∷ []) c.some_root.ensures in
    λ i. record { left_out = n; digit = n + 1; places = (c.from_vec.ensures ∙ places) i; roots = (c.from_vec-2.ensures ∙ roots) i }
