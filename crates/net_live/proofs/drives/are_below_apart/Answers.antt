use Rattle.std.proofs.Common.{◌≡◌, ◌<◌, length, false, Some, rules, refl, ap, ◌∙◌, slice_index_or}
use Rattle.std.proofs.lemmas.Option.{slice_get-get_or}
use Rattle.net_live.proofs.Seen.{one_seen, all_seen}
use Rattle.net_live.proofs.drives.are_below_apart.Goals as goal

pub loop-net-preserved : goal.loop-net-preserved
loop-net-preserved c =
    let nets = c.args.nets.now in
    let seen = c.loop-net.seen.items in
    let net = slice_index_or nets c.loop-net.net-index 0 in
    let here = slice_get-get_or nets c.loop-net.net-index 0 (search rules) in
    let within : net < length seen = search rules in
    let unmarked : slice_index_or seen net false ≡ false = search rules in
    one_seen c.args.limit nets c.loop-net.net-index seen net c.loop-net.invariant here within (slice_get-get_or seen net false within ∙ ap (λ b. Some b) unmarked)

pub returns : goal.returns
returns c = (λ _. all_seen c.args.limit c.args.nets.now c.loop-net.net-index c.loop-net.seen.items (search rules) c.loop-net.invariant, λ _. refl)
