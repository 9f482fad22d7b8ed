use Rattle.std.proofs.Common.{◌≡◌, ◌++◌, ℕ, List, [], Some, get_or, sym, ap, ◌∙◌, arith}
use Rattle.std.specs.Prelude.{slice_get, unwrap_or}
use Rattle.std.proofs.lemmas.Option.{slice_get-get_or, get_or_from_slice_get}
use Rattle.net_core.proofs.Wired.{flat_more}
use Rattle.net_loops.proofs.Turning.{row_read}
use Rattle.net_loops.proofs.rows.drivers_of.Goals as goal

pub loop-net-preserved : goal.loop-net-preserved
loop-net-preserved c =
    let nets = c.args.nets.now in
    let at = c.loop-net.net-index in
    let net = get_or nets at 0 in
    let is_net : slice_get nets at ≡ Some net = slice_get-get_or nets at 0 (omega arith) in
    let Row : ℕ → List ℕ = λ n. unwrap_or (slice_get c.args.drivers.now n) [] in
    let row : Row net ≡ c.index-drivers-net.result = row_read c.args.drivers.now c.index-drivers-net.result net (c.requires at net is_net) c.index-drivers-net.is in
    let pushed : c.extend_from_slice.new.self.items ≡ c.loop-net.row.items ++ Row net = c.in_ok-extend_from_slice.ensures.items ∙ ap (λ r. c.loop-net.row.items ++ r) (c.as_slice.ensures ∙ sym row) in
    flat_more Row nets at net c.loop-net.row.items c.extend_from_slice.new.self.items _ (omega arith) (sym (get_or_from_slice_get nets at net net is_net)) pushed c.loop-net.invariant
