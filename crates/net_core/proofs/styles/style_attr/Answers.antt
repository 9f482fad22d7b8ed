use Rattle.std.proofs.Common.{◌<◌, ap, arith, length}
use Rattle.net_core.proofs.StyleLemmas.{names_of_written}
use Rattle.net_core.proofs.styles.style_attr.Goals as goal

pub returns-in-len1-up : goal.returns-in-len1-up
returns-in-len1-up c =
    let some : 0 < length c.args.mem.now.writes = omega (arith, ap length c.as_slice.ensures, c.in-len1-up.len_at_least) in
    let names = names_of_written c.args.mem.now.writes some in
    let found = c.ram_attr.ensures in
    let attrs = c.as_slice-attrs.ensures in
    cc
