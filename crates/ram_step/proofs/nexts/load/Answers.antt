use Rattle.std.proofs.Common.{◌+◌, ◌<◌, ap, sym, ◌∙◌, arith, length}
use Rattle.lib_core.specs.Rams.{lies}
use Rattle.net_core.specs.Ram.{word_of}
use Rattle.row_store.specs.Rows.{row_of, bit_of}
use Rattle.ram_step.specs.Ports.{slot_of}
use Rattle.ram_step.specs.Hits.{hit_bits}
use Rattle.ram_step.specs.Moments.{valuation}
use Rattle.ram_step.specs.Nexts.{takes}
use Rattle.ram_step.proofs.nexts.load.Goals as goal

pub returns-clause-bits : goal.returns-clause-bits
returns-clause-bits g c = λ kept k inside.
    let s = slot_of c.args.port.now in
    let x = c.args.ports.now.variant in
    let all = c.args.ports.now.all in
    let rows = c.args.rows.now in
    let hits = c.args.hits.now in
    let start = c.start-start.result in
    let j = start.bit + k in
    let at = c.start-start.ensures.bits k in
    let long = c.requires.words.widths start.word c.start-start.ensures.words in
    let below : j < length (row_of rows start.word) = omega (arith, long, c.start-start.ensures.room, inside) in
    c.taken-row.ensures j
    ∙ ap (takes c.args.only s all (hit_bits hits start.word j)) (c.row.ensures j below)
    ∙ ap (λ w. takes c.args.only s all (hit_bits hits w j) (bit_of rows w j)) (sym at.row)
    ∙ ap (λ i. takes c.args.only s all (hit_bits hits (lies x s.pins.level (word_of (valuation c.args.values.now) s) k).0 i) (bit_of rows (lies x s.pins.level (word_of (valuation c.args.values.now) s) k).0 i)) (sym at.place)
