use Rattle.std.proofs.Common.{◌≡◌, ◌+◌, ◌<◌, length, sym, ap, subst, ◌∙◌}
use Rattle.std.specs.List.{sum_by}
use Rattle.net_core.specs.declared.mems.Mem.{Mem}
use Rattle.net_core.specs.declared.rams.RamCell.{RamCell}
use Rattle.net_live.proofs.Needing.{nodes_counted, many_reads, many_slots}
use Rattle.net_live.proofs.needs.room_left.Goals as goal

pub returns-in_err-room-3-clause-full : goal.returns-in_err-room-3-clause-full
returns-in_err-room-3-clause-full c = λ h.
    let m = c.args.module.now in
    let first = c.in_ok-room.room in
    let second = c.in_ok-room-2.room in
    let a : length m.combs + first ≡ 4294967295 = ap (λ xs. length xs + first) (sym c.as_slice.ensures) ∙ c.without.ensures.left first c.in_ok-room.was in
    let b : length m.regs + second ≡ first = ap (λ xs. length xs + second) (sym c.as_slice-2.ensures) ∙ c.without-2.ensures.left second c.in_ok-room-2.was in
    let more = subst (λ xs. second < sum_by (λ (x : Mem). length x.reads) xs) c.as_slice-3.ensures (c.without_reads.ensures.full c.in_err-room-3.was) in
    many_reads m 4294967295 first second a b more

pub returns-clause-left : goal.returns-clause-left
returns-clause-left c = λ left h.
    let m = c.args.module.now in
    let first = c.in_ok-room.room in
    let second = c.in_ok-room-2.room in
    let third = c.in_ok-room-3.room in
    let a : length m.combs + first ≡ 4294967295 = ap (λ xs. length xs + first) (sym c.as_slice.ensures) ∙ c.without.ensures.left first c.in_ok-room.was in
    let b : length m.regs + second ≡ first = ap (λ xs. length xs + second) (sym c.as_slice-2.ensures) ∙ c.without-2.ensures.left second c.in_ok-room-2.was in
    let d : sum_by (λ (x : Mem). length x.reads) m.mems + third ≡ second = ap (λ xs. sum_by (λ (x : Mem). length x.reads) xs + third) (sym c.as_slice-3.ensures) ∙ c.without_reads.ensures.left third c.in_ok-room-3.was in
    let e : sum_by (λ (x : RamCell). length x.slots) m.rams + left ≡ third = ap (λ xs. sum_by (λ (x : RamCell). length x.slots) xs + left) (sym c.as_slice-4.ensures) ∙ c.without_slots.ensures.left left h in
    nodes_counted m 4294967295 first second third left a b d e

pub returns-clause-full : goal.returns-clause-full
returns-clause-full c = λ h.
    let m = c.args.module.now in
    let first = c.in_ok-room.room in
    let second = c.in_ok-room-2.room in
    let third = c.in_ok-room-3.room in
    let a : length m.combs + first ≡ 4294967295 = ap (λ xs. length xs + first) (sym c.as_slice.ensures) ∙ c.without.ensures.left first c.in_ok-room.was in
    let b : length m.regs + second ≡ first = ap (λ xs. length xs + second) (sym c.as_slice-2.ensures) ∙ c.without-2.ensures.left second c.in_ok-room-2.was in
    let d : sum_by (λ (x : Mem). length x.reads) m.mems + third ≡ second = ap (λ xs. sum_by (λ (x : Mem). length x.reads) xs + third) (sym c.as_slice-3.ensures) ∙ c.without_reads.ensures.left third c.in_ok-room-3.was in
    let more = subst (λ xs. third < sum_by (λ (x : RamCell). length x.slots) xs) c.as_slice-4.ensures (c.without_slots.ensures.full h) in
    many_slots m 4294967295 first second third a b d more
