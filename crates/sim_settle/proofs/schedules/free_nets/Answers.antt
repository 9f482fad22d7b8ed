use Rattle.std.proofs.Common.{◌≡◌, length, false, ap, ◌∙◌, arith}
use Rattle.net_core.specs.Values.{bit_at}
use Rattle.sim_settle.proofs.Marking.{front, none_set, none_long}
use Rattle.sim_settle.proofs.schedules.free_nets.Goals as goal

pub returns-clause-all : goal.returns-clause-all
returns-clause-all c = λ n lt free.
    let driven = c.in_ok-driven.driven in
    let new = c.mark_driven.new.marks in
    let long : length new ≡ driven.len = omega (arith, c.as_mut_slice.ensures.len) in
    let first : bit_at c.as_mut_slice.result.now n ≡ false = ap (λ l. bit_at l n) c.as_mut_slice.ensures.value ∙ none_set driven.items c.args.«module».now.nets n c.in_ok-driven.ensures in
    let same = c.as_slice.ensures.value ∙ front driven.len new _ long in
    let clear : bit_at c.as_slice.result.now n ≡ false = ap (λ l. bit_at l n) same ∙ c.mark_driven.ensures n free ∙ first in
    let end = ap length same in
    let read = ap length c.as_mut_slice.ensures.value in
    let all = none_long driven.items c.args.«module».now.nets c.in_ok-driven.ensures in
    c.in_ok-nets.ensures.all n (omega (arith, lt, long, end, read, all, c.as_mut_slice.ensures.len)) clear
