use Rattle.std.proofs.Common.{◌≡◌, ◌+◌, ◌<◌, ◌^◌, length, map}
use Rattle.std.specs.List.{list_all}
use Rattle.net_core.specs.Valid.{is_one_digit}
use Rattle.mem_rows.specs.Groups as groups
use Rattle.mem_rows.proofs.groups.are_groups_from.Given as goal

abbrev pub invariant-loop-rest : goal.invariant-loop-rest
invariant-loop-rest l =
    (list_all groups.is_group (groups.sizes_from l.here (map is_one_digit l.rest)) ≡ list_all groups.is_group (groups.sizes_from l.fn.first (map is_one_digit l.fn.bits)))
    × (l.here + length l.rest < 2 ^ 64)

abbrev pub decreases-loop-rest : goal.decreases-loop-rest
decreases-loop-rest l = length l.rest
