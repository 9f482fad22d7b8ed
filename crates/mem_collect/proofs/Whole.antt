-- A cell is a memory within the limits where no limit is told of its row.
use Rattle.std.proofs.Common.{◌≡◌, true, Option, Some, None}
use Rattle.net_core.specs.declared.modules.MemPart.{MemPart}
use Rattle.mem_rows.specs.Limits.{whole_limit}
use Rattle.mem_rows.specs.declared.whole.WholeRow.{WholeRow}
use Rattle.mem_rows.proofs.Within.{within}
use Rattle.mem_collect.specs.Answers.{IsWhole, Says}

pub whole_where_within : (part : MemPart) (row : WholeRow) → Says part row → whole_limit row ≡ None → IsWhole part
whole_where_within part row says none = (row, says, within row none)
