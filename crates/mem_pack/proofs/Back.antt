-- What unpacks cells gives back each memory that was packed.
use Rattle.std.proofs.Common.{◌≡◌, Bool, true, false, None, Result, Ok, Err, ◌∙◌, sym, inl, inr}
use Rattle.net_core.specs.declared.mems.Mem.{Mem}
use Rattle.net_core.specs.declared.modules.MemPart.{MemPart}
use Rattle.mem_rows.specs.Limits.{whole_limit}
use Rattle.mem_rows.specs.declared.whole.WholeRow.{WholeRow}
use Rattle.mem_rows.proofs.Within.{within}
use Rattle.mem_collect.specs.declared.fault.CollectFault.{CollectFault}
use Rattle.mem_collect.specs.declared.fault.CollectCode.TheVariants as code
use Rattle.mem_collect.specs.Answers.{IsWhole, Says, UnpacksPart}
use Rattle.mem_pack.specs.Packed.{packed}
use Rattle.mem_pack.specs.Laws.{GivesBack, IsPackable, packed_row, UnpackOfPack}
use Rattle.mem_pack.proofs.Row.{packed_has_row}
use Rattle.mem_pack.proofs.Whole.{unpacked_is_there}
use Rattle.mem_pack.proofs.Within.{packed_is_within}

not_both : (b : Bool) → b ≡ false → b ≡ true → ⊥
not_both b f t = absurd (cc)

gives_back : (m : Mem) → IsPackable m → (result : Result Mem CollectFault) → UnpacksPart (packed m) result → GivesBack m result
gives_back m p (Ok found) u = (u (packed_row m) (packed_has_row m p)).1 ∙ sym (unpacked_is_there m p).1
gives_back m p (Err f) u =
    elim (u (packed_row m) (packed_has_row m p)) as (λ _. f.code ≡ code.Memory) [
      | inl e ↦ e
      | inr h ↦ absurd (not_both _ (unpacked_is_there m p).0 h.2)
    ]

pub unpack_of_pack : UnpackOfPack
unpack_of_pack m p r = ((packed_row m, packed_has_row m p, within (packed_row m) (packed_is_within m p r)), gives_back m p)

-- a cell is a memory within the limits where no limit is told of its row
pub whole_where_within : (part : MemPart) (row : WholeRow) → Says part row → whole_limit row ≡ None → IsWhole part
whole_where_within part row says none = (row, says, within row none)
