-- What passes no limit is within them.
use Rattle.std.proofs.Common.{◌≡◌, ℕ, ◌+◌, ◌*◌, ◌≤◌, Bool, true, false, nat_lt, ◌||◌, Option, Some, None, refl}
use Rattle.std.specs.Prelude.{if◌then◌else◌}
use Rattle.std.proofs.lemmas.Bool.{ltb-false}
use Rattle.mem_rows.specs.declared.whole.WholeRow.{WholeRow}
use Rattle.mem_rows.specs.Limits.{IsWithin, NoLimitIsWithin, first_of, whole_limit}

record NonePassed (a b c d e f : Bool) : Type 0 where
  pub a_not : a ≡ false
  pub b_not : b ≡ false
  pub c_not : c ≡ false
  pub d_not : d ≡ false
  pub e_not : e ≡ false
  pub f_not : f ≡ false

none_passed : (a b c d e f : Bool) → first_of (if a then Some 1048577 else (if b then Some 1025 else (if c then Some 4194305 else None))) (if d then Some 33 else (if e || f then Some 65 else None)) ≡ None → NonePassed a b c d e f
none_passed true b c d e f h = absurd (cc)
none_passed false true c d e f h = absurd (cc)
none_passed false false true d e f h = absurd (cc)
none_passed false false false true e f h = absurd (cc)
none_passed false false false false true f h = absurd (cc)
none_passed false false false false false true h = absurd (cc)
none_passed false false false false false false h = record { a_not = refl; b_not = refl; c_not = refl; d_not = refl; e_not = refl; f_not = refl }

pub within : NoLimitIsWithin
within row h =
    let p : NonePassed (nat_lt 1048576 (row.offset + row.size)) (nat_lt 1024 row.width) (nat_lt 4194304 (row.size * row.width)) (nat_lt 32 row.abits) (nat_lt 64 row.reads) (nat_lt 64 row.writes) = none_passed _ _ _ _ _ _ h in
    record {
      addresses = ltb-false _ _ p.a_not;
      width = ltb-false _ _ p.b_not;
      bits = ltb-false _ _ p.c_not;
      abits = ltb-false _ _ p.d_not;
      reads = ltb-false _ _ p.e_not;
      writes = ltb-false _ _ p.f_not;
    }
