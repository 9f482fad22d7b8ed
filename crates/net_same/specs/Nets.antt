-- What tables of nets say: to which new net an old one was sent, and which old net a new one was.
use Rattle.std.specs.Prelude.{ℕ, ◌+◌, ◌-◌, cond, nat_lt, length, Option, Some, None, slice_get, unwrap_or}
use Rattle.net_same.specs.declared.tables.Tables.{Tables}

-- an entry that names a net is that net; a net without one is sent past all of them
abbrev pub sent_to : ℕ → ℕ → Option ℕ → ℕ
sent_to nets n None = nets + n
sent_to nets n (Some x) = cond (nat_lt x nets) x (nets + n)

abbrev pub sent : Tables → ℕ → ℕ
sent t n = sent_to (length t.back.items) n (slice_get t.forth.items n)

-- the old net of a new one
abbrev pub told_back : Tables → ℕ → ℕ
told_back t x = cond (nat_lt x (length t.back.items)) (unwrap_or (slice_get t.back.items x) 0) (x - length t.back.items)
