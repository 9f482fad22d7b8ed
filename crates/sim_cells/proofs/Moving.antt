-- The next bit of a register by what it keeps there.
use Rattle.std.proofs.Common.{◌≡◌, ℕ, Bool, List, ap}
use Rattle.net_core.specs.declared.bits.Bit.{Bit}
use Rattle.net_core.specs.declared.cells.Reg.{Reg}
use Rattle.net_core.specs.Values.{Valuation, Happening}
use Rattle.net_core.specs.Cells.{reg_next}

pub reg_next_same : (inputs : List ℕ) (r : Reg) (e : Happening) (v : Valuation) (kept other : ℕ → Bool) (k q : ℕ) (d : Bit) → kept k ≡ other k → reg_next inputs r e v kept k q d ≡ reg_next inputs r e v other k q d
reg_next_same inputs r e v kept other k q d h = ap (λ b. reg_next inputs r e v (λ j. b) k q d) h
