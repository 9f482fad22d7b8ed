-- When each fault of a desk comes.
use Rattle.std.specs.Prelude.{◌≡◌, ℕ, ◌+◌, ◌-◌, ◌^◌, ◌<◌, ◌≤◌, min, List, ⊤}
use Rattle.std.specs.declared.option.Option.{Option}
use Rattle.flow_io.specs.Files.{Files, HasAtLeast, HoldsPart}
use Rattle.flow_io.specs.declared.desk.DeskFault.{DeskFault}
use Rattle.flow_io.specs.declared.desk.DeskFault.TheVariants.{Failed, TooLong, Memory}

-- one more, up to the greatest number of 64 bits
abbrev pub raised : ℕ → ℕ
raised count = min (count + 1) (2 ^ 64 - 1)

-- a count is higher than before, or stands at the greatest number
abbrev pub Rose : ℕ → ℕ → Type 0
Rose before now = raised before ≤ now

-- why a read gave nothing; want of memory is free
abbrev pub ReadCause : Option Files → List ℕ → ℕ → ℕ → ℕ → DeskFault → Type 0
ReadCause told name limit before now Failed = Rose before now
ReadCause told name limit before now (TooLong seen) = (limit < seen) × HasAtLeast told name seen
ReadCause told name limit before now Memory = ⊤

-- why a write failed, and what it left; a write is never too long
abbrev pub WriteCause : Option Files → Option Files → List ℕ → List ℕ → ℕ → ℕ → DeskFault → Type 0
WriteCause old new name bytes before now Failed = Rose before now × HoldsPart old new name bytes
WriteCause old new name bytes before now (TooLong seen) = ⊥
WriteCause old new name bytes before now Memory = new ≡ old

-- what was seen of a file that is too long is above the limit
abbrev pub PassesLimit : ℕ → DeskFault → Type 0
PassesLimit limit Failed = ⊤
PassesLimit limit (TooLong seen) = limit < seen
PassesLimit limit Memory = ⊤
