-- How the desk of the host's files counts what failed.
use Rattle.std.specs.Prelude.{ℕ, Bool, true, false, if◌then◌else◌, Result, Ok, Err}
use Rattle.flow_io.specs.Causes.{raised}
use Rattle.flow_io.specs.declared.desk.DeskFault.{DeskFault}
use Rattle.flow_io.specs.declared.desk.DeskFault.TheVariants.{Failed, TooLong, Memory}

pub record Counts : Type 0 where
  pub read_faults : ℕ
  pub write_faults : ℕ

-- the call answered that it failed
abbrev pub failed : {A : Type 0} → Result A DeskFault → Bool
failed (Ok answer) = false
failed (Err Failed) = true
failed (Err (TooLong seen)) = false
failed (Err Memory) = false

abbrev pub after_host_read : {A : Type 0} → Counts → Result A DeskFault → Counts
after_host_read counts answer = record counts { read_faults = if failed answer then raised counts.read_faults else counts.read_faults }

abbrev pub after_host_write : {A : Type 0} → Counts → Result A DeskFault → Counts
after_host_write counts answer = record counts { write_faults = if failed answer then raised counts.write_faults else counts.write_faults }
