-- The status that a desk's fault ends a command with.
use Rattle.std.specs.Prelude.{⊤}
use Rattle.flow_io.specs.declared.desk.DeskFault.{DeskFault}
use Rattle.flow_io.specs.declared.desk.DeskFault.TheVariants.{Failed, TooLong, Memory}
use Rattle.flow_top.specs.declared.status.Counted.TheVariants as counted
use Rattle.flow_top.specs.declared.status.Status.{Status}
use Rattle.flow_top.specs.declared.status.Status.TheVariants as status

abbrev pub status_of_read : DeskFault → Status
status_of_read Failed = status.ReadFault
status_of_read (TooLong seen) = status.Limit counted.File seen
status_of_read Memory = status.Memory

abbrev pub status_of_write : DeskFault → Status
status_of_write Failed = status.WriteFault
status_of_write (TooLong seen) = status.Limit counted.File seen
status_of_write Memory = status.Memory

-- a write is never too long
abbrev pub FaultIsOfWrite : DeskFault → Type 0
FaultIsOfWrite Failed = ⊤
FaultIsOfWrite (TooLong seen) = ⊥
FaultIsOfWrite Memory = ⊤
