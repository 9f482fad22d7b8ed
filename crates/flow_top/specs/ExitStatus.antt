-- The exit status of the process at each end of a command.
use Rattle.std.specs.Prelude.{ℕ}
use Rattle.flow_top.specs.declared.status.Status.{Status}
use Rattle.flow_top.specs.declared.status.Status.TheVariants.{Ok, Usage, ReadFault, WriteFault, Design, Library, NoFit, Limit, Memory, Stimulus}

abbrev pub exit_of : Status → ℕ
exit_of Ok = 0
exit_of Usage = 2
exit_of ReadFault = 3
exit_of WriteFault = 4
exit_of (Design inside name line code) = 5
exit_of (Library line code) = 6
exit_of (NoFit inside memory) = 7
exit_of (Limit counted seen) = 8
exit_of Memory = 9
exit_of (Stimulus line code) = 10
