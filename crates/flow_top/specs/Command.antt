-- What a parsed command asks for.
use Rattle.flow_top.specs.Asked.{Asked, MapFiles, Map as AskedMap, FmtFiles, Fmt as AskedFmt, SimFiles, Sim as AskedSim}
use Rattle.flow_top.specs.declared.command.Command.{Command}
use Rattle.flow_top.specs.declared.command.Command.TheVariants.{Map, Fmt, Sim}
use Rattle.flow_top.specs.declared.command.MapCommand.{MapCommand}
use Rattle.flow_top.specs.declared.command.FmtCommand.{FmtCommand}
use Rattle.flow_top.specs.declared.command.SimCommand.{SimCommand}

abbrev pub files_of : MapCommand → MapFiles
files_of command = record {
  design = command.design.now;
  library = command.library.now;
  inferred = command.inferred.now;
  netlist = command.netlist.now;
  report = command.report.now;
  workers = command.workers;
}

abbrev pub fmt_files_of : FmtCommand → FmtFiles
fmt_files_of command = record { design = command.design.now; out = command.out.now }

abbrev pub sim_files_of : SimCommand → SimFiles
sim_files_of command = record {
  netlist = command.netlist.now;
  library = command.library.now;
  stimulus = command.stimulus.now;
  trace = command.trace.now;
  seeds = command.seeds;
}

abbrev pub asked_by : Command → Asked
asked_by (Map command) = AskedMap (files_of command)
asked_by (Fmt command) = AskedFmt (fmt_files_of command)
asked_by (Sim command) = AskedSim (sim_files_of command)
