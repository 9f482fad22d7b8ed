use Rattle.std.proofs.Common.{◌++◌, List, length}
use Rattle.rtlil_text.specs.Grammar.{All}
use Rattle.net_core.specs.declared.modules.Module.{Module}
use Rattle.net_build.specs.declared.fault.BuildFault.{BuildFault}
use Rattle.net_build.specs.Builds.{AreBuilt, FirstFails}
use Rattle.net_build.specs.Steps.{HasNewWires}
use Rattle.net_build.proofs.building.build_modules.Given as goal

abbrev pub invariant-loop-rest : goal.invariant-loop-rest
invariant-loop-rest l =
    ((more : List Module) → AreBuilt l.around.library.now l.around.modules.now l.rest more → AreBuilt l.around.library.now l.around.modules.now l.modules (l.built.items ++ more))
    × ((f : BuildFault) → FirstFails l.around.library.now l.around.modules.now l.rest f → FirstFails l.around.library.now l.around.modules.now l.modules f)
    × All HasNewWires l.rest

abbrev pub decreases-loop-rest : goal.decreases-loop-rest
decreases-loop-rest l = length l.rest
