-- What map has before it writes: the texts, or the status that it ends with.
use Rattle.std.specs.Prelude.{ℕ, ⊤, Option}
use Rattle.flow_io.specs.Files.{Files}
use Rattle.flow_io.specs.Causes.{Rose}
use Rattle.flow_top.specs.Asked.{MapFiles, Map}
use Rattle.map_flow.specs.Maps.{IsMapped}
use Rattle.flow_top.specs.Outcome.{MapReads, HasLimitCause, HasRefusalCause}
use Rattle.map_flow.specs.declared.map.Made.{Made}
use Rattle.flow_top.specs.declared.status.Status.{Status}
use Rattle.flow_top.specs.declared.status.Status.TheVariants.{Ok, Usage, ReadFault, WriteFault, Design, Library, NoFit, Limit, Memory, Stimulus}

-- the texts of the design and the library that were read
pub record Prepared (asked : MapFiles) (told : Option Files) (made : Made) : Type 0 where
  pub read : MapReads asked told
  pub maps : IsMapped read.doc read.lib made

-- why the command stopped before it wrote
abbrev pub Stopped : MapFiles → Option Files → ℕ → ℕ → Status → Type 0
Stopped asked told before now Ok = ⊥
Stopped asked told before now Usage = ⊥
Stopped asked told before now WriteFault = ⊥
Stopped asked told before now ReadFault = Rose before now
Stopped asked told before now (Limit counts seen) = HasLimitCause (Map asked) told (Limit counts seen)
Stopped asked told before now (Design inside name line code) = HasRefusalCause (Map asked) told (Design inside name line code)
Stopped asked told before now (Library line code) = HasRefusalCause (Map asked) told (Library line code)
Stopped asked told before now (NoFit inside memory) = HasRefusalCause (Map asked) told (NoFit inside memory)
Stopped asked told before now Memory = ⊤
Stopped asked told before now (Stimulus line code) = ⊥
