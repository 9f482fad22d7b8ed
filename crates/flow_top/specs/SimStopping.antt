-- What sim has before it writes: the module that is simulated, or the status that it ends with.
use Rattle.std.specs.Prelude.{◌≡◌, ℕ, ⊤, Option}
use Rattle.flow_io.specs.Files.{Files}
use Rattle.flow_io.specs.Causes.{Rose}
use Rattle.sim_flow.specs.Simulates.{IsSubject}
use Rattle.flow_top.specs.Asked.{SimFiles, Sim}
use Rattle.flow_top.specs.Outcome.{HasLimitCause, HasRefusalCause}
use Rattle.flow_top.specs.Simulating.{SimReads}
use Rattle.flow_top.specs.declared.simulating.Subject.{Subject}
use Rattle.flow_top.specs.declared.status.Status.{Status}
use Rattle.flow_top.specs.declared.status.Status.TheVariants.{Ok, Usage, ReadFault, WriteFault, Design, Library, NoFit, Limit, Memory, Stimulus}

-- the library, and the module that is simulated of the document that was read
pub record SimFound (asked : SimFiles) (told : Option Files) (subject : Subject) : Type 0 where
  pub read : SimReads asked told
  pub library : subject.library ≡ read.lib
  pub is_subject : IsSubject read.lib read.doc subject.«module»

-- why the command stopped before it wrote
abbrev pub SimStopped : SimFiles → Option Files → ℕ → ℕ → Status → Type 0
SimStopped asked told before now Ok = ⊥
SimStopped asked told before now Usage = ⊥
SimStopped asked told before now WriteFault = ⊥
SimStopped asked told before now ReadFault = Rose before now
SimStopped asked told before now (Limit counts seen) = HasLimitCause (Sim asked) told (Limit counts seen)
SimStopped asked told before now (Design inside name line code) = HasRefusalCause (Sim asked) told (Design inside name line code)
SimStopped asked told before now (Library line code) = HasRefusalCause (Sim asked) told (Library line code)
SimStopped asked told before now (NoFit inside memory) = ⊥
SimStopped asked told before now Memory = ⊤
SimStopped asked told before now (Stimulus line code) = HasRefusalCause (Sim asked) told (Stimulus line code)
