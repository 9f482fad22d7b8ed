-- Runs of a memory by picks, and the law that its meaning allows them.
use Rattle.std.specs.Prelude.{◌≡◌, ℕ, suc, List, map, Some, slice_get}
use Rattle.net_core.specs.declared.bits.Event.{Event}
use Rattle.net_core.specs.declared.mems.Mem.{Mem}
use Rattle.net_core.specs.declared.mems.RdPort.{RdPort}
use Rattle.net_core.specs.Values.{Wave}
use Rattle.net_core.specs.Memory.{MemAllows}
use Rattle.net_core.specs.Ports.{happening_of}
use Rattle.net_core.specs.Valid.{MemFits}
use Rattle.ram_step.specs.declared.picks.PickKey.{PickKey}
use Rattle.ram_step.specs.Runs.{EdgesAreInputs}
use Rattle.sim_cells.specs.Memories.{MemLook, mem_start, mem_stepped, read_shown}

-- states one after the other, and a wave that shows what they show
pub record MemoryRun (x : Mem) (key : ℕ → PickKey) (events : List Event) (v : Wave) : Type 0 where
  pub state : ℕ → MemLook
  pub starts : state 0 ≡ mem_start x (key 0)
  pub steps : (t : ℕ) (e : Event) → slice_get events t ≡ Some e → state (suc t) ≡ mem_stepped (state t) x (v t) e (key t)
  pub shows : (t : ℕ) (e : Event) → slice_get events t ≡ Some e → (port : ℕ) (r : RdPort) → slice_get x.reads port ≡ Some r → (k net : ℕ) → slice_get r.out k ≡ Some net → v t net ≡ read_shown (state t) x (v t) (key t) port r k

-- The law: a run by picks, whatever the keys, is one that the memory allows.
abbrev pub MemoryRunIsAllowed : Type 0
MemoryRunIsAllowed =
    (inputs : List ℕ) (x : Mem) (key : ℕ → PickKey) (events : List Event) (v : Wave) → MemFits x → EdgesAreInputs inputs events → MemoryRun x key events v → MemAllows inputs x (map (happening_of inputs) events) v
