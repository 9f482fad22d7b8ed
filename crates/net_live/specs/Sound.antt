-- A module that is sound: its memories are whole and fit, its nets are its own and have at most one driver each, its slots read
-- as their kinds do, and its nodes have a combinational order. Such a module has a run, whatever happens to it.
use Rattle.std.specs.Prelude.{◌≡◌, ◌<◌, ◌^◌, ◌&&◌, Bool, [], length}
use Rattle.std.specs.List.{list_all}
use Rattle.lib_core.specs.declared.library.Library.{Library}
use Rattle.net_core.specs.declared.modules.Module.{Module}
use Rattle.net_core.specs.declared.modules.Design.{Design}
use Rattle.net_core.specs.Nodes.{nodes_of, NetsWithin, Ordered}
use Rattle.net_core.specs.Drivers.{HasOneDriver}
use Rattle.net_core.specs.Ports.{inputs_of}
use Rattle.net_core.specs.Runs.{ReadsAgree, Live, IsLive}
use Rattle.net_core.specs.Valid.{Each, MemFits}
use Rattle.net_live.specs.Fitting.{is_empty, mem_fits}
use Rattle.net_live.specs.Slots.{cell_agrees}

pub record IsSound (lib : Library) (m : Module) : Type 0 where
  pub no_parts : m.parts ≡ []
  pub no_declared : m.declared ≡ []
  pub mems : Each m.mems MemFits
  pub within : NetsWithin m
  pub one_driver : HasOneDriver m
  pub reads_agree : ReadsAgree lib m
  pub ordered : Ordered m

-- the inputs are nets of the module
abbrev pub InputsWithin : Module → Type 0
InputsWithin m = Each (inputs_of m) (λ n. n < m.nets)

-- A module of which the test answers yes: it is sound, numbers of 32 bits can name its nodes, and its inputs are nets of its
-- own.
pub record IsTestable (lib : Library) (m : Module) : Type 0 where
  pub sound : IsSound lib m
  pub few : length (nodes_of m) < 2 ^ 32
  pub inputs : InputsWithin m

-- What the tests look at one after the other: the parts of the module by themselves, and its nets.
pub record IsFormed (lib : Library) (m : Module) : Type 0 where
  pub no_parts : m.parts ≡ []
  pub no_declared : m.declared ≡ []
  pub mems : Each m.mems MemFits
  pub reads_agree : ReadsAgree lib m

pub record IsWired (m : Module) : Type 0 where
  pub within : NetsWithin m
  pub few : length (nodes_of m) < 2 ^ 32
  pub inputs : InputsWithin m
  pub one_driver : HasOneDriver m

abbrev pub is_whole : Module → Bool
is_whole m = is_empty m.parts && is_empty m.declared

abbrev pub is_formed : Library → Module → Bool
is_formed lib m = is_whole m && (list_all mem_fits m.mems && list_all (cell_agrees lib) m.rams)

-- each module of the design is sound, and each passes the test
abbrev pub IsSoundDesign : Library → Design → Type 0
IsSoundDesign lib d = Each d.modules (IsSound lib)

abbrev pub IsTestableDesign : Library → Design → Type 0
IsTestableDesign lib d = Each d.modules (IsTestable lib)

-- The laws: a sound module has a run over every list of happenings, and so has each module of a sound design.
abbrev pub SoundIsLive : Type 0
SoundIsLive = (lib : Library) (m : Module) → IsSound lib m → Live lib m

abbrev pub SoundDesignIsLive : Type 0
SoundDesignIsLive = (lib : Library) (d : Design) → IsSoundDesign lib d → IsLive lib d
