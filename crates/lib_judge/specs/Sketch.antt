-- What counts in a variant: a block counts where its option has its value there, with all that is in it.
use Rattle.std.specs.Prelude.{ℕ, zero, ◌+◌, ◌-◌, ◌==◌, Bool, List, [], ◌∷◌, length, take, drop, Option, Some, None, if◌then◌else◌, ◌&&◌}
use Rattle.lib_core.specs.declared.library.Choice.{Choice}
use Rattle.lib_tree.specs.declared.statement.Item.{Item}
use Rattle.lib_tree.specs.declared.statement.Scope.{Scope}
use Rattle.lib_tree.specs.declared.statement.Scope.TheVariants as scope
use Rattle.lib_tree.specs.declared.statement.Setting.{Setting}
use Rattle.lib_tree.specs.declared.statement.Statement.{Statement}
use Rattle.lib_tree.specs.declared.statement.Statement.TheVariants as statement
use Rattle.lib_judge.specs.declared.raw.RawPort.{RawPort}
use Rattle.lib_judge.specs.declared.raw.RawRam.{RawRam}
use Rattle.lib_judge.specs.declared.sketch.Sketch.{Sketch}
use Rattle.lib_judge.specs.Variants.{has_choice}

-- by the choices of the RAM and of the port
abbrev pub counts : List Choice → List Choice → Scope → Choice → Bool
counts of_ram of_port scope.Ram c = has_choice of_ram c
counts of_ram of_port scope.Port c = has_choice of_port c

-- how many blocks are open behind a statement, from the first on that does not count; a port's are not the RAM's own
abbrev pub next_off : List Choice → List Choice → ℕ → Statement → ℕ
next_off of_ram of_port off (statement.Block s c) = if off == 0 && counts of_ram of_port s c then 0 else off + 1
next_off of_ram of_port off (statement.Port kind names) = off + 1
next_off of_ram of_port off statement.End = off - 1
next_off of_ram of_port off s = off

abbrev pub item_in : Statement → Option Item
item_in (statement.Item i) = Some i
item_in s = None

abbrev pub setting_in : Statement → Option Setting
setting_in (statement.Setting s) = Some s
setting_in s = None

abbrev pub and_first : {A : Type 0} → ℕ → Option A → List A → List A
and_first zero (Some a) as_ = a ∷ as_
and_first off a as_ = as_

-- the items that count, behind so many blocks that do not
unfoldable pub items_from : List Choice → ℕ → List Statement → List Item
items_from of_ram off [] = []
items_from of_ram off (s ∷ ss) = and_first off (item_in s) (items_from of_ram (next_off of_ram [] off s) ss)

-- the properties that count
unfoldable pub settings_from : List Choice → List Choice → ℕ → List Statement → List Setting
settings_from of_ram of_port off [] = []
settings_from of_ram of_port off (s ∷ ss) = and_first off (setting_in s) (settings_from of_ram of_port (next_off of_ram of_port off s) ss)

-- what counts in each port; each has as many of the choices as it has options of its own
unfoldable pub settings_of : List Choice → List Choice → List RawPort → List (List Setting)
settings_of of_ram of_ports [] = []
settings_of of_ram of_ports (p ∷ ps) = settings_from of_ram (take (length p.options) of_ports) 0 p.body ∷ settings_of of_ram (drop (length p.options) of_ports) ps

-- what counts in the variant that a row of choices is
abbrev pub sketch_of : RawRam → List Choice → Sketch
sketch_of ram row = record {
  items = items_from (take (length ram.options) row) 0 ram.body;
  ports = settings_of (take (length ram.options) row) (drop (length ram.options) row) ram.ports;
}
