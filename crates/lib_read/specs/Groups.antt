-- The groups of a variant: what the statements of a port say that count in it, with the names of ports turned into
-- numbers of groups, and widths into their places among those of the variant.
use Rattle.std.specs.Prelude.{ℕ, ◌+◌, Bool, true, false, List, [], ◌∷◌, length, take, drop, Option, Some, None, if◌then◌else◌}
use Rattle.std.specs.List.{list_all, list_any}
use Rattle.lib_core.specs.declared.library.Choice.{Choice}
use Rattle.lib_core.specs.declared.library.Fill.TheVariants as fill
use Rattle.lib_core.specs.declared.library.Group.{Group}
use Rattle.lib_core.specs.declared.library.OwnWrite.TheVariants as own
use Rattle.lib_core.specs.declared.library.Seen.{Seen}
use Rattle.lib_core.specs.declared.library.SrstGate.{SrstGate}
use Rattle.lib_core.specs.declared.library.SrstGate.TheVariants as gate
use Rattle.lib_core.specs.declared.library.Trans.{Trans}
use Rattle.lib_tree.specs.declared.statement.Setting.{Setting}
use Rattle.lib_tree.specs.declared.statement.Setting.TheVariants as setting
use Rattle.lib_tree.specs.declared.statement.Targets.{Targets}
use Rattle.lib_tree.specs.declared.statement.Targets.TheVariants as targets
use Rattle.lib_judge.specs.declared.raw.RawPort.{RawPort}
use Rattle.lib_judge.specs.Judge.{is_width}
use Rattle.lib_judge.specs.Variants.{has_name}

-- ---- groups that statements name

abbrev pub has_one_of : List (List ℕ) → RawPort → Bool
has_one_of ns p = list_any (λ n. has_name p.names n) ns

-- a name means the group that has it, and all means every group
abbrev pub names_group : Targets → RawPort → Bool
names_group targets.All p = true
names_group (targets.Named ns) p = has_one_of ns p

-- how the reads of a group see the writes, where the statement is about them
abbrev pub seen_in : RawPort → Setting → Option Seen
seen_in p (setting.Wrtrans t s) = if names_group t p then Some s else None
seen_in p s = None

abbrev pub first_of : Option Seen → Option Seen → Option Seen
first_of None s = s
first_of (Some r) s = Some r

unfoldable pub seen_by : RawPort → List Setting → Option Seen
seen_by p [] = None
seen_by p (s ∷ ss) = first_of (seen_in p s) (seen_by p ss)

abbrev pub and_trans : ℕ → Option Seen → List Trans → List Trans
and_trans n None ts = ts
and_trans n (Some s) ts = record { group = n; seen = s } ∷ ts

-- the groups whose reads see the writes in a way that is said, from the group with the number on
unfoldable pub trans_from : ℕ → List RawPort → List Setting → List Trans
trans_from n [] ss = []
trans_from n (p ∷ ps) ss = and_trans n (seen_by p ss) (trans_from (n + 1) ps ss)

abbrev pub wins_in : RawPort → Setting → Bool
wins_in p (setting.Wrprio t) = names_group t p
wins_in p s = false

abbrev pub wins_over : RawPort → List Setting → Bool
wins_over p ss = list_any (λ s. wins_in p s) ss

-- the groups over which the writes win, from the group with the number on
unfoldable pub prio_from : ℕ → List RawPort → List Setting → List ℕ
prio_from n [] ss = []
prio_from n (p ∷ ps) ss = if wins_over p ss then n ∷ prio_from (n + 1) ps ss else prio_from (n + 1) ps ss

-- ---- widths

-- widths that are tied are widths as others are
abbrev pub allows : ℕ → Setting → Bool
allows w (setting.Width tied ns) = is_width ns w
allows w s = true

abbrev pub is_allowed : List Setting → ℕ → Bool
is_allowed ss w = list_all (λ s. allows w s) ss

-- the places of the widths that a port may have, from the place with the number on
unfoldable pub levels_from : ℕ → List ℕ → List Setting → List ℕ
levels_from n [] ss = []
levels_from n (w ∷ ws) ss = if is_allowed ss w then n ∷ levels_from (n + 1) ws ss else levels_from (n + 1) ws ss

-- ---- one group

abbrev pub gate_of : Option SrstGate → SrstGate
gate_of None = gate.Ungated
gate_of (Some g) = g

-- what a statement says of the group; trans, prio and levels stand there before
abbrev pub with_setting : Group → Setting → Group
with_setting g (setting.Clock e) = record g { edge = Some e }
with_setting g setting.Clken = record g { clken = true }
with_setting g setting.Rden = record g { rden = true }
with_setting g (setting.Rdwr o) = record g { own = o }
with_setting g (setting.Wrtrans t s) = g
with_setting g (setting.Wrprio t) = g
with_setting g (setting.Rdsrst f h) = record g { srst = f; srst_gate = gate_of h }
with_setting g (setting.Rdarst f) = record g { arst = f }
with_setting g (setting.Rdinit f) = record g { start = f }
with_setting g setting.WrbeSeparate = record g { separate = true }
with_setting g (setting.Width tied ns) = g

unfoldable pub with_settings : Group → List Setting → Group
with_settings g [] = g
with_settings g (s ∷ ss) = with_settings (with_setting g s) ss

-- a group of which nothing is said but its targets and its widths
abbrev pub plain_group : RawPort → List Choice → List Trans → List ℕ → List ℕ → Group
plain_group p choices trans prio levels = record {
  kind = p.kind;
  names = p.names;
  options = choices;
  edge = None;
  clken = false;
  rden = false;
  own = own.Undefined;
  trans = trans;
  prio = prio;
  srst = fill.Nothing;
  srst_gate = gate.Ungated;
  arst = fill.Nothing;
  start = fill.Nothing;
  separate = false;
  levels = levels;
}

-- a port of a RAM with all these ports and these widths, where the choices are made and the statements count
unfoldable pub group_of : List RawPort → List ℕ → RawPort → List Choice → List Setting → Group
group_of ports ws p choices ss = with_settings (plain_group p choices (trans_from 0 ports ss) (prio_from 0 ports ss) (levels_from 0 ws ss)) ss

-- each port with its choices and its statements
unfoldable pub groups_of : List RawPort → List ℕ → List RawPort → List Choice → List (List Setting) → List Group
groups_of all ws [] row sss = []
groups_of all ws (p ∷ ps) row [] = []
groups_of all ws (p ∷ ps) row (ss ∷ sss) = group_of all ws p (take (length p.options) row) ss ∷ groups_of all ws ps (drop (length p.options) row) sss
