-- What is wrong with a RAM: something stands twice in a variant, something is missing in one, or the widths of one do
-- not fit together.
use Rattle.std.specs.Prelude.{ℕ, ◌+◌, ◌*◌, ◌%◌, ◌==◌, Bool, true, false, List, [], ◌∷◌, length, Option, Some, None, ◌&&◌, ◌||◌, not, nat_lt, nat_le}
use Rattle.std.specs.List.{list_all, list_any}
use Rattle.std.specs.Str.{bytes_eq}
use Rattle.lib_core.specs.declared.library.Fill.TheVariants as fill
use Rattle.lib_core.specs.declared.library.PortKind.{PortKind}
use Rattle.lib_core.specs.declared.library.Property.TheVariants as property
use Rattle.lib_core.specs.Kinds.{has_property}
use Rattle.lib_tree.specs.declared.statement.Item.{Item}
use Rattle.lib_tree.specs.declared.statement.Item.TheVariants as item
use Rattle.lib_tree.specs.declared.statement.Setting.{Setting}
use Rattle.lib_tree.specs.declared.statement.Setting.TheVariants as setting
use Rattle.lib_tree.specs.declared.statement.Size.TheVariants as size
use Rattle.lib_tree.specs.declared.statement.Targets.{Targets}
use Rattle.lib_tree.specs.declared.statement.Targets.TheVariants as targets
use Rattle.lib_judge.specs.declared.judge.Sizes.{Sizes}
use Rattle.lib_judge.specs.declared.raw.RawPort.{RawPort}
use Rattle.lib_judge.specs.declared.sketch.Sketch.{Sketch}
use Rattle.lib_judge.specs.Variants.{has_name}

-- ---- twice

abbrev pub is_abits : Item → Bool
is_abits (item.Size size.Abits n) = true
is_abits i = false

-- width and widths are one item
abbrev pub sets_widths : Item → Bool
sets_widths (item.Size size.Width n) = true
sets_widths (item.Widths ns per_port) = true
sets_widths i = false

abbrev pub is_byte : Item → Bool
is_byte (item.Size size.Byte n) = true
is_byte i = false

abbrev pub is_cost : Item → Bool
is_cost (item.Size size.Cost n) = true
is_cost i = false

abbrev pub is_init : Item → Bool
is_init (item.Init f) = true
is_init i = false

abbrev pub is_style : Item → Bool
is_style (item.Style t) = true
is_style i = false

abbrev pub same_item : Item → Item → Bool
same_item (item.Size size.Abits n) i = is_abits i
same_item (item.Size size.Width n) i = sets_widths i
same_item (item.Size size.Byte n) i = is_byte i
same_item (item.Size size.Cost n) i = is_cost i
same_item (item.Widths ns per_port) i = sets_widths i
same_item (item.Init f) i = is_init i
same_item (item.Style t) i = is_style i

abbrev pub stands_again : Item → List Item → Bool
stands_again i is = list_any (λ j. same_item i j) is

unfoldable pub items_repeat : List Item → Bool
items_repeat [] = false
items_repeat (i ∷ is) = stands_again i is || items_repeat is

abbrev pub has_both : List ℕ → List ℕ → RawPort → Bool
has_both n m p = has_name p.names n && has_name p.names m

abbrev pub one_group : List RawPort → List ℕ → List ℕ → Bool
one_group ports n m = list_any (λ p. has_both n m p) ports

-- two names of one group, or one name twice
abbrev pub same_target : List RawPort → List ℕ → List ℕ → Bool
same_target ports n m = bytes_eq n m || one_group ports n m

abbrev pub one_overlap : List RawPort → List (List ℕ) → List ℕ → Bool
one_overlap ports ms n = list_any (λ m. same_target ports n m) ms

-- a name is of some port; known are the names of all ports
abbrev pub any_named : List (List ℕ) → List (List ℕ) → Bool
any_named known ns = list_any (λ n. has_name known n) ns

abbrev pub any_overlap : List RawPort → List (List ℕ) → List (List ℕ) → Bool
any_overlap ports ns ms = list_any (λ n. one_overlap ports ms n) ns

-- all names every group
abbrev pub overlap : List (List ℕ) → List RawPort → Targets → Targets → Bool
overlap known ports targets.All targets.All = true
overlap known ports targets.All (targets.Named ns) = any_named known ns
overlap known ports (targets.Named ns) targets.All = any_named known ns
overlap known ports (targets.Named ns) (targets.Named ms) = any_overlap ports ns ms

-- wrtrans and wrprio may repeat where no two name one group
abbrev pub same_setting : List (List ℕ) → List RawPort → Setting → Setting → Bool
same_setting known ports (setting.Clock e) (setting.Clock d) = true
same_setting known ports setting.Clken setting.Clken = true
same_setting known ports setting.Rden setting.Rden = true
same_setting known ports (setting.Rdwr o) (setting.Rdwr q) = true
same_setting known ports (setting.Wrtrans t s) (setting.Wrtrans u r) = overlap known ports t u
same_setting known ports (setting.Wrprio t) (setting.Wrprio u) = overlap known ports t u
same_setting known ports (setting.Rdsrst f g) (setting.Rdsrst e h) = true
same_setting known ports (setting.Rdarst f) (setting.Rdarst e) = true
same_setting known ports (setting.Rdinit f) (setting.Rdinit e) = true
same_setting known ports setting.WrbeSeparate setting.WrbeSeparate = true
same_setting known ports (setting.Width t ns) (setting.Width u ms) = true
same_setting known ports a b = false

abbrev pub is_set_again : List (List ℕ) → List RawPort → Setting → List Setting → Bool
is_set_again known ports s ss = list_any (λ t. same_setting known ports s t) ss

unfoldable pub settings_repeat : List (List ℕ) → List RawPort → List Setting → Bool
settings_repeat known ports [] = false
settings_repeat known ports (s ∷ ss) = is_set_again known ports s ss || settings_repeat known ports ss

abbrev pub any_repeat : List (List ℕ) → List RawPort → List (List Setting) → Bool
any_repeat known ports sss = list_any (λ ss. settings_repeat known ports ss) sss

abbrev pub is_twice : List (List ℕ) → List RawPort → Sketch → Bool
is_twice known ports k = items_repeat k.items || any_repeat known ports k.ports

-- ---- missing

abbrev pub is_clock : Setting → Bool
is_clock (setting.Clock e) = true
is_clock s = false

abbrev pub has_clock : List Setting → Bool
has_clock ss = list_any (λ s. is_clock s) ss

abbrev pub lacks_clock : PortKind → List Setting → Bool
lacks_clock kind ss = has_property kind property.Clock && not (has_clock ss)

abbrev pub any_unknown : List (List ℕ) → List (List ℕ) → Bool
any_unknown known ns = list_any (λ n. not (has_name known n)) ns

abbrev pub lacks : List (List ℕ) → Targets → Bool
lacks known targets.All = false
lacks known (targets.Named ns) = any_unknown known ns

abbrev pub lacks_target : List (List ℕ) → Setting → Bool
lacks_target known (setting.Wrtrans t s) = lacks known t
lacks_target known (setting.Wrprio t) = lacks known t
lacks_target known s = false

abbrev pub any_lacks : List (List ℕ) → List Setting → Bool
any_lacks known ss = list_any (λ s. lacks_target known s) ss

-- a port lacks its clock, or a name is of no port
unfoldable pub missing_in : List (List ℕ) → List RawPort → List (List Setting) → Bool
missing_in known [] sss = false
missing_in known (p ∷ ps) [] = false
missing_in known (p ∷ ps) (ss ∷ sss) = (lacks_clock p.kind ss || any_lacks known ss) || missing_in known ps sss

abbrev pub has_abits : List Item → Bool
has_abits is = list_any (λ i. is_abits i) is

abbrev pub has_widths : List Item → Bool
has_widths is = list_any (λ i. sets_widths i) is

abbrev pub is_missing : List (List ℕ) → List RawPort → Sketch → Bool
is_missing known ports k = not (has_abits k.items) || not (has_widths k.items) || missing_in known ports k.ports

-- ---- what the items of a variant say

abbrev pub plain_sizes : Sizes
plain_sizes = record { abits = 0; widths = []; per_port = false; byte = None; cost = 1; fill = fill.Nothing; style = None }

abbrev pub with_item : Sizes → Item → Sizes
with_item z (item.Size size.Abits n) = record z { abits = n }
with_item z (item.Size size.Width n) = record z { widths = n ∷ []; per_port = false }
with_item z (item.Size size.Byte n) = record z { byte = Some n }
with_item z (item.Size size.Cost n) = record z { cost = n }
with_item z (item.Widths ns per_port) = record z { widths = ns; per_port = per_port }
with_item z (item.Init f) = record z { fill = f }
with_item z (item.Style t) = record z { style = Some t }

unfoldable pub sizes_from : Sizes → List Item → Sizes
sizes_from z [] = z
sizes_from z (i ∷ is) = sizes_from (with_item z i) is

-- ---- widths

-- each width is at least twice and less than four times the one before
unfoldable pub rises_from : ℕ → List ℕ → Bool
rises_from before [] = true
rises_from before (w ∷ ws) = nat_le (2 * before) w && nat_lt w (4 * before) && rises_from w ws

abbrev pub rises : List ℕ → Bool
rises [] = true
rises (w ∷ ws) = rises_from w ws

abbrev pub fits_byte : ℕ → ℕ → Bool
fits_byte b w = nat_lt w b || (not (b == 0) && w % b == 0)

abbrev pub all_fit : ℕ → List ℕ → Bool
all_fit b ws = list_all (λ w. fits_byte b w) ws

abbrev pub fits_bytes : Option ℕ → List ℕ → Bool
fits_bytes None ws = true
fits_bytes (Some b) ws = all_fit b ws

abbrev pub is_width : List ℕ → ℕ → Bool
is_width ws n = list_any (λ w. w == n) ws

abbrev pub all_known : List ℕ → List ℕ → Bool
all_known ws ns = list_all (λ n. is_width ws n) ns

abbrev pub widths_known : List ℕ → Setting → Bool
widths_known ws (setting.Width tied ns) = all_known ws ns
widths_known ws s = true

abbrev pub settings_known : List ℕ → List Setting → Bool
settings_known ws ss = list_all (λ s. widths_known ws s) ss

-- the widths of each port are widths of the RAM
abbrev pub ports_known : List ℕ → List (List Setting) → Bool
ports_known ws sss = list_all (λ ss. settings_known ws ss) sss

abbrev pub is_bad : Sizes → Sketch → Bool
is_bad z k = not (rises z.widths) || nat_lt (z.abits + 1) (length z.widths) || not (fits_bytes z.byte z.widths) || not (ports_known z.widths k.ports)
