-- What combinational cells and registers allow. (Yosys manual, word-level cells.)
use Rattle.std.specs.Prelude.{◌≡◌, ℕ, suc, Bool, true, false, cond, not, ◌&&◌, ◌||◌, List, Some, slice_get}
use Rattle.lib_core.specs.declared.library.Tri.{Tri}
use Rattle.net_core.specs.declared.bits.Bit.{Bit}
use Rattle.net_core.specs.declared.cells.Comb.{Comb}
use Rattle.net_core.specs.declared.cells.Reg.{Reg}
use Rattle.net_core.specs.declared.cells.FfKind.{FfKind}
use Rattle.net_core.specs.declared.cells.FfKind.TheVariants.{Dff, Dffe, Adff, Adffe, Sdff, Sdffe, Sdffce}
use Rattle.lib_core.specs.Rams.{tri_at}
use Rattle.net_core.specs.Values.{Valuation, Wave, Happening, At, value_of, tri_of, Agrees, Shows, same_bool, has_edge}
use Rattle.net_core.specs.Logic.{comb_shows}

abbrev pub CombAllows : Comb → List Happening → Wave → Type 0
CombAllows c events v = (t : ℕ) (e : Happening) → At events t e → Shows (v t) c.y (comb_shows c (v t))

-- which pins a kind of register has
abbrev pub has_enable : FfKind → Bool
has_enable Dff = false
has_enable Dffe = true
has_enable Adff = false
has_enable Adffe = true
has_enable Sdff = false
has_enable Sdffe = true
has_enable Sdffce = true

abbrev pub has_arst : FfKind → Bool
has_arst Dff = false
has_arst Dffe = false
has_arst Adff = true
has_arst Adffe = true
has_arst Sdff = false
has_arst Sdffe = false
has_arst Sdffce = false

abbrev pub has_srst : FfKind → Bool
has_srst Dff = false
has_srst Dffe = false
has_srst Adff = false
has_srst Adffe = false
has_srst Sdff = true
has_srst Sdffe = true
has_srst Sdffce = true

-- the synchronous reset counts only while the register is enabled
abbrev pub resets_enabled : FfKind → Bool
resets_enabled Dff = false
resets_enabled Dffe = false
resets_enabled Adff = false
resets_enabled Adffe = false
resets_enabled Sdff = false
resets_enabled Sdffe = false
resets_enabled Sdffce = true

-- a control pin has its active level
abbrev pub is_active : Valuation → Bit → Bool → Bool
is_active v pin high = same_bool (value_of v pin) high

abbrev pub enabled : Reg → Valuation → Bool
enabled r v = not (has_enable r.kind) || is_active v r.en r.en_high

abbrev pub in_arst : Reg → Valuation → Bool
in_arst r v = has_arst r.kind && is_active v r.arst r.arst_high

abbrev pub in_srst : Reg → Valuation → Bool
in_srst r v = has_srst r.kind && is_active v r.srst r.srst_high && (not (resets_enabled r.kind) || enabled r v)

-- what a register that keeps these bits shows
abbrev pub reg_shows : Reg → Valuation → (ℕ → Bool) → ℕ → Tri
reg_shows r v kept k = cond (in_arst r v) (tri_at r.arst_value k) (tri_of (kept k))

-- what it keeps then: while its asynchronous reset is active, what it shows
abbrev pub reg_next : List ℕ → Reg → Happening → Valuation → (ℕ → Bool) → ℕ → ℕ → Bit → Tri
reg_next inputs r e v kept k q d =
    cond (in_arst r v) (tri_of (v q))
    (cond (not (has_edge inputs e.edge r.clock)) (tri_of (kept k))
    (cond (in_srst r v) (tri_at r.srst_value k)
    (cond (enabled r v) (tri_of (value_of v d)) (tri_of (kept k)))))

pub record RegAllows (inputs : List ℕ) (r : Reg) (events : List Happening) (v : Wave) : Type 0 where
  -- what it keeps before each moment: moment, place
  pub kept : ℕ → ℕ → Bool
  pub starts : (k : ℕ) → Agrees (tri_at r.init k) (kept 0 k)
  pub shows : (t : ℕ) (e : Happening) → At events t e → Shows (v t) r.q (reg_shows r (v t) (kept t))
  pub steps : (t : ℕ) (e : Happening) → At events t e → (k q : ℕ) (d : Bit) → slice_get r.q k ≡ Some q → slice_get r.d k ≡ Some d → Agrees (reg_next inputs r e (v t) (kept t) k q d) (kept (suc t) k)
