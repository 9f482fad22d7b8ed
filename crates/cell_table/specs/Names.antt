-- The names of the cell types. (Yosys manual, cell library.)
use Rattle.std.specs.Prelude.{ℕ, List, [], ◌∷◌, codes}
use Rattle.net_core.specs.declared.cells.CombKind.{CombKind}
use Rattle.net_core.specs.declared.cells.CombKind.TheVariants as comb
use Rattle.net_core.specs.declared.cells.FfKind.{FfKind}
use Rattle.net_core.specs.declared.cells.FfKind.TheVariants as ff

abbrev pub comb_type : CombKind → List ℕ
comb_type comb.Not = codes "$not"
comb_type comb.And = codes "$and"
comb_type comb.Or = codes "$or"
comb_type comb.Xor = codes "$xor"
comb_type comb.Xnor = codes "$xnor"
comb_type comb.ReduceAnd = codes "$reduce_and"
comb_type comb.ReduceOr = codes "$reduce_or"
comb_type comb.ReduceBool = codes "$reduce_bool"
comb_type comb.ReduceXor = codes "$reduce_xor"
comb_type comb.ReduceXnor = codes "$reduce_xnor"
comb_type comb.LogicNot = codes "$logic_not"
comb_type comb.LogicAnd = codes "$logic_and"
comb_type comb.LogicOr = codes "$logic_or"
comb_type comb.Eq = codes "$eq"
comb_type comb.Ne = codes "$ne"
comb_type comb.Lt = codes "$lt"
comb_type comb.Le = codes "$le"
comb_type comb.Gt = codes "$gt"
comb_type comb.Ge = codes "$ge"
comb_type comb.Add = codes "$add"
comb_type comb.Sub = codes "$sub"
comb_type comb.Shl = codes "$shl"
comb_type comb.Shr = codes "$shr"
comb_type comb.Mux = codes "$mux"
comb_type comb.Pmux = codes "$pmux"

abbrev pub ff_type : FfKind → List ℕ
ff_type ff.Dff = codes "$dff"
ff_type ff.Dffe = codes "$dffe"
ff_type ff.Adff = codes "$adff"
ff_type ff.Adffe = codes "$adffe"
ff_type ff.Sdff = codes "$sdff"
ff_type ff.Sdffe = codes "$sdffe"
ff_type ff.Sdffce = codes "$sdffce"

-- The cells that are kept as they are, whatever their parameters: those with an output Y, `$alu`, `$fa` and `$lcu`, those
-- with an output Q, and those without outputs.
abbrev pub carried_types : List (List ℕ)
carried_types =
    codes "$mul" ∷ codes "$div" ∷ codes "$mod" ∷ codes "$divfloor" ∷ codes "$modfloor" ∷ codes "$pow" ∷ codes "$shift"
    ∷ codes "$shiftx" ∷ codes "$sshl" ∷ codes "$sshr" ∷ codes "$pos" ∷ codes "$neg" ∷ codes "$slice" ∷ codes "$concat"
    ∷ codes "$bmux" ∷ codes "$demux" ∷ codes "$bwmux" ∷ codes "$lut" ∷ codes "$macc" ∷ codes "$anyconst"
    ∷ codes "$anyseq" ∷ codes "$allconst" ∷ codes "$allseq" ∷ codes "$initstate"
    ∷ codes "$alu" ∷ codes "$fa" ∷ codes "$lcu"
    ∷ codes "$dlatch" ∷ codes "$adlatch" ∷ codes "$dlatchsr" ∷ codes "$sr" ∷ codes "$ff" ∷ codes "$dffsr"
    ∷ codes "$dffsre" ∷ codes "$aldff" ∷ codes "$aldffe"
    ∷ codes "$assert" ∷ codes "$assume" ∷ codes "$cover" ∷ codes "$live" ∷ codes "$fair" ∷ codes "$print"
    ∷ codes "$check" ∷ codes "$scopeinfo" ∷ []
