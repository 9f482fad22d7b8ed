-- The cell types that have a meaning in RTLIL text, by the tables of the Yosys manual's cell library and of its
-- memory handling, as far as designs are read here. No RAM of a library may have such a name.
use Rattle.std.specs.Prelude.{ℕ, Bool, List, [], ◌∷◌, ◌++◌, codes}
use Rattle.std.specs.List.{list_any}
use Rattle.std.specs.Str.{bytes_eq}

-- cells whose output is a function of their inputs
abbrev pub logic_cells : List (List ℕ)
logic_cells = codes "$not" ∷ codes "$and" ∷ codes "$or" ∷ codes "$xor" ∷ codes "$xnor" ∷ codes "$reduce_and" ∷ codes "$reduce_or" ∷ codes "$reduce_bool" ∷ codes "$reduce_xor" ∷ codes "$reduce_xnor" ∷ codes "$logic_not" ∷ codes "$logic_and" ∷ codes "$logic_or" ∷ codes "$eq" ∷ codes "$ne" ∷ codes "$lt" ∷ codes "$le" ∷ codes "$gt" ∷ codes "$ge" ∷ codes "$add" ∷ codes "$sub" ∷ codes "$shl" ∷ codes "$shr" ∷ codes "$mux" ∷ codes "$pmux" ∷ []

abbrev pub register_cells : List (List ℕ)
register_cells = codes "$dff" ∷ codes "$dffe" ∷ codes "$adff" ∷ codes "$adffe" ∷ codes "$sdff" ∷ codes "$sdffe" ∷ codes "$sdffce" ∷ []

-- cells that stay as they are
abbrev pub carried_cells : List (List ℕ)
carried_cells = codes "$mul" ∷ codes "$div" ∷ codes "$mod" ∷ codes "$divfloor" ∷ codes "$modfloor" ∷ codes "$pow" ∷ codes "$shift" ∷ codes "$shiftx" ∷ codes "$sshl" ∷ codes "$sshr" ∷ codes "$pos" ∷ codes "$neg" ∷ codes "$slice" ∷ codes "$concat" ∷ codes "$bmux" ∷ codes "$demux" ∷ codes "$bwmux" ∷ codes "$lut" ∷ codes "$macc" ∷ codes "$anyconst" ∷ codes "$anyseq" ∷ codes "$allconst" ∷ codes "$allseq" ∷ codes "$initstate" ∷ codes "$alu" ∷ codes "$fa" ∷ codes "$lcu" ∷ codes "$dlatch" ∷ codes "$adlatch" ∷ codes "$dlatchsr" ∷ codes "$sr" ∷ codes "$ff" ∷ codes "$dffsr" ∷ codes "$dffsre" ∷ codes "$aldff" ∷ codes "$aldffe" ∷ codes "$assert" ∷ codes "$assume" ∷ codes "$cover" ∷ codes "$live" ∷ codes "$fair" ∷ codes "$print" ∷ codes "$check" ∷ codes "$scopeinfo" ∷ []

abbrev pub memory_cells : List (List ℕ)
memory_cells = codes "$memrd_v2" ∷ codes "$memrd" ∷ codes "$memwr_v2" ∷ codes "$meminit_v2" ∷ codes "$mem_v2" ∷ []

abbrev pub cell_names : List (List ℕ)
cell_names = logic_cells ++ register_cells ++ carried_cells ++ memory_cells

abbrev pub is_cell : List ℕ → Bool
is_cell name = list_any (λ cell. bytes_eq cell name) cell_names
