-- The outputs of cells that are kept as they are, by their types.
use Rattle.std.specs.Prelude.{ℕ, Bool, false, ◌||◌, List, [], ◌∷◌, None, codes, if◌then◌else◌}
use Rattle.std.specs.List.{list_any}
use Rattle.std.specs.Str.{bytes_eq}
use Rattle.net_core.specs.Valid.{kind_of, drives_by_kind}
use Rattle.cell_rows.specs.declared.carried.Outputs.{Outputs}
use Rattle.cell_rows.specs.declared.carried.Outputs.TheVariants as outputs

-- whether a cell of this type, which is no instance, drives the pin
unfoldable pub drives : List ℕ → List ℕ → Bool
drives cell pin = drives_by_kind (kind_of cell) None pin

abbrev pub is_among : List (List ℕ) → List ℕ → Bool
is_among cells cell = list_any (λ c. bytes_eq c cell) cells

-- the cells with an output Y, those with an output Q, and those without outputs
unfoldable pub y_cells : List (List ℕ)
y_cells = codes "$mul" ∷ codes "$div" ∷ codes "$mod" ∷ codes "$divfloor" ∷ codes "$modfloor" ∷ codes "$pow" ∷ codes "$shift" ∷ codes "$shiftx" ∷ codes "$sshl" ∷ codes "$sshr" ∷ codes "$pos" ∷ codes "$neg" ∷ codes "$slice" ∷ codes "$concat" ∷ codes "$bmux" ∷ codes "$demux" ∷ codes "$bwmux" ∷ codes "$lut" ∷ codes "$macc" ∷ codes "$anyconst" ∷ codes "$anyseq" ∷ codes "$allconst" ∷ codes "$allseq" ∷ codes "$initstate" ∷ []

unfoldable pub q_cells : List (List ℕ)
q_cells = codes "$dlatch" ∷ codes "$adlatch" ∷ codes "$dlatchsr" ∷ codes "$sr" ∷ codes "$ff" ∷ codes "$dffsr" ∷ codes "$dffsre" ∷ codes "$aldff" ∷ codes "$aldffe" ∷ []

unfoldable pub silent_cells : List (List ℕ)
silent_cells = codes "$assert" ∷ codes "$assume" ∷ codes "$cover" ∷ codes "$live" ∷ codes "$fair" ∷ codes "$print" ∷ codes "$check" ∷ codes "$scopeinfo" ∷ []

-- the outputs by the type; a cell that is kept for its signs has Y
unfoldable pub outputs_of : List ℕ → Outputs
outputs_of cell =
    if is_among y_cells cell then outputs.Y
    else (if bytes_eq (codes "$alu") cell then outputs.Alu
    else (if bytes_eq (codes "$fa") cell then outputs.Adder
    else (if bytes_eq (codes "$lcu") cell then outputs.Carry
    else (if is_among q_cells cell then outputs.Q
    else (if is_among silent_cells cell then outputs.Nothing
    else outputs.Y)))))

abbrev pub has_output : Outputs → List ℕ → Bool
has_output outputs.Y pin = bytes_eq pin (codes "\\Y")
has_output outputs.Q pin = bytes_eq pin (codes "\\Q")
has_output outputs.Alu pin = bytes_eq pin (codes "\\X") || bytes_eq pin (codes "\\Y") || bytes_eq pin (codes "\\CO")
has_output outputs.Adder pin = bytes_eq pin (codes "\\X") || bytes_eq pin (codes "\\Y")
has_output outputs.Carry pin = bytes_eq pin (codes "\\CO")
has_output outputs.Nothing pin = false
