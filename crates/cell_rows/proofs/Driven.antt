-- Which pins a cell drives that is kept as it is.
use Rattle.std.proofs.Common.{◌≡◌, ℕ, Bool, true, false, ◌||◌, cond, List, [], ◌∷◌, ◌++◌, Option, None, Some, refl, ap, ◌∙◌, sym, append-nil}
use Rattle.std.specs.Prelude.{codes}
use Rattle.std.specs.List.{find, list_any}
use Rattle.std.specs.Str.{bytes_eq}
use Rattle.net_core.specs.Valid.{CarriedKind, with_outputs, carried_kinds, drives_by_kind}
use Rattle.cell_rows.specs.declared.carried.Outputs.TheVariants as outputs
use Rattle.cell_rows.specs.Carried.{drives, is_among, y_cells, q_cells, silent_cells, outputs_of, has_output}

-- the first kind of this type
abbrev in_kinds : List CarriedKind → List ℕ → Option CarriedKind
in_kinds kinds cell = find (λ (k : CarriedKind). bytes_eq k.kind cell) kinds

turn : (outs : List (List ℕ)) (k : List ℕ) (pin : List ℕ) (here later : Bool) (rest : Option CarriedKind) (other : Bool)
    → drives_by_kind rest None pin ≡ cond later (list_any (bytes_eq pin) outs) other
    → drives_by_kind (cond here (Some (record { kind = k; outputs = outs })) rest) None pin ≡ cond (here || later) (list_any (bytes_eq pin) outs) other
turn outs k pin true later rest other h = refl
turn outs k pin false later rest other h = h

group : (outs ks : List (List ℕ)) (rest : List CarriedKind) (cell pin : List ℕ)
    → drives_by_kind (in_kinds (with_outputs outs ks ++ rest) cell) None pin ≡ cond (is_among ks cell) (list_any (bytes_eq pin) outs) (drives_by_kind (in_kinds rest cell) None pin)
group outs [] rest cell pin = refl
group outs (k ∷ ks) rest cell pin = turn outs k pin (bytes_eq k cell) (is_among ks cell) (in_kinds (with_outputs outs ks ++ rest) cell) _ (group outs ks rest cell pin)

or_false : (b : Bool) → (b || false) ≡ b
or_false true = refl
or_false false = refl

two : (x y : Bool) → (x || (y || false)) ≡ (x || y)
two true y = refl
two false y = or_false y

three : (x y c : Bool) → (x || (y || (c || false))) ≡ (x || y || c)
three true y c = refl
three false true c = refl
three false false c = or_false c

-- the outputs by groups, as a reader of the table tells them
by_group : (y alu fa lcu q silent x_pin y_pin co_pin q_pin : Bool) →
    cond y (y_pin || false) (cond (alu || false) (x_pin || (y_pin || (co_pin || false))) (cond (fa || false) (x_pin || (y_pin || false)) (cond (lcu || false) (co_pin || false) (cond q (q_pin || false) (cond silent false y_pin)))))
    ≡ cond y y_pin (cond alu (x_pin || y_pin || co_pin) (cond fa (x_pin || y_pin) (cond lcu co_pin (cond q q_pin (cond silent false y_pin)))))
by_group y alu fa lcu q silent x_pin y_pin co_pin q_pin =
    λ i. cond y (or_false y_pin i) (cond (or_false alu i) (three x_pin y_pin co_pin i) (cond (or_false fa i) (two x_pin y_pin i) (cond (or_false lcu i) (or_false co_pin i) (cond q (or_false q_pin i) (cond silent false y_pin)))))

-- the outputs that are chosen
chosen : (y alu fa lcu q silent : Bool) (pin : List ℕ) →
    has_output (cond y outputs.Y (cond alu outputs.Alu (cond fa outputs.Adder (cond lcu outputs.Carry (cond q outputs.Q (cond silent outputs.Nothing outputs.Y)))))) pin
    ≡ cond y (has_output outputs.Y pin) (cond alu (has_output outputs.Alu pin) (cond fa (has_output outputs.Adder pin) (cond lcu (has_output outputs.Carry pin) (cond q (has_output outputs.Q pin) (cond silent false (has_output outputs.Y pin))))))
chosen true alu fa lcu q silent pin = refl
chosen false true fa lcu q silent pin = refl
chosen false false true lcu q silent pin = refl
chosen false false false true q silent pin = refl
chosen false false false false true silent pin = refl
chosen false false false false false true pin = refl
chosen false false false false false false pin = refl

abbrev silent_kinds : List CarriedKind
silent_kinds = with_outputs [] silent_cells

abbrev q_and_on : List CarriedKind
q_and_on = with_outputs (codes "\\Q" ∷ []) q_cells ++ silent_kinds

abbrev carry_and_on : List CarriedKind
carry_and_on = with_outputs (codes "\\CO" ∷ []) (codes "$lcu" ∷ []) ++ q_and_on

abbrev adder_and_on : List CarriedKind
adder_and_on = with_outputs (codes "\\X" ∷ codes "\\Y" ∷ []) (codes "$fa" ∷ []) ++ carry_and_on

abbrev alu_and_on : List CarriedKind
alu_and_on = with_outputs (codes "\\X" ∷ codes "\\Y" ∷ codes "\\CO" ∷ []) (codes "$alu" ∷ []) ++ adder_and_on

abbrev in_groups : List CarriedKind
in_groups = with_outputs (codes "\\Y" ∷ []) y_cells ++ alu_and_on

-- the table is these groups
in_table : in_groups ≡ carried_kinds
unfolding y_cells q_cells silent_cells
in_table = refl

last_group : (cell pin : List ℕ) → drives_by_kind (in_kinds silent_kinds cell) None pin ≡ cond (is_among silent_cells cell) false (bytes_eq pin (codes "\\Y"))
last_group cell pin = ap (λ ks. drives_by_kind (in_kinds ks cell) None pin) (sym (append-nil silent_kinds)) ∙ group [] silent_cells [] cell pin

grouped : (cell pin : List ℕ) → drives_by_kind (in_kinds in_groups cell) None pin
    ≡ cond (is_among y_cells cell) (list_any (bytes_eq pin) (codes "\\Y" ∷ []))
    (cond (is_among (codes "$alu" ∷ []) cell) (list_any (bytes_eq pin) (codes "\\X" ∷ codes "\\Y" ∷ codes "\\CO" ∷ []))
    (cond (is_among (codes "$fa" ∷ []) cell) (list_any (bytes_eq pin) (codes "\\X" ∷ codes "\\Y" ∷ []))
    (cond (is_among (codes "$lcu" ∷ []) cell) (list_any (bytes_eq pin) (codes "\\CO" ∷ []))
    (cond (is_among q_cells cell) (list_any (bytes_eq pin) (codes "\\Q" ∷ []))
    (cond (is_among silent_cells cell) false (bytes_eq pin (codes "\\Y")))))))
grouped cell pin =
    group (codes "\\Y" ∷ []) y_cells alu_and_on cell pin
    ∙ ap (cond (is_among y_cells cell) (list_any (bytes_eq pin) (codes "\\Y" ∷ []))) (group (codes "\\X" ∷ codes "\\Y" ∷ codes "\\CO" ∷ []) (codes "$alu" ∷ []) adder_and_on cell pin
    ∙ ap (cond (is_among (codes "$alu" ∷ []) cell) (list_any (bytes_eq pin) (codes "\\X" ∷ codes "\\Y" ∷ codes "\\CO" ∷ []))) (group (codes "\\X" ∷ codes "\\Y" ∷ []) (codes "$fa" ∷ []) carry_and_on cell pin
    ∙ ap (cond (is_among (codes "$fa" ∷ []) cell) (list_any (bytes_eq pin) (codes "\\X" ∷ codes "\\Y" ∷ []))) (group (codes "\\CO" ∷ []) (codes "$lcu" ∷ []) q_and_on cell pin
    ∙ ap (cond (is_among (codes "$lcu" ∷ []) cell) (list_any (bytes_eq pin) (codes "\\CO" ∷ []))) (group (codes "\\Q" ∷ []) q_cells silent_kinds cell pin
    ∙ ap (cond (is_among q_cells cell) (list_any (bytes_eq pin) (codes "\\Q" ∷ []))) (last_group cell pin)))))

pub drives_is : (cell pin : List ℕ) → has_output (outputs_of cell) pin ≡ drives cell pin
unfolding drives outputs_of
drives_is cell pin =
    chosen (is_among y_cells cell) (bytes_eq (codes "$alu") cell) (bytes_eq (codes "$fa") cell) (bytes_eq (codes "$lcu") cell) (is_among q_cells cell) (is_among silent_cells cell) pin
    ∙ sym (by_group (is_among y_cells cell) (bytes_eq (codes "$alu") cell) (bytes_eq (codes "$fa") cell) (bytes_eq (codes "$lcu") cell) (is_among q_cells cell) (is_among silent_cells cell)
    (bytes_eq pin (codes "\\X")) (bytes_eq pin (codes "\\Y")) (bytes_eq pin (codes "\\CO")) (bytes_eq pin (codes "\\Q")))
    ∙ sym (grouped cell pin)
    ∙ ap (λ ks. drives_by_kind (in_kinds ks cell) None pin) in_table
