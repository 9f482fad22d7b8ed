-- What was read so far, as the document's parts: the names that are taken are those of the parts.
use Rattle.std.proofs.Common.{◌≡◌, ℕ, Bool, true, false, List, [], ◌∷◌, ◌++◌, map, refl, ap, ◌∙◌, append-nil}
use Rattle.std.specs.List.{flat_map}
use Rattle.std.proofs.lemmas.List.{map-append}
use Rattle.std.proofs.lemmas.List.Concat.{flat_map-append}
use Rattle.rtlil_text.specs.declared.doc.CellLine.{CellLine}
use Rattle.rtlil_text.specs.declared.doc.CellLine.TheVariants as line
use Rattle.rtlil_text.specs.declared.doc.DocAttr.{DocAttr}
use Rattle.rtlil_text.specs.declared.doc.DocCell.{DocCell}
use Rattle.rtlil_text.specs.declared.doc.DocMem.{DocMem}
use Rattle.rtlil_text.specs.declared.doc.DocModule.{DocModule}
use Rattle.rtlil_text.specs.declared.doc.DocParam.{DocParam}
use Rattle.rtlil_text.specs.declared.doc.DocWire.{DocWire}
use Rattle.rtlil_text.specs.declared.doc.Item.{Item}
use Rattle.rtlil_text.specs.declared.doc.Item.TheVariants as item
use Rattle.rtlil_text.specs.declared.doc.Part.{Part}
use Rattle.rtlil_text.specs.declared.place.Statement.TheVariants as says
use Rattle.rtlil_text.specs.declared.state.Open.{Open}
use Rattle.rtlil_text.specs.declared.state.Open.TheVariants as open_
use Rattle.rtlil_text.specs.declared.state.State.{State}
use Rattle.rtlil_text.specs.declared.state.Taken.{Taken}
use Rattle.rtlil_text.specs.Grammar.{has, wire_name, memory_name, cell_name, parameter_name, pin_name, module_name}
use Rattle.rtlil_text.specs.Read.{with_name}
use Rattle.rtlil_text.specs.ReadState.{no_names, start, with_item, with_line, with_attribute, put_item, begin_module, put_wire, put_memory, cell_in, begin_cell, put_parameter, put_pin, end_of, end, advance}

abbrev pub names_of : List DocModule → Open → Taken
names_of ms open_.File = record { modules = map module_name ms; wires = []; memories = []; cells = []; parameters = []; pins = [] }
names_of ms (open_.Module m) = record { modules = map module_name ms ++ m.name ∷ []; wires = flat_map wire_name m.items; memories = flat_map memory_name m.items; cells = flat_map cell_name m.items; parameters = []; pins = [] }
names_of ms (open_.Cell m c) = record { modules = map module_name ms ++ m.name ∷ []; wires = flat_map wire_name m.items; memories = flat_map memory_name m.items; cells = flat_map cell_name m.items ++ c.name ∷ []; parameters = flat_map parameter_name c.lines; pins = flat_map pin_name c.lines }

-- the state behind these parts
abbrev pub canon : Bool → List DocModule → Open → List DocAttr → State
canon seen ms o attrs = record { modules = ms; current = o; attrs = attrs; autoidx = seen; names = names_of ms o }

abbrev pub opened : List DocAttr → List ℕ → List Item → DocModule
opened attrs n items = record { attrs = attrs; name = n; items = items }

abbrev pub begun : List DocAttr → List ℕ → List ℕ → List CellLine → DocCell
begun attrs k n ls = record { attrs = attrs; kind = k; name = n; lines = ls }

pub name_added : (ns : List (List ℕ)) (n : List ℕ) → has ns n ≡ false → with_name ns n ≡ ns ++ n ∷ []
unfolding with_name
name_added ns n e = rw e refl

pub push : {X Y : Type 0} (f : X → List Y) (xs : List X) (x : X) → flat_map f (xs ++ x ∷ []) ≡ flat_map f xs ++ f x
push f xs x = flat_map-append f xs (x ∷ []) ∙ ap (λ y. flat_map f xs ++ y) (append-nil (f x))

push_none : {X Y : Type 0} (f : X → List Y) (xs : List X) (x : X) → f x ≡ [] → flat_map f (xs ++ x ∷ []) ≡ flat_map f xs
push_none f xs x e = push f xs x ∙ ap (λ y. flat_map f xs ++ y) e ∙ append-nil (flat_map f xs)

push_one : {X Y : Type 0} (f : X → List Y) (xs : List X) (x : X) (y : Y) → f x ≡ y ∷ [] → flat_map f (xs ++ x ∷ []) ≡ flat_map f xs ++ y ∷ []
push_one f xs x y e = push f xs x ∙ ap (λ z. flat_map f xs ++ z) e

abbrev same_names : List (List ℕ) → List (List ℕ) → List (List ℕ) → List (List ℕ) → List (List ℕ) → List (List ℕ) → Taken
same_names a b c d e f = record { modules = a; wires = b; memories = c; cells = d; parameters = e; pins = f }

pub start_is : start ≡ canon false [] open_.File []
unfolding start no_names
start_is = refl

module _ (seen : Bool) (ms : List DocModule) where
  pub adv_autoidx : advance (canon seen ms open_.File []) says.Autoidx ≡ canon true ms open_.File []
  unfolding advance
  adv_autoidx = refl

  pub adv_attribute : (o : Open) (attrs : List DocAttr) (a : DocAttr) → advance (canon seen ms o attrs) (says.Attribute a) ≡ canon seen ms o (attrs ++ a ∷ [])
  unfolding advance with_attribute
  adv_attribute o attrs a = refl

  pub adv_module : (attrs : List DocAttr) (n : List ℕ) → has (map module_name ms) n ≡ false → advance (canon seen ms open_.File attrs) (says.Module n) ≡ canon seen ms (open_.Module (opened attrs n [])) []
  unfolding advance begin_module
  adv_module attrs n new = rw (name_added (map module_name ms) n new) refl

  module _ (at : List DocAttr) (mn : List ℕ) (is : List Item) where
    plain_names : (i : Item) → wire_name i ≡ [] → memory_name i ≡ [] → cell_name i ≡ [] → names_of ms (open_.Module (opened at mn is)) ≡ names_of ms (open_.Module (opened at mn (is ++ i ∷ [])))
    plain_names i a b c = rw (push_none wire_name is i a, push_none memory_name is i b, push_none cell_name is i c) refl

    pub adv_parameter : (attrs : List DocAttr) (p : DocParam) → advance (canon seen ms (open_.Module (opened at mn is)) attrs) (says.Parameter p) ≡ canon seen ms (open_.Module (opened at mn (is ++ item.Param p ∷ []))) attrs
    unfolding advance put_item with_item
    adv_parameter attrs p = ap (λ (t : Taken). record { modules = ms; current = open_.Module (opened at mn (is ++ item.Param p ∷ [])); attrs = attrs; autoidx = seen; names = t }) (plain_names (item.Param p) refl refl refl)

    pub adv_connect : (attrs : List DocAttr) (l r : List Part) → advance (canon seen ms (open_.Module (opened at mn is)) attrs) (says.Connect l r) ≡ canon seen ms (open_.Module (opened at mn (is ++ item.Connect l r ∷ []))) attrs
    unfolding advance put_item with_item
    adv_connect attrs l r = ap (λ (t : Taken). record { modules = ms; current = open_.Module (opened at mn (is ++ item.Connect l r ∷ [])); attrs = attrs; autoidx = seen; names = t }) (plain_names (item.Connect l r) refl refl refl)

    pub adv_wire : (attrs : List DocAttr) (w : DocWire) → has (flat_map wire_name is) w.name ≡ false
        → advance (canon seen ms (open_.Module (opened at mn is)) attrs) (says.Wire w) ≡ canon seen ms (open_.Module (opened at mn (is ++ item.Wire (record w { attrs = attrs }) ∷ []))) []
    unfolding advance put_wire with_item
    adv_wire attrs w new =
        let i = item.Wire (record w { attrs = attrs }) in
        rw (name_added (flat_map wire_name is) w.name new, push_one wire_name is i w.name refl, push_none memory_name is i refl, push_none cell_name is i refl) refl

    pub adv_memory : (attrs : List DocAttr) (m : DocMem) → has (flat_map memory_name is) m.name ≡ false
        → advance (canon seen ms (open_.Module (opened at mn is)) attrs) (says.Memory m) ≡ canon seen ms (open_.Module (opened at mn (is ++ item.Mem (record m { attrs = attrs }) ∷ []))) []
    unfolding advance put_memory with_item
    adv_memory attrs m new =
        let i = item.Mem (record m { attrs = attrs }) in
        rw (name_added (flat_map memory_name is) m.name new, push_none wire_name is i refl, push_one memory_name is i m.name refl, push_none cell_name is i refl) refl

    pub adv_cell : (attrs : List DocAttr) (k n : List ℕ) → has (flat_map cell_name is) n ≡ false
        → advance (canon seen ms (open_.Module (opened at mn is)) attrs) (says.Cell k n) ≡ canon seen ms (open_.Cell (opened at mn is) (begun attrs k n [])) []
    unfolding advance begin_cell cell_in
    adv_cell attrs k n new = rw (name_added (flat_map cell_name is) n new) refl

    pub adv_end : (attrs : List DocAttr) → advance (canon seen ms (open_.Module (opened at mn is)) attrs) says.End ≡ canon seen (ms ++ opened at mn is ∷ []) open_.File attrs
    unfolding advance end end_of no_names
    adv_end attrs = rw (map-append module_name ms (opened at mn is ∷ [])) refl

    module _ (ca : List DocAttr) (k n : List ℕ) (ls : List CellLine) (attrs : List DocAttr) where
      pub adv_cell_parameter : (p : DocParam) → has (flat_map parameter_name ls) p.name ≡ false
          → advance (canon seen ms (open_.Cell (opened at mn is) (begun ca k n ls)) attrs) (says.CellParameter p) ≡ canon seen ms (open_.Cell (opened at mn is) (begun ca k n (ls ++ line.Param p ∷ []))) attrs
      unfolding advance put_parameter with_line
      adv_cell_parameter p new = rw (name_added (flat_map parameter_name ls) p.name new, push_one parameter_name ls (line.Param p) p.name refl, push_none pin_name ls (line.Param p) refl) refl

      pub adv_pin : (m : List ℕ) (v : List Part) → has (flat_map pin_name ls) m ≡ false
          → advance (canon seen ms (open_.Cell (opened at mn is) (begun ca k n ls)) attrs) (says.Pin m v) ≡ canon seen ms (open_.Cell (opened at mn is) (begun ca k n (ls ++ line.Pin m v ∷ []))) attrs
      unfolding advance put_pin with_line
      adv_pin m v new = rw (name_added (flat_map pin_name ls) m new, push_none parameter_name ls (line.Pin m v) refl, push_one pin_name ls (line.Pin m v) m refl) refl

      pub adv_end_cell : advance (canon seen ms (open_.Cell (opened at mn is) (begun ca k n ls)) attrs) says.End ≡ canon seen ms (open_.Module (opened at mn (is ++ item.Cell (begun ca k n ls) ∷ []))) attrs
      unfolding advance end end_of
      adv_end_cell =
          let i = item.Cell (begun ca k n ls) in
          rw (push_none wire_name is i refl, push_none memory_name is i refl, push_one cell_name is i n refl) refl
