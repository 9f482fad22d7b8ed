-- What was read so far is what the grammar says of the lines so far.
use Rattle.std.proofs.Common.{◌≡◌, ℕ, Bool, true, false, List, [], ◌∷◌, ◌++◌, map, Ok, refl, sym, ap, subst, ◌∙◌, append_assoc, append-nil}
use Rattle.std.specs.List.{flat_map}
use Rattle.std.proofs.lemmas.List.{map-append}
use Rattle.rtlil_lex.specs.declared.token.Token.{Token}
use Rattle.rtlil_text.specs.declared.doc.CellLine.{CellLine}
use Rattle.rtlil_text.specs.declared.doc.CellLine.TheVariants as line
use Rattle.rtlil_text.specs.declared.doc.DocAttr.{DocAttr}
use Rattle.rtlil_text.specs.declared.doc.DocCell.{DocCell}
use Rattle.rtlil_text.specs.declared.doc.DocMem.{DocMem}
use Rattle.rtlil_text.specs.declared.doc.DocModule.{DocModule}
use Rattle.rtlil_text.specs.declared.doc.DocParam.{DocParam}
use Rattle.rtlil_text.specs.declared.doc.DocWire.{DocWire}
use Rattle.rtlil_text.specs.declared.doc.Item.{Item}
use Rattle.rtlil_text.specs.declared.doc.Item.TheVariants as item
use Rattle.rtlil_text.specs.declared.doc.Part.{Part}
use Rattle.rtlil_text.specs.declared.place.Statement.{Statement}
use Rattle.rtlil_text.specs.declared.place.Statement.TheVariants as says
use Rattle.rtlil_text.specs.declared.state.Open.{Open}
use Rattle.rtlil_text.specs.declared.state.Open.TheVariants as open_
use Rattle.rtlil_text.specs.declared.state.State.{State}
use Rattle.rtlil_text.specs.Grammar.{NestsWithin, Says, wire_line, memory, with_wire_options, plain_wire, with_mem_options, plain_mem, WireOption, MemOption, with_wire_option, with_mem_option, width, offset, input, output, inout, upto, signed, mem_width, mem_size, mem_offset, attributes, line_statement, cell_begin, item_statements, module_begin, module_statements, IsFile, modules_alone, with_autoidx, has, AreNew, AreDistinct, wire_name, memory_name, cell_name, parameter_name, pin_name, module_name, All, HasNewLines, HasNewNames, HasNewItems, HasNewModules, EachSays, no_lines, more_lines, nonblank, written, StatementNests}
use Rattle.rtlil_text.specs.Read.{steps}
use Rattle.rtlil_text.specs.ReadLine.{statement_at, finish as line_end}
use Rattle.rtlil_text.specs.ReadState.{start, advance}
use Rattle.rtlil_text.specs.ReadText.{line_at, run}
use Rattle.rtlil_text.proofs.Steps.{bind_ok, done, ok_is}
use Rattle.rtlil_text.proofs.LineFound.{AtCell, AttributesAt, Allowed, SaysOrBlank, statement_found}
use Rattle.rtlil_text.proofs.Advance.{canon, opened, begun, push, start_is, adv_autoidx, adv_attribute, adv_module, adv_parameter, adv_connect, adv_wire, adv_memory, adv_cell, adv_end, adv_cell_parameter, adv_pin, adv_end_cell}

-- ---- one more at the end

new_more : (before ns : List (List ℕ)) (n : List ℕ) → AreNew before ns → has (before ++ ns) n ≡ false → AreNew before (ns ++ n ∷ [])
new_more before [] n h e = (subst (λ (x : List (List ℕ)). has x n ≡ false) (append-nil before) e, tt)
new_more before (m ∷ ns) n h e = (h.0, new_more (before ++ m ∷ []) ns n h.1 (subst (λ (x : List (List ℕ)). has x n ≡ false) (sym (append_assoc before (m ∷ []) ns)) e))

pub distinct_more : (ns : List (List ℕ)) (n : List ℕ) → AreDistinct ns → has ns n ≡ false → AreDistinct (ns ++ n ∷ [])
distinct_more ns n h e = new_more [] ns n h e

pub all_more : {X : Type 0} (P : X → Type 0) (xs : List X) (x : X) → All P xs → P x → All P (xs ++ x ∷ [])
all_more P [] x h k = (k, tt)
all_more P (y ∷ xs) x h k = (h.0, all_more P xs x h.1 k)

says_more : (ss : List Statement) (tss : List (List Token)) (s : Statement) (ts : List Token) → EachSays ss tss → Says s ts → EachSays (ss ++ s ∷ []) (tss ++ ts ∷ [])
says_more ss tss s ts no_lines h = more_lines h no_lines
says_more ss tss s ts (more_lines {s = r} {ss = rs} {ts = us} {tss = uss} first rest) h = more_lines first (says_more rs uss s ts rest h)

file_more : (seen : Bool) (ms : List DocModule) (ss : List Statement) (m : DocModule) → IsFile seen ms ss → IsFile seen (ms ++ m ∷ []) (ss ++ module_statements m)
file_more seen ms ss m (modules_alone xs) = subst (λ (x : List Statement). IsFile false (xs ++ m ∷ []) x) (push module_statements xs m) (modules_alone (xs ++ m ∷ []))
file_more seen ms ss m (with_autoidx before behind) =
    let k = with_autoidx before (behind ++ m ∷ []) in
    let statements : flat_map module_statements before ++ (says.Autoidx ∷ flat_map module_statements (behind ++ m ∷ [])) ≡ (flat_map module_statements before ++ (says.Autoidx ∷ flat_map module_statements behind)) ++ module_statements m =
    ap (λ (x : List Statement). flat_map module_statements before ++ (says.Autoidx ∷ x)) (push module_statements behind m) ∙ sym (append_assoc (flat_map module_statements before) (says.Autoidx ∷ flat_map module_statements behind) (module_statements m)) in
    subst (λ (x : List DocModule). IsFile true x ((flat_map module_statements before ++ (says.Autoidx ∷ flat_map module_statements behind)) ++ module_statements m)) (sym (append_assoc before behind (m ∷ []))) (subst (λ (x : List Statement). IsFile true (before ++ (behind ++ m ∷ [])) x) statements k)

autoidx_more : (seen : Bool) (ms : List DocModule) (ss : List Statement) → seen ≡ false → IsFile seen ms ss → IsFile true ms (ss ++ says.Autoidx ∷ [])
autoidx_more seen ms ss e (modules_alone xs) = subst (λ (x : List DocModule). IsFile true x (flat_map module_statements xs ++ says.Autoidx ∷ [])) (append-nil xs) (with_autoidx xs [])
autoidx_more seen ms ss e (with_autoidx before behind) = absurd cc

-- ---- what was read so far

abbrev pub begun_statements : Open → List Statement
begun_statements open_.File = []
begun_statements (open_.Module m) = module_begin m ++ flat_map item_statements m.items
begun_statements (open_.Cell m c) = (module_begin m ++ flat_map item_statements m.items) ++ (cell_begin c ++ map line_statement c.lines)

pub record NewModule (ms : List DocModule) (m : DocModule) : Type 0 where
  pub name : AreDistinct (map module_name ms ++ m.name ∷ [])
  pub items : HasNewItems m.items

pub record NewCell (ms : List DocModule) (m : DocModule) (c : DocCell) : Type 0 where
  pub around : NewModule ms m
  pub name : AreDistinct (flat_map cell_name m.items ++ c.name ∷ [])
  pub lines : HasNewLines c.lines

abbrev pub NewOpen : List DocModule → Open → Type 0
NewOpen ms open_.File = Unit {0}
NewOpen ms (open_.Module m) = NewModule ms m
NewOpen ms (open_.Cell m c) = NewCell ms m c

pub record Spelled (limit : ℕ) (seen : Bool) (ms : List DocModule) (o : Open) (attrs : List DocAttr) (ss : List Statement) : Type 0 where
  pub ended : List Statement
  pub order : IsFile seen ms ended
  pub parts : ss ≡ ended ++ (begun_statements o ++ attributes attrs)
  pub names : HasNewModules ms
  pub new : NewOpen ms o
  pub tidy : AtCell o → attrs ≡ []
  pub nests : All (StatementNests limit) ss

pub record Canonical (limit : ℕ) (st : State) (ss : List Statement) : Type 0 where
  pub seen : Bool
  pub ms : List DocModule
  pub o : Open
  pub attrs : List DocAttr
  pub is : st ≡ canon seen ms o attrs
  pub spelled : Spelled limit seen ms o attrs ss

no_wire_attrs : (os : List WireOption) (w : DocWire) → (with_wire_options w os).attrs ≡ w.attrs
no_wire_attrs [] w = refl
no_wire_attrs (width n ∷ os) w = no_wire_attrs os (with_wire_option (width n) w)
no_wire_attrs (offset z ∷ os) w = no_wire_attrs os (with_wire_option (offset z) w)
no_wire_attrs (input n ∷ os) w = no_wire_attrs os (with_wire_option (input n) w)
no_wire_attrs (output n ∷ os) w = no_wire_attrs os (with_wire_option (output n) w)
no_wire_attrs (inout n ∷ os) w = no_wire_attrs os (with_wire_option (inout n) w)
no_wire_attrs (upto ∷ os) w = no_wire_attrs os (with_wire_option upto w)
no_wire_attrs (signed ∷ os) w = no_wire_attrs os (with_wire_option signed w)

no_mem_attrs : (os : List MemOption) (m : DocMem) → (with_mem_options m os).attrs ≡ m.attrs
no_mem_attrs [] m = refl
no_mem_attrs (mem_width n ∷ os) m = no_mem_attrs os (with_mem_option (mem_width n) m)
no_mem_attrs (mem_size n ∷ os) m = no_mem_attrs os (with_mem_option (mem_size n) m)
no_mem_attrs (mem_offset n ∷ os) m = no_mem_attrs os (with_mem_option (mem_offset n) m)

-- what a line says of a wire or a memory says nothing of attributes
abbrev pub Bare : Statement → Type 0
Bare (says.Wire w) = w.attrs ≡ []
Bare (says.Memory m) = m.attrs ≡ []
Bare s = Unit {0}

plain_wire_bare : plain_wire.attrs ≡ []
unfolding plain_wire
plain_wire_bare = refl

plain_mem_bare : plain_mem.attrs ≡ []
unfolding plain_mem
plain_mem_bare = refl

pub says_bare : (s : Statement) (ts : List Token) → Says s ts → Bare s
says_bare s ts (wire_line os n) = no_wire_attrs os plain_wire ∙ plain_wire_bare
says_bare s ts (memory os n) = no_mem_attrs os plain_mem ∙ plain_mem_bare
says_bare s ts h = tt

-- ---- one more line

module _ (limit : ℕ) (seen : Bool) (ms : List DocModule) (ss : List Statement) where
  nest_more : (s : Statement) → All (StatementNests limit) ss → StatementNests limit s → All (StatementNests limit) (ss ++ s ∷ [])
  nest_more s h k = all_more (StatementNests limit) ss s h k

  found_autoidx : seen ≡ false → Spelled limit seen ms open_.File [] ss → Canonical limit (advance (canon seen ms open_.File []) says.Autoidx) (ss ++ says.Autoidx ∷ [])
  found_autoidx e p = record {
    seen = true;
    ms = ms;
    o = open_.File;
    attrs = [];
    is = adv_autoidx seen ms;
    spelled = record {
      ended = p.ended ++ says.Autoidx ∷ [];
      order = autoidx_more seen ms p.ended e p.order;
      parts = ap (λ (x : List Statement). x ++ says.Autoidx ∷ []) (p.parts ∙ append-nil p.ended) ∙ sym (append-nil (p.ended ++ says.Autoidx ∷ []));
      names = p.names;
      new = tt;
      tidy = λ h. refl;
      nests = nest_more says.Autoidx p.nests tt;
    };
  }

  found_attribute : (o : Open) (attrs : List DocAttr) (a : DocAttr) → AttributesAt o → Spelled limit seen ms o attrs ss → Canonical limit (advance (canon seen ms o attrs) (says.Attribute a)) (ss ++ says.Attribute a ∷ [])
  found_attribute o attrs a h p = record {
    seen = seen;
    ms = ms;
    o = o;
    attrs = attrs ++ a ∷ [];
    is = adv_attribute seen ms o attrs a;
    spelled = record {
      ended = p.ended;
      order = p.order;
      parts = ap (λ (x : List Statement). x ++ says.Attribute a ∷ []) p.parts ∙ rw (map-append (λ x. says.Attribute x) attrs (a ∷ [])) (simp append_assoc);
      names = p.names;
      new = p.new;
      tidy = λ c. absurd (apart o h c);
      nests = nest_more (says.Attribute a) p.nests tt;
    };
  } where
    apart : (q : Open) → AttributesAt q → AtCell q → ⊥
    apart open_.File x y = y
    apart (open_.Module m) x y = y
    apart (open_.Cell m c) x y = x

  found_module : (attrs : List DocAttr) (n : List ℕ) → has (map module_name ms) n ≡ false → Spelled limit seen ms open_.File attrs ss → Canonical limit (advance (canon seen ms open_.File attrs) (says.Module n)) (ss ++ says.Module n ∷ [])
  found_module attrs n new p = record {
    seen = seen;
    ms = ms;
    o = open_.Module (opened attrs n []);
    attrs = [];
    is = adv_module seen ms attrs n new;
    spelled = record {
      ended = p.ended;
      order = p.order;
      parts = ap (λ (x : List Statement). x ++ says.Module n ∷ []) p.parts ∙ simp (append_assoc, append-nil);
      names = p.names;
      new = record { name = distinct_more (map module_name ms) n p.names.modules new; items = record { wires = tt; memories = tt; cells = tt; inside = tt } };
      tidy = λ h. refl;
      nests = nest_more (says.Module n) p.nests tt;
    };
  }

  module _ (ma : List DocAttr) (mn : List ℕ) (is : List Item) where
    -- one more item, whose last line says s
    item_more : (attrs : List DocAttr) (i : Item) (s : Statement) → attributes attrs ++ s ∷ [] ≡ item_statements i → HasNewItems (is ++ i ∷ []) → StatementNests limit s
        → Spelled limit seen ms (open_.Module (opened ma mn is)) attrs ss → Spelled limit seen ms (open_.Module (opened ma mn (is ++ i ∷ []))) [] (ss ++ s ∷ [])
    item_more attrs i s e new n p = record {
      ended = p.ended;
      order = p.order;
      parts =
          let b = module_begin (opened ma mn is) in
          let f = flat_map item_statements is in
          let one : ss ++ s ∷ [] ≡ p.ended ++ (((b ++ f) ++ (attributes attrs ++ s ∷ [])) ++ []) = ap (λ (x : List Statement). x ++ s ∷ []) p.parts ∙ simp (append_assoc, append-nil) in
          let two : (b ++ f) ++ (attributes attrs ++ s ∷ []) ≡ b ++ flat_map item_statements (is ++ i ∷ []) = append_assoc b f (attributes attrs ++ s ∷ []) ∙ ap (λ (x : List Statement). b ++ (f ++ x)) e ∙ ap (λ (x : List Statement). b ++ x) (sym (push item_statements is i)) in
          one ∙ ap (λ (x : List Statement). p.ended ++ (x ++ [])) two;
      names = p.names;
      new = record { name = p.new.name; items = new };
      tidy = λ h. refl;
      nests = nest_more s p.nests n;
    }

    -- the names of one more item
    names_more : (i : Item) → HasNewItems is → AreDistinct (flat_map wire_name is ++ wire_name i) → AreDistinct (flat_map memory_name is ++ memory_name i) → AreDistinct (flat_map cell_name is ++ cell_name i) → HasNewNames i → HasNewItems (is ++ i ∷ [])
    names_more i h a b c k = record {
      wires = subst AreDistinct (sym (push wire_name is i)) a;
      memories = subst AreDistinct (sym (push memory_name is i)) b;
      cells = subst AreDistinct (sym (push cell_name is i)) c;
      inside = all_more HasNewNames is i h.inside k;
    }

    same : (ns : List (List ℕ)) → AreDistinct ns → AreDistinct (ns ++ [])
    same ns h = subst AreDistinct (sym (append-nil ns)) h

    found_parameter : (q : DocParam) → Spelled limit seen ms (open_.Module (opened ma mn is)) [] ss → Canonical limit (advance (canon seen ms (open_.Module (opened ma mn is)) []) (says.Parameter q)) (ss ++ says.Parameter q ∷ [])
    found_parameter q p = record {
      seen = seen;
      ms = ms;
      o = open_.Module (opened ma mn (is ++ item.Param q ∷ []));
      attrs = [];
      is = adv_parameter seen ms ma mn is [] q;
      spelled = let h = p.new.items in item_more [] (item.Param q) (says.Parameter q) refl (names_more (item.Param q) h (same _ h.wires) (same _ h.memories) (same _ h.cells) tt) tt p;
    }

    found_connect : (l r : List Part) → NestsWithin limit l → NestsWithin limit r → Spelled limit seen ms (open_.Module (opened ma mn is)) [] ss → Canonical limit (advance (canon seen ms (open_.Module (opened ma mn is)) []) (says.Connect l r)) (ss ++ says.Connect l r ∷ [])
    found_connect l r nl nr p = record {
      seen = seen;
      ms = ms;
      o = open_.Module (opened ma mn (is ++ item.Connect l r ∷ []));
      attrs = [];
      is = adv_connect seen ms ma mn is [] l r;
      spelled = let h = p.new.items in item_more [] (item.Connect l r) (says.Connect l r) refl (names_more (item.Connect l r) h (same _ h.wires) (same _ h.memories) (same _ h.cells) tt) (nl, nr) p;
    }

    found_wire : (attrs : List DocAttr) (w : DocWire) → w.attrs ≡ [] → has (flat_map wire_name is) w.name ≡ false → Spelled limit seen ms (open_.Module (opened ma mn is)) attrs ss → Canonical limit (advance (canon seen ms (open_.Module (opened ma mn is)) attrs) (says.Wire w)) (ss ++ says.Wire w ∷ [])
    found_wire attrs w bare new p =
        let i = item.Wire (record w { attrs = attrs }) in
        let h = p.new.items in
        let last : attributes attrs ++ says.Wire w ∷ [] ≡ item_statements i = ap (λ (x : List DocAttr). attributes attrs ++ says.Wire (record w { attrs = x }) ∷ []) bare in
        record {
          seen = seen;
          ms = ms;
          o = open_.Module (opened ma mn (is ++ i ∷ []));
          attrs = [];
          is = adv_wire seen ms ma mn is attrs w new;
          spelled = item_more attrs i (says.Wire w) last (names_more i h (distinct_more (flat_map wire_name is) w.name h.wires new) (same _ h.memories) (same _ h.cells) tt) tt p;
        }

    found_memory : (attrs : List DocAttr) (m : DocMem) → m.attrs ≡ [] → has (flat_map memory_name is) m.name ≡ false → Spelled limit seen ms (open_.Module (opened ma mn is)) attrs ss → Canonical limit (advance (canon seen ms (open_.Module (opened ma mn is)) attrs) (says.Memory m)) (ss ++ says.Memory m ∷ [])
    found_memory attrs m bare new p =
        let i = item.Mem (record m { attrs = attrs }) in
        let h = p.new.items in
        let last : attributes attrs ++ says.Memory m ∷ [] ≡ item_statements i = ap (λ (x : List DocAttr). attributes attrs ++ says.Memory (record m { attrs = x }) ∷ []) bare in
        record {
          seen = seen;
          ms = ms;
          o = open_.Module (opened ma mn (is ++ i ∷ []));
          attrs = [];
          is = adv_memory seen ms ma mn is attrs m new;
          spelled = item_more attrs i (says.Memory m) last (names_more i h (same _ h.wires) (distinct_more (flat_map memory_name is) m.name h.memories new) (same _ h.cells) tt) tt p;
        }

    found_cell : (attrs : List DocAttr) (k n : List ℕ) → has (flat_map cell_name is) n ≡ false → Spelled limit seen ms (open_.Module (opened ma mn is)) attrs ss → Canonical limit (advance (canon seen ms (open_.Module (opened ma mn is)) attrs) (says.Cell k n)) (ss ++ says.Cell k n ∷ [])
    found_cell attrs k n new p = record {
      seen = seen;
      ms = ms;
      o = open_.Cell (opened ma mn is) (begun attrs k n []);
      attrs = [];
      is = adv_cell seen ms ma mn is attrs k n new;
      spelled = record {
        ended = p.ended;
        order = p.order;
        parts = ap (λ (x : List Statement). x ++ says.Cell k n ∷ []) p.parts ∙ simp (append_assoc, append-nil);
        names = p.names;
        new = record { around = p.new; name = distinct_more (flat_map cell_name is) n p.new.items.cells new; lines = record { parameters = tt; pins = tt } };
        tidy = λ h. refl;
        nests = nest_more (says.Cell k n) p.nests tt;
      };
    }

    found_end : Spelled limit seen ms (open_.Module (opened ma mn is)) [] ss → Canonical limit (advance (canon seen ms (open_.Module (opened ma mn is)) []) says.End) (ss ++ says.End ∷ [])
    found_end p =
        let m = opened ma mn is in
        record {
          seen = seen;
          ms = ms ++ m ∷ [];
          o = open_.File;
          attrs = [];
          is = adv_end seen ms ma mn is [];
          spelled = record {
            ended = p.ended ++ module_statements m;
            order = file_more seen ms p.ended m p.order;
            parts = ap (λ (x : List Statement). x ++ says.End ∷ []) p.parts ∙ simp (append_assoc, append-nil);
            names = record {
              modules = subst AreDistinct (sym (map-append module_name ms (m ∷ []))) p.new.name;
              inside = all_more (λ (x : DocModule). HasNewItems x.items) ms m p.names.inside p.new.items;
            };
            new = tt;
            tidy = λ h. refl;
            nests = nest_more says.End p.nests tt;
          };
        }

    module _ (ca : List DocAttr) (k n : List ℕ) (ls : List CellLine) where
      cell_line_more : (l : CellLine) → HasNewLines (ls ++ l ∷ []) → StatementNests limit (line_statement l) → Spelled limit seen ms (open_.Cell (opened ma mn is) (begun ca k n ls)) [] ss
          → Spelled limit seen ms (open_.Cell (opened ma mn is) (begun ca k n (ls ++ l ∷ []))) [] (ss ++ line_statement l ∷ [])
      cell_line_more l new nest p = record {
        ended = p.ended;
        order = p.order;
        parts = ap (λ (x : List Statement). x ++ line_statement l ∷ []) p.parts ∙ rw (map-append line_statement ls (l ∷ [])) (simp (append_assoc, append-nil));
        names = p.names;
        new = record { around = p.new.around; name = p.new.name; lines = new };
        tidy = λ h. refl;
        nests = nest_more (line_statement l) p.nests nest;
      }

      found_cell_parameter : (q : DocParam) → has (flat_map parameter_name ls) q.name ≡ false → Spelled limit seen ms (open_.Cell (opened ma mn is) (begun ca k n ls)) [] ss
          → Canonical limit (advance (canon seen ms (open_.Cell (opened ma mn is) (begun ca k n ls)) []) (says.CellParameter q)) (ss ++ says.CellParameter q ∷ [])
      found_cell_parameter q new p = record {
        seen = seen;
        ms = ms;
        o = open_.Cell (opened ma mn is) (begun ca k n (ls ++ line.Param q ∷ []));
        attrs = [];
        is = adv_cell_parameter seen ms ma mn is ca k n ls [] q new;
        spelled = cell_line_more (line.Param q) (record {
          parameters = subst AreDistinct (sym (push parameter_name ls (line.Param q))) (distinct_more (flat_map parameter_name ls) q.name p.new.lines.parameters new);
          pins = subst AreDistinct (sym (push pin_name ls (line.Param q))) (same (flat_map pin_name ls) p.new.lines.pins);
        }) tt p;
      }

      found_pin : (m : List ℕ) (v : List Part) → has (flat_map pin_name ls) m ≡ false → NestsWithin limit v → Spelled limit seen ms (open_.Cell (opened ma mn is) (begun ca k n ls)) [] ss
          → Canonical limit (advance (canon seen ms (open_.Cell (opened ma mn is) (begun ca k n ls)) []) (says.Pin m v)) (ss ++ says.Pin m v ∷ [])
      found_pin m v new nest p = record {
        seen = seen;
        ms = ms;
        o = open_.Cell (opened ma mn is) (begun ca k n (ls ++ line.Pin m v ∷ []));
        attrs = [];
        is = adv_pin seen ms ma mn is ca k n ls [] m v new;
        spelled = cell_line_more (line.Pin m v) (record {
          parameters = subst AreDistinct (sym (push parameter_name ls (line.Pin m v))) (same (flat_map parameter_name ls) p.new.lines.parameters);
          pins = subst AreDistinct (sym (push pin_name ls (line.Pin m v))) (distinct_more (flat_map pin_name ls) m p.new.lines.pins new);
        }) nest p;
      }

      found_end_cell : Spelled limit seen ms (open_.Cell (opened ma mn is) (begun ca k n ls)) [] ss → Canonical limit (advance (canon seen ms (open_.Cell (opened ma mn is) (begun ca k n ls)) []) says.End) (ss ++ says.End ∷ [])
      found_end_cell p =
          let i = item.Cell (begun ca k n ls) in
          let h = p.new.around.items in
          record {
            seen = seen;
            ms = ms;
            o = open_.Module (opened ma mn (is ++ i ∷ []));
            attrs = [];
            is = adv_end_cell seen ms ma mn is ca k n ls [];
            spelled = record {
              ended = p.ended;
              order = p.order;
              parts = ap (λ (x : List Statement). x ++ says.End ∷ []) p.parts ∙ rw (push item_statements is i) (simp (append_assoc, append-nil));
              names = p.names;
              new = record { name = p.new.around.name; items = names_more i h (same _ h.wires) (same _ h.memories) p.new.name p.new.lines };
              tidy = λ x. refl;
              nests = nest_more says.End p.nests tt;
            };
          }

-- ---- lines

abbrev Goes : ℕ → Bool → List DocModule → Open → List DocAttr → List Statement → Statement → Type 0
Goes limit seen ms o attrs ss s = Canonical limit (advance (canon seen ms o attrs) s) (ss ++ s ∷ [])

advance_found : (limit : ℕ) (seen : Bool) (ms : List DocModule) (o : Open) (attrs : List DocAttr) (ss : List Statement) (s : Statement) (ts : List Token) → Says s ts → Allowed limit (canon seen ms o attrs) s → Spelled limit seen ms o attrs ss → Goes limit seen ms o attrs ss s
advance_found limit seen ms o attrs ss says.Blank ts w h p = elim w [ ]
advance_found limit seen ms open_.File attrs ss says.Autoidx ts w h p = subst (λ (x : List DocAttr). Spelled limit seen ms open_.File x ss → Goes limit seen ms open_.File x ss says.Autoidx) (sym h.1) (found_autoidx limit seen ms ss h.2) p
advance_found limit seen ms o attrs ss (says.Attribute a) ts w h p = found_attribute limit seen ms ss o attrs a h p
advance_found limit seen ms open_.File attrs ss (says.Module n) ts w h p = found_module limit seen ms ss attrs n h.1 p
advance_found limit seen ms (open_.Module m) attrs ss (says.Parameter q) ts w h p = subst (λ (x : List DocAttr). Spelled limit seen ms (open_.Module m) x ss → Goes limit seen ms (open_.Module m) x ss (says.Parameter q)) (sym h.1) (found_parameter limit seen ms ss m.attrs m.name m.items q) p
advance_found limit seen ms (open_.Module m) attrs ss (says.Wire v) ts w h p = found_wire limit seen ms ss m.attrs m.name m.items attrs v (says_bare (says.Wire v) ts w) h.1 p
advance_found limit seen ms (open_.Module m) attrs ss (says.Memory v) ts w h p = found_memory limit seen ms ss m.attrs m.name m.items attrs v (says_bare (says.Memory v) ts w) h.1 p
advance_found limit seen ms (open_.Module m) attrs ss (says.Cell k n) ts w h p = found_cell limit seen ms ss m.attrs m.name m.items attrs k n h.1 p
advance_found limit seen ms (open_.Module m) attrs ss (says.Connect l r) ts w h p = subst (λ (x : List DocAttr). Spelled limit seen ms (open_.Module m) x ss → Goes limit seen ms (open_.Module m) x ss (says.Connect l r)) (sym h.1) (found_connect limit seen ms ss m.attrs m.name m.items l r h.2 h.3) p
advance_found limit seen ms (open_.Cell m c) attrs ss (says.CellParameter q) ts w h p = subst (λ (x : List DocAttr). Spelled limit seen ms (open_.Cell m c) x ss → Goes limit seen ms (open_.Cell m c) x ss (says.CellParameter q)) (sym (p.tidy tt)) (found_cell_parameter limit seen ms ss m.attrs m.name m.items c.attrs c.kind c.name c.lines q h.1) p
advance_found limit seen ms (open_.Cell m c) attrs ss (says.Pin n v) ts w h p = subst (λ (x : List DocAttr). Spelled limit seen ms (open_.Cell m c) x ss → Goes limit seen ms (open_.Cell m c) x ss (says.Pin n v)) (sym (p.tidy tt)) (found_pin limit seen ms ss m.attrs m.name m.items c.attrs c.kind c.name c.lines n v h.1 h.2) p
advance_found limit seen ms (open_.Module m) attrs ss says.End ts w h p = subst (λ (x : List DocAttr). Spelled limit seen ms (open_.Module m) x ss → Goes limit seen ms (open_.Module m) x ss says.End) (sym h) (found_end limit seen ms ss m.attrs m.name m.items) p
advance_found limit seen ms (open_.Cell m c) attrs ss says.End ts w h p = subst (λ (x : List DocAttr). Spelled limit seen ms (open_.Cell m c) x ss → Goes limit seen ms (open_.Cell m c) x ss says.End) (sym (p.tidy tt)) (found_end_cell limit seen ms ss m.attrs m.name m.items c.attrs c.kind c.name c.lines) p
advance_found limit seen ms open_.File attrs ss says.End ts w h p = absurd h
advance_found limit seen ms o attrs ss s ts w h p = absurd h.0

-- what was read of lines
pub record ReadSoFar (limit : ℕ) (st : State) (tss : List (List Token)) : Type 0 where
  pub statements : List Statement
  pub lines : EachSays statements tss
  pub canonical : Canonical limit st statements

not_blank : (s : Statement) (t : Token) (ts : List Token) → SaysOrBlank s (t ∷ ts) → Says s (t ∷ ts)
not_blank says.Blank t ts h = absurd cc
not_blank says.Autoidx t ts h = h
not_blank (says.Attribute a) t ts h = h
not_blank (says.Module n) t ts h = h
not_blank (says.Parameter q) t ts h = h
not_blank (says.Wire w) t ts h = h
not_blank (says.Memory m) t ts h = h
not_blank (says.Cell k n) t ts h = h
not_blank (says.Connect l r) t ts h = h
not_blank (says.CellParameter q) t ts h = h
not_blank (says.Pin n v) t ts h = h
not_blank says.End t ts h = h

blank_is : (limit : ℕ) (st next : State) → line_at limit st [] ≡ Ok next → st ≡ next
unfolding line_at steps line_end advance
blank_is limit st next e = ok_is st next e

line_found : (limit : ℕ) (st next : State) (ts : List Token) (tss : List (List Token)) → line_at limit st ts ≡ Ok next → ReadSoFar limit st tss → ReadSoFar limit next (tss ++ nonblank ts)
unfolding line_at
line_found limit st next [] tss e r = subst (λ (x : State). ReadSoFar limit x (tss ++ [])) (blank_is limit st next e) (subst (λ (x : List (List Token)). ReadSoFar limit st x) (sym (append-nil tss)) r)
line_found limit st next (t ∷ ts) tss e r =
    let b = bind_ok (statement_at limit st (t ∷ ts)) (λ s. done (advance st s)) next e in
    let f = statement_found limit st b.0 (t ∷ ts) b.1 in
    let w = not_blank b.0 t ts f.0 in
    let c = r.canonical in
    let k = advance_found limit c.seen c.ms c.o c.attrs r.statements b.0 (t ∷ ts) w (subst (λ (x : State). Allowed limit x b.0) c.is f.1) c.spelled in
    let is : advance (canon c.seen c.ms c.o c.attrs) b.0 ≡ next = ap (λ (x : State). advance x b.0) (sym c.is) ∙ ok_is (advance st b.0) next b.2 in
    record {
      statements = r.statements ++ b.0 ∷ [];
      lines = says_more r.statements tss b.0 (t ∷ ts) r.lines w;
      canonical = subst (λ (x : State). Canonical limit x (r.statements ++ b.0 ∷ [])) is k;
    }

pub run_found : (limit : ℕ) (st last : State) (tss uss : List (List Token)) → run limit st uss ≡ Ok last → ReadSoFar limit st tss → ReadSoFar limit last (tss ++ written uss)
unfolding run
run_found limit st last tss [] e r = subst (λ (x : State). ReadSoFar limit x (tss ++ [])) (ok_is st last e) (subst (λ (x : List (List Token)). ReadSoFar limit st x) (sym (append-nil tss)) r)
run_found limit st last tss (ts ∷ uss) e r =
    let b = bind_ok (line_at limit st ts) (λ next. run limit next uss) last e in
    subst (λ (x : List (List Token)). ReadSoFar limit last x) (append_assoc tss (nonblank ts) (written uss)) (run_found limit b.0 last (tss ++ nonblank ts) uss b.2 (line_found limit st b.0 ts tss b.1 r))

pub nothing_read : (limit : ℕ) → ReadSoFar limit start []
nothing_read limit = record {
  statements = [];
  lines = no_lines;
  canonical = record {
    seen = false;
    ms = [];
    o = open_.File;
    attrs = [];
    is = start_is;
    spelled = record { ended = []; order = modules_alone []; parts = refl; names = record { modules = tt; inside = tt }; new = tt; tidy = λ h. refl; nests = tt };
  };
}
