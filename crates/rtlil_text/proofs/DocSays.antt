-- What the grammar says of a document is read so.
use Rattle.std.proofs.Common.{◌≡◌, ℕ, zero, suc, ◌+◌, ◌≤◌, Bool, true, false, List, [], ◌∷◌, ◌++◌, length, map, Result, Ok, Err, refl, sym, ap, subst, ◌∙◌, append_assoc, append-nil, arith}
use Rattle.std.specs.List.{flat_map}
use Rattle.std.proofs.lemmas.List.{map-append}
use Rattle.std.proofs.lemmas.List.Concat.{flat_map-append}
use Rattle.rtlil_lex.specs.declared.token.Token.{Token}
use Rattle.rtlil_text.specs.declared.doc.CellLine.{CellLine}
use Rattle.rtlil_text.specs.declared.doc.CellLine.TheVariants as line
use Rattle.rtlil_text.specs.declared.doc.Doc.{Doc}
use Rattle.rtlil_text.specs.declared.doc.DocAttr.{DocAttr}
use Rattle.rtlil_text.specs.declared.doc.DocModule.{DocModule}
use Rattle.rtlil_text.specs.declared.doc.Item.{Item}
use Rattle.rtlil_text.specs.declared.doc.Item.TheVariants as item
use Rattle.rtlil_text.specs.declared.doc.Part.{Part}
use Rattle.rtlil_text.specs.declared.doc.Part.TheVariants as part
use Rattle.rtlil_text.specs.declared.fault.Refusal.{Refusal}
use Rattle.rtlil_text.specs.declared.place.Statement.{Statement}
use Rattle.rtlil_text.specs.declared.place.Statement.TheVariants as says
use Rattle.rtlil_text.specs.declared.state.Open.{Open}
use Rattle.rtlil_text.specs.declared.state.Open.TheVariants as open_
use Rattle.rtlil_text.specs.declared.state.State.{State}
use Rattle.rtlil_text.specs.Grammar.{NestsWithin, attributes, line_statement, cell_begin, item_statements, module_begin, module_statements, IsFile, modules_alone, with_autoidx, has, AreNew, AreDistinct, wire_name, memory_name, cell_name, parameter_name, pin_name, module_name, All, HasNewNames, HasNewItems, HasNewModules, EachSays, no_lines, more_lines, written, Spells, StatementNests, DocNests}
use Rattle.rtlil_text.specs.Read.{◌>>=◌, steps}
use Rattle.rtlil_text.specs.ReadLine.{statement_at, finish as line_end}
use Rattle.rtlil_text.specs.ReadState.{start, advance}
use Rattle.rtlil_text.specs.ReadText.{line_at, run}
use Rattle.rtlil_text.proofs.LineFound.{AttributesAt, Allowed}
use Rattle.rtlil_text.proofs.LineSays.{says_read}
use Rattle.rtlil_text.proofs.Advance.{canon, opened, begun, start_is, adv_autoidx, adv_attribute, adv_module, adv_parameter, adv_connect, adv_wire, adv_memory, adv_cell, adv_end, adv_cell_parameter, adv_pin, adv_end_cell}

-- statements, each allowed where it stands
pub data Follows : ℕ → State → List Statement → State → Type 0 where
  stays : {limit : ℕ} {st : State} → Follows limit st [] st
  goes : {limit : ℕ} {st last : State} {s : Statement} {ss : List Statement} → Allowed limit st s → Follows limit (advance st s) ss last → Follows limit st (s ∷ ss) last

then : (limit : ℕ) (st mid last : State) (a b : List Statement) → Follows limit st a mid → Follows limit mid b last → Follows limit st (a ++ b) last
then limit st mid last a b stays k = k
then limit st mid last a b (goes {s = s} {ss = ss} h f) k = goes h (then limit (advance st s) mid last ss b f k)

one : (limit : ℕ) (st n : State) (s : Statement) → Allowed limit st s → advance st s ≡ n → Follows limit st (s ∷ []) n
one limit st n s h e = goes h (subst (λ (x : State). Follows limit (advance st s) [] x) e stays)

-- ---- names that are new where they stand

new_there : (before a b : List (List ℕ)) (n : List ℕ) → AreNew before (a ++ n ∷ b) → has (before ++ a) n ≡ false
new_there before [] b n h = subst (λ (x : List (List ℕ)). has x n ≡ false) (sym (append-nil before)) h.0
new_there before (m ∷ a) b n h = subst (λ (x : List (List ℕ)). has x n ≡ false) (append_assoc before (m ∷ []) a) (new_there (before ++ m ∷ []) a b n h.1)

-- of what comes behind, by the name of the first
new_first : {X : Type 0} (f : X → List (List ℕ)) (before xs : List X) (x : X) (n : List ℕ) → f x ≡ n ∷ [] → AreDistinct (flat_map f (before ++ x ∷ xs)) → has (flat_map f before) n ≡ false
new_first f before xs x n e h =
    let same : flat_map f (before ++ x ∷ xs) ≡ flat_map f before ++ n ∷ flat_map f xs = flat_map-append f before (x ∷ xs) ∙ ap (λ (y : List (List ℕ)). flat_map f before ++ (y ++ flat_map f xs)) e in
    new_there [] (flat_map f before) (flat_map f xs) n (subst AreDistinct same h)

pub all_split : {X : Type 0} (P : X → Type 0) (a b : List X) → All P (a ++ b) → All P a × All P b
all_split P [] b h = (tt, h)
all_split P (x ∷ a) b h = let k = all_split P a b h.1 in ((h.0, k.0), k.1)

module _ (limit : ℕ) (seen : Bool) (ms : List DocModule) where
  abbrev at : Open → List DocAttr → State
  at o attrs = canon seen ms o attrs

  follow_attributes : (o : Open) (attrs more : List DocAttr) → AttributesAt o → Follows limit (canon seen ms o attrs) (attributes more) (canon seen ms o (attrs ++ more))
  follow_attributes o attrs [] h = subst (λ (x : List DocAttr). Follows limit (canon seen ms o attrs) [] (canon seen ms o x)) (sym (append-nil attrs)) stays
  follow_attributes o attrs (a ∷ more) h =
      then limit (canon seen ms o attrs) (canon seen ms o (attrs ++ a ∷ [])) (canon seen ms o (attrs ++ a ∷ more)) (says.Attribute a ∷ []) (attributes more)
      (one limit (canon seen ms o attrs) (canon seen ms o (attrs ++ a ∷ [])) (says.Attribute a) h (adv_attribute seen ms o attrs a))
      (subst (λ (x : List DocAttr). Follows limit (canon seen ms o (attrs ++ a ∷ [])) (attributes more) (canon seen ms o x)) (append_assoc attrs (a ∷ []) more) (follow_attributes o (attrs ++ a ∷ []) more h))

  module _ (ma : List DocAttr) (mn : List ℕ) where
    abbrev in_cell : List Item → List DocAttr → List ℕ → List ℕ → List CellLine → State
    in_cell is ca k n ls = canon seen ms (open_.Cell (opened ma mn is) (begun ca k n ls)) []

    abbrev in_module : List Item → State
    in_module is = canon seen ms (open_.Module (opened ma mn is)) []

    follow_line : (is : List Item) (ca : List DocAttr) (k n : List ℕ) (before ls : List CellLine) (l : CellLine) → AreDistinct (flat_map parameter_name (before ++ l ∷ ls)) → AreDistinct (flat_map pin_name (before ++ l ∷ ls)) → StatementNests limit (line_statement l)
        → Follows limit (in_cell is ca k n before) (line_statement l ∷ []) (in_cell is ca k n (before ++ l ∷ []))
    follow_line is ca k n before ls (line.Param p) a b h =
        let new = new_first parameter_name before ls (line.Param p) p.name refl a in
        one limit (in_cell is ca k n before) (in_cell is ca k n (before ++ line.Param p ∷ [])) (says.CellParameter p) (tt, new) (adv_cell_parameter seen ms ma mn is ca k n before [] p new)
    follow_line is ca k n before ls (line.Pin m v) a b h =
        let new = new_first pin_name before ls (line.Pin m v) m refl b in
        one limit (in_cell is ca k n before) (in_cell is ca k n (before ++ line.Pin m v ∷ [])) (says.Pin m v) (tt, new, h) (adv_pin seen ms ma mn is ca k n before [] m v new)

    follow_lines : (is : List Item) (ca : List DocAttr) (k n : List ℕ) (before ls : List CellLine) → AreDistinct (flat_map parameter_name (before ++ ls)) → AreDistinct (flat_map pin_name (before ++ ls)) → All (StatementNests limit) (map line_statement ls)
        → Follows limit (in_cell is ca k n before) (map line_statement ls) (in_cell is ca k n (before ++ ls))
    follow_lines is ca k n before [] a b h = subst (λ (x : List CellLine). Follows limit (in_cell is ca k n before) [] (in_cell is ca k n x)) (sym (append-nil before)) stays
    follow_lines is ca k n before (l ∷ ls) a b h =
        let on : (before ++ l ∷ []) ++ ls ≡ before ++ l ∷ ls = append_assoc before (l ∷ []) ls in
        then limit (in_cell is ca k n before) (in_cell is ca k n (before ++ l ∷ [])) (in_cell is ca k n (before ++ l ∷ ls)) (line_statement l ∷ []) (map line_statement ls)
        (follow_line is ca k n before ls l a b h.0)
        (subst (λ (x : List CellLine). Follows limit (in_cell is ca k n (before ++ l ∷ [])) (map line_statement ls) (in_cell is ca k n x)) on
        (follow_lines is ca k n (before ++ l ∷ []) ls (subst (λ (x : List CellLine). AreDistinct (flat_map parameter_name x)) (sym on) a) (subst (λ (x : List CellLine). AreDistinct (flat_map pin_name x)) (sym on) b) h.1))

    follow_item : (before is : List Item) (i : Item) → AreDistinct (flat_map wire_name (before ++ i ∷ is)) → AreDistinct (flat_map memory_name (before ++ i ∷ is)) → AreDistinct (flat_map cell_name (before ++ i ∷ is)) → HasNewNames i → All (StatementNests limit) (item_statements i)
        → Follows limit (in_module before) (item_statements i) (in_module (before ++ i ∷ []))
    follow_item before is (item.Param p) a b c k h = one limit (in_module before) (in_module (before ++ item.Param p ∷ [])) (says.Parameter p) (tt, refl) (adv_parameter seen ms ma mn before [] p)
    follow_item before is (item.Connect l r) a b c k h = one limit (in_module before) (in_module (before ++ item.Connect l r ∷ [])) (says.Connect l r) (tt, refl, h.0.0, h.0.1) (adv_connect seen ms ma mn before [] l r)
    follow_item before is (item.Wire w) a b c k h =
        let new = new_first wire_name before is (item.Wire w) w.name refl a in
        let o = open_.Module (opened ma mn before) in
        then limit (in_module before) (canon seen ms o w.attrs) (in_module (before ++ item.Wire w ∷ [])) (attributes w.attrs) (says.Wire (record w { attrs = [] }) ∷ [])
        (follow_attributes o [] w.attrs tt)
        (one limit (canon seen ms o w.attrs) (in_module (before ++ item.Wire w ∷ [])) (says.Wire (record w { attrs = [] })) (tt, new) (adv_wire seen ms ma mn before w.attrs (record w { attrs = [] }) new))
    follow_item before is (item.Mem m) a b c k h =
        let new = new_first memory_name before is (item.Mem m) m.name refl b in
        let o = open_.Module (opened ma mn before) in
        then limit (in_module before) (canon seen ms o m.attrs) (in_module (before ++ item.Mem m ∷ [])) (attributes m.attrs) (says.Memory (record m { attrs = [] }) ∷ [])
        (follow_attributes o [] m.attrs tt)
        (one limit (canon seen ms o m.attrs) (in_module (before ++ item.Mem m ∷ [])) (says.Memory (record m { attrs = [] })) (tt, new) (adv_memory seen ms ma mn before m.attrs (record m { attrs = [] }) new))
    follow_item before is (item.Cell x) a b c k h =
        let new = new_first cell_name before is (item.Cell x) x.name refl c in
        let o = open_.Module (opened ma mn before) in
        let first = then limit (in_module before) (canon seen ms o x.attrs) (in_cell before x.attrs x.kind x.name []) (attributes x.attrs) (says.Cell x.kind x.name ∷ [])
        (follow_attributes o [] x.attrs tt)
        (one limit (canon seen ms o x.attrs) (in_cell before x.attrs x.kind x.name []) (says.Cell x.kind x.name) (tt, new) (adv_cell seen ms ma mn before x.attrs x.kind x.name new)) in
        let nests = all_split (StatementNests limit) (map line_statement x.lines) (says.End ∷ []) (all_split (StatementNests limit) (cell_begin x) (map line_statement x.lines ++ says.End ∷ []) h).1 in
        let last = then limit (in_cell before x.attrs x.kind x.name []) (in_cell before x.attrs x.kind x.name x.lines) (in_module (before ++ item.Cell x ∷ [])) (map line_statement x.lines) (says.End ∷ [])
        (follow_lines before x.attrs x.kind x.name [] x.lines k.parameters k.pins nests.0)
        (one limit (in_cell before x.attrs x.kind x.name x.lines) (in_module (before ++ item.Cell x ∷ [])) says.End tt (adv_end_cell seen ms ma mn before x.attrs x.kind x.name x.lines [])) in
        then limit (in_module before) (in_cell before x.attrs x.kind x.name []) (in_module (before ++ item.Cell x ∷ [])) (cell_begin x) (map line_statement x.lines ++ says.End ∷ []) first last

    follow_items : (before is : List Item) → AreDistinct (flat_map wire_name (before ++ is)) → AreDistinct (flat_map memory_name (before ++ is)) → AreDistinct (flat_map cell_name (before ++ is)) → All HasNewNames is → All (StatementNests limit) (flat_map item_statements is)
        → Follows limit (in_module before) (flat_map item_statements is) (in_module (before ++ is))
    follow_items before [] a b c k h = subst (λ (x : List Item). Follows limit (in_module before) [] (in_module x)) (sym (append-nil before)) stays
    follow_items before (i ∷ is) a b c k h =
        let on : (before ++ i ∷ []) ++ is ≡ before ++ i ∷ is = append_assoc before (i ∷ []) is in
        let n = all_split (StatementNests limit) (item_statements i) (flat_map item_statements is) h in
        then limit (in_module before) (in_module (before ++ i ∷ [])) (in_module (before ++ i ∷ is)) (item_statements i) (flat_map item_statements is)
        (follow_item before is i a b c k.0 n.0)
        (subst (λ (x : List Item). Follows limit (in_module (before ++ i ∷ [])) (flat_map item_statements is) (in_module x)) on
        (follow_items (before ++ i ∷ []) is (subst (λ (x : List Item). AreDistinct (flat_map wire_name x)) (sym on) a) (subst (λ (x : List Item). AreDistinct (flat_map memory_name x)) (sym on) b) (subst (λ (x : List Item). AreDistinct (flat_map cell_name x)) (sym on) c) k.1 n.1))

  follow_module : (m : DocModule) → has (map module_name ms) m.name ≡ false → HasNewItems m.items → All (StatementNests limit) (module_statements m)
      → Follows limit (canon seen ms open_.File []) (module_statements m) (canon seen (ms ++ m ∷ []) open_.File [])
  follow_module m new k h =
      let first = then limit (canon seen ms open_.File []) (canon seen ms open_.File m.attrs) (in_module m.attrs m.name []) (attributes m.attrs) (says.Module m.name ∷ [])
      (follow_attributes open_.File [] m.attrs tt)
      (one limit (canon seen ms open_.File m.attrs) (in_module m.attrs m.name []) (says.Module m.name) (tt, new) (adv_module seen ms m.attrs m.name new)) in
      let nests = all_split (StatementNests limit) (flat_map item_statements m.items) (says.End ∷ []) (all_split (StatementNests limit) (module_begin m) (flat_map item_statements m.items ++ says.End ∷ []) h).1 in
      let last = then limit (in_module m.attrs m.name []) (in_module m.attrs m.name m.items) (canon seen (ms ++ m ∷ []) open_.File []) (flat_map item_statements m.items) (says.End ∷ [])
      (follow_items m.attrs m.name [] m.items k.wires k.memories k.cells k.inside nests.0)
      (one limit (in_module m.attrs m.name m.items) (canon seen (ms ++ m ∷ []) open_.File []) says.End refl (adv_end seen ms m.attrs m.name m.items [])) in
      then limit (canon seen ms open_.File []) (in_module m.attrs m.name []) (canon seen (ms ++ m ∷ []) open_.File []) (module_begin m) (flat_map item_statements m.items ++ says.End ∷ []) first last

module_first : (before ms : List DocModule) (m : DocModule) → AreDistinct (map module_name (before ++ m ∷ ms)) → has (map module_name before) m.name ≡ false
module_first before ms m h = new_there [] (map module_name before) (map module_name ms) m.name (subst AreDistinct (map-append module_name before (m ∷ ms)) h)

follow_modules : (limit : ℕ) (seen : Bool) (before ms : List DocModule) → AreDistinct (map module_name (before ++ ms)) → All (λ m. HasNewItems m.items) ms → All (StatementNests limit) (flat_map module_statements ms)
    → Follows limit (canon seen before open_.File []) (flat_map module_statements ms) (canon seen (before ++ ms) open_.File [])
follow_modules limit seen before [] a k h = subst (λ (x : List DocModule). Follows limit (canon seen before open_.File []) [] (canon seen x open_.File [])) (sym (append-nil before)) stays
follow_modules limit seen before (m ∷ ms) a k h =
    let on : (before ++ m ∷ []) ++ ms ≡ before ++ m ∷ ms = append_assoc before (m ∷ []) ms in
    let n = all_split (StatementNests limit) (module_statements m) (flat_map module_statements ms) h in
    then limit (canon seen before open_.File []) (canon seen (before ++ m ∷ []) open_.File []) (canon seen (before ++ m ∷ ms) open_.File []) (module_statements m) (flat_map module_statements ms)
    (follow_module limit seen before m (module_first before ms m a) k.0 n.0)
    (subst (λ (x : List DocModule). Follows limit (canon seen (before ++ m ∷ []) open_.File []) (flat_map module_statements ms) (canon seen x open_.File [])) on
    (follow_modules limit seen (before ++ m ∷ []) ms (subst (λ (x : List DocModule). AreDistinct (map module_name x)) (sym on) a) k.1 n.1))

distinct_front : (before a b : List (List ℕ)) → AreNew before (a ++ b) → AreNew before a
distinct_front before [] b h = tt
distinct_front before (n ∷ a) b h = (h.0, distinct_front (before ++ n ∷ []) a b h.1)

follow_file : (limit : ℕ) (seen : Bool) (ms : List DocModule) (ss : List Statement) → IsFile seen ms ss → HasNewModules ms → All (StatementNests limit) (flat_map module_statements ms) → Follows limit (canon false [] open_.File []) ss (canon seen ms open_.File [])
follow_file limit seen ms ss (modules_alone xs) k h = follow_modules limit false [] xs k.modules k.inside h
follow_file limit seen ms ss (with_autoidx before behind) k h =
    let n = all_split (StatementNests limit) (flat_map module_statements before) (flat_map module_statements behind) (subst (λ (x : List Statement). All (StatementNests limit) x) (flat_map-append module_statements before behind) h) in
    let i = all_split (λ (m : DocModule). HasNewItems m.items) before behind k.inside in
    let d : AreDistinct (map module_name before) = distinct_front [] (map module_name before) (map module_name behind) (subst AreDistinct (map-append module_name before behind) k.modules) in
    then limit (canon false [] open_.File []) (canon false before open_.File []) (canon true (before ++ behind) open_.File []) (flat_map module_statements before) (says.Autoidx ∷ flat_map module_statements behind)
    (follow_modules limit false [] before d i.0 n.0)
    (then limit (canon false before open_.File []) (canon true before open_.File []) (canon true (before ++ behind) open_.File []) (says.Autoidx ∷ []) (flat_map module_statements behind)
    (one limit (canon false before open_.File []) (canon true before open_.File []) says.Autoidx (tt, refl, refl) (adv_autoidx false before))
    (follow_modules limit true before behind k.modules i.1 n.1))

-- ---- lines

pub run_nil : (limit : ℕ) (st : State) → run limit st [] ≡ Ok st
unfolding run
run_nil limit st = refl

pub run_line : (limit : ℕ) (st : State) (s : Statement) (ts : List Token) (tss : List (List Token)) → statement_at limit st ts ≡ Ok s → run limit st (ts ∷ tss) ≡ run limit (advance st s) tss
unfolding run line_at
run_line limit st s ts tss e = rw e refl

run_says : (limit : ℕ) (st last : State) (ss : List Statement) (tss : List (List Token)) → EachSays ss tss → Follows limit st ss last → run limit st tss ≡ Ok last
run_says limit st last ss tss no_lines stays = run_nil limit st
run_says limit st last ss tss (more_lines {s = s} {ss = rs} {ts = ts} {tss = us} w rest) (goes h f) = run_line limit st s ts us (says_read limit st s ts w h) ∙ run_says limit (advance st s) last rs us rest f

pub blank_line : (limit : ℕ) (st : State) → line_at limit st [] ≡ Ok st
unfolding line_at steps line_end advance
blank_line limit st = refl

after_line : (r : Result State Refusal) (f g : State → Result State Refusal) → ((s : State) → f s ≡ g s) → (r >>= f) ≡ (r >>= g)
after_line (Ok s) f g h = h s
after_line (Err c) f g h = refl

-- lines without tokens say nothing
pub blanks : (limit : ℕ) (st : State) (tss : List (List Token)) → run limit st tss ≡ run limit st (written tss)
unfolding run
blanks limit st [] = refl
blanks limit st ([] ∷ tss) = rw (blank_line limit st) (blanks limit st tss)
blanks limit st ((t ∷ ts) ∷ tss) = after_line (line_at limit st (t ∷ ts)) (λ next. run limit next tss) (λ next. run limit next (written tss)) (λ next. blanks limit next tss)

pub document_says : (limit : ℕ) (d : Doc) (tss : List (List Token)) (s : Spells d tss) → DocNests limit d → run limit start tss ≡ Ok (canon s.autoidx d.modules open_.File [])
document_says limit d tss s h =
    blanks limit start tss
    ∙ ap (λ (x : State). run limit x (written tss)) start_is
    ∙ run_says limit (canon false [] open_.File []) (canon s.autoidx d.modules open_.File []) s.statements (written tss) s.lines (follow_file limit s.autoidx d.modules s.statements s.order s.names h)

-- ---- some depth serves

room_for : (room : ℕ) (ps : List Part) → length ps ≤ room → NestsWithin room ps
room_for room [] h = tt
room_for zero (part.Begin ∷ ps) h = absurd (omega arith)
room_for (suc room) (part.Begin ∷ ps) h = room_for room ps (omega arith)
room_for room (part.End ∷ ps) h = room_for (suc room) ps (omega arith)
room_for room (part.Fixed c ∷ ps) h = room_for room ps (omega arith)
room_for room (part.Wire n ∷ ps) h = room_for room ps (omega arith)
room_for room (part.Slice hi lo ∷ ps) h = room_for room ps (omega arith)

abbrev size : Statement → ℕ
size (says.Connect l r) = length l + length r
size (says.Pin n v) = length v
size s = 0

statement_room : (room : ℕ) (s : Statement) → size s ≤ room → StatementNests room s
statement_room room (says.Connect l r) h = (room_for room l (omega arith), room_for room r (omega arith))
statement_room room (says.Pin n v) h = room_for room v h
statement_room room s h = tt

abbrev sizes : List Statement → ℕ
sizes [] = 64
sizes (s ∷ ss) = size s + sizes ss

all_room : (room : ℕ) (ss : List Statement) → sizes ss ≤ room → All (StatementNests room) ss
all_room room [] h = tt
all_room room (s ∷ ss) h = (statement_room room s (omega arith), all_room room ss (omega arith))

at_least : (ss : List Statement) → 64 ≤ sizes ss
at_least [] = omega arith
at_least (s ∷ ss) = omega (arith, at_least ss)

pub some_depth : (d : Doc) → (limit : ℕ) × (64 ≤ limit) × DocNests limit d
some_depth d = let ss = flat_map module_statements d.modules in (sizes ss, at_least ss, all_room (sizes ss) ss (omega arith))
