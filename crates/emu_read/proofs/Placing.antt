-- Memories and reads by their places, and new nets in three steps.
use Rattle.std.proofs.Common.{◌≡◌, ℕ, zero, suc, ◌+◌, ◌-◌, ◌<◌, List, [], ◌∷◌, ◌++◌, length, set, take, drop, get_or, Some, refl, sym, ap, ◌∙◌, arith, append_assoc}
use Rattle.std.specs.Prelude.{slice_get}
use Rattle.std.proofs.lemmas.Option.{slice_get-get_or, same_Some}
use Rattle.net_core.specs.declared.mems.Mem.{Mem}
use Rattle.net_core.specs.declared.mems.RdPort.{RdPort}
use Rattle.net_edit.specs.Edits.{Editing, with_mems, spliced, on_netlist, bits_from, with_fresh}
use Rattle.net_gates.proofs.Composing.{bits_joined}
use Rattle.rewriting.specs.Reads.{with_read, IsRead}
use Rattle.emu_read.specs.Enable.{loads_always}
use Rattle.emu_read.specs.Joining.{with_port}

pub found : {X : Type 0} (xs : List X) (i : ℕ) (d : X) → i < length xs → slice_get xs i ≡ Some (get_or xs i d)
found xs i d l = slice_get-get_or xs i d l

spliced_one : {X : Type 0} (xs : List X) (i : ℕ) (y : X) → i < length xs → spliced xs i (y ∷ []) ≡ set xs i y
spliced_one [] i y l = absurd (omega (arith, l))
spliced_one (x ∷ xs) zero y l = refl
spliced_one (x ∷ xs) (suc i) y l =
    let e : suc i + 1 ≡ suc (i + 1) = omega arith in
    ap (λ n. (x ∷ take i xs) ++ (y ∷ drop n (x ∷ xs))) e ∙ ap (λ l. x ∷ l) (spliced_one xs i y (omega (arith, l)))

-- new nets in three steps
bits_more : (a p q : ℕ) → bits_from a (p + q) ≡ bits_from a p ++ bits_from (a + p) q
bits_more a p q =
    let e : a + (p + q) - a ≡ p + q = omega arith in
    let f : a + p - a ≡ p = omega arith in
    let g : a + (p + q) - (a + p) ≡ q = omega arith in
    ap (bits_from a) (sym e) ∙ bits_joined a (a + p) (a + (p + q)) (omega arith) (omega arith) ∙ (λ i. bits_from a (f i) ++ bits_from (a + p) (g i))

fresh_twice : (e : Editing) (p q : ℕ) → with_fresh (with_fresh e p) q ≡ with_fresh e (p + q)
fresh_twice e p q =
    let nets : e.netlist.nets + p + q ≡ e.netlist.nets + (p + q) = omega arith in
    let reads : (e.reads ++ bits_from e.netlist.nets p) ++ bits_from (e.netlist.nets + p) q ≡ e.reads ++ bits_from e.netlist.nets (p + q) = append_assoc e.reads (bits_from e.netlist.nets p) (bits_from (e.netlist.nets + p) q) ∙ ap (λ l. e.reads ++ l) (sym (bits_more e.netlist.nets p q)) in
    (λ i. record { netlist = record e.netlist { nets = nets i }; reads = reads i })

pub three_fresh : (a b c d : Editing) (w : ℕ) → b ≡ with_fresh a w → c ≡ with_fresh b w → d ≡ with_fresh c 1 → d ≡ with_fresh a (w + w + 1)
three_fresh a b c d w e f g = g ∙ ap (λ z. with_fresh z 1) (f ∙ ap (λ z. with_fresh z w) e ∙ fresh_twice a w w) ∙ fresh_twice a (w + w) 1

-- the module with another read, as the calls make it
pub freed : (old new : Editing) (k j : ℕ) (quiet q : List ℕ) (memory copied after : Mem) (port read : RdPort) (list : List Mem) (x : Mem) (p : RdPort) → slice_get old.netlist.mems k ≡ Some memory → copied ≡ memory → slice_get copied.reads j ≡ Some port → read ≡ loads_always quiet port q → after ≡ with_read copied j read → list ≡ after ∷ [] → k < length old.netlist.mems → new ≡ on_netlist old (with_mems old.netlist k list) → IsRead old.netlist k j x p → new ≡ on_netlist old (with_port old.netlist k x j (loads_always quiet p q))
freed old new k j quiet q memory copied after port read list x p at copy here made put one l placed is =
    let mem_is : copied ≡ x = copy ∙ same_Some memory x (sym at ∙ is.mem) in
    let port_is : port ≡ p = same_Some port p (sym here ∙ ap (λ (z : Mem). slice_get z.reads j) mem_is ∙ is.read) in
    let read_is : read ≡ loads_always quiet p q = made ∙ ap (λ z. loads_always quiet z q) port_is in
    let after_is : after ≡ with_read x j (loads_always quiet p q) = put ∙ (λ i. with_read (mem_is i) j (read_is i)) in
    let mems : spliced old.netlist.mems k list ≡ set old.netlist.mems k (with_read x j (loads_always quiet p q)) = ap (spliced old.netlist.mems k) (one ∙ ap (λ z. z ∷ []) after_is) ∙ spliced_one old.netlist.mems k (with_read x j (loads_always quiet p q)) l in
    placed ∙ (λ i. record { netlist = record old.netlist { mems = mems i }; reads = old.reads })
