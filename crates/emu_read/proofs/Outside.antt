-- The cells outside a read, put together.
use Rattle.std.proofs.Common.{◌≡◌, ℕ, ◌+◌, ◌-◌, ◌*◌, ◌^◌, ◌<◌, ◌≤◌, List, [], ◌∷◌, ◌++◌, length, Some, refl, sym, ap, ◌∙◌, subst, arith, append_assoc}
use Rattle.net_core.specs.declared.bits.Bit.{Bit}
use Rattle.net_core.specs.declared.bits.Bit.TheVariants.{Net}
use Rattle.net_core.specs.declared.bits.Clock.{Clock}
use Rattle.net_core.specs.declared.cells.CombKind.TheVariants.{Mux}
use Rattle.net_core.specs.declared.cells.Comb.{Comb}
use Rattle.net_core.specs.declared.cells.Reg.{Reg}
use Rattle.net_edit.specs.Edits.{Editing, as_bits, AddsReg, AddsComb}
use Rattle.net_gates.specs.Cells.{logic_cell}
use Rattle.std.specs.Prelude.{slice_get}
use Rattle.std.proofs.lemmas.Option.{same_Some}
use Rattle.net_core.specs.declared.mems.Mem.{Mem}
use Rattle.net_core.specs.declared.mems.RdPort.{RdPort}
use Rattle.net_core.specs.declared.modules.Module.{Module}
use Rattle.net_core.proofs.Basics.{get_below}
use Rattle.net_edit.specs.Edits.{nets_from, bits_from, with_reg, with_comb, with_fresh, on_netlist, IsFresh}
use Rattle.fit_rules.specs.Bits.{room_bits}
use Rattle.rewriting.specs.Reads.{IsRead, EmulatesRead, LoadsAlways, loses_quiet_of}
use Rattle.emu_read.specs.Emulating.{emulated}
use Rattle.emu_read.specs.Joining.{with_port}
use Rattle.emu_read.proofs.EnableOutside.{some_data, enable_is_emulated}
use Rattle.emu_read.specs.Enable.{plain_reg, loads_always, EnableNames, enable_outside, loaded_reg, held_reg, with_free_read, AddsCells, PutsOutside, CanEmulate, Outlines, HasNewNets, EnableIsOutside}

pub cells_added : (old a b new : Editing) (clock : Clock) (en : Bit) (out q loaded held : List ℕ) (low high select flag shown : List Bit) → low ≡ as_bits held → high ≡ as_bits q → select ≡ as_bits loaded → flag ≡ en ∷ [] → shown ≡ as_bits out → AddsReg old a (plain_reg [] clock flag loaded) → AddsReg a b (plain_reg [] clock shown held) → AddsComb b new (logic_cell [] Mux low high select out) → AddsCells old new (plain_reg [] clock (en ∷ []) loaded) (plain_reg [] clock (as_bits out) held) (logic_cell [] Mux (as_bits held) (as_bits q) (as_bits loaded) out)
cells_added old a b new clock en out q loaded held low high select flag shown e1 e2 e3 e4 e5 one two three = record {
  after_first = a;
  after_second = b;
  one = subst (λ z. AddsReg old a (plain_reg [] clock z loaded)) e4 one;
  two = subst (λ z. AddsReg a b (plain_reg [] clock z held)) e5 two;
  three = transport_comb;
}
  where
    transport_comb : AddsComb b new (logic_cell [] Mux (as_bits held) (as_bits q) (as_bits loaded) out)
    transport_comb = subst (λ z. AddsComb b new (logic_cell [] Mux (as_bits held) (as_bits q) z out)) e3 (subst (λ z. AddsComb b new (logic_cell [] Mux (as_bits held) z select out)) e2 (subst (λ z. AddsComb b new (logic_cell [] Mux z high select out)) e1 three))

-- ---- what the call takes

module _ (m : Module) (k j : ℕ) (can : CanEmulate m k j) (memory : Mem) (port : RdPort) (there : slice_get m.mems k ≡ Some memory) where
  memory_is : memory ≡ can.mem
  memory_is = same_Some memory can.mem (sym there ∙ can.is.mem)

  pub read_below : j < length memory.reads
  read_below = subst (λ (y : Mem). j < length y.reads) (sym memory_is) (get_below can.mem.reads j can.port can.is.read)

  module _ (here : slice_get memory.reads j ≡ Some port) where
    port_is : port ≡ can.port
    port_is = same_Some port can.port (sym here ∙ ap (λ (y : Mem). slice_get y.reads j) memory_is ∙ can.is.read)

    room_here : m.nets + (length port.out + length port.out + 1) ≤ 67108864
    room_here =
        let some = some_data can.lib can.modules m k j can.mem can.port can.is.mem can.is.read can.valid in
        let long : length port.out ≡ length can.port.out = ap (λ (r : RdPort). length r.out) port_is in
        let room : m.nets + 4 * (room_bits can.mem can.port.wide + length can.port.out) ≤ 67108864 = can.room in
        omega (arith, some, long, room)

    pub width_few : (out : List ℕ) → out ≡ port.out → length out < 2 ^ 32
    width_few out e = let l = room_here in let long = ap length e in omega (arith, l, long)

    pub clock_there : port.clock ≡ Some can.clock
    clock_there = ap (λ (r : RdPort). r.clock) port_is ∙ can.clocked

    pub outlined : (clock : Clock) (out : List ℕ) (width : ℕ) → port.clock ≡ Some clock → out ≡ port.out → width ≡ length out → Outlines m k j clock port.en out width
    outlined clock out width clocked e wide = record {
      mem = memory;
      port = port;
      is = record { mem = there; read = here };
      clocked = clocked;
      enable = refl;
      nets = e;
      wide = wide ∙ ap length e;
      room = let l = room_here in let long = wide ∙ ap length e in omega (arith, l, long);
    }

-- ---- all steps

module _ (old mid : Editing) (k j : ℕ) (x : Mem) (p : RdPort) (clock : Clock) (quiet : List ℕ) where
  abbrev first : ℕ
  first = old.netlist.nets

  abbrev width : ℕ
  width = length p.out

  abbrev freed_edit : Editing
  freed_edit = record { netlist = with_free_read old.netlist k j x p quiet; reads = old.reads ++ bits_from first (width + width + 1) }

  abbrev flag_given : Reg
  flag_given = plain_reg [] clock (p.en ∷ []) ((first + width + width) ∷ [])

  abbrev held_given : Reg
  held_given = plain_reg [] clock (as_bits p.out) (nets_from (first + width) width)

  abbrev choice_given : Comb
  choice_given = logic_cell [] Mux (bits_from (first + width) width) (bits_from first width) (Net (first + width + width) ∷ []) p.out

  pub puts : (new : Editing) → AddsCells freed_edit new flag_given held_given choice_given → PutsOutside old new k j x p clock quiet
  puts new cells =
      let names : EnableNames = record { loaded = cells.one.name; held = cells.two.name; choice = cells.three.name } in
      let a : cells.after_first ≡ record { netlist = with_reg freed_edit.netlist (loaded_reg first clock p names); reads = freed_edit.reads } = cells.one.added in
      let b : cells.after_second ≡ record { netlist = with_reg (with_reg freed_edit.netlist (loaded_reg first clock p names)) (held_reg first clock p names); reads = freed_edit.reads } = cells.two.added ∙ (λ i. record { netlist = with_reg (a i).netlist (held_reg first clock p names); reads = (a i).reads }) in
      let c : new ≡ record { netlist = with_comb (with_reg (with_reg freed_edit.netlist (loaded_reg first clock p names)) (held_reg first clock p names)) (record choice_given { name = names.choice }); reads = freed_edit.reads } = cells.three.added ∙ (λ i. record { netlist = with_comb (b i).netlist (record choice_given { name = names.choice }); reads = (b i).reads }) in
      record {
        names = names;
        fresh = record {
          loaded = cells.one.fresh;
          held = subst (λ (e : Editing). IsFresh e.netlist names.held) a cells.two.fresh;
          choice = subst (λ (e : Editing). IsFresh e.netlist names.choice) b cells.three.fresh;
        };
        netlist = ap (λ (e : Editing). e.netlist) c ∙ (λ i. record (emulated old.netlist k x j (loads_always quiet p (nets_from first width)) (enable_outside first clock p names)) { regs = append_assoc old.netlist.regs (loaded_reg first clock p names ∷ []) (held_reg first clock p names ∷ []) i });
        reads = ap (λ (e : Editing). e.reads) c;
      }

pub outside_put : (old mid freed new : Editing) (k j : ℕ) (quiet : List ℕ) (clock c : Clock) (en : Bit) (out : List ℕ) (width : ℕ) (q held loaded copied : List ℕ) (x : Mem) (p : RdPort) → Outlines old.netlist k j clock en out width → mid ≡ with_fresh old (width + width + 1) → q ≡ nets_from old.netlist.nets width → held ≡ nets_from (old.netlist.nets + width) width → loaded ≡ nets_from (old.netlist.nets + width + width) 1 → copied ≡ q → ((y : Mem) (r : RdPort) → IsRead mid.netlist k j y r → freed ≡ on_netlist mid (with_port mid.netlist k y j (loads_always quiet r copied))) → AddsCells freed new (plain_reg [] clock (en ∷ []) loaded) (plain_reg [] clock (as_bits out) held) (logic_cell [] Mux (as_bits held) (as_bits q) (as_bits loaded) out) → IsRead old.netlist k j x p → p.clock ≡ Some c → PutsOutside old new k j x p c quiet
outside_put old mid freed new k j quiet clock c en out width q held loaded copied x p o e1 hq hh hl hc free cells is clocked =
    let mem_is : o.mem ≡ x = same_Some o.mem x (sym o.is.mem ∙ is.mem) in
    let port_is : o.port ≡ p = same_Some o.port p (sym o.is.read ∙ ap (λ (y : Mem). slice_get y.reads j) mem_is ∙ is.read) in
    let clock_is : clock ≡ c = same_Some clock c (sym o.clocked ∙ ap (λ (r : RdPort). r.clock) port_is ∙ clocked) in
    let en_is : en ≡ p.en = o.enable ∙ ap (λ (r : RdPort). r.en) port_is in
    let out_is : out ≡ p.out = o.nets ∙ ap (λ (r : RdPort). r.out) port_is in
    let width_is : width ≡ length p.out = o.wide ∙ ap (λ (r : RdPort). length r.out) port_is in
    let n = old.netlist.nets in
    let q_is : q ≡ nets_from n (length p.out) = hq ∙ ap (nets_from n) width_is in
    let held_is : held ≡ nets_from (n + length p.out) (length p.out) = hh ∙ (λ i. nets_from (n + width_is i) (width_is i)) in
    let loaded_is : loaded ≡ (n + length p.out + length p.out) ∷ [] = hl ∙ (λ i. (n + width_is i + width_is i) ∷ []) in
    let there : mid ≡ with_fresh old (length p.out + length p.out + 1) = e1 ∙ (λ i. with_fresh old (width_is i + width_is i + 1)) in
    let read_there : IsRead mid.netlist k j x p = subst (λ (e : Editing). IsRead e.netlist k j x p) (sym there) (record { mem = is.mem; read = is.read }) in
    let freed_is : freed ≡ freed_edit old mid k j x p c quiet = free x p read_there ∙ (λ i. on_netlist (there i) (with_port (there i).netlist k x j (loads_always quiet p ((hc ∙ q_is) i)))) in
    let first_is : plain_reg [] clock (en ∷ []) loaded ≡ flag_given old mid k j x p c quiet = (λ i. plain_reg [] (clock_is i) (en_is i ∷ []) (loaded_is i)) in
    let second_is : plain_reg [] clock (as_bits out) held ≡ held_given old mid k j x p c quiet = (λ i. plain_reg [] (clock_is i) (as_bits (out_is i)) (held_is i)) in
    let third_is : logic_cell [] Mux (as_bits held) (as_bits q) (as_bits loaded) out ≡ choice_given old mid k j x p c quiet = (λ i. logic_cell [] Mux (as_bits (held_is i)) (as_bits (q_is i)) (as_bits (loaded_is i)) (out_is i)) in
    let one = subst (λ z. AddsCells z new (plain_reg [] clock (en ∷ []) loaded) (plain_reg [] clock (as_bits out) held) (logic_cell [] Mux (as_bits held) (as_bits q) (as_bits loaded) out)) freed_is cells in
    let two = subst (λ z. AddsCells (freed_edit old mid k j x p c quiet) new z (plain_reg [] clock (as_bits out) held) (logic_cell [] Mux (as_bits held) (as_bits q) (as_bits loaded) out)) first_is one in
    let three = subst (λ z. AddsCells (freed_edit old mid k j x p c quiet) new (flag_given old mid k j x p c quiet) z (logic_cell [] Mux (as_bits held) (as_bits q) (as_bits loaded) out)) second_is two in
    puts old mid k j x p c quiet new (subst (λ z. AddsCells (freed_edit old mid k j x p c quiet) new (flag_given old mid k j x p c quiet) (held_given old mid k j x p c quiet) z) third_is three)

-- ---- what the call promises

module _ (old new : Editing) (k j : ℕ) (quiet : List ℕ) (can : CanEmulate old.netlist k j) (put : (x : Mem) (p : RdPort) (clock : Clock) → IsRead old.netlist k j x p → p.clock ≡ Some clock → PutsOutside old new k j x p clock quiet) where
  pub enable_promised : EnableIsOutside quiet k j old.netlist new.netlist
  enable_promised lib modules x p clock plain valid calm =
      let made = put x p clock plain.is plain.clocked in
      let o = outlined old.netlist k j can x p plain.is.mem plain.is.read clock p.out (length p.out) plain.clocked refl refl in
      subst (λ z. EmulatesRead lib modules k j x p (LoadsAlways quiet) (loses_quiet_of j) old.netlist z) (sym made.netlist) (enable_is_emulated lib modules old.netlist k j x p clock quiet made.names plain can.within valid o.room made.fresh calm)

  pub nets_promised : HasNewNets old new
  nets_promised =
      let made = put can.mem can.port can.clock can.is can.clocked in
      let count = length can.port.out + length can.port.out + 1 in
      let nets : new.netlist.nets ≡ old.netlist.nets + count = ap (λ (m : Module). m.nets) made.netlist in
      let more : count ≡ new.netlist.nets - old.netlist.nets = omega (arith, nets) in
      (omega (arith, nets), made.reads ∙ ap (λ n. old.reads ++ bits_from old.netlist.nets n) more)
