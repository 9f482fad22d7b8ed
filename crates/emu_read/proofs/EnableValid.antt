-- A module in which the enable of a read stands outside is valid, and has an order.
use Rattle.std.proofs.Common.{◌≡◌, ℕ, zero, suc, ◌+◌, ◌*◌, ◌<◌, ◌≤◌, inl, inr, Bool, true, false, cond, not, ◌&&◌, ◌||◌, List, [], ◌∷◌, ◌++◌, length, Option, Some, None, refl, sym, ap, ◌∙◌, subst, arith, nat_lt, append_assoc}
use Rattle.std.specs.Prelude.{slice_get}
use Rattle.std.proofs.lemmas.Bool.Decides.{nat_tests}
use Rattle.std.proofs.lemmas.List.{length-map}
use Rattle.std.proofs.lemmas.Option.{same_Some, none-some}
use Rattle.lib_core.specs.declared.library.Library.{Library}
use Rattle.lib_core.specs.declared.library.Tri.TheVariants.{Any}
use Rattle.net_core.specs.declared.bits.Bit.{Bit}
use Rattle.net_core.specs.declared.bits.Bit.TheVariants.{Zero, One, Net}
use Rattle.net_core.specs.declared.bits.Clock.{Clock}
use Rattle.net_core.specs.declared.cells.Comb.{Comb}
use Rattle.net_core.specs.declared.cells.Reg.{Reg}
use Rattle.net_core.specs.declared.mems.Mem.{Mem}
use Rattle.net_core.specs.declared.mems.RdPort.{RdPort}
use Rattle.net_core.specs.declared.modules.Module.{Module}
use Rattle.net_core.specs.Nodes.{comb_node, reg_node, read_node, read_needs, nodes_of, HasNet, Rises, Ordered}
use Rattle.net_core.specs.Pins.{comb_bits}
use Rattle.net_core.specs.Ports.{Interface}
use Rattle.net_core.specs.Valid.{ReadFits, IsValid}
use Rattle.net_core.specs.Values.{bit_at}
use Rattle.net_core.proofs.Basics.{get_below, get_joined}
use Rattle.net_core.proofs.Ordering.{read_place}
use Rattle.net_core.proofs.Searching.{get_set_same}
use Rattle.net_edit.specs.Edits.{as_bits, nets_from, bits_from, with_nets, with_reg}
use Rattle.net_edit.specs.Laws.{IsUndriven}
use Rattle.net_edit.proofs.Lists.{Has, has_none, has_first}
use Rattle.net_edit.proofs.Ranges.{range_at, range_below}
use Rattle.net_gates.specs.Adds.{IsWithin}
use Rattle.net_gates.specs.Cells.{logic_cell}
use Rattle.net_core.specs.declared.cells.CombKind.TheVariants.{Mux}
use Rattle.net_core.specs.Drivers.{ReadOut}
use Rattle.net_gates.proofs.NewCell.{range_length}
use Rattle.rewriting.specs.Reads.{mask_without, mask_with, is_listed, with_read, IsRead}
use Rattle.emu_read.specs.Emulating.{Outside, emulated, spread, Rising}
use Rattle.emu_read.specs.Enable.{plain_reg, loads_always, EnableNames, enable_outside, IsPlainRead, AreNewNames}
use Rattle.emu_read.specs.Joining.{IsInside, CombJoins, RegJoins, ReadJoins, with_port}
use Rattle.emu_read.proofs.Insides.{new_inside, port_inside, out_inside, comb_counted, reg_counted, port_clock, clock_known, reg_undriven}
use Rattle.emu_read.proofs.Joined.{added_nets_is_valid, added_comb_is_valid, added_reg_is_valid}
use Rattle.emu_read.proofs.OtherRead.{left_undriven, still_undriven, other_read_is_valid}

-- ---- masks

without_length : (writes : List ℕ) (from : ℕ) (bits : List Bool) → length (mask_without writes from bits) ≡ length bits
without_length writes from [] = refl
without_length writes from (b ∷ bits) = ap suc (without_length writes (suc from) bits)

with_length : (writes : List ℕ) (from : ℕ) (bits : List Bool) → length (mask_with writes from bits) ≡ length bits
with_length writes from [] = refl
with_length writes from (b ∷ bits) = ap suc (with_length writes (suc from) bits)

one_of : (a b listed : Bool) → (a && b) ≡ false → ((a && not listed) && (b || listed)) ≡ false
one_of true true listed h = cc
one_of true false true h = refl
one_of true false false h = refl
one_of false b listed h = refl

still_one_mask : (writes : List ℕ) (from : ℕ) (trans coll : List Bool) → length trans ≡ length coll → ((k : ℕ) → (bit_at trans k && bit_at coll k) ≡ false) → (k : ℕ) → (bit_at (mask_without writes from trans) k && bit_at (mask_with writes from coll) k) ≡ false
still_one_mask writes from [] coll even h k = refl
still_one_mask writes from (a ∷ trans) [] even h k = absurd (omega (arith, even))
still_one_mask writes from (a ∷ trans) (b ∷ coll) even h zero = one_of a b (is_listed writes from) (h 0)
still_one_mask writes from (a ∷ trans) (b ∷ coll) even h (suc k) = still_one_mask writes (suc from) trans coll (omega (arith, even)) (λ i. h (suc i)) k

bit_net : (ns : List ℕ) (n : ℕ) → HasNet (as_bits ns) n → Has ns n
bit_net [] n (k, h) = cc
bit_net (x ∷ ns) n (zero, h) = (0, ap Some (net_same x n h))
  where
    net_same : (a b : ℕ) → Some (Net a) ≡ Some (Net b) → a ≡ b
    net_same a b e = cc
bit_net (x ∷ ns) n (suc k, h) = let (l, at) = bit_net ns n (k, h) in (suc l, at)

module _ (m : Module) (k j : ℕ) (x : Mem) (p : RdPort) (clock : Clock) (quiet : List ℕ) (names : EnableNames) (plain : IsPlainRead m k j x p clock) (within : IsWithin m) where
  abbrev width : ℕ
  width = length p.out

  abbrev q : RdPort
  q = loads_always quiet p (nets_from m.nets width)

  abbrev outside : Outside
  outside = enable_outside m.nets clock p names

  abbrev count : ℕ
  count = width + width + 1

  abbrev loaded : Reg
  loaded = plain_reg names.loaded clock (p.en ∷ []) ((m.nets + width + width) ∷ [])

  abbrev held : Reg
  held = plain_reg names.held clock (as_bits p.out) (nets_from (m.nets + width) width)

  range_in : (a n : ℕ) → Has (nets_from a width) n → (a ≤ n) × (n < a + width)
  range_in a n (i, at) = let e = range_at a width i n at in let l = range_below a width i n at in (omega (arith, e), omega (arith, e, l))

  -- ---- order

  module _ (o : Ordered m) where
    abbrev rank : ℕ → ℕ
    rank = spread o.rank m.nets 1 (λ n. 0)

    rank_old : (n : ℕ) → n < m.nets → rank n ≡ 2 * o.rank n + 1
    rank_old n l = let e : nat_lt n m.nets ≡ true = grind (arith, nat_tests) in ap (λ b. cond b (2 * o.rank n + 1) 0) e

    rank_new : (n : ℕ) → m.nets ≤ n → rank n ≡ 0
    rank_new n l = let e : nat_lt n m.nets ≡ false = grind (arith, nat_tests) in ap (λ b. cond b (2 * o.rank n + 1) 0) e

    out_old : (n : ℕ) → Has p.out n → n < m.nets
    out_old n h = let (l, at) = node_at in within.nodes.drives l (read_node p) at n h
      where
        node_at : (l : ℕ) × (slice_get (nodes_of m) l ≡ Some (read_node p))
        node_at = read_place m k x plain.is.mem j p plain.is.read

    no_zero : (n : ℕ) → HasNet (Zero ∷ []) n → ⊥
    no_zero n (zero, h) = cc
    no_zero n (suc i, h) = cc

    needs_new : (z : ℕ) → HasNet ((bits_from (m.nets + width) width ++ bits_from m.nets width) ++ Net (m.nets + width + width) ∷ []) z → m.nets ≤ z
    needs_new z (i, h) = elim (get_joined (bits_from (m.nets + width) width ++ bits_from m.nets width) (Net (m.nets + width + width) ∷ []) i (Net z) h) [
      | inl b ↦ elim (get_joined (bits_from (m.nets + width) width) (bits_from m.nets width) i (Net z) b) [
        | inl a ↦ let l = (range_in (m.nets + width) z (bit_net (nets_from (m.nets + width) width) z (i, a))).0 in omega (arith, l)
        | inr (i1, e1, a) ↦ (range_in m.nets z (bit_net (nets_from m.nets width) z (i1, a))).0
      ]
      | inr (i2, e2, a) ↦ last_new i2 z a
    ]
      where
        last_new : (i z : ℕ) → slice_get (Net (m.nets + width + width) ∷ []) i ≡ Some (Net z) → m.nets ≤ z
        last_new zero z h = let e : m.nets + width + width ≡ z = cc in omega (arith, e)
        last_new (suc i) z h = cc

    pub rising : Rising m q outside 1 o.rank
    rising = record {
      high = λ n. 0;
      combs = one_comb;
      regs = one_reg;
      read = λ n z d h. absurd (no_zero z (needs_arst p.clock plain.clocked z h));
    }
      where
        one_comb : (i : ℕ) (c : Comb) → slice_get outside.combs i ≡ Some c → Rises rank (comb_node c)
        one_comb zero c at = subst (λ z. Rises rank (comb_node z)) (same_Some _ c at) (λ n z d h.
            let low = rank_new z (needs_new z h) in
            let high = rank_old n (out_old n d) in
            omega (arith, low, high))
        one_comb (suc i) c at = cc

        one_reg : (i : ℕ) (r : Reg) → slice_get outside.regs i ≡ Some r → Rises rank (reg_node r)
        one_reg zero r at = subst (λ z. Rises rank (reg_node z)) (same_Some _ r at) (λ n z d h. absurd (no_zero z h))
        one_reg (suc zero) r at = subst (λ z. Rises rank (reg_node z)) (same_Some _ r at) (λ n z d h. absurd (no_zero z h))
        one_reg (suc (suc i)) r at = cc

        needs_arst : (c : Option Clock) → c ≡ Some clock → (z : ℕ) → HasNet (read_needs c q) z → HasNet (Zero ∷ []) z
        needs_arst None e z h = cc
        needs_arst (Some c) e z h = subst (λ b. HasNet (b ∷ []) z) plain.arst h

  -- ---- validity

  module _ (lib : Library) (modules : List Interface) (valid : IsValid lib modules m) (some : 0 < width) (room : m.nets + count ≤ 67108864) (fresh : AreNewNames m k j x p clock quiet names) where
    abbrev m0 : Module
    m0 = with_nets m count

    abbrev m1 : Module
    m1 = with_port m0 k x j q

    abbrev m2 : Module
    m2 = with_reg m1 loaded

    abbrev m3 : Module
    m3 = with_reg m2 held

    v0 : IsValid lib modules m0
    v0 = added_nets_is_valid lib modules m count room valid

    is0 : IsRead m0 k j x p
    is0 = record { mem = plain.is.mem; read = plain.is.read }

    is1 : IsRead m1 k j (with_read x j q) q
    is1 = record { mem = get_set_same m.mems k (with_read x j q) (get_below m.mems k x plain.is.mem); read = get_set_same x.reads j q (get_below x.reads j p plain.is.read) }

    new_free : (n : ℕ) → m.nets ≤ n → IsUndriven m0 n
    new_free n low = record {
      inputs = λ a at. let l = within.inputs a n at in omega (arith, l, low);
      nodes = λ a s at d. let l = within.nodes.drives a s at n d in omega (arith, l, low);
    }

    old_fits : ReadFits x p
    old_fits = (valid.mems k x plain.is.mem).reads j p plain.is.read

    new_fits : ReadFits x q
    new_fits = record {
      addr = old_fits.addr;
      out = range_length m.nets width ∙ old_fits.out;
      arst_value = old_fits.arst_value;
      srst_value = old_fits.srst_value;
      init_value = old_fits.init_value;
      trans = without_length quiet 0 p.trans ∙ old_fits.trans;
      coll = with_length quiet 0 p.coll ∙ old_fits.coll;
      one_mask = still_one_mask quiet 0 p.trans p.coll (old_fits.trans ∙ sym old_fits.coll) old_fits.one_mask;
      at_once = λ e. absurd (none-some clock (sym e ∙ plain.clocked));
    }

    read_joins : ReadJoins modules m0 k j x p q
    read_joins = record {
      is = is0;
      fits = new_fits;
      wide = refl;
      long = range_length m.nets width;
      clock = λ c e. e;
      reads = reads_fewer;
      drives = record {
        inside = λ a n at. let (low, high) = range_in m.nets n (a, at) in new_inside lib modules m valid count n low (omega (arith, high));
        undriven = λ a n at. new_free n (range_in m.nets n (a, at)).0;
        apart = λ a b n ha hb. let e = range_at m.nets width a n ha in let f = range_at m.nets width b n hb in omega (arith, e, f);
      };
    }
      where
        reads_fewer : (n : ℕ) → HasNet (One ∷ p.arst ∷ p.srst ∷ p.addr) n → HasNet (p.en ∷ p.arst ∷ p.srst ∷ p.addr) n
        reads_fewer n (zero, h) = cc
        reads_fewer n (suc a, h) = (suc a, h)

    v1 : IsValid lib modules m1
    v1 = other_read_is_valid lib modules m0 k j x p q read_joins v0

    inside1 : (n : ℕ) → IsInside modules m n → IsInside modules m1 n
    inside1 n h = record { below = let l = h.below in omega (arith, l); apart = h.apart }

    fresh1 : (n : ℕ) → m.nets ≤ n → n < m.nets + count → IsInside modules m1 n
    fresh1 n low high = let h = new_inside lib modules m valid count n low high in record { below = h.below; apart = h.apart }

    free1 : (n : ℕ) → m.nets + width ≤ n → IsUndriven m1 n
    free1 n low = still_undriven modules m0 k j x p q is0 n (new_free n (omega (arith, low))) (λ h. let l = (range_in m.nets n h).1 in omega (arith, l, low))

    pin_net : (bits : List Bit) (n : ℕ) → HasNet (Zero ∷ Zero ∷ Zero ∷ bits) n → HasNet bits n
    pin_net bits n (zero, h) = cc
    pin_net bits n (suc zero, h) = cc
    pin_net bits n (suc (suc zero), h) = cc
    pin_net bits n (suc (suc (suc a)), h) = (a, h)

    lone_net : (a n : ℕ) → Has (a ∷ []) n → n ≡ a
    lone_net a n h = elim (has_first a n [] h) [ inl e ↦ sym e | inr g ↦ absurd (has_none n g) ]

    enable_net : (n : ℕ) → HasNet (p.en ∷ []) n → HasNet (p.en ∷ p.arst ∷ p.srst ∷ p.addr) n
    enable_net n (zero, h) = (0, h)
    enable_net n (suc a, h) = cc

    lone_apart : (a : ℕ) (i l n : ℕ) → slice_get (a ∷ []) i ≡ Some n → slice_get (a ∷ []) l ≡ Some n → i ≡ l
    lone_apart a zero zero n h g = refl
    lone_apart a zero (suc l) n h g = cc
    lone_apart a (suc i) l n h g = cc

    loaded_joins : RegJoins modules m1 loaded
    loaded_joins = record {
      fits = record {
        name = fresh.loaded.named;
        d = refl;
        init = refl;
        q = omega arith;
        no_en = λ e. (refl, refl);
        no_arst = λ e. (refl, refl, refl);
        arst = λ e. cc;
        no_srst = λ e. (refl, refl, refl);
        srst = λ e. cc;
      };
      fresh = fresh.loaded.apart;
      some = omega arith;
      counted = reg_counted lib modules m1 v1 k j (with_read x j q) q is1;
      clock = clock_known m1 clock (port_clock m1 k j (with_read x j q) q clock is1 plain.clocked);
      reads = λ n h. inside1 n (port_inside lib modules m valid k j x p plain.is n (enable_net n (pin_net (p.en ∷ []) n h)));
      drives = record {
        inside = λ a n at. let e = lone_net (m.nets + width + width) n (a, at) in fresh1 n (omega (arith, e)) (omega (arith, e));
        undriven = λ a n at. let e = lone_net (m.nets + width + width) n (a, at) in free1 n (omega (arith, e));
        apart = lone_apart (m.nets + width + width);
      };
    }

    v2 : IsValid lib modules m2
    v2 = added_reg_is_valid lib modules m1 loaded loaded_joins v1

    is2 : IsRead m2 k j (with_read x j q) q
    is2 = record { mem = is1.mem; read = is1.read }

    inside2 : (n : ℕ) → IsInside modules m1 n → IsInside modules m2 n
    inside2 n h = record { below = h.below; apart = h.apart }

    held_joins : RegJoins modules m2 held
    held_joins = record {
      fits = record {
        name = fresh.held.named;
        d = length-map p.out (λ n. Net n) ∙ sym (range_length (m.nets + width) width);
        init = length-map (nets_from (m.nets + width) width) (λ n. Any);
        q = let e = range_length (m.nets + width) width in omega (arith, e, room);
        no_en = λ e. (refl, refl);
        no_arst = λ e. (refl, refl, refl);
        arst = λ e. cc;
        no_srst = λ e. (refl, refl, refl);
        srst = λ e. cc;
      };
      fresh = fresh.held.apart;
      some = let e = range_length (m.nets + width) width in omega (arith, e, some);
      counted = reg_counted lib modules m2 v2 k j (with_read x j q) q is2;
      clock = clock_known m2 clock (port_clock m2 k j (with_read x j q) q clock is2 plain.clocked);
      reads = λ n h. inside2 n (inside1 n (out_inside lib modules m valid k j x p plain.is n (bit_net p.out n (pin_net (as_bits p.out) n h))));
      drives = record {
        inside = λ a n at. let (low, high) = range_in (m.nets + width) n (a, at) in inside2 n (fresh1 n (omega (arith, low)) (omega (arith, high)));
        undriven = λ a n at.
            let (low, high) = range_in (m.nets + width) n (a, at) in
            reg_undriven m1 loaded n (free1 n low) (λ h. let e = lone_net (m.nets + width + width) n h in omega (arith, e, high));
        apart = λ a b n ha hb. let e = range_at (m.nets + width) width a n ha in let f = range_at (m.nets + width) width b n hb in omega (arith, e, f);
      };
    }

    v3 : IsValid lib modules m3
    v3 = added_reg_is_valid lib modules m2 held held_joins v2

    is3 : IsRead m3 k j (with_read x j q) q
    is3 = record { mem = is1.mem; read = is1.read }

    inside3 : (n : ℕ) → IsInside modules m2 n → IsInside modules m3 n
    inside3 n h = record { below = h.below; apart = h.apart }

    abbrev choice : Comb
    choice = logic_cell names.choice Mux (bits_from (m.nets + width) width) (bits_from m.nets width) (Net (m.nets + width + width) ∷ []) p.out

    out_apart : (a b n : ℕ) → slice_get p.out a ≡ Some n → slice_get p.out b ≡ Some n → a ≡ b
    out_apart a b n ha hb = same_place a b (sym (valid.driven.reads k x plain.is.mem j p plain.is.read a n ha) ∙ valid.driven.reads k x plain.is.mem j p plain.is.read b n hb)
      where
        same_place : (a b : ℕ) → ReadOut k j a ≡ ReadOut k j b → a ≡ b
        same_place a b e = cc

    out_free : (n : ℕ) → Has p.out n → IsUndriven m3 n
    out_free n h =
        let low = (out_inside lib modules m valid k j x p plain.is n h).below in
        reg_undriven m2 held n (reg_undriven m1 loaded n (left_undriven modules m0 k j x p q is0 v0.driven n h (λ g. let l = (range_in m.nets n g).0 in omega (arith, l, low))) (λ g. let e = lone_net (m.nets + width + width) n g in omega (arith, e, low))) (λ g. let l = (range_in (m.nets + width) n g).0 in omega (arith, l, low))

    bits_long : (a : ℕ) → length (bits_from a width) ≡ width
    bits_long a = length-map (nets_from a width) (λ n. Net n) ∙ range_length a width

    choice_reads : (n : ℕ) → HasNet (comb_bits choice) n → (m.nets ≤ n) × (n < m.nets + count)
    choice_reads n (i, h) = elim (get_joined (bits_from (m.nets + width) width) (bits_from m.nets width ++ (Net (m.nets + width + width) ∷ [])) i (Net n) h) [
      | inl a ↦ let (low, high) = range_in (m.nets + width) n (bit_net (nets_from (m.nets + width) width) n (i, a)) in (omega (arith, low), omega (arith, high))
      | inr (i1, e1, b) ↦ elim (get_joined (bits_from m.nets width) (Net (m.nets + width + width) ∷ []) i1 (Net n) b) [
        | inl a ↦ let (low, high) = range_in m.nets n (bit_net (nets_from m.nets width) n (i1, a)) in (low, omega (arith, high))
        | inr (i2, e2, a) ↦ last_in i2 a
      ]
    ]
      where
        last_in : (i : ℕ) → slice_get (Net (m.nets + width + width) ∷ []) i ≡ Some (Net n) → (m.nets ≤ n) × (n < m.nets + count)
        last_in zero g = let e : m.nets + width + width ≡ n = cc in (omega (arith, e), omega (arith, e))
        last_in (suc i) g = cc

    choice_joins : CombJoins modules m3 choice
    choice_joins = record {
      fits = record {
        name = fresh.choice.named;
        lengths = (refl, bits_long (m.nets + width), bits_long m.nets, refl);
        a = let e = bits_long (m.nets + width) in omega (arith, e, room);
        b = let e = bits_long m.nets in omega (arith, e, room);
        s = omega arith;
        y = omega (arith, room);
      };
      fresh = fresh.choice.apart;
      some = some;
      counted = comb_counted lib modules m3 v3 k j (with_read x j q) q is3;
      reads = λ n h. let (low, high) = choice_reads n h in inside3 n (inside2 n (fresh1 n low high));
      drives = record {
        inside = λ a n at. inside3 n (inside2 n (inside1 n (out_inside lib modules m valid k j x p plain.is n (a, at))));
        undriven = λ a n at. out_free n (a, at);
        apart = out_apart;
      };
    }

    pub enabled_valid : IsValid lib modules (emulated m k x j q outside)
    enabled_valid =
        let same : m.regs ++ loaded ∷ [] ++ held ∷ [] ≡ m.regs ++ (loaded ∷ held ∷ []) = append_assoc m.regs (loaded ∷ []) (held ∷ []) in
        subst (λ rs. IsValid lib modules (record (emulated m k x j q outside) { regs = rs })) same (added_comb_is_valid lib modules m3 choice choice_joins v3)
