-- The enable of a read stands outside: this is an emulation of the read.
use Rattle.std.proofs.Common.{◌≡◌, ℕ, zero, suc, ◌+◌, ◌*◌, ◌^◌, ◌<◌, ◌≤◌, true, false, List, [], ◌∷◌, length, Some, refl, ap, ◌∙◌, subst, arith, nat_eq}
use Rattle.std.specs.Prelude.{slice_get}
use Rattle.std.specs.List.{sum_by}
use Rattle.std.proofs.lemmas.Bool.{eq-eqb}
use Rattle.std.proofs.lemmas.List.Sums.{sum_by-cons}
use Rattle.std.proofs.lemmas.Nat.{pow_pos}
use Rattle.std.proofs.lemmas.Option.{same_Some}
use Rattle.std.proofs.Math.Nat.{mul-le-mul_right}
use Rattle.lib_core.specs.declared.library.Library.{Library}
use Rattle.net_core.specs.declared.bits.Clock.{Clock}
use Rattle.net_core.specs.declared.cells.Comb.{Comb}
use Rattle.net_core.specs.declared.cells.Reg.{Reg}
use Rattle.net_core.specs.declared.mems.Mem.{Mem}
use Rattle.net_core.specs.declared.mems.RdPort.{RdPort}
use Rattle.net_core.specs.declared.modules.Module.{Module}
use Rattle.net_core.specs.Ports.{Interface}
use Rattle.net_core.specs.Valid.{IsValid}
use Rattle.net_edit.specs.Edits.{nets_from, bits_from}
use Rattle.net_gates.specs.Adds.{IsWithin}
use Rattle.net_gates.specs.Cells.{logic_cell}
use Rattle.net_core.specs.declared.bits.Bit.TheVariants.{Net}
use Rattle.net_core.specs.declared.cells.CombKind.TheVariants.{Mux}
use Rattle.net_gates.proofs.NewCell.{range_length}
use Rattle.rewriting.specs.Known.{QuietWith}
use Rattle.rewriting.specs.Reads.{read_bits, loses_quiet_of}
use Rattle.emu_read.specs.Emulating.{Outside, IsFew, Emulation}
use Rattle.emu_read.specs.Enable.{loads_always, EnableNames, enable_outside, loaded_reg, held_reg, IsPlainRead, AreNewNames, EnableIsEmulated}
use Rattle.emu_read.proofs.Emulated.{emulation_is_rewriting}
use Rattle.emu_read.proofs.Enabling.{reads_as_before}
use Rattle.emu_read.proofs.EnableValid.{rising, enabled_valid}

one_sum : {X : Type 0} (f : X → ℕ) (a : X) → sum_by f (a ∷ []) ≡ f a
one_sum f a = let e = sum_by-cons f a [] in let z : sum_by f [] ≡ 0 = refl in omega (arith, e, z)

two_sum : {X : Type 0} (f : X → ℕ) (a b : X) → sum_by f (a ∷ b ∷ []) ≡ f a + f b
two_sum f a b = let e = sum_by-cons f a (b ∷ []) in let g = one_sum f b in omega (arith, e, g)

-- a read of a valid module has data
pub some_data : (lib : Library) (modules : List Interface) (m : Module) (k j : ℕ) (x : Mem) (p : RdPort) → slice_get m.mems k ≡ Some x → slice_get x.reads j ≡ Some p → IsValid lib modules m → 0 < length p.out
some_data lib modules m k j x p there here valid =
    let fits = valid.mems k x there in
    let long = (fits.reads j p here).out in
    let wide = fits.sizes.width.0 in
    let some = pow_pos p.wide in
    let product : 1 * 2 ^ p.wide ≤ x.width * 2 ^ p.wide = mul-le-mul_right (2 ^ p.wide) wide in
    omega (arith, long, some, product)

module _ (lib : Library) (modules : List Interface) (m : Module) (k j : ℕ) (x : Mem) (p : RdPort) (clock : Clock) (quiet : List ℕ) (names : EnableNames) (plain : IsPlainRead m k j x p clock) (within : IsWithin m) (valid : IsValid lib modules m) (room : m.nets + (length p.out + length p.out + 1) ≤ 67108864) (fresh : AreNewNames m k j x p clock quiet names) (calm : QuietWith lib m x j quiet) where
  abbrev outside : Outside
  outside = enable_outside m.nets clock p names

  abbrev choice : Comb
  choice = logic_cell names.choice Mux (bits_from (m.nets + length p.out) (length p.out)) (bits_from m.nets (length p.out)) (Net (m.nets + length p.out + length p.out) ∷ []) p.out

  abbrev flag : Reg
  flag = loaded_reg m.nets clock p names

  abbrev held : Reg
  held = held_reg m.nets clock p names

  some : 0 < length p.out
  some = some_data lib modules m k j x p plain.is.mem plain.is.read valid

  few : IsFew x p outside
  few = record {
    nets = let s = some in omega (arith, s);
    logic = logic;
    bits = bits;
    combs = one_comb;
    regs = one_reg;
  }
    where
      logic : sum_by (λ (c : Comb). length c.y) outside.combs ≤ 4 * read_bits x p
      logic = let e : sum_by (λ (c : Comb). length c.y) outside.combs ≡ length p.out = one_sum (λ (c : Comb). length c.y) choice in omega (arith, e)

      bits : sum_by (λ (r : Reg). length r.q) outside.regs ≤ 2 * length p.out + 1
      bits = let e = two_sum (λ (r : Reg). length r.q) flag held in let f = range_length (m.nets + length p.out) (length p.out) in
          let whole : sum_by (λ (r : Reg). length r.q) outside.regs ≡ 1 + length (nets_from (m.nets + length p.out) (length p.out)) = e in
          omega (arith, whole, f)

      one_comb : (i : ℕ) (c : Comb) → slice_get outside.combs i ≡ Some c → 0 < length c.y
      one_comb zero c at = subst (λ (z : Comb). 0 < length z.y) (same_Some choice c at) some
      one_comb (suc i) c at = cc

      one_reg : (i : ℕ) (r : Reg) → slice_get outside.regs i ≡ Some r → 0 < length r.q
      one_reg zero r at = subst (λ (z : Reg). 0 < length z.q) (same_Some flag r at) (omega arith)
      one_reg (suc zero) r at = subst (λ (z : Reg). 0 < length z.q) (same_Some held r at) (let e = range_length (m.nets + length p.out) (length p.out) in let s = some in omega (arith, e, s))
      one_reg (suc (suc i)) r at = cc

  emulation : Emulation lib modules (loses_quiet_of j) m k j x p (loads_always quiet p (nets_from m.nets (length p.out))) quiet outside
  emulation = record {
    is = plain.is;
    wide = refl;
    addr = refl;
    long = range_length m.nets (length p.out);
    clock = λ c e. e;
    clocks = known;
    enable = λ l keep. absurd (own_lost keep);
    calm = calm;
    reads = reads_as_before lib m k j x p clock quiet names plain;
    few = few;
    within = within;
    top = 1;
    rising = λ o. rising m k j x p clock quiet names plain within o;
    valid = λ v. enabled_valid m k j x p clock quiet names plain within lib modules v some room fresh;
  }
    where
      known : (i : ℕ) (r : Reg) → slice_get outside.regs i ≡ Some r → p.clock ≡ Some r.clock
      known zero r at = plain.clocked ∙ ap (λ (z : Reg). Some z.clock) (same_Some flag r at)
      known (suc zero) r at = plain.clocked ∙ ap (λ (z : Reg). Some z.clock) (same_Some held r at)
      known (suc (suc i)) r at = cc

      own_lost : nat_eq j j ≡ false → ⊥
      own_lost h = let e : nat_eq j j ≡ true = eq-eqb j j refl in cc

pub enable_is_emulated : EnableIsEmulated
enable_is_emulated lib modules m k j x p clock quiet names plain within valid room fresh calm = record {
  read = loads_always quiet p (nets_from m.nets (length p.out));
  changed = refl;
  rewrites = emulation_is_rewriting lib modules (loses_quiet_of j) m k j x p (loads_always quiet p (nets_from m.nets (length p.out))) quiet (enable_outside m.nets clock p names) (emulation lib modules m k j x p clock quiet names plain within valid room fresh calm);
}
