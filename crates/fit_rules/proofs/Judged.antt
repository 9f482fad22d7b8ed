-- The tests of the limits say that the limits hold.
use Rattle.std.proofs.Common.{◌≡◌, ℕ, zero, suc, ◌+◌, ◌*◌, ◌≤◌, ◌<◌, Bool, true, ◌&&◌, nat_le, List, [], ◌∷◌, length, subst, arith}
use Rattle.std.specs.Prelude.{Option, Some, None, IfSome}
use Rattle.std.specs.List.{list_all}
use Rattle.std.proofs.lemmas.Option.{none-some}
use Rattle.lib_core.specs.declared.library.Library.{Library}
use Rattle.lib_core.specs.declared.library.RamKind.{RamKind}
use Rattle.lib_core.specs.declared.library.Variant.{Variant}
use Rattle.lib_core.specs.Rams.{width_at}
use Rattle.net_core.specs.declared.mems.Mem.{Mem}
use Rattle.net_core.specs.Valid.{Each}
use Rattle.geom_core.specs.Widths.{AreWidths}
use Rattle.fit_rules.specs.Limits.{MemLimits, VariantLimits, RamLimits, LibraryLimits}
use Rattle.fit_rules.specs.Judging.{read_within, write_within, sizes_within, ports_within, mem_within, width_within, is_doubled, widths_within, byte_within, group_within, numbers_within, lengths_within, variant_within, ram_within, library_within}
use Rattle.fit_rules.proofs.Lengths.{and_left, and_right}

le_true : (a b : ℕ) → nat_le a b ≡ true → a ≤ b
le_true a b e = grind arith

some_same : {X : Type 0} (x y : X) → Some x ≡ Some y → x ≡ y
some_same x y e = cc

each_from : {X : Type 0} (test : X → Bool) (P : X → Type 0) → ((x : X) → test x ≡ true → P x) → (xs : List X) → list_all test xs ≡ true → Each xs P
each_from test P f [] e i x h = absurd (none-some x h)
each_from test P f (y ∷ ys) e zero x h = subst P (some_same y x h) (f y (and_left (test y) (list_all test ys) e))
each_from test P f (y ∷ ys) e (suc i) x h = each_from test P f ys (and_right (test y) (list_all test ys) e) i x h

pub mem_limits : (m : Mem) → mem_within m ≡ true → MemLimits m
mem_limits m e =
    let sizes = and_left (sizes_within m) (ports_within m) e in
    let ports = and_right (sizes_within m) (ports_within m) e in
    let bits = nat_le (m.size * m.width) 8388608 in
    let few = nat_le m.abits 32 && bits in
    let some = nat_le m.width 65536 && few in
    let rest = and_right (nat_le m.size 1048576) (nat_le 1 m.width && some) sizes in
    let last = and_right (nat_le 1 m.width) some rest in
    let ends = and_right (nat_le m.width 65536) few last in
    let writes = and_right (list_all read_within m.reads) (list_all write_within m.writes) ports in
    record {
      size = le_true m.size 1048576 (and_left (nat_le m.size 1048576) (nat_le 1 m.width && some) sizes);
      some_bits = le_true 1 m.width (and_left (nat_le 1 m.width) some rest);
      few_bits = le_true m.width 65536 (and_left (nat_le m.width 65536) few last);
      bits = le_true (m.size * m.width) 8388608 (and_right (nat_le m.abits 32) bits ends);
      abits = le_true m.abits 32 (and_left (nat_le m.abits 32) bits ends);
      reads = each_from read_within (λ r. r.wide ≤ 6) (λ r t. le_true r.wide 6 t) m.reads (and_left (list_all read_within m.reads) (list_all write_within m.writes) ports);
      writes = each_from write_within (λ w. w.wide ≤ 6) (λ w t. le_true w.wide 6 (and_left (nat_le w.wide 6) (nat_le (length w.en) 4194304) t)) m.writes writes;
      enables = each_from write_within (λ w. length w.en ≤ 4194304) (λ w t. le_true (length w.en) 4194304 (and_right (nat_le w.wide 6) (nat_le (length w.en) 4194304) t)) m.writes writes;
    }

some_width : (ws : List ℕ) → widths_within ws ≡ true → (k : ℕ) → k < length ws → 1 ≤ width_at ws k
some_width [] e k h = absurd (omega (arith, h))
some_width (w ∷ ws) e zero h = le_true 1 w (and_left (nat_le 1 w) (nat_le w 1024) (and_left (width_within w) (is_doubled w ws && widths_within ws) e))
some_width (w ∷ ws) e (suc k) h = some_width ws (and_right (is_doubled w ws) (widths_within ws) (and_right (width_within w) (is_doubled w ws && widths_within ws) e)) k (omega (arith, h))

few_width : (ws : List ℕ) → widths_within ws ≡ true → (k : ℕ) → k < length ws → width_at ws k ≤ 1024
few_width [] e k h = absurd (omega (arith, h))
few_width (w ∷ ws) e zero h = le_true w 1024 (and_right (nat_le 1 w) (nat_le w 1024) (and_left (width_within w) (is_doubled w ws && widths_within ws) e))
few_width (w ∷ ws) e (suc k) h = few_width ws (and_right (is_doubled w ws) (widths_within ws) (and_right (width_within w) (is_doubled w ws && widths_within ws) e)) k (omega (arith, h))

first_doubled : (w : ℕ) (ws : List ℕ) → is_doubled w ws ≡ true → 1 ≤ length ws → 2 * w ≤ width_at ws 0
first_doubled w [] e h = absurd (omega (arith, h))
first_doubled w (v ∷ vs) e h = le_true (2 * w) v e

doubled_width : (ws : List ℕ) → widths_within ws ≡ true → (k : ℕ) → suc k < length ws → 2 * width_at ws k ≤ width_at ws (suc k)
doubled_width [] e k h = absurd (omega (arith, h))
doubled_width (w ∷ ws) e zero h = first_doubled w ws (and_left (is_doubled w ws) (widths_within ws) (and_right (width_within w) (is_doubled w ws && widths_within ws) e)) (omega (arith, h))
doubled_width (w ∷ ws) e (suc k) h = doubled_width ws (and_right (is_doubled w ws) (widths_within ws) (and_right (width_within w) (is_doubled w ws && widths_within ws) e)) k (omega (arith, h))

are_widths : (ws : List ℕ) → widths_within ws ≡ true → AreWidths ws
are_widths ws e = record {
  some_bits = some_width ws e;
  few_bits = few_width ws e;
  doubled = λ k h. let s : suc k ≡ k + 1 = omega arith in subst (λ n. 2 * width_at ws k ≤ width_at ws n) s (doubled_width ws e k (omega (arith, h)));
}

some_byte : (byte : Option ℕ) → byte_within byte ≡ true → IfSome byte (λ b. 1 ≤ b)
some_byte None e = tt
some_byte (Some b) e = le_true 1 b e

pub variant_limits : (x : Variant) → variant_within x ≡ true → VariantLimits x
variant_limits x e =
    let numbers = and_left (numbers_within x) (lengths_within x && (widths_within x.widths && list_all group_within x.groups)) e in
    let rest = and_right (numbers_within x) (lengths_within x && (widths_within x.widths && list_all group_within x.groups)) e in
    let lengths = and_left (lengths_within x) (widths_within x.widths && list_all group_within x.groups) rest in
    let lists = and_right (lengths_within x) (widths_within x.widths && list_all group_within x.groups) rest in
    let few = and_right (nat_le (length x.widths) (x.abits + 1)) (nat_le (length x.widths) 8 && nat_le (length x.groups) 4) lengths in
    let costs = and_right (nat_le x.abits 20) (nat_le x.cost 1048576 && byte_within x.byte) numbers in
    record {
      sized = record {
        abits = le_true x.abits 20 (and_left (nat_le x.abits 20) (nat_le x.cost 1048576 && byte_within x.byte) numbers);
        levels = le_true (length x.widths) (x.abits + 1) (and_left (nat_le (length x.widths) (x.abits + 1)) (nat_le (length x.widths) 8 && nat_le (length x.groups) 4) lengths);
        widths = are_widths x.widths (and_left (widths_within x.widths) (list_all group_within x.groups) lists);
      };
      few_widths = le_true (length x.widths) 8 (and_left (nat_le (length x.widths) 8) (nat_le (length x.groups) 4) few);
      byte = some_byte x.byte (and_right (nat_le x.cost 1048576) (byte_within x.byte) costs);
      cost = le_true x.cost 1048576 (and_left (nat_le x.cost 1048576) (byte_within x.byte) costs);
      groups = le_true (length x.groups) 4 (and_right (nat_le (length x.widths) 8) (nat_le (length x.groups) 4) few);
      names = each_from group_within (λ g. length g.names ≤ 8) (λ g t. le_true (length g.names) 8 t) x.groups (and_right (widths_within x.widths) (list_all group_within x.groups) lists);
    }

ram_limits : (k : RamKind) → ram_within k ≡ true → RamLimits k
ram_limits k e = record {
  variants = le_true (length k.variants) 256 (and_left (nat_le (length k.variants) 256) (list_all variant_within k.variants) e);
  each = each_from variant_within VariantLimits variant_limits k.variants (and_right (nat_le (length k.variants) 256) (list_all variant_within k.variants) e);
}

pub library_limits : (lib : Library) → library_within lib ≡ true → LibraryLimits lib
library_limits lib e = record {
  rams = le_true (length lib.rams) 64 (and_left (nat_le (length lib.rams) 64) (list_all ram_within lib.rams) e);
  each = each_from ram_within RamLimits ram_limits lib.rams (and_right (nat_le (length lib.rams) 64) (list_all ram_within lib.rams) e);
}
