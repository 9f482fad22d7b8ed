-- A library within its limits passes the test of them.
use Rattle.std.proofs.Common.{◌≡◌, ℕ, suc, ◌+◌, ◌*◌, ◌≤◌, true, ◌&&◌, nat_le, List, [], ◌∷◌, length, refl, subst, arith}
use Rattle.std.specs.Prelude.{Option, Some, None, IfSome}
use Rattle.std.specs.List.{list_all}
use Rattle.lib_core.specs.declared.library.Library.{Library}
use Rattle.lib_core.specs.declared.library.RamKind.{RamKind}
use Rattle.lib_core.specs.declared.library.Variant.{Variant}
use Rattle.lib_core.specs.Rams.{width_at}
use Rattle.net_core.proofs.Basics.{both}
use Rattle.geom_core.specs.Widths.{AreWidths}
use Rattle.fit_rules.specs.Limits.{VariantLimits, RamLimits, LibraryLimits}
use Rattle.fit_rules.specs.Judging.{width_within, is_doubled, widths_within, byte_within, group_within, numbers_within, lengths_within, variant_within, ram_within, library_within}
use Rattle.net_live.proofs.Judged.{true_le, each_all}

-- the widths behind the first one
behind : (w : ℕ) (ws : List ℕ) → AreWidths (w ∷ ws) → AreWidths ws
behind w ws are = record {
  some_bits = λ k h. are.some_bits (suc k) (omega (arith, h));
  few_bits = λ k h. are.few_bits (suc k) (omega (arith, h));
  doubled = λ k h.
      let s : suc k + 1 ≡ suc (k + 1) = omega arith in
      subst (λ n. 2 * width_at ws k ≤ width_at (w ∷ ws) n) s (are.doubled (suc k) (omega (arith, h)));
}

doubled_passes : (w : ℕ) (ws : List ℕ) → AreWidths (w ∷ ws) → is_doubled w ws ≡ true
doubled_passes w [] are = refl
doubled_passes w (v ∷ vs) are = true_le (2 * w) v (are.doubled 0 (omega arith))

widths_pass : (ws : List ℕ) → AreWidths ws → widths_within ws ≡ true
widths_pass [] are = refl
widths_pass (w ∷ ws) are =
    let first = both (nat_le 1 w) (nat_le w 1024) (true_le 1 w (are.some_bits 0 (omega arith))) (true_le w 1024 (are.few_bits 0 (omega arith))) in
    both (width_within w) (is_doubled w ws && widths_within ws) first (both (is_doubled w ws) (widths_within ws) (doubled_passes w ws are) (widths_pass ws (behind w ws are)))

byte_passes : (byte : Option ℕ) → IfSome byte (λ b. 1 ≤ b) → byte_within byte ≡ true
byte_passes None h = refl
byte_passes (Some b) h = true_le 1 b h

variant_passes : (x : Variant) → VariantLimits x → variant_within x ≡ true
variant_passes x limits =
    let costs = both (nat_le x.cost 1048576) (byte_within x.byte) (true_le x.cost 1048576 limits.cost) (byte_passes x.byte limits.byte) in
    let numbers = both (nat_le x.abits 20) (nat_le x.cost 1048576 && byte_within x.byte) (true_le x.abits 20 limits.sized.abits) costs in
    let few = both (nat_le (length x.widths) 8) (nat_le (length x.groups) 4) (true_le (length x.widths) 8 limits.few_widths) (true_le (length x.groups) 4 limits.groups) in
    let lengths = both (nat_le (length x.widths) (x.abits + 1)) (nat_le (length x.widths) 8 && nat_le (length x.groups) 4) (true_le (length x.widths) (x.abits + 1) limits.sized.levels) few in
    let groups = each_all group_within (λ g. length g.names ≤ 8) (λ g h. true_le (length g.names) 8 h) x.groups limits.names in
    let lists = both (widths_within x.widths) (list_all group_within x.groups) (widths_pass x.widths limits.sized.widths) groups in
    both (numbers_within x) (lengths_within x && (widths_within x.widths && list_all group_within x.groups)) numbers (both (lengths_within x) (widths_within x.widths && list_all group_within x.groups) lengths lists)

ram_passes : (k : RamKind) → RamLimits k → ram_within k ≡ true
ram_passes k limits =
    both (nat_le (length k.variants) 256) (list_all variant_within k.variants) (true_le (length k.variants) 256 limits.variants) (each_all variant_within VariantLimits variant_passes k.variants limits.each)

pub library_passes : (lib : Library) → LibraryLimits lib → library_within lib ≡ true
library_passes lib limits =
    both (nat_le (length lib.rams) 64) (list_all ram_within lib.rams) (true_le (length lib.rams) 64 limits.rams) (each_all ram_within RamLimits ram_passes lib.rams limits.each)
