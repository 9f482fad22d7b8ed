-- A memory that can be packed has few port numbers.
use Rattle.std.proofs.Common.{◌≡◌, ◌+◌, ◌^◌, ◌≤◌, List, [], ◌∷◌, refl, ap, ◌∙◌, sym, subst}
use Rattle.std.specs.List.{sum_by}
use Rattle.std.proofs.lemmas.List.Sums.{sum_by-cons}
use Rattle.net_core.specs.declared.mems.Mem.{Mem}
use Rattle.net_core.specs.declared.mems.RdPort.{RdPort}
use Rattle.net_core.specs.declared.mems.WrPort.{WrPort}
use Rattle.mem_pack.specs.Numbers.{numbers}
use Rattle.mem_pack.specs.Lists.{read_wides, write_wides}
use Rattle.mem_pack.specs.Laws.{IsPackable, IsSmall}

pub read_numbers : (reads : List RdPort) → numbers (read_wides reads) ≡ sum_by (λ (r : RdPort). 2 ^ r.wide) reads
read_numbers [] = refl
read_numbers (r ∷ rs) = ap (λ n. 2 ^ r.wide + n) (read_numbers rs) ∙ sym (sum_by-cons (λ (r : RdPort). 2 ^ r.wide) r rs)

pub write_numbers : (writes : List WrPort) → numbers (write_wides writes) ≡ sum_by (λ (w : WrPort). 2 ^ w.wide) writes
write_numbers [] = refl
write_numbers (w ∷ ws) = ap (λ n. 2 ^ w.wide + n) (write_numbers ws) ∙ sym (sum_by-cons (λ (w : WrPort). 2 ^ w.wide) w ws)

pub packable_is_small : (m : Mem) → IsPackable m → IsSmall m
packable_is_small m p = record {
  reads = subst (λ n. n ≤ 64) (sym (read_numbers m.reads)) p.fits.read_words;
  writes = subst (λ n. n ≤ 64) (sym (write_numbers m.writes)) p.fits.write_words;
}
