-- The test of a plain choice says that the choice is plain.
use Rattle.std.proofs.Common.{◌≡◌, ℕ, ◌^◌, ◌≤◌, true, false, ◌&&◌, nat_eq, length, ap, arith}
use Rattle.std.specs.List.{list_all}
use Rattle.std.proofs.lemmas.Bool.{eqb-true, eq-eqb, ne_eqb}
use Rattle.std.proofs.Math.Pow.{pow_mono}
use Rattle.lib_core.specs.declared.library.Library.{Library}
use Rattle.net_core.specs.declared.mems.Mem.{Mem}
use Rattle.net_core.specs.declared.mems.MemJob.{MemJob}
use Rattle.net_core.specs.declared.mems.Style.TheVariants.{Auto}
use Rattle.net_core.proofs.Basics.{and_left, and_right, both}
use Rattle.geom_core.specs.declared.candidates.Candidate.{Candidate}
use Rattle.geom_core.specs.declared.candidates.Candidate.TheVariants.{Ram, Registers}
use Rattle.geom_core.specs.declared.candidates.RamChoice.{RamChoice}
use Rattle.geom_core.specs.declared.candidates.Shape.{Shape}
use Rattle.fit_rules.specs.Fits.{variant_at, shape_of, candidate_fits}
use Rattle.ram_emit.specs.Plain.{is_plain_at, is_plain_read, is_plain_write, IsPlainMem, IsPlain, IsPlainCandidate}
use Rattle.ram_emit.specs.Judging.{has_plain_write, has_plain_read, has_every_word, is_plain_mem, is_one_cell, is_plain_choice, is_plain}

mem_is : (m : Mem) → is_plain_mem m ≡ true → IsPlainMem m
mem_is m h =
    let rest = and_right (has_plain_write m) (has_plain_read m && has_every_word m) h in
    let write = and_left (has_plain_write m) (has_plain_read m && has_every_word m) h in
    let read = and_left (has_plain_read m) (has_every_word m) rest in
    let every = and_right (has_plain_read m) (has_every_word m) rest in
    record {
      one_write = eqb-true (length m.writes) 1 (and_left (nat_eq (length m.writes) 1) (list_all is_plain_write m.writes) write);
      write = and_right (nat_eq (length m.writes) 1) (list_all is_plain_write m.writes) write;
      one_read = eqb-true (length m.reads) 1 (and_left (nat_eq (length m.reads) 1) (list_all is_plain_read m.reads) read);
      read = and_right (nat_eq (length m.reads) 1) (list_all is_plain_read m.reads) read;
      first = eqb-true m.offset 0 (and_left (nat_eq m.offset 0) (nat_eq m.size (2 ^ m.abits)) every);
      every = eqb-true m.size (2 ^ m.abits) (and_right (nat_eq m.offset 0) (nat_eq m.size (2 ^ m.abits)) every);
    }

mem_met : (m : Mem) → IsPlainMem m → is_plain_mem m ≡ true
mem_met m p =
    both (has_plain_write m) _ (both (nat_eq (length m.writes) 1) _ (eq-eqb (length m.writes) 1 p.one_write) p.write)
    (both (has_plain_read m) _ (both (nat_eq (length m.reads) 1) _ (eq-eqb (length m.reads) 1 p.one_read) p.read)
    (both (nat_eq m.offset 0) _ (eq-eqb m.offset 0 p.first) (eq-eqb m.size (2 ^ m.abits) p.every)))

shape_is : (s : Shape) → is_one_cell s ≡ true → s ≡ record { copies = 1; rows = 1; columns = 1 }
shape_is s h =
    let rest = and_right (nat_eq s.copies 1) (nat_eq s.rows 1 && nat_eq s.columns 1) h in
    let a = eqb-true s.copies 1 (and_left (nat_eq s.copies 1) (nat_eq s.rows 1 && nat_eq s.columns 1) h) in
    let b = eqb-true s.rows 1 (and_left (nat_eq s.rows 1) (nat_eq s.columns 1) rest) in
    let c = eqb-true s.columns 1 (and_right (nat_eq s.rows 1) (nat_eq s.columns 1) rest) in
    λ i. record { copies = a i; rows = b i; columns = c i }

choice_is : (lib : Library) (job : MemJob) (c : RamChoice) → candidate_fits job lib Auto (Ram c) ≡ true → is_plain_choice lib job c ≡ true → IsPlain lib job c
choice_is lib job c fits h =
    let two = is_plain_at (variant_at lib c.ram c.variant) && is_plain_mem job.mem in
    let one = is_one_cell (shape_of job lib c) && two in
    let rest = and_right (nat_eq c.fold 0) one h in
    let last = and_right (is_one_cell (shape_of job lib c)) two rest in
    record {
      fits = fits;
      fold = eqb-true c.fold 0 (and_left (nat_eq c.fold 0) one h);
      one_cell = shape_is (shape_of job lib c) (and_left (is_one_cell (shape_of job lib c)) two rest);
      variant = and_left (is_plain_at (variant_at lib c.ram c.variant)) (is_plain_mem job.mem) last;
      memory = mem_is job.mem (and_right (is_plain_at (variant_at lib c.ram c.variant)) (is_plain_mem job.mem) last);
    }

choice_met : (lib : Library) (job : MemJob) (c : RamChoice) → IsPlain lib job c → (candidate_fits job lib Auto (Ram c) && is_plain_choice lib job c) ≡ true
choice_met lib job c p =
    both (candidate_fits job lib Auto (Ram c)) _ p.fits
    (both (nat_eq c.fold 0) _ (eq-eqb c.fold 0 p.fold)
    (both (is_one_cell (shape_of job lib c)) _ (ap is_one_cell p.one_cell)
    (both (is_plain_at (variant_at lib c.ram c.variant)) _ p.variant (mem_met job.mem p.memory))))

pub plain_tells : (lib : Library) (job : MemJob) (c : Candidate) → is_plain lib job c ≡ true → IsPlainCandidate lib job c
plain_tells lib job Registers h = absurd (cc)
plain_tells lib job (Ram c) h = choice_is lib job c (and_left (candidate_fits job lib Auto (Ram c)) (is_plain_choice lib job c) h) (and_right (candidate_fits job lib Auto (Ram c)) (is_plain_choice lib job c) h)

pub plain_told : (lib : Library) (job : MemJob) (c : Candidate) → IsPlainCandidate lib job c → is_plain lib job c ≡ true
plain_told lib job Registers h = absurd h
plain_told lib job (Ram c) h = choice_met lib job c h

-- a memory of few words has few address bits
pub few_address : (size abits : ℕ) → size ≤ 1048576 → 21 ≤ abits → nat_eq size (2 ^ abits) ≡ false
few_address size abits few many =
    let up : 2 ^ 21 ≤ 2 ^ abits = pow_mono {i = 21} {j = abits} many in
    ne_eqb size (2 ^ abits) (λ e. omega (arith, up, few, e))
