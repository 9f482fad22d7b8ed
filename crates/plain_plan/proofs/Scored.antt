-- Which candidates have points.
use Rattle.std.proofs.Common.{◌≡◌, ℕ, ◌≤◌, Bool, true, false, ◌&&◌, cond, nat_eq, length, refl, sym, ap, subst, ◌∙◌, arith}
use Rattle.std.specs.Prelude.{Some, None, slice_get, is_none}
use Rattle.std.specs.List.{list_all}
use Rattle.std.proofs.lemmas.Bool.{true≢false}
use Rattle.lib_core.specs.declared.library.Library.{Library}
use Rattle.lib_core.specs.declared.library.RamKind.{RamKind}
use Rattle.lib_core.specs.declared.library.Variant.{Variant}
use Rattle.net_core.specs.declared.mems.MemJob.{MemJob}
use Rattle.net_core.specs.declared.mems.Style.{Style}
use Rattle.net_core.specs.declared.mems.Style.TheVariants.{Auto}
use Rattle.net_core.proofs.Basics.{and_left, and_right}
use Rattle.geom_core.specs.declared.candidates.Candidate.{Candidate}
use Rattle.geom_core.specs.declared.candidates.Candidate.TheVariants.{Ram, Registers}
use Rattle.geom_core.specs.declared.candidates.RamChoice.{RamChoice}
use Rattle.fit_rules.specs.Fits.{variant_in, candidate_fits}
use Rattle.fit_cost.specs.Points.{points_of}
use Rattle.ram_emit.specs.Plain.{is_plain_at, is_plain_group, is_plain_variant, IsPlainCandidate}
use Rattle.ram_emit.specs.Judging.{is_plain}
use Rattle.ram_emit.proofs.Judged.{plain_tells, plain_told}
use Rattle.plain_plan.specs.Chosen.{plain_score}
use Rattle.plain_plan.specs.Steps.{has_one_width}
use Rattle.plain_plan.specs.Laws.{ScoredIsPlain}

-- the answer of the test of plain candidates is the test of the definition
same_test : (P : Type 0) (a b : Bool) → (a ≡ true → P) → (P → a ≡ true) → (b ≡ true → P) → (P → b ≡ true) → a ≡ b
same_test P true true f g h k = refl
same_test P true false f g h k = sym (k (f refl))
same_test P false true f g h k = g (h refl)
same_test P false false f g h k = refl

pub judged : (lib : Library) (job : MemJob) (c : Candidate) (answer : Bool) → (answer ≡ true → IsPlainCandidate lib job c) → (IsPlainCandidate lib job c → answer ≡ true) → answer ≡ is_plain lib job c
judged lib job c answer told back = same_test (IsPlainCandidate lib job c) answer (is_plain lib job c) told back (plain_tells lib job c) (plain_told lib job c)

plain_fits : (lib : Library) (job : MemJob) (c : Candidate) → IsPlainCandidate lib job c → candidate_fits job lib Auto c ≡ true
plain_fits lib job Registers p = absurd p
plain_fits lib job (Ram c) p = p.fits

-- a plain candidate fits under the style that allows all
pub fits_auto : (lib : Library) (job : MemJob) (c : Candidate) → is_plain lib job c ≡ true → candidate_fits job lib Auto c ≡ true
fits_auto lib job c e = plain_fits lib job c (plain_tells lib job c e)

-- what is not plain has no points
none_without : (a b : Bool) (n : ℕ) → (a ≡ true → ⊥) → cond (a && b) (Some n) None ≡ None
none_without true b n h = absurd (h refl)
none_without false b n h = refl

pub unplain : (job : MemJob) (lib : Library) (style : Style) (c : Candidate) → (IsPlainCandidate lib job c → ⊥) → plain_score job lib style c ≡ None
unplain job lib style c h = none_without (is_plain lib job c) (candidate_fits job lib style c) (points_of job lib c) (λ e. h (plain_tells lib job c e))

pub folded : (job : MemJob) (lib : Library) (style : Style) (c : RamChoice) → 1 ≤ c.fold → plain_score job lib style (Ram c) ≡ None
folded job lib style c h = unplain job lib style (Ram c) (λ p. absurd (omega (arith, h, p.fold)))

pub widths : (job : MemJob) (lib : Library) (style : Style) (k : RamKind) (v : Variant) (c : RamChoice) → slice_get lib.rams c.ram ≡ Some k → slice_get k.variants c.variant ≡ Some v → has_one_width v ≡ false → plain_score job lib style (Ram c) ≡ None
widths job lib style k v c there here e =
    unplain job lib style (Ram c) (λ p.
    let found : is_plain_variant v ≡ true = subst (λ o. is_plain_at o ≡ true) (ap (λ o. variant_in o c.variant) there ∙ here) p.variant in
    let rest = and_right (is_none v.byte) (nat_eq (length v.widths) 1 && list_all is_plain_group v.groups) found in
    let one = and_left (nat_eq (length v.widths) 1) (list_all is_plain_group v.groups) rest in
    true≢false (sym one ∙ e))

-- what has points
scored : (a b : Bool) (n points : ℕ) → cond (a && b) (Some n) None ≡ Some points → (a ≡ true) × (b ≡ true) × (n ≡ points)
scored true true n points e = (refl, refl, cc)
scored true false n points e = absurd (cc)
scored false b n points e = absurd (cc)

cond_both : (a b : Bool) (n points : ℕ) → a ≡ true → b ≡ true → n ≡ points → cond (a && b) (Some n) None ≡ Some points
cond_both true true n points h k e = ap (λ x. Some x) e
cond_both true false n points h k e = absurd (true≢false (sym k))
cond_both false b n points h k e = absurd (true≢false (sym h))

pub scored_is_plain : ScoredIsPlain
scored_is_plain job lib style c points = (
  λ e.
      let s = scored (is_plain lib job c) (candidate_fits job lib style c) (points_of job lib c) points e in
      record { plain = plain_tells lib job c s.0; fits = s.1; points = s.2 },
  λ p. cond_both (is_plain lib job c) (candidate_fits job lib style c) (points_of job lib c) points (plain_told lib job c p.plain) p.fits p.points,
)
