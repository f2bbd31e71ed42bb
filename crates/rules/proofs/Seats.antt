-- By-mode goes as it is said to, case by case. Assumes nothing.
use Rattle.std.proofs.Common.{◌≡◌, ℕ, Bool, length, Option, None, inl, inr, ap, refl, arith, ◌∙◌}
use Rattle.std.specs.Prelude.{slice_index_or}
use Rattle.std.proofs.lemmas.Bool.Decides.{nat_tests}
use Rattle.std.proofs.lemmas.Bool.{cases_lt}
use Rattle.ordering.specs.Groups.{ascending}
use Rattle.ordering.proofs.Grouped.{ascending_strict, in_one_group, in_two_groups}
use Rattle.plan.specs.Plan.{Plan}
use Rattle.rules.specs.declared.jobs.Job.{Job}
use Rattle.rules.specs.ByMode.{Seat, rule_codes, deciding, by_mode, HasCode, GoesByMode}
use Rattle.rules.specs.ByModeStrict.{within}
use Rattle.rules.proofs.CodesHeld.{code_some, code_none}

module _ (p : Plan) (first second third : Seat) where
  abbrev before : Job → Job → Bool
  before = by_mode first second third (rule_codes p)

  -- the code of a mode, as it is looked up
  abbrev code : ℕ → Option ℕ
  code mode = slice_index_or (rule_codes p) mode None

  -- jobs of one mode go by the seat that decides for its code
  within_mode : (a b : Job) → a.mode ≡ b.mode → before a b ≡ (deciding first second third (code a.mode)).order a b
  within_mode = in_one_group ascending (λ job. job.mode) (within first second third (rule_codes p)) ascending_strict

  -- the seat that decides, case by case
  module _ (j : ℕ) where
    decides_first : HasCode p j first → deciding first second third (code j) ≡ first
    decides_first has = rw (code_some p j has.0) (grind (arith, nat_tests))

    decides_second : (HasCode p j first → ⊥) → HasCode p j second → deciding first second third (code j) ≡ second
    decides_second not_first has = rw (code_some p j has.0) (grind (arith, nat_tests))

    decides_third : (HasCode p j first → ⊥) → (HasCode p j second → ⊥) → deciding first second third (code j) ≡ third
    decides_third not_first not_second = elim (cases_lt j (length p.modes)) [
      | inl is_mode ↦ rw (code_some p j is_mode) (grind (arith, nat_tests))
      | inr past ↦ rw (code_none p j past) refl
    ]

  -- the order, case by case
  pub goes_by_mode : GoesByMode p first second third before
  goes_by_mode = record {
    modes = in_two_groups ascending (λ job. job.mode) (within first second third (rule_codes p)) ascending_strict;
    by_first = λ a b same has. decided a b same (decides_first a.mode has);
    by_second = λ a b same not_first has. decided a b same (decides_second a.mode not_first has);
    by_third = λ a b same not_first not_second has. decided a b same (decides_third a.mode not_first not_second);
    by_none = λ a b same not_first not_second none. decided a b same (decides_third a.mode not_first not_second);
    not_in_plan = λ a b same past. decided a b same (ap (deciding first second third) (code_none p a.mode past));
  }
    where
      decided : (a b : Job) {seat : Seat} → a.mode ≡ b.mode → deciding first second third (code a.mode) ≡ seat → before a b ≡ seat.order a b
      decided a b same by = within_mode a b same ∙ ap (λ s. s.order a b) by
