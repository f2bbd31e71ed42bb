-- By-mode is a strict total order. Assumes nothing.
use Rattle.std.specs.Prelude.{◌≡◌, ℕ, Bool, true, false, List, Some, None, Option, ◌==◌, slice_index_or, refl}
use Rattle.ordering.specs.Groups.{ascending}
use Rattle.ordering.specs.Strict.{Strict}
use Rattle.ordering.proofs.Grouped.{ascending_strict, by_group_strict}
use Rattle.rules.specs.declared.jobs.Job.{Job}
use Rattle.rules.specs.ByMode.{Seat, deciding, by_mode}

module _ (first second third : Seat) (codes : List (Option ℕ)) where
  -- the order of the jobs of a mode
  abbrev pub within : ℕ → Job → Job → Bool
  within mode = (deciding first second third (slice_index_or codes mode None)).order

  -- it is strict and total, whichever of three such orders decides for each mode
  pub by_mode_strict : Strict first.order → Strict second.order → Strict third.order → Strict (by_mode first second third codes)
  by_mode_strict a b c = by_group_strict ascending (λ job. job.mode) within ascending_strict (λ mode. lawful (slice_index_or codes mode None))
    where
      chosen : (t u : Bool) (code : ℕ) → (code == first.code) ≡ t → (code == second.code) ≡ u → Strict (deciding first second third (Some code)).order
      chosen true u code e f = rw e a
      chosen false true code e f = rw (e, f) b
      chosen false false code e f = rw (e, f) c

      lawful : (code : Option ℕ) → Strict (deciding first second third code).order
      lawful None = c
      lawful (Some code) = chosen (code == first.code) (code == second.code) code refl refl
