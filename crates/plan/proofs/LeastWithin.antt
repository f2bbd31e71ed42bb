-- The built-in plan keeps the limits. Assumes nothing.
use Rattle.std.proofs.Common.{ℕ, zero, suc, ◌<◌, ◌≤◌, get_or, refl, arith, lit<, lit≤}
use Rattle.plan.specs.Plan.{no_task, mode_at, TaskWithin, ModeWithin, Within}
use Rattle.plan.specs.Builtin.{least}

enabling_within : (i : ℕ) → get_or (get_or (mode_at least 0).tasks 0 no_task).enabling i 0 ≤ 65535
enabling_within zero = lit≤ tt
enabling_within (suc i) = lit≤ tt

task_within : (k : ℕ) → k < 1 → TaskWithin 1 0 (get_or (mode_at least 0).tasks k no_task)
task_within zero h = (lit≤ tt, lit≤ tt, lit≤ tt, lit≤ tt, lit≤ tt, refl, refl, enabling_within)
task_within (suc k) h = let none_more : ⊥ = omega arith in absurd none_more

mode_within : (j : ℕ) → j < 1 → ModeWithin 1 j (mode_at least j)
mode_within zero h = (lit≤ tt, lit≤ tt, lit≤ tt, task_within)
mode_within (suc j) h = let none_more : ⊥ = omega arith in absurd none_more

pub least_within : Within least
least_within = (lit≤ tt, lit≤ tt, lit≤ tt, lit≤ tt, lit< tt, mode_within)
