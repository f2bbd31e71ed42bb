-- The deadlines so far are those of the tasks so far.
use Rattle.std.proofs.Common.{◌≡◌, ℕ, ◌<◌, length, get_or, slice_index}
use Rattle.plan.specs.Held.{blank_task}
use Rattle.plan.specs.Sizes.{most_tasks}
use Rattle.verdict.specs.Enabling.{no_deadline}
use Rattle.verdict.proofs.pair.PairOf.deadlines.Given as goal

abbrev pub invariant-loop-number : goal.invariant-loop-number
invariant-loop-number l = (length l.found ≡ most_tasks) × ((k : ℕ) → k < l.number → get_or l.found k no_deadline ≡ record { ticks = slice_index (get_or l.task-items k blank_task).enabling l.self.old; task = k })
