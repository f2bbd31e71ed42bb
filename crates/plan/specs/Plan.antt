-- A plan: the modes of a board and their tasks. Times are in ticks, and all numbers count from 0. Assumes nothing.
use Rattle.std.specs.Prelude.{◌≡◌, ℕ, ◌<◌, ◌≤◌, List, [], length, slice_index, slice_index_or}
use Rattle.plan.specs.Sizes.{most_processors, most_modes, most_tasks, greatest_cost, greatest_time, greatest_rule}

-- a task, with its times
pub record Task : Type 0 where
  -- C, the worst-case execution time
  pub cost : ℕ
  -- D, the relative deadline
  pub deadline : ℕ
  -- T, the least separation of two releases
  pub separation : ℕ
  -- E, the enabling deadline for each old mode, and 0 for the task's own mode
  pub enabling : List ℕ

-- a mode, with its tasks in their order
pub record Mode : Type 0 where
  -- the code of the priority rule
  pub rule : ℕ
  pub tasks : List Task

-- a plan, with its modes in their order
pub record Plan : Type 0 where
  pub processors : ℕ
  -- the mode that a board begins in
  pub start : ℕ
  pub modes : List Mode

-- what stands for a task or a mode that is not there
abbrev pub no_task : Task
no_task = record { cost = 0; deadline = 0; separation = 0; enabling = [] }

abbrev pub no_mode : Mode
no_mode = record { rule = 0; tasks = [] }

-- mode j of a plan
abbrev pub mode_at : Plan → ℕ → Mode
mode_at p j = slice_index_or p.modes j no_mode

-- the limits of a task of mode j, in a plan of n modes
abbrev pub TaskWithin : ℕ → ℕ → Task → Type 0
TaskWithin n j t = (1 ≤ t.cost) × (t.cost ≤ greatest_cost) × (t.cost ≤ t.deadline) × (t.deadline ≤ t.separation) × (t.separation ≤ greatest_time) × (length t.enabling ≡ n) × (slice_index t.enabling j ≡ 0) × ((i : ℕ) → slice_index t.enabling i ≤ greatest_time)

-- the limits of mode j, in a plan of n modes
abbrev pub ModeWithin : ℕ → ℕ → Mode → Type 0
ModeWithin n j m = (m.rule ≤ greatest_rule) × (1 ≤ length m.tasks) × (length m.tasks ≤ most_tasks) × ((k : ℕ) → k < length m.tasks → TaskWithin n j (slice_index_or m.tasks k no_task))

-- the limits of a plan
abbrev pub Within : Plan → Type 0
Within p = (1 ≤ p.processors) × (p.processors ≤ most_processors) × (1 ≤ length p.modes) × (length p.modes ≤ most_modes) × (p.start < length p.modes) × ((j : ℕ) → j < length p.modes → ModeWithin (length p.modes) j (mode_at p j))
