-- The enabling deadlines of a changeover, and the least of them. Assumes nothing.
use Rattle.std.specs.Prelude.{ℕ, List, [], ◌∷◌, map, length, slice_index, slice_index_or}
use Rattle.std.specs.List.{range_with_len}
use Rattle.std.specs.Option.{unwrap_or}
use Rattle.ordering.specs.First.{first}
use Rattle.ordering.specs.Keys.{by_keys}
use Rattle.plan.specs.Plan.{Task, Plan, no_task, mode_at}
use Rattle.verdict.specs.declared.deadlines.Deadline.{Deadline}

-- how many tasks mode j has
abbrev pub tasks_in : Plan → ℕ → ℕ
tasks_in p j = length (mode_at p j).tasks

-- the enabling deadline of task k, of these, when mode i is left
abbrev pub deadline_of : ℕ → List Task → ℕ → ℕ
deadline_of i ts k = slice_index (slice_index_or ts k no_task).enabling i

-- E(i, j, k), the enabling deadline of task k of mode j when mode i is left
abbrev pub enabling : Plan → ℕ → ℕ → ℕ → ℕ
enabling p i j k = deadline_of i (mode_at p j).tasks k

-- the enabling deadline of task k, of these, with the number of the task
abbrev pub task_deadline : ℕ → List Task → ℕ → Deadline
task_deadline i ts k = record { ticks = deadline_of i ts k; task = k }

-- the enabling deadlines of some tasks when mode i is left
abbrev pub deadlines : ℕ → List Task → List Deadline
deadlines i ts = map (task_deadline i ts) (range_with_len 0 (length ts))

-- deadlines go by their ticks and then by their tasks
abbrev pub deadline_keys : Deadline → List ℕ
deadline_keys d = d.ticks ∷ d.task ∷ []

-- what stands for a deadline that is not there
abbrev pub no_deadline : Deadline
no_deadline = record { ticks = 0; task = 0 }

-- the deadline that goes first
unfoldable pub earliest_of : List Deadline → Deadline
earliest_of ds = slice_index_or ds (unwrap_or (first (by_keys deadline_keys) ds) 0) no_deadline

-- the least E(i, j, ·), with the lowest task that has it
abbrev pub earliest : Plan → ℕ → ℕ → Deadline
earliest p i j = earliest_of (deadlines i (mode_at p j).tasks)
