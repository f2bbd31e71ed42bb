-- The tables of a mode's tasks. Assumes nothing.
use Rattle.std.specs.Prelude.{◌≡◌, ℕ, ◌≤◌, List, map, length}
use Rattle.plan.specs.declared.tables.Task.{Task as TaskTable}
use Rattle.plan.specs.Held.{task_of}
use Rattle.plan.specs.Plan.{Plan, mode_at}
use Rattle.plan.specs.Sizes.{most_tasks}

-- tables hold the tasks of mode j: there is one, and few enough that their work fits
pub record HoldTasks (p : Plan) (j : ℕ) (tables : List TaskTable) : Type 0 where
  pub held : map (task_of (length p.modes)) tables ≡ (mode_at p j).tasks
  pub some : 1 ≤ length tables
  pub few : length tables ≤ most_tasks
