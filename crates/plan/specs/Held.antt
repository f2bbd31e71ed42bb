-- The tables of a plan, and the plan that tables hold. Assumes nothing.
use Rattle.std.specs.Prelude.{ℕ, ◌-◌, List, ◌++◌, map, length, take, replicate}
use Rattle.plan.specs.declared.tables.Task.{Task as TaskTable}
use Rattle.plan.specs.declared.tables.Mode.{Mode as ModeTable}
use Rattle.plan.specs.declared.tables.Plan.{Plan as PlanTable}
use Rattle.plan.specs.Plan.{Task, Mode, Plan}
use Rattle.plan.specs.Sizes.{most_modes, most_tasks}

-- a list in a table of n places, with blanks after it
abbrev pub padded : {A : Type 0} → ℕ → A → List A → List A
padded n blank xs = xs ++ replicate (n - length xs) blank

-- what unused places hold
abbrev pub blank_task : TaskTable
blank_task = record { cost = 0; deadline = 0; separation = 0; enabling = replicate most_modes 0 }

abbrev pub blank_mode : ModeTable
blank_mode = record { rule = 0; count = 0; tasks = replicate most_tasks blank_task }

-- the tables of a task, a mode and a plan
abbrev pub task_table : Task → TaskTable
task_table t = record { cost = t.cost; deadline = t.deadline; separation = t.separation; enabling = padded most_modes 0 t.enabling }

abbrev pub mode_table : Mode → ModeTable
mode_table m = record { rule = m.rule; count = length m.tasks; tasks = padded most_tasks blank_task (map task_table m.tasks) }

abbrev pub plan_table : Plan → PlanTable
plan_table p = record { processors = p.processors; start = p.start; count = length p.modes; modes = padded most_modes blank_mode (map mode_table p.modes) }

-- the task, the mode and the plan in a table, where the plan has n modes
abbrev pub task_of : ℕ → TaskTable → Task
task_of n t = record { cost = t.cost; deadline = t.deadline; separation = t.separation; enabling = take n t.enabling }

abbrev pub mode_of : ℕ → ModeTable → Mode
mode_of n m = record { rule = m.rule; tasks = map (task_of n) (take m.count m.tasks) }

abbrev pub plan_of : PlanTable → Plan
plan_of p = record { processors = p.processors; start = p.start; modes = map (mode_of p.count) (take p.count p.modes) }
