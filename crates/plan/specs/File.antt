-- The layout of a plan file: its fields, one after the other, with their limits. Assumes nothing.
use Rattle.std.specs.Prelude.{ℕ, ◌+◌, ◌-◌, cond, length, Some, None, ◌==◌}
use Rattle.fields.specs.declared.fault.Field.TheVariants.{Processors, Modes, Start, Rule, Tasks, Cost, Deadline, Separation, Enabling}
use Rattle.fields.specs.Layout.{Layout, field, whole, part, each}
use Rattle.plan.specs.Plan.{Task, Mode, Plan}
use Rattle.plan.specs.Sizes.{most_processors, most_modes, most_tasks, greatest_cost, greatest_time, greatest_rule}

-- the enabling deadline for old mode i of task k of mode j: none is written for j itself
unfoldable pub enabling_layout : ℕ → ℕ → ℕ → Layout ℕ
enabling_layout j k i = cond (i == j) (whole 0) (field Enabling (Some j) (Some k) 0 greatest_time)

-- task k of mode j, in a plan of n modes
unfoldable pub task_layout : ℕ → ℕ → ℕ → Layout Task
task_layout n j k =
    part (λ t. t.cost) (field Cost (Some j) (Some k) 1 greatest_cost) (λ c.
    part (λ t. t.deadline) (field Deadline (Some j) (Some k) c greatest_time) (λ d.
    part (λ t. t.separation) (field Separation (Some j) (Some k) d greatest_time) (λ s.
    part (λ t. t.enabling) (each n (enabling_layout j k)) (λ e.
    whole (record { cost = c; deadline = d; separation = s; enabling = e })))))

-- mode j, in a plan of n modes
unfoldable pub mode_layout : ℕ → ℕ → Layout Mode
mode_layout n j =
    part (λ m. m.rule) (field Rule (Some j) None 0 greatest_rule) (λ r.
    part (λ m. length m.tasks - 1) (field Tasks (Some j) None 0 (most_tasks - 1)) (λ last.
    part (λ m. m.tasks) (each (last + 1) (task_layout n j)) (λ ts.
    whole (record { rule = r; tasks = ts }))))

-- a plan
unfoldable pub plan_layout : Layout Plan
plan_layout =
    part (λ p. p.processors - 1) (field Processors None None 0 (most_processors - 1)) (λ m.
    part (λ p. length p.modes - 1) (field Modes None None 0 (most_modes - 1)) (λ last.
    part (λ p. p.start) (field Start None None 0 last) (λ s.
    part (λ p. p.modes) (each (last + 1) (mode_layout (last + 1))) (λ ms.
    whole (record { processors = m + 1; start = s; modes = ms })))))
