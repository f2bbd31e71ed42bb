-- The chain adds the times of the tasks, of which there are few, and none is longer than the greatest.
use Rattle.std.proofs.Common.{◌≡◌, ℕ, ◌<◌, ◌≤◌, length, get_or, sum, sym, ap, ◌∙◌, rules, arith}
use Rattle.std.proofs.iter.runs.Made.{chains}
use Rattle.std.proofs.lemmas.List.{length-map, get_or-map}
use Rattle.plan.specs.Held.{plan_of}
use Rattle.plan.specs.Plan.{mode_at, no_task}
use Rattle.verdict.specs.Bound.{costs}
use Rattle.verdict.proofs.Works.{table_costs, work_all, work_below, costs_held}
use Rattle.verdict.proofs.modes.ModeOf.work.Goals as goal
use Rattle.verdict.proofs.modes.ModeOf.work.Goals.{After-sum}

added : (c : After-sum) → let mode = c.args.self.now in c.sum.result ≡ sum (costs (mode_at (plan_of mode.draft.now.plan) mode.number))
added c =
    let total : c.sum.result ≡ sum (table_costs c.tasks.result.now) = search (rules, chains) in
    total ∙ ap sum (costs_held c.tasks.ensures)

pub returns-clause-value : goal.returns-clause-value
returns-clause-value c =
    let mode = c.args.self.now in
    added (goal.at.returns-clause-value c).After-sum ∙ sym (work_all (costs (mode_at (plan_of mode.draft.now.plan) mode.number)))

pub returns-clause-bound : goal.returns-clause-bound
returns-clause-bound c =
    let mode = c.args.self.now in
    let m = mode_at (plan_of mode.draft.now.plan) mode.number in
    let limits = mode.draft.now.within.5 mode.number mode.there in
    let size = length-map m.tasks (λ t. t.cost) in
    let each : (k : ℕ) → k < length (costs m) → get_or (costs m) k 0 ≤ 4095 = λ k h.
    let in_mode : k < length m.tasks = omega (arith, size) in
    omega (arith, get_or-map (λ t. t.cost) m.tasks k no_task 0 in_mode, (limits.3 k in_mode).1) in
    omega (arith, added (goal.at.returns-clause-bound c).After-sum, work_all (costs m), work_below 4095 (costs m) each, size, limits.2)
