-- The work of tasks as a sum, and what it is at least and at most. Assumes nothing.
use Rattle.std.proofs.Common.{◌≡◌, ℕ, zero, suc, ◌+◌, ◌*◌, ◌<◌, ◌≤◌, List, [], ◌∷◌, map, length, get_or, take, sum, sym, refl, ap, ◌∙◌, arith, add-one}
use mathlib.Core.List.{map-map}
use Rattle.std.proofs.lemmas.List.{take_all}
use Rattle.std.proofs.lemmas.List.Sums.{sum_by_more, sum_by-cons, get_or-le-sum_by}
use Rattle.plan.specs.declared.tables.Task.{Task as TaskTable}
use Rattle.plan.specs.Held.{task_of}
use Rattle.plan.specs.Plan.{Plan, mode_at}
use Rattle.verdict.specs.Bound.{costs, work}
use Rattle.verdict.specs.Tables.{HoldTasks}

work_so_far : (cs : List ℕ) (k : ℕ) → k ≤ length cs → work cs k ≡ sum (take k cs)
unfolding work
work_so_far cs zero within = refl
work_so_far cs (suc k) within =
    let before = work_so_far cs k (omega arith) in
    let more = sum_by_more (λ c. c) cs k 0 within in
    ap (λ w. w + get_or cs k 0) before ∙ sym more ∙ ap (λ n. sum (take n cs)) (add-one k)

pub work_all : (cs : List ℕ) → work cs (length cs) ≡ sum cs
work_all cs = work_so_far cs (length cs) (omega arith) ∙ ap sum (take_all (length cs) cs (omega arith))

pub work_each : (cs : List ℕ) (k : ℕ) → k < length cs → get_or cs k 0 ≤ work cs (length cs)
work_each cs k within = omega (arith, work_all cs, get_or-le-sum_by (λ c. c) cs k 0 within)

sum_below : (b : ℕ) (cs : List ℕ) → ((k : ℕ) → k < length cs → get_or cs k 0 ≤ b) → sum cs ≤ length cs * b
sum_below b [] each = omega arith
sum_below b (c ∷ cs) each =
    let first = each 0 (omega arith) in
    let rest = sum_below b cs (λ k within. each (suc k) (omega arith)) in
    let all = sum_by-cons (λ x. x) c cs in
    grind arith

pub work_below : (b : ℕ) (cs : List ℕ) → ((k : ℕ) → k < length cs → get_or cs k 0 ≤ b) → work cs (length cs) ≤ length cs * b
work_below b cs each = omega (arith, work_all cs, sum_below b cs each)

-- the times in a table of tasks
abbrev pub table_costs : List TaskTable → List ℕ
table_costs ts = map (λ t. t.cost) ts

-- the tables of a mode's tasks have their times
pub costs_held : {p : Plan} {j : ℕ} {tables : List TaskTable} → HoldTasks p j tables → table_costs tables ≡ costs (mode_at p j)
costs_held {p} {j} {tables} tasks = sym (map-map (λ t. t.cost) (task_of (length p.modes)) tables) ∙ ap (map (λ t. t.cost)) tasks.held
