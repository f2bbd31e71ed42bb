-- The tables of a plan within the limits hold that plan. Assumes nothing.
use Rattle.std.proofs.Common.{◌≡◌, ℕ, ◌-◌, ◌<◌, List, map, length, get_or, take, replicate, ap, ◌∙◌, arith}
use Rattle.std.proofs.lemmas.List.{take_at, length-map, get_or-map, ext_get_or}
use Rattle.plan.specs.Held.{padded, blank_task, blank_mode, task_table, mode_table, plan_table, task_of, mode_of, plan_of}
use Rattle.plan.specs.Plan.{Task, Mode, Plan, no_task, no_mode, mode_at, TaskWithin, ModeWithin, Within}

-- what is in a table, where each entry gives back what it was made of
from_table : {A X : Type 0} (to : A → X) (from : X → A) (size : ℕ) (blank : X) (d : A) (xs : List A) → ((i : ℕ) → i < length xs → from (to (get_or xs i d)) ≡ get_or xs i d) → map from (take (length xs) (padded size blank (map to xs))) ≡ xs
from_table to from size blank d xs back =
    let front = take_at (map to xs) (replicate (size - length (map to xs)) blank) (length xs) (length-map xs to) in
    ap (map from) front ∙ ext_get_or d (map from (map to xs)) xs (length-map (map to xs) from ∙ length-map xs to) (λ i h.
    let within : i < length xs = omega (arith, length-map (map to xs) from, length-map xs to) in
    get_or-map from (map to xs) i (to d) d (omega (arith, length-map xs to)) ∙ ap from (get_or-map to xs i d (to d) within) ∙ back i within)

task_back : (n j : ℕ) (t : Task) → TaskWithin n j t → task_of n (task_table t) ≡ t
task_back n j t within = λ i. record { cost = t.cost; deadline = t.deadline; separation = t.separation; enabling = take_at t.enabling (replicate (8 - length t.enabling) 0) n within.5 i }

mode_back : (n j : ℕ) (m : Mode) → ModeWithin n j m → mode_of n (mode_table m) ≡ m
mode_back n j m within =
    let same = from_table task_table (task_of n) 16 blank_task no_task m.tasks (λ k h. task_back n j (get_or m.tasks k no_task) (within.3 k h)) in
    λ i. record { rule = m.rule; tasks = same i }

pub plan_back : (p : Plan) → Within p → plan_of (plan_table p) ≡ p
plan_back p within =
    let n = length p.modes in
    let same = from_table mode_table (mode_of n) 8 blank_mode no_mode p.modes (λ j h. mode_back n j (mode_at p j) (within.5 j h)) in
    λ i. record { processors = p.processors; start = p.start; modes = same i }
