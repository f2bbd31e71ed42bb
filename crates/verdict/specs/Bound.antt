-- The longest changeover out of a mode, in ticks. Assumes nothing.
use Rattle.std.specs.Prelude.{◌≡◌, ℕ, zero, suc, ◌+◌, ◌-◌, ◌*◌, ◌/◌, ◌<◌, ◌≤◌, max, cond, List, map, length, fold, nat_le, slice_index}
use Rattle.plan.specs.Plan.{Mode, Plan, mode_at}

-- the execution times C of the tasks of a mode
abbrev pub costs : Mode → List ℕ
costs m = map (λ t. t.cost) m.tasks

-- W(k), the work of the first k tasks
unfoldable pub work : List ℕ → ℕ → ℕ
work cs zero = 0
work cs (suc k) = work cs k + slice_index cs k

-- the largest C
abbrev pub largest : List ℕ → ℕ
largest cs = fold max 0 cs

-- the bound on m processors of n tasks that have work w in all and a largest C of c
abbrev pub bound_formula : ℕ → ℕ → ℕ → ℕ → ℕ
bound_formula m n w c = cond (nat_le n m) c ((w + (m - 1) * c) / m)

-- the bound of tasks with these C on m processors
abbrev pub bound : ℕ → List ℕ → ℕ
bound m cs = bound_formula m (length cs) (work cs (length cs)) (largest cs)

-- U(i), the longest changeover out of mode i
abbrev pub bound_of : Plan → ℕ → ℕ
bound_of p i = bound p.processors (costs (mode_at p i))

-- a number of ticks is the bound of tasks with these C on m processors, in other words:
pub record Longest (m : ℕ) (cs : List ℕ) (ticks : ℕ) : Type 0 where
  -- it is at least every C, and at most the work of all tasks
  pub each : (k : ℕ) → k < length cs → slice_index cs k ≤ ticks
  pub all : ticks ≤ work cs (length cs)
  -- where every task has a processor of its own, it is the largest C
  pub alone : length cs ≤ m → ticks ≡ largest cs
  -- else it is the greatest number of ticks that m processors fill with the work of all tasks and m - 1 times the largest C
  pub shared : m < length cs → (m * ticks ≤ work cs (length cs) + (m - 1) * largest cs) × (work cs (length cs) + (m - 1) * largest cs < m * (ticks + 1))

-- a number of ticks is the longest changeover out of mode i
abbrev pub LongestOf : Plan → ℕ → ℕ → Type 0
LongestOf p i ticks = Longest p.processors (costs (mode_at p i)) ticks
