-- Sound plans, in which every changeover ends in time. Assumes nothing.
use Rattle.std.specs.Prelude.{◌≡◌, ℕ, ◌<◌, ◌≤◌, ◌≢◌, ◌⊎◌, length, Some, None, Option}
use Rattle.plan.specs.Plan.{Plan}
use Rattle.verdict.specs.Bound.{bound_of}
use Rattle.verdict.specs.Enabling.{tasks_in, enabling}
use Rattle.verdict.specs.Verdict.{Told, unsound_number}

-- i and j are two modes of the plan
abbrev pub Pair : Plan → ℕ → ℕ → Type 0
Pair p i j = (i < length p.modes) × (j < length p.modes) × (i ≢ j)

-- the pair (i, j) passes: U(i) is at most every E(i, j, k)
abbrev pub Passes : Plan → ℕ → ℕ → Type 0
Passes p i j = (k : ℕ) → k < tasks_in p j → bound_of p i ≤ enabling p i j k

-- a changeover from mode i to mode j enables task k
abbrev pub Enables : Plan → ℕ → ℕ → ℕ → Type 0
Enables p i j k = Pair p i j × (k < tasks_in p j)

-- a number of ticks is at most every enabling deadline when mode i is left
abbrev pub InTime : Plan → ℕ → ℕ → Type 0
InTime p i ticks = (j k : ℕ) → Enables p i j k → ticks ≤ enabling p i j k

-- every pair of modes passes: for all modes i and j that differ and all tasks k of j, U(i) is at most E(i, j, k)
abbrev pub EveryPairPasses : Plan → Type 0
EveryPairPasses p = (i : ℕ) → InTime p i (bound_of p i)

-- the pair (i, j) is tried before the pair (old, new)
abbrev pub Earlier : ℕ → ℕ → ℕ → ℕ → Type 0
Earlier i j old new = (i < old) ⊎ ((i ≡ old) × (j < new))

-- what is told is the first pair that fails, with the lowest task that has its least enabling deadline
pub record FirstFailing (p : Plan) (t : Told) : Type 0 where
  pub number : t.number ≡ unsound_number
  -- two modes, and every pair before them passes
  pub pair : Pair p t.old t.new
  pub first : (i j : ℕ) → Pair p i j → Earlier i j t.old t.new → Passes p i j
  -- a task of the new mode, the bound and its deadline, which is the shorter
  pub task : t.task < tasks_in p t.new
  pub bound : t.bound ≡ bound_of p t.old
  pub deadline : t.deadline ≡ enabling p t.old t.new t.task
  pub fails : t.deadline < t.bound
  -- no task has an earlier deadline, and no lower task has the same
  pub least : (k : ℕ) → k < tasks_in p t.new → t.deadline ≤ enabling p t.old t.new k
  pub lowest : (k : ℕ) → k < t.task → t.deadline < enabling p t.old t.new k

-- nothing is told where every pair passes; else the first pair that fails is told, and not every pair passes
abbrev pub Judged : Plan → Option Told → Type 0
Judged p None = EveryPairPasses p
Judged p (Some t) = FirstFailing p t × (EveryPairPasses p → ⊥)
