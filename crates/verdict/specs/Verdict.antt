-- The verdict on a plan: the first pair of modes that fails, or none. Assumes nothing.
use Rattle.std.specs.Prelude.{ℕ, zero, suc, Bool, cond, ◌||◌, length, Some, None, Option, ◌==◌, nat_le}
use Rattle.std.specs.Option.{option_or}
use Rattle.plan.specs.Plan.{Plan}
use Rattle.verdict.specs.Bound.{bound_of}
use Rattle.verdict.specs.Enabling.{earliest}

-- the number of the refusal that a pair of modes fails
abbrev pub unsound_number : ℕ
unsound_number = 11

-- what is told of a draft that is not adopted
pub record Told : Type 0 where
  pub number : ℕ
  -- the mode that is left, and the mode that is entered
  pub old : ℕ
  pub new : ℕ
  -- the task with the least enabling deadline
  pub task : ℕ
  -- the longest changeover, and that deadline
  pub bound : ℕ
  pub deadline : ℕ

-- the judgement of the pair (i, j): U(i), and the least E(i, j, ·)
abbrev pub judgement : Plan → ℕ → ℕ → ℕ × ℕ
judgement p i j = (bound_of p i, (earliest p i j).ticks)

-- whether a changeover of a judgement ends in time
abbrev pub in_time : ℕ × ℕ → Bool
in_time pair = nat_le pair.0 pair.1

-- whether the pair (i, j) passes: no board goes from a mode to itself
abbrev pub passes : Plan → ℕ → ℕ → Bool
passes p i j = i == j || in_time (judgement p i j)

-- what is told of the pair (i, j)
abbrev pub pair_told : Plan → ℕ → ℕ → Told
pair_told p i j = record { number = unsound_number; old = i; new = j; task = (earliest p i j).task; bound = (judgement p i j).0; deadline = (judgement p i j).1 }

-- what is told of the pair (i, j), where it fails
unfoldable pub failing : Plan → ℕ → ℕ → Option Told
failing p i j = cond (passes p i j) None (Some (pair_told p i j))

-- what is told of the first number below n of which something is told
abbrev pub first_told : {A : Type 0} → ℕ → (ℕ → Option A) → Option A
first_told zero telling = None
first_told (suc n) telling = option_or (first_told n telling) (telling n)

-- what is told of the first pair that fails, where the first n modes are entered from mode i
abbrev pub failing_from : Plan → ℕ → ℕ → Option Told
failing_from p i n = first_told n (failing p i)

-- what is told of the first pair that fails, where one of the first m modes is left
abbrev pub failing_before : Plan → ℕ → Option Told
failing_before p m = first_told m (λ i. failing_from p i (length p.modes))

-- what is told of the first pair that fails, by the mode that is left and then by the mode that is entered
abbrev pub verdict : Plan → Option Told
verdict p = failing_before p (length p.modes)
