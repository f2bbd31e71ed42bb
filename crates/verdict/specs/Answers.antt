-- What adopting a draft and asking a sound plan answer. Assumes nothing.
use Rattle.std.specs.Prelude.{ℕ, Bool, cond, not, ◌&&◌, length, Some, None, Ok, Err, Option, Result, ◌==◌, nat_lt}
use Rattle.plan.specs.declared.tables.Plan.{Plan as PlanTable}
use Rattle.plan.specs.Plan.{Plan}
use Rattle.verdict.specs.declared.refusals.NoMode.{NoMode}
use Rattle.verdict.specs.declared.refusals.Unsound.{Unsound}
use Rattle.verdict.specs.Bound.{bound_of}
use Rattle.verdict.specs.Verdict.{Told, unsound_number, judgement}

-- the numbers of a pair that fails
abbrev pub told : Unsound → Told
told u = record { number = unsound_number; old = u.old; new = u.new; task = u.task; bound = u.bound; deadline = u.deadline }

-- what an answer tells: nothing where it adopts
abbrev pub refusal : {A : Type 0} → Result A Unsound → Option Told
refusal (Ok a) = None
refusal (Err u) = Some (told u)

-- the tables in a place after a verdict: those of the draft, or those that it had
abbrev pub adopted : Option Told → PlanTable → PlanTable → PlanTable
adopted None draft old = draft
adopted (Some t) draft old = old

-- the number of the refusal that there is no such mode
abbrev pub no_mode_number : ℕ
no_mode_number = 28

-- an answer by its number
abbrev pub numbered : {A : Type 0} → Result A NoMode → Result A ℕ
numbered (Ok a) = Ok a
numbered (Err e) = Err no_mode_number

-- the bound of mode i, where there is one
abbrev pub bound_answer : Plan → ℕ → Result ℕ ℕ
bound_answer p i = cond (nat_lt i (length p.modes)) (Ok (bound_of p i)) (Err no_mode_number)

-- whether i and j are two modes of the plan
abbrev pub is_pair : Plan → ℕ → ℕ → Bool
is_pair p i j = nat_lt i (length p.modes) && (nat_lt j (length p.modes) && not (i == j))

-- the judgement of the pair (i, j), where there is one
abbrev pub changeover : Plan → ℕ → ℕ → Option (ℕ × ℕ)
changeover p i j = cond (is_pair p i j) (Some (judgement p i j)) None
