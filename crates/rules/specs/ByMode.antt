-- By-mode: three rules in seats, of which one decides for each mode, by the codes of a plan. Assumes nothing.
use Rattle.std.specs.Prelude.{◌≡◌, ℕ, ◌<◌, ◌≤◌, Bool, if◌then◌else◌, ◌≢◌, List, map, length, Some, None, Option, ◌==◌, nat_lt, slice_index_or}
use Rattle.ordering.specs.Groups.{ascending, by_group}
use Rattle.plan.specs.Held.{padded}
use Rattle.plan.specs.Plan.{Plan, mode_at}
use Rattle.plan.specs.Sizes.{most_modes}
use Rattle.rules.specs.declared.jobs.Job.{Job}

-- a rule in a seat: its code, and its order
pub record Seat : Type 0 where
  pub code : ℕ
  pub order : Job → Job → Bool

abbrev pub seated : ℕ → (Job → Job → Bool) → Seat
seated code order = record { code = code; order = order }

-- the code of each mode of a plan, in a table of as many modes as a plan can have
abbrev pub rule_codes : Plan → List (Option ℕ)
rule_codes p = padded most_modes None (map (λ m. Some m.rule) p.modes)

-- the seat that decides for a mode with this code: the first seat that has it, and the third where none has it or there is no code
abbrev pub deciding : Seat → Seat → Seat → Option ℕ → Seat
deciding first second third None = third
deciding first second third (Some code) = if code == first.code then first else if code == second.code then second else third

-- the order: jobs of different modes go by mode number, and jobs of one mode by the seat that decides for it
abbrev pub by_mode : Seat → Seat → Seat → List (Option ℕ) → Job → Job → Bool
by_mode first second third codes = by_group ascending (λ job. job.mode) (λ mode. (deciding first second third (slice_index_or codes mode None)).order)

-- mode j is in the plan, with the code of the rule in this seat
abbrev pub HasCode : Plan → ℕ → Seat → Type 0
HasCode p j s = (j < length p.modes) × ((mode_at p j).rule ≡ s.code)

-- an order over jobs goes by the modes of a plan and by three rules in seats, case by case:
pub record GoesByMode (p : Plan) (first second third : Seat) (before : Job → Job → Bool) : Type 0 where
  -- jobs of different modes go by mode number
  pub modes : (a b : Job) → a.mode ≢ b.mode → before a b ≡ nat_lt a.mode b.mode
  -- jobs of one mode go by the first seat that has its code
  pub by_first : (a b : Job) → a.mode ≡ b.mode → HasCode p a.mode first → before a b ≡ first.order a b
  pub by_second : (a b : Job) → a.mode ≡ b.mode → (HasCode p a.mode first → ⊥) → HasCode p a.mode second → before a b ≡ second.order a b
  pub by_third : (a b : Job) → a.mode ≡ b.mode → (HasCode p a.mode first → ⊥) → (HasCode p a.mode second → ⊥) → HasCode p a.mode third → before a b ≡ third.order a b
  -- and by the third seat where none has it, or where the mode is not in the plan
  pub by_none : (a b : Job) → a.mode ≡ b.mode → (HasCode p a.mode first → ⊥) → (HasCode p a.mode second → ⊥) → (HasCode p a.mode third → ⊥) → before a b ≡ third.order a b
  pub not_in_plan : (a b : Job) → a.mode ≡ b.mode → length p.modes ≤ a.mode → before a b ≡ third.order a b

-- with these codes by-mode goes by the modes of the plan, whatever rules are in the seats
abbrev pub CodesOf : Plan → List (Option ℕ) → Type 0
CodesOf p codes = (first second third : Seat) → GoesByMode p first second third (by_mode first second third codes)
