-- The numbers of the refusals and of the fields, and the numbers that a fault tells. Assumes nothing.
use Rattle.std.specs.Prelude.{ℕ, List, [], ◌∷◌, Option}
use Rattle.std.specs.Option.{unwrap_or}
use Rattle.fields.specs.declared.fault.Refusal.{Refusal}
use Rattle.fields.specs.declared.fault.Refusal.TheVariants.{Ended, OutOfRange, Trailing}
use Rattle.fields.specs.declared.fault.Field.{Field}
use Rattle.fields.specs.declared.fault.Field.TheVariants.{Processors, Modes, Start, Rule, Tasks, Cost, Deadline, Separation, Enabling, Padding}
use Rattle.fields.specs.declared.fault.Fault.{Fault}

-- the numbers of the refusals
abbrev pub refusal_number : Refusal → ℕ
refusal_number Ended = 1
refusal_number OutOfRange = 2
refusal_number Trailing = 3

-- the numbers of the fields
abbrev pub field_number : Field → ℕ
field_number Processors = 1
field_number Modes = 2
field_number Start = 3
field_number Rule = 4
field_number Tasks = 5
field_number Cost = 6
field_number Deadline = 7
field_number Separation = 8
field_number Enabling = 9
field_number Padding = 10

-- what is told of a refused file
pub record Told : Type 0 where
  pub number : ℕ
  pub field : ℕ
  -- the mode and the task that the field belongs to, where it belongs to one
  pub mode : Option ℕ
  pub task : Option ℕ
  pub bit : ℕ

-- the numbers of a refusal at a field of a mode and a task, told at a bit
abbrev pub told : Refusal → Field → Option ℕ → Option ℕ → ℕ → Told
told r f mode task bit = record { number = refusal_number r; field = field_number f; mode = mode; task = task; bit = bit }

-- the numbers of a fault
abbrev pub numbers : Fault → Told
numbers f = told f.refusal f.field f.owner.mode f.owner.task f.bit

-- the number of a mode or a task where there is none
abbrev pub none : ℕ
none = 255

-- the five numbers in a row: refusal, field, mode, task and bit
abbrev pub five : Told → List ℕ
five t = t.number ∷ t.field ∷ unwrap_or t.mode none ∷ unwrap_or t.task none ∷ t.bit ∷ []
