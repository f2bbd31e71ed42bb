-- What the readers of a plan's parts answer, beside the layouts of these parts. Assumes nothing.
use Rattle.std.specs.Prelude.{ℕ, List, Result}
use Rattle.std.specs.Borrow.{MutBor}
use Rattle.fields.specs.declared.bits.BitReader.{BitReader}
use Rattle.fields.specs.declared.fault.Fault.{Fault}
use Rattle.fields.specs.Layout.{Layout, Reading, read_each}
use Rattle.fields.specs.Readers.{Answers, converted}
use Rattle.plan.specs.Held.{padded}

-- it answers as a layout reads, with the value in another form
abbrev pub ReadsAs : {A B : Type 0} → (A → B) → Layout A → BitReader → Result B Fault → BitReader → Type 0
ReadsAs form l before answer after = Answers (λ bs at. converted form (l.read bs at)) before answer after

-- what calls may do with a reader and a number
abbrev pub Calls : Type 0 → Type 1
Calls A = MutBor BitReader → ℕ → Result A Fault → MutBor BitReader → Type 0

-- whatever reading of each number the calls give, so many of them one after the other, as a table of n places
abbrev pub ReadsTable : {A : Type 0} → Calls A → ℕ → A → ℕ → BitReader → Result (List A) Fault → BitReader → Type 0
ReadsTable {A} calls n blank count before answer after =
    (reading : ℕ → List ℕ → ℕ → Reading A)
    → ((p q : MutBor BitReader) (i : ℕ) (r : Result A Fault) → calls p i r q → Answers (reading i) p.now r q.now)
    → Answers (λ bs at. converted (padded n blank) (read_each reading 0 count bs at)) before answer after
