-- What reading a file answers and leaves, and which files it accepts. Assumes nothing.
use Rattle.std.specs.Prelude.{◌≡◌, ℕ, Bool, true, false, List, take, Some, None, Ok, Err, Option, Result}
use Rattle.fields.specs.declared.fault.Fault.{Fault}
use Rattle.plan.specs.declared.tables.Plan.{Plan as PlanTable}
use Rattle.fields.specs.Bits.{bits}
use Rattle.fields.specs.Faults.{Told, numbers}
use Rattle.plan.specs.Held.{plan_of, plan_table}
use Rattle.plan.specs.Plan.{Plan, Within}
use Rattle.plan.specs.Sizes.{deciding_bytes}
use Rattle.plan.specs.Decode.{decode, laid}

-- what an answer tells: nothing where it accepts
abbrev pub refusal : {A : Type 0} → Result A Fault → Option Told
refusal (Ok a) = None
refusal (Err f) = Some (numbers f)

-- what a decoding tells
abbrev pub refused_as : Result Plan Told → Option Told
refused_as (Ok p) = None
refused_as (Err t) = Some t

-- an answer by its numbers, and a decoding by its tables
abbrev pub numbered : {A : Type 0} → Result A Fault → Result A Told
numbered (Ok a) = Ok a
numbered (Err f) = Err (numbers f)

abbrev pub tabled : Result Plan Told → Result PlanTable Told
tabled (Ok p) = Ok (plan_table p)
tabled (Err t) = Err t

-- the tables in a place after a decoding: those of the plan, or those that it had
abbrev pub placed : Result Plan Told → PlanTable → PlanTable
placed (Ok p) old = plan_table p
placed (Err t) old = old

-- a file that holds a plan within the limits
abbrev pub Holds : List ℕ → Plan → Type 0
Holds bytes p = Within p × (bits bytes ≡ laid p)

-- a file is accepted exactly when it holds some plan, and then as that plan
abbrev pub AcceptsExactly : List ℕ → Bool → Plan → Type 0
AcceptsExactly bytes accepted plan = (accepted ≡ true → Holds bytes plan) × ((p : Plan) → Holds bytes p → (accepted ≡ true) × (plan ≡ p))

-- the first 2,505 bytes of a file tell as much as the whole
abbrev pub FrontTells : List ℕ → Type 0
FrontTells bytes = decode (take deciding_bytes bytes) ≡ decode bytes

-- tables of the plan that a file is decoded as, and a fault that the decoding tells
abbrev pub Drafted : List ℕ → PlanTable → Type 0
Drafted bytes tables = (refused_as (decode bytes) ≡ None) × ((old : PlanTable) → placed (decode bytes) old ≡ tables) × AcceptsExactly bytes true (plan_of tables)

abbrev pub Refused : List ℕ → Fault → Type 0
Refused bytes fault = (refused_as (decode bytes) ≡ Some (numbers fault)) × ((old : PlanTable) → placed (decode bytes) old ≡ old) × ((plan : Plan) → AcceptsExactly bytes false plan)
