-- What a whole file says, and what the file of a plan is. Assumes nothing.
use Rattle.std.specs.Prelude.{ℕ, ◌-◌, List, ◌++◌, length, drop, replicate, Some, None, Ok, Err, Option, Result}
use Rattle.fields.specs.declared.fault.Refusal.TheVariants.{Trailing}
use Rattle.fields.specs.declared.fault.Field.TheVariants.{Padding}
use Rattle.fields.specs.Bits.{bits}
use Rattle.fields.specs.Padding.{byte_end, stray}
use Rattle.fields.specs.Faults.{Told, told}
use Rattle.fields.specs.Layout.{Reading}
use Rattle.plan.specs.Plan.{Plan}
use Rattle.plan.specs.File.{plan_layout}

-- a plan, if no bit is astray after its fields
abbrev pub ended : Plan → Option ℕ → Result Plan Told
ended p None = Ok p
ended p (Some at) = Err (told Trailing Padding None None at)

-- a reading of the fields, with what comes after them
abbrev pub closed : List ℕ → Reading Plan → Result Plan Told
closed bs (Ok r) = ended r.0 (stray (byte_end r.1) (drop r.1 bs) r.1)
closed bs (Err t) = Err t

-- the plan that a file holds, or why it is refused
unfoldable pub decode : List ℕ → Result Plan Told
decode bytes = closed (bits bytes) (plan_layout.read (bits bytes) 0)

-- the bits of a plan's file: its fields, and 0 bits to the end of the byte
unfoldable pub laid : Plan → List ℕ
laid p = let fields = plan_layout.write p in fields ++ replicate (byte_end (length fields) - length fields) 0
