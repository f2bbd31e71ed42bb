-- What a reader answers, beside what a layout reads. Assumes nothing.
use Rattle.std.specs.Prelude.{◌≡◌, ℕ, List, Ok, Err, Option, Result}
use Rattle.fields.specs.declared.bits.BitReader.{BitReader}
use Rattle.fields.specs.declared.fault.Fault.{Fault}
use Rattle.fields.specs.declared.fault.FieldFault.{FieldFault}
use Rattle.fields.specs.Bits.{bits}
use Rattle.fields.specs.Faults.{told, numbers}
use Rattle.fields.specs.Layout.{Reading}

-- an answer, with the bit at which the reader then stands
abbrev pub answered : {A : Type 0} → Result A Fault → ℕ → Reading A
answered (Ok a) at = Ok (a, at)
answered (Err f) at = Err (numbers f)

-- a reader answers what a reading of its bytes gives at its bit, and then stands after that, over the same bytes
pub record Answers {A : Type 0} (reading : List ℕ → ℕ → Reading A) (before : BitReader) (answer : Result A Fault) (after : BitReader) : Type 0 where
  pub value : answered answer after.at ≡ reading (bits before.bytes.now) before.at
  pub bytes : after.bytes.now ≡ before.bytes.now

-- an answer that does not know its mode and task yet
abbrev pub located : Option ℕ → Option ℕ → Result ℕ FieldFault → ℕ → Reading ℕ
located mode task (Ok n) at = Ok (n, at)
located mode task (Err f) at = Err (told f.refusal f.field mode task f.bit)

-- a reading, with the value in another form
abbrev pub converted : {A B : Type 0} → (A → B) → Reading A → Reading B
converted form (Ok r) = Ok (form r.0, r.1)
converted form (Err t) = Err t
