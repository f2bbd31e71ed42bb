-- Layouts of values in bits: what is written of a value, and what is read at a bit. Assumes nothing.
use Rattle.std.specs.Prelude.{ℕ, zero, suc, ◌+◌, cond, ◌&&◌, List, [], ◌∷◌, ◌++◌, Some, None, Ok, Err, Option, Result, nat_le}
use Rattle.fields.specs.declared.fault.Refusal.TheVariants.{Ended, OutOfRange}
use Rattle.fields.specs.declared.fault.Field.{Field}
use Rattle.fields.specs.declared.fault.Field.TheVariants.{Processors, Modes, Start, Rule, Tasks, Cost, Deadline, Separation, Enabling, Padding}
use Rattle.fields.specs.Bits.{binary, taken}
use Rattle.fields.specs.Faults.{Told, told}

-- a value with the first bit after it, or what is wrong
abbrev pub Reading : Type 0 → Type 0
Reading A = Result (A × ℕ) Told

-- how a value stands in bits
pub record Layout (A : Type 0) : Type 0 where
  -- the bits of a value
  pub write : A → List ℕ
  -- what stands at a bit of a file
  pub read : List ℕ → ℕ → Reading A

-- the number of bits of a field
abbrev pub width : Field → ℕ
width Processors = 3
width Modes = 3
width Start = 3
width Rule = 2
width Tasks = 4
width Cost = 12
width Deadline = 16
width Separation = 16
width Enabling = 16
width Padding = 0

-- what is read of a number that is to lie between a least and a greatest value
abbrev pub judged : Field → Option ℕ → Option ℕ → ℕ → ℕ → ℕ → Option ℕ → Reading ℕ
judged f mode task least most at None = Err (told Ended f mode task at)
judged f mode task least most at (Some n) = cond (nat_le least n && nat_le n most) (Ok (n, at + width f)) (Err (told OutOfRange f mode task at))

-- a number in a field of a mode and a task, or of neither
unfoldable pub field : Field → Option ℕ → Option ℕ → ℕ → ℕ → Layout ℕ
field f mode task least most = record { write = binary (width f); read = λ bs at. judged f mode task least most at (taken (width f) bs at) }

-- a reading, and then another that starts where it ended
abbrev pub followed : {A B : Type 0} → Reading A → (A → ℕ → Reading B) → Reading B
followed (Ok r) next = next r.0 r.1
followed (Err t) next = Err t

-- nothing but this value, which takes no bits
unfoldable pub whole : {A : Type 0} → A → Layout A
whole a = record { write = λ _. []; read = λ bs at. Ok (a, at) }

-- a part of a value, and then the rest, which may depend on that part
unfoldable pub part : {A B : Type 0} → (B → A) → Layout A → (A → Layout B) → Layout B
part of first rest = record {
  write = λ b. first.write (of b) ++ (rest (of b)).write b;
  read = λ bs at. followed (first.read bs at) (λ a next. (rest a).read bs next);
}

-- what is written of values one after the other, from number i on
unfoldable pub write_each : {A : Type 0} → (ℕ → Layout A) → ℕ → List A → List ℕ
write_each item i [] = []
write_each item i (x ∷ xs) = (item i).write x ++ write_each item (i + 1) xs

-- what is read of so many values, from number i on
unfoldable pub read_each : {A : Type 0} → (ℕ → List ℕ → ℕ → Reading A) → ℕ → ℕ → List ℕ → ℕ → Reading (List A)
read_each reading i zero bs at = Ok ([], at)
read_each reading i (suc n) bs at = followed (reading i bs at) (λ x next. followed (read_each reading (i + 1) n bs next) (λ xs end. Ok (x ∷ xs, end)))

-- so many values, one after the other, where the layout of each may depend on its number
abbrev pub each : {A : Type 0} → ℕ → (ℕ → Layout A) → Layout (List A)
each n item = record { write = write_each item 0; read = read_each (λ i. (item i).read) 0 n }
