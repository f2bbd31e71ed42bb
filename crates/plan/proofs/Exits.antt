-- What a reader answers where a part of it was refused, and where a part was read. Assumes nothing.
use Rattle.std.proofs.Common.{◌≡◌, ℕ, IsErrAnd, Ok, Err, Result, sym, ap, arith}
use Rattle.fields.specs.declared.fault.Fault.{Fault}
use Rattle.fields.specs.Faults.{numbers}
use Rattle.fields.specs.Layout.{Reading}
use Rattle.fields.specs.Readers.{answered, converted}

-- an equation of two constructors rules its case out
pub no_case : {A : Type 0} → ◌≡◌ {A = ℕ} 0 1 → A
no_case z = let none : ⊥ = omega arith in absurd none

-- the exit of a `?`
pub stopped : {A : Type 0} (r : Result A Fault) (f : Fault) (at : ℕ) → IsErrAnd r (λ g. g ≡ f) → answered r at ≡ Err (numbers f)
stopped (Ok a) f at h = absurd h
stopped (Err g) f at h = ap (λ x. Err (numbers x)) h

-- what was read, where an answer came in another form
pub record Read {A B : Type 0} (form : A → B) (r : Reading A) (b : B) (at : ℕ) : Type 0 where
  pub value : A
  pub same : b ≡ form value
  pub reads : r ≡ Ok (value, at)

pub read_from : {A B : Type 0} (form : A → B) (r : Reading A) (b : B) (at : ℕ) → Ok (b, at) ≡ converted form r → Read form r b at
read_from {A} {B} form (Ok p) b at e =
    let same : ◌≡◌ {A = B × ℕ} (b, at) (form p.0, p.1) = cc in
    record { value = p.0; same = ap (λ x. x.0) same; reads = ap (λ n. Ok (p.0, n)) (sym (ap (λ x. x.1) same)) }
read_from form (Err t) b at e = no_case (cc)
