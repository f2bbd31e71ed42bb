-- What the bound of a mode is, in other words than its formula. Assumes nothing.
use Rattle.std.proofs.Common.{◌≡◌, ℕ, zero, suc, ◌+◌, ◌-◌, ◌*◌, ◌/◌, ◌<◌, ◌≤◌, max, List, [], ◌∷◌, length, get_or, fold, ap, ◌∙◌, le_of_suc-le-suc, not-suc-le-zero, mul_comm, add-mul, arith}
use native.Mathlib.Nat.{le-max_left, le-max_right, max-le}
use Rattle.std.proofs.lemmas.Nat.{div-add-mod', mod_below, le-div, div_below}
use Rattle.std.proofs.lemmas.Bool.Decides.{nat_tests}
use Rattle.verdict.specs.Bound.{work, largest, bound, Longest}
use Rattle.verdict.proofs.Works.{work_each}

-- a running maximum is at least where it began and each number, and at most what all of these are at most
most_start : (a : ℕ) (cs : List ℕ) → a ≤ fold max a cs
most_start a [] = omega arith
most_start a (c ∷ cs) = omega (arith, most_start (max a c) cs, le-max_left a c)

most_each : (a : ℕ) (cs : List ℕ) (k : ℕ) → k < length cs → get_or cs k 0 ≤ fold max a cs
most_each a [] k h = absurd (not-suc-le-zero h)
most_each a (c ∷ cs) zero h = omega (arith, most_start (max a c) cs, le-max_right a c)
most_each a (c ∷ cs) (suc k) h = most_each (max a c) cs k (le_of_suc-le-suc h)

most_below : (a b : ℕ) (cs : List ℕ) → a ≤ b → ((k : ℕ) → k < length cs → get_or cs k 0 ≤ b) → fold max a cs ≤ b
most_below a b [] h each = h
most_below a b (c ∷ cs) h each = most_below (max a c) b cs (max-le h (each 0 (omega arith))) (λ k l. each (suc k) (omega arith))

-- the work of tasks is at least the largest time
largest_below_work : (cs : List ℕ) → largest cs ≤ work cs (length cs)
largest_below_work cs = most_below 0 (work cs (length cs)) cs (omega arith) (work_each cs)

-- the quotient that the bound is, where tasks share processors
module _ (m w c : ℕ) (some : 1 ≤ m) (fits : c ≤ w) where
  abbrev quotient : ℕ
  quotient = (w + (m - 1) * c) / m

  at_least : c ≤ quotient
  at_least =
      let one : m ≡ (m - 1) + 1 = omega arith in
      let split = ap (λ k. k * c) one ∙ add-mul (m - 1) 1 c in
      le-div c (w + (m - 1) * c) m some (omega (arith, mul_comm c m, split))

  at_most : quotient ≤ w
  at_most = let below = div_below (w + (m - 1) * c) m (w + 1) some (grind arith) in omega (arith, below)

  rounded : (m * quotient ≤ w + (m - 1) * c) × (w + (m - 1) * c < m * (quotient + 1))
  rounded =
      let whole = div-add-mod' (w + (m - 1) * c) m in
      let rest = mod_below (w + (m - 1) * c) m some in
      (grind arith, grind arith)

pub bound_longest : (m : ℕ) → 1 ≤ m → (cs : List ℕ) → Longest m cs (bound m cs)
bound_longest m some cs =
    let w = work cs (length cs) in
    let c = largest cs in
    let fits : c ≤ w = largest_below_work cs in
    let low = at_least m w c some fits in
    let high = at_most m w c some fits in
    let near = rounded m w c some fits in
    record {
      each = λ k within. let most = most_each 0 cs k within in grind (arith, nat_tests);
      all = grind (arith, nat_tests);
      alone = λ few. grind (arith, nat_tests);
      shared = λ many. grind (arith, nat_tests);
    }
