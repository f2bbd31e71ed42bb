-- The first number of which something is told. Assumes nothing.
use Rattle.std.proofs.Common.{◌≡◌, ℕ, zero, suc, ◌<◌, true, false, length, Some, None, Option, is_some, sym, refl, ◌∙◌, inl, inr, arith}
use Rattle.plan.specs.Plan.{Plan}
use Rattle.std.proofs.lemmas.Bool.{cases_lt}
use Rattle.std.proofs.lemmas.Bool.Decides.{nat_tests}
use Rattle.std.specs.Option.{option_or}
use Rattle.verdict.specs.Answers.{is_pair}
use Rattle.verdict.specs.Verdict.{Told, passes, pair_told, failing, first_told, failing_from, failing_before, verdict}

module _ {A : Type 0} (telling : ℕ → Option A) where
  -- something is told of the number after those of which nothing is told
  pub told_at : (n i : ℕ) (x : A) → i < n → first_told i telling ≡ None → telling i ≡ Some x → first_told n telling ≡ Some x
  told_at zero i x within before here = absurd (omega arith)
  told_at (suc n) i x within before here = elim (cases_lt i n) [
    | inl less ↦ let earlier = told_at n i x less before here in grind arith
    | inr last ↦ grind arith
  ]

  -- where nothing is told, nothing is told of any number
  pub told_none_of : (n : ℕ) → first_told n telling ≡ None → (k : ℕ) → k < n → telling k ≡ None
  told_none_of zero none k within = absurd (omega arith)
  told_none_of (suc n) none k within = elim (cases_lt k n) [
    | inl less ↦ let earlier = λ (e : first_told n telling ≡ None). told_none_of n e k less in grind arith
    | inr last ↦ grind arith
  ]

  -- where something is told, it is told of a number, and nothing of those before it
  abbrev ToldFirst : ℕ → A → Type 0
  ToldFirst n x = (k : ℕ) × (k < n) × (telling k ≡ Some x) × (first_told k telling ≡ None)

  pub told_some_of : (n : ℕ) (x : A) → first_told n telling ≡ Some x → ToldFirst n x
  told_some_of zero x some = absurd (cc)
  told_some_of (suc n) x some = at (first_told n telling) refl some (told_some_of n x)
    where
      at : (o : Option A) → first_told n telling ≡ o → option_or o (telling n) ≡ Some x → (first_told n telling ≡ Some x → ToldFirst n x) → ToldFirst (suc n) x
      at None e h before = (n, omega arith, h, e)
      at (Some y) e h before = let earlier = before (e ∙ h) in (earlier.0, omega (arith, earlier.1), earlier.2, earlier.3)

module _ (p : Plan) (i j : ℕ) where
  -- a pair of which nothing is told passes, and one that is told fails
  pub pass_of_none : failing p i j ≡ None → passes p i j ≡ true
  unfolding failing
  pass_of_none e = grind (arith, nat_tests)

  pub failure_of_some : (t : Told) → failing p i j ≡ Some t → (passes p i j ≡ false) × (pair_told p i j ≡ t)
  unfolding failing
  failure_of_some t e = grind (arith, nat_tests)

  -- where i and j are modes and no pair, they are one mode, of which nothing is told
  pub told_of_no_pair : i < length p.modes → j < length p.modes → is_pair p i j ≡ false → failing p i j ≡ None
  unfolding failing
  told_of_no_pair is_old is_new none = grind (arith, nat_tests)

  -- what is told of a pair is the verdict, where nothing is told of the pairs before it
  pub told_first : i < length p.modes → j < length p.modes → failing_before p i ≡ None → failing_from p i j ≡ None → is_some (failing p i j) ≡ true → failing p i j ≡ verdict p
  told_first is_old is_new rows row some = at (failing p i j) refl some
    where
      at : (o : Option Told) → failing p i j ≡ o → is_some o ≡ true → failing p i j ≡ verdict p
      at None here h = cc
      at (Some t) here h =
          let n = length p.modes in
          here ∙ sym (told_at (λ k. failing_from p k n) n i t is_old rows (told_at (failing p i) n j t is_new row here))
