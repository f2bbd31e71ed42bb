-- The verdict tells nothing exactly when every pair passes, and else the first pair that fails. Assumes nothing.
use Rattle.std.proofs.Common.{◌≡◌, ℕ, ◌<◌, ◌≤◌, true, false, ◌≢◌, length, Some, None, Option, sym, refl, subst, inl, inr, arith}
use Rattle.std.proofs.lemmas.Bool.Decides.{nat_tests}
use Rattle.plan.specs.declared.draft.Draft.{Draft}
use Rattle.plan.specs.Held.{plan_of}
use Rattle.plan.specs.Plan.{Plan, Within, mode_at}
use Rattle.verdict.specs.Bound.{bound_of}
use Rattle.verdict.specs.Enabling.{earliest}
use Rattle.verdict.specs.Sound.{Passes, Pair, EveryPairPasses, FirstFailing, Judged}
use Rattle.verdict.specs.Verdict.{Told, passes, pair_told, failing, failing_from, failing_before, verdict}
use Rattle.verdict.proofs.Earliest.{Least, earliest_least}
use Rattle.verdict.proofs.Told.{told_none_of, told_some_of, pass_of_none, failure_of_some}

module _ (p : Plan) (limits : Within p) where
  abbrev n : ℕ
  n = length p.modes

  least : (i j : ℕ) → j < n → Least i (mode_at p j).tasks (earliest p i j)
  least i j is_mode = earliest_least i (mode_at p j).tasks (limits.5 j is_mode).1

  -- the bound is at most every deadline where it is at most the least
  passes_all : (i j : ℕ) → Pair p i j → passes p i j ≡ true → Passes p i j
  passes_all i j pair passed =
      let differ : i ≢ j = pair.2 in
      let meets : bound_of p i ≤ (earliest p i j).ticks = grind (arith, nat_tests) in
      λ k within. omega (arith, (least i j pair.1).least k within)

  -- the bound is at most the least deadline where every pair passes
  pub meets_earliest : EveryPairPasses p → (i j : ℕ) → Pair p i j → bound_of p i ≤ (earliest p i j).ticks
  meets_earliest all i j pair =
      let at = least i j pair.1 in
      omega (arith, at.ticks, all i j (earliest p i j).task (pair, at.task))

  -- a row of pairs of which nothing is told passes
  row_passes : (i m : ℕ) → failing_from p i m ≡ None → (j : ℕ) → j < m → Pair p i j → Passes p i j
  row_passes i m none j before pair = passes_all i j pair (pass_of_none p i j (told_none_of (failing p i) m none j before))

  rows_pass : (m : ℕ) → failing_before p m ≡ None → (i j : ℕ) → i < m → Pair p i j → Passes p i j
  rows_pass m none i j before pair = row_passes i n (told_none_of (λ k. failing_from p k n) m none i before) j pair.1 pair

  -- the first pair that fails, by its place
  first_failing : (i j : ℕ) → i < n → j < n → passes p i j ≡ false → failing_before p i ≡ None → failing_from p i j ≡ None → FirstFailing p (pair_told p i j)
  first_failing i j is_old is_new failed rows row =
      let at = least i j is_new in
      let differ : i ≢ j = grind (arith, nat_tests) in
      record {
        number = refl;
        pair = (is_old, is_new, differ);
        first = λ k l pair earlier. elim earlier [
          | inl before ↦ rows_pass i rows k l before pair
          | inr before ↦ subst (λ m. Pair p m l → Passes p m l) (sym before.0) (row_passes i j row l before.1) pair
        ];
        task = at.task;
        bound = refl;
        deadline = at.ticks;
        fails = grind (arith, nat_tests);
        least = at.least;
        lowest = at.lowest;
      }

  -- what is told of a pair that fails rules out that every pair passes
  fails_some : (t : Told) → FirstFailing p t → EveryPairPasses p → ⊥
  fails_some t told all = omega (arith, told.bound, told.deadline, told.fails, all t.old t.new t.task (told.pair, told.task))

  judged : Judged p (verdict p)
  judged = at (verdict p) refl
    where
      failed : (t : Told) → verdict p ≡ Some t → FirstFailing p t
      failed t e =
          let row = told_some_of (λ i. failing_from p i n) n t e in
          let cell = told_some_of (failing p row.0) n t row.2 in
          let failure = failure_of_some p row.0 cell.0 t cell.2 in
          subst (λ u. FirstFailing p u) failure.1 (first_failing row.0 cell.0 row.1 cell.1 failure.0 row.3 cell.3)

      at : (o : Option Told) → verdict p ≡ o → Judged p o
      at None e = λ i j k enables. rows_pass n e i j enables.0.0 enables.0 k enables.1
      at (Some t) e = (failed t e, fails_some t (failed t e))

-- the verdict on a draft
pub judged_as : (d : Draft) (found : Option Told) → found ≡ verdict (plan_of d.plan) → Judged (plan_of d.plan) found
judged_as d found is = subst (λ o. Judged (plan_of d.plan) o) (sym is) (judged (plan_of d.plan) d.within)
