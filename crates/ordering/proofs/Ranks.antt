-- How many of several values go before one. Assumes nothing.
use Rattle.std.proofs.Common.{◌≡◌, ℕ, suc, ◌<◌, Bool, true, false, cond, List, [], ◌∷◌, length, get_or, refl, arith}
use Rattle.std.proofs.lemmas.List.Sums.{get_or-le-sum_by}
use Rattle.ordering.specs.First.{rank}

module _ {A : Type 0} (before : A → A → Bool) (x : A) where
  -- none goes before it
  pub rank_none : (xs : List A) → ((k : ℕ) (d : A) → k < length xs → before (get_or xs k d) x ≡ false) → rank before xs x ≡ 0
  unfolding rank
  rank_none [] none = refl
  rank_none (y ∷ ys) none =
      let this : before y x ≡ false = none 0 y (omega arith) in
      let rest = rank_none ys (λ k d h. none (suc k) d (omega (arith, h))) in
      rw (this, rest) refl

  -- one of them goes before it
  pub rank_some : (xs : List A) (k : ℕ) (d : A) → k < length xs → before (get_or xs k d) x ≡ true → 0 < rank before xs x
  unfolding rank
  rank_some xs k d within goes =
      let one = get_or-le-sum_by (λ y. cond (before y x) 1 0) xs k d within in
      omega (arith, rw goes at one)
