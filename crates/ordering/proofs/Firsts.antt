-- The first of several values under a strict total order. Assumes nothing.
use Rattle.std.proofs.Common.{◌≡◌, ℕ, ◌<◌, Bool, nat_lt, List, [], ◌∷◌, length, map, get_or, cond, Option, Some, None, sym, refl, ap, ◌∙◌, subst, not-suc-le-zero, arith}
use denote.Param.Members.{Mut}
use Rattle.std.specs.Cmp.{IsStrictWeakOrder}
use Rattle.std.specs.Iterator.{ActsAsOnTwo}
use Rattle.std.specs.Iterator.Runs.{Run, IsReduceRun}
use Rattle.std.specs.Option.{option_map, MatchOption}
use Rattle.std.specs.List.{IsFirstBest, best_of}
use Rattle.std.proofs.lemmas.List.Sums.{prefix_len_is}
use Rattle.std.proofs.lemmas.Bool.Decides.{nat_tests}
use Rattle.std.proofs.lemmas.List.MinMax.{IsFirstBest-from_best_of}
use Rattle.std.proofs.lemmas.List.{get_or_default, get_or-map, length-map, nil_from_length}
use Rattle.ordering.specs.Strict.{Strict}
use Rattle.ordering.specs.First.{rank, first, Leads, GoesFirst}
use Rattle.ordering.proofs.Ranks.{rank_none, rank_some}

module _ {A : Type 0} {before : A → A → Bool} (law : Strict before) where
  -- what does not go before y, where y does not go before z, does not go before z
  ranks : IsStrictWeakOrder before
  ranks = record {
    one_way = law.one_way;
    chain = λ x y z p q. let over = law.transitive y x z in let same = law.connected x y in grind arith;
  }

  -- the best of all goes before all others
  module _ (xs : List A) (best : ℕ) (found : IsFirstBest before xs (length xs) best) where
    leads_at : Leads before xs best
    leads_at = record {
      within = found.0;
      leads = λ k d h differ. let same = law.connected (get_or xs k d) (get_or xs best d) (found.1 k d h) in grind arith;
      lowest = λ k d h same. let none = law.irreflexive (get_or xs best d) in let over = found.2 k d h in grind arith;
    }

  -- the place that such a search ends with is the first, as it is defined
  pub first_at : (xs : List A) (best : ℕ) → IsFirstBest before xs (length xs) best → Some best ≡ first before xs
  unfolding first
  first_at [] best found = absurd (not-suc-le-zero found.0)
  first_at (x ∷ xs) best found =
      let all = x ∷ xs in
      let none = rank_none before (get_or all best x) all (λ k d h. ap (before (get_or all k d)) (get_or_default all best x d found.0) ∙ found.1 k d h) in
      let place = prefix_len_is (λ y. nat_lt 0 (rank before all y)) all best x (omega (arith, found.0)) (λ k h. let some = rank_some before (get_or all k x) all best x found.0 (found.2 k x h) in grind (arith, nat_tests)) (λ h. grind (arith, nat_tests)) in
      ap Some (sym place)

  -- of values that stand beside their places, the place beside the best is the first
  module _ {P : Type 0} (place : P → ℕ) (value : P → A) where
    abbrev ahead : P → P → Bool
    ahead p q = before (value p) (value q)

    by_value : IsStrictWeakOrder ahead
    by_value = record { one_way = λ p q. ranks.one_way (value p) (value q); chain = λ p q r. ranks.chain (value p) (value q) (value r) }

    abbrev Places : List P → Type 0
    Places ps = (k : ℕ) (d : P) → k < length ps → place (get_or ps k d) ≡ k

    placed : (p : P) (ps : List P) → Places (p ∷ ps) → Some (place (best_of ahead p ps)) ≡ first before (map value (p ∷ ps))
    placed p ps places =
        let all = p ∷ ps in
        let best = IsFirstBest-from_best_of by_value p ps in
        let long : length (map value all) ≡ length all = length-map all value in
        let at : (k : ℕ) (d : A) → k < length all → get_or (map value all) k d ≡ value (get_or all k p) = λ k d h. get_or-map value all k p d h in
        let found : IsFirstBest before (map value all) (length (map value all)) best.0 = (
          omega (arith, long, best.1.0),
          (λ k d h. rw (at k d (omega (arith, long)), at best.0 d best.1.0) (best.1.1 k p (omega (arith, long)))),
          λ k d h. rw (at k d (omega (arith, best.1.0)), at best.0 d best.1.0) (best.1.2 k p h),
        ) in
        ap Some (ap place (sym best.2) ∙ places best.0 p best.1.0) ∙ first_at (map value all) best.0 found

    -- what `reduce` answers, with a closure that keeps the best
    module _ {S F : Type 0} {steps : S → Option P → S → Type 0} (run : Run steps) (g : Mut F (P × (P × Unit {0})) P) (f : F) where
      pub reduced : ActsAsOnTwo g f (λ best next. cond (ahead next best) next best) → Places run.items → (r : Option P) → MatchOption r (run.len ≡ 0) (IsReduceRun run g f) → option_map place r ≡ first before (map value run.items)
      unfolding first
      reduced keeps places None none = let empty : run.items ≡ [] = nil_from_length run.items (sym run.long ∙ none) in rw empty refl
      reduced keeps places (Some y) (some, (p, ps, all, folds)) =
          rw (folds _ keeps) (placed p ps (subst Places all places) ∙ ap (λ l. first before (map value l)) (sym all))

  -- what is defined as the first of several goes before all others
  pub goes_first : (xs : List A) → GoesFirst before xs (first before xs)
  unfolding first
  goes_first [] = refl
  goes_first (x ∷ xs) =
      let best = IsFirstBest-from_best_of ranks x xs in
      subst (GoesFirst before (x ∷ xs)) (first_at (x ∷ xs) best.0 best.1) (leads_at (x ∷ xs) best.0 best.1)
