-- The codes of a plan's modes, in a table. Assumes nothing.
use Rattle.std.proofs.Common.{◌≡◌, ℕ, zero, suc, ◌+◌, ◌-◌, ◌<◌, ◌≤◌, List, [], ◌∷◌, ◌++◌, map, length, get_or, replicate, Some, None, Option, refl, sym, ap, subst, ◌∙◌, inl, inr, arith}
use denote.Param.Members.{Mut, Called}
use Rattle.std.specs.Prelude.{slice_get, slice_index_or}
use Rattle.std.specs.Array.{IsFromFnResultFrom, IsFromFnResult}
use Rattle.std.specs.Option.{option_map}
use Rattle.std.proofs.lemmas.Bool.{cases_eq}
use Rattle.std.proofs.lemmas.List.{length-map, length-append, length-replicate, ext_get_or}
use Rattle.std.proofs.lemmas.Option.{slice_get-get_or, slice_get_past}
use Rattle.plan.specs.Held.{padded}
use Rattle.plan.specs.Plan.{Plan, no_mode, mode_at}
use Rattle.plan.specs.Sizes.{most_modes}
use Rattle.rules.specs.ByMode.{rule_codes}

module _ {A B : Type 0} (f : A → B) where
  -- what is read in a table that has none past its values
  read_at : (xs : List A) (blanks k : ℕ) → get_or (map (λ x. Some (f x)) xs ++ replicate blanks None) k None ≡ option_map f (slice_get xs k)
  read_at [] zero k = refl
  read_at [] (suc n) zero = refl
  read_at [] (suc n) (suc k) = read_at [] n k
  read_at (x ∷ xs) n zero = refl
  read_at (x ∷ xs) n (suc k) = read_at xs n k

  -- an array that has this at each place is that table
  pub is_table : (xs : List A) (size : ℕ) (ys : List (Option B)) → length xs ≤ size → length ys ≡ size → ((k : ℕ) → k < size → get_or ys k None ≡ option_map f (slice_get xs k)) → ys ≡ padded size None (map (λ x. Some (f x)) xs)
  is_table xs size ys few long at =
      let values = map (λ x. Some (f x)) xs in
      let blanks : List (Option B) = replicate (size - length values) None in
      let same : length ys ≡ length (values ++ blanks) = omega (arith, few, long, length-append values blanks, length-replicate {A = Option B} (size - length values) None, length-map xs (λ x. Some (f x))) in
      ext_get_or None ys (values ++ blanks) same (λ k low. at k (omega (arith, low, long)) ∙ sym (read_at xs (size - length values) k))

-- an array that is made of a closure's answers has h of each place, where the closure computes h
module _ {F B : Type 0} (g : Mut F (ℕ × Unit {0}) B) (f : F) (h : ℕ → B) (ys : List B) (d : B) where
  abbrev Acts : Type 0
  Acts = (i : ℕ) (y : B) (q : F) → Called g f (i, tt) y q → (q ≡ f) × (y ≡ h i)

  made_from : Acts → (n i : ℕ) (p : F) → p ≡ f → IsFromFnResultFrom g p ys i n → (k : ℕ) → i ≤ k → k < i + n → get_or ys k d ≡ h k
  made_from acts zero i p same made k low high = absurd (omega (arith, low, high))
  made_from acts (suc n) i p same (q, y, at, called, made) k low high =
      let act = acts i y q (subst (λ p. Called g p (i, tt) y q) same called) in
      elim (cases_eq i k) [
        | inl here ↦ subst (λ k. get_or ys k d ≡ h k) here (at.1 d ∙ act.1)
        | inr differ ↦ made_from acts n (i + 1) q act.0 made k (omega (arith, low, differ)) (omega (arith, high))
      ]

  pub made_at : (n : ℕ) → IsFromFnResult g f ys n → Acts → (k : ℕ) → k < n → get_or ys k d ≡ h k
  made_at n made acts k high = made_from acts n 0 f refl made.each k (omega arith) (omega (arith, high))

module _ (p : Plan) (j : ℕ) where
  code_at : slice_index_or (rule_codes p) j None ≡ option_map (λ m. m.rule) (slice_get p.modes j)
  code_at = read_at (λ m. m.rule) p.modes (most_modes - length (map (λ m. Some m.rule) p.modes)) j

  -- a mode of the plan has its code, and another has none
  pub code_some : j < length p.modes → slice_index_or (rule_codes p) j None ≡ Some (mode_at p j).rule
  code_some is_mode = code_at ∙ ap (option_map (λ m. m.rule)) (slice_get-get_or p.modes j no_mode is_mode)

  pub code_none : length p.modes ≤ j → slice_index_or (rule_codes p) j None ≡ None
  code_none past = code_at ∙ ap (option_map (λ m. m.rule)) (slice_get_past p.modes j past)
