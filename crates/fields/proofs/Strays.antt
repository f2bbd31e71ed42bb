-- The search for a stray bit, step by step. Assumes nothing.
use Rattle.std.proofs.Common.{◌≡◌, ℕ, zero, suc, ◌+◌, ◌-◌, ◌<◌, ◌≤◌, Bool, true, false, eqb, leb, List, ◌∷◌, length, get_or, drop, Some, None, Option, sym, refl, ap, ◌∙◌, arith}
use Rattle.std.specs.Bool.{then_some}
use Rattle.std.specs.Option.{option_or, MatchOption}
use Rattle.std.proofs.lemmas.List.{drop_more, drop_all}
use Rattle.std.proofs.lemmas.Bool.{cond-true, cond-false, eq-eqb, ne_eqb, le-leb, lt-leb, or_left, or_right, or_from, leb-true, leb-false}
use Rattle.fields.specs.Padding.{stray}

module _ (end : ℕ) (bs : List ℕ) (at : ℕ) where
  step : at < length bs → stray end (drop at bs) at ≡ stray end (get_or bs at 0 ∷ drop (at + 1) bs) at
  step within = ap (λ rest. stray end rest at) (drop_more bs at 0 within)

  pub stray_one : at < length bs → get_or bs at 0 ≡ 1 → stray end (drop at bs) at ≡ Some at
  unfolding stray
  stray_one within one = step within ∙ cond-true _ _ _ (or_left (eqb (get_or bs at 0) 1) (leb end at) (eq-eqb _ 1 one))

  pub stray_past : at < length bs → end ≤ at → stray end (drop at bs) at ≡ Some at
  unfolding stray
  stray_past within past = step within ∙ cond-true _ _ _ (or_right (eqb (get_or bs at 0) 1) (leb end at) (le-leb end at past))

  pub stray_next : at < length bs → at < end → (get_or bs at 0 ≡ 1 → ⊥) → stray end (drop at bs) at ≡ stray end (drop (at + 1) bs) (at + 1)
  unfolding stray
  stray_next within before other = step within ∙ cond-false _ _ _ (or_from (eqb (get_or bs at 0) 1) (leb end at) (ne_eqb _ 1 other) (lt-leb end at before))

  pub stray_none : length bs ≤ at → stray end (drop at bs) at ≡ None
  unfolding stray
  stray_none past = ap (λ rest. stray end rest at) (drop_all at bs past)

-- the search passes bits that are not 1 and lie before the end
passed : (end : ℕ) (bs : List ℕ) (n at : ℕ) → at + n ≤ length bs → at + n ≤ end → ((k : ℕ) → at ≤ k → k < at + n → get_or bs k 0 ≡ 1 → ⊥) → stray end (drop at bs) at ≡ stray end (drop (at + n) bs) (at + n)
passed end bs zero at within before other = let same : at + 0 ≡ at = omega arith in rw same refl
passed end bs (suc n) at within before other =
    let there : at + suc n ≡ (at + 1) + n = omega arith in
    stray_next end bs at (omega arith) (omega arith) (other at (omega arith) (omega arith))
    ∙ passed end bs n (at + 1) (omega arith) (omega arith) (λ k a b. other k (omega arith) (omega arith))
    ∙ ap (λ m. stray end (drop m bs) m) (sym there)

-- the first bit that is 1 from one place up to another, or none
abbrev pub FirstOne : List ℕ → ℕ → ℕ → Option ℕ → Type 0
FirstOne bs at end r = MatchOption r ((k : ℕ) → at ≤ k → k < end → get_or bs k 0 ≡ 1 → ⊥) (λ i. (at ≤ i) × (i < end) × (get_or bs i 0 ≡ 1) × ((k : ℕ) → at ≤ k → k < i → get_or bs k 0 ≡ 1 → ⊥))

module _ (bs : List ℕ) (at end : ℕ) (whole : end ≤ length bs) where
  reached : (to : ℕ) → at ≤ to → to ≤ end → ((k : ℕ) → at ≤ k → k < to → get_or bs k 0 ≡ 1 → ⊥) → stray end (drop at bs) at ≡ stray end (drop to bs) to
  reached to from before other =
      let there : at + (to - at) ≡ to = omega arith in
      passed end bs (to - at) at (omega arith) (omega arith) (λ k a b. other k a (omega arith)) ∙ ap (λ m. stray end (drop m bs) m) there

  -- past the bits of the byte, a further byte
  past_end : (more : Bool) → more ≡ leb (end + 1) (length bs) → then_some more end ≡ stray end (drop end bs) end
  past_end true e = let room = leb-true (end + 1) (length bs) (sym e) in sym (stray_past end bs end (omega arith) (omega arith))
  past_end false e = let none = leb-false (end + 1) (length bs) (sym e) in sym (stray_none end bs end (omega arith))

  pub stray_found : (r : Option ℕ) (more : Bool) → at ≤ end → FirstOne bs at end r → more ≡ leb (end + 1) (length bs) → option_or r (then_some more end) ≡ stray end (drop at bs) at
  stray_found None more from none e = past_end more e ∙ sym (reached end from (omega arith) none)
  stray_found (Some i) more from one e = sym (reached i one.0 (omega (arith, one.1)) one.3 ∙ stray_one end bs i (omega (arith, one.1)) one.2)
