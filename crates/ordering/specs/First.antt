-- How many go before a value, and the first of several. Assumes nothing.
use Rattle.std.specs.Prelude.{◌≡◌, ℕ, ◌<◌, Bool, true, ◌≢◌, List, [], ◌∷◌, length, Some, None, count_by, Option, nat_lt, slice_index_or}
use Rattle.std.specs.List.{prefix_len}

-- the rank of a value among others: how many of them go before it
unfoldable pub rank : {A : Type 0} → (A → A → Bool) → List A → A → ℕ
rank before xs x = count_by (λ y. before y x) xs

-- the first place whose value no other goes before
unfoldable pub first : {A : Type 0} → (A → A → Bool) → List A → Option ℕ
first before [] = None
first before (x ∷ xs) = Some (prefix_len (λ y. nat_lt 0 (rank before (x ∷ xs) y)) (x ∷ xs))

-- the value at a place goes before all that differ from it, and none at an earlier place is equal to it
pub record Leads {A : Type 0} (before : A → A → Bool) (xs : List A) (place : ℕ) : Type 0 where
  pub within : place < length xs
  pub leads : (k : ℕ) (d : A) → k < length xs → slice_index_or xs k d ≢ slice_index_or xs place d → before (slice_index_or xs place d) (slice_index_or xs k d) ≡ true
  pub lowest : (k : ℕ) (d : A) → k < place → slice_index_or xs k d ≢ slice_index_or xs place d

-- an answer to which of several goes first
abbrev pub GoesFirst : {A : Type 0} → (A → A → Bool) → List A → Option ℕ → Type 0
GoesFirst before xs None = xs ≡ []
GoesFirst before xs (Some place) = Leads before xs place
