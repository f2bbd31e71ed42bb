-- Orders that go first by a key, and then by an order chosen by that key. Assumes nothing.
use Rattle.std.specs.Prelude.{ℕ, Bool, ◌&&◌, ◌||◌, ◌==◌, nat_lt}

-- the smaller number goes first, and the larger
abbrev pub ascending : ℕ → ℕ → Bool
ascending m n = nat_lt m n

abbrev pub descending : ℕ → ℕ → Bool
descending m n = nat_lt n m

-- values with different keys go by their keys, and those with one key by the order within its group
abbrev pub by_group : {A : Type 0} → (ℕ → ℕ → Bool) → (A → ℕ) → (ℕ → A → A → Bool) → A → A → Bool
by_group goes key within a b = goes (key a) (key b) || (key a == key b && within (key a) a b)
