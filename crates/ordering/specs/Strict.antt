-- Strict total orders. Assumes nothing.
use Rattle.std.specs.Prelude.{◌≡◌, Bool, true, false}

-- a test that puts values in an order
pub record Strict {A : Type 0} (before : A → A → Bool) : Type 0 where
  -- nothing goes before itself
  pub irreflexive : (a : A) → before a a ≡ false
  -- of two that differ one goes before the other
  pub connected : (a b : A) → before a b ≡ false → before b a ≡ false → a ≡ b
  -- and not both
  pub one_way : (a b : A) → before a b ≡ true → before b a ≡ false
  -- what goes before another goes before all that the other goes before
  pub transitive : (a b c : A) → before a b ≡ true → before b c ≡ true → before a c ≡ true
