-- Orders that go first by a key, and then by an order chosen by that key, are strict total orders. Assumes nothing.
use Rattle.std.proofs.Common.{◌≡◌, ℕ, Bool, true, false, ◌≢◌, arith}
use Rattle.std.proofs.lemmas.Bool.Decides.{nat_tests}
use Rattle.ordering.specs.Strict.{Strict}
use Rattle.ordering.specs.Groups.{ascending, descending, by_group}

pub ascending_strict : Strict ascending
ascending_strict = record {
  irreflexive = λ a. grind (arith, nat_tests);
  connected = λ a b p q. grind (arith, nat_tests);
  one_way = λ a b p. grind (arith, nat_tests);
  transitive = λ a b c p q. grind (arith, nat_tests);
}

-- the reverse of a strict total order is one
pub reverse_strict : {A : Type 0} {before : A → A → Bool} → Strict before → Strict (λ a b. before b a)
reverse_strict law = record {
  irreflexive = law.irreflexive;
  connected = λ a b p q. law.connected a b q p;
  one_way = λ a b. law.one_way b a;
  transitive = λ a b c p q. law.transitive c b a q p;
}

pub descending_strict : Strict descending
descending_strict = reverse_strict ascending_strict

module _ {A : Type 0} (goes : ℕ → ℕ → Bool) (key : A → ℕ) (within : ℕ → A → A → Bool) (keys : Strict goes) where
  -- values with one key go by the order within its group
  pub in_one_group : (a b : A) → key a ≡ key b → by_group goes key within a b ≡ within (key a) a b
  in_one_group a b same = let none = keys.irreflexive (key a) in grind (arith, nat_tests)

  -- values with different keys go by their keys
  pub in_two_groups : (a b : A) → key a ≢ key b → by_group goes key within a b ≡ goes (key a) (key b)
  in_two_groups a b differ = grind (arith, nat_tests)

  module _ (groups : (k : ℕ) → Strict (within k)) where
    abbrev before : A → A → Bool
    before = by_group goes key within

    irreflexive : (a : A) → before a a ≡ false
    irreflexive a = let k = keys.irreflexive (key a) in let g = (groups (key a)).irreflexive a in grind (arith, nat_tests)

    connected : (a b : A) → before a b ≡ false → before b a ≡ false → a ≡ b
    connected a b p q = let k = keys.connected (key a) (key b) in let i = keys.irreflexive (key a) in let g = (groups (key a)).connected a b in grind (arith, nat_tests)

    one_way : (a b : A) → before a b ≡ true → before b a ≡ false
    one_way a b p = let k = keys.one_way (key a) (key b) in let i = keys.irreflexive (key a) in let g = (groups (key a)).one_way a b in grind (arith, nat_tests)

    transitive : (a b c : A) → before a b ≡ true → before b c ≡ true → before a c ≡ true
    transitive a b c p q = let k = keys.transitive (key a) (key b) (key c) in let g = (groups (key a)).transitive a b c in grind (arith, nat_tests)

    pub by_group_strict : Strict before
    by_group_strict = record { irreflexive = irreflexive; connected = connected; one_way = one_way; transitive = transitive }
