-- Orders that compare keys in turn are strict total orders, where the keys determine the value. Assumes nothing.
use Rattle.std.proofs.Common.{◌≡◌, ℕ, true, false, List, [], ◌∷◌, get_or, refl, ap, arith}
use Rattle.std.proofs.lemmas.Bool.{true≢false, false≢true}
use Rattle.std.proofs.lemmas.Bool.Decides.{nat_tests}
use Rattle.ordering.specs.Strict.{Strict}
use Rattle.ordering.specs.Keys.{smaller, by_keys}

smaller_irreflexive : (xs : List ℕ) → smaller xs xs ≡ false
smaller_irreflexive [] = refl
smaller_irreflexive (x ∷ xs) = let rest = smaller_irreflexive xs in grind (arith, nat_tests)

smaller_connected : (xs ys : List ℕ) → smaller xs ys ≡ false → smaller ys xs ≡ false → xs ≡ ys
smaller_connected [] [] p q = refl
smaller_connected [] (y ∷ ys) p q = absurd (true≢false p)
smaller_connected (x ∷ xs) [] p q = absurd (true≢false q)
smaller_connected (x ∷ xs) (y ∷ ys) p q = let rest = smaller_connected xs ys in grind (arith, nat_tests)

smaller_one_way : (xs ys : List ℕ) → smaller xs ys ≡ true → smaller ys xs ≡ false
smaller_one_way [] [] h = refl
smaller_one_way [] (y ∷ ys) h = refl
smaller_one_way (x ∷ xs) [] h = absurd (false≢true h)
smaller_one_way (x ∷ xs) (y ∷ ys) h = let rest = smaller_one_way xs ys in grind (arith, nat_tests)

smaller_transitive : (xs ys zs : List ℕ) → smaller xs ys ≡ true → smaller ys zs ≡ true → smaller xs zs ≡ true
smaller_transitive [] [] zs p q = q
smaller_transitive [] (y ∷ ys) [] p q = q
smaller_transitive [] (y ∷ ys) (z ∷ zs) p q = refl
smaller_transitive (x ∷ xs) [] zs p q = absurd (false≢true p)
smaller_transitive (x ∷ xs) (y ∷ ys) [] p q = absurd (false≢true q)
smaller_transitive (x ∷ xs) (y ∷ ys) (z ∷ zs) p q = let rest = smaller_transitive xs ys zs in grind (arith, nat_tests)

-- equal lists of keys have equal keys
pub key_at : (k : ℕ) {xs ys : List ℕ} → xs ≡ ys → get_or xs k 0 ≡ get_or ys k 0
key_at k same = ap (λ keys. get_or keys k 0) same

pub by_keys_strict : {A : Type 0} (keys : A → List ℕ) → ((a b : A) → keys a ≡ keys b → a ≡ b) → Strict (by_keys keys)
by_keys_strict keys determine = record {
  irreflexive = λ a. smaller_irreflexive (keys a);
  connected = λ a b p q. determine a b (smaller_connected (keys a) (keys b) p q);
  one_way = λ a b. smaller_one_way (keys a) (keys b);
  transitive = λ a b c. smaller_transitive (keys a) (keys b) (keys c);
}
