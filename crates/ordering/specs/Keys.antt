-- Orders that compare keys in turn. Assumes nothing.
use Rattle.std.specs.Prelude.{ℕ, Bool, true, false, ◌&&◌, ◌||◌, List, [], ◌∷◌, ◌==◌, nat_lt}

-- the first number that differs decides, and the smaller goes first
abbrev pub smaller : List ℕ → List ℕ → Bool
smaller [] [] = false
smaller [] (y ∷ ys) = true
smaller (x ∷ xs) [] = false
smaller (x ∷ xs) (y ∷ ys) = nat_lt x y || (x == y && smaller xs ys)

-- values go by their keys
abbrev pub by_keys : {A : Type 0} → (A → List ℕ) → A → A → Bool
by_keys keys a b = smaller (keys a) (keys b)
