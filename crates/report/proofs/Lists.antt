-- What one more member of a list adds to the text that is made of them. Assumes nothing.
use Rattle.std.proofs.Common.{◌≡◌, ℕ, suc, ◌+◌, ◌<◌, List, [], ◌∷◌, ◌++◌, map, length, get_or, take, refl, append_assoc, append-nil, add-zero, arith}
use Rattle.std.proofs.lemmas.List.{length-take-le, map_more, length-map}
use Rattle.report.specs.PlanText.{each}

each_push : {A : Type 0} (text : ℕ → A → List ℕ) (i : ℕ) (xs : List A) (x : A) → each text i (xs ++ x ∷ []) ≡ each text i xs ++ text (i + length xs) x
unfolding each
each_push text i [] x = simp (append-nil, add-zero)
each_push text i (y ∷ ys) x =
    let n : i + 1 + length ys ≡ i + suc (length ys) = omega arith in
    rw (each_push text (i + 1) ys x, n, append_assoc)

pub each_more : {A B : Type 0} (text : ℕ → B → List ℕ) (f : A → B) (xs : List A) (i : ℕ) (d : A) → i < length xs → each text 0 (map f (take i xs)) ++ text i (f (get_or xs i d)) ≡ each text 0 (map f (take (i + 1) xs))
each_more text f xs i d h =
    let n : 0 + length (map f (take i xs)) ≡ i = simp length-map (omega (arith, length-take-le i xs (omega arith))) in
    rw (map_more f xs i d h, each_push text 0 (map f (take i xs)) (f (get_or xs i d)), n) refl
