-- Lawful layouts: what is read is just what keeps its limits and is written there. Assumes nothing.
use Rattle.std.proofs.Common.{◌≡◌, ℕ, zero, suc, ◌+◌, ◌^◌, ◌<◌, ◌≤◌, ◌&&◌, leb, List, [], ◌∷◌, ◌++◌, length, get_or, take, drop, IfOk, Some, None, Ok, Err, Option, sym, refl, ap, ◌∙◌, subst, append_assoc, add-zero, arith, length-append, length-drop, take-append-drop, length-take}
use Rattle.std.specs.Int.Digits.{number_from_digits, AllBelowBase}
use Rattle.std.proofs.ByRecursion.{All-take, All-drop}
use Rattle.std.proofs.lemmas.List.{drop_at, drop-drop, take_at}
use Rattle.std.proofs.lemmas.Result.{IfOk-weaker}
use Rattle.std.proofs.lemmas.Bool.{cond_both}
use Rattle.std.proofs.lemmas.Bool.Decides.{nat_tests}
use Rattle.fields.specs.declared.fault.Field.{Field}
use Rattle.fields.specs.Bits.{binary, taken}
use Rattle.fields.specs.Layout.{Layout, Reading, width, judged, field, followed, whole, part, write_each, read_each, each}
use Rattle.fields.proofs.Numbers.{length_binary, number_binary, binary_number}

-- some bits stand in a file from one bit up to another
pub record Stands (bs : List ℕ) (at : ℕ) (xs : List ℕ) (end : ℕ) : Type 0 where
  pub here : drop at bs ≡ xs ++ drop end bs
  pub ends : end ≡ at + length xs
  pub inside : end ≤ length bs

module _ {bs : List ℕ} {at : ℕ} where
  stands_none : at ≤ length bs → Stands bs at [] at
  stands_none h = record { here = refl; ends = omega arith; inside = h }

  stands_append : {xs ys : List ℕ} {mid end : ℕ} → Stands bs at xs mid → Stands bs mid ys end → Stands bs at (xs ++ ys) end
  stands_append {xs} {ys} {mid} {end} first later = record {
    here = first.here ∙ ap (λ r. xs ++ r) later.here ∙ sym (append_assoc xs ys (drop end bs));
    ends = omega (arith, length-append xs ys);
    inside = later.inside;
  }

  stands_split : (xs ys : List ℕ) {end : ℕ} → Stands bs at (xs ++ ys) end → (mid : ℕ) × Stands bs at xs mid × Stands bs mid ys end
  stands_split xs ys {end} both =
      let all = both.here ∙ append_assoc xs ys (drop end bs) in
      let rest = sym (drop-drop (length xs) at bs) ∙ ap (drop (length xs)) all ∙ drop_at xs (ys ++ drop end bs) (length xs) refl in
      let long = length-append xs ys in
      (at + length xs, record { here = all ∙ ap (λ r. xs ++ r) (sym rest); ends = refl; inside = omega arith }, record { here = rest; ends = omega arith; inside = both.inside })

-- a value within its limits, whose bits stand between the bit where it was read and the bit after it
abbrev pub Found : {A : Type 0} → Layout A → (A → Type 0) → List ℕ → ℕ → A × ℕ → Type 0
Found l P bs at r = P r.0 × Stands bs at (l.write r.0) r.1

-- what is read is found there, and what is found there is read
pub record Lawful {A : Type 0} (l : Layout A) (P : A → Type 0) : Type 0 where
  pub sound : (bs : List ℕ) (at : ℕ) → AllBelowBase 2 bs → at ≤ length bs → IfOk (l.read bs at) (Found l P bs at)
  pub complete : (bs : List ℕ) (at : ℕ) (a : A) (end : ℕ) → P a → Stands bs at (l.write a) end → l.read bs at ≡ Ok (a, end)

-- the same limits in other words
pub lawful_like : {A : Type 0} {l : Layout A} (P Q : A → Type 0) → ((a : A) → P a → Q a) → ((a : A) → Q a → P a) → Lawful l P → Lawful l Q
lawful_like {l} P Q to from law = record {
  sound = λ bs at u h. IfOk-weaker (l.read bs at) _ _ (λ r p. (to r.0 p.0, p.1)) (law.sound bs at u h);
  complete = λ bs at a end q s. law.complete bs at a end (from a q) s;
}

-- a number is taken just where its digits stand
stands_from_taken : (w : ℕ) (bs : List ℕ) (at n : ℕ) → AllBelowBase 2 bs → taken w bs at ≡ Some n → Stands bs at (binary w n) (at + w)
stands_from_taken w bs at n u e =
    let xs = take w (drop at bs) in
    let parts : (at + w ≤ length bs) × (number_from_digits 2 xs ≡ n) = grind (arith, nat_tests) in
    let long : length xs ≡ w = simp (length-take, length-drop) (omega arith) in
    let digits = binary_number w xs (All-take (λ b. b < 2) w (drop at bs) (All-drop (λ b. b < 2) at bs u)) long in
    let split = take-append-drop w (drop at bs) in
    let rest = drop-drop w at bs in
    record { here = cc; ends = ap (λ m. at + m) (sym (length_binary w n)); inside = parts.0 }

taken_from_stands : (w : ℕ) (bs : List ℕ) (at n end : ℕ) → n < 2 ^ w → Stands bs at (binary w n) end → taken w bs at ≡ Some n
taken_from_stands w bs at n end small s =
    let long : at + w ≤ length bs = omega (arith, length_binary w n) in
    let digits = ap (take w) s.here ∙ take_at (binary w n) (drop end bs) w (length_binary w n) in
    let same = ap (number_from_digits 2) digits ∙ number_binary w n small in
    grind (arith, nat_tests)

module _ (f : Field) (mode task : Option ℕ) (least most : ℕ) where
  -- what is judged well is a number within its limits
  pub judged_made : (F : ℕ × ℕ → Type 0) (at : ℕ) (o : Option ℕ) → ((n : ℕ) → o ≡ Some n → (least ≤ n) × (n ≤ most) → F (n, at + width f)) → IfOk (judged f mode task least most at o) F
  judged_made F at None found = tt
  judged_made F at (Some n) found = cond_both (leb least n && leb n most) _ _ (λ r. IfOk r F) (λ e. found n refl (grind (arith, nat_tests))) (λ e. tt)

  pub field_lawful : most < 2 ^ width f → Lawful (field f mode task least most) (λ n. (least ≤ n) × (n ≤ most))
  unfolding field
  field_lawful fits = record {
    sound = λ bs at u h. judged_made _ at (taken (width f) bs at) (λ n e p. (p, stands_from_taken (width f) bs at n u e));
    complete = λ bs at n end p s.
        let is = taken_from_stands (width f) bs at n end (omega (arith, p.1)) s in
        let ends = s.ends ∙ ap (λ m. at + m) (length_binary (width f) n) in
        rw is (grind (arith, nat_tests));
  }

pub whole_lawful : {A : Type 0} (a : A) (P : A → Type 0) → P a → ((b : A) → P b → b ≡ a) → Lawful (whole a) P
unfolding whole
whole_lawful a P p only = record {
  sound = λ bs at u h. (p, stands_none h);
  complete = λ bs at b end q s. let is = only b q in let ends = s.ends ∙ add-zero at in cc;
}

-- what is read after something read
pub followed_made : {A B : Type 0} (P : A × ℕ → Type 0) (Q : B × ℕ → Type 0) (r : Reading A) (next : A → ℕ → Reading B) → IfOk r P → ((a : A) (mid : ℕ) → P (a, mid) → IfOk (next a mid) Q) → IfOk (followed r next) Q
followed_made P Q (Ok r) next m f = f r.0 r.1 m
followed_made P Q (Err t) next m f = tt

-- a part that is within limits of its own, and a rest that is lawful for the values with that part
pub part_lawful : {A B : Type 0} (of : B → A) {first : Layout A} {rest : A → Layout B} (Q : A → Type 0) (P : B → Type 0) → Lawful first Q → ((b : B) → P b → Q (of b)) → ((a : A) → Q a → Lawful (rest a) (λ b. P b × (of b ≡ a))) → Lawful (part of first rest) P
unfolding part
part_lawful of {first} {rest} Q P law has later = record {
  sound = λ bs at u h.
      followed_made _ _ (first.read bs at) (λ a mid. (rest a).read bs mid) (law.sound bs at u h) (λ a mid q.
      IfOk-weaker ((rest a).read bs mid) _ _
      (λ r p. (p.0.0, subst (λ x. Stands bs at (first.write x ++ (rest x).write r.0) r.1) (sym p.0.1) (stands_append q.1 p.1)))
      ((later a q.0).sound bs mid u q.1.inside));
  complete = λ bs at b end p s.
      let parts = stands_split (first.write (of b)) ((rest (of b)).write b) s in
      let first_read = law.complete bs at (of b) parts.0 (has b p) parts.1 in
      ap (λ r. followed r (λ a mid. (rest a).read bs mid)) first_read ∙ (later (of b) (has b p)).complete bs parts.0 b end (p, refl) parts.2;
}

-- the items of a list, numbered from i on, each within the limits of its number
abbrev Items : {A : Type 0} → (ℕ → A → Type 0) → ℕ → List A → Type 0
Items P i [] = Unit {0}
Items P i (x ∷ xs) = P i x × Items P (i + 1) xs

module _ {A : Type 0} (P : ℕ → A → Type 0) (d : A) where
  items_at : (i : ℕ) (xs : List A) → Items P i xs → (k j : ℕ) → k < length xs → j ≡ i + k → P j (get_or xs k d)
  items_at i [] p k j h e = absurd (omega arith)
  items_at i (x ∷ xs) p zero j h e = let same : j ≡ i = omega arith in rw same p.0
  items_at i (x ∷ xs) p (suc k) j h e = items_at (i + 1) xs p.1 k j (omega arith) (omega arith)

  items_from : (i : ℕ) (xs : List A) → ((k j : ℕ) → k < length xs → j ≡ i + k → P j (get_or xs k d)) → Items P i xs
  items_from i [] p = tt
  items_from i (x ∷ xs) p = (p 0 i (omega arith) (omega arith), items_from (i + 1) xs (λ k j h e. p (suc k) j (omega arith) (omega arith)))

module _ {A : Type 0} {item : ℕ → Layout A} (P : ℕ → A → Type 0) (law : (i : ℕ) → Lawful (item i) (P i)) where
  each_sound : (i n : ℕ) (bs : List ℕ) (at : ℕ) → AllBelowBase 2 bs → at ≤ length bs → IfOk (read_each (λ j. (item j).read) i n bs at) (λ r. ((length r.0 ≡ n) × Items P i r.0) × Stands bs at (write_each item i r.0) r.1)
  unfolding read_each write_each
  each_sound i zero bs at u h = ((refl, tt), stands_none h)
  each_sound i (suc n) bs at u h =
      followed_made _ _ ((item i).read bs at) _ ((law i).sound bs at u h) (λ x mid p.
      followed_made _ _ (read_each (λ j. (item j).read) (i + 1) n bs mid) _ (each_sound (i + 1) n bs mid u p.1.inside) (λ xs end q.
      ((ap suc q.0.0, (p.0, q.0.1)), stands_append p.1 q.1)))

  each_complete : (i n : ℕ) (bs : List ℕ) (at : ℕ) (xs : List A) (end : ℕ) → (length xs ≡ n) × Items P i xs → Stands bs at (write_each item i xs) end → read_each (λ j. (item j).read) i n bs at ≡ Ok (xs, end)
  unfolding read_each write_each
  each_complete i zero bs at [] end p s = let ends = s.ends ∙ add-zero at in cc
  each_complete i zero bs at (x ∷ xs) end p s = absurd (omega arith)
  each_complete i (suc n) bs at [] end p s = absurd (omega arith)
  each_complete i (suc n) bs at (x ∷ xs) end p s =
      let parts = stands_split ((item i).write x) (write_each item (i + 1) xs) s in
      let one = (law i).complete bs at x parts.0 p.1.0 parts.1 in
      let more = each_complete (i + 1) n bs parts.0 xs end (omega arith, p.1.1) parts.2 in
      rw (one, more)

  pub each_lawful : (n : ℕ) (d : A) → Lawful (each n item) (λ xs. (length xs ≡ n) × ((i : ℕ) → i < length xs → P i (get_or xs i d)))
  each_lawful n d =
      lawful_like _ _
      (λ xs p. (p.0, λ i h. items_at P d 0 xs p.1 i i h (omega arith)))
      (λ xs p. (p.0, items_from P d 0 xs (λ k j h e. let same : j ≡ k = omega arith in rw same (p.1 k h))))
      (record { sound = each_sound 0 n; complete = each_complete 0 n })
