-- Layouts that are read within a reach, so that a file cut off behind it reads the same. Assumes nothing.
use Rattle.std.proofs.Common.{◌≡◌, ℕ, zero, suc, ◌+◌, ◌-◌, ◌<◌, ◌≤◌, List, ◌∷◌, take, drop, IfOk, Ok, Err, Option, refl, ap, ◌∙◌, arith, length-take}
use Rattle.std.specs.Int.Digits.{number_from_digits}
use Rattle.std.proofs.lemmas.List.{drop-take, take-take}
use Rattle.std.proofs.lemmas.Result.{IfOk-weaker}
use Rattle.std.proofs.lemmas.Bool.Decides.{nat_tests}
use Rattle.fields.specs.declared.fault.Field.{Field}
use Rattle.fields.specs.Bits.{taken}
use Rattle.fields.specs.Layout.{Layout, Reading, width, judged, field, followed, whole, part, read_each, each}
use Rattle.plan.proofs.Lawful.{judged_made, followed_made}

-- what a file cut off at a bit has from a bit before it on
pub drop_cut : (at cut : ℕ) (bs : List ℕ) → at ≤ cut → drop at (take cut bs) ≡ take (cut - at) (drop at bs)
drop_cut at cut bs h = let all : at + (cut - at) ≡ cut = omega arith in let there = drop-take at (cut - at) bs in cc

taken_cut : (w at cut : ℕ) (bs : List ℕ) → at + w ≤ cut → taken w (take cut bs) at ≡ taken w bs at
taken_cut w at cut bs h =
    let digits = ap (take w) (drop_cut at cut bs (omega arith)) ∙ take-take w (cut - at) (drop at bs) (omega arith) in
    let same = ap (number_from_digits 2) digits in
    let long = length-take cut bs in
    grind (arith, nat_tests)

-- what is read at a bit up to `from` has P and ends at a bit up to `to`, and is the same in a file cut off at `cut`
pub record Reach {A : Type 0} (cut : ℕ) (l : Layout A) (P : A → Type 0) (from to : ℕ) : Type 0 where
  pub same : (bs : List ℕ) (at : ℕ) → at ≤ from → l.read (take cut bs) at ≡ l.read bs at
  pub ends : (bs : List ℕ) (at : ℕ) → at ≤ from → IfOk (l.read bs at) (λ r. P r.0 × (r.1 ≤ to))

-- what holds of every value
abbrev pub Any : {A : Type 0} → A → Type 0
Any a = Unit {0}

pub reach_longer : {A : Type 0} {l : Layout A} {P : A → Type 0} {cut from mid to : ℕ} → mid ≤ to → Reach cut l P from mid → Reach cut l P from to
reach_longer {l} h reach = record { same = reach.same; ends = λ bs at early. IfOk-weaker (l.read bs at) _ _ (λ r p. (p.0, omega (arith, p.1))) (reach.ends bs at early) }

pub field_reach : {cut from : ℕ} (f : Field) (mode task : Option ℕ) (least most : ℕ) → from + width f ≤ cut → Reach cut (field f mode task least most) (λ n. n ≤ most) from (from + width f)
unfolding field
field_reach {cut} f mode task least most h = record {
  same = λ bs at early. ap (judged f mode task least most at) (taken_cut (width f) at cut bs (omega arith));
  ends = λ bs at early. judged_made f mode task least most _ at (taken (width f) bs at) (λ n e p. (p.1, omega arith));
}

pub whole_reach : {A : Type 0} {cut from to : ℕ} {P : A → Type 0} (a : A) → P a → from ≤ to → Reach cut (whole a) P from to
unfolding whole
whole_reach a p h = record { same = λ bs at early. refl; ends = λ bs at early. (p, omega arith) }

-- what follows is the same where what came first is, and each way on from there
followed_same : {A B : Type 0} (P : A × ℕ → Type 0) (r s : Reading A) (f g : A → ℕ → Reading B) → r ≡ s → IfOk s P → ((a : A) (mid : ℕ) → P (a, mid) → f a mid ≡ g a mid) → followed r f ≡ followed s g
followed_same P r (Ok x) f g e m same = ap (λ y. followed y f) e ∙ same x.0 x.1 m
followed_same P r (Err t) f g e m same = ap (λ y. followed y f) e

pub part_reach : {A B : Type 0} {cut from mid to : ℕ} (of : B → A) {first : Layout A} {rest : A → Layout B} {Q : A → Type 0} {P : B → Type 0} → Reach cut first Q from mid → ((a : A) → Q a → Reach cut (rest a) P mid to) → Reach cut (part of first rest) P from to
unfolding part
part_reach {cut} of {first} {rest} reach later = record {
  same = λ bs at early. followed_same _ (first.read (take cut bs) at) (first.read bs at) _ _ (reach.same bs at early) (reach.ends bs at early) (λ a mid p. (later a p.0).same bs mid p.1);
  ends = λ bs at early. followed_made _ _ (first.read bs at) _ (reach.ends bs at early) (λ a mid p. (later a p.0).ends bs mid p.1);
}

-- n items, each read at a bit up to its place
module _ {A : Type 0} {cut : ℕ} {item : ℕ → Layout A} {P : A → Type 0} (n : ℕ) (place : ℕ → ℕ) (reach : (i : ℕ) → i < n → Reach cut (item i) P (place i) (place (i + 1))) where
  each_same : (i left : ℕ) → i + left ≡ n → (bs : List ℕ) (at : ℕ) → at ≤ place i → read_each (λ j. (item j).read) i left (take cut bs) at ≡ read_each (λ j. (item j).read) i left bs at
  unfolding read_each
  each_same i zero e bs at early = refl
  each_same i (suc left) e bs at early =
      let one = reach i (omega arith) in
      followed_same _ ((item i).read (take cut bs) at) ((item i).read bs at) _ _ (one.same bs at early) (one.ends bs at early) (λ x mid p.
      ap (λ r. followed r (λ xs end. Ok (x ∷ xs, end))) (each_same (i + 1) left (omega arith) bs mid p.1))

  each_ends : (i left : ℕ) → i + left ≡ n → (bs : List ℕ) (at : ℕ) → at ≤ place i → IfOk (read_each (λ j. (item j).read) i left bs at) (λ r. Any r.0 × (r.1 ≤ place n))
  unfolding read_each
  each_ends i zero e bs at early = let last : i ≡ n = omega arith in (tt, omega (arith, ap place last))
  each_ends i (suc left) e bs at early =
      followed_made _ _ ((item i).read bs at) _ ((reach i (omega arith)).ends bs at early) (λ x mid p.
      followed_made _ _ (read_each (λ j. (item j).read) (i + 1) left bs mid) _ (each_ends (i + 1) left (omega arith) bs mid p.1) (λ xs end q. q))

  pub each_reach : {from : ℕ} → from ≤ place 0 → Reach cut (each n item) Any from (place n)
  each_reach h = record { same = λ bs at early. each_same 0 n (omega arith) bs at (omega arith); ends = λ bs at early. each_ends 0 n (omega arith) bs at (omega arith) }
