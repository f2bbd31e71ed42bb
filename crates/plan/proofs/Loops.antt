-- A loop that reads so many values into a table, beside what is read of such values. Assumes nothing.
use Rattle.std.proofs.Common.{◌≡◌, ℕ, zero, suc, ◌+◌, ◌-◌, ◌<◌, ◌≤◌, List, [], ◌∷◌, ◌++◌, map, length, set, replicate, IfOk, Ok, Err, sym, refl, ap, ◌∙◌, append_assoc, append-nil, arith}
use Rattle.std.proofs.lemmas.List.{length_push, set_at}
use Rattle.fields.specs.Faults.{Told}
use Rattle.plan.specs.Held.{padded}
use Rattle.fields.specs.Layout.{Layout, Reading, followed, read_each, each}
use Rattle.fields.specs.Readers.{converted}
use Rattle.std.proofs.lemmas.Result.{IfOk-at_ok}
use Rattle.plan.proofs.Exits.{read_from}
use Rattle.plan.proofs.Lawful.{followed_made}

-- values before those of a reading
abbrev pub prefixed : {A : Type 0} → List A → Reading (List A) → Reading (List A)
prefixed xs r = followed r (λ ys end. Ok (xs ++ ys, end))

prefixed_more : {A : Type 0} (xs : List A) (x : A) (r : Reading (List A)) → prefixed xs (followed r (λ ys end. Ok (x ∷ ys, end))) ≡ prefixed (xs ++ x ∷ []) r
prefixed_more xs x (Ok r) = ap (λ ys. Ok (ys, r.1)) (sym (append_assoc xs (x ∷ []) r.0))
prefixed_more xs x (Err t) = refl

unprefixed : {A : Type 0} (r : Reading (List A)) → prefixed [] r ≡ r
unprefixed (Ok r) = refl
unprefixed (Err t) = refl

-- one value more in a table
pub padded_more : {X : Type 0} (size : ℕ) (blank : X) (xs : List X) (x : X) → length xs < size → set (padded size blank xs) (length xs) x ≡ padded size blank (xs ++ x ∷ [])
padded_more size blank xs x room =
    let one : size - length xs ≡ suc (size - length (xs ++ x ∷ [])) = omega (arith, length_push xs x) in
    ap (λ n. set (xs ++ replicate n blank) (length xs) x) one
    ∙ set_at xs blank (replicate (size - length (xs ++ x ∷ [])) blank) x (length xs) refl
    ∙ sym (append_assoc xs (x ∷ []) (replicate (size - length (xs ++ x ∷ [])) blank))

-- what a loop over the first n numbers has at its turn i: the values so far, in the table and before what is left to read
pub record Sofar {X : Type 0} (size : ℕ) (blank : X) (reading : ℕ → List ℕ → ℕ → Reading X) (n : ℕ) (bs : List ℕ) (start : ℕ) (i : ℕ) (table : List X) (at : ℕ) : Type 0 where
  pub items : List X
  pub count : length items ≡ i
  pub held : table ≡ padded size blank items
  pub reads : read_each reading 0 n bs start ≡ prefixed items (read_each reading i (n - i) bs at)

module _ {X : Type 0} (size : ℕ) (blank : X) (reading : ℕ → List ℕ → ℕ → Reading X) (n : ℕ) (bs : List ℕ) (start : ℕ) where
  -- a turn unrolled
  turn : (i at : ℕ) → i < n → read_each reading i (n - i) bs at ≡ followed (reading i bs at) (λ x next. followed (read_each reading (i + 1) (n - (i + 1)) bs next) (λ xs end. Ok (x ∷ xs, end)))
  unfolding read_each
  turn i at h = let more : n - i ≡ suc (n - (i + 1)) = omega arith in ap (λ k. read_each reading i k bs at) more

  -- before the first turn all places are blank
  pub sofar_none : Sofar size blank reading n bs start 0 (replicate size blank) start
  sofar_none = record {
    items = [];
    count = refl;
    held = (let all : size ≡ size - 0 = omega arith in ap (λ k. replicate k blank) all);
    reads = (let all : n - 0 ≡ n = omega arith in rw all (sym (unprefixed (read_each reading 0 n bs start))));
  }

  pub sofar_more : (i : ℕ) (table : List X) (at next : ℕ) (x : X) → i < n → i < size → Sofar size blank reading n bs start i table at → reading i bs at ≡ Ok (x, next) → Sofar size blank reading n bs start (i + 1) (set table i x) next
  sofar_more i table at next x h room s e = record {
    items = s.items ++ x ∷ [];
    count = length_push s.items x ∙ ap (λ k. k + 1) s.count;
    held = (let here = sym s.count in λ j. set (s.held j) (here j) x) ∙ padded_more size blank s.items x (omega (arith, s.count));
    reads = s.reads ∙ ap (prefixed s.items) (turn i at h ∙ ap (λ r. followed r (λ y end. followed (read_each reading (i + 1) (n - (i + 1)) bs end) (λ ys last. Ok (y ∷ ys, last)))) e) ∙ prefixed_more s.items x _;
  }

  pub sofar_fails : (i : ℕ) (table : List X) (at : ℕ) (t : Told) → i < n → Sofar size blank reading n bs start i table at → reading i bs at ≡ Err t → Err t ≡ converted (padded size blank) (read_each reading 0 n bs start)
  sofar_fails i table at t h s e = sym (ap (converted (padded size blank)) (s.reads ∙ ap (prefixed s.items) (turn i at h ∙ ap (λ r. followed r (λ y end. followed (read_each reading (i + 1) (n - (i + 1)) bs end) (λ ys last. Ok (y ∷ ys, last)))) e)))

  pub sofar_all : (i : ℕ) (table : List X) (at : ℕ) → n ≤ i → Sofar size blank reading n bs start i table at → Ok (table, at) ≡ converted (padded size blank) (read_each reading 0 n bs start)
  unfolding read_each
  sofar_all i table at h s =
      let none : n - i ≡ 0 = omega arith in
      let whole : read_each reading 0 n bs start ≡ Ok (s.items, at) = s.reads ∙ ap (λ k. prefixed s.items (read_each reading i k bs at)) none ∙ ap (λ xs. Ok (xs, at)) (append-nil s.items) in
      ap (λ xs. Ok (xs, at)) s.held ∙ sym (ap (converted (padded size blank)) whole)

made_any : {A : Type 0} (r : Reading A) → IfOk r (λ _. Unit {0})
made_any (Ok r) = tt
made_any (Err t) = tt

-- values in another form, each as it is read or all when they are read
convert_first : {A X : Type 0} (form : A → X) (x : A) (r : Reading (List A)) → followed (converted (map form) r) (λ xs end. Ok (form x ∷ xs, end)) ≡ converted (map form) (followed r (λ xs end. Ok (x ∷ xs, end)))
convert_first form x (Ok r) = refl
convert_first form x (Err t) = refl

convert_later : {A X : Type 0} (form : A → X) (r : Reading A) (each : ℕ → Reading (List X)) (plain : ℕ → Reading (List A)) → ((at : ℕ) → each at ≡ converted (map form) (plain at)) → followed (converted form r) (λ x next. followed (each next) (λ xs end. Ok (x ∷ xs, end))) ≡ converted (map form) (followed r (λ x next. followed (plain next) (λ xs end. Ok (x ∷ xs, end))))
convert_later form (Ok r) each plain same = ap (λ s. followed s (λ xs end. Ok (form r.0 ∷ xs, end))) (same r.1) ∙ convert_first form r.0 (plain r.1)
convert_later form (Err t) each plain same = refl

pub each_converted : {A X : Type 0} (form : A → X) (reading : ℕ → List ℕ → ℕ → Reading A) (i n : ℕ) (bs : List ℕ) (at : ℕ) → read_each (λ j bits place. converted form (reading j bits place)) i n bs at ≡ converted (map form) (read_each reading i n bs at)
unfolding read_each
each_converted form reading i zero bs at = refl
each_converted form reading i (suc n) bs at = convert_later form (reading i bs at) _ _ (λ next. each_converted form reading (i + 1) n bs next)

-- one form after the other
pub converted_twice : {A B C : Type 0} (g : B → C) (f : A → B) (r : Reading A) → converted g (converted f r) ≡ converted (λ a. g (f a)) r
converted_twice g f (Ok r) = refl
converted_twice g f (Err t) = refl

-- a table of values in another form
pub table_converted : {A X : Type 0} (form : A → X) (size : ℕ) (blank : X) (item : ℕ → Layout A) (n : ℕ) (bs : List ℕ) (at : ℕ) → converted (padded size blank) (read_each (λ j bits place. converted form ((item j).read bits place)) 0 n bs at) ≡ converted (λ xs. padded size blank (map form xs)) ((each n item).read bs at)
table_converted form size blank item n bs at =
    ap (converted (padded size blank)) (each_converted form (λ j. (item j).read) 0 n bs at) ∙ converted_twice (padded size blank) (map form) (read_each (λ j. (item j).read) 0 n bs at)

-- as many values are read as were asked for
pub each_length : {A : Type 0} (reading : ℕ → List ℕ → ℕ → Reading A) (i n : ℕ) (bs : List ℕ) (at : ℕ) → IfOk (read_each reading i n bs at) (λ r. length r.0 ≡ n)
unfolding read_each
each_length reading i zero bs at = refl
each_length reading i (suc n) bs at =
    followed_made (λ _. Unit {0}) _ (reading i bs at) _ (made_any (reading i bs at)) (λ x mid _.
    followed_made (λ r. length r.0 ≡ n) _ (read_each reading (i + 1) n bs mid) _ (each_length reading (i + 1) n bs mid) (λ xs end e. ap suc e))

-- so many values were read, and stand in the table
pub each_read : {A X : Type 0} (form : A → X) (size : ℕ) (blank : X) (item : ℕ → Layout A) (n : ℕ) (bs : List ℕ) (at : ℕ) (table : List X) (next : ℕ) → Ok (table, next) ≡ converted (λ xs. padded size blank (map form xs)) ((each n item).read bs at) → (xs : List A) × (length xs ≡ n) × (table ≡ padded size blank (map form xs)) × ((each n item).read bs at ≡ Ok (xs, next))
each_read form size blank item n bs at table next e =
    let listed = read_from (λ xs. padded size blank (map form xs)) ((each n item).read bs at) table next e in
    (listed.value, IfOk-at_ok (λ r. length r.0 ≡ n) listed.reads (each_length (λ j. (item j).read) 0 n bs at), listed.same, listed.reads)
