-- Numbers and bits: a number and its binary digits give each other. Assumes nothing.
use Rattle.std.proofs.Common.{◌≡◌, ℕ, zero, suc, ◌+◌, ◌*◌, ◌/◌, ◌%◌, ◌^◌, ◌<◌, List, [], ◌∷◌, length, sym, refl, ap, ◌∙◌, add-one, arith, length-append}
use native.Mathlib.Nat.{div-eq_of_lt}
use Rattle.std.specs.Int.Digits.{number_from_digits, number_from_digits_after, AllBelowBase}
use Rattle.std.proofs.lemmas.Nat.{shr-shr}
use Rattle.std.proofs.ByRecursion.{All-append}
use Rattle.fields.specs.Bits.{binary, bits}

pub length_binary : (width n : ℕ) → length (binary width n) ≡ width
unfolding binary
length_binary zero n = refl
length_binary (suc width) n = ap suc (length_binary width n)

under_binary : (width n : ℕ) → AllBelowBase 2 (binary width n)
unfolding binary
under_binary zero n = tt
under_binary (suc width) n = (omega arith, under_binary width n)

pub length_bits : (bytes : List ℕ) → length (bits bytes) ≡ 8 * length bytes
unfolding bits
length_bits [] = refl
length_bits (byte ∷ bytes) = simp (length-append, length_binary, length_bits bytes) (omega arith)

pub under_bits : (bytes : List ℕ) → AllBelowBase 2 (bits bytes)
unfolding bits
under_bits [] = tt
under_bits (byte ∷ bytes) = All-append (λ b. b < 2) (binary 8 byte) (bits bytes) (under_binary 8 byte) (under_bits bytes)

shr_suc : (n width : ℕ) → n / 2 ^ suc width ≡ n / 2 ^ width / 2
shr_suc n width = sym (shr-shr n width 1 ∙ ap (λ w. n / 2 ^ w) (add-one width))

-- the digits of a number, after what is left of them, write it
number_after_binary : (width n : ℕ) → number_from_digits_after 2 (n / 2 ^ width) (binary width n) ≡ n
unfolding binary
number_after_binary zero n = omega arith
number_after_binary (suc width) n =
    let joins : n / 2 ^ suc width * 2 + n / 2 ^ width % 2 ≡ n / 2 ^ width = omega (arith, shr_suc n width) in
    ap (λ m. number_from_digits_after 2 m (binary width n)) joins ∙ number_after_binary width n

pub number_binary : (width n : ℕ) → n < 2 ^ width → number_from_digits 2 (binary width n) ≡ n
number_binary width n small = ap (λ m. number_from_digits_after 2 m (binary width n)) (sym (div-eq_of_lt small)) ∙ number_after_binary width n

-- digits after a number are gone when it is shifted back
number_after_shr : (n : ℕ) (ds : List ℕ) → AllBelowBase 2 ds → number_from_digits_after 2 n ds / 2 ^ length ds ≡ n
number_after_shr n [] u = omega arith
number_after_shr n (d ∷ ds) u = shr_suc (number_from_digits_after 2 (n * 2 + d) ds) (length ds) ∙ omega (arith, u.0, number_after_shr (n * 2 + d) ds u.1)

binary_number_after : (n : ℕ) (ds : List ℕ) → AllBelowBase 2 ds → binary (length ds) (number_from_digits_after 2 n ds) ≡ ds
unfolding binary
binary_number_after n [] u = refl
binary_number_after n (d ∷ ds) u =
    let first : number_from_digits_after 2 (n * 2 + d) ds / 2 ^ length ds % 2 ≡ d = omega (arith, u.0, number_after_shr (n * 2 + d) ds u.1) in
    let later = binary_number_after (n * 2 + d) ds u.1 in
    cc

pub binary_number : (width : ℕ) (ds : List ℕ) → AllBelowBase 2 ds → length ds ≡ width → binary width (number_from_digits 2 ds) ≡ ds
binary_number width ds u long = ap (λ w. binary w (number_from_digits 2 ds)) (sym long) ∙ binary_number_after 0 ds u
