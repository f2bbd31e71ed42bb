-- The bit at a place of some bytes, and the number in the bits from a place on. Assumes nothing.
use Rattle.std.proofs.Common.{◌≡◌, ℕ, zero, suc, ◌+◌, ◌-◌, ◌*◌, ◌/◌, ◌%◌, ◌^◌, ◌<◌, ◌≤◌, List, [], ◌∷◌, length, get_or, take, drop, refl, ap, ◌∙◌, ⊎_elim, arith, length-drop}
use Rattle.std.specs.Int.Digits.{number_from_digits}
use Rattle.std.proofs.lemmas.Nat.{pow-add}
use Rattle.std.proofs.lemmas.Int.Digits.{number_more}
use Rattle.std.proofs.lemmas.List.{get_or_append_left, get_or-append_right, get_or-drop}
use Rattle.std.proofs.lemmas.Bool.{cases_lt}
use Rattle.fields.specs.Bits.{binary, bits}
use Rattle.fields.proofs.Numbers.{length_binary}

pub binary_at : (width n i : ℕ) → i < width → get_or (binary width n) i 0 ≡ n / 2 ^ (width - 1 - i) % 2
unfolding binary
binary_at zero n i h = let no_i : ⊥ = omega arith in absurd no_i
binary_at (suc width) n zero h = ap (λ e. n / 2 ^ e % 2) (omega arith)
binary_at (suc width) n (suc i) h =
    binary_at width n i (omega arith) ∙ ap (λ e. n / 2 ^ e % 2) (omega arith)

-- a bit is the digit of its byte that its place in the byte says
pub bits_at : (bytes : List ℕ) (at : ℕ) → at < 8 * length bytes → get_or (bits bytes) at 0 ≡ get_or bytes (at / 8) 0 / 2 ^ (7 - at % 8) % 2
unfolding bits
bits_at [] at h = let no_bit : ⊥ = omega arith in absurd no_bit
bits_at (b ∷ bytes) at h = ⊎_elim first (λ high. later high (bits_at bytes (at - 8) (omega arith))) (cases_lt at 8)
  where
    first : at < 8 → get_or (bits (b ∷ bytes)) at 0 ≡ get_or (b ∷ bytes) (at / 8) 0 / 2 ^ (7 - at % 8) % 2
    first low =
        let q : at / 8 ≡ 0 = omega arith in
        let r : at % 8 ≡ at = omega arith in
        get_or_append_left (binary 8 b) (bits bytes) 0 at (omega (arith, length_binary 8 b)) ∙ binary_at 8 b at low ∙ rw (q, r) (ap (λ e. b / 2 ^ e % 2) (omega arith))

    later : 8 ≤ at → get_or (bits bytes) (at - 8) 0 ≡ get_or bytes ((at - 8) / 8) 0 / 2 ^ (7 - (at - 8) % 8) % 2 → get_or (bits (b ∷ bytes)) at 0 ≡ get_or (b ∷ bytes) (at / 8) 0 / 2 ^ (7 - at % 8) % 2
    later high rest =
        let q : at / 8 ≡ suc ((at - 8) / 8) = omega arith in
        let r : at % 8 ≡ (at - 8) % 8 = omega arith in
        get_or-append_right (binary 8 b) (bits bytes) 8 at 0 (length_binary 8 b) high ∙ rest ∙ rw (q, r) refl

pub bit_below : (bytes : List ℕ) (at : ℕ) → at < 8 * length bytes → get_or (bits bytes) at 0 < 2
bit_below bytes at h = rw (bits_at bytes at h) (omega arith)

-- the number in some bits, with one bit more
pub number_next : (bs : List ℕ) (first at : ℕ) → first ≤ at → at < length bs → number_from_digits 2 (take (at + 1 - first) (drop first bs)) ≡ number_from_digits 2 (take (at - first) (drop first bs)) * 2 + get_or bs at 0
number_next bs first at from within =
    let more : at + 1 - first ≡ (at - first) + 1 = omega arith in
    let place : first + (at - first) ≡ at = omega arith in
    ap (λ n. number_from_digits 2 (take n (drop first bs))) more ∙ number_more 2 (drop first bs) (at - first) (omega (arith, length-drop first bs)) ∙ ap (λ b. number_from_digits 2 (take (at - first) (drop first bs)) * 2 + b) (get_or-drop first bs (at - first) 0 ∙ ap (λ i. get_or bs i 0) place)

pub pow_next : (first at : ℕ) → first ≤ at → 2 ^ (at + 1 - first) ≡ 2 ^ (at - first) * 2
pow_next first at from = ap (λ n. 2 ^ n) (omega arith) ∙ pow-add 2 (at - first) 1
