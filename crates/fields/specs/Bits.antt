-- Numbers and bytes as bits, the most significant bit first. Assumes nothing.
use Rattle.std.specs.Prelude.{ℕ, zero, suc, ◌+◌, ◌/◌, ◌%◌, ◌^◌, cond, List, [], ◌∷◌, ◌++◌, length, take, drop, Some, None, Option, nat_le}
use Rattle.std.specs.Int.Digits.{number_from_digits}

-- the last `width` binary digits of a number
unfoldable pub binary : ℕ → ℕ → List ℕ
binary zero n = []
binary (suc width) n = n / 2 ^ width % 2 ∷ binary width n

-- the bits of some bytes
unfoldable pub bits : List ℕ → List ℕ
bits [] = []
bits (byte ∷ bytes) = binary 8 byte ++ bits bytes

-- the number that the `width` bits from a place on write, where there are so many
abbrev pub taken : ℕ → List ℕ → ℕ → Option ℕ
taken width bs at = cond (nat_le (at + width) (length bs)) (Some (number_from_digits 2 (take width (drop at bs)))) None
