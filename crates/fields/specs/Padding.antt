-- What may follow the last field: 0 bits to the end of its byte, and nothing more. Assumes nothing.
use Rattle.std.specs.Prelude.{ℕ, ◌+◌, ◌*◌, ◌/◌, cond, ◌||◌, List, [], ◌∷◌, Some, None, Option, ◌==◌, nat_le}

-- the end of the byte that a bit lies in, where it is not the first of one
abbrev pub byte_end : ℕ → ℕ
byte_end at = 8 * ((at + 7) / 8)

-- the earliest bit that is 1, or does not lie before the end
unfoldable pub stray : ℕ → List ℕ → ℕ → Option ℕ
stray end [] at = None
stray end (b ∷ bs) at = cond (b == 1 || nat_le end at) (Some at) (stray end bs (at + 1))
