-- A line of text. Assumes nothing.
use Rattle.std.specs.Prelude.{ℕ, List, [], ◌∷◌, ◌++◌}

-- some texts in a row, and the byte that ends a line
abbrev pub line : List (List ℕ) → List ℕ
line [] = 10 ∷ []
line (text ∷ texts) = text ++ line texts
