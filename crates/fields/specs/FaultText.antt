-- The text of a refused file: why it is refused, and where. Assumes nothing.
use Rattle.std.specs.Prelude.{ℕ, ◌-◌, List, [], ◌∷◌, ◌++◌, Some, None, codes, decimal, Option, slice_index_or}
use Rattle.fields.specs.Faults.{Told}
use Rattle.fields.specs.Line.{line}

-- the refusals in words, from number 1 on
unfoldable pub refusal_words : ℕ → List ℕ
refusal_words n = slice_index_or (codes "the input ends before a field is complete" ∷ codes "a value breaks its limit" ∷ codes "a bit after the last field is 1 or lies in a further byte" ∷ []) (n - 1) []

-- the fields in words, from number 1 on
unfoldable pub field_words : ℕ → List ℕ
field_words n = slice_index_or (codes "processors less one" ∷ codes "modes less one" ∷ codes "start mode" ∷ codes "rule code" ∷ codes "tasks less one" ∷ codes "execution time C" ∷ codes "deadline D" ∷ codes "separation T" ∷ codes "enabling deadline E" ∷ codes "padding" ∷ []) (n - 1) []

-- a mode's or a task's number after its word, where the field belongs to one
unfoldable pub owner_text : List ℕ → Option ℕ → List ℕ
owner_text word None = []
owner_text word (Some n) = codes ", " ++ (word ++ (codes " " ++ decimal n))

-- the first line: the number of the refusal, and what is wrong
unfoldable pub refusal_line : ℕ → List ℕ
refusal_line n = line (codes "refused " ∷ decimal n ∷ codes ": " ∷ refusal_words n ∷ [])

-- the number of a field, and the field in words
unfoldable pub field_text : ℕ → List ℕ
field_text n = codes "field " ++ (decimal n ++ (codes " (" ++ (field_words n ++ codes ")")))

-- the second line: the field, the mode and the task that it belongs to, and the bit
abbrev pub field_line : Told → List ℕ
field_line t = line (field_text t.field ∷ owner_text (codes "mode") t.mode ∷ owner_text (codes "task") t.task ∷ codes ", bit " ∷ decimal t.bit ∷ [])

-- what is told of a refused file: the two lines
abbrev pub fault_text : Told → List ℕ
fault_text t = refusal_line t.number ++ field_line t

-- the mode and the task that a field belongs to
unfoldable pub owner_words : Option ℕ → Option ℕ → List ℕ
owner_words mode task = owner_text (codes "mode") mode ++ owner_text (codes "task") task

-- the two lines, without the byte that ends the second
unfoldable pub fault_words : Told → List ℕ
fault_words t = refusal_line t.number ++ (field_text t.field ++ (owner_words t.mode t.task ++ (codes ", bit " ++ decimal t.bit)))
