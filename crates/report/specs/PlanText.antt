-- The text of a plan: a table for each mode, with a row for each task. Assumes nothing.
use Rattle.std.specs.Prelude.{ℕ, ◌+◌, ◌-◌, List, [], ◌∷◌, ◌++◌, length, codes, decimal}
use Rattle.std.specs.List.{remove, range_with_len, flat_map, repeat}
use Rattle.plan.specs.Plan.{Task, Mode, Plan}
use Rattle.fields.specs.Line.{line}

-- a cell of a table: a text, right-aligned in 6 columns
abbrev pub cell : List ℕ → List ℕ
cell text = repeat (6 - length text) (codes " ") ++ text

-- the cells of all members of a list but number j
unfoldable pub others : {A : Type 0} → (A → List ℕ) → ℕ → List A → List ℕ
others text j xs = flat_map (λ x. cell (text x)) (remove xs j)

-- the name of an enabling deadline: E with the number of the mode that is left
abbrev pub old_mode : ℕ → List ℕ
old_mode i = codes "E" ++ decimal i

-- the head of the table of mode j, in a plan of n modes: an E for each mode but j
unfoldable pub table_head : ℕ → ℕ → List ℕ
table_head n j = line (codes "  task     C     D     T" ∷ others old_mode j (range_with_len 0 n) ∷ [])

-- the row of task k of mode j: its number, C, D, T, and E for each mode but j
abbrev pub task_row : ℕ → ℕ → Task → List ℕ
task_row j k t = line (cell (decimal k) ∷ cell (decimal t.cost) ∷ cell (decimal t.deadline) ∷ cell (decimal t.separation) ∷ others decimal j t.enabling ∷ [])

-- the texts of the members of a list, one after the other, where each may depend on its number
unfoldable pub each : {A : Type 0} → (ℕ → A → List ℕ) → ℕ → List A → List ℕ
each text i [] = []
each text i (x ∷ xs) = text i x ++ each text (i + 1) xs

-- the table of mode j, in a plan of n modes
abbrev pub table : ℕ → ℕ → List Task → List ℕ
table n j ts = table_head n j ++ each (task_row j) 0 ts

-- the line above the table of mode j
unfoldable pub mode_line : ℕ → ℕ → List ℕ
mode_line j rule = line (codes "mode " ∷ decimal j ∷ codes ", rule " ∷ decimal rule ∷ [])

-- mode j, in a plan of n modes: a line and the table
abbrev pub mode_text : ℕ → ℕ → Mode → List ℕ
mode_text n j m = mode_line j m.rule ++ table n j m.tasks

-- the first line: how many processors and modes there are, and the mode that a board begins in
unfoldable pub plan_line : Plan → List ℕ
plan_line p = line (codes "processors " ∷ decimal p.processors ∷ codes ", modes " ∷ decimal (length p.modes) ∷ codes ", start mode " ∷ decimal p.start ∷ [])

-- the modes of a plan, in their order
abbrev pub modes_text : Plan → List ℕ
modes_text p = each (mode_text (length p.modes)) 0 p.modes

-- the last line, which says what the tables hold
unfoldable pub legend : List ℕ
legend = line (codes "times in ticks; E0 is the enabling deadline when mode 0 is left, and so on" ∷ [])

-- a plan: the first line, the modes, and the last line
abbrev pub plan_text : Plan → List ℕ
plan_text p = plan_line p ++ (modes_text p ++ legend)
