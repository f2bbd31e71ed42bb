-- The text of a number of ticks, of a draft that is not adopted, and of a question that is refused. Assumes nothing.
use Rattle.std.specs.Prelude.{ℕ, cond, List, [], ◌∷◌, ◌++◌, codes, decimal, ◌==◌}
use Rattle.fields.specs.Line.{line}
use Rattle.verdict.specs.Answers.{no_mode_number}
use Rattle.verdict.specs.Verdict.{Told}

-- the unit of a number of ticks
abbrev pub unit : ℕ → List ℕ
unit n = cond (n == 1) (codes "tick") (codes "ticks")

-- a number of ticks with its unit
unfoldable pub ticks : ℕ → List ℕ
ticks n = decimal n ++ (codes " " ++ unit n)

-- the first line of a plan that is refused: why
unfoldable pub refusal_line : ℕ → List ℕ
refusal_line n = line (codes "refused " ∷ decimal n ∷ codes ": a changeover may outlast an enabling deadline" ∷ [])

-- the second line: the pair, the bound, the task and its deadline
unfoldable pub failing_line : Told → List ℕ
failing_line t = line (codes "from mode " ∷ decimal t.old ∷ codes " to mode " ∷ decimal t.new ∷ codes ": at most " ∷ ticks t.bound ∷ codes ", and the enabling deadline of task " ∷ decimal t.task ∷ codes " is " ∷ ticks t.deadline ∷ [])

-- a plan that is refused: the two lines
abbrev pub unsound_text : Told → List ℕ
unsound_text t = refusal_line t.number ++ failing_line t

-- the text of the error: the two lines without the end of the second
unfoldable pub unsound_message : Told → List ℕ
unsound_message t = codes "refused " ++ (decimal t.number ++ (codes ": a changeover may outlast an enabling deadline\nfrom mode " ++ (decimal t.old ++ (codes " to mode " ++ (decimal t.new ++ (codes ": at most " ++ (ticks t.bound ++ (codes ", and the enabling deadline of task " ++ (decimal t.task ++ (codes " is " ++ ticks t.deadline))))))))))

-- the text of the refusal that there is no such mode
abbrev pub no_mode_message : List ℕ
no_mode_message = codes "refused " ++ (decimal no_mode_number ++ codes ": there is no such mode")
