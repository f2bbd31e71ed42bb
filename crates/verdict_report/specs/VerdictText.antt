-- The text of a verdict: the longest changeovers and their margins, or the pair that fails. Assumes nothing.
use Rattle.std.specs.Prelude.{ℕ, ◌-◌, ◌*◌, List, [], ◌∷◌, ◌++◌, length, Some, None, codes, decimal, Option}
use Rattle.std.specs.List.{range_with_len, flat_map}
use Rattle.plan.specs.Plan.{Plan}
use Rattle.fields.specs.Line.{line}
use Rattle.verdict.specs.Answers.{changeover}
use Rattle.verdict.specs.Bound.{bound_of}
use Rattle.verdict.specs.Text.{ticks, unsound_text}
use Rattle.verdict.specs.Verdict.{Told, verdict}

-- the milliseconds of a tick
abbrev pub tick_ms : ℕ
tick_ms = 10

-- the line of a mode: the longest changeover out of it, in ticks and in milliseconds
unfoldable pub mode_line : ℕ → ℕ → List ℕ
mode_line i bound = line (codes "leaving mode " ∷ decimal i ∷ codes ": at most " ∷ ticks bound ∷ codes ", " ∷ decimal (bound * tick_ms) ∷ codes " ms" ∷ [])

-- the line of a changeover to mode j: the least enabling deadline, and how far the bound stays below it
unfoldable pub pair_line : ℕ → ℕ × ℕ → List ℕ
pair_line j pair = line (codes "  to mode " ∷ decimal j ∷ codes ": least enabling deadline " ∷ ticks pair.1 ∷ codes ", margin " ∷ ticks (pair.1 - pair.0) ∷ [])

-- the line of a judgement, where there is one
abbrev pub judgement_line : ℕ → Option (ℕ × ℕ) → List ℕ
judgement_line j None = []
judgement_line j (Some pair) = pair_line j pair

-- the changeover from mode i to mode j, where there is one
abbrev pub changeover_text : Plan → ℕ → ℕ → List ℕ
changeover_text p i j = judgement_line j (changeover p i j)

-- the changeovers from mode i, to each other mode
abbrev pub pairs_text : Plan → ℕ → List ℕ
pairs_text p i = flat_map (changeover_text p i) (range_with_len 0 (length p.modes))

-- a mode, and the changeovers from it
abbrev pub mode_text : Plan → ℕ → List ℕ
mode_text p i = mode_line i (bound_of p i) ++ pairs_text p i

-- all modes, in their order
abbrev pub modes_text : Plan → List ℕ
modes_text p = flat_map (mode_text p) (range_with_len 0 (length p.modes))

-- the first line of a sound plan
unfoldable pub sound_line : List ℕ
sound_line = line (codes "sound: every changeover ends within every enabling deadline" ∷ [])

-- a sound plan: the first line, and its modes
abbrev pub sound_text : Plan → List ℕ
sound_text p = sound_line ++ modes_text p

-- a plan of which nothing is told, or what is told of it
abbrev pub told_text : Plan → Option Told → List ℕ
told_text p None = sound_text p
told_text p (Some t) = unsound_text t

-- the verdict on a plan
abbrev pub verdict_text : Plan → List ℕ
verdict_text p = told_text p (verdict p)
