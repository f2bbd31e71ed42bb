-- The worked examples, one row each. Assumes nothing.
use Rattle.std.specs.Prelude.{◌≡◌, ℕ, List, [], ◌∷◌, ◌++◌, map, length, Some, None, Ok, Err, Option, Result}
use Rattle.std.specs.List.{range_with_len, AllByRecursion}
use Rattle.fields.specs.Faults.{Told, five}
use Rattle.plan.specs.Decode.{decode}
use Rattle.plan.specs.Plan.{Plan}
use Rattle.verdict.specs.Bound.{bound, bound_of}
use Rattle.verdict.specs.Verdict.{Told as PairTold, verdict}

-- the bounds of a plan's modes, and the verdict on it
pub record Judgement : Type 0 where
  pub bounds : List ℕ
  pub told : Option PairTold

-- how a plan is judged
abbrev pub judgement : Plan → Judgement
judgement p = record { bounds = map (bound_of p) (range_with_len 0 (length p.modes)); told = verdict p }

-- a plan that was decoded is judged
abbrev pub judged : Result Plan Told → Result Judgement Told
judged (Ok p) = Ok (judgement p)
judged (Err t) = Err t

-- the five numbers that a refused file tells, and none where it is accepted
abbrev pub tells : Result Plan Told → List ℕ
tells (Ok p) = []
tells (Err t) = five t

-- a worked example
pub data Row : Type 0 where
  -- a file, and what it is decoded as
  decodes : List ℕ → Result Plan Told → Row
  -- a file that is refused, and the five numbers that are told of it
  refuses : List ℕ → List ℕ → Row
  -- processors and execution times C, and the bound of such tasks
  bounds : ℕ → List ℕ → ℕ → Row
  -- a file that holds a plan, and how that is judged
  judges : List ℕ → Judgement → Row

-- what a row claims
abbrev pub Holds : Row → Type 0
Holds (decodes file says) = decode file ≡ says
Holds (refuses file numbers) = tells (decode file) ≡ numbers
Holds (bounds processors costs is) = bound processors costs ≡ is
Holds (judges file is) = judged (decode file) ≡ Ok is

-- the worked plan's file, without its last byte
abbrev front : List ℕ
front = 0x24 ∷ 0x00 ∷ 0x00 ∷ 0x60 ∷ 0x00 ∷ 0xa0 ∷ 0x01 ∷ 0x00 ∷ 0x00 ∷ 0x88 ∷ 0x00 ∷ 0x20 ∷ 0x00 ∷ 0x30 ∷ 0x00 ∷ 0x48 ∷ 0x00 ∷ []

-- the worked plan's file
abbrev pub worked_file : List ℕ
worked_file = front ++ 0x18 ∷ []

-- two processors, and two modes of one task each
abbrev pub worked : Plan
worked = record {
  processors = 2;
  start = 0;
  modes =
      record { rule = 0; tasks = record { cost = 3; deadline = 5; separation = 8; enabling = 0 ∷ 4 ∷ [] } ∷ [] }
      ∷ record { rule = 1; tasks = record { cost = 4; deadline = 6; separation = 9; enabling = 3 ∷ 0 ∷ [] } ∷ [] }
      ∷ [];
}

-- a file that is refused, at a field of no mode and no task
abbrev refused : ℕ → ℕ → ℕ → Result Plan Told
refused number field bit = Err (record { number = number; field = field; mode = None; task = None; bit = bit })

-- the table
abbrev pub rows : List Row
rows =
    decodes worked_file (Ok worked)
    ∷ decodes (0x24 ∷ []) (refused 1 3 6)
    ∷ decodes [] (refused 1 1 0)
    ∷ decodes (front ++ 0x19 ∷ []) (refused 3 10 143)
    ∷ decodes (worked_file ++ 0x00 ∷ []) (refused 3 10 144)
    ∷ refuses (0x24 ∷ []) (1 ∷ 3 ∷ 255 ∷ 255 ∷ 6 ∷ [])
    ∷ refuses [] (1 ∷ 1 ∷ 255 ∷ 255 ∷ 0 ∷ [])
    ∷ refuses (front ++ 0x19 ∷ []) (3 ∷ 10 ∷ 255 ∷ 255 ∷ 143 ∷ [])
    ∷ refuses (worked_file ++ 0x00 ∷ []) (3 ∷ 10 ∷ 255 ∷ 255 ∷ 144 ∷ [])
    ∷ bounds 1 (3 ∷ 2 ∷ 2 ∷ []) 7
    ∷ bounds 2 (3 ∷ 2 ∷ 2 ∷ []) 5
    ∷ bounds 3 (3 ∷ 2 ∷ 2 ∷ []) 3
    ∷ bounds 2 (2 ∷ 2 ∷ 1 ∷ []) 3
    ∷ judges worked_file (record { bounds = 3 ∷ 4 ∷ []; told = None })
    ∷ judges (front ++ 0x10 ∷ []) (record { bounds = 3 ∷ 4 ∷ []; told = Some (record { number = 11; old = 0; new = 1; task = 0; bound = 3; deadline = 2 }) })
    ∷ []

-- every row holds
abbrev pub Facts : Type 0
Facts = AllByRecursion Holds rows
