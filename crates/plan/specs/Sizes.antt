-- The sizes of a board and of its plan. Assumes nothing.
use Rattle.std.specs.Prelude.{ℕ}

-- the most processors of a board, modes of a plan and tasks of a mode
abbrev pub most_processors : ℕ
most_processors = 8

abbrev pub most_modes : ℕ
most_modes = 8

abbrev pub most_tasks : ℕ
most_tasks = 16

-- the greatest execution time, the greatest of the other times, in ticks, and the greatest code of a rule
abbrev pub greatest_cost : ℕ
greatest_cost = 4095

abbrev pub greatest_time : ℕ
greatest_time = 65535

abbrev pub greatest_rule : ℕ
greatest_rule = 2

-- how many bytes of a file decide: one more than the longest plan has
abbrev pub deciding_bytes : ℕ
deciding_bytes = 2505
