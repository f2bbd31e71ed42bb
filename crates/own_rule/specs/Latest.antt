-- The order of the rule that puts the latest release first. Assumes nothing.
use Rattle.std.specs.Prelude.{Bool, ℕ}
use Rattle.ordering.specs.Groups.{descending, by_group}
use Rattle.rules.specs.declared.jobs.Job.{Job}
use Rattle.rules.specs.Orders.{file_rank}

-- the larger release tick goes first, and jobs that have the same go by file rank
abbrev pub latest_first : Job → Job → Bool
latest_first = by_group descending (λ job. job.release) (λ _. file_rank)

-- its code, which no other rule has
abbrev pub latest_first_code : ℕ
latest_first_code = 100
