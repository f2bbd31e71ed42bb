-- The orders of the rules that compare keys in turn, and the codes of all rules. Assumes nothing.
use Rattle.std.specs.Prelude.{ℕ, ◌+◌, Bool, List, [], ◌∷◌}
use Rattle.ordering.specs.Keys.{by_keys}
use Rattle.rules.specs.declared.jobs.Job.{Job}

-- the tick at which a job is due
abbrev pub due : Job → ℕ
due job = job.release + job.deadline

-- deadline monotonic: D, then task, release tick, mode
abbrev pub deadline_monotonic_keys : Job → List ℕ
deadline_monotonic_keys job = job.deadline ∷ job.task ∷ job.release ∷ job.mode ∷ []

abbrev pub deadline_monotonic : Job → Job → Bool
deadline_monotonic = by_keys deadline_monotonic_keys

-- earliest deadline: release tick plus D, then task, release tick, mode
abbrev pub earliest_deadline_keys : Job → List ℕ
earliest_deadline_keys job = due job ∷ job.task ∷ job.release ∷ job.mode ∷ []

abbrev pub earliest_deadline : Job → Job → Bool
earliest_deadline = by_keys earliest_deadline_keys

-- file rank: task, then release tick, mode, D
abbrev pub file_rank_keys : Job → List ℕ
file_rank_keys job = job.task ∷ job.release ∷ job.mode ∷ job.deadline ∷ []

abbrev pub file_rank : Job → Job → Bool
file_rank = by_keys file_rank_keys

-- the codes by which a plan names the rules of its modes, and that of the rule that goes by these codes
abbrev pub deadline_monotonic_code : ℕ
deadline_monotonic_code = 0

abbrev pub earliest_deadline_code : ℕ
earliest_deadline_code = 1

abbrev pub file_rank_code : ℕ
file_rank_code = 2

abbrev pub by_mode_code : ℕ
by_mode_code = 3
