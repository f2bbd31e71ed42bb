-- The orders of the rules are strict total orders, since the keys of each determine the job. Assumes nothing.
use Rattle.std.specs.Prelude.{◌≡◌}
use Rattle.std.proofs.Common.{arith}
use Rattle.ordering.specs.Strict.{Strict}
use Rattle.ordering.proofs.Keyed.{key_at, by_keys_strict}
use Rattle.rules.specs.declared.jobs.Job.{Job}
use Rattle.rules.specs.Orders.{deadline_monotonic_keys, deadline_monotonic, earliest_deadline_keys, earliest_deadline, file_rank_keys, file_rank}

-- jobs with equal fields are equal
same_job : {a b : Job} → a.mode ≡ b.mode → a.task ≡ b.task → a.release ≡ b.release → a.deadline ≡ b.deadline → a ≡ b
same_job mode task release deadline = λ i. record { mode = mode i; task = task i; release = release i; deadline = deadline i }

pub deadline_monotonic_strict : Strict deadline_monotonic
deadline_monotonic_strict = by_keys_strict deadline_monotonic_keys (λ a b same. same_job (key_at 3 same) (key_at 1 same) (key_at 2 same) (key_at 0 same))

pub earliest_deadline_strict : Strict earliest_deadline
earliest_deadline_strict = by_keys_strict earliest_deadline_keys (λ a b same.
    let release = key_at 2 same in
    let deadline : a.deadline ≡ b.deadline = omega (arith, key_at 0 same) in
    same_job (key_at 3 same) (key_at 1 same) release deadline)

pub file_rank_strict : Strict file_rank
file_rank_strict = by_keys_strict file_rank_keys (λ a b same. same_job (key_at 2 same) (key_at 0 same) (key_at 1 same) (key_at 3 same))
