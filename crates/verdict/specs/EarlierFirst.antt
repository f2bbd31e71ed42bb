-- The order of enabling deadlines, the earlier first and then the lower task, is a strict total order. Assumes nothing.
use Rattle.ordering.specs.Strict.{Strict}
use Rattle.ordering.specs.Keys.{by_keys}
use Rattle.ordering.proofs.Keyed.{key_at, by_keys_strict}
use Rattle.verdict.specs.Enabling.{deadline_keys}

-- ticks and task determine a deadline
pub deadlines_strict : Strict (by_keys deadline_keys)
deadlines_strict = by_keys_strict deadline_keys (λ a b same.
    let ticks = key_at 0 same in
    let task = key_at 1 same in
    λ i. record { ticks = ticks i; task = task i })
