-- Nothing is told of the pairs so far.
use Rattle.std.proofs.Common.{◌≡◌, None, Ok}
use Rattle.plan.specs.Held.{plan_of}
use Rattle.verdict.specs.Verdict.{failing_from, failing_before}
use Rattle.verdict.proofs.pairs.check_pairs.Given as goal

abbrev pub invariant-pairs : goal.invariant-pairs
invariant-pairs l = (l.found ≡ Ok tt) × (failing_before (plan_of l.draft.plan) l.old ≡ None)

abbrev pub invariant-loop-new : goal.invariant-loop-new
invariant-loop-new l = (l.found ≡ Ok tt) × (failing_from (plan_of l.draft.plan) l.old l.new ≡ None)
