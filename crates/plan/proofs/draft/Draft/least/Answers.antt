use Rattle.std.proofs.Common.{sym, ap, ◌∙◌, subst}
use Rattle.plan.specs.Held.{plan_of, plan_table}
use Rattle.plan.specs.Plan.{Within}
use Rattle.plan.proofs.LeastWithin.{least_within}
use Rattle.plan.proofs.draft.Draft.least.Goals as goal

pub invariant_of-result : goal.invariant_of-result
invariant_of-result c =
    let is = c.least.ensures in
    record { within = subst (λ p. Within (plan_of p)) (sym is) least_within; blank = ap (λ p. plan_table (plan_of p)) is ∙ sym is }
