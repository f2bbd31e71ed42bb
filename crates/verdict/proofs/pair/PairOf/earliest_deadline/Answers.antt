-- The first of the deadlines.
use Rattle.std.proofs.Common.{rules, Some, ◌≡◌, ◌<◌, length, get_or, take, sym, ap, ◌∙◌, arith}
use Rattle.std.proofs.lemmas.List.{get_or-take, length-take}
use Rattle.ordering.specs.First.{first, Leads}
use Rattle.ordering.specs.Keys.{by_keys}
use Rattle.plan.specs.Held.{plan_of}
use Rattle.plan.specs.Plan.{mode_at}
use Rattle.verdict.specs.Enabling.{deadlines, deadline_keys, no_deadline}
use Rattle.verdict.proofs.Earliest.{earliest_at, size_held}
use Rattle.verdict.proofs.pair.PairOf.earliest_deadline.Goals as goal

pub returns : goal.returns
returns c =
    let pair = c.args.self.now in
    let all = c.deadlines-deadlines.result in
    let ds = deadlines pair.old (mode_at (plan_of pair.draft.now.plan) pair.new).tasks in
    let n = length c.tasks.result.now in
    let listed : take n all ≡ ds = ap (λ m. take m all) (size_held c.tasks.ensures) ∙ c.deadlines-deadlines.ensures in
    let place = c.unwrap-place.result in
    let found : c.first_in_order.result ≡ Some place = search rules in
    let law : Leads (by_keys deadline_keys) (take n all) place = search rules in
    let inside : place < n = omega (arith, law.within, length-take n all) in
    sym (get_or-take n all place no_deadline inside) ∙ ap (λ xs. get_or xs place no_deadline) listed ∙ earliest_at ds place (sym found ∙ c.first_in_order.ensures.place ∙ ap (first (by_keys deadline_keys)) listed)
