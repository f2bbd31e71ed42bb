-- The chain takes the largest of the tasks' times.
use Rattle.std.proofs.Common.{max, sym, ap, ◌∙◌, unwrap_or, rules, tests}
use Rattle.std.proofs.lemmas.Iterator.{YieldsList-from_slice, YieldsList-from_map}
use Rattle.std.proofs.lemmas.Iterator.Consumers.{reduce_from_yields_List}
use Rattle.std.proofs.lemmas.List.Folds.{max_of_map, fold-map}
use Rattle.verdict.specs.Bound.{largest}
use Rattle.verdict.proofs.Works.{costs_held}
use Rattle.verdict.proofs.modes.ModeOf.largest_cost.Goals as goal

pub returns : goal.returns
returns c =
    let tasks = c.tasks.result.now in
    c.unwrap_or.ensures
    ∙ ap (λ o. unwrap_or o 0) (reduce_from_yields_List _ c.map.result _ c.max.ensures.ran (YieldsList-from_map _ (λ t. t.cost) (YieldsList-from_slice tasks cc) c.map.ensures.closure (λ x b q k. search (rules, tests))))
    ∙ max_of_map (λ t. t.cost) tasks
    ∙ sym (fold-map max (λ t. t.cost) 0 tasks)
    ∙ ap largest (costs_held c.tasks.ensures)
