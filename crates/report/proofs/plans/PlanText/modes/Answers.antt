-- Each turn adds a mode.
use Rattle.std.proofs.Common.{◌≡◌, min, length, rules, refl}
use Rattle.std.proofs.Output.{has_written_append, has_written_of_eq}
use Rattle.std.proofs.lemmas.List.{take_all, length-take, length-map}
use Rattle.plan.specs.Held.{mode_of}
use Rattle.report.specs.PlanText.{mode_text, each}
use Rattle.report.proofs.Lists.{each_more}
use Rattle.report.proofs.plans.PlanText.modes.Goals as goal

pub loop-number-init : goal.loop-number-init
unfolding each
loop-number-init g c = search rules

pub loop-number-preserved : goal.loop-number-preserved
loop-number-preserved g c plain =
    let count = c.from-count.result in
    let so_far = c.loop-number.invariant plain in
    let mode = c.in_ok-write.ensures.writes so_far.plain refl in
    has_written_of_eq _ _ _ _ _ (each_more (mode_text (min count 8)) (mode_of count) _ _ _ c.loop-number-test.true)
    (has_written_append _ _ _ _ _ _ so_far mode)

pub returns : goal.returns
returns g c plain ok =
    let p = c.args.self.now.0.now in
    let size : length c.modes-mode-items.result.now ≡ min c.from-count.result 8 = search (rules, length-take) in
    let held = length-map c.modes-mode-items.result.now (mode_of p.count) in
    let all = take_all c.loop-number.number c.modes-mode-items.result.now c.loop-number-test.false in
    let modes = c.loop-number.invariant plain in
    search (rules)
