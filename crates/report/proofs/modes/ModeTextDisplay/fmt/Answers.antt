-- Each turn adds a row.
use Rattle.std.proofs.Common.{rules, arith, refl}
use Rattle.std.proofs.Output.{has_written_append, has_written_of_eq}
use Rattle.std.proofs.lemmas.Grind.{common_steps}
use Rattle.plan.specs.Held.{task_of}
use Rattle.report.specs.PlanText.{task_row, mode_line, each}
use Rattle.report.proofs.Lists.{each_more}
use Rattle.report.proofs.modes.ModeTextDisplay.fmt.Goals as goal

pub loop-number-init : goal.loop-number-init
unfolding each
loop-number-init g c = search rules

pub loop-number-preserved : goal.loop-number-preserved
loop-number-preserved g c plain =
    let so_far = c.loop-number.invariant plain in
    has_written_of_eq _ _ _ _ _ (each_more (task_row c.args.self.now.number) (task_of c.args.self.now.count) _ _ _ c.loop-number-test.true)
    (has_written_append _ _ _ _ _ _ so_far (c.in_ok-row.ensures so_far.plain refl))

pub returns-clause-writes : goal.returns-clause-writes
unfolding mode_line
returns-clause-writes g c plain ok =
    let line = c.in_ok-writeln.ensures.writes plain refl in
    let head = c.in_ok-head.ensures line.plain refl in
    let rows = c.loop-number.invariant head.plain in
    grind (arith, common_steps)
