-- The row has the cells of the task's numbers.
use Rattle.std.proofs.Common.{decimal, ap, Some, refl, arith}
use Rattle.std.proofs.lemmas.Grind.{common_steps}
use Rattle.report.specs.PlanText.{cell, others}
use Rattle.report.proofs.Cells.{number_cell}
use Rattle.report.proofs.modes.ModeText.row.Goals as goal

pub returns : goal.returns
unfolding others
returns g c plain ok =
    let times = c.in_ok-write_times.ensures plain refl in
    let enabling = c.finish_row.ensures (λ n. cell (decimal n)) (λ n. ap Some (number_cell n)) times.plain ok in
    grind (arith, common_steps)
