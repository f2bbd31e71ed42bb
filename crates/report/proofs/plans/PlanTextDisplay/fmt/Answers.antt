-- The first line, the modes and the last line follow one another.
use Rattle.std.proofs.Common.{arith}
use Rattle.std.proofs.lemmas.Grind.{common_steps}
use Rattle.report.specs.PlanText.{legend}
use Rattle.report.proofs.plans.PlanTextDisplay.fmt.Goals as goal

pub returns-clause-writes : goal.returns-clause-writes
unfolding legend
returns-clause-writes g c = grind (arith, common_steps)
