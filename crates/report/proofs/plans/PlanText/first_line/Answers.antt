-- The format writes the pieces of the line, and a plan has as many modes as its table counts.
use Rattle.std.proofs.Common.{take}
use Rattle.std.proofs.lemmas.List.{length-map}
use Rattle.plan.specs.Held.{mode_of}
use Rattle.report.specs.PlanText.{plan_line}
use Rattle.report.proofs.plans.PlanText.first_line.Goals as goal

pub returns : goal.returns
unfolding plan_line
returns g c plain ok =
    let p = c.args.self.now.0.now in
    let held = length-map (take p.count p.modes) (mode_of p.count) in
    rw (held, ← c.modes.ensures.modes) (c.writeln.ensures.writes plain ok)
