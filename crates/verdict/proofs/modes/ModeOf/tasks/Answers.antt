-- The tables have the mode's tasks, and the draft keeps the limits.
use Rattle.std.proofs.Common.{◌≡◌, map, length, ap, arith}
use Rattle.std.proofs.lemmas.Grind.{common_steps}
use Rattle.std.proofs.lemmas.List.{length-map}
use Rattle.plan.specs.Held.{task_of, plan_of}
use Rattle.plan.specs.Plan.{mode_at}
use Rattle.verdict.proofs.modes.ModeOf.tasks.Goals as goal

pub returns : goal.returns
returns c =
    let mode = c.args.self.now in
    let p = plan_of mode.draft.now.plan in
    let held : map (task_of (length p.modes)) c.tasks.result.now ≡ (mode_at p mode.number).tasks = grind (arith, common_steps) in
    let size = length-map c.tasks.result.now (task_of (length p.modes)) in
    let limits = mode.draft.now.within.5 mode.number mode.there in
    record { held = held; some = omega (arith, ap length held, limits.1); few = omega (arith, ap length held, limits.2) }
