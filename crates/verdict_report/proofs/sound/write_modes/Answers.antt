-- The part of a mode is its line, with the bound that the plan answers, and the changeovers from it.
use Rattle.std.proofs.Common.{◌≡◌, true, arith, refl}
use Rattle.std.proofs.Output.{has_written_append}
use Rattle.plan.specs.Held.{plan_of}
use Rattle.verdict.specs.Bound.{bound_of}
use Rattle.verdict_report.specs.VerdictText.{mode_text}
use Rattle.verdict_report.proofs.Counts.{part_written}
use Rattle.verdict_report.proofs.sound.write_modes.Goals as goal

pub loop-mode-preserved : goal.loop-mode-preserved
loop-mode-preserved g c plain =
    let p = plan_of c.args.plan.now.draft.plan in
    let bound : c.unwrap-bound.result ≡ bound_of p c.loop-mode.mode = grind arith in
    let so_far = c.loop-mode.invariant plain in
    let line = c.in_ok-write_mode.ensures so_far.plain (refl {a = true}) in
    let pairs = c.in_ok-write_pairs.ensures line.plain (refl {a = true}) in
    part_written _ _ _ _ (mode_text p) _ so_far (rw (← bound) (has_written_append _ _ _ _ _ _ line pairs))
