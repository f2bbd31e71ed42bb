-- The text so far is that of the modes so far.
use Rattle.std.specs.Fmt.{HasWritten, IsPlainFormatter}
use Rattle.std.specs.List.{range_with_len, flat_map}
use Rattle.plan.specs.Held.{plan_of}
use Rattle.verdict_report.specs.VerdictText.{mode_text}
use Rattle.verdict_report.proofs.sound.write_modes.Given as goal

abbrev pub invariant-loop-mode : goal.invariant-loop-mode
invariant-loop-mode g l =
    IsPlainFormatter l.initial.f → HasWritten g.W.Write.write_str_gives l.initial.f (flat_map (mode_text (plan_of l.plan.draft.plan)) (range_with_len 0 l.mode)) l.f
