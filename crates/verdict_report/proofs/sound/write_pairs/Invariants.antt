-- The text so far is that of the changeovers to the modes so far.
use Rattle.std.specs.Fmt.{HasWritten, IsPlainFormatter}
use Rattle.std.specs.List.{range_with_len, flat_map}
use Rattle.plan.specs.Held.{plan_of}
use Rattle.verdict_report.specs.VerdictText.{changeover_text}
use Rattle.verdict_report.proofs.sound.write_pairs.Given as goal

abbrev pub invariant-loop-new : goal.invariant-loop-new
invariant-loop-new g l =
    IsPlainFormatter l.initial.f → HasWritten g.W.Write.write_str_gives l.initial.f (flat_map (changeover_text (plan_of l.plan.draft.plan) l.old) (range_with_len 0 l.new)) l.f
