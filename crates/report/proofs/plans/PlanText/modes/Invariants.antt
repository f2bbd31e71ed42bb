-- What is written so far: the modes so far.
use Rattle.std.proofs.Common.{map, min, take}
use Rattle.std.specs.Fmt.{HasWritten, IsPlainFormatter}
use Rattle.plan.specs.Held.{mode_of}
use Rattle.report.specs.PlanText.{mode_text, each}
use Rattle.report.proofs.plans.PlanText.modes.Given as goal

abbrev pub invariant-loop-number : goal.invariant-loop-number
invariant-loop-number g l =
    IsPlainFormatter l.initial.f
    → HasWritten g.W.Write.write_str_gives l.initial.f (each (mode_text (min l.count 8)) 0 (map (mode_of l.count) (take l.number l.mode-items))) l.f
