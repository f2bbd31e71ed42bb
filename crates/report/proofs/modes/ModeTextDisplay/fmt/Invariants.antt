-- What is written so far: the rows of the tasks so far.
use Rattle.std.proofs.Common.{map, take}
use Rattle.std.specs.Fmt.{HasWritten, IsPlainFormatter}
use Rattle.plan.specs.Held.{task_of}
use Rattle.report.specs.PlanText.{task_row, each}
use Rattle.report.proofs.modes.ModeTextDisplay.fmt.Given as goal

abbrev pub invariant-loop-number : goal.invariant-loop-number
invariant-loop-number g l =
    IsPlainFormatter l.initial.f
    → HasWritten g.W.Write.write_str_gives l.initial.f (each (task_row l.self.number) 0 (map (task_of l.self.count) (take l.number l.task-items))) l.f
