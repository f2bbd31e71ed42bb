use Rattle.std.proofs.Common.{rules, ◌+◌}
use Rattle.fields.specs.Layout.{part, whole}
use Rattle.plan.specs.File.{mode_layout, task_layout}
use Rattle.plan.specs.Held.{blank_task, task_table}
use Rattle.plan.proofs.Loops.{each_read}
use Rattle.plan.proofs.reader.read_mode.Goals as goal

pub returns : goal.returns
unfolding mode_layout part whole
returns c =
    let told = c.in_ok-tasks.ensures in
    let listed = each_read task_table 16 blank_task (task_layout c.args.modes.count c.args.mode) (c.in_ok-last.last + 1) _ _ c.in_ok-tasks.tasks c.read_tasks.new.bits.at told.value in
    search rules
