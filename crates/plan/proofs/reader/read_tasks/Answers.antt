use Rattle.std.proofs.Common.{rules, ◌∙◌}
use Rattle.fields.specs.Readers.{converted}
use Rattle.plan.specs.File.{task_layout}
use Rattle.plan.specs.Held.{blank_task, task_table}
use Rattle.plan.proofs.Loops.{table_converted}
use Rattle.plan.proofs.reader.read_tasks.Goals as goal

pub returns : goal.returns
returns c =
    let item = task_layout c.args.modes.count c.args.mode in
    let told = c.read_table.ensures (λ i bs at. converted task_table ((item i).read bs at)) (λ p q i r e. search rules) in
    record { value = told.value ∙ table_converted task_table 16 blank_task item _ _ _; bytes = told.bytes }
