use Rattle.std.proofs.Common.{rules, ◌∙◌}
use Rattle.fields.specs.Readers.{converted}
use Rattle.plan.specs.File.{mode_layout}
use Rattle.plan.specs.Held.{blank_mode, mode_table}
use Rattle.plan.proofs.Loops.{table_converted}
use Rattle.plan.proofs.reader.read_modes.Goals as goal

pub returns : goal.returns
returns c =
    let item = mode_layout c.args.modes.count in
    let told = c.read_table.ensures (λ i bs at. converted mode_table ((item i).read bs at)) (λ p q i r e. search rules) in
    record { value = told.value ∙ table_converted mode_table 8 blank_mode item _ _ _; bytes = told.bytes }
