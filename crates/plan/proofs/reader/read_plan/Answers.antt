use Rattle.std.proofs.Common.{rules}
use Rattle.fields.specs.Layout.{part, whole}
use Rattle.plan.specs.File.{plan_layout, mode_layout}
use Rattle.plan.specs.Held.{blank_mode, mode_table}
use Rattle.plan.proofs.Loops.{each_read}
use Rattle.plan.proofs.reader.read_plan.Goals as goal

pub returns : goal.returns
unfolding plan_layout part whole
returns c =
    let told = c.in_ok-modes.ensures in
    let listed = each_read mode_table 8 blank_mode (mode_layout c.up_to-all.result.count) c.up_to-all.result.count _ _ c.in_ok-modes.modes c.read_modes.new.bits.at told.value in
    search rules
