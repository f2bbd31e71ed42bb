-- The row has the cells of the names.
use Rattle.std.proofs.Common.{ℕ, ◌-◌, ◌^◌, List, Bor, refl}
use Rattle.std.proofs.Math.Utf8.{encode}
use Rattle.std.proofs.Output.{has_written_append}
use Rattle.std.specs.Fmt.{format_spec, styled_text, padded, char_count, take_chars, digits}
use Rattle.report.specs.PlanText.{table_head}
use Rattle.report.proofs.Cells.{named_cells, head_cells}
use Rattle.report.proofs.modes.ModeText.head.Goals as goal

abbrev in_cell : Bor (List ℕ) → List ℕ
in_cell t = styled_text (format_spec 32 3 0 6 (2 ^ 64 - 1)) t.now

pub returns : goal.returns
unfolding table_head padded char_count take_chars digits encode
returns g c plain ok =
    let task = c.in_ok-write_str.ensures.writes plain refl in
    let rest = simp (named_cells in_cell) at (c.finish_row.ensures in_cell (λ t. refl) task.plain ok) in
    has_written_append _ _ _ _ _ _ task (rw (head_cells c.args.self.now.count c.args.self.now.number) at rest)
