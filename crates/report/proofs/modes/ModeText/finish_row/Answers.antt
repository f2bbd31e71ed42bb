-- Each turn adds a cell, but that of the own mode.
use Rattle.std.proofs.Common.{[], arith, rules, refl}
use Rattle.std.proofs.Output.{has_written_append, has_written_of_eq, has_written_to_eq}
use Rattle.std.proofs.lemmas.Grind.{common_steps, take_at_read}
use Rattle.std.proofs.lemmas.List.{flat_map_more}
use Rattle.report.proofs.modes.ModeText.finish_row.Goals as goal
use Rattle.report.proofs.modes.ModeText.finish_row.Goals.{then-old-self+in_ok-write, else-old-self}

pub loop-old-init : goal.loop-old-init
loop-old-init g c text shows plain = has_written_of_eq _ _ [] _ _ (grind (arith, common_steps)) (search rules)

pub loop-old-preserved : goal.loop-old-preserved
loop-old-preserved g c text shows plain =
    let so_far = c.loop-old.invariant text shows plain in
    let x = c.cell-item.result in
    let more = take_at_read c.first-cell-items.result.now c.loop-old.old x c.loop-old-test.true in
    elim c.if-old-self.branch [
      | then-old-self+in_ok-write w ↦
          let cell = (rw (w.laid_out.ensures, shows x) at w.in_ok-write.ensures.writes) so_far.plain refl in
          has_written_to_eq _ _ _ _ _ w.f-is (has_written_of_eq _ _ _ _ _ (grind (arith, common_steps, flat_map_more, more, w.if-old-self.true, c.cell-item.is)) (has_written_append _ _ _ _ _ _ so_far cell))
      | else-old-self w ↦ grind (arith, common_steps)
    ]

pub returns : goal.returns
returns g c text shows plain ok =
    let cells = c.loop-old.invariant text shows plain in
    let end = c.writeln.ensures.writes cells.plain ok in
    grind (arith, common_steps)
