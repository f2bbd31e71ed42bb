-- What is written so far: the cells so far, but that of the own mode.
use Rattle.std.proofs.Common.{◌≡◌, ◌-◌, ◌^◌, ℕ, List, take, Some}
use Rattle.std.specs.Fmt.{HasWritten, IsPlainFormatter, format_spec}
use Rattle.std.specs.List.{remove, flat_map}
use Rattle.report.proofs.modes.ModeText.finish_row.Given as goal

abbrev pub invariant-loop-old : goal.invariant-loop-old
invariant-loop-old g l =
    (text : g.row.T.Denot → List ℕ)
    → ((x : g.row.T.Denot) → g.T.Display.styled_output x (format_spec 32 3 0 6 (2 ^ 64 - 1)) ≡ Some (text x))
    → IsPlainFormatter l.initial.f
    → HasWritten g.W.Write.write_str_gives l.initial.f (flat_map text (remove (take l.old l.cell-items) l.self.number)) l.f
