use Rattle.std.proofs.Common.{◌≡◌, ℕ, List, Result}
use Rattle.std.specs.Borrow.{MutBor}
use Rattle.fields.specs.Bits.{bits}
use Rattle.fields.specs.Layout.{Reading}
use Rattle.fields.specs.declared.fault.Fault.{Fault}
use Rattle.fields.specs.Readers.{Answers}
use Rattle.plan.proofs.Loops.{Sofar}
use Rattle.plan.proofs.reader.read_table.Given as goal

abbrev pub invariant-loop-number : goal.invariant-loop-number
invariant-loop-number g l =
    (reading : ℕ → List ℕ → ℕ → Reading g.row.T.Denot)
    → ((p q : MutBor _) (i : ℕ) (r : Result g.row.T.Denot Fault) → goal.F-post g l.fn.read p i r q → Answers (reading i) p.now r q.now)
    → Sofar g.row.N l.fn.blank reading l.fn.count (bits l.initial.bits.bytes.now) l.initial.bits.at l.number l.table l.bits.at × (l.bits.bytes.now ≡ l.initial.bits.bytes.now)
