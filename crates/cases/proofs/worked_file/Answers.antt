-- The table is computed.
use Rattle.cases.proofs.Computed.{facts}
use Rattle.cases.proofs.worked_file.Goals as goal

pub returns-clause-facts : goal.returns-clause-facts
returns-clause-facts c = facts
