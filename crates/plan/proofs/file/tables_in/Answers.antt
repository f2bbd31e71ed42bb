use Rattle.std.proofs.Common.{rules}
use Rattle.plan.specs.Decode.{decode}
use Rattle.plan.proofs.Front.{front_seen}
use Rattle.plan.proofs.file.tables_in.Goals as goal

pub returns-in_err-plan : goal.returns-in_err-plan
unfolding decode
returns-in_err-plan c = let same = front_seen c.args.bytes.now in search rules

pub returns-in-Some : goal.returns-in-Some
unfolding decode
returns-in-Some c = let same = front_seen c.args.bytes.now in search rules

pub returns-in-None : goal.returns-in-None
unfolding decode
returns-in-None c = let same = front_seen c.args.bytes.now in search rules
