use Rattle.std.proofs.Common.{rules}
use Rattle.plan.specs.Decode.{decode}
use Rattle.plan.specs.Plan.{Plan}
use Rattle.plan.proofs.Accepts.{plan_read, refusal_read, read_within, accepts, refuses}
use Rattle.plan.proofs.Front.{front}
use Rattle.plan.proofs.TableOf.{plan_back}
use Rattle.plan.proofs.file.draft_in.Goals as goal

pub returns-in_err-plan : goal.returns-in_err-plan
returns-in_err-plan c =
    let bytes = c.args.bytes.now in
    let told = refusal_read (decode bytes) _ c.in_err-plan.ensures in
    let refused = λ (plan : Plan). refuses bytes _ plan told in
    let same = front bytes in
    search rules

pub new-requires : goal.new-requires
new-requires c =
    let bytes = c.args.bytes.now in
    let p = plan_read _ _ c.in_ok-plan.ensures in
    let back = plan_back p.0 (read_within bytes p.0 p.1) in
    let within = read_within bytes p.0 p.1 in
    search rules

pub returns : goal.returns
returns c =
    let bytes = c.args.bytes.now in
    let p = plan_read _ _ c.in_ok-plan.ensures in
    let back = plan_back p.0 (read_within bytes p.0 p.1) in
    let accepted = λ (q : Plan). accepts bytes p.0 q p.1 in
    let same = front bytes in
    search rules
