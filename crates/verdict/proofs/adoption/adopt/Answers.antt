-- The law of the verdict holds of what was found.
use Rattle.std.proofs.Common.{rules, ◌≡◌, None}
use Rattle.plan.specs.Held.{plan_of}
use Rattle.verdict.specs.Answers.{refusal}
use Rattle.verdict.specs.Verdict.{verdict}
use Rattle.verdict.proofs.Judge.{judged_as}
use Rattle.verdict.proofs.adoption.adopt.Goals as goal

pub returns-in_err-check_pairs-clause-law : goal.returns-in_err-check_pairs-clause-law
returns-in_err-check_pairs-clause-law c =
    let told : refusal c.from_residual.result ≡ verdict (plan_of c.args.draft.plan) = search rules in
    judged_as c.args.draft _ told

pub new-requires : goal.new-requires
new-requires c = judged_as c.args.draft None c.in_ok-check_pairs.ensures
