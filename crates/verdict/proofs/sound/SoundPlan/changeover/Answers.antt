-- A pair of a sound plan passes, so its bound is at most the least deadline too.
use Rattle.std.proofs.Common.{◌≡◌, ap, arith, rules, tests}
use Rattle.plan.specs.Held.{plan_of}
use Rattle.verdict.specs.Sound.{Pair}
use Rattle.verdict.specs.Verdict.{judgement}
use Rattle.verdict.proofs.Judge.{meets_earliest}
use Rattle.verdict.proofs.sound.SoundPlan.changeover.Goals as goal

pub returns-clause-sound : goal.returns-clause-sound
returns-clause-sound c =
    let plan = c.args.self.now in
    let p = plan_of plan.draft.plan in
    let pair : Pair p c.args.old c.args.new = search (rules, tests) in
    let meets = meets_earliest p plan.within plan.sound c.args.old c.args.new pair in
    let is : c.judgement.result ≡ judgement p c.args.old c.args.new = search rules in
    omega (arith, meets, ap (λ r. r.0) is, ap (λ r. r.1) is)
