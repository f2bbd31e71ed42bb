-- The formula is the bound.
use Rattle.std.proofs.Common.{◌≡◌, sym, subst, arith}
use Rattle.std.proofs.lemmas.Grind.{common_steps}
use Rattle.plan.specs.Held.{plan_of}
use Rattle.plan.specs.Plan.{mode_at}
use Rattle.verdict.specs.Bound.{costs, bound_of, LongestOf}
use Rattle.verdict.proofs.Longest.{bound_longest}
use Rattle.verdict.proofs.modes.ModeOf.bound.Goals as goal

pub returns-clause-law : goal.returns-clause-law
returns-clause-law c =
    let mode = c.args.self.now in
    let p = plan_of mode.draft.now.plan in
    let value : c.longest_changeover.result ≡ bound_of p mode.number = grind (arith, common_steps) in
    subst (LongestOf p mode.number) (sym value) (bound_longest p.processors mode.draft.now.within.0 (costs (mode_at p mode.number)))
