-- The text of a plan file. Assumes nothing.
use Rattle.std.specs.Prelude.{ℕ, List, ◌++◌, Ok, Err, Result}
use Rattle.fields.specs.Faults.{Told}
use Rattle.plan.specs.Plan.{Plan}
use Rattle.fields.specs.FaultText.{fault_text}
use Rattle.report.specs.PlanText.{plan_text}
use Rattle.verdict_report.specs.VerdictText.{verdict_text}

-- a plan, and the verdict on it
abbrev pub judged_text : Plan → List ℕ
judged_text p = plan_text p ++ verdict_text p

-- what a file says and the verdict on it, or why it is refused
abbrev pub file_text : Result Plan Told → List ℕ
file_text (Ok p) = judged_text p
file_text (Err t) = fault_text t
