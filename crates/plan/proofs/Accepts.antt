-- What the decoding of a file gives the reader's contract. Assumes nothing.
use Rattle.std.proofs.Common.{◌≡◌, ℕ, true, false, List, Ok, Err, Result, sym, refl, ap, subst}
use Rattle.std.proofs.lemmas.Bool.{false≢true}
use Rattle.plan.specs.declared.tables.Plan.{Plan as PlanTable}
use Rattle.plan.specs.Decode.{decode}
use Rattle.fields.specs.Faults.{Told}
use Rattle.plan.specs.Held.{plan_table}
use Rattle.plan.specs.Law.{tabled, Holds, AcceptsExactly}
use Rattle.plan.specs.Plan.{Plan, Within}
use Rattle.plan.proofs.Exactly.{exactly}
use Rattle.plan.proofs.Exits.{no_case}

-- the plan whose tables were read
pub plan_read : (r : Result Plan Told) (tables : PlanTable) → Ok tables ≡ tabled r → (p : Plan) × (r ≡ Ok p) × (tables ≡ plan_table p)
plan_read (Ok p) tables e = (p, refl, cc)
plan_read (Err t) tables e = no_case (cc)

pub refusal_read : (r : Result Plan Told) (t : Told) → Err t ≡ tabled r → r ≡ Err t
refusal_read (Ok p) t e = no_case (cc)
refusal_read (Err u) t e = let same : t ≡ u = cc in ap Err (sym same)

module _ (bytes : List ℕ) where
  pub read_within : (p : Plan) → decode bytes ≡ Ok p → Within p
  read_within p e = ((exactly bytes).0 p e).0

  pub accepts : (p q : Plan) → decode bytes ≡ Ok p → q ≡ p → AcceptsExactly bytes true q
  accepts p q e same = (λ _. subst (λ x. Holds bytes x) (sym same) ((exactly bytes).0 p e), λ x h. let is = (exactly bytes).1 x h in (refl, cc))

  pub refuses : (t : Told) (q : Plan) → decode bytes ≡ Err t → AcceptsExactly bytes false q
  refuses t q e = (λ no_answer. absurd (false≢true no_answer), λ x h. let is = (exactly bytes).1 x h in no_case (cc))
