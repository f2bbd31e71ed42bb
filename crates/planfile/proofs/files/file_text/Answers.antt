-- An accepted file holds the draft's plan, so it is decoded as that plan.
use Rattle.std.proofs.Common.{sym, refl, ap, ◌∙◌}
use Rattle.std.proofs.lemmas.Result.{IfOk-weaker}
use Rattle.plan.proofs.Exactly.{exactly}
use Rattle.planfile.specs.FileText.{file_text}
use Rattle.planfile.proofs.files.file_text.Goals as goal

pub returns-in-Ok : goal.returns-in-Ok
returns-in-Ok c =
    let as_plan = (exactly c.args.bytes.now).1 _ (c.in-Ok.ensures.law.0 refl) in
    IfOk-weaker c.judged_text.result _ _ (λ s e. e ∙ sym (ap file_text as_plan)) c.judged_text.ensures
