-- Each turn adds the deadline of a task.
use Rattle.std.proofs.Common.{◌≡◌, get_or, set, slice_index, refl, sym, ap, subst, ◌∙◌, inl, inr, arith}
use Rattle.std.proofs.lemmas.Bool.{cases_eq}
use Rattle.std.proofs.lemmas.List.{length-set, get_or-set_other, get_or_default}
use Rattle.std.proofs.lemmas.Grind.{get_or-set_at}
use Rattle.plan.specs.Held.{blank_task}
use Rattle.verdict.specs.Enabling.{no_deadline}
use Rattle.verdict.specs.declared.deadlines.Deadline.{Deadline}
use Rattle.verdict.proofs.Earliest.{deadlines_held}
use Rattle.verdict.proofs.pair.PairOf.deadlines.Goals as goal

pub loop-number-init : goal.loop-number-init
loop-number-init c = (refl, λ k none. absurd (omega arith))

pub loop-number-preserved : goal.loop-number-preserved
loop-number-preserved c =
    let turn = c.loop-number in
    let tasks = c.tasks-task-items.result.now in
    let i = c.args.self.now.old in
    let n = turn.number in
    let one : Deadline = record { ticks = c.deadline_of.result; task = n } in
    let ticks = c.deadline_of.ensures ∙ ap (λ t. slice_index t.enabling i) (get_or_default tasks n _ blank_task c.loop-number-test.true) in
    let held : one ≡ record { ticks = slice_index (get_or tasks n blank_task).enabling i; task = n } = λ j. record { ticks = ticks j; task = n } in (
      length-set turn.found n one ∙ turn.invariant.0,
      λ k within. elim (cases_eq k n) [
        | inl here ↦ subst (λ m. get_or (set turn.found n one) m no_deadline ≡ record { ticks = slice_index (get_or tasks m blank_task).enabling i; task = m }) (sym here) (get_or-set_at turn.found n n one no_deadline refl (omega arith) ∙ held)
        | inr differ ↦ get_or-set_other turn.found n k one no_deadline differ ∙ turn.invariant.1 k (omega (arith, within, differ))
      ],
    )

pub returns : goal.returns
returns c =
    let pair = c.args.self.now in
    deadlines_held c.tasks-task-items.ensures pair.old c.loop-number.found pair.pair.0 (omega arith) (λ k within. c.loop-number.invariant.1 k (omega (arith, within)))
