-- The layout of a plan file is lawful for the plans within the limits. Assumes nothing.
use Rattle.std.proofs.Common.{◌≡◌, ℕ, ◌+◌, ◌-◌, ◌<◌, ◌≤◌, eqb, List, length, get_or, Some, None, sym, refl, subst, ⊎_elim, arith, lit<}
use Rattle.std.proofs.lemmas.List.{get_or_past}
use Rattle.std.proofs.lemmas.Bool.{eqb-true, eqb-false, cases_lt, cond_both}
use Rattle.fields.specs.declared.fault.Field.TheVariants.{Processors, Modes, Start, Rule, Tasks, Cost, Deadline, Separation, Enabling}
use Rattle.fields.specs.Layout.{field, whole, each}
use Rattle.plan.specs.Plan.{Mode, no_task, no_mode, TaskWithin, ModeWithin, Within}
use Rattle.plan.specs.File.{enabling_layout, task_layout, mode_layout, plan_layout}
use Rattle.plan.proofs.Lawful.{Lawful, lawful_like, field_lawful, whole_lawful, part_lawful, each_lawful}

-- the limits of the enabling deadline for old mode i of a task of mode j
abbrev EnablingWithin : ℕ → ℕ → ℕ → Type 0
EnablingWithin j i e = (i ≡ j → e ≡ 0) × (e ≤ 65535)

enabling_lawful : (j k i : ℕ) → Lawful (enabling_layout j k i) (EnablingWithin j i)
unfolding enabling_layout
enabling_lawful j k i =
    cond_both (eqb i j) (whole 0) (field Enabling (Some j) (Some k) 0 65535) (λ l. Lawful l (EnablingWithin j i))
    (λ own. whole_lawful 0 _ (λ _. refl, omega arith) (λ e p. p.0 (eqb-true i j own)))
    (λ old. lawful_like _ _ (λ e p. (λ own. absurd (eqb-false i j old own), p.1)) (λ e p. (omega arith, p.1)) (field_lawful Enabling (Some j) (Some k) 0 65535 (lit< tt)))

-- what holds of each element, and of 0, holds at each place
at_each_place : (P : ℕ → ℕ → Type 0) (xs : List ℕ) → ((i : ℕ) → P i 0) → ((i : ℕ) → i < length xs → P i (get_or xs i 0)) → (i : ℕ) → P i (get_or xs i 0)
at_each_place P xs past inside i = ⊎_elim (inside i) (λ h. rw (get_or_past xs i 0 h) (past i)) (cases_lt i (length xs))

enablings_lawful : (n j k : ℕ) → Lawful (each n (enabling_layout j k)) (λ es. (length es ≡ n) × (get_or es j 0 ≡ 0) × ((i : ℕ) → get_or es i 0 ≤ 65535))
enablings_lawful n j k =
    lawful_like _ _
    (λ es p. let all = at_each_place (EnablingWithin j) es (λ i. (λ own. refl, omega arith)) p.1 in (p.0, (all j).0 refl, λ i. (all i).1))
    (λ es p. (p.0, λ i h. (λ own. rw own p.1, p.2 i)))
    (each_lawful (EnablingWithin j) (enabling_lawful j k) n 0)

task_lawful : (n j k : ℕ) → Lawful (task_layout n j k) (TaskWithin n j)
unfolding task_layout
task_lawful n j k =
    part_lawful (λ t. t.cost) _ (TaskWithin n j) (field_lawful Cost (Some j) (Some k) 1 4095 (lit< tt)) (λ t w. (w.0, w.1)) (λ c in_c.
    part_lawful (λ t. t.deadline) _ _ (field_lawful Deadline (Some j) (Some k) c 65535 (lit< tt)) (λ t w. (omega arith, omega arith)) (λ d in_d.
    part_lawful (λ t. t.separation) _ _ (field_lawful Separation (Some j) (Some k) d 65535 (lit< tt)) (λ t w. (omega arith, omega arith)) (λ s in_s.
    part_lawful (λ t. t.enabling) _ _ (enablings_lawful n j k) (λ t w. let all = w.0.0.0 in (all.5, all.6, all.7)) (λ es in_es.
    whole_lawful (record { cost = c; deadline = d; separation = s; enabling = es }) _
    (((((in_c.0, in_c.1, in_d.0, in_s.0, in_s.1, in_es.0, in_es.1, in_es.2), refl), refl), refl), refl)
    (λ t w i. record { cost = w.0.0.0.1 i; deadline = w.0.0.1 i; separation = w.0.1 i; enabling = w.1 i })))))

mode_lawful : (n j : ℕ) → Lawful (mode_layout n j) (ModeWithin n j)
unfolding mode_layout
mode_lawful n j =
    part_lawful (λ m. m.rule) _ (ModeWithin n j) (field_lawful Rule (Some j) None 0 2 (lit< tt)) (λ m w. (omega arith, w.0)) (λ r in_r.
    part_lawful (λ m. length m.tasks - 1) _ _ (field_lawful Tasks (Some j) None 0 15 (lit< tt)) (λ m w. (omega arith, omega arith)) (λ last in_last.
    part_lawful (λ m. m.tasks) _ _ (each_lawful (λ k. TaskWithin n j) (task_lawful n j) (last + 1) no_task) (λ m w. (omega arith, w.0.0.3)) (λ ts in_ts.
    whole_lawful (record { rule = r; tasks = ts }) _
    ((((in_r.1, omega arith, omega arith, in_ts.1), refl), omega arith), refl)
    (λ m w i. record { rule = w.0.0.1 i; tasks = w.1 i }))))

-- the limits of the modes of a plan of n modes
abbrev ModesWithin : ℕ → List Mode → Type 0
ModesWithin n ms = (j : ℕ) → j < length ms → ModeWithin n j (get_or ms j no_mode)

pub plan_lawful : Lawful plan_layout Within
unfolding plan_layout
plan_lawful =
    part_lawful (λ p. p.processors - 1) _ Within (field_lawful Processors None None 0 7 (lit< tt)) (λ p w. (omega arith, omega arith)) (λ m in_m.
    part_lawful (λ p. length p.modes - 1) _ _ (field_lawful Modes None None 0 7 (lit< tt)) (λ p w. (omega arith, omega arith)) (λ last in_last.
    part_lawful (λ p. p.start) _ _ (field_lawful Start None None 0 last (omega arith)) (λ p w. (omega arith, omega arith)) (λ s in_s.
    part_lawful (λ p. p.modes) _ _ (each_lawful (ModeWithin (last + 1)) (mode_lawful (last + 1)) (last + 1) no_mode)
    (λ p w. let count : length p.modes ≡ last + 1 = omega arith in (count, subst (λ n. ModesWithin n p.modes) count w.0.0.0.5)) (λ ms in_ms.
    whole_lawful (record { processors = m + 1; start = s; modes = ms }) _
    (((((omega arith, omega arith, omega arith, omega arith, omega arith, subst (λ n. ModesWithin n ms) (sym in_ms.0) in_ms.1), omega arith), omega arith), refl), refl)
    (λ p w. let some : p.processors ≡ m + 1 = omega arith in λ i. record { processors = some i; start = w.0.1 i; modes = w.1 i })))))
