-- The fields of a plan end by bit 20,025, whatever a file holds. Assumes nothing.
use Rattle.std.proofs.Common.{ℕ, ◌+◌, ◌-◌, ◌*◌, ◌<◌, ◌≤◌, cond, eqb, ltb, length, Some, None, arith}
use Rattle.std.proofs.lemmas.Bool.{cond_both}
use Rattle.std.proofs.lemmas.Bool.Decides.{nat_tests}
use Rattle.fields.specs.declared.fault.Field.TheVariants.{Processors, Modes, Start, Rule, Tasks, Cost, Deadline, Separation, Enabling}
use Rattle.fields.specs.Layout.{field, whole}
use Rattle.plan.specs.File.{enabling_layout, task_layout, mode_layout, plan_layout}
use Rattle.plan.proofs.Reach.{Reach, Any, reach_longer, field_reach, whole_reach, part_reach, each_reach}

-- the number of modes before i, other than j
abbrev others : ℕ → ℕ → ℕ
others j i = cond (ltb j i) (i - 1) i

enabling_reach : {cut : ℕ} (from j k i : ℕ) → from + 16 * others j (i + 1) ≤ cut → Reach cut (enabling_layout j k i) (λ e. e ≤ 65535) (from + 16 * others j i) (from + 16 * others j (i + 1))
unfolding enabling_layout
enabling_reach {cut} from j k i h =
    cond_both (eqb i j) (whole 0) (field Enabling (Some j) (Some k) 0 65535) (λ l. Reach cut l (λ e. e ≤ 65535) (from + 16 * others j i) (from + 16 * others j (i + 1)))
    (λ own. whole_reach 0 (omega arith) (grind (arith, nat_tests)))
    (λ old. reach_longer (grind (arith, nat_tests)) (field_reach Enabling (Some j) (Some k) 0 65535 (grind (arith, nat_tests))))

module _ {cut n j : ℕ} (few : n ≤ 8) (is_mode : j < n) where
  task_reach : {from to : ℕ} (k : ℕ) → from + 156 ≤ to → to ≤ cut → Reach cut (task_layout n j k) Any from to
  unfolding task_layout
  task_reach {from} k fits before =
      part_reach (λ t. t.cost) (field_reach Cost (Some j) (Some k) 1 4095 (omega arith)) (λ c _.
      part_reach (λ t. t.deadline) (field_reach Deadline (Some j) (Some k) c 65535 (omega arith)) (λ d _.
      part_reach (λ t. t.separation) (field_reach Separation (Some j) (Some k) d 65535 (omega arith)) (λ s _.
      part_reach (λ t. t.enabling) (each_reach n (λ i. from + 44 + 16 * others j i) (λ i old. enabling_reach (from + 44) j k i (grind (arith, nat_tests))) (grind (arith, nat_tests))) (λ es _.
      whole_reach (record { cost = c; deadline = d; separation = s; enabling = es }) tt (grind (arith, nat_tests))))))

  mode_reach : {from to : ℕ} → from + 2502 ≤ to → to ≤ cut → Reach cut (mode_layout n j) Any from to
  unfolding mode_layout
  mode_reach {from} fits before =
      part_reach (λ m. m.rule) (field_reach Rule (Some j) None 0 2 (omega arith)) (λ r _.
      part_reach (λ m. length m.tasks - 1) (field_reach Tasks (Some j) None 0 15 (omega arith)) (λ last most.
      part_reach (λ m. m.tasks) (each_reach (last + 1) (λ k. from + 6 + 156 * k) (λ k in_mode. task_reach k (omega arith) (omega arith)) (omega arith)) (λ ts _.
      whole_reach (record { rule = r; tasks = ts }) tt (omega arith))))

pub plan_reach : {cut : ℕ} → 20025 ≤ cut → Reach cut plan_layout Any 0 20025
unfolding plan_layout
plan_reach before =
    part_reach (λ p. p.processors - 1) (field_reach Processors None None 0 7 (omega arith)) (λ m _.
    part_reach (λ p. length p.modes - 1) (field_reach Modes None None 0 7 (omega arith)) (λ last most.
    part_reach (λ p. p.start) (field_reach Start None None 0 last (omega arith)) (λ s _.
    part_reach (λ p. p.modes) (each_reach (last + 1) (λ j. 9 + 2502 * j) (λ j is_mode. mode_reach (omega arith) is_mode (omega arith) (omega arith)) (omega arith)) (λ ms _.
    whole_reach (record { processors = m + 1; start = s; modes = ms }) tt (omega arith)))))
