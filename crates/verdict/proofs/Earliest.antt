-- The enabling deadlines of tasks in tables, and the earliest of several. Assumes nothing.
use Rattle.std.specs.Prelude.{◌≡◌, ℕ, ◌<◌, ◌≤◌, true, List, length, get_or, take, Some, None, Option, ◌≢◌, slice_index, slice_index_or, refl}
use Rattle.std.proofs.Common.{inl, inr, sym, ap₂, ◌∙◌, arith, zero-add}
use Rattle.std.proofs.Math.Path.{ap, subst}
use Rattle.std.proofs.lemmas.List.FromFn.{length-map-range_with_len, get_or-map-range_with_len, fill_by_all}
use Rattle.std.proofs.lemmas.List.{length-map, length-take, get_or-map, get_or-take}
use Rattle.std.specs.Option.{unwrap_or}
use Rattle.std.proofs.lemmas.Bool.{cases_eq}
use Rattle.std.proofs.lemmas.Bool.Decides.{nat_tests}
use Rattle.ordering.proofs.Firsts.{goes_first}
use Rattle.ordering.specs.First.{first, Leads, GoesFirst}
use Rattle.ordering.specs.Keys.{by_keys}
use Rattle.plan.specs.declared.tables.Task.{Task as TaskTable}
use Rattle.plan.specs.Held.{blank_task, task_of}
use Rattle.plan.specs.Plan.{Task, Plan, no_task, mode_at}
use Rattle.verdict.specs.declared.deadlines.Deadline.{Deadline}
use Rattle.verdict.specs.EarlierFirst.{deadlines_strict}
use Rattle.verdict.specs.Tables.{HoldTasks}
use Rattle.verdict.specs.Enabling.{tasks_in, enabling, deadline_of, task_deadline, deadlines, deadline_keys, no_deadline, earliest_of}

module _ {p : Plan} {j : ℕ} {tables : List TaskTable} (tasks : HoldTasks p j tables) where
  pub size_held : length tables ≡ tasks_in p j
  size_held = sym (length-map tables (task_of (length p.modes))) ∙ ap length tasks.held

  -- the tables of the tasks hold their enabling deadlines
  deadline_held : (i k : ℕ) → i < length p.modes → k < length tables → slice_index (get_or tables k blank_task).enabling i ≡ enabling p i j k
  deadline_held i k is_mode within =
      let n = length p.modes in
      sym (get_or-take n (get_or tables k blank_task).enabling i 0 is_mode)
      ∙ ap (λ t. slice_index t.enabling i) (sym (get_or-map (task_of n) tables k blank_task no_task within))
      ∙ ap (λ ts. deadline_of i ts k) tasks.held

  -- the first places have the deadlines of the tasks, where each has the deadline of its task
  pub deadlines_held : (i : ℕ) (found : List Deadline) → i < length p.modes → length tables ≤ length found → ((k : ℕ) → k < length tables → get_or found k no_deadline ≡ record { ticks = slice_index (get_or tables k blank_task).enabling i; task = k }) → take (tasks_in p j) found ≡ deadlines i (mode_at p j).tasks
  deadlines_held i found is_mode room each =
      let n = tasks_in p j in
      fill_by_all (task_deadline i (mode_at p j).tasks) (take n found) n no_deadline (length-take n found ∙ omega (arith, size_held)) (λ k within.
      let inside : k < length tables = omega (arith, size_held, within) in
      let at = get_or-take n found k no_deadline within ∙ each k inside in
      let ticks = ap (λ d. d.ticks) at ∙ deadline_held i k is_mode inside in
      let task = ap (λ d. d.task) at in
      λ l. record { ticks = ticks l; task = task l })

-- the earliest of several stands at their first place
pub earliest_at : (ds : List Deadline) (place : ℕ) → Some place ≡ first (by_keys deadline_keys) ds → slice_index_or ds place no_deadline ≡ earliest_of ds
unfolding earliest_of
earliest_at ds place found = ap (λ o. get_or ds (unwrap_or o 0) no_deadline) found

-- the least enabling deadline of some tasks when mode i is left, with the lowest task that has it
pub record Least (i : ℕ) (ts : List Task) (e : Deadline) : Type 0 where
  pub task : e.task < length ts
  pub ticks : e.ticks ≡ deadline_of i ts e.task
  pub least : (k : ℕ) → k < length ts → e.ticks ≤ deadline_of i ts k
  pub lowest : (k : ℕ) → k < e.task → e.ticks < deadline_of i ts k

module _ (i : ℕ) (ts : List Task) where
  abbrev listed : List Deadline
  listed = deadlines i ts

  size : length listed ≡ length ts
  size = length-map-range_with_len (task_deadline i ts) 0 (length ts)

  at_place : (k : ℕ) → k < length ts → slice_index_or listed k no_deadline ≡ task_deadline i ts k
  at_place k within = get_or-map-range_with_len (task_deadline i ts) 0 (length ts) k k no_deadline within (zero-add k)

  -- the deadline that goes first goes before that of any other task
  goes_before : (place k : ℕ) → Leads (by_keys deadline_keys) listed place → place < length ts → k < length ts → (k ≢ place) → by_keys deadline_keys (task_deadline i ts place) (task_deadline i ts k) ≡ true
  goes_before place k leads inside within differ =
      let here = at_place place inside in
      let there = at_place k within in
      ap₂ (by_keys deadline_keys) (sym here) (sym there)
      ∙ leads.leads k no_deadline (omega (arith, size)) (λ same. differ (ap (λ d. d.task) (sym there ∙ same ∙ here)))

  least_first : (place : ℕ) → Leads (by_keys deadline_keys) listed place → Least i ts (task_deadline i ts place)
  least_first place leads = record {
    task = inside;
    ticks = refl;
    least = λ k within. elim (cases_eq k place) [
      | inl same ↦ omega (arith, ap (deadline_of i ts) same)
      | inr differ ↦ let goes = goes_before place k leads inside within differ in grind (arith, nat_tests)
    ];
    lowest = λ k before. let goes = goes_before place k leads inside (omega (arith, before, inside)) (omega (arith, before)) in grind (arith, nat_tests);
  }
    where
      inside : place < length ts
      inside = omega (arith, leads.within, size)

  pub earliest_least : 1 ≤ length ts → Least i ts (earliest_of listed)
  unfolding earliest_of
  earliest_least some = at (first (by_keys deadline_keys) listed) (goes_first deadlines_strict listed)
    where
      at : (o : Option ℕ) → GoesFirst (by_keys deadline_keys) listed o → Least i ts (slice_index_or listed (unwrap_or o 0) no_deadline)
      at None none = absurd (omega (arith, size, ap length none))
      at (Some place) leads = subst (Least i ts) (sym (at_place place (omega (arith, leads.within, size)))) (least_first place leads)
