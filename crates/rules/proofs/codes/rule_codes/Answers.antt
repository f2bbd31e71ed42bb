-- Each place of the table has the code that its definition gives it.
use Rattle.std.proofs.Common.{◌≡◌, ◌≤◌, map, length, take, Some, None, sym, ap, ◌∙◌, subst, rules}
use mathlib.Core.List.{map-map}
use Rattle.std.specs.Prelude.{slice_get}
use Rattle.std.specs.Option.{option_map}
use Rattle.plan.specs.Held.{padded, mode_of, plan_of}
use Rattle.plan.specs.Sizes.{most_modes}
use Rattle.rules.specs.ByMode.{rule_codes, CodesOf}
use Rattle.rules.proofs.CodesHeld.{is_table, made_at}
use Rattle.rules.proofs.Seats.{goes_by_mode}
use Rattle.rules.proofs.codes.rule_codes.Goals as goal

pub returns : goal.returns
returns c =
    let t = c.args.plan.now in
    let codes = c.from_fn.result in
    let modes = take t.count t.modes in
    let made = c.from_fn.ensures.items in
    let few : length modes ≤ most_modes = search rules in
    let counted : c.modes-modes.result.now ≡ modes = search rules in
    let held : codes ≡ padded most_modes None (map (λ m. Some m.rule) modes) = is_table (λ m. m.rule) modes most_modes codes few made.long (made_at _ _ (λ k. option_map (λ m. m.rule) (slice_get modes k)) codes None most_modes made (search (rules, counted))) in
    let value : codes ≡ rule_codes (plan_of t) = held ∙ ap (padded most_modes None) (sym (map-map (λ m. Some m.rule) (mode_of t.count) modes)) in
    record { value = value; law = subst (CodesOf (plan_of t)) (sym value) (goes_by_mode (plan_of t)) }
