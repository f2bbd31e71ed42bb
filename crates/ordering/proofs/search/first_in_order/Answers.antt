-- The best of the numbered values is the first of them.
use Rattle.std.proofs.Common.{rules, ◌≡◌, ℕ, ◌<◌, length, map, get_or, Bor, subst, sym, ap, ◌∙◌, arith}
use mathlib.Core.List.{map-map}
use Rattle.std.specs.Option.{option_map, IfSome}
use Rattle.std.proofs.lemmas.Iterator.Adapters.{option_map_id}
use Rattle.ordering.specs.First.{first, GoesFirst}
use Rattle.ordering.proofs.Firsts.{reduced, goes_first}
use Rattle.ordering.proofs.search.first_in_order.Goals as goal

pub returns : goal.returns
returns g c =
    let strict = g.met.O.Order.strict c.args.order.now in
    let before = g.O.Order.before c.args.order.now in
    let values = c.args.values.now in
    let done = c.reduce.ensures.runs in
    let run = done.0 in
    let numbered = c.enumerate.ensures.runs run run.seen done.1 in
    let source = numbered.1.0 in
    let same : map (λ y. y.now) source.items ≡ values = (c.iter.ensures.runs source source.seen).4 (numbered.1.2.1 ∙ done.2) ∙ ap (λ s. s.rest.now) numbered.1.1 ∙ c.iter.ensures.rest in
    let listed : map (λ p. p.1.now) run.items ≡ values = sym (map-map (λ y. y.now) (λ p. p.1) run.items) ∙ ap (map (λ y. y.now)) (sym numbered.1.2.0.1) ∙ same in
    let placed : (k : ℕ) (d : ℕ × Bor g.row.T.Denot) → k < length run.items → (get_or run.items k d).0 ≡ k =
    λ k d h. subst (λ o. IfSome o (λ x. x.0 ≡ k)) (sym (option_map_id (run.at k)) ∙ run.reads k d (omega (arith, h, run.long))) (numbered.0 k) in
    let mapped : c.map.result ≡ option_map (λ p. p.0) c.reduce.result = search rules in
    let place : c.map.result ≡ first before values = mapped ∙ reduced strict (λ p. p.0) (λ p. p.1.now) run _ _ (search rules) placed c.reduce.result done.3 ∙ ap (first before) listed in
    record { place = place; law = subst (GoesFirst before values) (sym place) (goes_first strict values) }
