use Rattle.std.proofs.Common.{rules, get_or, ◌≡◌, ◌+◌, ◌*◌, leb, drop, sym, ap, ◌∙◌, arith}
use Rattle.std.specs.Option.{option_or}
use Rattle.std.proofs.lemmas.Iterator.{first_from_Range}
use Rattle.fields.specs.Bits.{bits}
use Rattle.fields.specs.Padding.{stray, byte_end}
use Rattle.fields.proofs.Numbers.{length_bits}
use Rattle.fields.proofs.Strays.{FirstOne, stray_found}
use Rattle.fields.proofs.bits.BitReader.stray.Goals as goal
use Rattle.fields.proofs.bits.BitReader.stray.Goals.{After-find}

-- what `find` answers
first_one : (c : After-find) → FirstOne (bits c.args.self.now.bytes.now) c.args.self.now.at (c.div_ceil-end.result * 8) c.find.result
first_one c =
    let bs = bits c.args.self.now.bytes.now in
    first_from_Range _ _ _ c.find.result (λ i. get_or bs i 0 ≡ 1) (λ i. get_or bs i 0 ≡ 1 → ⊥) c.find.ensures.ran (λ x q e. search rules) (λ x q e. search rules)

pub returns : goal.returns
returns c =
    let me = c.args.self.now in
    let bs = bits me.bytes.now in
    let end = c.div_ceil-end.result * 8 in
    let long = length_bits me.bytes.now in
    let byte : end ≡ byte_end me.at = omega arith in
    let more = c.has.ensures ∙ ap (leb (end + 1)) (sym long) in
    c.or.ensures ∙ ap (option_or c.find.result) c.then_some.ensures
    ∙ stray_found bs me.at end (omega (arith, long)) c.find.result c.has.result (omega arith) (first_one (goal.at.returns c).After-find) more
    ∙ ap (λ e. stray e (drop me.at bs) me.at) byte
