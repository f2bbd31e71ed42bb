use Rattle.std.proofs.Common.{◌+◌, ◌-◌, ◌<◌, ◌≤◌, sym, ◌∙◌, arith, pow_mono}
use Rattle.std.proofs.lemmas.Bool.{leb-true}
use Rattle.fields.proofs.Binary.{bit_below, pow_next}
use Rattle.fields.proofs.bits.BitReader.peek.Goals as goal

-- one bit more keeps within one power of two more, and there are 16 bits at most
pub overflow_add-value : goal.overflow_add-value
overflow_add-value c =
    let room = leb-true _ _ (sym c.if-not-has.ensures) in
    let first = c.args.self.now.at in
    let at = c.loop-at.at in
    let bit : c.from.result < 2 = rw (c.from.ensures ∙ c.bit.ensures) (bit_below c.args.self.now.bytes.now at (omega (arith, room))) in
    let near : at + 1 - first ≤ 16 = omega arith in
    record { fits = omega (arith, bit, pow_next first at c.loop-at.auto.at, pow_mono near, c.loop-at.invariant.1) }
