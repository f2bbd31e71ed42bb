use Rattle.std.proofs.Common.{◌≡◌, ◌-◌, ◌^◌, ◌<◌, take, drop}
use Rattle.std.specs.Int.Digits.{number_from_digits}
use Rattle.fields.specs.Bits.{bits}
use Rattle.fields.proofs.bits.BitReader.peek.Given as goal

abbrev pub invariant-loop-at : goal.invariant-loop-at
invariant-loop-at l = (l.value ≡ number_from_digits 2 (take (l.at - l.first) (drop l.first (bits l.self.bytes.now)))) × (l.value < 2 ^ (l.at - l.first))
