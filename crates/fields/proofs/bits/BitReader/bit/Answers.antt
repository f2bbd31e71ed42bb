use Rattle.std.proofs.Common.{sym, ◌∙◌}
use Rattle.std.proofs.lemmas.Nat.{and_mask}
use Rattle.fields.proofs.Binary.{bits_at}
use Rattle.fields.proofs.bits.BitReader.bit.Goals as goal

pub returns : goal.returns
returns c = and_mask _ 1 ∙ sym (bits_at c.args.self.now.bytes.now c.args.at c.requires)
