use Rattle.std.proofs.Common.{rules}
use Rattle.plan.specs.File.{enabling_layout}
use Rattle.plan.proofs.reader.read_enabling.Goals as goal

pub returns : goal.returns
returns c = c.read_table.ensures (λ i. (enabling_layout c.args.mode c.args.task i).read) (λ p q i r e. search rules)
