-- The table of worked examples, computed from the definitions. Assumes nothing.
use Rattle.std.proofs.Common.{refl}
use Rattle.fields.specs.Bits.{binary, bits}
use Rattle.fields.specs.Layout.{field, whole, part, read_each}
use Rattle.fields.specs.Padding.{stray}
use Rattle.ordering.specs.First.{rank, first}
use Rattle.plan.specs.Decode.{decode}
use Rattle.plan.specs.File.{enabling_layout, task_layout, mode_layout, plan_layout}
use Rattle.verdict.specs.Bound.{work}
use Rattle.verdict.specs.Enabling.{earliest_of}
use Rattle.verdict.specs.Verdict.{failing}
use Rattle.cases.specs.Table.{Facts}

pub facts : Facts
unfolding binary bits field whole part read_each enabling_layout task_layout mode_layout plan_layout stray decode work rank first earliest_of failing
facts = (refl, (refl, (refl, (refl, (refl, (refl, (refl, (refl, (refl, (refl, (refl, (refl, (refl, (refl, (refl, tt)))))))))))))))
