-- The plan that is built in. Assumes nothing.
use Rattle.std.specs.Prelude.{[], ◌∷◌}
use Rattle.plan.specs.Plan.{Plan}

-- one processor, one mode, and one task that runs for a tick at most
abbrev pub least : Plan
least = record {
  processors = 1;
  start = 0;
  modes = record { rule = 0; tasks = record { cost = 1; deadline = 1; separation = 1; enabling = 0 ∷ [] } ∷ [] } ∷ [];
}
