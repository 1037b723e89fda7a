-- A table whose first rows, those of the setup, another call examined.
use Rattle.std.specs.Prelude.{◌≡◌, ◌≤◌}
use Rattle.std.proofs.Math.Path.{refl}
use Rattle.std.proofs.Math.Bool.{and-true}
use Rattle.model.specs.Refusal.{first_of}
use Rattle.model.specs.Setup.{N, setup_rules}
use Rattle.model.specs.declared.Setup.{Setup}
use Rattle.laws.specs.Accepted.{setup-reached, setup-accepted}
use Rattle.laws.specs.Answered.{refused-rows}

-- a setup that passed has a string with a point
pub two-segments : (s : Setup) → 0 ≡ first_of (setup_rules s) → 2 ≤ N s
two-segments s given = (setup-accepted s 0 given refl).segments-low

-- what goes through the table, from the rows of the setup on
pub ruleset rows = (refused-rows, setup-reached, two-segments, and-true)
