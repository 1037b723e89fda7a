-- The finger's moves as the code has them.
use Rattle.model.specs.System.{System, rounded₁, rounded₂}
use Rattle.finger_motion.specs.declared.system.Moves.{Moves}

-- both parts of a system's solution, each rounded
abbrev pub moves_of : System → Moves
moves_of t = record { delta = rounded₁ t; finger_delta = rounded₂ t }
