-- What the code lends, as the lists that its slices hold.
use Rattle.std.specs.Prelude.{◌≡◌}
use Rattle.model.specs.State.{State, Lent, Neck}
use Rattle.model.specs.Neck.{Plan}
use Rattle.model.specs.declared.Lent as Declared
use Rattle.model.specs.declared.Neck as Necks
use Rattle.model.specs.declared.Plan as Plans
use Rattle.model.specs.declared.State as States

abbrev pub the_plan : Plans.Plan → Plan
the_plan a = record { board = a.board.now; board_stiffness = a.board_stiffness; frets = a.frets.now; tip = a.tip; fret_stiffness = a.fret_stiffness }

abbrev pub the_neck : Necks.Neck → Neck
the_neck a = record { heights = a.heights.now; stiffness = a.stiffness.now }

abbrev pub the_lent : Declared.Lent → Lent
the_lent a = record { first = a.first.now; second = a.second.now; contact = a.contact.now; turn = a.turn; finger = a.finger }

abbrev pub the_state : States.State → State
the_state a = record { newer = a.newer.now; older = a.older.now; contact = a.contact.now; finger = a.finger }

-- the buffers of b are those of a themselves
abbrev pub SameBuffers : Declared.Lent → Declared.Lent → Type 0
SameBuffers a b = (b.first.ghost_name ≡ a.first.ghost_name) × (b.second.ghost_name ≡ a.second.ghost_name) × (b.contact.ghost_name ≡ a.contact.ghost_name)
