-- What a step and a block are both given, and the rows that they share, as two tables of their own: 1 to 5 and 6, then 7 and 11.
use Rattle.std.specs.Prelude.{◌≡◌, List, [], ◌∷◌, ◌++◌, ℕ, ℤ}
use Rattle.std.proofs.Common.{subst}
use Rattle.model.specs.Refusal.{Rule, first_of}
use Rattle.model.specs.Setup.{setup_rules}
use Rattle.model.specs.State.{State, Lent, state_of, Neck}
use Rattle.model.specs.Neck.{heights_rule}
use Rattle.model.specs.Step.{buffers_rule, state_rule}
use Rattle.model.specs.declared.Setup.{Setup}
use Rattle.model.specs.declared.Finger.{Finger}
use Rattle.promises.specs.Promises.{Passed}
use Rattle.laws.specs.Refusals.{passed, passed-append, Reached, reached-back, front-number}
use Rattle.laws.specs.Ready.{Ready}
use Rattle.laws.specs.Advance.{in_order}

-- what is lent, by its parts
abbrev pub lent_with : ℕ → Finger → (first second contact : List ℤ) → Lent
lent_with turn finger first second contact = record { first = first; second = second; contact = contact; turn = turn; finger = finger }

abbrev pub buffer_rows : Setup → Neck → State → List Rule
buffer_rows s neck x = setup_rules s ++ buffers_rule s neck x ∷ []

abbrev pub state_rows : List ℤ → State → List Rule
state_rows heights x = heights_rule heights ∷ state_rule x ∷ []

module _ (s : Setup) (neck : Neck) (x : State) where
  -- a table that begins with the first of them
  abbrev pub table_from : List Rule → List Rule
  table_from rules = setup_rules s ++ buffers_rule s neck x ∷ rules

  pub buffers-refused : (n : ℕ) → n ≡ first_of (buffer_rows s neck x) → (n ≡ 0 → ⊥) → (rules : List Rule) → first_of (table_from rules) ≡ n
  unfolding setup_rules
  buffers-refused n e h rules = front-number (buffer_rows s neck x) rules n e h

  buffers-passed : first_of (buffer_rows s neck x) ≡ 0 → Passed (buffer_rows s neck x)
  unfolding setup_rules
  buffers-passed e = passed (buffer_rows s neck x) tt e

  pub buffers-reached : first_of (buffer_rows s neck x) ≡ 0 → (rules : List Rule) → Reached (table_from rules) rules
  unfolding setup_rules
  buffers-reached e rules = reached-back (buffer_rows s neck x) rules (buffers-passed e)

  pub call-ready : first_of (buffer_rows s neck x) ≡ 0 → first_of (state_rows neck.heights x) ≡ 0 → Ready s neck x
  call-ready e f =
      let (setup, buffers) = passed-append (setup_rules s) (buffers_rule s neck x ∷ []) (buffers-passed e) in
      let state = passed (state_rows neck.heights x) tt f in
      record { setup = setup; buffers = buffers; heights = (state.0, tt); state = state.1 }

-- rows that hold for any turn, of the strings in the order in which they are lent, are those of what is lent
pub judged-in-order : (v : Lent) (rows : State → List Rule) (n : ℕ) {x : State} → x ≡ in_order v
    → ((turn : ℕ) → n ≡ first_of (rows (state_of (lent_with turn x.finger x.newer x.older x.contact)))) → n ≡ first_of (rows (state_of v))
judged-in-order v rows n e judged = subst (λ (x : State). n ≡ first_of (rows (state_of (lent_with v.turn x.finger x.newer x.older x.contact)))) e (judged v.turn)
