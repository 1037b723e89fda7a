-- How an entry goes through the first rows of its table: 1 to 5, its setup, and 6, the lengths of its buffers.
use Rattle.std.specs.Prelude.{◌≡◌, Bool, false, not, List, ◌∷◌, ◌++◌, ℕ}
use Rattle.model.specs.Ranges.{all}
use Rattle.model.specs.Refusal.{Rule, ◌when◌, first_of}
use Rattle.model.specs.Setup.{points, length_ok, setup_rules}
use Rattle.model.specs.declared.Setup.{Setup}
use Rattle.promises.specs.Promises.{Every}
use Rattle.laws.specs.Accepted.{SetupFacts, setup-accepted, setup-reached, right-lengths}
use Rattle.laws.specs.Refusals.{Reached, row-passed-not, row-fact, not-not}

-- 1 to 5 are passed, and `rest` follows
pub record Begun (s : Setup) (rest : List Rule) : Type 0 where
  pub facts : SetupFacts s
  pub reached : Reached (setup_rules s ++ rest) rest

-- where the examination of the setup answered n
pub begun : (s : Setup) (rest : List Rule) {n : ℕ} → n ≡ first_of (setup_rules s) → n ≡ 0 → Begun s rest
begun s rest {n} e z = record { facts = setup-accepted s n e z; reached = setup-reached s n e rest z }

-- 6 is passed too
pub record Sized (s : Setup) (buffers : List ℕ) (rules rest : List Rule) : Type 0 where
  pub lengths : Every (λ n. n ≡ points s) buffers
  pub reached : Reached rules rest

-- where the examination of the lengths answered t
pub sized : (s : Setup) (buffers : List ℕ) {rules rest : List Rule} {t : Bool} → Reached rules ((6 when not (all (length_ok s) buffers)) ∷ rest)
    → t ≡ all (length_ok s) buffers → not t ≡ false → Sized s buffers rules rest
sized s buffers r e l = record { lengths = right-lengths s buffers (not-not (all (length_ok s) buffers) (row-fact e l)); reached = row-passed-not r e l }
