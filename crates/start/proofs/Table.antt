-- The table of a fresh start, whose first rows, those of the setup, another call examined.
use Rattle.std.specs.Prelude.{◌≡◌, List, [], ◌∷◌, ◌≤◌, ℤ, pos, length, drop, replicate, Ok, Err}
use Rattle.std.proofs.Common.{sym}
use Rattle.std.proofs.Math.Path.{refl}
use Rattle.std.proofs.Math.Facts.{T_not-not}
use Rattle.model.specs.Answers.{start_result}
use Rattle.model.specs.Book.{columns, new_book}
use Rattle.model.specs.Refusal.{first_of, number}
use Rattle.model.specs.Setup.{N, points, setup_rules}
use Rattle.model.specs.Start.{fresh, finger_ok, started_result, start_rules, start}
use Rattle.model.specs.State.{State, state_of}
use Rattle.model.specs.declared.Book.{Book}
use Rattle.model.specs.declared.Setup.{Setup}
use Rattle.model.specs.declared.refusal.Refusal.{Refusal}
use Rattle.promises.specs.Promises.{Passed, Every}
use Rattle.laws.specs.Accepted.{setup-reached, setup-accepted, right-lengths}
use Rattle.laws.specs.Answered.{turned-down, refused-rows}
use Rattle.laws.specs.EnergySizes.{Held}
use Rattle.laws.specs.Refusals.{passed, passed-append, fails, made_by}
use Rattle.laws.proofs.BookedRun.{fresh-held}

-- a setup that passed has a string with a point
pub two-segments : (s : Setup) → 0 ≡ first_of (setup_rules s) → 2 ≤ N s
two-segments s given = (setup-accepted s 0 given refl).segments-low

-- what goes through the table, from the rows of the setup on
pub ruleset rows = (refused-rows, setup-reached, two-segments)

-- what is answered where the table gives a number, and where it gives none
module _ (s : Setup) (first second contact : List ℤ) (w w' : ℤ) where
  pub turned_down : (e : Refusal) → number e ≡ first_of (start_rules s first second contact w w') → start_result (Err e) first second contact ≡ start s first second contact w w'
  unfolding start
  turned_down e given = turned-down (start_rules s first second contact w w') _ _ e (sym given)

  module _ (given : 0 ≡ first_of (start_rules s first second contact w w')) where
    rows-passed : Passed (start_rules s first second contact w w')
    unfolding start_rules setup_rules
    rows-passed = passed (start_rules s first second contact w w') tt (sym given)

    lengths : Every (λ n. n ≡ points s) (length first ∷ length second ∷ length contact ∷ [])
    unfolding start_rules setup_rules
    lengths = right-lengths s (length first ∷ length second ∷ length contact ∷ []) (fails 6 (start_rules s first second contact w w') rows-passed)

    -- the fresh state, of buffers that are cleared
    abbrev state : List ℤ → List ℤ → List ℤ → State
    state u v ψ = record { newer = u; older = v; contact = ψ; finger = record { newer = w; older = w'; contact = pos 0 } }

    module _ {u v ψ : List ℤ} (e : u ≡ replicate (length first) (pos 0)) (f : v ≡ replicate (length second) (pos 0)) (g : ψ ≡ replicate (length contact) (pos 0)) where
      pub held : Held s (state u v ψ)
      unfolding start_rules setup_rules fresh state_of
      held =
          let table = start_rules s first second contact w w' in
          rw (e, f, g, lengths.0, lengths.1.0, lengths.1.1.0) (fresh-held s w w' (passed-append (setup_rules s) (drop 5 table) rows-passed).0 (T_not-not (finger_ok w w') (fails 10 table rows-passed)))

      pub started : (b : Book) → columns b ≡ new_book s (state u v ψ) → start_result (Ok (record { turn = 0; finger = record { newer = w; older = w'; contact = pos 0 }; book = b })) u v ψ ≡ start s first second contact w w'
      unfolding start fresh state_of
      started b q = rw (q, e, f, g, lengths.0, lengths.1.0, lengths.1.1.0) (made_by (start_rules s first second contact w w') (started_result s (fresh s w w')) _ (sym given))
