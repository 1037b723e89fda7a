-- A booked bend of a state, and by the turn that of a voice.
use Rattle.std.specs.Prelude.{◌≡◌}
use Rattle.std.proofs.Math.Path.{refl, ap}
use Rattle.std.proofs.Common.{sym, ◌∙◌}
use Prim.Native.Nat.{ℕ, zero, suc}
use Rattle.model.specs.Refusal.{accepted, refused, first_of, unless}
use Rattle.model.specs.Changes.{with_tension}
use Rattle.model.specs.State.{State, Lent, by_turn, state_of}
use Rattle.model.specs.Book.{Columns, with_bend}
use Rattle.model.specs.Booking.{BentResult, bent_rules, booked_bend}
use Rattle.model.specs.declared.Setup.{Setup}

unfoldable pub bend_on : Setup → State → Columns → ℕ → BentResult
bend_on s x b L' = unless (first_of (bent_rules s x b L'))
    (record { answer = accepted (with_tension s L'); book = with_bend b record { setup = s; tension = L'; state = x } })
    (λ n. record { answer = refused n; book = b })

pub bend-on : (s : Setup) (v : Lent) (b : Columns) (L' : ℕ) → bend_on s (state_of v) b L' ≡ booked_bend s v b L'
unfolding bend_on booked_bend
bend-on s v b L' = refl

-- by the turn
module _ (s : Setup) (v : Lent) (b : Columns) (L' : ℕ) where
  abbrev by_state : ℕ → BentResult
  by_state n = bend_on s (record { newer = by_turn n v.first v.second; older = by_turn n v.second v.first; contact = v.contact; finger = v.finger }) b L'

  pub bent-first : v.turn ≡ 0 → bend_on s (record { newer = v.first; older = v.second; contact = v.contact; finger = v.finger }) b L' ≡ booked_bend s v b L'
  unfolding state_of
  bent-first z = ap by_state (sym z) ∙ bend-on s v b L'

  pub bent-second : (v.turn ≡ 0 → ⊥) → bend_on s (record { newer = v.second; older = v.first; contact = v.contact; finger = v.finger }) b L' ≡ booked_bend s v b L'
  unfolding state_of
  bent-second z = go v.turn z ∙ bend-on s v b L'
    where
      go : (n : ℕ) → (n ≡ 0 → ⊥) → bend_on s (record { newer = v.second; older = v.first; contact = v.contact; finger = v.finger }) b L' ≡ by_state n
      go zero h = absurd (h refl)
      go (suc n) h = refl
