-- By the turn, a booked advance is a booked step of a ready voice.
use Rattle.std.proofs.Math.Path.{◌≡◌, refl, ap}
use Rattle.std.proofs.Common.{sym, ◌∙◌}
use Rattle.std.specs.Prelude.{List, [], ◌∷◌, ℤ}
use Prim.Native.Nat.{ℕ, zero, suc}
use Rattle.model.specs.State.{State, Lent, by_turn, state_of, Neck, Forces}
use Rattle.model.specs.Step.{worked_step, next_state, StepResult, step}
use Rattle.model.specs.Refusal.{Answer}
use Rattle.model.specs.Book.{Columns, with_step, count_rule, columns_rule}
use Rattle.model.specs.Booking.{BookedResult, booked_step}
use Rattle.model.specs.Answers.{step_result}
use Rattle.model.specs.declared.Setup.{Setup}
use Rattle.model.specs.declared.Stepped.{Stepped}
use Rattle.promises.specs.Promises.{Passed}
use Rattle.laws.specs.Ready.{Ready}
use Rattle.laws.specs.Advance.{with_strings, advanced_result, advanced-first, advanced-second}
use Rattle.booked_step.specs.BookedStep.{if_accepted, booked, by-step, booked_result, in_parts, either}
use Rattle.booked_step.specs.BookedAdvance.{BookedAdvanced, booked_advance}

module _ (s : Setup) (neck : Neck) (v : Lent) (B : Columns) (F : Forces) (ready : Ready s neck (state_of v)) (rows : Passed (count_rule B ∷ columns_rule B ∷ [])) where
  -- what a booked advance answered and left in the buffers, and the book after it
  abbrev left : Answer Stepped → Columns → List ℤ → List ℤ → BookedAdvanced
  left r w older contact = record { advanced = advanced_result r older contact; book = w }

  abbrev after : State → Columns
  after x = let t = worked_step s neck x F in with_step B t (next_state t)

  joined : (r : Answer Stepped) (w : Columns) (x : State) → x ≡ state_of v → (turn : ℕ) (older contact : List ℤ) (q : StepResult)
      → ((new old : Columns) → if_accepted r new old ≡ if_accepted q.answer new old) → q ≡ step s neck v F
      → left r w older contact ≡ booked_advance turn s neck x F B → ◌≡◌ {A = BookedResult} (record { answer = q.answer; lent = q.lent; book = w }) (booked_step s neck v B F)
  unfolding booked_advance
  joined r w x same turn older contact q e stepped eq =
      let book-is : w ≡ if_accepted q.answer (after (state_of v)) B =
      ap (λ a. a.book) eq
      ∙ ap (λ a. if_accepted a (after x) B) (sym (ap (λ a. a.advanced.answer) eq))
      ∙ ap (λ x. if_accepted r (after x) B) same
      ∙ e (after (state_of v)) B in
      (λ i. record { answer = q.answer; lent = q.lent; book = book-is i }) ∙ ap (booked s neck v B F) stepped ∙ by-step s neck v B F rows

  at_first : v.turn ≡ 0 → with_strings v v.first v.second ≡ state_of v
  unfolding state_of
  at_first z = ap (λ n. record { newer = by_turn n v.first v.second; older = by_turn n v.second v.first; contact = v.contact; finger = v.finger }) (sym z)

  at_second : (v.turn ≡ 0 → ⊥) → with_strings v v.second v.first ≡ state_of v
  unfolding state_of
  at_second = go v.turn
    where
      go : (n : ℕ) → (n ≡ 0 → ⊥) → ◌≡◌ {A = State} (with_strings v v.second v.first) (record { newer = by_turn n v.first v.second; older = by_turn n v.second v.first; contact = v.contact; finger = v.finger })
      go zero h = absurd (h refl)
      go (suc n) h = refl

  pub booked-first : v.turn ≡ 0 → (r : Answer Stepped) (w : Columns) (older contact : List ℤ) → left r w older contact ≡ booked_advance 1 s neck (with_strings v v.first v.second) F B
      → booked_result v.turn v.finger r w v.first older contact ≡ booked_step s neck v B F
  unfolding booked_advance
  booked-first z r w older contact eq =
      in_parts v.turn v.finger w r v.first older contact
      ∙ joined r w (with_strings v v.first v.second) (at_first z) 1 older contact (step_result v.turn v.finger r v.first older contact)
      (either v.turn v.finger r v.first older contact) (advanced-first s neck v F ready z r older contact (ap (λ a. a.advanced) eq)) eq

  pub booked-second : (v.turn ≡ 0 → ⊥) → (r : Answer Stepped) (w : Columns) (older contact : List ℤ) → left r w older contact ≡ booked_advance 0 s neck (with_strings v v.second v.first) F B
      → booked_result v.turn v.finger r w older v.second contact ≡ booked_step s neck v B F
  unfolding booked_advance
  booked-second z r w older contact eq =
      in_parts v.turn v.finger w r older v.second contact
      ∙ joined r w (with_strings v v.second v.first) (at_second z) 0 older contact (step_result v.turn v.finger r older v.second contact)
      (either v.turn v.finger r older v.second contact) (advanced-second s neck v F ready z r older contact (ap (λ a. a.advanced) eq)) eq
