-- Stored energy, loss and work are worked out, and are small enough to be entered.
use Rattle.std.proofs.Common.{◌≡◌, ◌∙◌, ap, ap₂, rules, to_z, of_z, lit<}
use Rattle.std.specs.Prelude.{List, ℤ, pos, ◌+ℤ◌, ◌-ℤ◌, ◌*ℤ◌, ◌+◌, ◌^◌, ◌<◌, T, take, length}
use Rattle.std.specs.Int.{w32, w64}
use Rattle.integers.specs.Bits.{back}
use Rattle.integers.specs.Size.{◌within◌, ◌⟨+⟩◌, ◌⟨-⟩◌, wide}
use Rattle.model.specs.Differences.{at, minus}
use Rattle.model.specs.Ranges.{displacement_ok, force_ok}
use Rattle.model.specs.Setup.{e}
use Rattle.model.specs.State.{State, Forces}
use Rattle.model.specs.Wide.{value}
use Rattle.model.specs.declared.Setup.{Setup}
use Rattle.laws.specs.Accepted.{setup-facts}
use Rattle.laws.specs.EnergySizes.{Strings, Held, change-within, energy-size, moving_loss, moving-size, work-within}
use Rattle.laws.specs.Sizes.{inside-within}
use Rattle.book.specs.Entering.{left_over, count_room}
use Rattle.booked_step.specs.Booking.{work_of}
use Rattle.booked_step.proofs.booking.book_step.Goals as goal

-- a height, read from its bits
height-read : {w : ℤ} → T (displacement_ok w) → to_z w32 (of_z w32 w) ≡ w
unfolding displacement_ok
height-read {w} h = back w32 (inside-within 1048576 w h) (lit< tt)

work_is : (s : Setup) (F : Forces) (u v : List ℤ) (w w' : ℤ) → T (displacement_ok w) → T (displacement_ok w') → {z : ℤ}
    → z ≡ pos 2 *ℤ F.pluck *ℤ at (minus u v) (e s) +ℤ pos 2 *ℤ F.finger *ℤ (to_z w32 (of_z w32 w) -ℤ to_z w32 (of_z w32 w')) → z ≡ work_of s F u v w w'
unfolding work_of
work_is s F u v w w' h h' q = q ∙ ap₂ (λ w w'. pos 2 *ℤ F.pluck *ℤ at (minus u v) (e s) +ℤ pos 2 *ℤ F.finger *ℤ (w -ℤ w')) (height-read h) (height-read h')

work-size : (s : Setup) (F : Forces) {u v : List ℤ} (w w' : ℤ) → Strings u v → T (force_ok F.pluck) → T (force_ok F.finger) → T (displacement_ok w) → T (displacement_ok w') → work_of s F u v w w' within 2 ^ 53
unfolding work_of force_ok displacement_ok
work-size s F w w' h f g k k' =
    work-within (inside-within 1073741824 F.pluck f) (inside-within 1073741824 F.finger g) (change-within h (e s)) (inside-within 1048576 w k ⟨-⟩ inside-within 1048576 w' k')

loss-size : {s : Setup} {x : State} {v : List ℤ} {z t y : ℤ} → Held s x → Strings x.newer v → z within 2 ^ 60 → t ≡ z → y ≡ moving_loss s (minus x.newer v) +ℤ t → y within 2 ^ 64
loss-size h a r e q = rw (q, e) (wide (moving-size (setup-facts _ h.setup) a ⟨+⟩ r) tt)

pub with_step-requires : goal.with_step-requires
with_step-requires c =
    let h = c.requires in
    let low : c.args.book.count < 2 ^ 32 = let h = c.well_formed.1 in search rules in
    let released : to_z w64 (of_z w64 c.args.before.now.released) ≡ c.args.before.now.released = back w64 h.4 (lit< tt) in
    let work : to_z w64 (of_z w64 c.step_work.result) ≡ c.step_work.result = search rules in
    let F : Forces = record { pluck = c.args.forces.pluck; finger = c.args.forces.finger } in (
      record {
        before = h.3;
        after = rw c.stored_energy.ensures (energy-size h.0);
        work = rw (work ∙ work_is c.args.setup F _ _ _ _ h.0.range.height h.7 c.step_work.ensures) (work-size c.args.setup F _ _ h.2 h.5 h.6 h.0.range.height h.7);
        loss = loss-size h.0 h.2 h.4 released c.step_loss.ensures;
      },
      h.8,
      count_room c.args.book h.9 low,
    )

pub returns : goal.returns
unfolding left_over
returns c =
    let h = c.requires in
    let b = c.args.book in
    let F : Forces = record { pluck = c.args.forces.pluck; finger = c.args.forces.finger } in
    let released : to_z w64 (of_z w64 c.args.before.now.released) ≡ c.args.before.now.released = back w64 h.4 (lit< tt) in
    let work : to_z w64 (of_z w64 c.step_work.result) ≡ c.step_work.result = search rules in
    let after_is = c.stored_energy.ensures in
    let work_is = work ∙ work_is c.args.setup F _ _ _ _ h.0.range.height h.7 c.step_work.ensures in
    let loss_is = c.step_loss.ensures ∙ ap (λ z. moving_loss c.args.setup (minus c.args.after.newer.now (take (length c.args.after.newer.now) c.args.before.now.older)) +ℤ z) released in
    c.with_step.ensures ∙ (λ i. record {
      stored = after_is i;
      work = value b.work +ℤ work_is i;
      loss = value b.loss +ℤ loss_is i;
      rounding = value b.rounding +ℤ (after_is i -ℤ value c.args.before.now.stored -ℤ work_is i +ℤ loss_is i);
      count = b.count + 1;
    })
