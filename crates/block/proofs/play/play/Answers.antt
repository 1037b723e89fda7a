-- Each accepted step leaves less of the block, by what it came to; a refused one ends it.
use Rattle.std.proofs.Common.{◌≡◌, sym, ◌∙◌, ap, arith, refl, rules}
use Rattle.std.specs.Prelude.{List, ℕ, ◌+◌, ◌*◌, ◌/◌, ◌≤◌, ◌<◌, ℤ, Float, length}
use Rattle.model.specs.Block.{BlockResult}
use Rattle.model.specs.Lending.{the_neck, the_lent}
use Rattle.model.specs.Refusal.{accepted, refused}
use Rattle.model.specs.State.{Lent, Neck}
use Rattle.model.specs.Step.{StepResult, step}
use Rattle.model.specs.declared.Frame.{Frame}
use Rattle.model.specs.declared.Setup.{Setup}
use Rattle.laws.specs.Accepted.{step-refused}
use Rattle.laws.specs.Playing.{forces_at, resumed, ended, frame-length, OneMore, refused-next, ready-again, made-next}
use Rattle.block.proofs.play.play.Goals as goal

-- the next step, which left w
module _ (s : Setup) (neck : Neck) (forces : List ℤ) (v : Lent) {w : Lent} (n : ℕ) (below : n < length forces / 2) where
  more : (f : Frame) → ◌≡◌ {A = StepResult} (record { answer = accepted f; lent = w }) (step s neck v (forces_at forces n))
      → OneMore s neck forces v n (accepted record { turn = w.turn; finger = w.finger; frame = f }) w.first w.second w.contact
  more f stepped = record { below = below; result = stepped }

  ends : (samples : List Float) (k : ℕ) → ◌≡◌ {A = StepResult} (record { answer = refused k; lent = w }) (step s neck v (forces_at forces n))
      → ◌≡◌ {A = BlockResult} (record { count = n; refusal = k; lent = w; samples = samples }) (resumed s neck forces v samples n)
  ends samples k stepped =
      let kept : w ≡ v = ap (λ r. r.lent) stepped ∙ step-refused s neck v (forces_at forces n) k (sym (ap (λ r. r.answer) stepped)) in
      let one : OneMore s neck forces v n (refused k) v.first v.second v.contact = record { below = below; result = ap (λ w. record { answer = refused k; lent = w }) (sym kept) ∙ stepped } in
      ap (λ w. record { count = n; refusal = k; lent = w; samples = samples }) kept ∙ sym (refused-next one samples k refl)

pub returns-in-Err-clause-played : goal.returns-in-Err-clause-played
returns-in-Err-clause-played c =
    let l = c.loop-count in
    ends c.args.setup _ c.args.forces.now _ l.count c.loop-count-test.true l.samples _ (c.in-Err.ensures.stepped ∙ ap (step c.args.setup _ _) c.forces_at.ensures) ∙ l.invariant.playing.rest

pub loop-count-preserved : goal.loop-count-preserved
loop-count-preserved c =
    let l = c.loop-count in
    let room : 2 * l.count + 2 ≤ length l.samples = omega (arith, c.loop-count-test.true, l.invariant.playing.room) in
    let made = c.write_frame.ensures in
    let same : length c.write_frame.new.samples ≡ length l.samples = ap length made ∙ frame-length c.in-Ok.frame (2 * l.count) l.samples room in
    let next = more c.args.setup _ c.args.forces.now _ l.count c.loop-count-test.true c.in-Ok.frame (c.in-Ok.ensures.stepped ∙ ap (step c.args.setup _ _) c.forces_at.ensures) in
    record {
      same = search rules;
      playing = record {
        most = omega (arith, c.loop-count-test.true);
        ready = ready-again next _ refl l.invariant.playing.ready;
        room = omega (arith, same, l.invariant.playing.room);
        rest = ap (λ samples. resumed c.args.setup (the_neck c.args.neck) c.args.forces.now (the_lent c.step_ready.new.lent) samples (l.count + 1)) made
            ∙ sym (made-next next _ refl l.samples room) ∙ l.invariant.playing.rest;
      };
    }

pub returns-clause-played : goal.returns-clause-played
returns-clause-played c =
    let l = c.loop-count in
    let all : l.count ≡ length c.args.forces.now / 2 = omega (arith, c.loop-count-test.false, l.invariant.playing.most) in
    ap (λ n. record { count = n; refusal = 0; lent = the_lent l.lent; samples = l.samples }) all
    ∙ sym (ended c.args.setup (the_neck c.args.neck) c.args.forces.now (the_lent l.lent) l.samples l.count all) ∙ l.invariant.playing.rest
