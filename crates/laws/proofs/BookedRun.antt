-- 02, item 6: the promise of the book over lists of calls from a fresh start.
use Rattle.std.specs.Prelude.{◌≡◌, Bool, true, ℕ, zero, suc, ◌+◌, ◌*◌, ◌^◌, ◌≤◌, T, ℤ, pos, neg_ℤ, ◌+ℤ◌, ◌-ℤ◌, drop, replicate, ◌≤ℤ◌}
use Rattle.std.proofs.Math.Path.{refl, subst}
use Rattle.std.proofs.Common.{sym, ◌∙◌, ap}
use mathlib.Core.List.{List, [], ◌∷◌, ◌++◌}
use native.Mathlib.Omega.{arith}
use Rattle.std.proofs.lemmas.List.{length-replicate}
use Rattle.std.specs.Int.Signed.{le_z, le_z_yes}
use Rattle.std.proofs.Math.Facts.{no_eqb, yes_and, and_yes, T_not-not}
use Rattle.integers.specs.Tests.{is_true}
use Rattle.integers.specs.Solve.{◌⊕◌, ◌⊖◌, #◌, ◌≐◌, solve}
use Rattle.integers.specs.Order.{≤_trans}
use Rattle.integers.specs.Size.{◌within◌, ◌⟨+⟩◌, ◌⟨-⟩◌, num, weaken, wide}
use Rattle.model.specs.Ranges.{all, inside, displacement_ok, contact_ok}
use Rattle.model.specs.Refusal.{Answer, accepted, refused}
use Rattle.model.specs.Setup.{points, setup, setup_rules}
use Rattle.model.specs.Changes.{with_tension, with_place, bend, slide}
use Rattle.model.specs.State.{State, Lent, state_of, put, Neck, Forces}
use Rattle.model.specs.Step.{worked_step, call_rules, result_rules, step}
use Rattle.model.specs.Start.{start_rules, StartResult, started_result, start, fresh, finger_ok}
use Rattle.model.specs.Energy.{stored_energy}
use Rattle.model.specs.Steps.{Voice, voice, accepted_steps}
use Rattle.model.specs.Run.{energy_of, Request, to_step, to_bend, to_slide, Entry, stepped, bent, slid, Taken, taken, entries, last_voice, work, loss, rounding_work, total}
use Rattle.model.specs.Book.{Columns, new_book, column_ok, columns_ok, columns_rule, with_step, with_bend}
use Rattle.model.specs.Booking.{booked_rules, booked_step, bent_rules, booked_bend}
use Rattle.model.specs.BookedRun.{Kept, keeping, BookedCall, booked, last_kept, accepted_requests, steps}
use Rattle.model.specs.declared.Setup.{Setup}
use Rattle.model.specs.declared.Frame.{Frame}
use Rattle.promises.specs.Promises.{Passed}
use Rattle.promises.specs.Book.{NeverFull, EnergyBook}
use Rattle.laws.specs.Refusals.{fails, passed-append, not-not, yes-all, never_both, never-answered, accepted-by}
use Rattle.laws.specs.Accepted.{state_made, step-refused}
use Rattle.laws.specs.Sizes.{within-inside}
use Rattle.laws.specs.Changes.{bend-balance, slide-balance}
use Rattle.laws.proofs.Run.{step-balance}
use Rattle.laws.specs.EnergySizes.{Held, energy-size}
use Rattle.laws.proofs.Booking.{rounding-size}
use Rattle.laws.specs.BookedRun.{column-ok}
use Rattle.laws.specs.Booking.{loss-size, booked_made, booked-accepted, booked-refused, room, plain_step, step-facts, before-held, after-held, answered, setup-passes, passes-setup, bend_of, bent_made, bent-accepted, bent-refused, bent-setup, bent-held, bends-booked, bent-made, stored_next}

-- ---- the number of steps among entries

steps-more : (e : Entry) (es : List Entry) → steps (e ∷ es) ≡ steps (e ∷ []) + steps es
unfolding steps
steps-more (stepped t) es = omega arith
steps-more (bent b) es = omega arith
steps-more slid es = omega arith

steps-append : (es fs : List Entry) → steps (es ++ fs) ≡ steps es + steps fs
unfolding steps
steps-append [] fs = omega arith
steps-append (e ∷ es) fs = let r = steps-append es fs in let a = steps-more e (es ++ fs) in let b = steps-more e es in omega arith

-- ---- what a book holds on the way, from a starting energy e₀

record Sound (e₀ : ℤ) (k : Kept) : Type 0 where
  held : Held k.voice.setup (state_of k.voice.lent)
  stored : k.book.stored ≡ energy_of k.voice
  balance : k.book.stored ≡ e₀ +ℤ k.book.work -ℤ k.book.loss +ℤ k.book.rounding
  start-within : e₀ within 2 ^ 65
  loss-within : k.book.loss within (k.book.count * 2 ^ 64)
  rounding-within : k.book.rounding within (k.book.count * 2 ^ 67)
  most : k.book.count ≤ 4294967295

-- stored is bounded by the state, loss and rounding work by the count, and work is what the balance leaves
columns-ok : {e₀ : ℤ} {k : Kept} → Sound e₀ k → T (columns_ok k.book)
columns-ok {e₀} {k} h =
    let b = k.book in
    let n = h.most in
    let stored : b.stored within 2 ^ 65 = rw h.stored (energy-size h.held) in
    let work_is : b.work ≡ b.stored -ℤ e₀ +ℤ b.loss -ℤ b.rounding =
    solve 4 (λ e w l r. w ≐ e ⊕ w ⊖ l ⊕ r ⊖ e ⊕ l ⊖ r) tt e₀ b.work b.loss b.rounding ∙ ap (λ z. z -ℤ e₀ +ℤ b.loss -ℤ b.rounding) (sym h.balance) in
    let work-size : b.work within 2 ^ 120 = rw work_is (weaken (stored ⟨-⟩ h.start-within ⟨+⟩ h.loss-within ⟨-⟩ h.rounding-within) (omega arith)) in
    yes-all column_ok (b.stored ∷ b.work ∷ b.loss ∷ b.rounding ∷ [])
    (column-ok (wide stored tt), (column-ok work-size, (column-ok (weaken h.loss-within (omega arith)), (column-ok (weaken h.rounding-within (omega arith)), tt))))

columns-passed : {e₀ : ℤ} {k : Kept} → Sound e₀ k → Passed (columns_rule k.book ∷ [])
columns-passed {e₀} {k} h = (not-not (columns_ok k.book) (columns-ok h), tt)

-- ---- one call

-- an accepted call q from k to k'
record Made (neck : Neck) (k : Kept) (q : Request) (k' : Kept) : Type 0 where
  entry : Entry
  plain : taken neck k.voice q ≡ record { after = k'.voice; entries = entry ∷ [] }
  held : Held k'.voice.setup (state_of k'.voice.lent)
  stored : k'.book.stored ≡ energy_of k'.voice
  change : energy_of k'.voice ≡ energy_of k.voice +ℤ work entry -ℤ loss entry +ℤ rounding_work entry
  work_is : k'.book.work ≡ k.book.work +ℤ work entry
  loss_is : k'.book.loss ≡ k.book.loss +ℤ loss entry
  rounding_is : k'.book.rounding ≡ k.book.rounding +ℤ rounding_work entry
  count_is : k'.book.count ≡ k.book.count + steps (entry ∷ [])
  most : k'.book.count ≤ 4294967295
  loss-within : loss entry within (steps (entry ∷ []) * 2 ^ 64)
  rounding-within : rounding_work entry within (steps (entry ∷ []) * 2 ^ 67)

-- it is accepted and entered; or it leaves all, and so does the unbooked call, unless that is one step more than the count can hold
data Outcome (neck : Neck) (k : Kept) (q : Request) : Type 0 where
  made : (k' : Kept) → booked neck k q ≡ record { after = k'; made = q ∷ [] } → Made neck k q k' → Outcome neck k q
  left : booked neck k q ≡ record { after = k; made = [] } → (k.book.count + steps (taken neck k.voice q).entries ≤ 4294967295 → taken neck k.voice q ≡ record { after = k.voice; entries = [] })
      → Outcome neck k q

plus-zero : (z : ℤ) → z ≡ z +ℤ pos 0
plus-zero z = solve 1 (λ z. z ≐ z ⊕ # 0) tt z

no_place : (s : Setup) (p' : ℕ) (x : State) → stored_energy s x ≡ stored_energy (with_place s p') x
unfolding stored_energy
no_place s p' x = refl

module _ (neck : Neck) (k : Kept) {e₀ : ℤ} (h : Sound e₀ k) where
  abbrev s : Setup
  s = k.voice.setup

  abbrev v : Lent
  v = k.voice.lent

  abbrev b : Columns
  b = k.book

  step-outcome : (F : Forces) → Outcome neck k (to_step F)
  unfolding booked taken steps accepted_steps
  step-outcome F = go (booked_step s neck v b F).answer refl
    where
      unbooked : (n : ℕ) → (booked_step s neck v b F).answer ≡ refused n → (a : Answer Frame) → (step s neck v F).answer ≡ a → k.book.count + steps (taken neck k.voice (to_step F)).entries ≤ 4294967295
          → taken neck k.voice (to_step F) ≡ record { after = k.voice; entries = [] }
      unbooked n q (accepted f) p l =
          let more : b.count + 1 ≤ 4294967295 = rw p at l in
          let free : b.count ≡ 4294967295 → ⊥ = λ z. omega arith in
          never_both (sym (answered s neck v b F (no_eqb {a = b.count} {b = 4294967295} free, columns-passed h)) ∙ q) p
      unbooked n q (refused m) p l = rw (p, step-refused s neck v F m p) refl

      go : (a : Answer Frame) → (booked_step s neck v b F).answer ≡ a → Outcome neck k (to_step F)
      go (accepted f) q =
          let (p, r) = booked-accepted s neck v b F f q in
          let facts = step-facts s neck v b F p in
          made (keeping (voice s (put v (state_made s neck v F))) (with_step b (worked_step s neck (state_of v) F) (state_made s neck v F)))
          (rw r refl)
          record {
            entry = stepped (worked_step s neck (state_of v) F);
            plain = rw (plain_step s neck v b F p) refl;
            held = after-held s neck v b F p;
            stored = stored_next facts;
            change = step-balance facts;
            work_is = refl;
            loss_is = refl;
            rounding_is = refl;
            count_is = refl;
            most = let n = room s neck v b F p in let m = h.most in omega arith;
            loss-within = loss-size facts (before-held s neck v b F p) (after-held s neck v b F p);
            rounding-within = rounding-size facts (before-held s neck v b F p) (after-held s neck v b F p);
          }
      go (refused n) q = let (e, f) = booked-refused s neck v b F n q in left (rw (e, f, q) refl) (unbooked n q (step s neck v F).answer refl)

  bend-outcome : (L' : ℕ) → Outcome neck k (to_bend L')
  unfolding booked taken bend steps
  bend-outcome L' = go (booked_bend s v b L').answer refl
    where
      unbooked : (n : ℕ) → (booked_bend s v b L').answer ≡ refused n → (a : Answer Setup) → setup (with_tension s L') ≡ a → taken neck k.voice (to_bend L') ≡ record { after = k.voice; entries = [] }
      unbooked n q (accepted t) p = never_both q (bent-made s v b L' (bends-booked s v b L' h.held (columns-passed h) (setup-passes (with_tension s L') t p).0))
      unbooked n q (refused m) p = rw p refl

      go : (a : Answer Setup) → (booked_bend s v b L').answer ≡ a → Outcome neck k (to_bend L')
      go (accepted t) q =
          let (p, r) = bent-accepted s v b L' t q in
          made (keeping (voice (with_tension s L') v) (with_bend b (bend_of s v b L')))
          (rw r refl)
          record {
            entry = bent (bend_of s v b L');
            plain = rw (passes-setup (with_tension s L') (bent-setup s v b L' p)) refl;
            held = bent-held s v b L' p;
            stored = refl;
            change = bend-balance s L' (state_of v);
            work_is = refl;
            loss_is = plus-zero _;
            rounding_is = plus-zero _;
            count_is = omega arith;
            most = h.most;
            loss-within = num 0;
            rounding-within = num 0;
          }
      go (refused n) q = left (rw (bent-refused s v b L' n q, q) refl) (λ _. unbooked n q (setup (with_tension s L')) refl)

  slide-outcome : (p' : ℕ) → Outcome neck k (to_slide p')
  unfolding booked taken slide steps
  slide-outcome p' = go (setup (with_place s p')) refl
    where
      go : (a : Answer Setup) → setup (with_place s p') ≡ a → Outcome neck k (to_slide p')
      go (accepted t) q =
          let (p, e) = setup-passes (with_place s p') t q in
          made (keeping (voice (with_place s p') v) b)
          (rw (q, e) refl)
          record {
            entry = slid;
            plain = rw (q, e) refl;
            held = let g = h.held in record { setup = p; newer-length = g.newer-length; older-length = g.older-length; contact-length = g.contact-length; range = g.range };
            stored = h.stored ∙ no_place s p' (state_of v);
            change = slide-balance s p' (state_of v);
            work_is = plus-zero _;
            loss_is = plus-zero _;
            rounding_is = plus-zero _;
            count_is = omega arith;
            most = h.most;
            loss-within = num 0;
            rounding-within = num 0;
          }
      go (refused n) q = left (rw q refl) (λ _. rw q refl)

  outcome : (q : Request) → Outcome neck k q
  outcome (to_step F) = step-outcome F
  outcome (to_bend L') = bend-outcome L'
  outcome (to_slide p') = slide-outcome p'

-- the book stays sound
sound-next : {e₀ : ℤ} {neck : Neck} {k : Kept} {q : Request} {k' : Kept} → Made neck k q k' → Sound e₀ k → Sound e₀ k'
sound-next {e₀} {neck} {k} {q} {k'} m h = record {
  held = m.held;
  stored = m.stored;
  balance = balance;
  start-within = h.start-within;
  loss-within = rw m.loss_is (weaken (h.loss-within ⟨+⟩ m.loss-within) (let c = m.count_is in omega arith));
  rounding-within = rw m.rounding_is (weaken (h.rounding-within ⟨+⟩ m.rounding-within) (let c = m.count_is in omega arith));
  most = m.most;
}
  where
    balance : k'.book.stored ≡ e₀ +ℤ k'.book.work -ℤ k'.book.loss +ℤ k'.book.rounding
    balance =
        let b = k.book in
        let e = m.entry in
        m.stored ∙ m.change ∙ ap (λ z. z +ℤ work e -ℤ loss e +ℤ rounding_work e) (sym h.stored ∙ h.balance)
        ∙ solve 7 (λ e W L R w l r. e ⊕ W ⊖ L ⊕ R ⊕ w ⊖ l ⊕ r ≐ e ⊕ (W ⊕ w) ⊖ (L ⊕ l) ⊕ (R ⊕ r)) tt e₀ b.work b.loss b.rounding (work e) (loss e) (rounding_work e)
        ∙ sym (rw (m.work_is, m.loss_is, m.rounding_is) refl)

-- ---- a list of calls

-- from k to k', whose accepted calls led to the voice w and left es
record Reaches (e₀ : ℤ) (k k' : Kept) (w : Voice) (es : List Entry) : Type 0 where
  sound : Sound e₀ k'
  same : k'.voice ≡ w
  work_is : k'.book.work ≡ k.book.work +ℤ total work es
  loss_is : k'.book.loss ≡ k.book.loss +ℤ total loss es
  rounding_is : k'.book.rounding ≡ k.book.rounding +ℤ total rounding_work es
  count_is : k'.book.count ≡ k.book.count + steps es

nothing : {e₀ : ℤ} {k : Kept} → Sound e₀ k → Reaches e₀ k k k.voice []
unfolding total steps
nothing h = record { sound = h; same = refl; work_is = plus-zero _; loss_is = plus-zero _; rounding_is = plus-zero _; count_is = omega arith }

one_more : {e₀ : ℤ} {neck : Neck} {k k' : Kept} {q : Request} → (m : Made neck k q k') → {l : Kept} {w : Voice} {es : List Entry} → Reaches e₀ k' l w es → Reaches e₀ k l w (m.entry ∷ es)
unfolding total
one_more {k} {k'} m {l} {es} r = record {
  sound = r.sound;
  same = r.same;
  work_is = r.work_is ∙ joined work k.book.work (work m.entry) m.work_is;
  loss_is = r.loss_is ∙ joined loss k.book.loss (loss m.entry) m.loss_is;
  rounding_is = r.rounding_is ∙ joined rounding_work k.book.rounding (rounding_work m.entry) m.rounding_is;
  count_is = let a = r.count_is in let b = m.count_is in let c = steps-more m.entry es in omega arith;
}
  where
    joined : (f : Entry → ℤ) {x : ℤ} (y z : ℤ) → x ≡ y +ℤ z → x +ℤ total f es ≡ y +ℤ (z +ℤ total f es)
    joined f {x} y z e = let t = total f es in ap (λ a. a +ℤ t) e ∙ solve 3 (λ y z t. y ⊕ z ⊕ t ≐ y ⊕ (z ⊕ t)) tt y z t

-- the run of qs from the voice v that leads to the voice w and leaves es
record Same (neck : Neck) (v w : Voice) (es : List Entry) (qs : List Request) : Type 0 where
  last : w ≡ last_voice neck v qs
  entered : es ≡ entries neck v qs

module _ (neck : Neck) (e₀ : ℤ) where
  abbrev Goal : Kept → Kept → List Request → Type 0
  Goal k k' qs = Reaches e₀ k k' (last_voice neck k.voice qs) (entries neck k.voice qs)

  joins : {k k' l : Kept} (q : Request) (qs : List Request) → Made neck k q k' → Goal k' l qs → Goal k l (q ∷ qs)
  unfolding last_voice entries
  joins {k} {k'} {l} q qs m r = subst (λ (t : Taken). Reaches e₀ k l (last_voice neck t.after qs) (t.entries ++ entries neck t.after qs)) (sym m.plain) (one_more m r)

  abbrev After : Kept → List Request → BookedCall → Type 0
  After k qs t = Goal k (last_kept neck t.after qs) (t.made ++ accepted_requests neck t.after qs)

  reaches : (qs : List Request) (k : Kept) → Sound e₀ k → Goal k (last_kept neck k qs) (accepted_requests neck k qs)
  unfolding last_kept accepted_requests last_voice entries
  reaches [] k h = nothing h
  reaches (q ∷ qs) k h = go (outcome neck k h q) (reaches qs)
    where
      go : Outcome neck k q → ((k : Kept) → Sound e₀ k → Goal k (last_kept neck k qs) (accepted_requests neck k qs)) → Goal k (last_kept neck k (q ∷ qs)) (accepted_requests neck k (q ∷ qs))
      go (made k' e m) rest = subst (After k qs) (sym e) (joins q (accepted_requests neck k' qs) m (rest k' (sound-next m h)))
      go (left e w) rest = subst (After k qs) (sym e) (rest k h)

  -- the whole list, while the count has room for its steps
  Room : Kept → List Request → Type 0
  Room k qs = k.book.count + steps (entries neck k.voice qs) ≤ 4294967295

  Whole : Kept → List Request → List Request → Type 0
  Whole k rs qs = Same neck k.voice (last_voice neck k.voice rs) (entries neck k.voice rs) qs

  whole : (qs : List Request) (k : Kept) → Sound e₀ k → Room k qs → Whole k (accepted_requests neck k qs) qs
  unfolding last_kept accepted_requests last_voice entries Room Whole
  whole [] k h l = record { last = refl; entered = refl }
  whole (q ∷ qs) k h l = go (outcome neck k h q) (whole qs)
    where
      Taking : Kept → List Request → BookedCall → Type 0
      Taking k qs t = Whole k (t.made ++ accepted_requests neck t.after qs) (q ∷ qs)

      go : Outcome neck k q → ((k : Kept) → Sound e₀ k → Room k qs → Whole k (accepted_requests neck k qs) qs) → Whole k (accepted_requests neck k (q ∷ qs)) (q ∷ qs)
      go (made k' e m) rest =
          let all : k.book.count + steps (m.entry ∷ entries neck k'.voice qs) ≤ 4294967295 = rw m.plain at l in
          let more : Room k' qs = (let a = m.count_is in let b = steps-more m.entry (entries neck k'.voice qs) in omega (arith, all, a, b)) in
          let r = rest k' (sound-next m h) more in
          let rs = accepted_requests neck k' qs in
          subst (Taking k qs) (sym e) record {
            last = subst (λ (t : Taken). last_voice neck t.after rs ≡ last_voice neck t.after qs) (sym m.plain) r.last;
            entered = subst (λ (t : Taken). t.entries ++ entries neck t.after rs ≡ t.entries ++ entries neck t.after qs) (sym m.plain) (ap (λ es. m.entry ∷ es) r.entered);
          }
      go (left e w) rest =
          let here = w (let a = steps-append (taken neck k.voice q).entries (entries neck (taken neck k.voice q).after qs) in omega arith) in
          let r = rest k h (rw here at l) in
          let rs = accepted_requests neck k qs in
          subst (Taking k qs) (sym e) record {
            last = subst (λ (t : Taken). last_voice neck k.voice rs ≡ last_voice neck t.after qs) (sym here) r.last;
            entered = subst (λ (t : Taken). entries neck k.voice rs ≡ t.entries ++ entries neck t.after qs) (sym here) r.entered;
          }

-- ---- 17 is never given

never-full : (neck : Neck) {e₀ : ℤ} {k : Kept} → Sound e₀ k → NeverFull neck k
unfolding booked_step booked_rules call_rules result_rules setup_rules booked_bend bent_rules
never-full neck {e₀} {k} h =
    let b = k.book in
    let ok : columns_ok b ≡ true = is_true (columns_ok b) (columns-ok h) in
    record {
      step = λ F. never-answered (λ r. r.answer) (booked_rules k.voice.setup neck (state_of k.voice.lent) b F) (booked_made k.voice.setup neck k.voice.lent b F) _ 16 (λ n. refl) _ refl (rw ok tt);
      bend = λ L'. never-answered (λ r. r.answer) (bent_rules k.voice.setup (state_of k.voice.lent) b L') (bent_made k.voice.setup k.voice.lent b L') _ 16 (λ n. refl) _ refl (rw ok tt);
    }

-- ---- a fresh start

zeros-ok : (f : ℤ → Bool) → T (f (pos 0)) → (n : ℕ) → T (all f (replicate n (pos 0)))
zeros-ok f t zero = tt
zeros-ok f t (suc n) = yes_and (f (pos 0)) (all f (replicate n (pos 0))) t (zeros-ok f t n)

-- what is lent after a fresh start
lent_after : Lent → StartResult → Lent
lent_after v r = elim r.answer [
  | accepted a ↦ record { first = r.first; second = r.second; contact = r.contact; turn = a.turn; finger = a.finger }
  | refused n ↦ v
]

height-ok : (w w' : ℤ) → T (finger_ok w w') → T (displacement_ok w) × T (displacement_ok w')
unfolding displacement_ok inside
height-ok w w' t =
    let (a, b) = and_yes (inside (pos 0) w (pos 1048576)) (displacement_ok w') t in
    let (low, high) = and_yes (le_z (pos 0) w) (le_z w (pos 1048576)) a in
    let bottom : neg_ℤ (pos 1048576) ≤ℤ pos 0 = le_z_yes tt in
    let least : pos 0 ≤ℤ w = le_z_yes low in
    let most : w ≤ℤ pos 1048576 = le_z_yes high in
    (within-inside 1048576 {x = w} (≤_trans bottom least) most, b)

pub fresh-held : (s : Setup) (w w' : ℤ) → Passed (setup_rules s) → T (finger_ok w w') → Held s (state_of (fresh s w w'))
unfolding fresh state_of displacement_ok contact_ok inside
fresh-held s w w' h t =
    let long = length-replicate (points s) (pos 0) in
    let (a, b) = height-ok w w' t in
    record {
      setup = h;
      newer-length = long;
      older-length = long;
      contact-length = long;
      range = record { newer = zeros-ok displacement_ok tt (points s); older = zeros-ok displacement_ok tt (points s); height = a; older-height = b; contact = zeros-ok contact_ok tt (points s); finger = tt };
    }

start-held : (s : Setup) (first second contact : List ℤ) (w w' : ℤ) (v : Lent) → start s first second contact w w' ≡ started_result s v → Held s (state_of v)
unfolding start start_rules setup_rules lent_after
start-held s first second contact w w' v q =
    let rules = start_rules s first second contact w w' in
    let (h, r) = accepted-by (λ (r : StartResult). r.answer) rules tt _ _ (λ n. refl) _ (ap (λ r. r.answer) q) in
    let same : fresh s w w' ≡ v = ap (lent_after v) (sym r ∙ q) in
    subst (λ (v : Lent). Held s (state_of v)) same (fresh-held s w w' (passed-append (setup_rules s) (drop 5 rules) h).0 (T_not-not (finger_ok w w') (fails 10 rules h)))

fresh-sound : {s : Setup} {v : Lent} → Held s (state_of v) → Sound (energy_of (voice s v)) (keeping (voice s v) (new_book s (state_of v)))
fresh-sound {s} {v} h = record {
  held = h;
  stored = refl;
  balance = solve 1 (λ e. e ≐ e ⊕ # 0 ⊖ # 0 ⊕ # 0) tt (energy_of (voice s v));
  start-within = energy-size h;
  loss-within = num 0;
  rounding-within = num 0;
  most = omega arith;
}

pub energy-book : EnergyBook
unfolding Room Whole
energy-book s first second contact w w' v q neck qs =
    let sound = fresh-sound {v = v} (start-held s first second contact w w' v q) in
    let k = keeping (voice s v) (new_book s (state_of v)) in
    let r = reaches neck (energy_of (voice s v)) qs k sound in (
      record {
        same = r.same;
        books = record {
          stored = r.sound.stored;
          work = r.work_is ∙ from_zero _;
          loss = r.loss_is ∙ from_zero _;
          rounding = r.rounding_is ∙ from_zero _;
          count = r.count_is ∙ (omega arith);
          balance = r.sound.balance;
        };
        whole = λ l. let t = whole neck (energy_of (voice s v)) qs k sound (omega arith) in (t.last, t.entered);
      },
      never-full neck r.sound,
    )
  where
    from_zero : (z : ℤ) → pos 0 +ℤ z ≡ z
    from_zero z = solve 1 (λ z. # 0 ⊕ z ≐ z) tt z
