-- 02, item 2, the symmetry: a step of the negated voice is the negated step, where the last moves have no gradient above zero; and so is every list of steps.
use Rattle.std.specs.Prelude.{◌≡◌, Bool, true, false, cond, T, eqb, ℤ, pos, ◌-ℤ◌, ◌*ℤ◌, length, drop}
use Rattle.std.proofs.Math.Path.{refl, sym, ap, ap₂}
use Rattle.std.proofs.Common.{◌∙◌, subst, arith}
use Rattle.std.proofs.Math.Bool.{not, ◌&&◌}
use mathlib.Core.List.{List, [], ◌∷◌, ◌++◌, map, zip_with}
use Prim.Native.Nat.{ℕ, zero, suc, ◌≤◌}
use Rattle.std.proofs.Math.IntN.{neg_ℤ, neg_ℤ-neg_ℤ, ◌+ℤ◌}
use Rattle.std.specs.Int.Signed.{le_z, le_z_yes}
use Rattle.std.proofs.lemmas.List.{length-map}
use Rattle.std.proofs.Math.ListN.{get_or-map}
use Rattle.integers.specs.Solve.{◌⊕◌, ◌⊖◌, ◌⊗◌, ⊝◌, #◌, ◌≐◌, solve}
use Rattle.integers.specs.Order.{≤-neg, pos-≤, suc-<}
use Rattle.integers.specs.Tests.{is_true}
use Rattle.integers.specs.Filled.{tabulate}
use Rattle.model.specs.Ranges.{all, inside, displacement_ok, contact_ok, force_ok}
use Rattle.model.specs.Refusal.{◌when◌, first_of, refused, unless}
use Rattle.model.specs.Setup.{L, M, S, m, e, points, setup_rules, lengths_rule}
use Rattle.model.specs.Differences.{at, places, plus, minus, D1, D2}
use Rattle.model.specs.Rounding.{nearest}
use Rattle.model.specs.State.{State, Lent, by_turn, state_of, put, Neck, Forces}
use Rattle.model.specs.Neck.{heights_rule}
use Rattle.model.specs.Step.{factor, clear, worked_step, next_state, buffers_rule, state_rule, state_ok, forces_rule, call_rules, result_rules, step_rules, StepResult, step}
use Rattle.model.specs.Steps.{history}
use Rattle.model.specs.declared.Setup.{Setup}
use Rattle.promises.specs.Symmetry.{Opposite, opposed, Contacts, Alike, Symmetry}
use Rattle.laws.specs.Refusals.{passed, front-number}
use Rattle.laws.specs.Strings.{neg-tabulate}
use Rattle.laws.specs.Nearest.{nearest-neg}
use Rattle.laws.specs.Moves.{factor-positive}
use Rattle.laws.specs.Accepted.{sound, examined, state_made, result_made}
use Rattle.laws.specs.Loose.{Zero, zero-gradients, side, push, pluck_at, loose_moves, worked-loose, contacts-kept, contact-length}

-- ---- negated strings

abbrev neg : List ℤ → List ℤ
neg = map neg_ℤ

at-neg : (u : List ℤ) (i : ℕ) → at (neg u) i ≡ neg_ℤ (at u i)
at-neg u zero = refl
at-neg u (suc k) = get_or-map neg_ℤ u k (pos 0)

minus-neg : (a b : List ℤ) → minus (neg a) (neg b) ≡ neg (minus a b)
unfolding minus zip_with
minus-neg [] b = refl
minus-neg (x ∷ a) [] = refl
minus-neg (x ∷ a) (y ∷ b) = ap₂ (λ z l. z ∷ l) (solve 2 (λ x y. ⊝ x ⊖ ⊝ y ≐ ⊝ (x ⊖ y)) tt x y) (minus-neg a b)

plus-neg : (a b : List ℤ) → plus (neg a) (neg b) ≡ neg (plus a b)
unfolding plus zip_with
plus-neg [] b = refl
plus-neg (x ∷ a) [] = refl
plus-neg (x ∷ a) (y ∷ b) = ap₂ (λ z l. z ∷ l) (solve 2 (λ x y. ⊝ x ⊕ ⊝ y ≐ ⊝ (x ⊕ y)) tt x y) (plus-neg a b)

D1-neg : (u : List ℤ) → D1 (neg u) ≡ neg (D1 u)
unfolding D1
D1-neg u = ap (λ (n : ℕ). tabulate n (λ k. at (neg u) k -ℤ pos 2 *ℤ at (neg u) (suc k) +ℤ at (neg u) (suc (suc k)))) (length-map u neg_ℤ)
    ∙ (λ j. tabulate (length u) (λ k. each k j)) ∙ sym (neg-tabulate (length u) (λ k. at u k -ℤ pos 2 *ℤ at u (suc k) +ℤ at u (suc (suc k))))
  where
    each : (k : ℕ) → at (neg u) k -ℤ pos 2 *ℤ at (neg u) (suc k) +ℤ at (neg u) (suc (suc k)) ≡ neg_ℤ (at u k -ℤ pos 2 *ℤ at u (suc k) +ℤ at u (suc (suc k)))
    each k = ap (λ z. z -ℤ pos 2 *ℤ at (neg u) (suc k) +ℤ at (neg u) (suc (suc k))) (at-neg u k)
        ∙ ap₂ (λ y z. neg_ℤ (at u k) -ℤ pos 2 *ℤ y +ℤ z) (at-neg u (suc k)) (at-neg u (suc (suc k)))
        ∙ solve 3 (λ a b c. ⊝ a ⊖ # 2 ⊗ ⊝ b ⊕ ⊝ c ≐ ⊝ (a ⊖ # 2 ⊗ b ⊕ c)) tt (at u k) (at u (suc k)) (at u (suc (suc k)))

side-neg : (s : Setup) (u v : List ℤ) (f : ℤ) (i : ℕ) → side s (neg u) (neg v) (neg_ℤ f) i ≡ neg_ℤ (side s u v f i)
unfolding side
side-neg s u v f i =
    let a = minus u v in
    let linear : (a' d d₂ b : ℤ) → ℤ = λ a' d d₂ b. pos 8192 *ℤ a' +ℤ pos (L s) *ℤ d -ℤ pos (M s) *ℤ d₂ +ℤ pos (S s) *ℤ b +ℤ pos 2 *ℤ pos 0 *ℤ pos 0 +ℤ neg_ℤ f in
    ap₂ (λ a' d. linear a' d (at (D2 (neg u)) i) (at (D1 (minus (neg u) (neg v))) i)) (there a (minus-neg u v)) (there (D1 u) (D1-neg u))
    ∙ ap₂ (λ d₂ b. linear (neg_ℤ (at a i)) (neg_ℤ (at (D1 u) i)) d₂ b) (there (D2 u) (ap D1 (D1-neg u) ∙ D1-neg (D1 u))) (there (D1 a) (ap D1 (minus-neg u v) ∙ D1-neg a))
    ∙ solve 8 (λ L M S a d d₂ b f. # 8192 ⊗ ⊝ a ⊕ L ⊗ ⊝ d ⊖ M ⊗ ⊝ d₂ ⊕ S ⊗ ⊝ b ⊕ # 2 ⊗ # 0 ⊗ # 0 ⊕ ⊝ f ≐ ⊝ (# 8192 ⊗ a ⊕ L ⊗ d ⊖ M ⊗ d₂ ⊕ S ⊗ b ⊕ # 2 ⊗ # 0 ⊗ # 0 ⊕ f)) tt
    (pos (L s)) (pos (M s)) (pos (S s)) (at a i) (at (D1 u) i) (at (D2 u) i) (at (D1 a) i) f
  where
    there : {l : List ℤ} (k : List ℤ) → l ≡ neg k → at l i ≡ neg_ℤ (at k i)
    there k q = ap (λ l. at l i) q ∙ at-neg k i

push-neg : (s : Setup) (w w' f : ℤ) → push s (neg_ℤ w) (neg_ℤ w') (neg_ℤ f) ≡ neg_ℤ (push s w w' f)
unfolding push
push-neg s w w' f = solve 4 (λ m w w' f. # 2 ⊗ m ⊗ (⊝ w ⊖ ⊝ w') ⊕ ⊝ f ≐ ⊝ (# 2 ⊗ m ⊗ (w ⊖ w') ⊕ f)) tt (pos (m s)) w w' f

-- ---- a range about 0

flip-test : (a b : ℤ) → le_z (neg_ℤ b) (neg_ℤ a) ≡ le_z a b
flip-test a b = both (le_z a b) (le_z (neg_ℤ b) (neg_ℤ a)) refl refl
  where
    both : (t t' : Bool) → le_z a b ≡ t → le_z (neg_ℤ b) (neg_ℤ a) ≡ t' → t' ≡ t
    both true true q q' = refl
    both false false q q' = refl
    both true false q q' = absurd (subst T q' (≤-neg {a = a} {b = b} (le_z_yes (rw q tt))).le)
    both false true q q' = absurd (subst T q (subst (λ z. T (le_z z b)) (neg_ℤ-neg_ℤ a) (subst (λ z. T (le_z (neg_ℤ (neg_ℤ a)) z)) (neg_ℤ-neg_ℤ b) (≤-neg {a = neg_ℤ b} {b = neg_ℤ a} (le_z_yes (rw q' tt))).le)))

and-swap : (a b : Bool) → (a && b) ≡ (b && a)
and-swap true true = refl
and-swap true false = refl
and-swap false true = refl
and-swap false false = refl

inside-neg : (n x : ℤ) → inside (neg_ℤ n) (neg_ℤ x) n ≡ inside (neg_ℤ n) x n
unfolding inside
inside-neg n x = ap₂ ◌&&◌ (flip-test x n) (ap (λ z. le_z (neg_ℤ x) z) (sym (neg_ℤ-neg_ℤ n)) ∙ flip-test (neg_ℤ n) x) ∙ and-swap (le_z x n) (le_z (neg_ℤ n) x)

displacement-neg : (x : ℤ) → displacement_ok (neg_ℤ x) ≡ displacement_ok x
unfolding displacement_ok
displacement-neg x = inside-neg (pos 1048576) x

force-neg : (x : ℤ) → force_ok (neg_ℤ x) ≡ force_ok x
unfolding force_ok
force-neg x = inside-neg (pos 1073741824) x

all-neg : (u : List ℤ) → all displacement_ok (neg u) ≡ all displacement_ok u
all-neg [] = refl
all-neg (x ∷ u) = ap₂ ◌&&◌ (displacement-neg x) (all-neg u)

all-neg-both : (u v : List ℤ) → all displacement_ok (neg u ++ neg v) ≡ all displacement_ok (u ++ v)
all-neg-both [] v = all-neg v
all-neg-both (x ∷ u) v = ap₂ ◌&&◌ (displacement-neg x) (all-neg-both u v)

-- ---- states

pub record OppositeState (x y : State) : Type 0 where
  pub newer : y.newer ≡ neg x.newer
  pub older : y.older ≡ neg x.older
  pub height : y.finger.newer ≡ neg_ℤ x.finger.newer
  pub older-height : y.finger.older ≡ neg_ℤ x.finger.older

turned : (n : ℕ) (a b : List ℤ) → by_turn n (neg a) (neg b) ≡ neg (by_turn n a b)
turned zero a b = refl
turned (suc n) a b = refl

opposite-state : {v mirror : Lent} → Opposite v mirror → OppositeState (state_of v) (state_of mirror)
unfolding state_of
opposite-state {v} {mirror} o = record {
  newer = rw (o.turn, o.first, o.second) (turned v.turn v.first v.second);
  older = rw (o.turn, o.first, o.second) (turned v.turn v.second v.first);
  height = o.height;
  older-height = o.older-height;
}

module _ (s : Setup) (neck : Neck) (x y : State) (F : Forces) (o : OppositeState x y) (zx : Zero (worked_step s neck x F).gradients) (zy : Zero (worked_step s neck y (opposed F)).gradients) (mass : 1 ≤ m s) where
  pluck-neg : (b : Bool) (f : ℤ) → cond b (neg_ℤ f) (pos 0) ≡ neg_ℤ (cond b f (pos 0))
  pluck-neg true f = refl
  pluck-neg false f = refl

  points-neg : (loose_moves s y (opposed F)).points ≡ neg (loose_moves s x F).points
  points-neg = (λ j. places (points s) (λ i. each i j)) ∙ sym (neg-tabulate (points s) _)
    where
      each : (i : ℕ) → nearest (side s y.newer y.older (pluck_at s (opposed F) i) i) (factor s (pos 0)) ≡ neg_ℤ (nearest (side s x.newer x.older (pluck_at s F i) i) (factor s (pos 0)))
      each i = ap (λ a. nearest a (factor s (pos 0)))
          (ap₂ (λ u v. side s u v (pluck_at s (opposed F) i) i) o.newer o.older ∙ ap (λ f. side s (neg x.newer) (neg x.older) f i) (pluck-neg (eqb i (e s)) F.pluck) ∙ side-neg s x.newer x.older (pluck_at s F i) i)
          ∙ nearest-neg (side s x.newer x.older (pluck_at s F i) i) (factor-positive s (pos 0))

  finger-neg : (loose_moves s y (opposed F)).finger ≡ neg_ℤ (loose_moves s x F).finger
  finger-neg = ap (λ a. nearest a (pos (m s))) (ap₂ (λ w w'. push s w w' (neg_ℤ F.finger)) o.height o.older-height ∙ push-neg s x.finger.newer x.finger.older F.finger) ∙ nearest-neg _ (suc-< (pos-≤ mass))

  pub next-opposite : OppositeState (next_state (worked_step s neck x F)) (next_state (worked_step s neck y (opposed F)))
  unfolding next_state worked_step clear
  next-opposite =
      let δx = worked-loose s neck x F zx mass in
      let δy = worked-loose s neck y (opposed F) zy mass in
      record {
        newer = ap₂ plus o.older (ap (λ δ. δ.points) δy ∙ points-neg ∙ sym (ap (λ δ. neg δ.points) δx)) ∙ plus-neg x.older (worked_step s neck x F).moves.points;
        older = o.newer;
        height = ap₂ ◌+ℤ◌ o.older-height (ap (λ δ. δ.finger) δy ∙ finger-neg ∙ sym (ap (λ δ. neg_ℤ δ.finger) δx)) ∙ solve 2 (λ a b. ⊝ a ⊕ ⊝ b ≐ ⊝ (a ⊕ b)) tt x.finger.older (worked_step s neck x F).moves.finger;
        older-height = o.height;
      }

-- ---- the refusals

module _ (s : Setup) (neck : Neck) (x y : State) (F : Forces) (o : OppositeState x y)
    (tx : T (all contact_ok (x.finger.contact ∷ x.contact))) (ty : T (all contact_ok (y.finger.contact ∷ y.contact))) (l : length y.contact ≡ length x.contact) where
  state-neg : state_ok y ≡ state_ok x
  state-neg = ap₂ ◌&&◌
      (ap₂ ◌&&◌ (ap displacement_ok o.height ∙ displacement-neg _) (ap₂ ◌&&◌ (ap displacement_ok o.older-height ∙ displacement-neg _) (ap₂ (λ a b. all displacement_ok (a ++ b)) o.newer o.older ∙ all-neg-both x.newer x.older)))
      (is_true _ ty ∙ sym (is_true _ tx))

  buffers-neg : buffers_rule s neck y ≡ buffers_rule s neck x
  buffers-neg = ap₂ (λ a b. lengths_rule s (length neck.heights ∷ length neck.stiffness ∷ a ∷ b ∷ length y.contact ∷ [])) (ap length o.newer ∙ length-map x.newer neg_ℤ) (ap length o.older ∙ length-map x.older neg_ℤ)
      ∙ ap (λ (n : ℕ). lengths_rule s (length neck.heights ∷ length neck.stiffness ∷ length x.newer ∷ length x.older ∷ n ∷ [])) l

  forces-neg : forces_rule (opposed F) ≡ forces_rule F
  forces-neg = ap₂ (λ a b. 12 when not (a && (b && true))) (force-neg F.pluck) (force-neg F.finger)

  call-neg : call_rules s neck y (opposed F) ≡ call_rules s neck x F
  unfolding call_rules
  call-neg = ap₂ (λ a b. setup_rules s ++ a ∷ heights_rule neck.heights ∷ (11 when not b) ∷ forces_rule (opposed F) ∷ []) buffers-neg state-neg
      ∙ ap (λ r. setup_rules s ++ buffers_rule s neck x ∷ heights_rule neck.heights ∷ state_rule x ∷ r ∷ []) forces-neg

  module _ (zx : Zero (worked_step s neck x F).gradients) (zy : Zero (worked_step s neck y (opposed F)).gradients) where
    x' : State
    x' = next_state (worked_step s neck x F)

    y' : State
    y' = next_state (worked_step s neck y (opposed F))

    result-neg : 1 ≤ m s → result_rules y' ≡ result_rules x'
    unfolding result_rules x' y'
    result-neg mass =
        let n = next-opposite s neck x y F o zx zy mass in
        ap₂ (λ a b. (13 when not a) ∷ (14 when not b) ∷ [])
        (ap₂ ◌&&◌ (ap displacement_ok n.height ∙ displacement-neg _) (ap (all displacement_ok) n.newer ∙ all-neg x'.newer))
        (is_true (all contact_ok (y'.finger.contact ∷ y'.contact)) (contacts-kept s neck y (opposed F) zy ty) ∙ sym (is_true (all contact_ok (x'.finger.contact ∷ x'.contact)) (contacts-kept s neck x F zx tx)))

    pub number-neg : first_of (step_rules s neck y (opposed F)) ≡ first_of (step_rules s neck x F)
    unfolding step_rules call_rules setup_rules x' y'
    number-neg = go (first_of (call_rules s neck x F)) refl
      where
        go : (n : ℕ) → first_of (call_rules s neck x F) ≡ n → first_of (step_rules s neck y (opposed F)) ≡ first_of (step_rules s neck x F)
        go zero q = ap₂ (λ a b. first_of (a ++ b)) call-neg (result-neg (sound s (drop 5 (call_rules s neck x F)) (passed (call_rules s neck x F) tt q)).mass-low)
        go (suc n) q = front-number (call_rules s neck y (opposed F)) (result_rules y') (suc n) (sym (ap first_of call-neg ∙ q)) (λ z. omega arith) ∙ sym (front-number (call_rules s neck x F) (result_rules x') (suc n) (sym q) (λ z. omega arith))

-- ---- a call

pub record MirroredStep (r q : StepResult) : Type 0 where
  pub alike : Alike r.answer q.answer
  pub opposite : Opposite r.lent q.lent
  pub contacts : Contacts r.lent q.lent

put-opposite : (v mirror : Lent) (x y : State) → Opposite v mirror → OppositeState x y → Opposite (put v x) (put mirror y)
unfolding put
put-opposite v mirror x y o n = record {
  first = rw (o.turn, o.first, n.newer) (turned v.turn v.first x.newer);
  second = rw (o.turn, o.second, n.newer) (turned v.turn x.newer v.second);
  turn = ap (λ (n : ℕ). by_turn n 1 0) o.turn;
  height = n.height;
  older-height = n.older-height;
}

module _ (s : Setup) (neck : Neck) (v mirror : Lent) (F : Forces) (o : Opposite v mirror) (k : Contacts v mirror) (zv : Zero (worked_step s neck (state_of v) F).gradients) (zm : Zero (worked_step s neck (state_of mirror) (opposed F)).gradients) where
  turned_down : Lent → ℕ → StepResult
  turned_down v n = record { answer = refused n; lent = v }

  number : first_of (step_rules s neck (state_of mirror) (opposed F)) ≡ first_of (step_rules s neck (state_of v) F)
  unfolding state_of
  number = number-neg s neck (state_of v) (state_of mirror) F (opposite-state o) k.one k.other k.lengths zv zm

  pub step-mirrored : MirroredStep (step s neck v F) (step s neck mirror (opposed F))
  unfolding step turned_down step_rules call_rules result_rules setup_rules state_of put
  step-mirrored = rw number (go (first_of (step_rules s neck (state_of v) F)) refl)
    where
      go : (n : ℕ) → first_of (step_rules s neck (state_of v) F) ≡ n → MirroredStep (unless n (result_made s neck v F) (turned_down v)) (unless n (result_made s neck mirror (opposed F)) (turned_down mirror))
      go (suc n) q = record { alike = refl; opposite = o; contacts = k }
      go zero q =
          let passed-v = passed (step_rules s neck (state_of v) F) tt q in
          let passed-mirror = passed (step_rules s neck (state_of mirror) (opposed F)) tt (number ∙ q) in
          let ev = examined s neck (state_of v) (drop 6 (step_rules s neck (state_of v) F)) passed-v in
          let em = examined s neck (state_of mirror) (drop 6 (step_rules s neck (state_of mirror) (opposed F))) passed-mirror in
          record {
            alike = tt;
            opposite = put-opposite v mirror (state_made s neck v F) (state_made s neck mirror (opposed F)) o (next-opposite s neck (state_of v) (state_of mirror) F (opposite-state o) zv zm ev.setup.mass-low);
            contacts = record {
              one = contacts-kept s neck (state_of v) F zv k.one;
              other = contacts-kept s neck (state_of mirror) (opposed F) zm k.other;
              lengths = contact-length s neck (state_of mirror) (opposed F) em ∙ sym (contact-length s neck (state_of v) F ev);
            };
          }

-- ---- a list of steps

pub symmetry : Symmetry
unfolding history
symmetry s neck v mirror o k [] hv hm = tt
symmetry s neck v mirror o k (F ∷ Fs) hv hm =
    let r = step-mirrored s neck v mirror F o k (zero-gradients s neck (state_of v) F hv.0.points hv.0.finger) (zero-gradients s neck (state_of mirror) (opposed F) hm.0.points hm.0.finger) in
    (r.alike, r.opposite, symmetry s neck (step s neck v F).lent (step s neck mirror (opposed F)).lent r.opposite r.contacts Fs hv.1 hm.1)
