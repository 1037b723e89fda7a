-- Demand 2: the state after an accepted step solves 01's equations, and is the only one that does.
use Rattle.std.specs.Prelude.{◌≡◌, refl, Bool, true, false, ◌≢◌, ℕ, zero, suc, ◌≤◌, ◌<◌, eqb, ℤ, pos, ◌+ℤ◌, ◌-ℤ◌, ◌*ℤ◌, ◌<ℤ◌, length, get_or}
use Rattle.std.proofs.Common.{sym, ◌∙◌, ap₂, subst, true≢false, inl, inr, ⊎_elim, zero-le, suc-le-suc, arith, ext_get_or}
use Rattle.std.proofs.Math.Path.{ap}
use mathlib.Core.List.{List, [], ◌∷◌, zip_with}
use Rattle.std.proofs.Math.Facts.{eqb_yes, eqb_no}
use Rattle.integers.specs.Solve.{◌⊕◌, ◌⊖◌, ◌≐◌, solve}
use Rattle.integers.specs.Derive.{≡-from}
use Rattle.integers.specs.Order.{<-or-≤}
use Rattle.model.specs.Refusal.{accepted}
use Rattle.model.specs.Setup.{K, p, points}
use Rattle.model.specs.Differences.{at, minus}
use Rattle.model.specs.Gradient.{gradient}
use Rattle.model.specs.State.{State, Lent, state_of, Neck, Forces, PointsAndFinger}
use Rattle.model.specs.Step.{system, gradients, moves, clear, cleared, working, next_state, totals, some_pull, dropped, worked_step, step}
use Rattle.model.specs.declared.Setup.{Setup}
use Rattle.model.specs.declared.Frame.{Frame}
use Rattle.promises.specs.Promises.{IsGradient, AreGradients, Solves, Left, Drops, Workings, Pulled, KeptOrPulled, Demand2, NoContactPulls}
use Rattle.laws.specs.Strings.{◌spans◌, spans-plus, spans-minus, spans-times, at-plus, at-minus, at-times}
use Rattle.laws.specs.Nearest.{unique}
use Rattle.laws.specs.System.{rounded₁-unique, rounded₂-unique}
use Rattle.laws.specs.Gradient.{gradient_is}
use Rattle.laws.specs.Accepted.{SetupFacts, StepFacts, Examined, accepted-step, step-turn, step-untouched}
use Rattle.laws.specs.Moves.{A-positive, det-positive, spans-moves, moves-nearest}
use Rattle.laws.specs.Clearing.{examined-clear, clears}
use Rattle.laws.specs.Pulling.{left_is, W, D, spans-dropped, at-dropped, nothing, end, drops-end, spans-gradients, worked-twice, spans-last, worked-none-pulls}

-- ---- a working from x, with any gradients, solves them

module _ {s : Setup} {neck : Neck} {x : State} (h : Examined s neck x) (Γ : PointsAndFinger) (F : Forces) (G : PointsAndFinger) (hG : G.points spans points s) where
  δ : PointsAndFinger
  δ = moves s x G F

  hδ : δ.points spans points s
  unfolding δ
  hδ = spans-moves s x G F

  z : State
  z = next_state (working s x Γ F G)

  -- the moves, read off the two states
  move : (i : ℕ) → at z.newer i -ℤ at x.older i ≡ at δ.points i
  unfolding z next_state δ
  move i = ap (λ a. a -ℤ at x.older i) (at-plus h.older hδ i) ∙ solve 2 (λ v d. v ⊕ d ⊖ v ≐ d) tt (at x.older i) (at δ.points i)

  finger-move : z.finger.newer -ℤ x.finger.older ≡ δ.finger
  unfolding z next_state δ
  finger-move = solve 2 (λ v d. v ⊕ d ⊖ v ≐ d) tt x.finger.older δ.finger

  solves : Solves s x G F (next_state (working s x Γ F G))
  unfolding z next_state δ
  solves =
      let n = moves-nearest s x G F h.setup in
      record {
        length-newer = (spans-plus h.older hδ).long;
        length-contact = (spans-minus h.contact (spans-times hG hδ)).long;
        older = refl;
        finger-older = refl;
        away = λ i a b d. rw (move i) (n.away i a b d);
        at-finger = rw (move (p s), finger-move) n.finger;
        contact = λ i. rw (move i) (at-minus h.contact (spans-times hG hδ) i ∙ ap (λ t. at x.contact i -ℤ t) (at-times hG hδ i));
        finger-contact = rw (move (p s), finger-move) refl;
      }

  drops : Drops s x F G (dropped (working s x Γ F G))
  unfolding dropped totals
  drops = record {
    next = next_state (working s x Γ F G);
    solves = solves;
    length-points = (spans-dropped h Γ F G hG).long;
    point = λ i. rw (at-dropped h Γ F G hG i) (left_is _ _);
    finger = left_is _ _;
  }

-- ---- and no other state does

cancel : (v : ℤ) {a b : ℤ} → a -ℤ v ≡ b -ℤ v → a ≡ b
cancel v {a} {b} q = ≡-from q (solve 3 (λ a b v. a ⊖ b ≐ a ⊖ v ⊖ (b ⊖ v)) tt a b v)

module _ {s : Setup} {x : State} {G : PointsAndFinger} {F : Forces} {y z : State} (ok : SetupFacts s) (hy : Solves s x G F y) (hz : Solves s x G F z) where
  same_point : (i : ℕ) → 1 ≤ i → i ≤ points s → at y.newer i ≡ at z.newer i
  same_point i h l = go (eqb i (p s)) refl
    where
      go : (b : Bool) → eqb i (p s) ≡ b → at y.newer i ≡ at z.newer i
      go true q =
          let here : i ≡ p s = eqb_yes (rw q tt) in
          let t = system s x G F in
          let d = det-positive s x G F ok.mass-low in
          rw here (cancel (at x.older (p s)) (rounded₁-unique t d hy.at-finger ∙ sym (rounded₁-unique t d hz.at-finger)))
      go false q = let d : i ≢ p s = eqb_no (rw q tt) in cancel (at x.older i) (unique (A-positive s G i) (hy.away i h l d) (hz.away i h l d))

  same-newer : y.newer ≡ z.newer
  same-newer = ext_get_or (pos 0) y.newer z.newer (hy.length-newer ∙ sym hz.length-newer) (λ k l. same_point (suc k) (suc-le-suc zero-le) (rw hy.length-newer at l))

  same-contact : y.contact ≡ z.contact
  same-contact = ext_get_or (pos 0) y.contact z.contact (hy.length-contact ∙ sym hz.length-contact)
      (λ k l. hy.contact (suc k) ∙ ap (λ u. at x.contact (suc k) -ℤ at G.points (suc k) *ℤ (at u (suc k) -ℤ at x.older (suc k))) same-newer ∙ sym (hz.contact (suc k)))

  same-height : y.finger.newer ≡ z.finger.newer
  same-height = let t = system s x G F in let d = det-positive s x G F ok.mass-low in cancel x.finger.older (rounded₂-unique t d hy.at-finger ∙ sym (rounded₂-unique t d hz.at-finger))

  same-finger-contact : y.finger.contact ≡ z.finger.contact
  same-finger-contact = hy.finger-contact
      ∙ ap₂ (λ u w. x.finger.contact +ℤ G.finger *ℤ ((at u (p s) -ℤ at x.older (p s)) -ℤ (w -ℤ x.finger.older))) same-newer same-height ∙ sym hz.finger-contact

  pub solves-unique : y ≡ z
  solves-unique = λ i. record {
    newer = same-newer i;
    older = (hy.older ∙ sym hz.older) i;
    contact = same-contact i;
    finger = record { newer = same-height i; older = (hy.finger-older ∙ sym hz.finger-older) i; contact = same-finger-contact i };
  }

-- ---- its gradients are 01's

zip-gradients : (ks : List ℕ) (ds : List ℤ) → length ks ≡ length ds → (k : ℕ) → k < length ks → IsGradient (get_or ks k 0) (at ds (suc k)) (at (zip_with gradient ks ds) (suc k))
unfolding zip_with
zip-gradients [] ds q k h = absurd (omega arith)
zip-gradients (n ∷ ks) [] q k h = absurd (omega arith)
zip-gradients (n ∷ ks) (d ∷ ds) q zero h = gradient_is n d
zip-gradients (n ∷ ks) (d ∷ ds) q (suc k) h = zip-gradients ks ds (omega arith) k (omega arith)

are-gradients : {s : Setup} {neck : Neck} {x : State} (F : Forces) → Examined s neck x → AreGradients s neck x (gradients s neck x)
unfolding gradients
are-gradients {s} {neck} {x} F h = record {
  length-points = (spans-gradients h F).long;
  point = λ k l. rw (← at-minus h.heights h.newer (suc k)) (zip-gradients neck.stiffness (minus neck.heights x.newer) (h.stiffness ∙ sym (spans-minus h.heights h.newer).long) k (rw h.stiffness l));
  finger = gradient_is (K s) (at x.newer (p s) -ℤ x.finger.newer);
}

-- ---- and those of the last moves are reached in one to three workings

record Reached (s : Setup) (x : State) (F : Forces) (G last : PointsAndFinger) : Type 0 where
  by : List PointsAndFinger
  workings : Workings s x F G by last
  few : length by ≤ 2

module _ {s : Setup} {neck : Neck} {x : State} (h : Examined s neck x) (Γ : PointsAndFinger) (F : Forces) where
  still : (G : PointsAndFinger) → G.points spans points s → D h Γ F G ≡ G → Drops s x F G G
  still G hG q = subst (λ (H : PointsAndFinger). Drops s x F G H) q (drops h Γ F G hG)

  changes : (G : PointsAndFinger) → G.points spans points s → some_pull (W h Γ F G) ≡ true → G ≢ D h Γ F G
  changes G hG k q = true≢false (sym k ∙ end h Γ F G hG (sym q))

  reached : (G : PointsAndFinger) → G.points spans points s → Reached s x F G (D h Γ F (D h Γ F G))
  reached G hG = go (some_pull (W h Γ F G)) refl (some_pull (W h Γ F G')) refl
    where
      G' : PointsAndFinger
      G' = D h Γ F G

      hG' : G'.points spans points s
      hG' = spans-dropped h Γ F G hG

      go : (a : Bool) → some_pull (W h Γ F G) ≡ a → (b : Bool) → some_pull (W h Γ F G') ≡ b → Reached s x F G (D h Γ F G')
      go false k b l = let q = nothing h Γ F G hG k in record { by = []; workings = (still G hG q, ap (D h Γ F) q ∙ q); few = omega arith }
      go true k false l = let q = nothing h Γ F G' hG' l in record { by = G' ∷ []; workings = (drops h Γ F G hG, changes G hG k, (still G' hG' q, q)); few = omega arith }
      go true k true l = record {
        by = G' ∷ D h Γ F G' ∷ [];
        workings = (drops h Γ F G hG, changes G hG k, (drops h Γ F G' hG', changes G' hG' l, (still (D h Γ F G') (spans-dropped h Γ F G' hG') (drops-end h Γ F G hG), refl)));
        few = omega arith;
      }

-- what becomes of one contact
module _ {s : Setup} {x : State} {F : Forces} (g : PointsAndFinger → ℤ) (ψ : State → ℤ) (one : (G H : PointsAndFinger) (d : Drops s x F G H) → Left (g G) (ψ x +ℤ ψ d.next) (g H)) where
  after : (G H last : PointsAndFinger) → Drops s x F G H → KeptOrPulled s x F g ψ H last → KeptOrPulled s x F g ψ G last
  after G H last d later = ⊎_elim (λ a. ⊎_elim (λ b. inr (pulled a b, dead ((one G H d).pulls a b))) (λ b. same ((one G H d).pushes b)) (<-or-≤ (ψ x +ℤ ψ d.next) (pos 0)))
      (λ a. same ((one G H d).idle a)) (<-or-≤ (pos 0) (g G))
    where
      pulled : pos 0 <ℤ g G → (ψ x +ℤ ψ d.next) <ℤ pos 0 → Pulled s x F g ψ
      pulled a b = record { gradients = G; next = d.next; solves = d.solves; above = a; below = b }

      dead : g H ≡ pos 0 → g last ≡ pos 0
      dead z = ⊎_elim (λ q. q ∙ z) (λ r. r.1) later

      same : g H ≡ g G → KeptOrPulled s x F g ψ G last
      same z = ⊎_elim (λ q. inl (q ∙ z)) inr later

  fate : (Hs : List PointsAndFinger) (G last : PointsAndFinger) → Workings s x F G Hs last → KeptOrPulled s x F g ψ G last
  fate [] G last (d, q) = inl (ap g q)
  fate (H ∷ Hs) G last (d, n, rest) = after G H last d (fate Hs H last rest)

module _ (s : Setup) (neck : Neck) (v : Lent) (F : Forces) (f : Frame) (q : (step s neck v F).answer ≡ accepted f) where
  facts : StepFacts s neck (state_of v) F (state_of (step s neck v F).lent)
  facts = accepted-step s neck v F f q

  last-reached : Reached s (clear s neck (state_of v)) F (gradients s neck (state_of v)) (worked_step s neck (state_of v) F).gradients
  last-reached = let h = facts.examined in rw (worked-twice h F) (reached (examined-clear h) (cleared s neck (state_of v)) F (gradients s neck (state_of v)) (spans-gradients h F))

  step-solved : Solves s (clear s neck (state_of v)) (worked_step s neck (state_of v) F).gradients F (state_of (step s neck v F).lent)
  unfolding worked_step
  step-solved = let h = facts.examined in rw facts.result (solves (examined-clear h) (cleared s neck (state_of v)) F (worked_step s neck (state_of v) F).gradients (spans-last h F))

pub step-solves : Demand2
unfolding worked_step
step-solves s neck v F f q =
    let h = (facts s neck v F f q).examined in
    let solved = step-solved s neck v F f q in
    let last = last-reached s neck v F f q in
    record {
      clears = clears h;
      gradient = are-gradients F h;
      dropped = last.by;
      workings = last.workings;
      three = last.few;
      point = λ i. fate (λ G. at G.points i) (λ x. at x.contact i) (λ G H d. d.point i) last.by _ _ last.workings;
      finger = fate (λ G. G.finger) (λ x. x.finger.contact) (λ G H d. d.finger) last.by _ _ last.workings;
      solves = solved;
      unique = λ y k. solves-unique h.setup k solved;
      flipped = step-turn s neck v F f q;
      untouched = step-untouched s neck v F f q;
    }

pub no-contact-pulls : NoContactPulls
no-contact-pulls s neck v F f q = let h = facts s neck v F f q in rw h.result (worked-none-pulls h.examined F)
