-- 02, item 3: contacts that pull are dropped, and the moves worked out again. Away from p a point's move depends on its own gradient alone, at p on two;
-- so two drops are enough, and what they leave is said outright.
use Rattle.std.specs.Prelude.{◌≡◌, Bool, ◌&&◌, ◌||◌, ◌≢◌, eqb, pos, ◌+ℤ◌, ◌-ℤ◌, ◌*ℤ◌, ◌≤ℤ◌, ◌<ℤ◌, length, get_or}
use Rattle.std.proofs.Math.Path.{refl, sym, ap, ap₂}
use Rattle.std.proofs.Common.{◌∙◌, true≢false, ⊎_elim, arith, ext_get_or}
use Rattle.std.proofs.Math.Bool.{true, false, cond, and_comm}
use mathlib.Core.List.{List, [], ◌∷◌, zip_with}
use Prim.Native.Nat.{ℕ, zero, suc, ◌≤◌, ◌<◌, zero-le, suc-le-suc}
use Rattle.std.proofs.Math.Dec.{eqb_refl}
use Rattle.std.proofs.Math.IntN.{ℤ}
use Rattle.std.specs.Int.Signed.{lt_z, lt_z_yes, clash_ℤ}
use Rattle.std.proofs.Math.Facts.{and_yes, eqb_yes, eqb_no, no_eqb}
use Rattle.integers.specs.Filled.{length-tabulate}
use Rattle.integers.specs.Order.{≤-refl, ≤-antisym, ≤-of-eq, <-or-≤, times-nonneg}
use Rattle.integers.specs.Solve.{◌⊗◌, #◌, ◌≐◌, solve}
use Rattle.integers.specs.Tests.{is_true, is_false, lt-lt_z, le-lt_z}
use Rattle.model.specs.Ranges.{any}
use Rattle.model.specs.Setup.{N, K, p, e, points}
use Rattle.model.specs.Differences.{at, minus, places}
use Rattle.model.specs.Gradient.{gradient}
use Rattle.model.specs.Rounding.{nearest}
use Rattle.model.specs.System.{System, rounded₁, rounded₂}
use Rattle.model.specs.State.{State, Neck, Forces, PointsAndFinger}
use Rattle.model.specs.Step.{under_finger, factor, right_side, finger_system, A, c, system, moves, gradients, clear, cleared, WorkedStep, working, next_state, pulls, left, totals, some_pull, dropped, settled, worked_step}
use Rattle.model.specs.declared.Finger.{Finger}
use Rattle.model.specs.declared.Setup.{Setup}
use Rattle.promises.specs.Promises.{Left, NonePulls}
use Rattle.laws.specs.Strings.{◌spans◌, length-zip, at_places, spans-zip, at-zip, spans-plus, spans-minus, spans-times, at-plus, at-minus, at-times}
use Rattle.laws.specs.Gradient.{gradient-nonneg}
use Rattle.laws.specs.Accepted.{Examined}
use Rattle.laws.specs.Clearing.{examined-clear}
use Rattle.laws.specs.Moves.{spans-moves, move-away, move-finger}

-- ---- one contact

module _ (g q : ℤ) where
  pulls-yes : pos 0 <ℤ g → q <ℤ pos 0 → pulls g q ≡ true
  unfolding pulls
  pulls-yes h k = ap₂ (λ a b. a && b) (lt-lt_z (pos 0) g h) (lt-lt_z q (pos 0) k)

  above : pulls g q ≡ true → pos 0 <ℤ g
  unfolding pulls
  above h = lt_z_yes (and_yes (lt_z (pos 0) g) (lt_z q (pos 0)) (rw h tt)).0

  idle : g ≤ℤ pos 0 → pulls g q ≡ false
  unfolding pulls
  idle h = ap (λ a. a && lt_z q (pos 0)) (le-lt_z (pos 0) g h)

  pushes : pos 0 ≤ℤ q → pulls g q ≡ false
  unfolding pulls
  pushes h = and_comm (lt_z (pos 0) g) (lt_z q (pos 0)) ∙ ap (λ b. b && lt_z (pos 0) g) (le-lt_z q (pos 0) h)

  left_by : (b : Bool) → pulls g q ≡ b → left g q ≡ cond b (pos 0) g
  unfolding left
  left_by b h = ap (λ b. cond b (pos 0) g) h

  pub left_is : Left g q (left g q)
  left_is = record { pulls = λ h k. left_by true (pulls-yes h k); idle = λ h. left_by false (idle h); pushes = λ h. left_by false (pushes h) }

  -- where the drop changes nothing it does not pull
  still : left g q ≡ g → pulls g q ≡ false
  still h = go (pulls g q) refl
    where
      go : (b : Bool) → pulls g q ≡ b → pulls g q ≡ false
      go true k = clash_ℤ (above k) (≤-of-eq (sym h ∙ left_by true k))
      go false k = k

  pub no-pull : pos 0 ≤ℤ g → left g q ≡ g → pos 0 ≤ℤ (g *ℤ q)
  no-pull h k = ⊎_elim (λ a. ⊎_elim (λ b. absurd (true≢false (sym (pulls-yes a b) ∙ still k))) (λ b. times-nonneg h b) (<-or-≤ q (pos 0)))
      (λ a. rw (≤-antisym a h) (≤-of-eq (solve 1 (λ q. # 0 ≐ # 0 ⊗ q) tt q))) (<-or-≤ (pos 0) g)

left-zero : (q : ℤ) → left (pos 0) q ≡ pos 0
unfolding left pulls
left-zero q = refl

-- what holds of 0 and of a gradient holds of what is left of it
pub left-keeps : (P : ℤ → Type 0) → P (pos 0) → (g q : ℤ) → P g → P (left g q)
unfolding left
left-keeps P z g q h = go (pulls g q)
  where
    go : (b : Bool) → P (cond b (pos 0) g)
    go true = z
    go false = h

-- ---- a contact whose sum depends on its own gradient: one drop is enough

once : (u : ℤ → ℤ) (g : ℤ) → let h = left g (u g) in left h (u h) ≡ h
once u g = go (pulls g (u g)) refl
  where
    go : (b : Bool) → pulls g (u g) ≡ b → left (left g (u g)) (u (left g (u g))) ≡ left g (u g)
    go true k = rw (left_by g (u g) true k) (left-zero (u (pos 0)))
    go false k = let h : left g (u g) ≡ g = left_by g (u g) false k in ap (λ z. left z (u z)) h

-- ---- two whose sums depend on both gradients: two drops are enough

module _ (u v : ℤ → ℤ → ℤ) where
  abbrev pub drop_pair : ℤ × ℤ → ℤ × ℤ
  drop_pair r = (left r.0 (u r.0 r.1), left r.1 (v r.0 r.1))

  twice : (r : ℤ × ℤ) → drop_pair (drop_pair (drop_pair r)) ≡ drop_pair (drop_pair r)
  twice (a, b) = go (pulls a (u a b)) (pulls b (v a b)) refl refl
    where
      first : (h : ℤ) → drop_pair (drop_pair (pos 0, h)) ≡ drop_pair (pos 0, h)
      first h = rw (left-zero (u (pos 0) h), left-zero (u (pos 0) (left h (v (pos 0) h)))) (ap (λ z. (pos 0, z)) (once (v (pos 0)) h))

      second : (h : ℤ) → drop_pair (drop_pair (h, pos 0)) ≡ drop_pair (h, pos 0)
      second h = rw (left-zero (v h (pos 0)), left-zero (v (left h (u h (pos 0))) (pos 0))) (ap (λ z. (z, pos 0)) (once (λ a. u a (pos 0)) h))

      go : (P Q : Bool) → pulls a (u a b) ≡ P → pulls b (v a b) ≡ Q → drop_pair (drop_pair (drop_pair (a, b))) ≡ drop_pair (drop_pair (a, b))
      go true Q k l = rw (left_by a (u a b) true k) (first (left b (v a b)))
      go false true k l = rw (left_by b (v a b) true l) (second (left a (u a b)))
      go false false k l = let h : drop_pair (a, b) ≡ (a, b) = ap₂ (λ a b. (a, b)) (left_by a (u a b) false k) (left_by b (v a b) false l) in ap (λ r. drop_pair (drop_pair r)) h

-- ---- all contacts of a working

neither : (a b : Bool) → (a || b) ≡ false → (a ≡ false) × (b ≡ false)
neither true b h = absurd (true≢false h)
neither false true h = absurd (true≢false h)
neither false false h = (refl, refl)

none-pulls : (gs qs : List ℤ) → length gs ≡ length qs → any (λ b. b) (zip_with pulls gs qs) ≡ false → zip_with left gs qs ≡ gs
unfolding zip_with
none-pulls [] qs l h = refl
none-pulls (g ∷ gs) [] l h = absurd (omega arith)
none-pulls (g ∷ gs) (q ∷ qs) l h = let k = neither (pulls g q) (any (λ b. b) (zip_with pulls gs qs)) h in ap₂ (λ a b. a ∷ b) (left_by g q false k.0) (none-pulls gs qs (omega arith) k.1)

all-still : (gs qs : List ℤ) → length gs ≡ length qs → zip_with left gs qs ≡ gs → any (λ b. b) (zip_with pulls gs qs) ≡ false
unfolding zip_with
all-still [] qs l h = refl
all-still (g ∷ gs) [] l h = absurd (omega arith)
all-still (g ∷ gs) (q ∷ qs) l h = let a : left g q ≡ g = cc in let b : zip_with left gs qs ≡ gs = cc in ap₂ (λ a b. a || b) (still g q a) (all-still gs qs (omega arith) b)

-- ---- a point by its right side, in which its gradient has a part, and its contact variable ψ

module _ (s : Setup) (side : ℤ → ℤ) (ψ : ℤ) where
  -- where no finger stands: the move, and old + new variable
  abbrev pub move_by : ℤ → ℤ
  move_by g = nearest (side g) (factor s g)

  abbrev pub total_by : ℤ → ℤ
  total_by g = ψ +ℤ (ψ -ℤ g *ℤ move_by g)

  -- under the finger, by G and g, with the finger force f: the system, and old + new ψ and φ
  module _ (finger : Finger) (f : ℤ) where
    abbrev pub system_by : ℤ → ℤ → System
    system_by G g = finger_system s finger (factor s G) (side G) g f

    abbrev point_total : ℤ → ℤ → ℤ
    point_total G g = ψ +ℤ (ψ -ℤ G *ℤ rounded₁ (system_by G g))

    abbrev finger_total : ℤ → ℤ → ℤ
    finger_total G g = finger.contact +ℤ (finger.contact +ℤ g *ℤ (rounded₁ (system_by G g) -ℤ rounded₂ (system_by G g)))

    -- what a working of the system leaves of G and g
    unfoldable pub pair_left : ℤ × ℤ → ℤ × ℤ
    pair_left = drop_pair point_total finger_total

    -- a third drop changes nothing
    pub pair-stays : (q : ℤ × ℤ) → pair_left (pair_left (pair_left q)) ≡ pair_left (pair_left q)
    unfolding pair_left
    pair-stays = twice point_total finger_total

-- ---- the points of a state

module _ (s : Setup) (x : State) (F : Forces) where
  -- c of a point by its gradient
  abbrev pub side_at : ℕ → ℤ → ℤ
  side_at i g = right_side s x.newer x.older g (at x.contact i) (cond (eqb i (e s)) F.pluck (pos 0)) i

  -- away from p: what a working leaves of the gradient
  abbrev pub away_left : ℕ → ℤ → ℤ
  away_left i g = left g (total_by s (side_at i) (at x.contact i) g)

  -- at p: of G and g
  abbrev pub left_at_finger : ℤ × ℤ → ℤ × ℤ
  left_at_finger = pair_left s (side_at (p s)) (at x.contact (p s)) x.finger F.finger

  -- the gradients of the last moves: away from p after one working, at p after two
  unfoldable pub last_gradients : PointsAndFinger → PointsAndFinger
  last_gradients G =
      let pair = left_at_finger (left_at_finger (at G.points (p s), G.finger)) in
      record { points = places (points s) (λ i. under_finger s i pair.0 (away_left i (at G.points i))); finger = pair.1 }

module _ {s : Setup} {neck : Neck} {x : State} (h : Examined s neck x) (Γ : PointsAndFinger) (F : Forces) where
  abbrev pub W : PointsAndFinger → WorkedStep
  W G = working s x Γ F G

  abbrev pub D : PointsAndFinger → PointsAndFinger
  D G = dropped (W G)

  module _ (G : PointsAndFinger) (hG : G.points spans points s) where
    spans-totals : (totals (W G)).points spans points s
    unfolding totals next_state
    spans-totals = spans-plus h.contact (spans-minus h.contact (spans-times hG (spans-moves s x G F)))

    pub spans-dropped : (D G).points spans points s
    unfolding dropped
    spans-dropped = spans-zip left (left-zero (pos 0)) hG spans-totals

    pub at-dropped : (i : ℕ) → at (D G).points i ≡ left (at G.points i) (at x.contact i +ℤ at (next_state (W G)).contact i)
    unfolding dropped totals next_state
    at-dropped i = at-zip left (left-zero (pos 0)) hG spans-totals i ∙ ap (left (at G.points i)) (at-plus h.contact (spans-minus h.contact (spans-times hG (spans-moves s x G F))) i)

    pub at-contact : (i : ℕ) → at (next_state (W G)).contact i ≡ at x.contact i -ℤ at G.points i *ℤ at (moves s x G F).points i
    unfolding next_state
    at-contact i = at-minus h.contact (spans-times hG (spans-moves s x G F)) i ∙ ap (λ z. at x.contact i -ℤ z) (at-times hG (spans-moves s x G F) i)

    away : (i : ℕ) → 1 ≤ i → i ≤ points s → i ≢ p s → at (D G).points i ≡ away_left s x F i (at G.points i)
    unfolding A c
    away i l m d = at-dropped i ∙ ap (λ z. left (at G.points i) (at x.contact i +ℤ z)) (at-contact i ∙ ap (λ z. at x.contact i -ℤ at G.points i *ℤ z) (move-away s x G F h.setup i l m d))

    pair : (at (D G).points (p s), (D G).finger) ≡ left_at_finger s x F (at G.points (p s), G.finger)
    unfolding pair_left A c system dropped totals next_state moves
    pair = ap₂ (λ a b. (a, b)) point finger
      where
        point : at (D G).points (p s) ≡ left (at G.points (p s)) (point_total s (side_at s x F (p s)) (at x.contact (p s)) x.finger F.finger (at G.points (p s)) G.finger)
        point = at-dropped (p s) ∙ ap (λ z. left (at G.points (p s)) (at x.contact (p s) +ℤ z)) (at-contact (p s) ∙ ap (λ z. at x.contact (p s) -ℤ at G.points (p s) *ℤ z) (move-finger s x G F h.setup))

        finger : (D G).finger ≡ left G.finger (finger_total s (side_at s x F (p s)) (at x.contact (p s)) x.finger F.finger (at G.points (p s)) G.finger)
        finger = ap (λ z. left G.finger (x.finger.contact +ℤ (x.finger.contact +ℤ G.finger *ℤ (z -ℤ rounded₂ (system s x G F))))) (move-finger s x G F h.setup)

    -- a drop changes nothing just where none pulls
    pub nothing : some_pull (W G) ≡ false → D G ≡ G
    unfolding some_pull dropped
    nothing k =
        let (a, b) = neither (any (λ b. b) (zip_with pulls G.points (totals (W G)).points)) (pulls G.finger (totals (W G)).finger) k in
        ap₂ (λ a b. record { points = a; finger = b }) (none-pulls G.points (totals (W G)).points (hG.long ∙ sym spans-totals.long) a) (left_by G.finger (totals (W G)).finger false b)

    pub end : D G ≡ G → some_pull (W G) ≡ false
    unfolding some_pull dropped
    end k = ap₂ (λ a b. a || b) (all-still G.points (totals (W G)).points (hG.long ∙ sym spans-totals.long) (ap (λ H. H.points) k)) (still G.finger (totals (W G)).finger (ap (λ H. H.finger) k))

  -- gradients by those away from p and the two at p
  by-contacts : (H K : PointsAndFinger) → H.points spans points s → K.points spans points s → ((i : ℕ) → 1 ≤ i → i ≤ points s → i ≢ p s → at H.points i ≡ at K.points i)
      → ◌≡◌ {A = ℤ × ℤ} (at H.points (p s), H.finger) (at K.points (p s), K.finger) → H ≡ K
  by-contacts H K hH hK others pair = ap₂ (λ a b. record { points = a; finger = b }) (ext_get_or (pos 0) H.points K.points (hH.long ∙ sym hK.long) (λ k l. go k (rw hH.long at l) (eqb (suc k) (p s)) refl)) (ap (λ r. r.1) pair)
    where
      go : (k : ℕ) → k < points s → (b : Bool) → eqb (suc k) (p s) ≡ b → at H.points (suc k) ≡ at K.points (suc k)
      go k l true q = let here : suc k ≡ p s = eqb_yes (rw q tt) in ap (at H.points) here ∙ ap (λ r. r.0) pair ∙ ap (at K.points) (sym here)
      go k l false q = others (suc k) (suc-le-suc zero-le) l (eqb_no (rw q tt))

  module _ (G : PointsAndFinger) (hG : G.points spans points s) where
    away-twice : (i : ℕ) → 1 ≤ i → i ≤ points s → i ≢ p s → at (D (D G)).points i ≡ away_left s x F i (at G.points i)
    away-twice i l m d = away (D G) (spans-dropped G hG) i l m d ∙ ap (away_left s x F i) (away G hG i l m d) ∙ once (total_by s (side_at s x F i) (at x.contact i)) (at G.points i)

    pair-twice : (at (D (D G)).points (p s), (D (D G)).finger) ≡ left_at_finger s x F (left_at_finger s x F (at G.points (p s), G.finger))
    pair-twice = pair (D G) (spans-dropped G hG) ∙ ap (left_at_finger s x F) (pair G hG)

    -- two drops leave the gradients of the last moves
    pub drops-last : D (D G) ≡ last_gradients s x F G
    unfolding last_gradients
    drops-last = by-contacts (D (D G)) (last_gradients s x F G) (spans-dropped (D G) (spans-dropped G hG)) (record { long = length-tabulate (points s) _ })
        (λ i l m d. away-twice i l m d ∙ sym (at_places (points s) f i l m ∙ ap (λ b. choice b i) (is_false (eqb i (p s)) (no_eqb d))))
        (pair-twice ∙ ap (λ a. (a, q.1)) (sym (at_places (points s) f (p s) h.setup.first h.setup.last ∙ ap (λ b. choice b (p s)) (is_true (eqb (p s) (p s)) (eqb_refl (p s))))))
      where
        q : ℤ × ℤ
        q = left_at_finger s x F (left_at_finger s x F (at G.points (p s), G.finger))

        choice : Bool → ℕ → ℤ
        choice b i = cond b q.0 (away_left s x F i (at G.points i))

        f : ℕ → ℤ
        f i = choice (eqb i (p s)) i

  module _ (G : PointsAndFinger) (hG : G.points spans points s) where
    hD : (D G).points spans points s
    hD = spans-dropped G hG

    hDD : (D (D G)).points spans points s
    hDD = spans-dropped (D G) hD

    -- and a third changes nothing
    pub drops-end : D (D (D G)) ≡ D (D G)
    drops-end = by-contacts (D (D (D G))) (D (D G)) (spans-dropped (D (D G)) hDD) hDD (λ i l m d. away-twice (D G) hD i l m d ∙ sym (away (D G) hD i l m d))
        (pair-twice (D G) hD ∙ ap (λ r. left_at_finger s x F (left_at_finger s x F r)) (pair G hG) ∙ pair-stays s (side_at s x F (p s)) (at x.contact (p s)) x.finger F.finger (at G.points (p s), G.finger) ∙ sym (pair-twice G hG))

    settled-end : (n : ℕ) → settled s x Γ F n (D (D G)) ≡ D (D G)
    unfolding settled
    settled-end zero = refl
    settled-end (suc n) = ap (λ b. elim b [ true ↦ settled s x Γ F n (D (D (D G))) | false ↦ D (D G) ]) (end (D (D G)) hDD drops-end)

    -- the repetition ends with them
    pub settled_is : (n : ℕ) → 2 ≤ n → settled s x Γ F n G ≡ D (D G)
    unfolding settled
    settled_is zero l = absurd (omega arith)
    settled_is (suc zero) l = absurd (omega arith)
    settled_is (suc (suc n)) l = first (some_pull (W G)) refl
      where
        second : (b : Bool) → some_pull (W (D G)) ≡ b → elim b [ true ↦ settled s x Γ F n (D (D G)) | false ↦ D G ] ≡ D (D G)
        second true k = settled-end n
        second false k = sym (nothing (D G) hD k)

        first : (b : Bool) → some_pull (W G) ≡ b → elim b [ true ↦ settled s x Γ F (suc n) (D G) | false ↦ G ] ≡ D (D G)
        first true k = second (some_pull (W (D G))) refl
        first false k = let q = nothing G hG k in sym (ap D q ∙ q)

-- ---- what holds of every gradient

pub record Each (P : ℤ → Type 0) (G : PointsAndFinger) : Type 0 where
  pub point : (i : ℕ) → P (at G.points i)
  pub finger : P G.finger

-- what holds of 0, and of the gradients that a step starts from, holds of those of the last moves; the lists may have any lengths
module _ (P : ℤ → Type 0) (z : P (pos 0)) where
  pub zip-each : {B C : Type 0} (f : B → C → ℤ) (d : B) (bs : List B) (cs : List C) → ((k : ℕ) (c : C) → P (f (get_or bs k d) c)) → (i : ℕ) → P (at (zip_with f bs cs) i)
  unfolding zip_with
  zip-each f d bs cs h zero = z
  zip-each f d [] cs h (suc i) = z
  zip-each f d (b ∷ bs) [] h (suc i) = z
  zip-each f d (b ∷ bs) (c ∷ cs) h (suc zero) = h 0 c
  zip-each f d (b ∷ bs) (c ∷ cs) h (suc (suc i)) = zip-each f d bs cs (λ k. h (suc k)) (suc i)

  pub gradients-each : ((k : ℕ) (d : ℤ) → P (gradient k d)) → (s : Setup) (neck : Neck) (x : State) → Each P (gradients s neck x)
  unfolding gradients
  gradients-each h s neck x = record { point = zip-each gradient 0 neck.stiffness (minus neck.heights x.newer) (λ k. h _); finger = h (K s) (at x.newer (p s) -ℤ x.finger.newer) }

  dropped-each : (t : WorkedStep) → Each P t.gradients → Each P (dropped t)
  unfolding dropped
  dropped-each t k = record { point = zip-each left (pos 0) t.gradients.points (totals t).points (λ j q. left-keeps P z _ q (k.point (suc j))); finger = left-keeps P z _ _ k.finger }

  settled-each : (s : Setup) (x : State) (Γ : PointsAndFinger) (F : Forces) (n : ℕ) (G : PointsAndFinger) → Each P G → Each P (settled s x Γ F n G)
  unfolding settled
  settled-each s x Γ F zero G k = k
  settled-each s x Γ F (suc n) G k = go (some_pull t) (settled-each s x Γ F n (dropped t) (dropped-each t k))
    where
      t : WorkedStep
      t = working s x Γ F G

      go : (b : Bool) → Each P (settled s x Γ F n (dropped t)) → Each P (elim b [ true ↦ settled s x Γ F n (dropped t) | false ↦ G ])
      go true r = r
      go false r = k

  pub worked-each : (s : Setup) (neck : Neck) (x : State) (F : Forces) → Each P (gradients s neck x) → Each P (worked_step s neck x F).gradients
  unfolding worked_step
  worked-each s neck x F k = settled-each s (clear s neck x) (cleared s neck x) F (N s) (gradients s neck x) k

pub worked-nonneg : (s : Setup) (neck : Neck) (x : State) (F : Forces) → Each (λ g. pos 0 ≤ℤ g) (worked_step s neck x F).gradients
worked-nonneg s neck x F = worked-each (λ g. pos 0 ≤ℤ g) ≤-refl s neck x F (gradients-each (λ g. pos 0 ≤ℤ g) ≤-refl gradient-nonneg s neck x)

-- ---- the step as it is worked out

module _ {s : Setup} {neck : Neck} {x : State} (h : Examined s neck x) (F : Forces) where
  pub spans-gradients : (gradients s neck x).points spans points s
  unfolding gradients
  spans-gradients = record { long = length-zip gradient neck.stiffness (minus neck.heights x.newer) (h.stiffness ∙ sym (spans-minus h.heights h.newer).long) ∙ h.stiffness }

  abbrev pub twice_dropped : PointsAndFinger
  twice_dropped = D (examined-clear h) (cleared s neck x) F (D (examined-clear h) (cleared s neck x) F (gradients s neck x))

  pub worked-twice : (worked_step s neck x F).gradients ≡ twice_dropped
  unfolding worked_step
  worked-twice = settled_is (examined-clear h) (cleared s neck x) F (gradients s neck x) spans-gradients (N s) h.setup.segments-low

  -- the gradients of the last moves, outright
  pub worked-last : worked_step s neck x F ≡ working s (clear s neck x) (cleared s neck x) F (last_gradients s (clear s neck x) F (gradients s neck x))
  unfolding worked_step
  worked-last = ap (λ G. working s (clear s neck x) (cleared s neck x) F G) (worked-twice ∙ drops-last (examined-clear h) (cleared s neck x) F (gradients s neck x) spans-gradients)

  pub spans-last : (worked_step s neck x F).gradients.points spans points s
  spans-last = rw worked-twice (spans-dropped (examined-clear h) (cleared s neck x) F _ (spans-dropped (examined-clear h) (cleared s neck x) F (gradients s neck x) spans-gradients))

  -- none pulls any more
  pub worked-still : dropped (worked_step s neck x F) ≡ (worked_step s neck x F).gradients
  unfolding worked_step
  worked-still = rw worked-twice (drops-end (examined-clear h) (cleared s neck x) F (gradients s neck x) spans-gradients)

  pub worked-none-pulls : NonePulls (worked_step s neck x F) (next_state (worked_step s neck x F))
  unfolding dropped totals worked_step
  worked-none-pulls =
      let up = worked-nonneg s neck x F in
      record {
        point = λ i. no-pull _ _ (up.point i) (sym (at-dropped (examined-clear h) (cleared s neck x) F _ spans-last i) ∙ ap (λ G. at G.points i) worked-still);
        finger = no-pull _ _ up.finger (ap (λ G. G.finger) worked-still);
      }
