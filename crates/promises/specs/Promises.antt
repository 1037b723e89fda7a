-- What is promised of the model, as statements only, in the terms of documents 01 and 02; demand 3 is in Energy, item 2's symmetry in Symmetry, item 6's book in Book, item 7's rule in Frets. Crate `laws`
-- proves each in its file Demands.
use Rattle.std.specs.Prelude.{◌≡◌, true, not, cond, ◌≢◌, ◌⊎◌, List, [], ◌∷◌, ◌++◌, ℕ, zero, suc, ◌*◌, ◌/◌, ◌%◌, min, ◌≤◌, ◌<◌, T, eqb, ℤ, pos, neg_ℤ, nat_abs, ◌+ℤ◌, ◌-ℤ◌, ◌*ℤ◌, ◌≤ℤ◌, ◌<ℤ◌, Float, length, take, drop, get_or}
use Rattle.std.specs.Int.Signed.{lt_z}
use Rattle.integers.specs.Size.{size}
use Rattle.model.specs.Refusal.{Rule, ◌when◌, Answer, accepted, refused}
use Rattle.model.specs.Setup.{K, p, points, setup, setup_rules}
use Rattle.model.specs.Changes.{with_tension, with_place, bend, slide}
use Rattle.model.specs.Differences.{at}
use Rattle.model.specs.Rounding.{nearest}
use Rattle.model.specs.System.{System}
use Rattle.model.specs.State.{State, Lent, by_turn, newest, state_of, Neck, Forces, PointsAndFinger}
use Rattle.model.specs.Neck.{Plan, fret_at, neck_rules, lay}
use Rattle.model.specs.Frets.{fret_rules, frets}
use Rattle.model.specs.Start.{start_rules, fresh, FreshStart, started_result, start}
use Rattle.model.specs.Step.{A, c, system, gradients, WorkedStep, worked_step, next_state, call_rules, step_rules, step}
use Rattle.model.specs.Book.{Columns}
use Rattle.model.specs.Booking.{booked_rules, booked_step, bent_rules, booked_bend}
use Rattle.model.specs.Steps.{Voice, voice, Call, history, accepted_steps, voice_after}
use Rattle.model.specs.Fraction.{Holds}
use Rattle.model.specs.Block.{pairs, counts_wrong, BlockResult, stopped, block_rules, block}
use Rattle.model.specs.Reading.{reading_rules, reading}
use Rattle.model.specs.Answers.{reading_result}
use Rattle.model.specs.declared.Setup.{Setup}
use Rattle.model.specs.declared.Frame.{Frame}

-- of a list: each in turn
abbrev pub Every {ℓ κ} : {B : Type ℓ} → (B → Type κ) → List B → Type κ
Every P [] = Unit
Every P (x ∷ xs) = P x × Every P xs

-- ---- demand 1: refusals

-- no condition of these rows holds
abbrev pub Passed : List Rule → Type 0
Passed [] = Unit {0}
Passed ((n when b) ∷ rules) = T (not b) × Passed rules

-- the number is given just when its condition holds and no earlier one does: 0 where none holds
abbrev pub IsFirst : List Rule → ℕ → Type 0
IsFirst rules zero = Passed rules
IsFirst rules (suc n) = (earlier : List Rule) × ((later : List Rule) × ((rules ≡ earlier ++ (suc n when true) ∷ later) × Passed earlier))

-- an answer refuses with the first number of the table, and only then
abbrev pub Refuses : {B : Type 0} → List Rule → Answer B → Type 0
Refuses rules (accepted a) = IsFirst rules 0
Refuses rules (refused n) = (1 ≤ n) × IsFirst rules n

-- a refusal leaves what was lent
abbrev pub Leaves {κ} : {B : Type 0} {C : Type κ} → Answer B → C → C → Type κ
Leaves (accepted a) before after = Unit
Leaves (refused n) before after = after ≡ before

pub record Demand1 : Type 0 where
  pub setups : (s : Setup) → Refuses (setup_rules s) (setup s)
  -- 02, item 5: as a setup is, with the new value in place of the old
  pub bends : (s : Setup) (L' : ℕ) → Refuses (setup_rules (with_tension s L')) (bend s L')
  pub slides : (s : Setup) (p' : ℕ) → Refuses (setup_rules (with_place s p')) (slide s p')
  pub necks : (s : Setup) (plan : Plan) (heights : List ℤ) (stiffness : List ℕ) → let r = lay s plan heights stiffness in
      Refuses (neck_rules s plan heights stiffness) r.answer × Leaves r.answer heights r.heights × Leaves r.answer stiffness r.stiffness
  pub starts : (s : Setup) (first second contact : List ℤ) (w w' : ℤ) → let r = start s first second contact w w' in
      Refuses (start_rules s first second contact w w') r.answer × Leaves r.answer first r.first × Leaves r.answer second r.second × Leaves r.answer contact r.contact
  pub steps : (s : Setup) (neck : Neck) (v : Lent) (F : Forces) → let r = step s neck v F in Refuses (step_rules s neck (state_of v) F) r.answer × Leaves r.answer v r.lent
  -- 02, item 6
  pub booked_steps : (s : Setup) (neck : Neck) (v : Lent) (b : Columns) (F : Forces) → let r = booked_step s neck v b F in
      Refuses (booked_rules s neck (state_of v) b F) r.answer × Leaves r.answer v r.lent × Leaves r.answer b r.book
  pub booked_bends : (s : Setup) (v : Lent) (b : Columns) (L' : ℕ) → let r = booked_bend s v b L' in Refuses (bent_rules s (state_of v) b L') r.answer × Leaves r.answer b r.book
  -- 02, item 7
  pub fret_lists : (N n : ℕ) (buffer : List ℕ) → let r = frets N n buffer in Refuses (fret_rules N n (length buffer)) r.answer × Leaves r.answer buffer r.places
  -- a table gives one number: so each is given just when its condition holds and no earlier one does
  pub one_number : (rules : List Rule) (m n : ℕ) → IsFirst rules m → IsFirst rules n → m ≡ n

-- ---- what is accepted: the setup itself, or with its new value, a neck as planned, a fresh start

-- of a laid neck, at place i: a fret's point takes the tip height and the fret stiffness, every other point the board's
pub record LaidAt (plan : Plan) (i : ℕ) (height : ℤ) (stiffness : ℕ) : Type 0 where
  pub fret : T (fret_at plan.frets i) → (height ≡ plan.tip) × (stiffness ≡ plan.fret_stiffness)
  pub board : T (not (fret_at plan.frets i)) → (height ≡ at plan.board i) × (stiffness ≡ plan.board_stiffness)

pub record Accepts : Type 0 where
  pub setups : (s a : Setup) → setup s ≡ accepted a → a ≡ s
  pub bends : (s a : Setup) (L' : ℕ) → bend s L' ≡ accepted a → a ≡ with_tension s L'
  pub slides : (s a : Setup) (p' : ℕ) → slide s p' ≡ accepted a → a ≡ with_place s p'
  pub necks : (s : Setup) (plan : Plan) (heights : List ℤ) (stiffness : List ℕ) → let r = lay s plan heights stiffness in r.answer ≡ accepted tt
      → (length r.heights ≡ points s) × (length r.stiffness ≡ points s) × ((k : ℕ) → k < points s → LaidAt plan (suc k) (get_or r.heights k (pos 0)) (get_or r.stiffness k 0))
  pub starts : (s : Setup) (first second contact : List ℤ) (w w' : ℤ) (a : FreshStart) → let r = start s first second contact w w' in r.answer ≡ accepted a → r ≡ started_result s (fresh s w w')

-- ---- rounding: to the nearest whole number, a tie to the even one

-- twice a whole number
abbrev pub Even : ℤ → Type 0
Even q = (k : ℤ) × (q ≡ pos 2 *ℤ k)

-- q is the whole number nearest a / b, for b above 0
pub record IsNearest (a b q : ℤ) : Type 0 where
  -- it is at most one half from a / b
  pub near : size (pos 2 *ℤ (b *ℤ q -ℤ a)) ≤ℤ b
  -- where it is one half from it, q is the even one of the two whole numbers that are
  pub tie : size (pos 2 *ℤ (b *ℤ q -ℤ a)) ≡ b → Even q

-- what the model rounds to is nearest, and the only such number
abbrev pub Rounding : Type 0
Rounding = (a b : ℤ) → pos 0 <ℤ b → IsNearest a b (nearest a b) × ((q : ℤ) → IsNearest a b q → q ≡ nearest a b)

-- x and y are nearest the exact solution X / D, Y / D of the two equations
pub record IsRounded (t : System) (x y : ℤ) : Type 0 where
  pub D : ℤ
  pub X : ℤ
  pub Y : ℤ
  pub positive : pos 0 <ℤ D
  pub row₁ : t.a₁₁ *ℤ X +ℤ t.a₁₂ *ℤ Y ≡ D *ℤ t.b₁
  pub row₂ : t.a₂₁ *ℤ X +ℤ t.a₂₂ *ℤ Y ≡ D *ℤ t.b₂
  pub near₁ : IsNearest X D x
  pub near₂ : IsNearest Y D y

-- ---- the contact gradient

-- r is the root of the number q: the greatest whole number whose square is at most 64·q
pub record IsRoot (q r : ℕ) : Type 0 where
  pub low : r * r ≤ 64 * q
  pub high : 64 * q < suc r * suc r

-- the gradient r of stiffness k and depth d
pub record IsGradient (k : ℕ) (d r : ℤ) : Type 0 where
  pub free : d ≤ℤ pos 0 → r ≡ pos 0
  pub contact : pos 0 <ℤ d → (n : ℕ) × ((r ≡ pos n) × IsRoot (min 1023 (k * nat_abs d / 1024)) n)

-- G holds the gradients of a state on a neck: of each point for its depth height − u, of the finger for its depth u(p) − w
pub record AreGradients (s : Setup) (neck : Neck) (x : State) (G : PointsAndFinger) : Type 0 where
  pub length-points : length G.points ≡ points s
  pub point : (k : ℕ) → k < points s → IsGradient (get_or neck.stiffness k 0) (at neck.heights (suc k) -ℤ at x.newer (suc k)) (at G.points (suc k))
  pub finger : IsGradient (K s) (at x.newer (p s) -ℤ x.finger.newer) G.finger

-- ---- what is cleared before a step

-- of the contact variable ψ at the depth d the step starts from y, and r is let go
pub record ClearedAt (d ψ y r : ℤ) : Type 0 where
  pub free : d ≤ℤ pos 0 → (y ≡ pos 0) × (r ≡ ψ)
  pub contact : pos 0 <ℤ d → (y ≡ ψ) × (r ≡ pos 0)

-- a step from x on the neck starts from y, and the contact variables r are let go
pub record Clears (s : Setup) (neck : Neck) (x y : State) (r : PointsAndFinger) : Type 0 where
  pub newer : y.newer ≡ x.newer
  pub older : y.older ≡ x.older
  pub finger-newer : y.finger.newer ≡ x.finger.newer
  pub finger-older : y.finger.older ≡ x.finger.older
  pub length-contact : length y.contact ≡ points s
  pub length-cleared : length r.points ≡ points s
  pub point : (i : ℕ) → ClearedAt (at neck.heights i -ℤ at x.newer i) (at x.contact i) (at y.contact i) (at r.points i)
  pub finger : ClearedAt (at x.newer (p s) -ℤ x.finger.newer) x.finger.contact y.finger.contact r.finger

-- ---- demand 2: an accepted step solves the equations

-- the step from x to y: x after clearing, G the gradients of the moves, F the forces; the moves δ and δw are read off the two states
pub record Solves (s : Setup) (x : State) (G : PointsAndFinger) (F : Forces) (y : State) : Type 0 where
  pub length-newer : length y.newer ≡ points s
  pub length-contact : length y.contact ≡ points s
  pub older : y.older ≡ x.newer
  pub finger-older : y.finger.older ≡ x.finger.newer
  -- away from p each move is nearest c / A
  pub away : (i : ℕ) → 1 ≤ i → i ≤ points s → i ≢ p s → IsNearest (c s x G F i) (A s G i) (at y.newer i -ℤ at x.older i)
  -- at p the two moves are nearest the exact solution of the finger's two-by-two system
  pub at-finger : IsRounded (system s x G F) (at y.newer (p s) -ℤ at x.older (p s)) (y.finger.newer -ℤ x.finger.older)
  -- the contact variables follow exactly
  pub contact : (i : ℕ) → at y.contact i ≡ at x.contact i -ℤ at G.points i *ℤ (at y.newer i -ℤ at x.older i)
  pub finger-contact : y.finger.contact
      ≡ x.finger.contact +ℤ G.finger *ℤ ((at y.newer (p s) -ℤ at x.older (p s)) -ℤ (y.finger.newer -ℤ x.finger.older))

-- of a contact of gradient g whose old and new variable sum to q: h is its gradient after the drop
pub record Left (g q h : ℤ) : Type 0 where
  pub pulls : pos 0 <ℤ g → q <ℤ pos 0 → h ≡ pos 0
  pub idle : g ≤ℤ pos 0 → h ≡ g
  pub pushes : pos 0 ≤ℤ q → h ≡ g

-- the moves from x worked out with the gradients G; H are the gradients after the drop, of all contacts together
pub record Drops (s : Setup) (x : State) (F : Forces) (G H : PointsAndFinger) : Type 0 where
  pub next : State
  pub solves : Solves s x G F next
  pub length-points : length H.points ≡ points s
  pub point : (i : ℕ) → Left (at G.points i) (at x.contact i +ℤ at next.contact i) (at H.points i)
  pub finger : Left G.finger (x.finger.contact +ℤ next.finger.contact) H.finger

-- the moves worked out with G, then with each of Hs in turn, until a drop changes nothing; `last` are the gradients of the last moves
abbrev pub Workings : Setup → State → Forces → PointsAndFinger → List PointsAndFinger → PointsAndFinger → Type 0
Workings s x F G [] last = Drops s x F G G × (last ≡ G)
Workings s x F G (H ∷ Hs) last = Drops s x F G H × (G ≢ H) × Workings s x F H Hs last

-- a contact, read from gradients by g and from a state by ψ, pulled in some working
pub record Pulled (s : Setup) (x : State) (F : Forces) (g : PointsAndFinger → ℤ) (ψ : State → ℤ) : Type 0 where
  pub gradients : PointsAndFinger
  pub next : State
  pub solves : Solves s x gradients F next
  pub above : pos 0 <ℤ g gradients
  pub below : (ψ x +ℤ ψ next) <ℤ pos 0

-- its last gradient is that of the state, or it pulled in some working and its last gradient is 0
abbrev pub KeptOrPulled : Setup → State → Forces → (PointsAndFinger → ℤ) → (State → ℤ) → (G last : PointsAndFinger) → Type 0
KeptOrPulled s x F g ψ G last = (g last ≡ g G) ⊎ (Pulled s x F g ψ × (g last ≡ pos 0))

-- with the first at most three workings
abbrev pub AtMostThree : List PointsAndFinger → Type 0
AtMostThree dropped = length dropped ≤ 2

-- what is claimed of an accepted step from the lent buffers v to v', worked out as t
pub record AcceptedStep (s : Setup) (neck : Neck) (v : Lent) (F : Forces) (t : WorkedStep) (v' : Lent) : Type 0 where
  pub clears : Clears s neck (state_of v) t.before t.cleared
  pub gradient : AreGradients s neck (state_of v) (gradients s neck (state_of v))
  -- the gradients of the last moves are reached in one to three workings
  pub dropped : List PointsAndFinger
  pub workings : Workings s t.before F (gradients s neck (state_of v)) dropped t.gradients
  pub three : AtMostThree dropped
  pub point : (i : ℕ) → KeptOrPulled s t.before F (λ G. at G.points i) (λ x. at x.contact i) (gradients s neck (state_of v)) t.gradients
  pub finger : KeptOrPulled s t.before F (λ G. G.finger) (λ x. x.finger.contact) (gradients s neck (state_of v)) t.gradients
  -- the state after it solves the equations with them, and no other state does
  pub solves : Solves s t.before t.gradients F (state_of v')
  pub unique : (y : State) → Solves s t.before t.gradients F y → y ≡ state_of v'
  -- the new string lies over the older buffer, and the newer buffer is untouched: the turn is flipped to 1 or 0
  pub flipped : v'.turn ≡ by_turn v.turn 1 0
  pub untouched : newest v.turn v'.first v'.second ≡ newest v.turn v.first v.second

abbrev pub Demand2 : Type 0
Demand2 = (s : Setup) (neck : Neck) (v : Lent) (F : Forces) (f : Frame) → (step s neck v F).answer ≡ accepted f
    → AcceptedStep s neck v F (worked_step s neck (state_of v) F) (step s neck v F).lent

-- ---- no contact pulls

-- in the step t, which leads to y: the gradient of the last moves times the sum of old and new variable, old meaning after clearing
pub record NonePulls (t : WorkedStep) (y : State) : Type 0 where
  pub point : (i : ℕ) → pos 0 ≤ℤ (at t.gradients.points i *ℤ (at t.before.contact i +ℤ at y.contact i))
  pub finger : pos 0 ≤ℤ (t.gradients.finger *ℤ (t.before.finger.contact +ℤ y.finger.contact))

abbrev pub NoContactPulls : Type 0
NoContactPulls = (s : Setup) (neck : Neck) (v : Lent) (F : Forces) (f : Frame) → (step s neck v F).answer ≡ accepted f
    → NonePulls (worked_step s neck (state_of v) F) (state_of (step s neck v F).lent)

-- so 14 is given only above its range: whatever passes 1 to 12, no new contact variable is below −67,108,864
pub record NotBelow (y : State) : Type 0 where
  pub point : (i : ℕ) → neg_ℤ (pos 67108864) ≤ℤ at y.contact i
  pub finger : neg_ℤ (pos 67108864) ≤ℤ y.finger.contact

abbrev pub OnlyAbove : Type 0
OnlyAbove = (s : Setup) (neck : Neck) (x : State) (F : Forces) → Passed (call_rules s neck x F) → NotBelow (next_state (worked_step s neck x F))

-- ---- a block

-- the turn after n flips to 1 or 0
unfoldable pub flips : ℕ → ℕ → ℕ
flips zero turn = turn
flips (suc n) turn = flips n (by_turn turn 1 0)

-- the samples of the accepted calls, bridge first
unfoldable pub frame_samples : List Call → List Float
frame_samples [] = []
frame_samples (k ∷ ks) = elim k.result.answer [ accepted f ↦ f.bridge ∷ f.neck ∷ frame_samples ks | refused n ↦ frame_samples ks ]

-- the forces ended, or the next step is refused, with 12, 13 or 14
abbrev pub Stops : Neck → Voice → List Forces → ℕ → Type 0
Stops neck v [] r = r ≡ 0
Stops neck v (F ∷ Fs) r = ((step v.setup neck v.lent F).answer ≡ refused r) × ((r ≡ 12) ⊎ ((r ≡ 13) ⊎ (r ≡ 14)))

-- the result b of a block over the steps Fs from the voice v, with these samples lent; `calls` are the first `count` calls of the run
pub record Plays (neck : Neck) (v : Voice) (Fs : List Forces) (lent_samples : List Float) (b : BlockResult) : Type 0 where
  pub calls : List Call
  pub run : calls ≡ history neck v (take b.count Fs)
  -- the count is that of the accepted steps and of the flips of the turn
  pub count : b.count ≡ length (accepted_steps neck calls)
  pub turn : b.lent.turn ≡ flips b.count v.lent.turn
  pub lent : b.lent ≡ (voice_after v calls).lent
  -- the frames of the steps made, then what was lent
  pub samples : b.samples ≡ frame_samples calls ++ drop (2 * b.count) lent_samples
  pub stops : Stops neck (voice_after v calls) (drop b.count Fs) b.refusal

pub record Blocks : Type 0 where
  -- where its own table is passed, a block plays
  pub played : (s : Setup) (neck : Neck) (v : Lent) (forces : List ℤ) (samples : List Float) → Passed (block_rules s neck v forces samples)
      → Plays neck (voice s v) (pairs forces) samples (block s neck v forces samples)
  -- where a number is given, nothing is written and the count is 0
  pub turned_down : (s : Setup) (neck : Neck) (v : Lent) (forces : List ℤ) (samples : List Float) (n : ℕ) → IsFirst (block_rules s neck v forces samples) (suc n)
      → block s neck v forces samples ≡ stopped v samples (suc n)

-- ---- 02, item 1: longer sample buffers

-- the result b, its samples followed by `rest`
abbrev pub followed_by : List Float → BlockResult → BlockResult
followed_by rest b = record { count = b.count; refusal = b.refusal; lent = b.lent; samples = b.samples ++ rest }

-- a block over `samples ++ rest` is the block over `samples`, and `rest` keeps its contents
abbrev pub PlaysNoPart : Setup → Neck → Lent → List ℤ → (samples rest : List Float) → Type 0
PlaysNoPart s neck v forces samples rest = block s neck v forces (samples ++ rest) ≡ followed_by rest (block s neck v forces samples)

-- with as many samples as forces 15 is given for an odd number alone, as 01 has it
abbrev pub OddAlone : ℕ → Type 0
OddAlone forces = counts_wrong forces forces ≡ eqb (forces % 2) 1

pub record LongerSamples : Type 0 where
  -- a surplus plays no part: whatever lies behind two samples for each frame of the forces
  pub surplus : (s : Setup) (neck : Neck) (v : Lent) (forces : List ℤ) (samples rest : List Float) → length samples ≡ 2 * length (pairs forces) → PlaysNoPart s neck v forces samples rest
  -- so blocks accepted earlier, which had as many samples as forces, give the same results
  pub earlier : (forces : ℕ) → OddAlone forces

-- ---- frames and readings lose nothing

-- what the frame of an accepted step holds
abbrev pub Frames : Type 0
Frames = (s : Setup) (neck : Neck) (v : Lent) (F : Forces) (f : Frame) → let r = step s neck v F in r.answer ≡ accepted f
    → let u = (state_of r.lent).newer in Holds f.bridge (at u s.bridge_place) × Holds f.neck (at u s.neck_place)

-- as many of both, and each float holds its whole number over 1,048,576
abbrev pub HoldEach : List Float → List ℤ → Type 0
HoldEach [] [] = Unit {0}
HoldEach [] (z ∷ zs) = ⊥
HoldEach (a ∷ rest) [] = ⊥
HoldEach (a ∷ rest) (z ∷ zs) = Holds a z × HoldEach rest zs

-- an accepted reading holds these whole numbers
abbrev pub Shows : List ℤ → Answer (List Float) → Type 0
Shows zs (accepted values) = HoldEach values zs
Shows zs (refused n) = Unit {0}

-- of the newest displacement u and the depth at a place: free shows u; pressed, just where the depth is above 0, u and the depth
abbrev pub shown : ℤ → ℤ → List ℤ
shown u depth = cond (lt_z (pos 0) depth) (u ∷ depth ∷ []) (u ∷ [])

abbrev pub Readings : Type 0
Readings = (s : Setup) (heights first second : List ℤ) (turn i : ℕ) → let u = at (newest turn first second) i in
    let answer = reading_result (reading s heights first second turn i) in
    Refuses (reading_rules s heights first second turn i) answer × Shows (shown u (at heights i -ℤ u)) answer
