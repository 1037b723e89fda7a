-- Closed instances of what 02, item 3, promises, by computation alone: variables that are cleared and kept, contacts that are dropped and hold, at values where a claim
-- is tight.
use Rattle.std.specs.Prelude.{◌≡◌, refl, not, ℕ, T, eqb, ℤ, pos, neg_ℤ, nat_abs, ◌+ℤ◌, ◌-ℤ◌, ◌*ℤ◌}
use Rattle.std.proofs.Common.{ap, inr, arith, lit≤}
use mathlib.Core.List.{[], ◌∷◌, zip_with}
use Rattle.std.specs.Int.Signed.{le_z, le_z_yes, lt_z_yes}
use Rattle.integers.specs.Size.{size}
use Rattle.model.specs.Differences.{at, plus, minus, times, D1}
use Rattle.model.specs.Gradient.{gradient, root, greatest}
use Rattle.model.specs.Rounding.{nearest, floor}
use Rattle.model.specs.System.{rounded₁, rounded₂}
use Rattle.model.specs.State.{State, state_of, Forces, PointsAndFinger}
use Rattle.model.specs.Step.{gradients, A, c, system, moves, worked_step, next_state, clear, cleared, kept, let_go, settled, some_pull, dropped, totals, pulls, left}
use Rattle.model.specs.Bench.{bench_setup, flat_neck, finger, one_point, forces}
use Rattle.model.specs.declared.Setup.{Setup}
use Rattle.promises.specs.Promises.{IsNearest, IsRounded, ClearedAt, Clears, Solves, Left, Workings, KeptOrPulled, AtMostThree, NotBelow}
use Rattle.promises.specs.Instances.{apart, by_place, none, clinging}

-- ---- what is cleared

-- one point and the finger: displacements u and v, contact variables ψ and φ, heights w and w'
abbrev single : (u v ψ w w' φ : ℤ) → State
single u v ψ w w' φ = record { newer = u ∷ []; older = v ∷ []; contact = ψ ∷ []; finger = finger w w' φ }

-- a variable of 5 is let go at depth 0, and kept at depth 1
cleared-at-zero : ClearedAt (pos 0) (pos 5) (pos 0) (pos 5) × ClearedAt (pos 1) (pos 5) (pos 5) (pos 0)
cleared-at-zero = (record { free = λ h. (refl, refl); contact = λ h. absurd h.lt }, record { free = λ h. absurd h.le; contact = λ h. (refl, refl) })

-- it goes by the newer values: the string is in the neck now and was not before, the finger was in the string before and is not now
cleared-by-newer : Clears (bench_setup 1 0 0 0 64) (flat_neck 64) (single (neg_ℤ (pos 5)) (pos 5) (pos 70) (pos 0) (neg_ℤ (pos 10)) (pos 30)) (single (neg_ℤ (pos 5)) (pos 5) (pos 70) (pos 0) (neg_ℤ (pos 10)) (pos 0))
    record { points = pos 0 ∷ []; finger = pos 30 }
cleared-by-newer = record {
  newer = refl;
  older = refl;
  finger-newer = refl;
  finger-older = refl;
  length-contact = refl;
  length-cleared = refl;
  point = by_place _ (record { free = λ h. (refl, refl); contact = λ h. absurd h.lt }) (record { free = λ h. absurd h.le; contact = λ h. (refl, refl) })
      (record { free = λ h. (refl, refl); contact = λ h. absurd h.lt }) (λ k. record { free = λ h. (refl, refl); contact = λ h. absurd h.lt });
  finger = record { free = λ h. (refl, refl); contact = λ h. absurd h.lt };
}

-- ---- what is dropped

-- both contacts of `clinging` pull: its state, its gradients, and what is left of them
abbrev clinging_state : State
clinging_state = single (neg_ℤ (pos 26)) (neg_ℤ (pos 58)) (pos 127) (neg_ℤ (pos 46)) (neg_ℤ (pos 67)) (pos 26)

abbrev drawn : PointsAndFinger
drawn = record { points = pos 255 ∷ []; finger = pos 8 }

abbrev dropped-away : PointsAndFinger
dropped-away = record { points = pos 0 ∷ []; finger = pos 0 }

-- the bench setup with a finger of mass m
abbrev setup_of : (L K m : ℕ) → Setup
setup_of L K m = record {
  segments = 2;
  tension = L;
  stiffness = 0;
  viscous = 0;
  plain = 0;
  finger = record { place = 1; stiffness = K; mass = m };
  pluck_place = 1;
  bridge_place = 1;
  neck_place = 1;
}

-- a working of one point and the finger with G and g leads to u', ψ', w'' and φ'
worked : (L K m : ℕ) (F : Forces) (G g u v ψ w w' φ u' ψ' w'' φ' : ℤ) → let H : PointsAndFinger = record { points = G ∷ []; finger = g } in let s = setup_of L K m in
    IsRounded (system s (single u v ψ w w' φ) H F) (u' -ℤ v) (w'' -ℤ w') → ψ' ≡ ψ -ℤ G *ℤ (u' -ℤ v) → φ' ≡ φ +ℤ g *ℤ ((u' -ℤ v) -ℤ (w'' -ℤ w'))
    → Solves s (single u v ψ w w' φ) H F (single u' u ψ' w'' w φ')
worked L K m F G g u v ψ w w' φ u' ψ' w'' φ' rounded contact finger-contact = record {
  length-newer = refl;
  length-contact = refl;
  older = refl;
  finger-older = refl;
  away = by_place _ (λ h l d. absurd (omega arith)) (λ h l d. absurd (d refl)) (λ h l d. absurd (omega arith)) (λ k h l d. absurd (omega arith));
  at-finger = rounded;
  contact = by_place _ refl contact refl (λ k. refl);
  finger-contact = finger-contact;
}

-- no tie in either solution
near : {X D x : ℤ} → T (le_z (size (pos 2 *ℤ (D *ℤ x -ℤ X))) D) → T (not (eqb (nat_abs (size (pos 2 *ℤ (D *ℤ x -ℤ X)))) (nat_abs D))) → IsNearest X D x
near h k = record { near = le_z_yes h; tie = λ q. apart q k }

first-solved : Solves clinging.setup clinging_state drawn none (single (neg_ℤ (pos 50)) (neg_ℤ (pos 26)) (neg_ℤ (pos 1913)) (neg_ℤ (pos 25)) (neg_ℤ (pos 46)) (neg_ℤ (pos 246)))
unfolding none clinging A c system minus zip_with D1
first-solved = worked _ _ _ _ _ _ _ _ _ _ _ _ _ _ _ _ (record { D = pos 287805504; X = pos 2234548352; Y = pos 11965022752; positive = lt_z_yes tt; row₁ = refl; row₂ = refl; near₁ = near tt tt; near₂ = near tt tt }) refl refl

second-solved : Solves clinging.setup clinging_state dropped-away none (single (pos 57) (neg_ℤ (pos 26)) (pos 127) (neg_ℤ (pos 25)) (neg_ℤ (pos 46)) (pos 26))
unfolding none clinging A c system minus zip_with D1
second-solved = worked _ _ _ _ _ _ _ _ _ _ _ _ _ _ _ _ (record { D = pos 16777216; X = pos 1925709824; Y = pos 704643072; positive = lt_z_yes tt; row₁ = refl; row₂ = refl; near₁ = near tt tt; near₂ = near tt tt }) refl refl

idle : {q : ℤ} → Left (pos 0) q (pos 0)
idle = record { pulls = λ h k. absurd h.lt; idle = λ h. refl; pushes = λ h. refl }

-- a contact whose old and new variable sum to 0 is kept, one of −1 is dropped
kept-at-zero : Left (pos 8) (pos 0) (pos 8) × Left (pos 8) (neg_ℤ (pos 1)) (pos 0)
kept-at-zero = (
  record { pulls = λ h k. absurd k.lt; idle = λ h. absurd h.le; pushes = λ h. refl },
  record { pulls = λ h k. refl; idle = λ h. absurd h.le; pushes = λ h. absurd h.le },
)

-- two workings: the first drops both contacts together, the second none
two-workings : Workings clinging.setup clinging_state none drawn (dropped-away ∷ []) dropped-away
unfolding clinging
two-workings = (
  record {
    next = _;
    solves = first-solved;
    length-points = refl;
    point = by_place _ idle (record { pulls = λ h k. refl; idle = λ h. absurd h.le; pushes = λ h. absurd h.le }) idle (λ k. idle);
    finger = record { pulls = λ h k. refl; idle = λ h. absurd h.le; pushes = λ h. absurd h.le };
  },
  λ q. apart (ap (λ G. G.finger) q) tt,
  (record { next = _; solves = second-solved; length-points = refl; point = by_place _ idle idle idle (λ k. idle); finger = idle }, refl),
)

-- three workings: the first drops the point's contact, the second the finger's, and the third none
abbrev light : State
light = single (neg_ℤ (pos 29)) (neg_ℤ (pos 52)) (pos 311) (neg_ℤ (pos 88)) (neg_ℤ (pos 69)) (neg_ℤ (pos 341))

abbrev finger-left : PointsAndFinger
finger-left = record { points = pos 0 ∷ []; finger = pos 42 }

three-workings : Workings (setup_of 100 500 1) light none (record { points = pos 17 ∷ []; finger = pos 42 }) (finger-left ∷ dropped-away ∷ []) dropped-away × AtMostThree (finger-left ∷ dropped-away ∷ [])
unfolding none A c system minus zip_with D1
three-workings = (
  (
    record {
      next = single (neg_ℤ (pos 5)) (neg_ℤ (pos 29)) (neg_ℤ (pos 488)) (neg_ℤ (pos 39)) (neg_ℤ (pos 88)) (pos 373);
      solves = worked 100 500 1 _ _ _ _ _ _ _ _ _ _ _ _ _ (record { D = pos 7741289; X = pos 361415962; Y = pos 235411958; positive = lt_z_yes tt; row₁ = refl; row₂ = refl; near₁ = near tt tt; near₂ = near tt tt }) refl refl;
      length-points = refl;
      point = by_place _ idle (record { pulls = λ h k. refl; idle = λ h. absurd h.le; pushes = λ h. absurd h.le }) idle (λ k. idle);
      finger = record { pulls = λ h k. absurd k.lt; idle = λ h. absurd h.le; pushes = λ h. refl };
    },
    λ q. apart (ap (λ G. at G.points 1) q) tt,
    (
      record {
        next = single (neg_ℤ (pos 5)) (neg_ℤ (pos 29)) (pos 311) (neg_ℤ (pos 38)) (neg_ℤ (pos 88)) (pos 331);
        solves = worked 100 500 1 _ _ _ _ _ _ _ _ _ _ _ _ _ (record { D = pos 7231204; X = pos 342752852; Y = pos 225048520; positive = lt_z_yes tt; row₁ = refl; row₂ = refl; near₁ = near tt tt; near₂ = near tt tt }) refl refl;
        length-points = refl;
        point = by_place _ idle idle idle (λ k. idle);
        finger = record { pulls = λ h k. refl; idle = λ h. absurd h.le; pushes = λ h. absurd h.le };
      },
      λ q. apart (ap (λ G. G.finger) q) tt,
      (
        record {
          next = single (neg_ℤ (pos 5)) (neg_ℤ (pos 29)) (pos 311) (neg_ℤ (pos 107)) (neg_ℤ (pos 88)) (neg_ℤ (pos 341));
          solves = worked 100 500 1 _ _ _ _ _ _ _ _ _ _ _ _ _ (record { D = pos 4096; X = pos 194216; Y = neg_ℤ (pos 155648); positive = lt_z_yes tt; row₁ = refl; row₂ = refl; near₁ = near tt tt; near₂ = near tt tt }) refl refl;
          length-points = refl;
          point = by_place _ idle idle idle (λ k. idle);
          finger = idle;
        },
        refl,
      ),
    ),
  ),
  lit≤ tt,
)

-- string and finger move by 20 and 40: both contacts have a new variable below 0, −60, and hold, since the old one is 100; one working is enough
abbrev held : PointsAndFinger
held = record { points = pos 8 ∷ []; finger = pos 8 }

holding : Workings (bench_setup 1 0 0 0 64) (single (neg_ℤ (pos 16)) (neg_ℤ (pos 16)) (pos 100) (neg_ℤ (pos 32)) (neg_ℤ (pos 32)) (pos 100)) (forces (pos 81888) (pos 163520)) held [] held
unfolding A c system minus zip_with D1
holding = (
  record {
    next = single (pos 4) (neg_ℤ (pos 16)) (neg_ℤ (pos 60)) (pos 8) (neg_ℤ (pos 32)) (neg_ℤ (pos 60));
    solves = worked 1 64 4096 _ _ _ _ _ _ _ _ _ _ _ _ _ (record { D = pos 1; X = pos 20; Y = pos 40; positive = lt_z_yes tt; row₁ = refl; row₂ = refl; near₁ = near tt tt; near₂ = near tt tt }) refl refl;
    length-points = refl;
    point = by_place _ idle (record { pulls = λ h k. absurd k.lt; idle = λ h. absurd h.le; pushes = λ h. refl }) idle (λ k. idle);
    finger = record { pulls = λ h k. absurd k.lt; idle = λ h. absurd h.le; pushes = λ h. refl };
  },
  refl,
)

-- the finger's contact was not kept: it pulled in the first
was-pulled : KeptOrPulled clinging.setup clinging_state none (λ G. G.finger) (λ x. x.finger.contact) drawn dropped-away
was-pulled = inr (record { gradients = drawn; next = _; solves = first-solved; above = lt_z_yes tt; below = lt_z_yes tt }, refl)

-- the lowest contact variables of all pull, are dropped, and stay what they are
abbrev lowest : State
lowest = state_of (one_point (neg_ℤ (pos 16)) (neg_ℤ (pos 16)) (neg_ℤ (pos 67108864)) 0 (finger (neg_ℤ (pos 32)) (neg_ℤ (pos 32)) (neg_ℤ (pos 67108864))))

not-below : let y = next_state (worked_step (bench_setup 1 0 0 0 64) (flat_neck 64) lowest (forces (pos 0) (pos 0))) in NotBelow y × (y.contact ≡ lowest.contact) × (y.finger.contact ≡ lowest.finger.contact)
unfolding state_of worked_step clear cleared kept let_go settled some_pull dropped totals pulls left gradients gradient root greatest moves A c system rounded₁
    rounded₂ nearest floor next_state plus minus times zip_with D1
not-below = (record { point = by_place _ (le_z_yes tt) (le_z_yes tt) (le_z_yes tt) (λ k. le_z_yes tt); finger = le_z_yes tt }, refl, refl)
