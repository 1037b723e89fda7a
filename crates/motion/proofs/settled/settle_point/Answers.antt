-- `settle_point` meets its contract: the contact pulls just where twice its variable is below what it changes by.
use mathlib.Core.Path.{◌≡◌, sym, ◌∙◌, ap, ap₂, subst}
use mathlib.Core.Bool.{Bool, true, false, cond}
use mathlib.Core.List.{[], ◌∷◌}
use lib.IntN.{ℤ, pos, ◌-ℤ◌, ◌*ℤ◌}
use lib.Signed.{lt_z}
use mir.Syntax.{w32, w64}
use mir.Val.{SFits, to_z, of_z}
use mir.Facts.{to_z-of_z}
use Rattle.integers.specs.Bits.{wide_fits}
use Rattle.integers.specs.Machine.{Code, var, ♯◌, ◌⊟◌, ◌⊠◌, cast, Within, ∅, ◌▹◌, entry, fits, result, held-within}
use Rattle.integers.specs.Size as Size
use Rattle.integers.specs.Size.{◌within◌, ◌⟨-⟩◌, num, wide}
use Rattle.integers.specs.Solve.{◌⊖◌, ◌⊗◌, #◌, ◌≐◌, solve}
use Rattle.integers.specs.Tests.{below}
use Rattle.laws.specs.LastMoves.{with_contact, settled_gradient, settled_move, settled_contact, left-by-test}
use Rattle.laws.specs.MoveSizes.{SmallMove, move_size, away-small}
use Rattle.laws.specs.Pulling.{move_by}
use Rattle.laws.specs.Sizes.{side-size}
use Rattle.motion.specs.MoveRanges.{point_sizes}
use Rattle.motion.specs.declared.settled.Settled.{Settled}
use Rattle.motion.proofs.settled.settle_point.Goals as goal
use Rattle.motion.proofs.settled.settle_point.Goals.{After-point_move-delta, Start}

-- what the code works out, from the gradient, the move and the contact variable
abbrev change : Code
change = var 0 ⊠ cast w32 (var 1)

abbrev twice : Code
twice = ♯ 2 ⊠ cast w32 (var 2)

abbrev next : Code
next = cast w32 (var 2) ⊟ change

module _ (a : Start) where
  abbrev ψ : ℤ
  ψ = a.args.contact

  abbrev g : ℤ
  g = a.args.gradient

  -- the move with a gradient
  abbrev move : ℤ → ℤ
  move h = move_by a.args.setup (with_contact a.args.side ψ) ψ h

  move-small : {h : ℤ} → h within 255 → SmallMove h (move h)
  move-small k = away-small a.args.setup (side-size (entry a.requires.1 0) (entry a.requires.1 2) k) k

  read : Within (to_z w64 (of_z w64 a.args.side) ∷ to_z w64 (of_z w64 g) ∷ to_z w32 (of_z w32 ψ) ∷ []) point_sizes
  read = held-within a.requires.1 w64 (var 0) tt ▹ held-within a.requires.1 w64 (var 1) tt ▹ held-within a.requires.1 w32 (var 2) tt ▹ ∅

  -- what settles, by the gradient that is left
  settled-by : (h : ℤ) → settled_gradient a.args.setup a.args.side ψ g ≡ h
      → ◌≡◌ {A = Settled} (record { delta = move h; contact = ψ -ℤ h *ℤ move h }) (record { delta = settled_move a.args.setup a.args.side ψ g; contact = settled_contact a.args.setup a.args.side ψ g })
  settled-by h q = ap (λ h. record { delta = move h; contact = ψ -ℤ h *ℤ move h }) (sym q)

-- the first move
module _ (d : After-point_move-delta) where
  abbrev start : Start
  start = d.before

  abbrev δ : ℤ
  δ = d.point_move-delta.result

  move-fits : SFits w32 δ
  move-fits = record { sfits = d.point_move-delta.type_inv }

  move_is : δ ≡ move start (g start)
  move_is = let k = start in d.point_move-delta.ensures ∙ (λ i. move_by k.args.setup (with_contact (to_z-of_z k.ranges.side i) (to_z-of_z k.ranges.contact i)) k.args.contact (to_z-of_z k.ranges.gradient i))

  small : SmallMove (g start) δ
  small = subst (SmallMove (g start)) (sym move_is) (move-small start (entry start.requires.1 1))

  ρ : Within (g start ∷ δ ∷ ψ start ∷ []) (255 ∷ move_size ∷ 67108864 ∷ [])
  ρ = entry start.requires.1 1 ▹ small.move ▹ entry start.requires.1 2 ▹ ∅

  next_fits : SFits w32 (ψ start -ℤ g start *ℤ δ)
  next_fits = Size.fits (entry start.requires.1 2 ⟨-⟩ small.change) tt

  -- the gradient that is left, by the test
  left_is : (b : Bool) → lt_z (to_z w64 (of_z w64 (pos 2 *ℤ to_z w64 (of_z w64 (to_z w32 (of_z w32 (ψ start))))))) (to_z w64 (of_z w64 (to_z w64 (of_z w64 (g start)) *ℤ to_z w64 (of_z w64 (to_z w32 (of_z w32 δ)))))) ≡ b
      → settled_gradient start.args.setup start.args.side (ψ start) (g start) ≡ cond b (pos 0) (g start)
  unfolding below
  left_is b q = left-by-test (ψ start) (g start *ℤ move start (g start)) start.requires.2 b
      (sym (ap₂ lt_z (result ρ w64 twice tt) (result ρ w64 change tt ∙ ap (λ z. g start *ℤ z) move_is)) ∙ q)

pub point_move-again-requires : goal.point_move-again-requires
point_move-again-requires c =
    let k = c.before.before in
    (k.requires.0, held-within k.requires.1 w64 (var 0) tt ▹ wide (num 0) tt ▹ held-within k.requires.1 w32 (var 2) tt ▹ ∅)

pub returns-then-contact-change : goal.returns-then-contact-change
returns-then-contact-change c =
    let d = c.before.before in
    let k = start d in
    (λ i. record {
      delta = (to_z-of_z {w = w32} (record { sfits = c.point_move-again.type_inv }) ∙ c.point_move-again.ensures ∙ (λ i. move_by k.args.setup (with_contact (to_z-of_z k.ranges.side i) (to_z-of_z k.ranges.contact i)) k.args.contact (pos 0))) i;
      contact = (to_z-of_z k.ranges.contact ∙ sym (solve 2 (λ ψ m. ψ ⊖ # 0 ⊗ m ≐ ψ) tt (ψ k) (move k (pos 0)))) i;
    })
    ∙ settled-by k (pos 0) (left_is d true c.if-contact-change.true)

pub returns-else-contact-change : goal.returns-else-contact-change
returns-else-contact-change c =
    let d = c.before in
    let k = start d in
    (λ i. record {
      delta = (to_z-of_z (move-fits d) ∙ move_is d) i;
      contact = (ap (λ z. to_z w32 (of_z w32 z)) (result (ρ d) w64 next tt) ∙ to_z-of_z (next_fits d) ∙ ap (λ z. ψ k -ℤ g k *ℤ z) (move_is d)) i;
    })
    ∙ settled-by k (g k) (left_is d false c.if-contact-change.false)

pub point_move-delta-requires : goal.point_move-delta-requires
point_move-delta-requires a = (a.requires.0, read a)

pub overflow_cast-change : goal.overflow_cast-change
overflow_cast-change d = wide_fits w64 tt (move-fits d)

pub overflow_mul-change : goal.overflow_mul-change
overflow_mul-change d = fits (ρ d) w64 change tt

pub overflow_cast-contact : goal.overflow_cast-contact
overflow_cast-contact d = wide_fits w64 tt (start d).ranges.contact

pub overflow_mul-contact : goal.overflow_mul-contact
overflow_mul-contact d = fits (ρ d) w64 twice tt

pub overflow_cast-result : goal.overflow_cast-result
overflow_cast-result c = wide_fits w64 tt (start c.before).ranges.contact

pub overflow_sub-result : goal.overflow_sub-result
overflow_sub-result c = fits (ρ c.before) w64 next tt

pub overflow_cast-result-else-contact-change : goal.overflow_cast-result-else-contact-change
overflow_cast-result-else-contact-change c = subst (λ z. SFits w32 z) (sym (result (ρ c.before) w64 next tt)) (next_fits c.before)
