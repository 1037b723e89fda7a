-- Where the last place is reached, no pair of neighbours is left.
use Rattle.std.proofs.Common.{◌≡◌, ◌+◌, ◌-◌, ◌≤◌, ◌<◌, ℕ, suc, refl, length, List, [], ◌∷◌, true, arith, drop, length-drop, drop-cons, add-one, get_or, ◌∙◌, ap, subst}
use Rattle.std.specs.Prelude.{◌&&◌, ltb}
use Rattle.std.proofs.Math.Bool.{and_assoc, and-true}
use Rattle.integers.specs.Scan.{Scanned, more, over}
use Rattle.model.specs.Neck.{increasing}
use Rattle.ranges.specs.Scan.{none_yet}
use Rattle.ranges.proofs.places.increasing.Goals as goal

module _ (xs : List ℕ) (i : ℕ) where
  -- a pair of neighbours more
  next : i + 1 < length xs → increasing (drop i xs) ≡ (ltb (get_or xs i 0) (get_or xs (i + 1) 0) && increasing (drop (i + 1) xs))
  next h = rw (add-one, drop-cons xs i 0 (omega arith), drop-cons xs (suc i) 0 (omega arith))

  -- no pair left
  past : length xs ≤ i + 1 → increasing (drop i xs) ≡ true
  past h = go (drop i xs) (omega (arith, length-drop i xs))
    where
      go : (ys : List ℕ) → length ys ≤ 1 → increasing ys ≡ true
      go [] l = refl
      go (y ∷ []) l = refl
      go (y ∷ z ∷ ys) l = absurd (omega arith)

pub loop-i-init : goal.loop-i-init
loop-i-init c = none_yet

pub loop-i-preserved : goal.loop-i-preserved
loop-i-preserved c =
    let l = c.loop-i in
    let xs = c.args.frets.now in
    let before : l.i - 1 + 1 ≡ l.i = omega (arith, l.auto.i) in
    let after : l.i - 1 + 1 ≡ l.i + 1 - 1 = omega (arith, l.auto.i) in
    let pair = next xs (l.i - 1) (omega (arith, l.auto.i, c.loop-i-test.true)) ∙ ap (λ (k : ℕ). ltb (get_or xs (l.i - 1) 0) (get_or xs k 0) && increasing (drop (l.i - 1 + 1) xs)) before in
    subst (λ (k : ℕ). Scanned ◌&&◌ increasing xs (l.ok && ltb (get_or xs (l.i - 1) 0) (get_or xs l.i 0)) k) after (more l.invariant and_assoc _ pair)

pub returns : goal.returns
returns c = over c.loop-i.invariant (and-true _) (past c.args.frets.now (c.loop-i.i - 1) (omega arith))
