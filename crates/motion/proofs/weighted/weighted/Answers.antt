-- `weighted` meets its contract.
use mathlib.Core.Path.{◌≡◌, refl, sym, ◌∙◌, ap, subst}
use mathlib.Core.List.{List}
use Prim.Native.Nat.{ℕ, suc, ◌+◌, ◌-◌, ◌≤◌, ◌<◌}
use native.Mathlib.Numerals.{add-one}
use native.Mathlib.Omega.{arith}
use lib.Dec.{T}
use lib.IntN.{ℤ, pos, ◌+ℤ◌, ◌-ℤ◌, ◌*ℤ◌}
use lib.ListN.{length, get_or}
use mir.Syntax.{w32, w64}
use mir.Val.{SFits, to_z, of_z}
use mir.Facts.{to_z-of_z}
use Rattle.integers.specs.Filled.{Begun, begun-none, begun-same, begun_more, begun_all}
use Rattle.model.specs.Ranges as Ranges
use Rattle.model.specs.Ranges.{displacement_ok}
use Rattle.model.specs.Setup.{L, M, S, points}
use Rattle.model.specs.Differences.{at}
use Rattle.model.specs.declared.Setup.{Setup}
use Rattle.laws.specs.Strings.{at-past}
use Rattle.motion.specs.Weighted.{weighted, placed, StringRanges}
use Rattle.motion.specs.InRange.{displacement, displacement-read, newer-spans, older-spans, some-point, most-points}
use Rattle.motion.specs.Linear.{weighted-point, weighted-past}
use Rattle.motion.proofs.weighted.weighted.Goals as goal

module _ {s : Setup} {u v : List ℤ} (h : StringRanges s u v) where
  -- `weigh` at the point i + 1 gives what the weighted string has there
  weighs : (i : ℕ) {left own right older r : ℤ} → i < points s → left ≡ at u i → own ≡ at u (suc i) → right ≡ at u (suc (suc i)) → older ≡ at v (suc i) → SFits w64 r
      → r ≡ pos (L s) *ℤ own -ℤ pos (M s) *ℤ (left -ℤ pos 2 *ℤ own +ℤ right) +ℤ pos (S s) *ℤ (own -ℤ older)
      → to_z w64 (of_z w64 r) ≡ at (weighted s u v) (i + 1)
  weighs i l e₁ e₂ e₃ e₄ f e = to_z-of_z f ∙ e ∙ rw (e₁, e₂, e₃, e₄, add-one) (sym (weighted-point s (newer-spans h) (older-spans h) i l))

  read-newer : (k : ℕ) → to_z w32 (of_z w32 (get_or u k (pos 0))) ≡ at u (suc k)
  read-newer k = displacement-read u h.newer k

  read-older : (k : ℕ) → to_z w32 (of_z w32 (get_or v k (pos 0))) ≡ at v (suc k)
  read-older k = displacement-read v h.older k

  displaced : (left k : ℕ) → to_z w32 left ≡ at u k → T (displacement_ok (to_z w32 left))
  displaced left k e = rw e (displacement u h.newer k)

  newer-ok : (k : ℕ) → T (displacement_ok (to_z w32 (of_z w32 (get_or u k (pos 0)))))
  newer-ok k = rw (read-newer k) (displacement u h.newer (suc k))

  older-ok : (k : ℕ) → T (displacement_ok (to_z w32 (of_z w32 (get_or v k (pos 0)))))
  older-ok k = rw (read-older k) (displacement v h.older (suc k))

  inside : {i : ℕ} → i < length u → (i < points s) × (i < length v) × (i + 1 < 129)
  inside l = let e = h.newer-length in let e' = h.older-length in let m = most-points h in (omega arith, omega arith, omega arith)

  some : 1 ≤ length u
  some = let e = h.newer-length in let m = some-point h in omega arith

  -- the last point, whose right neighbour is 0
  end-inside : (length u - 1 < length u) × (length u - 1 < points s) × (length u - 1 < length v) × (length u - 1 + 1 < 129)
  end-inside = let k = some in let l : length u - 1 < length u = omega arith in let j = inside l in (l, j.0, j.1, j.2)

  end-right : pos 0 ≡ at u (suc (suc (length u - 1)))
  end-right = let k = some in let e : suc (length u - 1) ≡ points s = omega (arith, h.newer-length) in sym (rw e (at-past (newer-spans h)))

pub overflow_sub-last : goal.overflow_sub-last
overflow_sub-last c = some c.requires

pub loop-i-init : goal.loop-i-init
loop-i-init c = (refl, begun-same refl begun-none)

pub weigh-requires : goal.weigh-requires
weigh-requires c =
    let h = c.requires in
    let i = c.loop-i.i in
    (h.setup, displaced h c.loop-i.left-bits i c.loop-i.invariant.0, newer-ok h i, newer-ok h (i + 1), older-ok h i)

pub loop-i-preserved : goal.loop-i-preserved
loop-i-preserved c =
    let h = c.requires in
    let i = c.loop-i.i in
    let u = c.args.state.newer.now in
    let k = inside h {i = i} (let l = c.loop-i-test.true in omega arith) in
    let right : to_z w32 (of_z w32 (get_or u (i + 1) (pos 0))) ≡ at u (suc (suc i)) = read-newer h (i + 1) ∙ ap (λ j. get_or u j (pos 0)) (add-one i) in (
      read-newer h i ∙ ap (at u) (sym (add-one i)),
      begun_more k.2 c.loop-i.invariant.1 (weighs h i k.0 c.loop-i.invariant.0 (read-newer h i) right (read-older h i) (record { sfits = c.weigh.type_inv }) c.weigh.ensures),
    )

pub weigh-requires-2 : goal.weigh-requires-2
unfolding displacement_ok Ranges.inside
weigh-requires-2 c =
    let h = c.requires in
    let i = length c.args.state.newer.now - 1 in
    let e : c.loop-i.i ≡ i = omega (arith, c.loop-i.auto.i-end, c.loop-i-test.false) in
    (h.setup, displaced h c.loop-i.left-bits i (rw (← e) c.loop-i.invariant.0), newer-ok h i, tt, older-ok h i)

pub returns : goal.returns
unfolding placed
returns c =
    let h = c.requires in
    let s = c.args.setup in
    let u = c.args.state.newer.now in
    let i = length u - 1 in
    let k = end-inside h in
    let one = some h in
    let n = h.newer-length in
    let e : c.loop-i.i ≡ i = omega (arith, c.loop-i.auto.i-end, c.loop-i-test.false) in
    begun_all (λ j q. weighted-past s (newer-spans h) (older-spans h) j (omega arith))
    (begun_more k.3 (subst (λ (i : ℕ). Begun (pos 0) 129 (at (weighted s u c.args.state.older.now)) (i + 1) c.loop-i.out) e c.loop-i.invariant.1)
    (weighs h i k.1 (subst (λ (i : ℕ). to_z w32 c.loop-i.left-bits ≡ at u i) e c.loop-i.invariant.0) (read-newer h i) (end-right h) (read-older h i) (record { sfits = c.weigh-2.type_inv }) c.weigh-2.ensures))

pub bounds-out-i : goal.bounds-out-i
bounds-out-i c = (inside c.requires {i = c.loop-i.i} (let l = c.loop-i-test.true in omega arith)).2

pub bounds-newer-last : goal.bounds-newer-last
bounds-newer-last c = (end-inside c.requires).0

pub bounds-older-last : goal.bounds-older-last
bounds-older-last c = (end-inside c.requires).2

pub bounds-out-last : goal.bounds-out-last
bounds-out-last c = (end-inside c.requires).3
