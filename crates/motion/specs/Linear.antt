-- The weighted string by place, and D1 of it.
use Rattle.std.specs.Prelude.{◌≡◌, ◌+ℤ◌, ◌-ℤ◌, ◌*ℤ◌, length}
use Rattle.std.proofs.Math.Path.{refl, ap₂}
use Rattle.std.proofs.Common.{sym, ◌∙◌, eq-or-lt_of_le, le_of_suc-le-suc, le_of_eq, le_trans, arith}
use mathlib.Core.List.{List}
use Rattle.std.proofs.Math.Logic.{⊎_elim}
use Prim.Native.Nat.{ℕ, zero, suc, ◌≤◌, ◌<◌}
use Rattle.std.proofs.Math.Decide.{dec_lt}
use Rattle.std.proofs.Math.IntN.{ℤ, pos}
use Rattle.std.proofs.Math.ListN.{get_or-eq_default}
use Rattle.integers.specs.Filled.{length-tabulate, get_d_tabulate}
use Rattle.integers.specs.Solve.{◌⊕◌, ◌⊖◌, ◌⊗◌, #◌, ◌≐◌, solve}
use Rattle.integers.specs.Size.{◌within◌, ◌⟨+⟩◌, ◌⟨-⟩◌, ◌⟨*⟩◌, num, natural, wide}
use Rattle.integers.specs.Sum.{bend}
use Rattle.model.specs.Setup.{L, M, S, points}
use Rattle.model.specs.Differences.{at, minus, D1, D2}
use Rattle.model.specs.declared.Setup.{Setup}
use Rattle.laws.specs.Strings.{◌spans◌, at-past, at-D1, spans-D1, at-minus, spans-minus}
use Rattle.motion.specs.Weighted.{weighted, StringRanges, weighted_size}
use Rattle.motion.specs.InRange.{displacement-size, facts, newer-spans, older-spans}

module _ (s : Setup) {u v : List ℤ} {n : ℕ} (hu : u spans n) (hv : v spans n) where
  -- its value at a place, by the two strings
  f : ℕ → ℤ
  f i = pos (L s) *ℤ at u i -ℤ pos (M s) *ℤ at (D1 u) i +ℤ pos (S s) *ℤ at (minus u v) i

  pub spans-weighted : weighted s u v spans n
  unfolding weighted f
  spans-weighted = record { long = length-tabulate (length u) (λ k. f (suc k)) ∙ hu.long }

  zeros : {x y z : ℤ} → x ≡ pos 0 → y ≡ pos 0 → z ≡ pos 0 → pos 0 ≡ pos (L s) *ℤ x -ℤ pos (M s) *ℤ y +ℤ pos (S s) *ℤ z
  zeros p q r = rw (p, q, r) (solve 3 (λ L M S. # 0 ≐ L ⊗ # 0 ⊖ M ⊗ # 0 ⊕ S ⊗ # 0) tt (pos (L s)) (pos (M s)) (pos (S s)))

  inner : (k : ℕ) → k < n → at (weighted s u v) (suc k) ≡ f (suc k)
  unfolding weighted f
  inner k l = get_d_tabulate (length u) (λ k. f (suc k)) (pos 0) k (rw hu.long l)

  -- at each place from 0 to N, the ends included
  at-weighted : (i : ℕ) → i ≤ suc n → at (weighted s u v) i ≡ f i
  unfolding f
  at-weighted zero h = zeros refl refl refl
  at-weighted (suc k) h = ⊎_elim end (inner k) (eq-or-lt_of_le (le_of_suc-le-suc h))
    where
      end : k ≡ n → at (weighted s u v) (suc k) ≡ f (suc k)
      end e = rw e (at-past spans-weighted ∙ zeros (at-past hu) (at-past (spans-D1 hu)) (at-past (spans-minus hu hv)))

  -- nothing past the last point
  pub weighted-past : (i : ℕ) → n < i → at (weighted s u v) i ≡ pos 0
  weighted-past zero h = refl
  weighted-past (suc k) h = get_or-eq_default (weighted s u v) (pos 0) (le_trans (le_of_eq spans-weighted.long) (le_of_suc-le-suc h))

  -- a point's value by the displacements that `weigh` takes
  pub weighted-point : (k : ℕ) → k < n → at (weighted s u v) (suc k) ≡ pos (L s) *ℤ at u (suc k) -ℤ pos (M s) *ℤ bend (at u) k +ℤ pos (S s) *ℤ (at u (suc k) -ℤ at v (suc k))
  unfolding f
  weighted-point k l = inner k l ∙ ap₂ (λ x y. pos (L s) *ℤ at u (suc k) -ℤ pos (M s) *ℤ x +ℤ pos (S s) *ℤ y) (at-D1 hu k l) (at-minus hu hv (suc k))

  -- D1 of it is the string terms of c
  pub weighted-linear : (k : ℕ) → k < n
      → at (D1 (weighted s u v)) (suc k) ≡ pos (L s) *ℤ at (D1 u) (suc k) -ℤ pos (M s) *ℤ at (D2 u) (suc k) +ℤ pos (S s) *ℤ at (D1 (minus u v)) (suc k)
  unfolding f
  weighted-linear k l =
      at-D1 spans-weighted k l
      ∙ bends (at-weighted k (omega arith)) (at-weighted (suc k) (omega arith)) (at-weighted (suc (suc k)) (omega arith))
      ∙ solve 12 (λ L M S x y z x' y' z' x'' y'' z''. (L ⊗ x ⊖ M ⊗ y ⊕ S ⊗ z) ⊖ # 2 ⊗ (L ⊗ x' ⊖ M ⊗ y' ⊕ S ⊗ z') ⊕ (L ⊗ x'' ⊖ M ⊗ y'' ⊕ S ⊗ z'')
      ≐ L ⊗ (x ⊖ # 2 ⊗ x' ⊕ x'') ⊖ M ⊗ (y ⊖ # 2 ⊗ y' ⊕ y'') ⊕ S ⊗ (z ⊖ # 2 ⊗ z' ⊕ z'')) tt (pos (L s)) (pos (M s)) (pos (S s))
      (at u k) (at (D1 u) k) (at a k) (at u (suc k)) (at (D1 u) (suc k)) (at a (suc k)) (at u (suc (suc k))) (at (D1 u) (suc (suc k))) (at a (suc (suc k)))
      ∙ parts (sym (at-D1 hu k l)) (sym (at-D1 (spans-D1 hu) k l)) (sym (at-D1 (spans-minus hu hv) k l))
    where
      a : List ℤ
      a = minus u v

      bends : {x y z x' y' z' : ℤ} → x ≡ x' → y ≡ y' → z ≡ z' → x -ℤ pos 2 *ℤ y +ℤ z ≡ x' -ℤ pos 2 *ℤ y' +ℤ z'
      bends p q r = cc

      parts : {x y z x' y' z' : ℤ} → x ≡ x' → y ≡ y' → z ≡ z' → pos (L s) *ℤ x -ℤ pos (M s) *ℤ y +ℤ pos (S s) *ℤ z ≡ pos (L s) *ℤ x' -ℤ pos (M s) *ℤ y' +ℤ pos (S s) *ℤ z'
      parts p q r = cc

-- how large it is where the displacements are in range
pub weighted-size : {s : Setup} {u v : List ℤ} → StringRanges s u v → (i : ℕ) → at (weighted s u v) i within weighted_size
weighted-size {s} {u} {v} h zero = wide (num 0) tt
weighted-size {s} {u} {v} h (suc k) = go (dec_lt k (points s))
  where
    x : (i : ℕ) → at u i within 1048576
    x = displacement-size u h.newer

    y : (i : ℕ) → at v i within 1048576
    y = displacement-size v h.older

    go : Dec (k < points s) → at (weighted s u v) (suc k) within weighted_size
    go (yes l) = rw (weighted-point s (newer-spans h) (older-spans h) k l)
        (natural (facts h).tension ⟨*⟩ x (suc k) ⟨-⟩ natural (facts h).stiffness ⟨*⟩ (x k ⟨-⟩ num 2 ⟨*⟩ x (suc k) ⟨+⟩ x (suc (suc k))) ⟨+⟩ natural (facts h).viscous ⟨*⟩ (x (suc k) ⟨-⟩ y (suc k)))
    go (no l) = rw (weighted-past s (newer-spans h) (older-spans h) (suc k) (omega arith)) (wide (num 0) tt)
