-- The contact gradient is 01's, from 0 to 255: its root is the greatest whole number whose square is at most 64·q, and the only one.
use Rattle.std.specs.Prelude.{◌≡◌, Bool, not, cond, leb, ℤ, pos, nat_abs, ◌≤ℤ◌, ◌<ℤ◌}
use Rattle.std.proofs.Math.Path.{refl, subst}
use Rattle.std.proofs.Common.{sym, le_antisymm, mul-le-mul, eq-or-lt_of_le, le_of_suc-le-suc, lt_of_lt_of_le}
use Rattle.std.proofs.Math.Bool.{true, false}
use Rattle.std.proofs.Math.Logic.{⊎_elim}
use Prim.Native.Nat.{ℕ, zero, suc, ◌*◌, ◌/◌, min, ◌≤◌, ◌<◌, zero-le}
use Rattle.std.proofs.Math.Nat.{le_refl, le_step, min-le_left}
use native.Mathlib.Omega.{arith}
use Rattle.std.proofs.Math.Dec.{T}
use Rattle.std.proofs.Math.Facts.{leb_yes, leb_no, yes_leb, clash}
use Rattle.std.specs.Int.Signed.{le_z, le_z_yes, clash_ℤ}
use Rattle.integers.specs.Order.{≤-refl, nonneg}
use Rattle.integers.specs.Tests.{is_true, is_false}
use Rattle.integers.specs.Size.{◌within◌, natural}
use Rattle.model.specs.Gradient.{greatest, root, gradient}
use Rattle.promises.specs.Promises.{IsRoot, IsGradient}

module _ (f : ℕ → Bool) where
  -- it passes, where 0 does
  passes : (n : ℕ) → T (f 0) → T (f (greatest n f))
  unfolding greatest
  passes zero z = z
  passes (suc n) z = go (f (suc n)) refl (passes n z)
    where
      go : (b : Bool) → f (suc n) ≡ b → T (f (greatest n f)) → T (f (elim b [ true ↦ suc n | false ↦ greatest n f ]))
      go true e h = rw e tt
      go false e h = h

  -- it passes, where some number up to n does
  pub some-passes : (n k : ℕ) → k ≤ n → T (f k) → T (f (greatest n f))
  unfolding greatest
  some-passes zero k l t = let z : k ≡ 0 = omega arith in rw z at t
  some-passes (suc n) k l t = go (f (suc n)) refl (some-passes n k)
    where
      go : (b : Bool) → f (suc n) ≡ b → (k ≤ n → T (f k) → T (f (greatest n f))) → T (f (elim b [ true ↦ suc n | false ↦ greatest n f ]))
      go true e r = rw e tt
      go false e r = ⊎_elim (λ (q : k ≡ suc n). absurd (rw (q, e) at t)) (λ q. r (le_of_suc-le-suc q) t) (eq-or-lt_of_le l)

  -- none beyond it does
  pub beyond : (n k : ℕ) → greatest n f < k → k ≤ n → T (not (f k))
  unfolding greatest
  beyond zero k h l = absurd (omega arith)
  beyond (suc n) k h l = go (f (suc n)) refl h (beyond n k)
    where
      go : (b : Bool) → f (suc n) ≡ b → elim b [ true ↦ suc n | false ↦ greatest n f ] < k → (greatest n f < k → k ≤ n → T (not (f k))) → T (not (f k))
      go true e h r = clash h l
      go false e h r = ⊎_elim (λ (q : k ≡ suc n). subst (λ (j : ℕ). T (not (f j))) (sym q) (rw e tt)) (λ q. r h (le_of_suc-le-suc q)) (eq-or-lt_of_le l)

  pub greatest-≤ : (n : ℕ) → greatest n f ≤ n
  unfolding greatest
  greatest-≤ zero = zero-le
  greatest-≤ (suc n) = go (f (suc n)) (greatest-≤ n)
    where
      go : (b : Bool) → greatest n f ≤ n → elim b [ true ↦ suc n | false ↦ greatest n f ] ≤ suc n
      go true h = le_refl (suc n)
      go false h = le_step h

-- what holds of 0 and of every root holds of a gradient
by-root : (P : ℤ → Type 0) → P (pos 0) → ((q : ℕ) → P (pos (root q))) → (k : ℕ) (d : ℤ) → P (gradient k d)
unfolding gradient
by-root P z h k d = go (le_z d (pos 0))
  where
    go : (b : Bool) → P (cond b (pos 0) (pos (root (min 1023 (k * nat_abs d / 1024)))))
    go true = z
    go false = h _

pub gradient-size : (k : ℕ) (d : ℤ) → gradient k d within 255
unfolding root
gradient-size = by-root (λ g. g within 255) (natural zero-le) (λ q. natural (greatest-≤ _ 255))

pub gradient-nonneg : (k : ℕ) (d : ℤ) → pos 0 ≤ℤ gradient k d
gradient-nonneg = by-root (λ g. pos 0 ≤ℤ g) ≤-refl (λ q. nonneg (root q))

pub root_is : (q : ℕ) → q ≤ 1023 → IsRoot q (root q)
unfolding root
root_is q h = record { low = leb_yes (passes f 255 (yes_leb {b = 64 * q} zero-le)); high = go (leb (suc r) 255) refl }
  where
    f : ℕ → Bool
    f r = leb (r * r) (64 * q)

    r : ℕ
    r = greatest 255 f

    go : (b : Bool) → leb (suc r) 255 ≡ b → 64 * q < suc r * suc r
    go true e = leb_no (beyond f 255 (suc r) (le_refl (suc r)) (leb_yes (rw e tt)))
    go false e =
        let l : 256 ≤ suc r = leb_no (rw e tt) in
        let s : 256 * 256 ≤ suc r * suc r = mul-le-mul l l in
        omega arith

-- r ≤ r'
under : {q r r' : ℕ} → IsRoot q r → IsRoot q r' → r ≤ r'
under {q} {r} {r'} h k = go (leb r r') refl
  where
    go : (b : Bool) → leb r r' ≡ b → r ≤ r'
    go true e = leb_yes (rw e tt)
    go false e = let l : suc r' ≤ r = leb_no (rw e tt) in clash (lt_of_lt_of_le k.high (mul-le-mul l l)) h.low

pub root-unique : {q r r' : ℕ} → IsRoot q r → IsRoot q r' → r ≡ r'
root-unique h k = le_antisymm (under h k) (under k h)

pub gradient_is : (k : ℕ) (d : ℤ) → IsGradient k d (gradient k d)
unfolding gradient
gradient_is k d = record { free = λ h. rw (is_true (le_z d (pos 0)) h.le); contact = λ h. (root q, (rw (is_false (le_z d (pos 0)) (above h)), root_is q (min-le_left 1023 (k * nat_abs d / 1024)))) }
  where
    q : ℕ
    q = min 1023 (k * nat_abs d / 1024)

    above : pos 0 <ℤ d → T (not (le_z d (pos 0)))
    above h = go (le_z d (pos 0)) refl
      where
        go : (b : Bool) → le_z d (pos 0) ≡ b → T (not b)
        go true e = clash_ℤ h (le_z_yes (rw e tt))
        go false e = tt
