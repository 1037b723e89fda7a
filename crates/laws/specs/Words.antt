-- 02, item 6: two words of 64 bits say one number, and no other two say it.
use Rattle.std.specs.Prelude.{◌≡◌, [], ◌∷◌, ℕ, ◌^◌, ◌<◌, ℤ, pos, ◌+ℤ◌, ◌-ℤ◌, ◌*ℤ◌, ◌<ℤ◌}
use Rattle.std.proofs.Common.{sym, ◌∙◌, ap₂, ⊎_elim}
use Rattle.std.specs.Int.Signed.{lt_z_yes, clash_ℤ}
use Rattle.std.proofs.Math.Facts.{yes_ltb}
use Rattle.integers.specs.Order.{nonneg, ≤-of-eq, ≤-antisym, <-or-≤}
use Rattle.integers.specs.Derive.{◌≺◌, ◌≼◌, ◌⊢◌, times, deduce}
use Rattle.integers.specs.Solve.{◌⊕◌, ◌⊖◌, ◌⊗◌, #◌, ◌≐◌, solve}
use Rattle.promises.specs.Book.{OneNumber}

-- the order by the high words
pub by_high : (x y : ℤ) (l m : ℕ) → l < 2 ^ 64 → x <ℤ y → (x *ℤ pos (2 ^ 64) +ℤ pos l) <ℤ (y *ℤ pos (2 ^ 64) +ℤ pos m)
by_high x y l m h k = deduce 4 (λ x y l m. times (2 ^ 64) (x ≺ y) ∷ times 1 (l ≺ # (2 ^ 64)) ∷ times 1 (# 0 ≼ m) ∷ [] ⊢ x ⊗ # (2 ^ 64) ⊕ l ≺ y ⊗ # (2 ^ 64) ⊕ m) tt x y (pos l) (pos m)
    k (lt_z_yes (yes_ltb h)) (nonneg m)

pub one_number : OneNumber
one_number a b la lb e = λ i. record { high = high i; low = low i }
  where
    high : a.high ≡ b.high
    high = ⊎_elim (λ l. clash_ℤ (by_high a.high b.high a.low b.low la l) (≤-of-eq (sym e)))
        (λ l. ⊎_elim (λ m. clash_ℤ (by_high b.high a.high b.low a.low lb m) (≤-of-eq e)) (λ m. ≤-antisym m l) (<-or-≤ b.high a.high))
        (<-or-≤ a.high b.high)

    same : {m n : ℕ} → pos m ≡ pos n → m ≡ n
    same q = cc

    low : a.low ≡ b.low
    low = same (solve 2 (λ h l. l ≐ h ⊗ # (2 ^ 64) ⊕ l ⊖ h ⊗ # (2 ^ 64)) tt a.high (pos a.low) ∙ ap₂ (λ v h. v -ℤ h *ℤ pos (2 ^ 64)) e high
        ∙ sym (solve 2 (λ h l. l ≐ h ⊗ # (2 ^ 64) ⊕ l ⊖ h ⊗ # (2 ^ 64)) tt b.high (pos b.low)))
