-- The machine's signed quotient and remainder by a number above 0: a = b·quotient + remainder, the remainder smaller than b in size.
use Rattle.std.specs.Prelude.{◌≡◌, [], ◌∷◌, ℕ, zero, suc, ◌/◌, ◌%◌, ℤ, pos, negsuc, neg_ℤ, ◌+ℤ◌, ◌*ℤ◌, ◌<ℤ◌}
use Rattle.std.proofs.Common.{sym, ◌∙◌, ap, div-add-mod', mod-lt, zero-lt-suc}
use Rattle.std.specs.Int.Signed.{quot_z, rem_z, lt_z_yes}
use Rattle.std.proofs.Math.Facts.{yes_ltb}
use Rattle.integers.specs.Solve.{◌⊕◌, ◌⊗◌, ⊝◌, #◌, ◌≐◌, solve}
use Rattle.integers.specs.Derive.{◌≺◌, ◌≼◌, ◌⊢◌, times, deduce}
use Rattle.integers.specs.Order.{nonneg}

pub record Divided (a b : ℤ) : Type 0 where
  pub whole : a ≡ b *ℤ quot_z a b +ℤ rem_z a b
  pub above : neg_ℤ b <ℤ rem_z a b
  pub below : rem_z a b <ℤ b

pub divided : (a : ℤ) {b : ℤ} → pos 0 <ℤ b → Divided a b
divided (pos a) {b = pos (suc b)} h =
    let q = pos (a / suc b) in
    let r = pos (a % suc b) in
    let small : r <ℤ pos (suc b) = lt_z_yes (yes_ltb (mod-lt a (zero-lt-suc b))) in
    record {
      whole = ap pos (sym (div-add-mod' a (suc b))) ∙ solve 3 (λ q b r. q ⊗ b ⊕ r ≐ b ⊗ q ⊕ r) tt q (pos (suc b)) r;
      above = deduce 2 (λ b r. times 1 (# 0 ≺ b) ∷ times 1 (# 0 ≼ r) ∷ [] ⊢ ⊝ b ≺ r) tt (pos (suc b)) r h (nonneg (a % suc b));
      below = small;
    }
divided (negsuc a) {b = pos (suc b)} h =
    let q = pos (suc a / suc b) in
    let r = pos (suc a % suc b) in
    let small : r <ℤ pos (suc b) = lt_z_yes (yes_ltb (mod-lt (suc a) (zero-lt-suc b))) in
    record {
      whole = ap (λ (n : ℕ). neg_ℤ (pos n)) (sym (div-add-mod' (suc a) (suc b))) ∙ solve 3 (λ q b r. ⊝ (q ⊗ b ⊕ r) ≐ b ⊗ ⊝ q ⊕ ⊝ r) tt q (pos (suc b)) r;
      above = deduce 2 (λ b r. times 1 (r ≺ b) ∷ [] ⊢ ⊝ b ≺ ⊝ r) tt (pos (suc b)) r small;
      below = deduce 2 (λ b r. times 1 (# 0 ≺ b) ∷ times 1 (# 0 ≼ r) ∷ [] ⊢ ⊝ r ≺ b) tt (pos (suc b)) r h (nonneg (suc a % suc b));
    }
divided a {b = pos zero} h = absurd h.lt
divided a {b = negsuc b} h = absurd h.lt
