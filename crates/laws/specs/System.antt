-- The two-by-two system: the determinants solve it exactly; its rounded solution is the only one, and leaves a small residual.
use Rattle.std.specs.Prelude.{◌≡◌, ℤ, pos, nat_abs, ◌+ℤ◌, ◌-ℤ◌, ◌*ℤ◌, ◌≤ℤ◌, ◌<ℤ◌}
use Rattle.std.proofs.Math.Path.{sym, ap}
use Rattle.std.proofs.Common.{◌∙◌}
use Rattle.std.proofs.Math.IntN.{neg_ℤ}
use Rattle.integers.specs.Solve.{◌⊕◌, ◌⊖◌, ◌⊗◌, ⊝◌, #◌, ◌≐◌, solve}
use Rattle.integers.specs.Derive.{≡-from, ◌⊹◌, ◌⊙◌}
use Rattle.integers.specs.Order.{≤_trans, ≤-sum, ≤-times, ≤-of-eq, <-≤, nonneg, cancel-≤}
use Rattle.integers.specs.Size.{size, size-add, size-mul, size-nonneg}
use Rattle.model.specs.System.{System, det, det₁, det₂, rounded₁, rounded₂, residual₁, residual₂}
use Rattle.promises.specs.Promises.{IsNearest, IsRounded}
use Rattle.laws.specs.Nearest.{nearest_is, unique, same-fraction}

module _ (t : System) (regular : pos 0 <ℤ det t) where
  -- by determinants
  pub rounded_is : IsRounded t (rounded₁ t) (rounded₂ t)
  unfolding rounded₁ rounded₂
  rounded_is = record {
    D = det t;
    X = det₁ t;
    Y = det₂ t;
    positive = regular;
    row₁ = solve 6 (λ a b c d e f. a ⊗ (e ⊗ d ⊖ b ⊗ f) ⊕ b ⊗ (a ⊗ f ⊖ e ⊗ c) ≐ (a ⊗ d ⊖ b ⊗ c) ⊗ e) tt t.a₁₁ t.a₁₂ t.a₂₁ t.a₂₂ t.b₁ t.b₂;
    row₂ = solve 6 (λ a b c d e f. c ⊗ (e ⊗ d ⊖ b ⊗ f) ⊕ d ⊗ (a ⊗ f ⊖ e ⊗ c) ≐ (a ⊗ d ⊖ b ⊗ c) ⊗ f) tt t.a₁₁ t.a₁₂ t.a₂₁ t.a₂₂ t.b₁ t.b₂;
    near₁ = nearest_is (det₁ t) regular;
    near₂ = nearest_is (det₂ t) regular;
  }

  -- and in no other way
  pub rounded₁-unique : {x y : ℤ} → IsRounded t x y → x ≡ rounded₁ t
  unfolding rounded₁
  rounded₁-unique r = unique regular (same-fraction r.positive regular
      (≡-from (t.a₂₂ ⊙ r.row₁ ⊹ neg_ℤ t.a₁₂ ⊙ r.row₂) (solve 9 (λ a b c d e f D X Y. X ⊗ (a ⊗ d ⊖ b ⊗ c) ⊖ (e ⊗ d ⊖ b ⊗ f) ⊗ D ≐ d ⊗ (a ⊗ X ⊕ b ⊗ Y) ⊕ ⊝ b ⊗ (c ⊗ X ⊕ d ⊗ Y) ⊖ (d ⊗ (D ⊗ e) ⊕ ⊝ b ⊗ (D ⊗ f))) tt
      t.a₁₁ t.a₁₂ t.a₂₁ t.a₂₂ t.b₁ t.b₂ r.D r.X r.Y)) r.near₁) (nearest_is (det₁ t) regular)

  pub rounded₂-unique : {x y : ℤ} → IsRounded t x y → y ≡ rounded₂ t
  unfolding rounded₂
  rounded₂-unique r = unique regular (same-fraction r.positive regular
      (≡-from (neg_ℤ t.a₂₁ ⊙ r.row₁ ⊹ t.a₁₁ ⊙ r.row₂) (solve 9 (λ a b c d e f D X Y. Y ⊗ (a ⊗ d ⊖ b ⊗ c) ⊖ (a ⊗ f ⊖ e ⊗ c) ⊗ D ≐ ⊝ c ⊗ (a ⊗ X ⊕ b ⊗ Y) ⊕ a ⊗ (c ⊗ X ⊕ d ⊗ Y) ⊖ (⊝ c ⊗ (D ⊗ e) ⊕ a ⊗ (D ⊗ f))) tt
      t.a₁₁ t.a₁₂ t.a₂₁ t.a₂₂ t.b₁ t.b₂ r.D r.X r.Y)) r.near₂) (nearest_is (det₂ t) regular)

-- ---- twice a row's residual is at most the sizes of its two entries

module _ (a b e D X Y x y : ℤ) where
  dx : ℤ
  dx = pos 2 *ℤ (D *ℤ x -ℤ X)

  dy : ℤ
  dy = pos 2 *ℤ (D *ℤ y -ℤ Y)

  twice : ℤ
  twice = pos 2 *ℤ (a *ℤ x +ℤ b *ℤ y -ℤ e)

  part : (c d : ℤ) → size d ≤ℤ D → size (c *ℤ d) ≤ℤ (size c *ℤ D)
  part c d h = rw (size-mul c d) (≤-times (nonneg (nat_abs c)) h)

  row : pos 0 <ℤ D → a *ℤ X +ℤ b *ℤ Y ≡ D *ℤ e → IsNearest X D x → IsNearest Y D y → size twice ≤ℤ (size a +ℤ size b)
  unfolding dx dy twice
  row z s hx hy = cancel-≤ z (≤_trans (≤-of-eq scaled)
      (≤_trans (size-add (a *ℤ dx) (b *ℤ dy)) (≤_trans (≤-sum (part a dx hx.near) (part b dy hy.near)) (≤-of-eq (solve 3 (λ a b d. a ⊗ d ⊕ b ⊗ d ≐ d ⊗ (a ⊕ b)) tt (size a) (size b) D)))))
    where
      scaled : D *ℤ size twice ≡ size (a *ℤ dx +ℤ b *ℤ dy)
      scaled = ap (λ d. d *ℤ size twice) (sym (size-nonneg (<-≤ z))) ∙ sym (size-mul D twice) ∙ ap size (≡-from {a = D *ℤ twice} {b = a *ℤ dx +ℤ b *ℤ dy} (pos 2 ⊙ s)
          (solve 8 (λ a b e D X Y x y. D ⊗ (# 2 ⊗ (a ⊗ x ⊕ b ⊗ y ⊖ e)) ⊖ (a ⊗ (# 2 ⊗ (D ⊗ x ⊖ X)) ⊕ b ⊗ (# 2 ⊗ (D ⊗ y ⊖ Y))) ≐ # 2 ⊗ (a ⊗ X ⊕ b ⊗ Y) ⊖ # 2 ⊗ (D ⊗ e)) tt a b e D X Y x y))

module _ {t : System} {x y : ℤ} (r : IsRounded t x y) where
  pub residual₁-≤ : size (pos 2 *ℤ residual₁ t x y) ≤ℤ (size t.a₁₁ +ℤ size t.a₁₂)
  unfolding twice
  residual₁-≤ = row t.a₁₁ t.a₁₂ t.b₁ r.D r.X r.Y x y r.positive r.row₁ r.near₁ r.near₂

  pub residual₂-≤ : size (pos 2 *ℤ residual₂ t x y) ≤ℤ (size t.a₂₁ +ℤ size t.a₂₂)
  unfolding twice
  residual₂-≤ = row t.a₂₁ t.a₂₂ t.b₂ r.D r.X r.Y x y r.positive r.row₂ r.near₁ r.near₂
