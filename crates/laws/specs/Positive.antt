-- The stored energy is never negative, for any state whose two strings have one length and a setup with L + 4M + 2S ≤ 4096.
use Rattle.std.specs.Prelude.{◌≡◌, refl, List, [], ◌∷◌, ℕ, suc, ◌+◌, ◌*◌, ◌≤◌, ℤ, pos, ◌+ℤ◌, ◌-ℤ◌, ◌*ℤ◌, ◌≤ℤ◌, length}
use Rattle.std.proofs.Common.{ap}
use Rattle.std.specs.Int.Signed.{lt_z_yes}
use Rattle.integers.specs.Solve.{◌⊕◌, ◌⊖◌, ◌⊗◌, ⊝◌, #◌, ◌≐◌, solve}
use Rattle.integers.specs.Derive.{◌≼◌, ◌⊢◌, times, equal, square, deduce}
use Rattle.integers.specs.Order.{≤_trans, ≤-of-eq, pos-≤, nonneg, minus-≤, times-nonneg, square-nonneg, cancel-≤}
use Rattle.integers.specs.Sum.{sum, sum-cong, sum_first, sum-≤, sum_nonneg, sum-linear, bend}
use Rattle.model.specs.Setup.{L, M, S, m}
use Rattle.model.specs.Differences.{at, plus, minus}
use Rattle.model.specs.State.{State}
use Rattle.model.specs.Energy.{stored_energy}
use Rattle.model.specs.declared.Setup.{Setup}
use Rattle.laws.specs.Strings.{◌spans◌, at-past, spans-minus, at-plus, at-minus, Linear, form, square-plus, square-minus, own, rise, rise-linear, bend-linear, dot-form, E-form, D1-form}

form-nonneg : (α : (ℕ → ℤ) → ℕ → ℤ) (n : ℕ) (f : ℕ → ℤ) → pos 0 ≤ℤ form α n f f
unfolding form
form-nonneg α n f = sum_nonneg n (λ k l. square-nonneg (α f k))

-- 4·f·g = (f + g)² − (f − g)²
polar : {α : (ℕ → ℤ) → ℕ → ℤ} → Linear α → (n : ℕ) (f g : ℕ → ℤ) {s a : ℕ → ℤ} → ((i : ℕ) → s i ≡ f i +ℤ g i) → ((i : ℕ) → a i ≡ f i -ℤ g i)
    → pos 4 *ℤ form α n f g ≡ form α n s s -ℤ form α n a a
polar {α} h n f g e d = rw (square-plus h n f g e, square-minus h n f g d)
    (solve 3 (λ x y z. # 4 ⊗ y ≐ (x ⊕ # 2 ⊗ y ⊕ z) ⊖ (x ⊖ # 2 ⊗ y ⊕ z)) tt (form α n f f) (form α n f g) (form α n g g))

-- Σ (rise of f)² ≤ 2·Σ (f at the right end)² + 2·Σ (f at the left end)²
rises : (n : ℕ) (f : ℕ → ℤ) → sum n (λ k. rise f k *ℤ rise f k) ≤ℤ (pos 2 *ℤ sum n (λ k. f (suc k) *ℤ f (suc k)) +ℤ (pos 2 *ℤ sum n (λ k. f k *ℤ f k) +ℤ pos 0))
rises n f = rw (← sum-linear n ((pos 2, λ k. f (suc k) *ℤ f (suc k)) ∷ (pos 2, λ k. f k *ℤ f k) ∷ []) (λ k l. refl))
    (sum-≤ n (λ k l. deduce 2 (λ x y. square 1 (x ⊕ y) ∷ [] ⊢ (y ⊖ x) ⊗ (y ⊖ x) ≼ # 2 ⊗ (y ⊗ y) ⊕ (# 2 ⊗ (x ⊗ x) ⊕ # 0)) tt (f k) (f (suc k))))

-- E(a, a) ≤ 4·Σa²
rise-own : {a : List ℤ} {n : ℕ} → a spans n → form rise (suc n) (at a) (at a) ≤ℤ (pos 4 *ℤ form own n (at a) (at a))
unfolding form sum
rise-own {a} {n} h = ≤_trans (rises (suc n) (at a)) (rw (sum_first n (λ k. at a k *ℤ at a k), at-past h) (deduce 1 (λ q. [] ⊢ # 2 ⊗ (q ⊕ # 0) ⊕ (# 2 ⊗ (# 0 ⊕ q) ⊕ # 0) ≼ # 4 ⊗ q) tt (form own n (at a) (at a))))

-- Σ(D1a)² ≤ 4·E(a, a)
bend-rise : (n : ℕ) (f : ℕ → ℤ) → form bend n f f ≤ℤ (pos 4 *ℤ form rise (suc n) f f)
unfolding form sum
bend-rise n f =
    ≤_trans (≤-of-eq (sum-cong n (λ k l. ap (λ z. z *ℤ z) (solve 3 (λ x y z. x ⊖ # 2 ⊗ y ⊕ z ≐ (z ⊖ y) ⊖ (y ⊖ x)) tt (f k) (f (suc k)) (f (suc (suc k)))))))
    (≤_trans (rises n (rise f)) (deduce 4 (λ X Y p q. equal (⊝ # 2) (Y ⊕ q ⊗ q ≐ p ⊗ p ⊕ X) ∷ square 2 p ∷ square 2 q ∷ [] ⊢ # 2 ⊗ X ⊕ (# 2 ⊗ Y ⊕ # 0) ≼ # 4 ⊗ (Y ⊕ q ⊗ q)) tt
    (sum n (λ k. rise f (suc k) *ℤ rise f (suc k))) (sum n (λ k. rise f k *ℤ rise f k)) (rise f 0) (rise f n) (sum_first n (λ k. rise f k *ℤ rise f k))))

pub energy-nonneg : (s : Setup) (x : State) {n : ℕ} → x.newer spans n → x.older spans n → L s + 4 * M s + 2 * S s ≤ 4096 → pos 0 ≤ℤ stored_energy s x
unfolding stored_energy
energy-nonneg s x {n} hu hv bound = cancel-≤ {c = pos 4} (lt_z_yes tt) (rw (dot-form ha a, E-form hu x.older, D1-form hu hv, E-form ha a, dot-form {n = length x.contact} (record { long = refl }) x.contact) (deduce 14 (λ L M S m Q uv ss aa Duv Dss Daa ψψ w φ.
    times 2 (# 0 ≼ L ⊗ ss) ∷ times 2 (# 0 ≼ M ⊗ Dss) ∷ times 2 (# 0 ≼ M ⊗ (# 4 ⊗ aa ⊖ Daa)) ∷ times 2 (# 0 ≼ (# 4096 ⊖ (L ⊕ # 4 ⊗ M ⊕ # 2 ⊗ S)) ⊗ aa) ∷ times 8192 (aa ≼ # 4 ⊗ Q)
    ∷ equal (⊝ # 2 ⊗ L) (# 4 ⊗ uv ≐ ss ⊖ aa) ∷ equal (⊝ # 2 ⊗ M) (# 4 ⊗ Duv ≐ Dss ⊖ Daa) ∷ times 8 (# 0 ≼ ψψ) ∷ times 8 (# 0 ≼ m ⊗ (w ⊗ w)) ∷ square 8 φ ∷ []
    ⊢ # 4 ⊗ # 0 ≼ # 4 ⊗ (# 8192 ⊗ Q ⊕ # 2 ⊗ L ⊗ uv ⊕ # 2 ⊗ M ⊗ Duv ⊖ S ⊗ aa ⊕ # 2 ⊗ ψψ ⊕ # 2 ⊗ m ⊗ (w ⊗ w) ⊕ # 2 ⊗ (φ ⊗ φ))) tt
    (pos (L s)) (pos (M s)) (pos (S s)) (pos (m s)) (form own n (at a) (at a))
    (form rise (suc n) (at x.newer) (at x.older)) (form rise (suc n) (at b) (at b)) (form rise (suc n) (at a) (at a))
    (form bend n (at x.newer) (at x.older)) (form bend n (at b) (at b)) (form bend n (at a) (at a))
    (form own (length x.contact) (at x.contact) (at x.contact)) (x.finger.newer -ℤ x.finger.older) x.finger.contact
    (times-nonneg (nonneg (L s)) (form-nonneg rise (suc n) (at b))) (times-nonneg (nonneg (M s)) (form-nonneg bend n (at b)))
    (times-nonneg (nonneg (M s)) (minus-≤ (bend-rise n (at a)))) (times-nonneg (minus-≤ (pos-≤ bound)) (form-nonneg rise (suc n) (at a))) (rise-own ha)
    (polar rise-linear (suc n) (at x.newer) (at x.older) (at-plus hu hv) (at-minus hu hv)) (polar bend-linear n (at x.newer) (at x.older) (at-plus hu hv) (at-minus hu hv))
    (form-nonneg own (length x.contact) (at x.contact)) (times-nonneg (nonneg (m s)) (square-nonneg (x.finger.newer -ℤ x.finger.older)))))
  where
    a : List ℤ
    a = minus x.newer x.older

    b : List ℤ
    b = plus x.newer x.older

    ha : a spans n
    ha = spans-minus hu hv
