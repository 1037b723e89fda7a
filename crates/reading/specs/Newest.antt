-- The newest of two: which it is by the turn, what is read of it, and what holds of it.
use Rattle.std.specs.Prelude.{◌≡◌, refl, ℕ, zero, suc}
use Rattle.std.proofs.Common.{arith}
use Rattle.model.specs.State.{newest}

module _ {ℓ} {A : Type ℓ} (a b : A) where
  pub newest-first : (turn : ℕ) → turn ≡ 0 → a ≡ newest turn a b
  newest-first zero e = refl
  newest-first (suc n) e = absurd (omega arith)

  pub newest-second : (turn : ℕ) → (turn ≡ 0 → ⊥) → b ≡ newest turn a b
  newest-second zero h = absurd (h refl)
  newest-second (suc n) h = refl

  -- what is read of the newest is the newest of what is read
  pub of-newest {κ} : {B : Type κ} (f : A → B) (turn : ℕ) → f (newest turn a b) ≡ newest turn (f a) (f b)
  of-newest f zero = refl
  of-newest f (suc n) = refl

  -- what holds of both holds of the newest
  pub both-newest {κ} : (P : A → Type κ) (turn : ℕ) → P a → P b → P (newest turn a b)
  both-newest P zero h k = h
  both-newest P (suc n) h k = k
