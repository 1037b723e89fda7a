-- How large the numbers of a step's equations can be where its refusals 1 to 12 are passed: all of them fit signed 64 bits.
use Rattle.std.specs.Prelude.{◌≡◌, refl, Bool, true, false, cond, List, [], ◌∷◌, ℕ, zero, suc, ◌+◌, ◌*◌, ◌^◌, T, ltb, ℤ, pos, neg_ℤ, ◌+ℤ◌, ◌-ℤ◌, ◌*ℤ◌, ◌≤ℤ◌, ◌<ℤ◌, length}
use Rattle.std.proofs.Common.{sym, zero-le, ltb→lt, nltb→le}
use Rattle.std.specs.Int.Signed.{le_z, le_z_yes}
use Rattle.std.proofs.Math.ListN.{get_or-eq_default}
use Rattle.std.proofs.Math.Facts.{and_yes, yes_and}
use Rattle.integers.specs.Filled.{length-tabulate, get_d_tabulate}
use Rattle.integers.specs.Derive.{◌≼◌, ◌≺◌, ◌⊢◌, times, deduce}
use Rattle.integers.specs.Order.{≤_trans, nonneg, nat_abs-between}
use Rattle.integers.specs.Solve.{◌⊖◌, ⊝◌, #◌}
use Rattle.integers.specs.Sum.{bend}
use Rattle.integers.specs.Size.{◌within◌, ◌⟨+⟩◌, ◌⟨-⟩◌, ◌⟨*⟩◌, num, natural, weaken, wide}
use Rattle.model.specs.Ranges.{all, inside, displacement_ok, height_ok}
use Rattle.model.specs.Setup.{e}
use Rattle.model.specs.Differences.{at, minus, D1}
use Rattle.model.specs.Step.{kept, factor, right_side}
use Rattle.model.specs.declared.Setup.{Setup}
use Rattle.laws.specs.Accepted.{SetupFacts}
use Rattle.laws.specs.Strings.{at-minus}

-- every place of a string is within n
abbrev pub Bounded : List ℤ → ℕ → Type 0
Bounded u n = (i : ℕ) → at u i within n

pub D1-bounded : (u : List ℤ) {n : ℕ} → Bounded u n → Bounded (D1 u) (n + 2 * n + n)
unfolding D1
D1-bounded u {n} h zero = weaken (num 0) zero-le
D1-bounded u {n} h (suc k) = go (ltb k (length u)) refl
  where
    go : (b : Bool) → ltb k (length u) ≡ b → at (D1 u) (suc k) within (n + 2 * n + n)
    go true e = rw (get_d_tabulate (length u) (bend (at u)) (pos 0) k (ltb→lt k (length u) (rw e tt))) (h k ⟨-⟩ num 2 ⟨*⟩ h (suc k) ⟨+⟩ h (suc (suc k)))
    go false e = rw (get_or-eq_default (D1 u) (pos 0) {n = k} (rw (length-tabulate (length u) (bend (at u))) (nltb→le k (length u) (rw e tt)))) (weaken (num 0) zero-le)

pub only : (b : Bool) {y : ℤ} {n : ℕ} → y within n → cond b y (pos 0) within n
only true h = h
only false h = weaken (num 0) zero-le

-- |c| without the contact is at most 2^36 + 2^30: 2^34 each for 8192·(u − v) and the terms of L, M and S, and the pluck force
abbrev pub free_size : ℕ
free_size = 2 ^ 36 + 2 ^ 30

-- and with it, below 2^35 for 2·G·ψ
abbrev pub side_size : ℕ
side_size = 3 * 2 ^ 35 + 2 ^ 30

module _ {s : Setup} (ok : SetupFacts s) where
  pub factor-size : {G : ℤ} → G within 255 → factor s G within 73217
  factor-size g = num 4096 ⟨+⟩ natural ok.plain ⟨+⟩ g ⟨*⟩ g

  pub free-size : (u v : List ℤ) → length u ≡ length v → Bounded u 1048576 → Bounded v 1048576 → {f : ℤ} → f within 1073741824 → (i : ℕ) → right_side s u v (pos 0) (pos 0) f i within free_size
  free-size u v e hu hv f i =
      wide (num 8192 ⟨*⟩ a i ⟨+⟩ natural ok.tension ⟨*⟩ D1-bounded u hu i ⟨-⟩ natural ok.stiffness ⟨*⟩ D1-bounded (D1 u) (D1-bounded u hu) i
      ⟨+⟩ natural ok.viscous ⟨*⟩ D1-bounded (minus u v) a i ⟨+⟩ num 2 ⟨*⟩ num 0 ⟨*⟩ num 0 ⟨+⟩ f) tt
    where
      a : Bounded (minus u v) 2097152
      a i = rw (at-minus (record { long = refl }) (record { long = sym e }) i) (hu i ⟨-⟩ hv i)

pub side-size : {b ψ g : ℤ} → b within free_size → ψ within 67108864 → g within 255 → (b +ℤ pos 2 *ℤ g *ℤ ψ) within side_size
side-size b ψ g = wide (b ⟨+⟩ num 2 ⟨*⟩ g ⟨*⟩ ψ) tt

-- ---- the ranges of 01

pub inside-within : (n : ℕ) (x : ℤ) → T (inside (neg_ℤ (pos n)) x (pos n)) → x within n
unfolding inside
inside-within n x t = let k = and_yes (le_z (neg_ℤ (pos n)) x) (le_z x (pos n)) t in record { size = nat_abs-between (le_z_yes k.0) (le_z_yes k.1) }

pub within-inside : (n : ℕ) {x : ℤ} → neg_ℤ (pos n) ≤ℤ x → x ≤ℤ pos n → T (inside (neg_ℤ (pos n)) x (pos n))
unfolding inside
within-inside n {x} h k = yes_and (le_z (neg_ℤ (pos n)) x) (le_z x (pos n)) h.le k.le

-- a height of the neck
pub height-between : (h : ℤ) → T (height_ok h) → (neg_ℤ (pos 1048576) ≤ℤ h) × (h ≤ℤ pos 0)
unfolding height_ok inside
height-between h t = let k = and_yes (le_z (neg_ℤ (pos 1048576)) h) (le_z h (pos 0)) t in (le_z_yes k.0, le_z_yes k.1)

pub height-within : (h : ℤ) → T (height_ok h) → h within 1048576
height-within h t = let k = height-between h t in record { size = nat_abs-between {a = h} k.0 (≤_trans k.1 (nonneg 1048576)) }

-- a depth above 0, from a displacement to a height of the neck, is in the range of displacements
pub depth-ok : (h u : ℤ) → T (height_ok h) → T (displacement_ok u) → pos 0 <ℤ (h -ℤ u) → T (displacement_ok (h -ℤ u))
unfolding displacement_ok inside
depth-ok h u height displacement above =
    within-inside 1048576
    (deduce 2 (λ h u. times 1 (# 0 ≺ h ⊖ u) ∷ [] ⊢ ⊝ # 1048576 ≼ h ⊖ u) tt h u above)
    (deduce 2 (λ h u. times 1 (h ≼ # 0) ∷ times 1 (⊝ # 1048576 ≼ u) ∷ [] ⊢ h ⊖ u ≼ # 1048576) tt h u (height-between h height).1 (le_z_yes (and_yes (le_z (neg_ℤ (pos 1048576)) u) (le_z u (pos 1048576)) displacement).0))

pub bounded : (n : ℕ) (u : List ℤ) → T (all (λ x. inside (neg_ℤ (pos n)) x (pos n)) u) → Bounded u n
bounded n u t zero = weaken (num 0) zero-le
bounded n [] t (suc k) = weaken (num 0) zero-le
bounded n (x ∷ u) t (suc zero) = inside-within n x (and_yes (inside (neg_ℤ (pos n)) x (pos n)) (all (λ x. inside (neg_ℤ (pos n)) x (pos n)) u) t).0
bounded n (x ∷ u) t (suc (suc k)) = bounded n u (and_yes (inside (neg_ℤ (pos n)) x (pos n)) (all (λ x. inside (neg_ℤ (pos n)) x (pos n)) u) t).1 (suc k)

-- what is kept of a contact variable is no larger
pub kept-within : (d ψ : ℤ) {n : ℕ} → ψ within n → kept d ψ within n
unfolding kept
kept-within d ψ {n} h = go (le_z d (pos 0))
  where
    go : (b : Bool) → cond b (pos 0) ψ within n
    go true = weaken (num 0) zero-le
    go false = h
