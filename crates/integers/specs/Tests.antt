-- What a test on whole numbers tells, and a test's value from the fact; `below` and `same`, tests that stay shut, and what a comparison of machine words says of them.
-- `search tests` proves a contract that goes by such tests, from the branches that led there.
use Rattle.std.specs.Prelude.{◌≡◌, refl, Bool, true, false, ℕ, ◌≤◌, eqb, ℤ, pos, negsuc, neg_ℤ, nat_abs, ◌≤ℤ◌, ◌<ℤ◌}
use Rattle.std.proofs.Common.{sym, ap, ◌∙◌, true≢false, lit<, SFits, to_z, of_z, to_z-of_z, lt-ltb, le-ltb, le-leb, eq-eqb, ne_eqb, eqb-true}
use Rattle.std.proofs.Math.Dec.{not_T}
use Rattle.std.specs.Int.Signed.{lt_z, le_z, lt_z_yes, lt_z_no, le_z_yes, clash_ℤ}
use Rattle.std.specs.Int.{Width, w32, w64}
use Rattle.std.proofs.lemmas.Bool.{lt-leb}
use borrow.Author.Rules.{sfits_of}
use Rattle.integers.specs.Order.{nat_abs-between}
pub use Rattle.std.specs.Float.Ieee.Bits.{is_true, is_false}
pub use Rattle.integers.specs.Order.{le_z-no as le_z-false}

module _ (a b : ℤ) where
  pub lt_z-true : lt_z a b ≡ true → a <ℤ b
  lt_z-true e = lt_z_yes (rw e tt)

  pub lt_z-false : lt_z a b ≡ false → b ≤ℤ a
  lt_z-false e = lt_z_no (rw e tt)

  pub le_z-true : le_z a b ≡ true → a ≤ℤ b
  le_z-true e = le_z_yes (rw e tt)

  pub lt-lt_z : a <ℤ b → lt_z a b ≡ true
  lt-lt_z h = is_true (lt_z a b) h.lt

  pub le-lt_z : b ≤ℤ a → lt_z a b ≡ false
  le-lt_z h = is_false (lt_z a b) (not_T (lt_z a b) (λ t. clash_ℤ (lt_z_yes t) h))

  pub le-le_z : a ≤ℤ b → le_z a b ≡ true
  le-le_z h = is_true (le_z a b) h.le

  pub lt-le_z : b <ℤ a → le_z a b ≡ false
  lt-le_z h = is_false (le_z a b) (not_T (le_z a b) (λ t. clash_ℤ h (le_z_yes t)))

-- ---- a < b and a = b, shut, so that a rule finds them

unfoldable pub below : ℤ → ℤ → Bool
below a b = lt_z a b

unfoldable pub same : ℤ → ℤ → Bool
same (pos a) (pos b) = eqb a b
same (pos a) (negsuc b) = false
same (negsuc a) (pos b) = false
same (negsuc a) (negsuc b) = eqb a b

module _ (a b : ℤ) where
  pub below_true : below a b ≡ true → a <ℤ b
  unfolding below
  below_true e = lt_z-true a b e

  pub below_false : below a b ≡ false → b ≤ℤ a
  unfolding below
  below_false e = lt_z-false a b e

  pub lt-below : a <ℤ b → below a b ≡ true
  unfolding below
  lt-below h = lt-lt_z a b h

  pub le_below : b ≤ℤ a → below a b ≡ false
  unfolding below
  le_below h = le-lt_z a b h

pub same_true : (a b : ℤ) → same a b ≡ true → a ≡ b
unfolding same
same_true (pos a) (pos b) e = ap pos (eqb-true a b e)
same_true (pos a) (negsuc b) e = cc
same_true (negsuc a) (pos b) e = cc
same_true (negsuc a) (negsuc b) e = ap negsuc (eqb-true a b e)

pub ne_same : (a b : ℤ) → (a ≡ b → ⊥) → same a b ≡ false
unfolding same
ne_same (pos a) (pos b) h = ne_eqb a b (λ e. h (ap pos e))
ne_same (pos a) (negsuc b) h = refl
ne_same (negsuc a) (pos b) h = refl
ne_same (negsuc a) (negsuc b) h = ne_eqb a b (λ e. h (ap negsuc e))

same_self : (a : ℤ) → same a a ≡ true
unfolding same
same_self (pos a) = eq-eqb a a refl
same_self (negsuc a) = eq-eqb a a refl

pub eq-same : (a b : ℤ) → a ≡ b → same a b ≡ true
eq-same a b e = rw e (same_self b)

pub same_false : (a b : ℤ) → same a b ≡ false → a ≡ b → ⊥
same_false a b e q = true≢false (sym (eq-same a b q) ∙ e)

-- at most n in size, by both ends of the range
pub nat_abs-below : (x : ℤ) (n : ℕ) → below (pos n) x ≡ false → below x (neg_ℤ (pos n)) ≡ false → nat_abs x ≤ n
nat_abs-below x n h k = nat_abs-between (below_false x (neg_ℤ (pos n)) k) (below_false (pos n) x h)

-- ---- two machine words: they are read back from their bits to be ordered, and `==` compares the bits

pub same_bits : {w : Width} (a b : ℤ) → SFits w a → SFits w b → of_z w a ≡ of_z w b → a ≡ b
same_bits {w} a b p q e = sym (to_z-of_z p) ∙ ap (to_z w) e ∙ to_z-of_z q

-- the machine's answer is the test's: of the order t, of equality yes, and no
abbrev pub BelowAt : Width → Bool → Type 0
BelowAt w t = (a b : ℤ) → lt_z (to_z w (of_z w a)) (to_z w (of_z w b)) ≡ t → SFits w a → SFits w b → below a b ≡ t

abbrev pub SameAt : Width → Type 0
SameAt w = (a b : ℤ) → of_z w a ≡ of_z w b → SFits w a → SFits w b → same a b ≡ true

abbrev pub DifferAt : Width → Type 0
DifferAt w = (a b : ℤ) → (of_z w a ≡ of_z w b → ⊥) → same a b ≡ false

pub below_at : (w : Width) (t : Bool) → BelowAt w t
unfolding below
below_at w t a b h p q = rw (to_z-of_z p, to_z-of_z q) at h

pub same_at : (w : Width) → SameAt w
same_at w a b h p q = eq-same a b (same_bits a b p q h)

pub differ-at : (w : Width) → DifferAt w
differ-at w a b h = ne_same a b (λ e. h (ap (of_z w) e))

-- ---- the rules: `search` wants a rule's width settled, so the last three stand there at 32 and at 64 bits

pub below-yes-32 : BelowAt w32 true
below-yes-32 = below_at w32 true

pub below-no-32 : BelowAt w32 false
below-no-32 = below_at w32 false

pub same-yes-32 : SameAt w32
same-yes-32 = same_at w32

pub same-no-32 : DifferAt w32
same-no-32 = differ-at w32

pub below-yes-64 : BelowAt w64 true
below-yes-64 = below_at w64 true

pub below-no-64 : BelowAt w64 false
below-no-64 = below_at w64 false

pub same-yes-64 : SameAt w64
same-yes-64 = same_at w64

pub same-no-64 : DifferAt w64
same-no-64 = differ-at w64

pub ruleset tests = (tt, lit<, lt-ltb, le-ltb, le-leb, lt-leb, eq-eqb, ne_eqb, to_z-of_z, sfits_of, nat_abs-below, below-yes-32, below-no-32, same-yes-32, same-no-32, below-yes-64, below-no-64, same-yes-64, same-no-64)
