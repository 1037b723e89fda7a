-- 01, 'Setup' and 'Laying the neck': the ranges of the numbers, ends included, and tests over lists.
use Rattle.std.specs.Prelude.{Bool, true, false, ◌&&◌, ◌||◌, List, [], ◌∷◌, ℕ, leb, ℤ, pos, neg_ℤ}
use Rattle.std.specs.Int.Signed.{le_z}

-- a ≤ n ≤ b, of unsigned numbers
unfoldable pub between : ℕ → ℕ → ℕ → Bool
between a n b = leb a n && leb n b

-- a ≤ x ≤ b, of signed numbers
unfoldable pub inside : ℤ → ℤ → ℤ → Bool
inside a x b = le_z a x && le_z x b

-- displacements and finger heights
unfoldable pub displacement_ok : ℤ → Bool
displacement_ok x = inside (neg_ℤ (pos 1048576)) x (pos 1048576)

-- contact variables
unfoldable pub contact_ok : ℤ → Bool
contact_ok x = inside (neg_ℤ (pos 67108864)) x (pos 67108864)

unfoldable pub force_ok : ℤ → Bool
force_ok x = inside (neg_ℤ (pos 1073741824)) x (pos 1073741824)

-- heights of the board and of the neck
unfoldable pub height_ok : ℤ → Bool
height_ok x = inside (neg_ℤ (pos 1048576)) x (pos 0)

-- every entry passes
abbrev pub all {ℓ} : {A : Type ℓ} → (A → Bool) → List A → Bool
all f [] = true
all f (x ∷ xs) = f x && all f xs

-- some entry passes
abbrev pub any {ℓ} : {A : Type ℓ} → (A → Bool) → List A → Bool
any f [] = false
any f (x ∷ xs) = f x || any f xs
