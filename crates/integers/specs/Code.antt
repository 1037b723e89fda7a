-- Signed code: an expression of the source, what it means, what the machine computes for it, a bound of its size, and the test that nothing wraps.
-- That the bound is one, and what follows where the test passes, is in `Machine`.
use Rattle.std.specs.Prelude.{Bool, true, false, ◌&&◌, List, [], ◌∷◌, ℕ, ◌+◌, ◌*◌, ◌/◌, ◌^◌, ◌<◌, pred, ltb, get_or, ℤ, pos, nat_abs, ◌+ℤ◌, ◌-ℤ◌, ◌*ℤ◌}
use Rattle.std.specs.Int.Signed.{quot_z, rem_z, shr_z}
use Rattle.std.specs.Int.{Width}
use mir.Val.{SFits, hbits, to_z, of_z}
use Rattle.integers.specs.Size.{◌within◌}

-- the operations of two operands, and those by a literal, each with a bound of its result
pub data Two : Type 0 where
  add sub mul div remainder : Two

pub data One : Type 0 where
  quot : ℤ → One
  rem : ℤ → One
  shr : ℕ → One

abbrev pub two : Two → ℤ → ℤ → ℤ
two add x y = x +ℤ y
two sub x y = x -ℤ y
two mul x y = x *ℤ y
two div x y = quot_z x y
two remainder x y = rem_z x y

abbrev pub one : One → ℤ → ℤ
one (quot k) x = quot_z x k
one (rem k) x = rem_z x k
one (shr k) x = shr_z x (2 ^ k)

abbrev pub two-bound : Two → ℕ → ℕ → ℕ
two-bound add m n = m + n
two-bound sub m n = m + n
two-bound mul m n = m * n
two-bound div m n = m
two-bound remainder m n = m

abbrev pub one-bound : One → ℕ → ℕ
one-bound (quot k) n = n / nat_abs k
one-bound (rem k) n = n
one-bound (shr k) n = n / 2 ^ k + 1

-- an expression of the source, at one width but for its casts
pub data Code : Type 0 where
  var : ℕ → Code  -- a parameter, a call's result, an element: a number, which is stored
  nat : ℕ → Code  -- an unsigned n, cast: the environment has `pos n`
  loc : ℕ → Code  -- a local at a loop or after a branch: bits, which the environment has read, `to_z w s`
  lit : ℤ → Code
  op₂ : Two → Code → Code → Code
  op₁ : One → Code → Code
  cast : Width → Code → Code  -- from this width
  done : Code → Code  -- computed before: asks nothing again

infixl 6 ◌⊞◌ ◌⊟◌
infixl 7 ◌⊠◌ ◌⊘◌ ◌⊜◌ ◌÷◌ ◌≫◌
infix 9 ♯◌
abbrev pub ♯◌ : ℕ → Code
♯ n = lit (pos n)

abbrev pub ◌⊞◌ : Code → Code → Code
a ⊞ b = op₂ add a b

abbrev pub ◌⊟◌ : Code → Code → Code
a ⊟ b = op₂ sub a b

abbrev pub ◌⊠◌ : Code → Code → Code
a ⊠ b = op₂ mul a b

abbrev pub ◌⊘◌ : Code → Code → Code
a ⊘ b = op₂ div a b

-- the remainder, with the sign of a
abbrev pub ◌⊜◌ : Code → Code → Code
a ⊜ b = op₂ remainder a b

-- by a literal: the bound is divided too
abbrev pub ◌÷◌ : Code → ℕ → Code
a ÷ n = op₁ (quot (pos n)) a

abbrev pub ◌≫◌ : Code → ℕ → Code
a ≫ n = op₁ (shr n) a

-- the variables' values, each with a bound of its size and of what its width has to hold; one that only fits its width has the width's own
infixr 5 ◌▹◌ ◌▸◌
pub data Env : List ℤ → List ℕ → List ℕ → Type 0 where
  ∅ : Env [] [] []
  ◌▹◌ : {x : ℤ} {n : ℕ} {ρ : List ℤ} {ns ms : List ℕ} → x within n → Env ρ ns ms → Env (x ∷ ρ) (n ∷ ns) (n ∷ ms)
  ◌▸◌ : {w : Width} {x : ℤ} {ρ : List ℤ} {ns ms : List ℕ} → SFits w x → Env ρ ns ms → Env (x ∷ ρ) ((2 ^ hbits w) ∷ ns) (pred (2 ^ hbits w) ∷ ms)

-- each number within its bound: a contract may ask just this, and then is itself the environment
abbrev pub Within : List ℤ → List ℕ → Type 0
Within ρ ns = Env ρ ns ns

-- ---- what the code means, and what the machine computes

module _ (ρ : List ℤ) where
  abbrev pub value : Code → ℤ
  value (var i) = get_or ρ i (pos 0)
  value (nat i) = get_or ρ i (pos 0)
  value (loc i) = get_or ρ i (pos 0)
  value (lit k) = k
  value (op₂ o a b) = two o (value a) (value b)
  value (op₁ o a) = one o (value a)
  value (cast v a) = value a
  value (done a) = value a

  -- as an operand
  abbrev pub held : Width → Code → ℤ
  held w (var i) = to_z w (of_z w (get_or ρ i (pos 0)))
  held w (nat i) = to_z w (of_z w (get_or ρ i (pos 0)))
  held w (loc i) = get_or ρ i (pos 0)
  held w (lit k) = to_z w (of_z w k)
  held w (op₂ o a b) = to_z w (of_z w (two o (held w a) (held w b)))
  held w (op₁ o a) = to_z w (of_z w (one o (held w a)))
  held w (cast v a) = to_z w (of_z w (held v a))
  held w (done a) = held w a

  -- as the operation gives it
  abbrev pub raw : Width → Code → ℤ
  raw w (var i) = get_or ρ i (pos 0)
  raw w (nat i) = get_or ρ i (pos 0)
  raw w (loc i) = get_or ρ i (pos 0)
  raw w (lit k) = k
  raw w (op₂ o a b) = two o (held w a) (held w b)
  raw w (op₁ o a) = one o (held w a)
  raw w (cast v a) = held v a
  raw w (done a) = raw w a

-- ---- a bound of its size, and the test that nothing wraps

module _ (ns ms : List ℕ) where
  abbrev pub bound : Code → ℕ
  bound (var i) = get_or ns i 0
  bound (nat i) = get_or ns i 0
  bound (loc i) = get_or ns i 0
  bound (lit k) = nat_abs k
  bound (op₂ o a b) = two-bound o (bound a) (bound b)
  bound (op₁ o a) = one-bound o (bound a)
  bound (cast v a) = bound a
  bound (done a) = bound a

  -- what is stored of an expression fits the width
  abbrev pub own : Width → Code → Bool
  own w (var i) = ltb (get_or ms i 0) (2 ^ hbits w)
  own w (nat i) = ltb (get_or ms i 0) (2 ^ hbits w)
  own w (loc i) = ltb (get_or ms i 0) (2 ^ hbits w)
  own w (lit k) = ltb (nat_abs k) (2 ^ hbits w)
  own w (op₂ o a b) = ltb (bound (op₂ o a b)) (2 ^ hbits w)
  own w (op₁ o a) = ltb (bound (op₁ o a)) (2 ^ hbits w)
  own w (cast v a) = ltb (bound a) (2 ^ hbits w)
  own w (done a) = own w a

  -- and so does all below it
  abbrev pub inner : Width → Code → Bool
  inner w (var i) = true
  inner w (nat i) = true
  inner w (loc i) = true
  inner w (lit k) = true
  inner w (op₂ o a b) = (own w a && inner w a) && (own w b && inner w b)
  inner w (op₁ o a) = own w a && inner w a
  inner w (cast v a) = own v a && inner v a
  inner w (done a) = inner w a

  abbrev pub safe : Width → Code → Bool
  safe w e = own w e && inner w e

-- ---- all that straight code asks, as one test and as the type of a function of the answers

-- a divisor that is no literal is not judged
abbrev pub plain : Two → Bool
plain add = true
plain sub = true
plain mul = true
plain div = false
plain remainder = false

module _ (ns ms : List ℕ) where
  -- nothing wraps, and no divisor is 0
  abbrev pub sure₁ : Width → One → Code → Bool
  sure₁ w (quot k) a = ltb 0 (of_z w k) && safe ns ms w (op₁ (quot k) a)
  sure₁ w (rem k) a = ltb 0 (of_z w k) && safe ns ms w (op₁ (quot k) a)
  sure₁ w (shr k) a = true

  abbrev pub sure : Width → Code → Bool
  sure w (var i) = true
  sure w (nat i) = safe ns ms w (nat i)
  sure w (loc i) = true
  sure w (lit k) = true
  sure w (op₂ o a b) = sure w a && (sure w b && (plain o && safe ns ms w (op₂ o a b)))
  sure w (op₁ o a) = sure w a && sure₁ w o a
  sure w (cast v a) = sure v a && safe ns ms w (cast v a)
  sure w (done a) = true

module _ {ℓ} {C : Type 0} (ρ : C → List ℤ) where
  -- X, given an answer to each need of the code, in the order of its evaluation
  abbrev pub Given₁ : Width → One → Code → Type ℓ → Type ℓ
  Given₁ w (quot k) a X = ((c : C) → (0 < of_z w k) × SFits w (quot_z (held (ρ c) w a) k)) → X
  Given₁ w (rem k) a X = ((c : C) → (0 < of_z w k) × SFits w (quot_z (held (ρ c) w a) k)) → X
  Given₁ w (shr k) a X = X

  abbrev pub Given : Width → Code → Type ℓ → Type ℓ
  Given w (var i) X = X
  Given w (nat i) X = ((c : C) → SFits w (get_or (ρ c) i (pos 0))) → X
  Given w (loc i) X = X
  Given w (lit k) X = X
  Given w (op₂ o a b) X = Given w a (Given w b (((c : C) → SFits w (raw (ρ c) w (op₂ o a b))) → X))
  Given w (op₁ o a) X = Given w a (Given₁ w o a X)
  Given w (cast v a) X = Given v a (((c : C) → SFits w (held (ρ c) v a)) → X)
  Given w (done a) X = X
