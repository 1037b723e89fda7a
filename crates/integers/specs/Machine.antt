-- Signed code as the machine computes it: an operation reads each operand back from its bits, `to_z w (of_z w z)`. Where every result is small enough, that is the number itself, and no sum wraps.
-- With `ρ = hx ▹ hy ▹ ∅`, of `hx : x within 1000` and `hy : y within 7`, `fits ρ w64 (var 0 ⊠ var 1) tt` answers that the code `x * y` fits an `i64`, and `result ρ w64 (var 0 ⊠ var 1) tt` that its value is `x *ℤ y`.
use Rattle.std.specs.Prelude.{◌≡◌, refl, Bool, true, false, ◌&&◌, List, ℕ, zero, suc, ◌^◌, ◌<◌, pred, T, ltb, get_or, ℤ, pos, negsuc, nat_abs, ◌≤ℤ◌, ◌<ℤ◌}
use Rattle.std.proofs.Common.{sym, ◌∙◌, ap, ap₂, lt_of_le_of_lt, div-le_self, ltb→lt, to_z-of_z}
use Rattle.std.proofs.Math.Nat.{le-pred_of_lt}
use Rattle.std.specs.Int.Signed.{lt_z, le_z, non_neg, yes_non_neg}
use Rattle.std.specs.Int.{Width}
use mir.Val.{Fits, SFits, bits, hbits, of_z}
use Rattle.std.proofs.Math.Facts.{and_yes}
use Rattle.integers.specs.Tests.{lt_z-true, lt_z-false, le_z-true, le_z-false}
use Rattle.integers.specs.Size as Size
use Rattle.integers.specs.Size.{◌within◌, ◌⟨+⟩◌, ◌⟨-⟩◌, ◌⟨*⟩◌}
pub use Rattle.integers.specs.Code.{Two, add, sub, mul, div, remainder, One, quot, rem, shr, two, one, two-bound, one-bound}
pub use Rattle.integers.specs.Code.{Code, var, nat, loc, lit, op₂, op₁, cast, done, ♯◌, ◌⊞◌, ◌⊟◌, ◌⊠◌, ◌⊘◌, ◌⊜◌, ◌÷◌, ◌≫◌, Env, ∅, ◌▹◌, ◌▸◌, Within}
pub use Rattle.integers.specs.Code.{value, held, raw, bound, own, inner, safe, plain, sure₁, sure, Given₁, Given}

-- ---- the bound of an operation's result is one

two-within : (o : Two) {x y : ℤ} {m n : ℕ} → x within m → y within n → two o x y within two-bound o m n
two-within add h k = h ⟨+⟩ k
two-within sub h k = h ⟨-⟩ k
two-within mul h k = h ⟨*⟩ k
two-within div {x} {y} h k = Size.weaken (Size.quot h y) (div-le_self _ (nat_abs y))
two-within remainder {x} {y} h k = Size.rem h y

one-within : (o : One) {x : ℤ} {n : ℕ} → x within n → one o x within one-bound o n
one-within (quot k) h = Size.quot h k
one-within (rem k) h = Size.rem h k
one-within (shr k) h = Size.shr h (2 ^ k)

-- ---- so is the bound of the code, and where the test passes the machine computes what the code means

pub entry : {ρ : List ℤ} {ns ms : List ℕ} → Env ρ ns ms → (i : ℕ) → get_or ρ i (pos 0) within get_or ns i 0
entry ∅ i = Size.num 0
entry (h ▹ ρ) zero = h
entry (h ▹ ρ) (suc i) = entry ρ i
entry (h ▸ ρ) zero = Size.fitted h
entry (h ▸ ρ) (suc i) = entry ρ i

-- what fits a width fits every width at least as large
fits_wider : {v w : Width} {x : ℤ} → SFits v x → T (ltb (pred (2 ^ hbits v)) (2 ^ hbits w)) → SFits w x
fits_wider {v} {w} f t = record { sfits = lt_of_le_of_lt (le-pred_of_lt f.sfits) (ltb→lt (pred (2 ^ hbits v)) (2 ^ hbits w) t) }

entry-fits : {ρ : List ℤ} {ns ms : List ℕ} → Env ρ ns ms → (w : Width) (i : ℕ) → T (ltb (get_or ms i 0) (2 ^ hbits w)) → SFits w (get_or ρ i (pos 0))
entry-fits ∅ w i t = Size.fits (Size.num 0) t
entry-fits (h ▹ ρ) w zero t = Size.fits h t
entry-fits (h ▹ ρ) w (suc i) t = entry-fits ρ w i t
entry-fits (h ▸ ρ) w zero t = fits_wider h t
entry-fits (h ▸ ρ) w (suc i) t = entry-fits ρ w i t

-- a divisor's bits are not 0
positive : (w : Width) (z : ℤ) → pos 0 <ℤ z → 0 < of_z w z
positive w (pos n) p = ltb→lt 0 n p.lt
positive w (negsuc n) p = absurd p.lt

module _ {ρ : List ℤ} {ns ms : List ℕ} (h : Env ρ ns ms) where
  pub sized : (e : Code) → value ρ e within bound ns ms e
  sized (var i) = entry h i
  sized (nat i) = entry h i
  sized (loc i) = entry h i
  sized (lit k) = Size.self k
  sized (op₂ o a b) = two-within o (sized a) (sized b)
  sized (op₁ o a) = one-within o (sized a)
  sized (cast v a) = sized a
  sized (done a) = sized a

  fits-value : (w : Width) (e : Code) → T (own ns ms w e) → SFits w (value ρ e)
  fits-value w (var i) t = entry-fits h w i t
  fits-value w (nat i) t = entry-fits h w i t
  fits-value w (loc i) t = entry-fits h w i t
  fits-value w (lit k) t = Size.fits (Size.self k) t
  fits-value w (op₂ o a b) t = Size.fits (sized (op₂ o a b)) t
  fits-value w (op₁ o a) t = Size.fits (sized (op₁ o a)) t
  fits-value w (cast v a) t = Size.fits (sized a) t
  fits-value w (done a) t = fits-value w a t

  stored : (w : Width) (e : Code) → raw ρ w e ≡ value ρ e → T (own ns ms w e) → held ρ w e ≡ value ρ e
  stored w (var i) p t = to_z-of_z (fits-value w (var i) t)
  stored w (nat i) p t = to_z-of_z (fits-value w (nat i) t)
  stored w (loc i) p t = refl
  stored w (lit k) p t = to_z-of_z (fits-value w (lit k) t)
  stored w (op₂ o a b) p t = rw p (to_z-of_z (fits-value w (op₂ o a b) t))
  stored w (op₁ o a) p t = rw p (to_z-of_z (fits-value w (op₁ o a) t))
  stored w (cast v a) p t = rw p (to_z-of_z (fits-value w (cast v a) t))
  stored w (done a) p t = stored w a p t

  part : (w : Width) (e : Code) → (T (inner ns ms w e) → raw ρ w e ≡ value ρ e) → T (safe ns ms w e) → held ρ w e ≡ value ρ e
  part w e p t = let k = and_yes (own ns ms w e) (inner ns ms w e) t in stored w e (p k.1) k.0

  computed : (w : Width) (e : Code) → T (inner ns ms w e) → raw ρ w e ≡ value ρ e
  computed w (var i) t = refl
  computed w (nat i) t = refl
  computed w (loc i) t = refl
  computed w (lit k) t = refl
  computed w (op₂ o a b) t =
      let k = and_yes (safe ns ms w a) (safe ns ms w b) t in
      ap₂ (two o) (part w a (computed w a) k.0) (part w b (computed w b) k.1)
  computed w (op₁ o a) t = ap (one o) (part w a (computed w a) t)
  computed w (cast v a) t = part v a (computed v a) t
  computed w (done a) t = computed w a t

  -- the operation's result fits
  pub fits : (w : Width) (e : Code) → T (safe ns ms w e) → SFits w (raw ρ w e)
  fits w e t = let k = and_yes (own ns ms w e) (inner ns ms w e) t in rw (computed w e k.1) (fits-value w e k.0)

  -- and, stored and read back, is the number that the code means
  pub result : (w : Width) (e : Code) → T (safe ns ms w e) → held ρ w e ≡ value ρ e
  result w e t = part w e (computed w e) t

  -- of this size
  pub held-within : (w : Width) (e : Code) → T (safe ns ms w e) → held ρ w e within bound ns ms e
  held-within w e t = rw (result w e t) (sized e)

  -- and, where that is above 0, can be divided by
  pub divisor : (w : Width) (e : Code) → T (safe ns ms w e) → pos 0 <ℤ value ρ e → 0 < of_z w (raw ρ w e)
  divisor w e t p = let k = and_yes (own ns ms w e) (inner ns ms w e) t in rw (computed w e k.1) (positive w (value ρ e) p)

  -- and, where it is not negative, can be cast to an unsigned width: an index
  pub index : (w v : Width) (e : Code) → T (safe ns ms w e) → T (ltb (bound ns ms e) (2 ^ bits v)) → pos 0 ≤ℤ value ρ e → T (non_neg (held ρ w e)) × Fits v (nat_abs (held ρ w e))
  index w v e t u p = rw (result w e t) (yes_non_neg p, record { fits = lt_of_le_of_lt (sized e).size (ltb→lt (bound ns ms e) (2 ^ bits v) u) })

  -- what a test of two of them says: of `a < b`, `if-lt` where it was taken and `else-lt` where not
  tested : (f : ℤ → ℤ → Bool) (w : Width) (a b : Code) → T (safe ns ms w a && safe ns ms w b) → f (held ρ w a) (held ρ w b) ≡ f (value ρ a) (value ρ b)
  tested f w a b t = let k = and_yes (safe ns ms w a) (safe ns ms w b) t in ap₂ f (result w a k.0) (result w b k.1)

  pub if-lt : (w : Width) (a b : Code) → T (safe ns ms w a && safe ns ms w b) → lt_z (held ρ w a) (held ρ w b) ≡ true → value ρ a <ℤ value ρ b
  if-lt w a b t e = lt_z-true (value ρ a) (value ρ b) (sym (tested lt_z w a b t) ∙ e)

  pub else-lt : (w : Width) (a b : Code) → T (safe ns ms w a && safe ns ms w b) → lt_z (held ρ w a) (held ρ w b) ≡ false → value ρ b ≤ℤ value ρ a
  else-lt w a b t e = lt_z-false (value ρ a) (value ρ b) (sym (tested lt_z w a b t) ∙ e)

  pub if-le : (w : Width) (a b : Code) → T (safe ns ms w a && safe ns ms w b) → le_z (held ρ w a) (held ρ w b) ≡ true → value ρ a ≤ℤ value ρ b
  if-le w a b t e = le_z-true (value ρ a) (value ρ b) (sym (tested le_z w a b t) ∙ e)

  pub else-le : (w : Width) (a b : Code) → T (safe ns ms w a && safe ns ms w b) → le_z (held ρ w a) (held ρ w b) ≡ false → value ρ b <ℤ value ρ a
  else-le w a b t e = le_z-false (value ρ a) (value ρ b) (sym (tested le_z w a b t) ∙ e)

module _ {ℓ} {C : Type 0} {ρ : C → List ℤ} {ns ms : List ℕ} (h : (c : C) → Env (ρ c) ns ms) where
  answer₁ : (w : Width) (o : One) (a : Code) {X : Type ℓ} → T (sure₁ ns ms w o a) → Given₁ ρ w o a X → X
  answer₁ w (quot k) a t g = let j = and_yes (ltb 0 (of_z w k)) (safe ns ms w (op₁ (quot k) a)) t in g (λ c. (ltb→lt 0 (of_z w k) j.0, fits (h c) w (op₁ (quot k) a) j.1))
  answer₁ w (rem k) a t g = let j = and_yes (ltb 0 (of_z w k)) (safe ns ms w (op₁ (quot k) a)) t in g (λ c. (ltb→lt 0 (of_z w k) j.0, fits (h c) w (op₁ (quot k) a) j.1))
  answer₁ w (shr k) a t g = g

  -- a function whose needs are those of the code, at their answers
  pub answer : (w : Width) (e : Code) {X : Type ℓ} → T (sure ns ms w e) → Given ρ w e X → X
  answer w (var i) t g = g
  answer w (nat i) t g = g (λ c. fits (h c) w (nat i) t)
  answer w (loc i) t g = g
  answer w (lit k) t g = g
  answer w (op₂ o a b) t g =
      let i = and_yes (sure ns ms w a) (sure ns ms w b && (plain o && safe ns ms w (op₂ o a b))) t in
      let j = and_yes (sure ns ms w b) (plain o && safe ns ms w (op₂ o a b)) i.1 in
      let k = and_yes (plain o) (safe ns ms w (op₂ o a b)) j.1 in
      answer w b j.0 (answer w a i.0 g) (λ c. fits (h c) w (op₂ o a b) k.1)
  answer w (op₁ o a) t g = let i = and_yes (sure ns ms w a) (sure₁ ns ms w o a) t in answer₁ w o a i.1 (answer w a i.0 g)
  answer w (cast v a) t g = let i = and_yes (sure ns ms v a) (safe ns ms w (cast v a)) t in answer v a i.0 g (λ c. fits (h c) w (cast v a) i.1)
  answer w (done a) t g = g
