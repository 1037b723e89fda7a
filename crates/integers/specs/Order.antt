-- The order of ℤ. `a ≤ℤ b` says that b is a and a natural number more, and every law below goes by that and the solver.
use Rattle.std.specs.Prelude.{◌≡◌, refl, Bool, true, false, cond, ◌⊎◌, ◌↔◌, ℕ, zero, suc, ◌+◌, ◌*◌, ◌-◌, ◌≤◌, T, ltb, ℤ, pos, negsuc, neg_ℤ, nat_abs, ◌+ℤ◌, ◌-ℤ◌, ◌*ℤ◌, ◌≤ℤ◌, ◌<ℤ◌}
use Rattle.std.proofs.Common.{sym, ◌∙◌, ap, ap₂, subst, inl, inr, ⊎_elim, zero-le, le-add_right, suc-add, not-suc-le-zero, arith, ltb→lt, lt→ltb, leb→le, le→leb}
use Rattle.std.proofs.Math.Nat.{le_dest}
use Rattle.std.proofs.Math.IntN.{suc_ℤ, +ℤ_idl, +ℤ_idr, +ℤ_one, +ℤ_assoc, neg_ℤ-neg_ℤ, *ℤ-zero, *ℤ_comm}
use Rattle.std.specs.Int.Signed.{le_z, lt_z, le_z_yes, lt_z_yes, lt_z_no, ≤ℤ_refl, clash_ℤ}
use Rattle.integers.specs.Solve.{◌⊕◌, ◌⊖◌, ◌⊗◌, ⊝◌, #◌, ◌≐◌, solve}

-- ---- a ≤ b, as a number that is added

split : (t : Bool) (a m n : ℕ) → (T t → m ≤ a) → T (le_z (negsuc a) (cond t (negsuc m) (pos n)))
split true a m n h = le→leb m a (h tt)
split false a m n h = tt

more : (a : ℤ) (n : ℕ) → T (le_z a (a +ℤ pos n))
more (pos a) n = le→leb a (a + n) (le-add_right a n)
more (negsuc a) n = split (ltb n (suc a)) a (suc a - suc n) (n - suc a) (λ t. omega arith)

less : (a b : ℤ) → T (le_z a b) → (n : ℕ) × (b ≡ a +ℤ pos n)
less (pos a) (pos b) t = let k = le_dest (leb→le a b t) in (k.0, ap pos (sym k.1))
less (pos a) (negsuc b) t = absurd t
less (negsuc a) (pos b) t = (suc a + b, solve 2 (λ x y. y ≐ ⊝ x ⊕ (x ⊕ y)) tt (pos (suc a)) (pos b))
less (negsuc a) (negsuc b) t =
    let k = le_dest (leb→le b a t) in
    (k.0, solve 2 (λ x y. ⊝ x ≐ ⊝ (x ⊕ y) ⊕ y) tt (pos (suc b)) (pos k.0) ∙ ap (λ (z : ℕ). neg_ℤ (pos z) +ℤ pos k.0) (suc-add b k.0 ∙ ap suc k.1))

pub ≤-add : (a : ℤ) (n : ℕ) → a ≤ℤ (a +ℤ pos n)
≤-add a n = le_z_yes (more a n)

-- from an equation
pub ≤-by : {a b : ℤ} (n : ℕ) → b ≡ a +ℤ pos n → a ≤ℤ b
≤-by {a} n e = rw e (≤-add a n)

pub ≤-gap : {a b : ℤ} → a ≤ℤ b → (n : ℕ) × (b ≡ a +ℤ pos n)
≤-gap {a} {b} h = less a b h.le

pub ≤-iff : {a b : ℤ} → (a ≤ℤ b) ↔ ((n : ℕ) × (b ≡ a +ℤ pos n))
≤-iff = (≤-gap, λ h. ≤-by h.0 h.1)

-- ---- a partial order, and total

pub ≤-refl : {a : ℤ} → a ≤ℤ a
≤-refl {a} = ≤ℤ_refl a

pub ≤-of-eq : {a b : ℤ} → a ≡ b → a ≤ℤ b
≤-of-eq {a} e = rw (← e) (≤ℤ_refl a)

pub ≤_trans : {a b c : ℤ} → a ≤ℤ b → b ≤ℤ c → a ≤ℤ c
≤_trans {a} h k = let (m, e) = ≤-gap h in let (n, f) = ≤-gap k in ≤-by (m + n) (f ∙ ap (λ x. x +ℤ pos n) e ∙ +ℤ_assoc a (pos m) (pos n))

pub ≤-antisym : {a b : ℤ} → a ≤ℤ b → b ≤ℤ a → a ≡ b
≤-antisym {a} {b} h k =
    let (m, e) = ≤-gap h in
    let (n, f) = ≤-gap k in
    let z : m + n ≡ 0 = ap nat_abs (solve 3 (λ a m n. m ⊕ n ≐ a ⊕ m ⊕ n ⊖ a) tt a (pos m) (pos n) ∙ ap (λ x. x +ℤ pos n -ℤ a) (sym e) ∙ ap (λ x. x -ℤ a) (sym f) ∙ solve 1 (λ a. a ⊖ a ≐ # 0) tt a) in
    let y : m ≡ 0 = omega arith in
    sym (e ∙ ap (λ (x : ℕ). a +ℤ pos x) y ∙ +ℤ_idr a)

lt-le : (a b : ℤ) → T (lt_z a b) → T (le_z a b)
lt-le (pos a) (pos b) t = let h = ltb→lt a b t in le→leb a b (omega arith)
lt-le (pos a) (negsuc b) t = t
lt-le (negsuc a) (pos b) t = t
lt-le (negsuc a) (negsuc b) t = let h = ltb→lt b a t in le→leb b a (omega arith)

pub <-≤ : {a b : ℤ} → a <ℤ b → a ≤ℤ b
<-≤ {a} {b} h = le_z_yes (lt-le a b h.lt)

either : (a b : ℤ) (t : Bool) → lt_z a b ≡ t → (a <ℤ b) ⊎ (b ≤ℤ a)
either a b true e = inl (lt_z_yes (rw e tt))
either a b false e = inr (lt_z_no (rw e tt))

pub <-or-≤ : (a b : ℤ) → (a <ℤ b) ⊎ (b ≤ℤ a)
<-or-≤ a b = either a b (lt_z a b) refl

-- a test failed
pub le_z-no : (a b : ℤ) → le_z a b ≡ false → b <ℤ a
le_z-no a b e = ⊎_elim (λ h. h) (λ h. absurd (subst T e h.le)) (<-or-≤ b a)

pub ≤-total : (a b : ℤ) → (a ≤ℤ b) ⊎ (b ≤ℤ a)
≤-total a b = ⊎_elim (λ h. inl (<-≤ h)) inr (<-or-≤ a b)

-- ---- a < b, as one more

suc-le : (a b : ℤ) → T (lt_z a b) → T (le_z (suc_ℤ a) b)
suc-le (pos a) (pos b) t = t
suc-le (pos a) (negsuc b) t = t
suc-le (negsuc zero) (pos b) t = le→leb 0 b zero-le
suc-le (negsuc zero) (negsuc b) t = let h = ltb→lt b 0 t in absurd (not-suc-le-zero h)
suc-le (negsuc (suc a)) (pos b) t = tt
suc-le (negsuc (suc a)) (negsuc b) t = let h = ltb→lt b (suc a) t in le→leb b a (omega arith)

le-suc : (a b : ℤ) → T (le_z (suc_ℤ a) b) → T (lt_z a b)
le-suc (pos a) (pos b) t = t
le-suc (pos a) (negsuc b) t = t
le-suc (negsuc zero) (pos b) t = tt
le-suc (negsuc zero) (negsuc b) t = absurd t
le-suc (negsuc (suc a)) (pos b) t = tt
le-suc (negsuc (suc a)) (negsuc b) t = let h = leb→le b a t in lt→ltb b (suc a) (omega arith)

pub <-suc : {a b : ℤ} → a <ℤ b → (a +ℤ pos 1) ≤ℤ b
<-suc {a} {b} h = rw +ℤ_one (le_z_yes (suc-le a b h.lt))

pub suc-< : {a b : ℤ} → (a +ℤ pos 1) ≤ℤ b → a <ℤ b
suc-< {a} {b} h = let k = rw +ℤ_one at h in lt_z_yes (le-suc a b k.le)

-- ---- with the natural numbers

pub pos-≤ : {m n : ℕ} → m ≤ n → pos m ≤ℤ pos n
pos-≤ {m} {n} h = le_z_yes (le→leb m n h)

pub ≤-pos : {m n : ℕ} → pos m ≤ℤ pos n → m ≤ n
≤-pos {m} {n} h = leb→le m n h.le

pub nonneg : (n : ℕ) → pos 0 ≤ℤ pos n
nonneg n = pos-≤ zero-le

-- what is not negative is a natural number
pub nat : {a : ℤ} → pos 0 ≤ℤ a → (n : ℕ) × (a ≡ pos n)
nat {a} h = let (n, e) = ≤-gap h in (n, e ∙ +ℤ_idl (pos n))

-- ---- with the ring

pub ≤-sum : {a b c d : ℤ} → a ≤ℤ b → c ≤ℤ d → (a +ℤ c) ≤ℤ (b +ℤ d)
≤-sum {a} {b} {c} {d} h k =
    let (m, e) = ≤-gap h in
    let (n, f) = ≤-gap k in
    ≤-by (m + n) (ap₂ (λ x y. x +ℤ y) e f ∙ solve 4 (λ a c m n. (a ⊕ m) ⊕ (c ⊕ n) ≐ (a ⊕ c) ⊕ (m ⊕ n)) tt a c (pos m) (pos n))

pub ≤-neg : {a b : ℤ} → a ≤ℤ b → neg_ℤ b ≤ℤ neg_ℤ a
≤-neg {a} {b} h = let (n, e) = ≤-gap h in ≤-by n (solve 2 (λ a n. ⊝ a ≐ ⊝ (a ⊕ n) ⊕ n) tt a (pos n) ∙ ap (λ x. neg_ℤ x +ℤ pos n) (sym e))

pub ≤-diff : {a b c d : ℤ} → a ≤ℤ b → c ≤ℤ d → (a -ℤ d) ≤ℤ (b -ℤ c)
≤-diff h k = ≤-sum h (≤-neg k)

-- times what is not negative
pub ≤-times : {a b c : ℤ} → pos 0 ≤ℤ c → a ≤ℤ b → (c *ℤ a) ≤ℤ (c *ℤ b)
≤-times {a} {b} {c} z h =
    let (k, f) = nat z in
    let (n, e) = ≤-gap h in
    ≤-by (k * n) (ap (λ x. c *ℤ x) e ∙ solve 3 (λ c a n. c ⊗ (a ⊕ n) ≐ c ⊗ a ⊕ c ⊗ n) tt c a (pos n) ∙ ap (λ x. c *ℤ a +ℤ x *ℤ pos n) f)

pub times-≤ : {a b c : ℤ} → pos 0 ≤ℤ c → a ≤ℤ b → (a *ℤ c) ≤ℤ (b *ℤ c)
times-≤ {a} {b} {c} z h = rw (*ℤ_comm a c, *ℤ_comm b c) (≤-times z h)

pub times-nonneg : {a b : ℤ} → pos 0 ≤ℤ a → pos 0 ≤ℤ b → pos 0 ≤ℤ (a *ℤ b)
times-nonneg {a} {b} h k = let (m, e) = nat h in let (n, f) = nat k in rw (e, f) (nonneg (m * n))

pub sum_nonneg : {a b : ℤ} → pos 0 ≤ℤ a → pos 0 ≤ℤ b → pos 0 ≤ℤ (a +ℤ b)
sum_nonneg h k = ≤-sum h k

pub square-nonneg : (a : ℤ) → pos 0 ≤ℤ (a *ℤ a)
square-nonneg (pos n) = nonneg (n * n)
square-nonneg (negsuc n) = nonneg (suc n * suc n)

-- b is a and something not negative: with the solver, `≤-plus h (solve ..)`
pub ≤-plus : {a b d : ℤ} → pos 0 ≤ℤ d → b ≡ a +ℤ d → a ≤ℤ b
≤-plus {a} h e = let (n, f) = nat h in ≤-by n (e ∙ ap (λ x. a +ℤ x) f)

pub ≤-minus : {a b : ℤ} → pos 0 ≤ℤ (b -ℤ a) → a ≤ℤ b
≤-minus {a} {b} h = ≤-plus h (solve 2 (λ a b. b ≐ a ⊕ (b ⊖ a)) tt a b)

pub minus-≤ : {a b : ℤ} → a ≤ℤ b → pos 0 ≤ℤ (b -ℤ a)
minus-≤ {a} {b} h = let (n, e) = ≤-gap h in ≤-by n (ap (λ x. x -ℤ a) e ∙ solve 2 (λ a n. a ⊕ n ⊖ a ≐ # 0 ⊕ n) tt a (pos n))

-- ---- with the size

pub ≤-natAbs : (a : ℤ) → a ≤ℤ pos (nat_abs a)
≤-natAbs (pos n) = ≤-refl
≤-natAbs (negsuc n) = le_z_yes tt

pub nat_abs-≤ : (a : ℤ) → neg_ℤ (pos (nat_abs a)) ≤ℤ a
nat_abs-≤ (pos n) = ≤_trans (≤-neg (nonneg n)) (nonneg n)
nat_abs-≤ (negsuc n) = ≤-refl

-- |a| ≤ n, from both sides
pub nat_abs-between : {a : ℤ} {n : ℕ} → neg_ℤ (pos n) ≤ℤ a → a ≤ℤ pos n → nat_abs a ≤ n
nat_abs-between {a = pos m} h k = ≤-pos k
nat_abs-between {a = negsuc m} {n} h k = ≤-pos (rw (neg_ℤ-neg_ℤ (pos n)) at (≤-neg h))

pub nat_abs-upto : {a : ℤ} {n : ℕ} → pos 0 ≤ℤ a → a ≤ℤ pos n → nat_abs a ≤ n
nat_abs-upto {n} h k = nat_abs-between (≤_trans (≤-neg (nonneg n)) h) k

-- ---- a factor above 0

pub <-times : {a b c : ℤ} → pos 0 <ℤ c → a <ℤ b → (c *ℤ a) <ℤ (c *ℤ b)
<-times {a} {b} {c} z l =
    let (m, e) = ≤-gap (<-suc z) in
    let (n, f) = ≤-gap (<-suc l) in
    suc-< (≤-by (n + m * n + m) (ap₂ (λ x y. x *ℤ y) e f
    ∙ solve 3 (λ a m n. (# 0 ⊕ # 1 ⊕ m) ⊗ (a ⊕ # 1 ⊕ n) ≐ (# 0 ⊕ # 1 ⊕ m) ⊗ a ⊕ # 1 ⊕ (n ⊕ m ⊗ n ⊕ m)) tt a (pos m) (pos n) ∙ ap (λ x. x *ℤ a +ℤ pos 1 +ℤ pos (n + m * n + m)) (sym e)))

pub times-positive : {a b : ℤ} → pos 0 <ℤ a → pos 0 <ℤ b → pos 0 <ℤ (a *ℤ b)
times-positive {a} h k = rw (*ℤ-zero a) at (<-times h k)

pub cancel-< : {a b c : ℤ} → pos 0 <ℤ c → (c *ℤ a) <ℤ (c *ℤ b) → a <ℤ b
cancel-< {a} {b} {c} z h = ⊎_elim (λ l. l) (λ l. clash_ℤ h (≤-times (<-≤ z) l)) (<-or-≤ a b)

pub cancel-≤ : {a b c : ℤ} → pos 0 <ℤ c → (c *ℤ a) ≤ℤ (c *ℤ b) → a ≤ℤ b
cancel-≤ {a} {b} {c} z h = ⊎_elim (λ l. clash_ℤ (<-times z l) h) (λ l. l) (<-or-≤ b a)
