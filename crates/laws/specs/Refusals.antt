-- Refusal tables: what the number says of the conditions, and the other way round.
use Rattle.std.specs.Prelude.{◌≡◌, refl, Bool, true, false, not, ◌&&◌, ◌||◌, cond, List, [], ◌∷◌, ◌++◌, ℕ, zero, suc, ◌<◌, T, ltb, eqb, ℤ, pos, length, get_or}
use Rattle.std.proofs.Common.{sym, ◌∙◌, ap, subst, le_of_suc-le-suc, not-suc-le-zero, arith}
use Rattle.std.proofs.Math.Bool.{and_assoc}
use Rattle.std.proofs.Math.Facts.{and_yes, yes_and, yes_eqb, T_not-not}
use Rattle.integers.specs.Tests.{is_true}
use Rattle.model.specs.Ranges.{all}
use Rattle.model.specs.Refusal.{Rule, ◌when◌, first_of, Answer, accepted, refused, unless}
use Rattle.model.specs.Differences.{at}
use Rattle.promises.specs.Promises.{Passed, IsFirst, Every}

-- every number of a table is above 0
abbrev pub numbered : List Rule → Bool
numbered [] = true
numbered ((n when b) ∷ rules) = ltb 0 n && numbered rules

pub passed : (rules : List Rule) → T (numbered rules) → first_of rules ≡ 0 → Passed rules
passed [] t e = tt
passed ((n when false) ∷ rules) t e = (tt, passed rules (and_yes (ltb 0 n) (numbered rules) t).1 e)
passed ((n when true) ∷ rules) t e = absurd (rw e at (and_yes (ltb 0 n) (numbered rules) t).0)

pub passed_first : (rules : List Rule) → Passed rules → first_of rules ≡ 0
passed_first [] h = refl
passed_first ((n when false) ∷ rules) h = passed_first rules h.1
passed_first ((n when true) ∷ rules) h = absurd h.0

given : (rules : List Rule) (n : ℕ) → first_of rules ≡ suc n → IsFirst rules (suc n)
given [] n e = absurd (omega arith)
given ((k when true) ∷ rules) n e = ([], (rules, (ap (λ (k : ℕ). (k when true) ∷ rules) e, tt)))
given ((k when false) ∷ rules) n e = let (a, (b, (q, h))) = given rules n e in ((k when false) ∷ a, (b, (ap (λ rs. (k when false) ∷ rs) q, (tt, h))))

pub first_is : (rules : List Rule) → T (numbered rules) → IsFirst rules (first_of rules)
first_is rules t = go (first_of rules) refl
  where
    go : (n : ℕ) → first_of rules ≡ n → IsFirst rules n
    go zero e = passed rules t e
    go (suc n) e = given rules n e

-- where the front is passed, the back gives the number
pub first-append : (front back : List Rule) → Passed front → first_of (front ++ back) ≡ first_of back
first-append [] back h = refl
first-append ((n when false) ∷ front) back h = first-append front back h.1
first-append ((n when true) ∷ front) back h = absurd h.0

-- rows that are passed play no part
pub first-between : (front passing back : List Rule) → Passed passing → first_of (front ++ (passing ++ back)) ≡ first_of (front ++ back)
first-between [] passing back h = first-append passing back h
first-between ((n when true) ∷ front) passing back h = refl
first-between ((n when false) ∷ front) passing back h = first-between front passing back h

-- and the only one
pub first-of : (rules : List Rule) (n : ℕ) → IsFirst rules n → first_of rules ≡ n
first-of rules zero h = passed_first rules h
first-of rules (suc n) h = let (front, (back, (q, p))) = h in rw q (first-append front ((suc n when true) ∷ back) p)

pub first-unique : (rules : List Rule) (m n : ℕ) → IsFirst rules m → IsFirst rules n → m ≡ n
first-unique rules m n h k = sym (first-of rules m h) ∙ first-of rules n k

-- ---- facts are read from a table by their number

-- the condition that has this number, the first if there are several
abbrev pub condition : ℕ → List Rule → Bool
condition n [] = false
condition n ((k when b) ∷ rules) = cond (eqb n k) b (condition n rules)

pub fails : (n : ℕ) (rules : List Rule) → Passed rules → T (not (condition n rules))
fails n [] h = tt
fails n ((k when b) ∷ rules) h = go (eqb n k) (fails n rules h.1)
  where
    go : (e : Bool) → T (not (condition n rules)) → T (not (cond e b (condition n rules)))
    go true r = h.0
    go false r = r

pub passed-append : (front back : List Rule) → Passed (front ++ back) → Passed front × Passed back
passed-append [] back h = (tt, h)
passed-append ((n when b) ∷ front) back h = let (p, q) = passed-append front back h.1 in ((h.0, p), q)

pub append-passed : (front back : List Rule) → Passed front → Passed back → Passed (front ++ back)
append-passed [] back p q = q
append-passed ((n when b) ∷ front) back p q = (p.0, append-passed front back p.1 q)

-- ---- tests over a list

every {ℓ} : {B : Type ℓ} (f : B → Bool) (xs : List B) → T (all f xs) → Every (λ x. T (f x)) xs
every f [] t = tt
every f (x ∷ xs) t = let k = and_yes (f x) (all f xs) t in (k.0, every f xs k.1)

-- of a row `when not (all ..)` that does not hold
pub all_yes {ℓ} : {B : Type ℓ} (f : B → Bool) (xs : List B) → T (not (not (all f xs))) → Every (λ x. T (f x)) xs
all_yes f xs t = every f xs (T_not-not (all f xs) t)

pub not-not : (b : Bool) → T b → T (not (not b))
not-not true t = tt
not-not false t = absurd t

-- and back
pub yes-all {ℓ} : {B : Type ℓ} (f : B → Bool) (xs : List B) → Every (λ x. T (f x)) xs → T (all f xs)
yes-all f [] h = tt
yes-all f (x ∷ xs) h = yes_and (f x) (all f xs) h.0 (yes-all f xs h.1)

pub all-parts : {B : Type 0} (f : B → Bool) (xs ys : List B) → all f (xs ++ ys) ≡ (all f xs && all f ys)
all-parts f [] ys = refl
all-parts f (x ∷ xs) ys = ap (λ b. f x && b) (all-parts f xs ys) ∙ sym (and_assoc (f x) (all f xs) (all f ys))

pub all_append : {B : Type 0} (f : B → Bool) (xs ys : List B) → T (all f (xs ++ ys)) → T (all f xs) × T (all f ys)
all_append f xs ys t = and_yes (all f xs) (all f ys) (rw (all-parts f xs ys) at t)

pub append-all : {B : Type 0} (f : B → Bool) (xs ys : List B) → T (all f xs) → T (all f ys) → T (all f (xs ++ ys))
append-all f xs ys t u = rw (all-parts f xs ys) (yes_and (all f xs) (all f ys) t u)

pub all-entry : {B : Type 0} (f : B → Bool) (xs : List B) (d : B) → T (all f xs) → (i : ℕ) → i < length xs → T (f (get_or xs i d))
all-entry f [] d t i l = absurd (not-suc-le-zero l)
all-entry f (x ∷ xs) d t zero l = (and_yes (f x) (all f xs) t).0
all-entry f (x ∷ xs) d t (suc i) l = all-entry f xs d (and_yes (f x) (all f xs) t).1 i (le_of_suc-le-suc l)

-- what holds of every entry, and of 0, holds at every place
pub at_every : (P : ℤ → Type 0) (u : List ℤ) → P (pos 0) → Every P u → (i : ℕ) → P (at u i)
at_every P u z h zero = z
at_every P [] z h (suc k) = z
at_every P (x ∷ u) z h (suc zero) = h.0
at_every P (x ∷ u) z h (suc (suc k)) = at_every P u z h.1 (suc k)

pub at_all : (f : ℤ → Bool) (u : List ℤ) → T (f (pos 0)) → T (all f u) → (i : ℕ) → T (f (at u i))
at_all f u z t = at_every (λ x. T (f x)) u z (every f u t)

-- ---- an operation by its table

-- what holds of what it makes where the table is passed, and of what becomes of each number that is given, holds of the operation
pub by-table {κ} : {R : Type 0} (rules : List Rule) → T (numbered rules) → (made : R) (turned_down : ℕ → R) (P : R → Type κ)
    → (Passed rules → P made) → ((n : ℕ) → IsFirst rules (suc n) → P (turned_down (suc n))) → P (unless (first_of rules) made turned_down)
by-table rules t made turned_down P p q = go (first_of rules) (first_is rules t)
  where
    go : (n : ℕ) → IsFirst rules n → P (unless n made turned_down)
    go zero h = p h
    go (suc n) h = q n h

-- no answer is both
pub never_both {ℓ} : {B : Type 0} {C : Type ℓ} {a : Answer B} {n : ℕ} {b : B} → a ≡ refused n → a ≡ accepted b → C
never_both p e = let z : ◌≡◌ {A = ℕ} 0 1 = cc in absurd (omega arith)

-- an accepted operation has passed its table, and gives what it makes
pub accepted-by : {R B : Type 0} (answer : R → Answer B) (rules : List Rule) → T (numbered rules) → (made : R) (turned_down : ℕ → R) → ((n : ℕ) → answer (turned_down n) ≡ refused n)
    → (b : B) → answer (unless (first_of rules) made turned_down) ≡ accepted b → Passed rules × (unless (first_of rules) made turned_down ≡ made)
accepted-by {R} answer rules t made turned_down q = by-table rules t made turned_down (λ (r : R). (b : _) → answer r ≡ accepted b → Passed rules × (r ≡ made)) (λ h b e. (h, refl)) (λ n h b e. never_both (q (suc n)) e)

-- ---- a table gone through row by row, as code does: t is what a test answered

-- no row above `rest` holds
pub record Reached (rules rest : List Rule) : Type 0 where
  pub number : first_of rules ≡ first_of rest

pub reached-top : {rules : List Rule} → Reached rules rules
reached-top = record { number = refl }

pub reached-back : (front back : List Rule) → Passed front → Reached (front ++ back) back
reached-back front back h = record { number = first-append front back h }

module _ {rules rest : List Rule} {n : ℕ} {b t : Bool} where
  pub row-passed : Reached rules ((n when b) ∷ rest) → t ≡ b → t ≡ false → Reached rules rest
  row-passed r e l = record { number = r.number ∙ ap (λ b. first_of ((n when b) ∷ rest)) (sym e ∙ l) }

  pub row-holds : Reached rules ((n when b) ∷ rest) → t ≡ b → t ≡ true → first_of rules ≡ n
  row-holds r e l = r.number ∙ ap (λ b. first_of ((n when b) ∷ rest)) (sym e ∙ l)

module _ {rules rest : List Rule} {n : ℕ} {b t : Bool} where
  pub row-passed-not : Reached rules ((n when not b) ∷ rest) → t ≡ b → not t ≡ false → Reached rules rest
  row-passed-not r e l = row-passed r (ap not e) l

  pub row-holds-not : Reached rules ((n when not b) ∷ rest) → t ≡ b → not t ≡ true → first_of rules ≡ n
  row-holds-not r e l = row-holds r (ap not e) l

-- what a test `not t` that was left says of the condition
pub row-fact : {b t : Bool} → t ≡ b → not t ≡ false → T b
row-fact {b} {t} e l = go t e l
  where
    go : (t : Bool) → t ≡ b → not t ≡ false → T b
    go true e l = subst T e tt
    go false e l = absurd (subst T l tt)

-- a number that the front gives is the table's
pub front-number : (front back : List Rule) (n : ℕ) → n ≡ first_of front → (n ≡ 0 → ⊥) → first_of (front ++ back) ≡ n
front-number [] back n e h = absurd (h e)
front-number ((k when true) ∷ front) back n e h = sym e
front-number ((k when false) ∷ front) back n e h = front-number front back n e h

-- the result of an operation by the number that its table gave
module _ {ℓ} {R : Type ℓ} (rules : List Rule) (made : R) (turned_down : ℕ → R) where
  pub made_by : first_of rules ≡ 0 → made ≡ unless (first_of rules) made turned_down
  made_by e = sym (ap (λ n. unless n made turned_down) e)

  pub refused-by : (n : ℕ) → first_of rules ≡ n → (n ≡ 0 → ⊥) → turned_down n ≡ unless (first_of rules) made turned_down
  refused-by zero e h = absurd (h refl)
  refused-by (suc n) e h = sym (ap (λ n. unless n made turned_down) e)

-- ---- a number that is never given

-- a row with this number holds
abbrev pub holds_at : ℕ → List Rule → Bool
holds_at n [] = false
holds_at n ((k when b) ∷ rules) = (eqb n k && b) || holds_at n rules

never_first : (n : ℕ) (rules : List Rule) → T (not (holds_at (suc n) rules)) → first_of rules ≡ suc n → ⊥
never_first n [] t e = omega arith
never_first n ((k when true) ∷ rules) t e = let q : eqb (suc n) k ≡ true = is_true (eqb (suc n) k) (yes_eqb (sym e)) in (rw q at t)
never_first n ((k when false) ∷ rules) t e = never_first n rules (go (eqb (suc n) k) t) e
  where
    go : (b : Bool) → T (not ((b && false) || holds_at (suc n) rules)) → T (not (holds_at (suc n) rules))
    go true t = t
    go false t = t

pub never-answered : {B R : Type 0} (answer : R → Answer B) (rules : List Rule) (result : R) (turned_down : ℕ → R) (n : ℕ) → ((n : ℕ) → answer (turned_down n) ≡ refused n) → (b : B) → answer result ≡ accepted b
    → T (not (holds_at (suc n) rules)) → answer (unless (first_of rules) result turned_down) ≡ refused (suc n) → ⊥
never-answered answer rules result turned_down n q b a t = go (first_of rules) refl
  where
    go : (m : ℕ) → first_of rules ≡ m → answer (unless m result turned_down) ≡ refused (suc n) → ⊥
    go zero e r = never_both r a
    go (suc m) e r = let same : suc m ≡ suc n = cc (q (suc m)) in never_first n rules t (e ∙ same)
