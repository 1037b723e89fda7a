-- The list of f 0 .. f (n - 1), and a list that a loop fills with it from the front.
use Rattle.std.specs.Prelude.{◌≡◌, refl, Bool, true, false, cond, List, [], ◌∷◌, ℕ, zero, suc, ◌+◌, min, ◌≤◌, ◌<◌, eqb, length, get_or, set, take, replicate}
use Rattle.std.proofs.Common.{sym, ap, ◌∙◌, le_of_suc-le-suc, not-suc-le-zero, le_refl, arith, length-set, length-take, ext_get_or, get_or-set_same, get_or-set_other, get_or-take, length-take-le, below_none, below_more}
use Rattle.std.proofs.Math.Decide.{dec_lt}
use Rattle.std.proofs.Math.Facts.{eqb_yes, eqb_no}
use Rattle.std.proofs.lemmas.List.{length-replicate}

abbrev pub tabulate {ℓ} : {A : Type ℓ} → ℕ → (ℕ → A) → List A
tabulate zero f = []
tabulate (suc n) f = f 0 ∷ tabulate n (λ k. f (suc k))

-- n elements, of which those below i are done: each is f of its index
pub record Filled {A : Type 0} (d : A) (n : ℕ) (f : ℕ → A) (i : ℕ) (l : List A) : Type 0 where
  pub len : length l ≡ n
  pub each : (k : ℕ) → k < i → get_or l k d ≡ f k

module _ {ℓ} {A : Type ℓ} where
  pub length-tabulate : (n : ℕ) (f : ℕ → A) → length (tabulate n f) ≡ n
  length-tabulate zero f = refl
  length-tabulate (suc n) f = ap suc (length-tabulate n (λ k. f (suc k)))

  pub get_d_tabulate : (n : ℕ) (f : ℕ → A) (d : A) (k : ℕ) → k < n → get_or (tabulate n f) k d ≡ f k
  get_d_tabulate zero f d k h = absurd (not-suc-le-zero h)
  get_d_tabulate (suc n) f d zero h = refl
  get_d_tabulate (suc n) f d (suc k) h = get_d_tabulate n (λ j. f (suc j)) d k (le_of_suc-le-suc h)

  pub tabulate-same : (n : ℕ) (x : A) → tabulate n (λ k. x) ≡ replicate n x
  tabulate-same zero x = refl
  tabulate-same (suc n) x = ap (λ xs. x ∷ xs) (tabulate-same n x)

module _ {A : Type 0} {d : A} {n : ℕ} {f : ℕ → A} where
  -- before the loop
  pub filled_none : {l : List A} → length l ≡ n → Filled d n f 0 l
  filled_none e = record { len = e; each = below_none _ }

  -- a turn
  pub filled_more : {i : ℕ} {l : List A} {v : A} → i < n → Filled d n f i l → v ≡ f i → Filled d n f (i + 1) (set l i v)
  filled_more {i} {l} {v} h F e = record {
    len = length-set l i v ∙ F.len;
    each = below_more (λ k. get_or (set l i v) k d ≡ f k) i
        (λ k kl. get_or-set_other l i k v d (omega arith) ∙ F.each k kl)
        (get_or-set_same l i v d (omega (arith, F.len)) ∙ e);
  }

  -- after it: the first m elements, where the rest of the array is not used
  pub filled-first : {m i : ℕ} {l : List A} → m ≤ i → m ≤ n → Filled d n f i l → take m l ≡ tabulate m f
  filled-first {m} {i} {l} h k F =
      let e : length (take m l) ≡ m = length-take-le m l (omega (arith, F.len)) in
      ext_get_or d (take m l) (tabulate m f) (e ∙ sym (length-tabulate m f))
      (λ j g. get_or-take m l j d (omega arith) ∙ F.each j (omega arith) ∙ sym (get_d_tabulate m f d j (omega arith)))

-- one of the first m elements of an array set anew
pub tabulate-set : {A : Type 0} (d : A) (m : ℕ) (f : ℕ → A) (k : ℕ) (l : List A) (v : A) → k < m → take m l ≡ tabulate m f → take m (set l k v) ≡ tabulate m (λ j. cond (eqb (suc j) (suc k)) v (f j))
tabulate-set {A} d m f k l v lt e = ext_get_or d (take m (set l k v)) (tabulate m g) (long ∙ sym (length-tabulate m g))
    (λ j i. let b : j < m = rw long at i in get_or-take m (set l k v) j d b ∙ each j b (eqb (suc j) (suc k)) refl ∙ sym (get_d_tabulate m g d j b))
  where
    g : ℕ → A
    g j = cond (eqb (suc j) (suc k)) v (f j)

    -- l has m elements at least
    h : m ≤ length l
    h = let q : min m (length l) ≡ m = sym (length-take m l) ∙ ap length e ∙ length-tabulate m f in omega arith

    long : length (take m (set l k v)) ≡ m
    long = length-take-le m (set l k v) (rw (length-set l k v) h)

    each : (j : ℕ) → j < m → (t : Bool) → eqb (suc j) (suc k) ≡ t → get_or (set l k v) j d ≡ cond t v (f j)
    each j b true q = let same = eqb_yes {a = suc j} {b = suc k} (rw q tt) in let e' : j ≡ k = omega arith in rw e' (get_or-set_same l k v d (omega (arith, h)))
    each j b false q = get_or-set_other l k j v d (λ z. eqb_no {a = suc j} {b = suc k} (rw q tt) (ap suc z)) ∙ sym (get_or-take m l j d b) ∙ ap (λ x. get_or x j d) e ∙ get_d_tabulate m f d j b

-- ---- an array that holds d everywhere before the loop, so that what is not done yet still does

pub record Begun {A : Type 0} (d : A) (n : ℕ) (f : ℕ → A) (i : ℕ) (l : List A) : Type 0 where
  pub filled : Filled d n f i l
  pub rest : (k : ℕ) → i ≤ k → get_or l k d ≡ d

pub get_d_replicate : {A : Type 0} (n : ℕ) (d : A) (k : ℕ) → get_or (replicate n d) k d ≡ d
get_d_replicate zero d k = refl
get_d_replicate (suc n) d zero = refl
get_d_replicate (suc n) d (suc k) = get_d_replicate n d k

module _ {A : Type 0} {d : A} {n : ℕ} {f : ℕ → A} where
  pub begun-none : Begun d n f 0 (replicate n d)
  begun-none = record { filled = filled_none (length-replicate n d); rest = λ k h. get_d_replicate n d k }

  -- an element that is d already
  pub begun-same : {i : ℕ} {l : List A} → f i ≡ d → Begun d n f i l → Begun d n f (i + 1) l
  begun-same {i} {l} e B = record {
    filled = record { len = B.filled.len; each = below_more (λ k. get_or l k d ≡ f k) i B.filled.each (B.rest i (le_refl i) ∙ sym e) };
    rest = λ k h. B.rest k (omega arith);
  }

  pub begun_more : {i : ℕ} {l : List A} {v : A} → i < n → Begun d n f i l → v ≡ f i → Begun d n f (i + 1) (set l i v)
  begun_more {i} {l} {v} h B e = record { filled = filled_more h B.filled e; rest = λ k g. get_or-set_other l i k v d (omega arith) ∙ B.rest k (omega arith) }

  pub begun_all : {i : ℕ} {l : List A} → ((k : ℕ) → i ≤ k → f k ≡ d) → Begun d n f i l → l ≡ tabulate n f
  begun_all {i} {l} past B = ext_get_or d l (tabulate n f) (B.filled.len ∙ sym (length-tabulate n f)) (λ k h. go k h (dec_lt k i) ∙ sym (get_d_tabulate n f d k (omega (arith, B.filled.len))))
    where
      go : (k : ℕ) → k < length l → Dec (k < i) → get_or l k d ≡ f k
      go k h (yes p) = B.filled.each k p
      go k h (no p) = let q : i ≤ k = omega arith in B.rest k q ∙ sym (past k q)

-- ---- an array that a loop works out in place: what is not done yet is as it was

pub record Rewritten {A : Type 0} (d : A) (n : ℕ) (was : List A) (f : ℕ → A) (i : ℕ) (l : List A) : Type 0 where
  pub filled : Filled d n f i l
  pub rest : (k : ℕ) → i ≤ k → get_or l k d ≡ get_or was k d

module _ {A : Type 0} {d : A} {n : ℕ} {was : List A} {f : ℕ → A} where
  pub rewritten-none : length was ≡ n → Rewritten d n was f 0 was
  rewritten-none e = record { filled = filled_none e; rest = λ k h. refl }

  pub rewritten-more : {i : ℕ} {l : List A} {v : A} → i < n → Rewritten d n was f i l → v ≡ f i → Rewritten d n was f (i + 1) (set l i v)
  rewritten-more {i} {l} {v} h R e = record { filled = filled_more h R.filled e; rest = λ k g. get_or-set_other l i k v d (omega arith) ∙ R.rest k (omega arith) }
