-- Two strings whose rises are summed, each given or worked out: their sizes.
use Rattle.std.specs.Prelude.{◌≡◌, refl, List, ℕ, zero, suc, ◌-◌, ◌^◌, ◌≤◌, ◌<◌, T, ltb, ℤ, pos, ◌-ℤ◌, ◌*ℤ◌, length, get_or}
use Rattle.std.proofs.Common.{sym, ◌∙◌, ap, ap₂, arith, not-suc-le-zero, SFits, to_z, of_z, to_z-of_z}
use Rattle.std.specs.Int.{w32}
use Rattle.integers.specs.Size as Size
use Rattle.integers.specs.Size.{◌within◌, ◌⟨-⟩◌, ◌⟨*⟩◌, wide}
use Rattle.integers.specs.Solve.{◌⊖◌, #◌, ◌≐◌, solve}
use Rattle.model.specs.Differences.{at, minus}
use Rattle.laws.specs.EnergySizes.{Strings, newer-within, older-within, change-within, spans-newer, spans-older}
use Rattle.laws.specs.Sizes.{Bounded}
use Rattle.laws.specs.Strings.{◌spans◌, spans-minus, at-minus, rise}
use Rattle.energy_sums.specs.Ends.{last-rise}
use Rattle.energy_sums.specs.Raised.{raised, raised-within}

pub record Pair (a b : List ℤ) : Type 0 where
  pub same : length b ≡ length a
  pub some : 1 ≤ length a
  pub most : length a ≤ 127
  pub first : Bounded a 2097152
  pub second : Bounded b 2097152

pub strings-pair : {u v : List ℤ} → Strings u v → Pair u v
strings-pair h = record { same = sym h.same; some = h.some; most = h.most; first = λ i. wide (newer-within h i) tt; second = λ i. wide (older-within h i) tt }

module _ {u v : List ℤ} (h : Strings u v) where
  pub spans-change : minus u v spans length u
  spans-change = spans-minus (spans-newer h) (spans-older h)

  pub change-pair : Pair (minus u v) (minus u v)
  change-pair = let e = spans-change.long in let l = h.some in let m = h.most in record {
    same = refl;
    some = omega arith;
    most = omega arith;
    first = change-within h;
    second = change-within h;
  }

  -- both numbers that one of them is worked out of
  pub record Parts (i : ℕ) : Type 0 where
    pub in-newer : i < length u
    pub in-older : i < length v
    pub newer : get_or u i (pos 0) within 1048576
    pub older : get_or v i (pos 0) within 1048576
    pub is : at (minus u v) (suc i) ≡ get_or u i (pos 0) -ℤ get_or v i (pos 0)

  pub parts : (i : ℕ) → i < length (minus u v) → Parts i
  parts i l = let e = spans-change.long in let s = h.same in record {
    in-newer = omega arith;
    in-older = omega arith;
    newer = newer-within h (suc i);
    older = older-within h (suc i);
    is = at-minus (spans-newer h) (spans-older h) (suc i);
  }

-- ---- numbers as the code holds them

-- a number that is read
module _ {x y : ℤ} {m : ℕ} (e : x ≡ y) (h : y within m) (l : T (ltb m (2 ^ 31))) where
  pub number-is : to_z w32 (of_z w32 x) ≡ y
  number-is = to_z-of_z {w = w32} (rw e (Size.fits h l)) ∙ e

  pub number-within : to_z w32 (of_z w32 x) within m
  number-within = rw number-is h

-- a difference of two that makes a rise
module _ {x r : ℤ} (e : x ≡ r) (h : r within 4194304) where
  pub rise-fits : SFits w32 x
  rise-fits = rw e (Size.fits h tt)

  pub rise-is : to_z w32 (of_z w32 x) ≡ r
  rise-is = number-is e h tt

  pub rise-small : to_z w32 (of_z w32 x) within 4194304
  rise-small = number-within e h tt

-- the rise of a string at either end and between, from the numbers that are read
module _ (a : List ℤ) (h : Bounded a 2097152) where
  pub rise-within : (k : ℕ) → rise (at a) k within 4194304
  rise-within k = wide (h (suc k) ⟨-⟩ h k) tt

  pub first-rise : {x : ℤ} → x ≡ at a 1 → x ≡ rise (at a) 0
  first-rise e = e ∙ solve 1 (λ x. x ≐ x ⊖ # 0) tt (at a 1)

  pub between : {x y : ℤ} {i : ℕ} → 1 ≤ i → x ≡ at a (suc i) → y ≡ at a (suc (i - 1)) → to_z w32 (of_z w32 x) -ℤ to_z w32 (of_z w32 y) ≡ rise (at a) i
  between {i = zero} l e f = absurd (not-suc-le-zero l)
  between {i = suc k} l e f = ap₂ (λ x y. x -ℤ y) (number-is e (h (suc (suc k))) tt) (number-is (let q : suc k - 1 ≡ k = omega arith in f ∙ ap (λ (j : ℕ). at a (suc j)) q) (h (suc k)) tt)

  pub end-rise : {x : ℤ} {n : ℕ} → a spans n → 1 ≤ n → x ≡ at a (suc (n - 1)) → pos 0 -ℤ to_z w32 (of_z w32 x) ≡ rise (at a) n
  end-rise {n = n} s l e = ap (λ x. pos 0 -ℤ x) (number-is e (h (suc (n - 1))) tt) ∙ last-rise s l

-- the raised product of the rises of both
pub term-within : (a b : List ℤ) → Bounded a 2097152 → Bounded b 2097152 → (k : ℕ) → raised (rise (at a) k) (rise (at b) k) within 2 ^ 52
term-within a b h j k = wide (raised-within (rise-within a h k) (rise-within b j k)) tt

-- a square
pub square-within : (a : List ℤ) → Bounded a 67108864 → (k : ℕ) → at a (suc k) *ℤ at a (suc k) within 2 ^ 52
square-within a h k = h (suc k) ⟨*⟩ h (suc k)
