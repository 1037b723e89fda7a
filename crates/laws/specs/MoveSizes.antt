-- How large the moves of a step can be, and what it leads to, before 13 and 14 are judged: 32 bits hold the string and its contact variables, 64 the finger.
use Rattle.std.specs.Prelude.{◌≡◌, [], ◌∷◌, ℕ, ◌+◌, ◌*◌, ◌^◌, leb, ℤ, neg_ℤ, ◌+ℤ◌, ◌-ℤ◌, ◌*ℤ◌, ◌≤ℤ◌, ◌<ℤ◌}
use Rattle.std.proofs.Common.{sym, ◌∙◌, ap, le_trans, arith, leb→le}
use Rattle.std.proofs.Math.Dec.{T}
use Rattle.std.proofs.Math.IntN.{pos}
use Rattle.integers.specs.Solve.{◌⊕◌, ◌⊖◌, ◌⊗◌, ⊝◌, #◌, ◌≐◌, solve}
use Rattle.integers.specs.Derive.{◌≼◌, ◌⊢◌, times, equal, square, deduce}
use Rattle.integers.specs.Order.{≤-refl, ≤_trans, ≤-of-eq, ≤-sum, ≤-times, minus-≤, ≤-pos, pos-≤, nonneg, times-nonneg, square-nonneg, sum_nonneg, <-≤}
use Rattle.integers.specs.Size.{◌within◌, ◌⟨+⟩◌, ◌⟨-⟩◌, ◌⟨*⟩◌, num, weaken, wide, size, size-add, size-mul, size-nonneg}
use Rattle.model.specs.Setup.{Z, m}
use Rattle.model.specs.Rounding.{nearest}
use Rattle.model.specs.System.{System, det, det₁, det₂, rounded₁, rounded₂}
use Rattle.model.specs.Step.{factor, finger_system}
use Rattle.model.specs.declared.Finger.{Finger}
use Rattle.model.specs.declared.Setup.{Setup}
use Rattle.laws.specs.Nearest.{nearest-size}
use Rattle.laws.specs.Moves.{factor-low, factor-positive, regular-system}
use Rattle.laws.specs.Accepted.{SetupFacts}
use Rattle.laws.specs.Sizes.{side_size}

-- where k·w ≤ r, w times a number up to a·k is at most a·r
weighs : {w r : ℤ} (k : ℕ) → pos 0 ≤ℤ w → (pos k *ℤ w) ≤ℤ r → (n a : ℕ) → T (leb n (a * k)) → (w *ℤ pos n) ≤ℤ (pos a *ℤ r)
weighs {w} {r} k hw h n a t = ≤_trans (≤-times hw (pos-≤ (leb→le n (a * k) t))) (≤_trans (≤-of-eq (solve 3 (λ w a k. w ⊗ (a ⊗ k) ≐ a ⊗ (k ⊗ w)) tt w (pos a) (pos k))) (≤-times (nonneg a) h))

size-square : (x : ℤ) → size x *ℤ size x ≡ x *ℤ x
size-square x = sym (size-mul x x) ∙ size-nonneg (square-nonneg x)

-- 128·|G| ≤ A and 2·|G|·|g| ≤ A + g², by (|G| − 64)² and (|G| − |g|)²
factor-gradient : (s : Setup) (G : ℤ) → (pos 128 *ℤ size G) ≤ℤ factor s G
factor-gradient s G = deduce 3 (λ Z G y. times 1 (# 0 ≼ Z) ∷ square 1 (y ⊖ # 64) ∷ equal (# 1) (y ⊗ y ≐ G ⊗ G) ∷ [] ⊢ # 128 ⊗ y ≼ # 4096 ⊕ Z ⊕ G ⊗ G) tt
    (pos (Z s)) G (size G) (nonneg (Z s)) (size-square G)

factor-both : (s : Setup) (G g : ℤ) → (pos 2 *ℤ size G *ℤ size g) ≤ℤ (factor s G +ℤ g *ℤ g)
factor-both s G g = deduce 5 (λ Z G g y z. times 1 (# 0 ≼ Z) ∷ square 1 (y ⊖ z) ∷ equal (# 1) (y ⊗ y ≐ G ⊗ G) ∷ equal (# 1) (z ⊗ z ≐ g ⊗ g) ∷ [] ⊢ # 2 ⊗ y ⊗ z ≼ # 4096 ⊕ Z ⊕ G ⊗ G ⊕ g ⊗ g) tt
    (pos (Z s)) G g (size G) (size g) (nonneg (Z s)) (size-square G) (size-square g)

-- A solution of the system, rounded and weighted by w: of rows r + q, −q and −q, t + q and right side u, v, where |u| ≤ U and |v| ≤ t·X + Y, its numerator is
-- w·|(t + q)·u + q·v| ≤ (t + q)·w·U + t·w·q·X + q·w·Y ≤ (a + b + d) times the determinant, if w·U ≤ a·r, w·q·X ≤ b·(r + q) and w·Y ≤ d·r.
module _ {r t q w : ℤ} (hr : pos 0 ≤ℤ r) (ht : pos 0 ≤ℤ t) (hq : pos 0 ≤ℤ q) (hw : pos 0 ≤ℤ w) where
  solution-≤ : (u v U X Y : ℤ) (a b d : ℕ) → size u ≤ℤ U → size v ≤ℤ (t *ℤ X +ℤ Y) → (w *ℤ U) ≤ℤ (pos a *ℤ r) → (w *ℤ (q *ℤ X)) ≤ℤ (pos b *ℤ (r +ℤ q)) → (w *ℤ Y) ≤ℤ (pos d *ℤ r)
      → (num den : ℤ) → num ≡ (t +ℤ q) *ℤ u +ℤ q *ℤ v → den ≡ r *ℤ (t +ℤ q) +ℤ q *ℤ t → pos 0 <ℤ den → (w *ℤ size (nearest num den)) ≤ℤ (pos (a + b + d) +ℤ w)
  solution-≤ u v U X Y a b d hu hv ha hb hd num den en ed positive = nearest-size num (pos (a + b + d)) w positive hw (≤_trans (≤-times hw numerator) (≤_trans weighed (≤-of-eq (ap (λ z. pos (a + b + d) *ℤ z) (sym ed)))))
    where
      tq : pos 0 ≤ℤ (t +ℤ q)
      tq = sum_nonneg ht hq

      scaled : (c d : ℤ) → pos 0 ≤ℤ c → size (c *ℤ d) ≡ c *ℤ size d
      scaled c d h = size-mul c d ∙ ap (λ z. z *ℤ size d) (size-nonneg h)

      numerator : size num ≤ℤ ((t +ℤ q) *ℤ U +ℤ q *ℤ (t *ℤ X +ℤ Y))
      numerator = ≤_trans (≤-of-eq (ap size en)) (≤_trans (size-add ((t +ℤ q) *ℤ u) (q *ℤ v)) (≤-sum (≤_trans (≤-of-eq (scaled (t +ℤ q) u tq)) (≤-times tq hu)) (≤_trans (≤-of-eq (scaled q v hq)) (≤-times hq hv))))

      weighed : (w *ℤ ((t +ℤ q) *ℤ U +ℤ q *ℤ (t *ℤ X +ℤ Y))) ≤ℤ (pos (a + b + d) *ℤ (r *ℤ (t +ℤ q) +ℤ q *ℤ t))
      weighed = deduce 10 (λ r t q w U X Y a b d. times 1 ((t ⊕ q) ⊗ (w ⊗ U) ≼ (t ⊕ q) ⊗ (a ⊗ r)) ∷ times 1 (t ⊗ (w ⊗ (q ⊗ X)) ≼ t ⊗ (b ⊗ (r ⊕ q))) ∷ times 1 (q ⊗ (w ⊗ Y) ≼ q ⊗ (d ⊗ r))
          ∷ times 1 (# 0 ≼ a ⊗ (q ⊗ t)) ∷ times 1 (# 0 ≼ b ⊗ (r ⊗ q)) ∷ times 1 (# 0 ≼ d ⊗ (t ⊗ (r ⊕ q))) ∷ []
          ⊢ w ⊗ ((t ⊕ q) ⊗ U ⊕ q ⊗ (t ⊗ X ⊕ Y)) ≼ (a ⊕ b ⊕ d) ⊗ (r ⊗ (t ⊕ q) ⊕ q ⊗ t)) tt
          r t q w U X Y (pos a) (pos b) (pos d)
          (≤-times tq ha) (≤-times ht hb) (≤-times hq hd) (times-nonneg (nonneg a) (times-nonneg hq ht)) (times-nonneg (nonneg b) (times-nonneg hr hq)) (times-nonneg (nonneg d) (times-nonneg ht (sum_nonneg hr hq)))

-- A point's move δ, and what its contact variable changes by, G·δ: small enough that a new displacement and a new contact variable fit 32 bits before they are judged.
abbrev pub move_size : ℕ
move_size = 2 ^ 26

abbrev pub change_size : ℕ
change_size = 15 * 2 ^ 27

pub record SmallMove (G δ : ℤ) : Type 0 where
  pub move : δ within move_size
  pub change : (G *ℤ δ) within change_size

-- a bound for w·|δ| where w is 1
unweighted : {δ : ℤ} (k : ℕ) → (pos 1 *ℤ size δ) ≤ℤ (pos k +ℤ pos 1) → δ within (k + 1)
unweighted {δ} k h = record { size = ≤-pos (rw (solve 1 (λ x. # 1 ⊗ x ≐ x) tt (size δ)) at h) }

-- by bounds where w is 1, and where it is |G|
small-move : {G δ : ℤ} → G within 255 → (k l : ℕ) → (pos 1 *ℤ size δ) ≤ℤ (pos k +ℤ pos 1) → T (leb (k + 1) move_size) → (size G *ℤ size δ) ≤ℤ (pos l +ℤ size G) → T (leb (l + 255) change_size) → SmallMove G δ
small-move {G} {δ} g k l move k-small change l-small = record {
  move = wide (unweighted k move) k-small;
  change = wide (record { size = ≤-pos (≤_trans (≤-of-eq (size-mul G δ)) (≤_trans change (≤-sum (≤-refl {a = pos l}) (pos-≤ g.size)))) }) l-small;
}

determinant : (a m q : ℤ) → (a +ℤ q) *ℤ (m +ℤ q) -ℤ neg_ℤ q *ℤ neg_ℤ q ≡ a *ℤ (m +ℤ q) +ℤ q *ℤ m
determinant = solve 3 (λ a m q. (a ⊕ q) ⊗ (m ⊕ q) ⊖ ⊝ q ⊗ ⊝ q ≐ a ⊗ (m ⊕ q) ⊕ q ⊗ m) tt

-- where no finger stands, by the right side c and the gradient G: |c| is at most 4096·2^25, and 128·(3·2^28 + 2^23)
pub away-small : (s : Setup) {c G : ℤ} → c within side_size → G within 255 → SmallMove G (nearest c (factor s G))
away-small s {c} {G} h g = small-move g (2 ^ 25) (3 * 2 ^ 28 + 2 ^ 23) (weighted (pos 1) 4096 (2 ^ 25) (nonneg 1) (factor-low s G) tt) tt (weighted (size G) 128 (3 * 2 ^ 28 + 2 ^ 23) (nonneg _) (factor-gradient s G) tt) tt
  where
    weighted : (w : ℤ) (k a : ℕ) → pos 0 ≤ℤ w → (pos k *ℤ w) ≤ℤ factor s G → T (leb side_size (a * k)) → (w *ℤ size (nearest c (factor s G))) ≤ℤ (pos a +ℤ w)
    weighted w k a hw l t = nearest-size c (pos a) w (factor-positive s G) hw (≤_trans (≤-times hw (pos-≤ h.size)) (weighs k hw l side_size a t))

-- a finger's heights and contact variable in their ranges
pub record FingerSizes (finger : Finger) : Type 0 where
  pub newer : finger.newer within 1048576
  pub older : finger.older within 1048576
  pub contact : finger.contact within 67108864

-- under the finger, by the right side c of its point, both gradients and the finger force f
module _ {s : Setup} (ok : SetupFacts s) {finger : Finger} (held : FingerSizes finger) {c G g f : ℤ} (hc : c within side_size) (hG : G within 255) (hg : g within 255) (hf : f within 1073741824) where
  -- the system's parts: A, m, g², and its right side
  abbrev a : ℤ
  a = factor s G

  abbrev mass : ℤ
  mass = pos (m s)

  abbrev q : ℤ
  q = g *ℤ g

  abbrev pair : System
  pair = finger_system s finger a c g f

  q-low : pos 0 ≤ℤ q
  q-low = square-nonneg g

  a-low : pos 0 ≤ℤ a
  a-low = <-≤ (factor-positive s G)

  regular : pos 0 <ℤ det pair
  regular = regular-system s finger c g f (factor-positive s G) ok.mass-low

  b₁-size : pair.b₁ within (2 ^ 37 + 2 ^ 30)
  b₁-size = wide (hc ⟨-⟩ num 2 ⟨*⟩ hg ⟨*⟩ held.contact) tt

  -- by its first term and the two others
  b₂-size : pair.b₂ within (m s * 2 ^ 22 + (2 ^ 35 + 2 ^ 30))
  b₂-size = weaken (num 2 ⟨*⟩ num (m s) ⟨*⟩ (held.newer ⟨-⟩ held.older) ⟨+⟩ hf ⟨+⟩ num 2 ⟨*⟩ hg ⟨*⟩ held.contact) (omega arith)

  -- δ at p: |b₁| ≤ 2^37 + 2^30 and |b₂| ≤ 2^22·m + 2^35 + 2^30
  pub pair_small : SmallMove G (rounded₁ pair)
  unfolding rounded₁
  pair_small = small-move hG (2 ^ 25 + 2 ^ 18 + 2 ^ 22 + (2 ^ 23 + 2 ^ 18)) (2 ^ 30 + 2 ^ 23 + 255 * 2 ^ 21 + (2 ^ 28 + 2 ^ 23))
      (weighted (pos 1) 4096 (2 ^ 25 + 2 ^ 18) (2 ^ 22) (2 ^ 23 + 2 ^ 18) (nonneg 1) (factor-low s G) tt tt one) tt
      (weighted (size G) 128 (2 ^ 30 + 2 ^ 23) (255 * 2 ^ 21) (2 ^ 28 + 2 ^ 23) (nonneg _) (factor-gradient s G) tt tt own) tt
    where
      weighted : (w : ℤ) (k n l j : ℕ) → pos 0 ≤ℤ w → (pos k *ℤ w) ≤ℤ a → T (leb (2 ^ 37 + 2 ^ 30) (n * k)) → T (leb (2 ^ 35 + 2 ^ 30) (j * k)) → (w *ℤ (q *ℤ pos (2 ^ 22))) ≤ℤ (pos l *ℤ (a +ℤ q))
          → (w *ℤ size (rounded₁ pair)) ≤ℤ (pos (n + l + j) +ℤ w)
      weighted w k n l j hw h t t' r =
          solution-≤ a-low (nonneg (m s)) q-low hw pair.b₁ pair.b₂ (pos (2 ^ 37 + 2 ^ 30)) (pos (2 ^ 22)) (pos (2 ^ 35 + 2 ^ 30)) n l j
          (pos-≤ b₁-size.size) (pos-≤ b₂-size.size) (weighs k hw h (2 ^ 37 + 2 ^ 30) n t) r (weighs k hw h (2 ^ 35 + 2 ^ 30) j t')
          (det₁ pair) (det pair) (solve 4 (λ u v m q. u ⊗ (m ⊕ q) ⊖ ⊝ q ⊗ v ≐ (m ⊕ q) ⊗ u ⊕ q ⊗ v) tt pair.b₁ pair.b₂ mass q) (determinant a mass q) regular

      one : (pos 1 *ℤ (q *ℤ pos (2 ^ 22))) ≤ℤ (pos (2 ^ 22) *ℤ (a +ℤ q))
      one = deduce 2 (λ a q. times 4194304 (# 0 ≼ a) ∷ [] ⊢ # 1 ⊗ (q ⊗ # 4194304) ≼ # 4194304 ⊗ (a ⊕ q)) tt a q a-low

      own : (size G *ℤ (q *ℤ pos (2 ^ 22))) ≤ℤ (pos (255 * 2 ^ 21) *ℤ (a +ℤ q))
      own = deduce 4 (λ y z a q. times 2097152 (z ⊗ (# 2 ⊗ y ⊗ z) ≼ z ⊗ (a ⊕ q)) ∷ times 2097152 (# 0 ≼ (# 255 ⊖ z) ⊗ (a ⊕ q)) ∷ equal (# 4194304 ⊗ y) (q ≐ z ⊗ z) ∷ [] ⊢ y ⊗ (q ⊗ # 4194304) ≼ # 534773760 ⊗ (a ⊕ q)) tt
          (size G) (size g) a q
          (≤-times (nonneg _) (factor-both s G g)) (times-nonneg (minus-≤ (pos-≤ hg.size)) (sum_nonneg a-low q-low)) (sym (size-square g))

  -- δw: |b₂| ≤ 2^43 and |b₁| ≤ 2^38, and m is at least 1
  pub pair_size : rounded₂ pair within 2 ^ 44
  unfolding rounded₂
  pair_size = wide (unweighted (2 ^ 43 + 0 + 2 ^ 38) weighted) tt
    where
      mass-low : (pos 1 *ℤ pos 1) ≤ℤ mass
      mass-low = pos-≤ ok.mass-low

      most : size pair.b₂ ≤ℤ pos (2 ^ 43)
      most = let h = ok.mass in let k = b₂-size.size in pos-≤ (le_trans k (omega arith))

      other : size pair.b₁ ≤ℤ (a *ℤ pos 0 +ℤ pos (2 ^ 38))
      other = ≤_trans (pos-≤ (wide b₁-size tt).size) (≤-of-eq (solve 1 (λ a. # 274877906944 ≐ a ⊗ # 0 ⊕ # 274877906944) tt a))

      none : (pos 1 *ℤ (q *ℤ pos 0)) ≤ℤ (pos 0 *ℤ (mass +ℤ q))
      none = ≤-of-eq (solve 2 (λ m q. # 1 ⊗ (q ⊗ # 0) ≐ # 0 ⊗ (m ⊕ q)) tt mass q)

      weighted : (pos 1 *ℤ size (rounded₂ pair)) ≤ℤ (pos (2 ^ 43 + 0 + 2 ^ 38) +ℤ pos 1)
      weighted =
          solution-≤ (nonneg (m s)) a-low q-low (nonneg 1) pair.b₂ pair.b₁ (pos (2 ^ 43)) (pos 0) (pos (2 ^ 38)) (2 ^ 43) 0 (2 ^ 38)
          most other (weighs 1 (nonneg 1) mass-low (2 ^ 43) (2 ^ 43) tt) none (weighs 1 (nonneg 1) mass-low (2 ^ 38) (2 ^ 38) tt)
          (det₂ pair) (det pair) (solve 4 (λ u v a q. (a ⊕ q) ⊗ v ⊖ u ⊗ ⊝ q ≐ (a ⊕ q) ⊗ v ⊕ q ⊗ u) tt pair.b₁ pair.b₂ a q)
          (determinant a mass q ∙ solve 3 (λ a m q. a ⊗ (m ⊕ q) ⊕ q ⊗ m ≐ m ⊗ (a ⊕ q) ⊕ q ⊗ a) tt a mass q) regular
