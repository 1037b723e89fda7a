-- The pressed points, as a list of their indices, and the numbers and gradients of points by index.
use Rattle.std.specs.Prelude.{◌≡◌, refl, List, ℕ, suc, ◌+◌, ◌≤◌, ◌<◌, ℤ, pos, ◌-ℤ◌, nat_abs, length, get_or, set, take, ◌≤ℤ◌, ◌<ℤ◌}
use Rattle.std.proofs.Common.{sym, ◌∙◌, subst, ⊎_elim, zero-le, not-suc-le-zero, arith, below_more, length-set, length-take-le, get_or-take, get_or-set_same, get_or-set_other}
use Rattle.std.specs.Int.Signed.{le_z, clash_ℤ}
use Rattle.integers.specs.Order.{<-or-≤}
use Rattle.integers.specs.Tests.{le-le_z, lt-le_z}
use Rattle.model.specs.Differences.{minus}
use Rattle.model.specs.Gradient.{root, gradient}
use Rattle.laws.specs.LastMoves.{depth-above, depth_below}
use Rattle.laws.specs.Strings.{◌spans◌, at-minus, spans-minus}
use Rattle.contact.specs.Contacts.{root_number}

-- the depth of the string u at the point of this index, as the list of depths has it
abbrev pub depth_at : (h u : List ℤ) → ℕ → ℤ
depth_at h u i = get_or h i (pos 0) -ℤ get_or u i (pos 0)

module _ (h u : List ℤ) (e : length h ≡ length u) where
  pub depths-span : minus h u spans length u
  depths-span = spans-minus (record { long = e }) (record { long = refl })

  pub depth-at : (i : ℕ) → get_or (minus h u) i (pos 0) ≡ depth_at h u i
  depth-at i = at-minus (record { long = e }) (record { long = refl }) (suc i)

-- the string u lies below the height h of the neck at the point of this index
abbrev pub Pressed : (h u : List ℤ) → ℕ → Type 0
Pressed h u i = get_or u i (pos 0) <ℤ get_or h i (pos 0)

-- which the depth tells as well
pub depth-test : (h u : ℤ) → le_z h u ≡ le_z (h -ℤ u) (pos 0)
depth-test h u = ⊎_elim
    (λ l. lt-le_z h u l ∙ sym (lt-le_z (h -ℤ u) (pos 0) (depth-above l)))
    (λ l. le-le_z h u l ∙ sym (le-le_z (h -ℤ u) (pos 0) (depth_below l)))
    (<-or-≤ u h)

-- ---- the list

-- the first `count` entries are pressed points of the first n, and each of these is among them
pub record Listed (h u : List ℤ) (n : ℕ) (list : List ℕ) (count : ℕ) : Type 0 where
  pub long : length list ≡ 128
  pub few : count ≤ n
  pub below : (j : ℕ) → j < count → get_or list j 0 < n
  pub pressed : (j : ℕ) → j < count → Pressed h u (get_or list j 0)
  pub every : (i : ℕ) → i < n → Pressed h u i → (j : ℕ) × ((j < count) × (get_or list j 0 ≡ i))

-- each entry is a pressed point of u
pub record AllPressed (h u : List ℤ) (list : List ℕ) : Type 0 where
  pub below : (j : ℕ) → j < length list → get_or list j 0 < length u
  pub pressed : (j : ℕ) → j < length list → Pressed h u (get_or list j 0)

module _ {h u : List ℤ} where
  -- the listed points, as a list of their own
  module _ {n : ℕ} {list : List ℕ} {count : ℕ} (l : Listed h u n list count) (most : n ≤ 127) where
    pub front-long : length (take count list) ≡ count
    front-long = length-take-le count list (let e = l.long in let f = l.few in omega arith)

    pub front-entry : (j : ℕ) → j < count → get_or (take count list) j 0 ≡ get_or list j 0
    front-entry j b = get_or-take count list j 0 b

  pub front-pressed : {list : List ℕ} {count : ℕ} → Listed h u (length u) list count → length u ≤ 127 → AllPressed h u (take count list)
  front-pressed {list} {count} l most = record {
    below = λ j b. let k : j < count = rw (front-long l most) at b in rw (front-entry l most j k) (l.below j k);
    pressed = λ j b. let k : j < count = rw (front-long l most) at b in rw (front-entry l most j k) (l.pressed j k);
  }

  pub listed-none : {list : List ℕ} → length list ≡ 128 → Listed h u 0 list 0
  listed-none e = record { long = e; few = zero-le; below = λ j l. absurd (not-suc-le-zero l); pressed = λ j l. absurd (not-suc-le-zero l); every = λ i l. absurd (not-suc-le-zero l) }

  -- point i is written behind those that are listed
  module _ {i count : ℕ} {list : List ℕ} (l : Listed h u i list count) (b : i < 128) where
    abbrev new : List ℕ
    new = set list count i

    long : length new ≡ 128
    long = length-set list count i ∙ l.long

    before : (j : ℕ) → j < count → get_or new j 0 ≡ get_or list j 0
    before j k = get_or-set_other list count j i 0 (omega arith)

    below-before : (j : ℕ) → j < count → get_or new j 0 < i + 1
    below-before j k = subst (λ (m : ℕ). m < i + 1) (sym (before j k)) (let s = l.below j k in omega arith)

    pressed-before : (j : ℕ) → j < count → Pressed h u (get_or new j 0)
    pressed-before j k = subst (Pressed h u) (sym (before j k)) (l.pressed j k)

    here : get_or new count 0 ≡ i
    here = get_or-set_same list count i 0 (let f = l.few in let e = l.long in omega arith)

    -- where it is pressed it stays
    pub listed_more : Pressed h u i → Listed h u (i + 1) new (count + 1)
    listed_more p = record {
      long = long;
      few = let f = l.few in omega arith;
      below = below_more (λ j. get_or new j 0 < i + 1) count below-before (subst (λ (m : ℕ). m < i + 1) (sym here) (omega arith));
      pressed = below_more (λ j. Pressed h u (get_or new j 0)) count pressed-before (subst (Pressed h u) (sym here) p);
      every = below_more (λ m. Pressed h u m → (j : ℕ) × ((j < count + 1) × (get_or new j 0 ≡ m))) i
          (λ m k q. let (j, (s, e)) = l.every m k q in (j, (omega arith, before j s ∙ e)))
          (λ q. (count, (omega arith, here)));
    }

    -- where it is not the next one is written over it
    pub listed_same : get_or h i (pos 0) ≤ℤ get_or u i (pos 0) → Listed h u (i + 1) new count
    listed_same q = record {
      long = long;
      few = let f = l.few in omega arith;
      below = below-before;
      pressed = pressed-before;
      every = below_more (λ m. Pressed h u m → (j : ℕ) × ((j < count) × (get_or new j 0 ≡ m))) i
          (λ m k p. let (j, (s, e)) = l.every m k p in (j, (s, before j s ∙ e)))
          (λ p. clash_ℤ p q);
    }

-- ---- over stiffnesses k, the number q of the point of this index, and its gradient

abbrev pub number_at : (k : List ℕ) (h u : List ℤ) → ℕ → ℕ
number_at k h u i = root_number (get_or k i 0) (depth_at h u i)

abbrev pub gradient_at : (k : List ℕ) (h u : List ℤ) → ℕ → ℕ
gradient_at k h u i = nat_abs (gradient (get_or k i 0) (depth_at h u i))

-- at a depth above 0 the gradient is the root of the number
pub gradient-pressed : (k : ℕ) (d : ℤ) → pos 0 <ℤ d → gradient k d ≡ pos (root (root_number k d))
unfolding gradient
gradient-pressed k d h = rw (lt-le_z d (pos 0) h)
