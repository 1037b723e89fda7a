-- The gradients of the pressed points, put in over zeros, are those of all points.
use Rattle.std.specs.Prelude.{◌≡◌, refl, Bool, true, false, ◌⊎◌, ℕ, zero, suc, ◌+◌, ◌≤◌, ◌<◌, T, eqb, ℤ, pos, negsuc, nat_abs, length, get_or, set, take, replicate, ◌≤ℤ◌}
use Rattle.std.proofs.Common.{sym, ◌∙◌, ap, subst, inl, inr, ⊎_elim, le_of_suc-le-suc, not-suc-le-zero, arith, below_more, length-set, ext_get_or, get_or-set_same, get_or-set_other}
use mathlib.Core.List.{List, [], ◌∷◌, zip_with}
use Rattle.std.proofs.lemmas.List.{length-replicate}
use Rattle.std.specs.Int.Signed.{le_z, le_z_yes}
use Rattle.std.proofs.Math.Facts.{eqb_yes, eqb_no}
use Rattle.integers.specs.Filled.{Filled, Begun, length-tabulate, get_d_tabulate, get_d_replicate}
use Rattle.integers.specs.Order.{<-or-≤}
use Rattle.model.specs.Differences.{minus}
use Rattle.model.specs.Gradient.{root, gradient}
use Rattle.model.specs.Ranges.{all}
use Rattle.laws.specs.Gradient.{gradient_is, gradient-nonneg}
use Rattle.laws.specs.LastMoves.{depth-above, depth_below}
use Rattle.laws.specs.Refusals.{all-entry}
use Rattle.laws.specs.Strings.{length-zip}
use Rattle.contact.specs.Contacts.{gradients_at, gradients_in}
use Rattle.contact.specs.Pressed.{Listed, AllPressed, front-long, front-entry, depth_at, depths-span, depth-at, number_at, gradient_at, gradient-pressed}

-- what is not negative is its size
size-nonneg : (g : ℤ) → pos 0 ≤ℤ g → pos (nat_abs g) ≡ g
size-nonneg (pos n) h = refl
size-nonneg (negsuc n) h = absurd h.le

-- the entries of gradients made from two lists
entry-gradient : (ks : List ℕ) (ds : List ℤ) (i : ℕ) → i < length ks → i < length ds → get_or (zip_with gradient ks ds) i (pos 0) ≡ gradient (get_or ks i 0) (get_or ds i (pos 0))
unfolding zip_with
entry-gradient [] ds i h l = absurd (not-suc-le-zero h)
entry-gradient (k ∷ ks) [] i h l = absurd (not-suc-le-zero l)
entry-gradient (k ∷ ks) (d ∷ ds) zero h l = refl
entry-gradient (k ∷ ks) (d ∷ ds) (suc i) h l = entry-gradient ks ds i (le_of_suc-le-suc h) (le_of_suc-le-suc l)

-- over a neck of heights h and stiffnesses k, a string u
module _ (k : List ℕ) (h u : List ℤ) where
  -- the first m listed points have their gradient, and every point has it or 0
  pub record PutIn (list : List ℕ) (m : ℕ) (gs : List ℕ) : Type 0 where
    pub long : length gs ≡ 127
    pub put : (j : ℕ) → j < m → get_or gs (get_or list j 0) 0 ≡ gradient_at k h u (get_or list j 0)
    pub either : (i : ℕ) → (get_or gs i 0 ≡ 0) ⊎ (get_or gs i 0 ≡ gradient_at k h u i)

  pub put-none : {list : List ℕ} → PutIn list 0 (replicate 127 0)
  put-none = record { long = length-replicate {A = ℕ} 127 0; put = λ j l. absurd (not-suc-le-zero l); either = λ i. inl (get_d_replicate 127 0 i) }

  pub put-more : {list : List ℕ} {m : ℕ} {gs : List ℕ} {v : ℕ} → PutIn list m gs → get_or list m 0 < 127 → v ≡ gradient_at k h u (get_or list m 0) → PutIn list (m + 1) (set gs (get_or list m 0) v)
  put-more {list} {m} {gs} {v} p b e = record {
    long = length-set gs (get_or list m 0) v ∙ p.long;
    put = below_more (λ j. get_or new (get_or list j 0) 0 ≡ gradient_at k h u (get_or list j 0)) m
        (λ j l. changed (λ i x. x ≡ gradient_at k h u i) (get_or list j 0) here (p.put j l)) here;
    either = λ i. changed (λ i x. (x ≡ 0) ⊎ (x ≡ gradient_at k h u i)) i (inr here) (p.either i);
  }
    where
      new : List ℕ
      new = set gs (get_or list m 0) v

      here : get_or new (get_or list m 0) 0 ≡ gradient_at k h u (get_or list m 0)
      here = get_or-set_same gs (get_or list m 0) v 0 (let l = p.long in omega arith) ∙ e

      -- what holds where it is put in and held before at i holds at i now
      changed : (P : ℕ → ℕ → Type 0) (i : ℕ) → P (get_or list m 0) (get_or new (get_or list m 0) 0) → P i (get_or gs i 0) → P i (get_or new i 0)
      changed P i x y = go (eqb i (get_or list m 0)) refl
        where
          go : (t : Bool) → eqb i (get_or list m 0) ≡ t → P i (get_or new i 0)
          go true q = subst (λ (i : ℕ). P i (get_or new i 0)) (sym (eqb_yes {a = i} {b = get_or list m 0} (rw q tt))) x
          go false q = subst (P i) (sym (get_or-set_other gs (get_or list m 0) i v 0 (eqb_no {a = i} {b = get_or list m 0} (rw q tt)))) y

  -- a listed point's root is its gradient
  pub root-listed : {n : ℕ} {list : List ℕ} {count : ℕ} → Listed h u n list count → (j : ℕ) → j < count → root (number_at k h u (get_or list j 0)) ≡ gradient_at k h u (get_or list j 0)
  root-listed l j b = sym (ap nat_abs (gradient-pressed _ _ (depth-above (l.pressed j b))))

  -- the root of its number, where the list is one of its own
  pub root-put : {list : List ℕ} {count : ℕ} {numbers roots : List ℕ} → AllPressed h u list → length list ≡ count → Begun 0 128 (λ j. number_at k h u (get_or list j 0)) (length list) numbers
      → Filled 0 128 (λ j. root (get_or numbers j 0)) count roots → (j : ℕ) → j < length list → get_or roots j 0 ≡ gradient_at k h u (get_or list j 0)
  root-put l e numbers roots j b = roots.each j (rw (← e) b) ∙ ap root (numbers.filled.each j b) ∙ sym (ap nat_abs (gradient-pressed _ _ (depth-above (l.pressed j b))))

  pub put-front : {n : ℕ} {list : List ℕ} {count : ℕ} {gs : List ℕ} → Listed h u n list count → n ≤ 127 → PutIn (take count list) (length (take count list)) gs → PutIn list count gs
  put-front {list} {count} {gs} l most p = record {
    long = p.long;
    put = λ j b. subst (λ (i : ℕ). get_or gs i 0 ≡ gradient_at k h u i) (front-entry l most j b) (p.put j (rw (front-long l most) b));
    either = p.either;
  }

  module _ (heights : length h ≡ length u) (stiffness : length k ≡ length u) where
    depths-long : length (minus h u) ≡ length u
    depths-long = (depths-span h u heights).long

    -- an array that holds the gradient of each point
    module _ (gs : List ℕ) (each : (i : ℕ) → i < length u → pos (get_or gs i 0) ≡ gradient (get_or k i 0) (depth_at h u i)) where
      gradients-are : gradients_in (length u) gs ≡ gradients_at k h u
      gradients-are = ext_get_or (pos 0) (gradients_in (length u) gs) (gradients_at k h u)
          (length-tabulate (length u) (λ i. pos (get_or gs i 0)) ∙ sym (length-zip gradient k (minus h u) (stiffness ∙ sym depths-long) ∙ stiffness))
          (λ i l. let b : i < length u = rw (length-tabulate (length u) (λ i. pos (get_or gs i 0))) at l in
          get_d_tabulate (length u) (λ i. pos (get_or gs i 0)) (pos 0) i b ∙ each i b
          ∙ sym (entry-gradient k (minus h u) i (omega arith) (let s = depths-long in omega arith) ∙ ap (gradient (get_or k i 0)) (depth-at h u heights i)))

    -- where no point is pressed they are all 0
    pub none-put : T (all (λ d. le_z d (pos 0)) (minus h u)) → gradients_in (length u) (replicate 127 0) ≡ gradients_at k h u
    none-put t = gradients-are (replicate 127 0) (λ i l. ap pos (get_d_replicate 127 0 i) ∙ sym ((gradient_is _ _).free (le_z_yes (subst (λ d. T (le_z d (pos 0))) (depth-at h u heights i) (all-entry (λ d. le_z d (pos 0)) (minus h u) (pos 0) t i (let s = depths-long in omega arith))))))

    -- after the last listed point
    pub all-put : {list : List ℕ} {count : ℕ} {gs : List ℕ} → Listed h u (length u) list count → PutIn list count gs → gradients_in (length u) gs ≡ gradients_at k h u
    all-put {list} {count} {gs} l p = gradients-are gs each
      where
        own : (i : ℕ) → get_or gs i 0 ≡ gradient_at k h u i → pos (get_or gs i 0) ≡ gradient (get_or k i 0) (depth_at h u i)
        own i e = ap pos e ∙ size-nonneg _ (gradient-nonneg _ _)

        each : (i : ℕ) → i < length u → pos (get_or gs i 0) ≡ gradient (get_or k i 0) (depth_at h u i)
        each i b = ⊎_elim
            (λ pressed. let (j, (s, e)) = l.every i b pressed in own i (subst (λ (i : ℕ). get_or gs i 0 ≡ gradient_at k h u i) e (p.put j s)))
            (λ free. ⊎_elim (λ z. ap pos z ∙ sym ((gradient_is _ _).free (depth_below free))) (own i) (p.either i))
            (<-or-≤ (get_or u i (pos 0)) (get_or h i (pos 0)))
