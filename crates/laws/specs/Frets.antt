-- 02, item 7: one distance meets both conditions, and it is the nearest point's; frets never go back toward the nut, so that a list without a clash increases.
use Rattle.std.specs.Prelude.{◌≡◌, refl, Bool, true, false, not, ◌||◌, ℕ, zero, suc, ◌+◌, ◌-◌, ◌*◌, ◌^◌, ◌≤◌, ◌<◌, T, leb, ltb, eqb}
use Rattle.std.proofs.Common.{⊎_elim, zero-le, eq-or-lt_of_le, le_refl, le_trans, lt_of_lt_of_le, not-le_of_lt, mul-le-mul_right, mul-le-mul_left, mul-one, pow_pos, pow_mono}
use Rattle.std.proofs.Math.Nat.{le_antisymm, pow-le-pow_left, pow-lt-pow_left}
use native.Mathlib.Omega.{arith}
use Rattle.std.proofs.Math.Decide.{dec_lt}
use Rattle.std.proofs.Math.ListN.{length}
use Rattle.std.proofs.Math.Facts.{and_yes, yes_and, or_no, T_not-not, leb_yes, leb_no, yes_leb, ltb_yes, ltb_no, yes_ltb, no_ltb, eqb_no}
use Rattle.integers.specs.Tests.{is_false}
use Rattle.integers.specs.Filled.{tabulate, length-tabulate, get_d_tabulate}
use Rattle.model.specs.Ranges.{between, all, any}
use Rattle.model.specs.Setup as Setups
use Rattle.model.specs.Setup.{points, place_ok, setup_rules}
use Rattle.model.specs.Neck.{increasing, frets_wrong, neck_rules, NeckResult, lay}
use Rattle.model.specs.Gradient.{greatest}
use Rattle.model.specs.Frets.{is_distance, distance, fret_place, fret_places, repeats, fret_rules, FretsResult, frets}
use Rattle.model.specs.declared.Setup.{Setup}
use Rattle.promises.specs.Promises.{Passed}
use Rattle.promises.specs.Frets.{IsDistance, Nearer, IsFret, FretRule, FretLists}
use Rattle.laws.specs.Refusals.{fails, accepted-by, never-answered}
use Rattle.laws.specs.Accepted.{between-yes}
use Rattle.laws.specs.Gradient.{some-passes, beyond, greatest-≤}

-- x^12 · 2^q grows with x
pub grows : (q : ℕ) {x y : ℕ} → x ≤ y → x ^ 12 * 2 ^ q ≤ y ^ 12 * 2 ^ q
grows q h = mul-le-mul_right (2 ^ q) (pow-le-pow_left h 12)

-- ---- one distance

-- a later fret is no farther from the bridge
never_back : (N : ℕ) {p q d e : ℕ} → p ≤ q → IsDistance N p d → IsDistance N q e → e ≤ d
never_back N {p} {q} {d} {e} h f g = go (dec_lt d e)
  where
    go : Dec (d < e) → e ≤ d
    go (yes l) = absurd (not-le_of_lt f.high (le_trans (grows p {x = 2 * d + 1} {y = 2 * e - 1} (omega arith)) (le_trans (mul-le-mul_left ((2 * e - 1) ^ 12) (pow_mono h)) g.low)))
    go (no l) = omega arith

module _ (N q : ℕ) where
  pub distance-unique : (d e : ℕ) → IsDistance N q d → IsDistance N q e → d ≡ e
  distance-unique d e f g = le_antisymm (never_back N (le_refl q) g f) (never_back N (le_refl q) f g)

  pub is-nearer : (d e : ℕ) → IsDistance N q d → Nearer N q d e
  is-nearer d e f = record {
    greater = λ l. le_trans (grows q {x = d + e} {y = 2 * d - 1} (omega arith)) f.low;
    smaller = λ l. lt_of_lt_of_le f.high (grows q {x = 2 * d + 1} {y = d + e} (omega arith));
  }

  -- the definition's test
  passed_is : (d : ℕ) → T (is_distance N q d) → IsDistance N q d
  unfolding is_distance
  passed_is d t = let (low, high) = and_yes (leb ((2 * d - 1) ^ 12 * 2 ^ q) ((2 * N) ^ 12)) (ltb ((2 * N) ^ 12) ((2 * d + 1) ^ 12 * 2 ^ q)) t in record { low = leb_yes low; high = ltb_yes high }

  is-passed : (d : ℕ) → IsDistance N q d → T (is_distance N q d)
  unfolding is_distance
  is-passed d f = yes_and (leb ((2 * d - 1) ^ 12 * 2 ^ q) ((2 * N) ^ 12)) (ltb ((2 * N) ^ 12) ((2 * d + 1) ^ 12 * 2 ^ q)) (yes_leb f.low) (yes_ltb f.high)

-- ---- and there is one, from 1 to N

module _ (N q : ℕ) (h : 2 ≤ N) (k : q ≤ 24) where
  -- 2^q is at most 4^12
  pub one-reaches : (2 * 1 - 1) ^ 12 * 2 ^ q ≤ (2 * N) ^ 12
  one-reaches = le_trans (mul-le-mul_left 1 (pow_mono k)) (pow-le-pow_left {n = 4} {m = 2 * N} (omega arith) 12)

-- 2N + 1 is past it
pub all_past : (N q : ℕ) → (2 * N) ^ 12 < (2 * N + 1) ^ 12 * 2 ^ q
all_past N q = lt_of_lt_of_le (pow-lt-pow_left {a = 2 * N} {b = 2 * N + 1} {n = 12} (omega arith) (λ z. omega (arith, z))) (rw (mul-one ((2 * N + 1) ^ 12)) at (mul-le-mul_left ((2 * N + 1) ^ 12) (pow_pos q)))

module _ (N q : ℕ) (h : 2 ≤ N) (k : q ≤ 24) where
  first : ℕ → Bool
  first d = leb ((2 * d - 1) ^ 12 * 2 ^ q) ((2 * N) ^ 12)

  -- the greatest number that meets the first condition
  last : ℕ
  last = greatest N first

  last_is : IsDistance N q last
  unfolding first last
  last_is = record { low = leb_yes (some-passes first N 1 (omega arith) (yes_leb (one-reaches N q h k))); high = go (dec_lt last N) }
    where
      go : Dec (last < N) → (2 * N) ^ 12 < (2 * last + 1) ^ 12 * 2 ^ q
      go (yes l) =
          let e : 2 * (last + 1) - 1 ≡ 2 * last + 1 = omega arith in
          let past : (2 * N) ^ 12 < (2 * (last + 1) - 1) ^ 12 * 2 ^ q = leb_no (beyond first N (last + 1) (omega arith) (omega arith)) in
          rw e at past
      go (no l) = let e : last ≡ N = le_antisymm (greatest-≤ first N) (omega arith) in rw e (all_past N q)

  pub distance_is : IsDistance N q (distance N q)
  unfolding distance last
  distance_is = passed_is N q _ (some-passes (is_distance N q) N last (greatest-≤ first N) (is-passed N q last last_is))

  pub distance_most : distance N q ≤ N
  unfolding distance
  distance_most = greatest-≤ (is_distance N q) N

  pub distance_least : 1 ≤ distance N q
  distance_least = go (distance N q) distance_is
    where
      go : (d : ℕ) → IsDistance N q d → 1 ≤ d
      go zero f = absurd (not-le_of_lt f.high (one-reaches N q h k))
      go (suc d) f = omega arith

  pub fret_is : IsFret N q (fret_place N q)
  unfolding fret_place
  fret_is = record { distance = distance N q; above = distance_least; place = let l = distance_most in omega arith; rule = distance_is; nearest = λ e. is-nearer N q (distance N q) e distance_is }

pub fret-rule : FretRule
fret-rule = record { placed = λ N q low high first last. fret_is N q low last; one = distance-unique }

-- ---- a list

strict : {i j : ℕ} → i ≤ j → (i ≡ j → ⊥) → i < j
strict l apart = ⊎_elim (λ e. absurd (apart e)) (λ l. l) (eq-or-lt_of_le l)

-- what increases from entry to entry or stays, and never repeats, increases
increases : (n : ℕ) (f : ℕ → ℕ) → ((k : ℕ) → suc k < n → f k ≤ f (suc k)) → T (not (repeats (tabulate n f))) → T (increasing (tabulate n f))
increases zero f h t = tt
increases (suc zero) f h t = tt
increases (suc (suc n)) f h t =
    let (apart, rest) = or_no (eqb (f 0) (f 1)) (repeats (tabulate (suc n) (λ k. f (suc k)))) t in
    yes_and (ltb (f 0) (f 1)) (increasing (tabulate (suc n) (λ k. f (suc k)))) (yes_ltb (strict (h 0 (omega arith)) (eqb_no {a = f 0} {b = f 1} apart))) (increases (suc n) (λ k. f (suc k)) (λ k l. h (suc k) (omega arith)) rest)

-- no entry is 0, and none above P: places of the string
stands : (s : Setup) (n : ℕ) (f : ℕ → ℕ) → ((k : ℕ) → k < n → f k ≤ points s) → T (not (any (eqb 0) (tabulate n f))) → T (all (place_ok s) (tabulate n f))
unfolding place_ok between
stands s zero f h t = tt
stands s (suc n) f h t =
    let (apart, rest) = or_no (eqb 0 (f 0)) (any (eqb 0) (tabulate n (λ k. f (suc k)))) t in
    yes_and (place_ok s (f 0)) (all (place_ok s) (tabulate n (λ k. f (suc k))))
    (yes_and (leb 1 (f 0)) (leb (f 0) (points s)) (yes_leb (strict zero-le (eqb_no {a = 0} {b = f 0} apart))) (yes_leb (h 0 (omega arith)))) (stands s n (λ k. f (suc k)) (λ k l. h (suc k) (omega arith)) rest)

-- none of three
none_of : (a b c : Bool) → T (not a) → T b → T c → T (not (a || not b || not c))
none_of false true true t u v = tt
none_of true b c t u v = absurd t
none_of false false c t u v = absurd u
none_of false true false t u v = absurd v

-- a list that passed the table
module _ (N n long : ℕ) (h : Passed (fret_rules N n long)) where
  segments : (2 ≤ N) × (N ≤ 128)
  unfolding fret_rules
  segments = between-yes 2 N 128 (T_not-not (between 2 N 128) (fails 1 (fret_rules N n long) h))

  few : n ≤ 24
  unfolding fret_rules
  few = ltb_no (fails 18 (fret_rules N n long) h)

  apart : T (not (any (eqb 0) (fret_places N n))) × T (not (repeats (fret_places N n)))
  unfolding fret_rules
  apart = or_no (any (eqb 0) (fret_places N n)) (repeats (fret_places N n)) (fails 19 (fret_rules N n long) h)

  fret : (k : ℕ) → k < n → IsFret N (suc k) (fret_place N (suc k))
  fret k l = let f = few in fret_is N (suc k) segments.0 (omega arith)

  grown : (k : ℕ) → suc k < n → fret_place N (suc k) ≤ fret_place N (suc (suc k))
  grown k l =
      let p = fret k (omega arith) in
      let q = fret (suc k) l in
      let back = never_back N {p = suc k} {q = suc (suc k)} (omega arith) p.rule q.rule in
      let e = p.place in
      let e' = q.place in
      omega arith

  lays : (s : Setup) → Setups.N s ≡ N → T (not (frets_wrong s (fret_places N n)))
  unfolding fret_places
  lays s e = none_of (ltb 24 (length (fret_places N n))) (all (place_ok s) (fret_places N n)) (increasing (fret_places N n))
      (no_ltb {a = 24} {b = length (fret_places N n)} (rw (length-tabulate n (λ k. fret_place N (suc k))) few))
      (stands s n (λ k. fret_place N (suc k)) (λ k l. let f = fret k l in let a = f.above in let p = f.place in omega arith) apart.0)
      (increases n (λ k. fret_place N (suc k)) grown apart.1)

pub fret-lists : FretLists
unfolding frets fret_rules fret_places lay neck_rules setup_rules
fret-lists N n buffer q =
    let (h, made) = accepted-by (λ (r : FretsResult). r.answer) (fret_rules N n (length buffer)) tt _ _ (λ k. refl) tt q in
    rw made record {
      count = length-tabulate n _;
      each = λ k l. rw (get_d_tabulate n (λ k. fret_place N (suc k)) 0 k l) (fret N n (length buffer) h k l);
      lays = lays N n (length buffer) h;
      never-eight = λ s plan heights stiffness e p.
          let right : frets_wrong s plan.frets ≡ false = is_false (frets_wrong s plan.frets) (rw p (lays N n (length buffer) h s e)) in
          never-answered (λ (r : NeckResult). r.answer) (neck_rules s plan heights stiffness) _ _ 7 (λ n. refl) _ refl (rw right tt);
    }
