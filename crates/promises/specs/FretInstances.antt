-- Closed instances of item 7's claims, by computation alone, at ties, where another claim is false.
use Rattle.std.specs.Prelude.{◌≡◌, refl, false, [], ◌∷◌, ℕ, ◌+◌, ◌*◌, ◌^◌, ◌≤◌, ◌<◌}
use Rattle.std.proofs.Common.{lt_of_lt_of_le, mul-le-mul_right, arith, lit≤, lit<}
use Rattle.std.proofs.Math.Nat.{pow-le-pow_left}
use Rattle.model.specs.Ranges.{between}
use Rattle.model.specs.Refusal.{◌when◌}
use Rattle.model.specs.Gradient.{greatest}
use Rattle.model.specs.Frets.{is_distance, distance, fret_place, fret_places, fret_rules, frets}
use Rattle.promises.specs.Promises.{Refuses, Leaves}
use Rattle.promises.specs.Frets.{IsDistance, Nearer, IsFret}

-- 90 segments, fret 24: 22 1/2 segments from the bridge
tie_is : IsDistance 90 24 23
tie_is = record { low = lit≤ tt; high = lit< tt }

tie-nearer : Nearer 90 24 23 22 × Nearer 90 24 23 24
tie-nearer = (record { greater = λ h. lit≤ tt; smaller = λ h. absurd (omega arith) }, record { greater = λ h. absurd (omega arith); smaller = λ h. lit< tt })

-- fret 1, 84.95 segments from the bridge, beside the points around it
first-nearer : Nearer 90 1 85 84 × Nearer 90 1 85 86
first-nearer = (record { greater = λ h. lit≤ tt; smaller = λ h. absurd (omega arith) }, record { greater = λ h. absurd (omega arith); smaller = λ h. lit< tt })

-- 2 segments, fret 24: half a segment from the bridge, and so at place 1 and not at the bridge
two-segments : IsFret 2 24 1
two-segments = record { distance = 1; above = lit≤ tt; place = refl; rule = record { low = lit≤ tt; high = lit< tt }; nearest = λ e. record { greater = greater e; smaller = smaller e } }
  where
    greater : (e : ℕ) → e < 1 → (1 + e) ^ 12 * 2 ^ 24 ≤ (2 * 2) ^ 12
    greater e h = let z : e ≡ 0 = omega arith in rw z (lit≤ tt)

    smaller : (e : ℕ) → 1 < e → (2 * 2) ^ 12 < (1 + e) ^ 12 * 2 ^ 24
    smaller e h = lt_of_lt_of_le (lit< {m = 4 ^ 12} {n = 3 ^ 12 * 2 ^ 24} tt) (mul-le-mul_right (2 ^ 24) (pow-le-pow_left {n = 3} {m = 1 + e} (omega arith) 12))

-- fret 1 of 8 segments falls on place 0, and the buffer is left
clash-refused : let r = frets 8 1 (7 ∷ []) in Refuses (fret_rules 8 1 1) r.answer × Leaves r.answer (7 ∷ []) r.places
unfolding frets fret_rules fret_places fret_place distance is_distance greatest between
clash-refused = ((lit≤ tt, (1 when false ∷ 18 when false ∷ 6 when false ∷ [], ([], (refl, (tt, (tt, (tt, tt))))))), refl)
