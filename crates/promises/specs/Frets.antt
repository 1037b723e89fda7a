-- 02, item 7: what is promised of fret places and of a list of them. Crate `laws` proves it in its file Frets.
use Rattle.std.specs.Prelude.{◌≡◌, not, List, ℕ, suc, ◌+◌, ◌-◌, ◌*◌, ◌^◌, ◌≤◌, ◌<◌, T, ℤ, length, get_or}
use Rattle.model.specs.Refusal.{accepted, refused}
use Rattle.model.specs.Setup as Setups
use Rattle.model.specs.Neck.{Plan, frets_wrong, lay}
use Rattle.model.specs.Frets.{fret_place, frets}
use Rattle.model.specs.declared.Setup.{Setup}

-- 02's two conditions on the distance d of fret q from the bridge
pub record IsDistance (N q d : ℕ) : Type 0 where
  pub low : (2 * d - 1) ^ 12 * 2 ^ q ≤ (2 * N) ^ 12
  pub high : (2 * N) ^ 12 < (2 * d + 1) ^ 12 * 2 ^ q

-- 000 puts fret q at the distance X from the bridge, X^12 · 2^q = N^12. Of the points at the distances d and e, the one on X's side of their middle, (d + e) / 2, is the
-- nearer to it: X is at the middle or beyond it where d is the greater, so that a tie goes to d, the lower place, and short of it where d is the smaller
pub record Nearer (N q d e : ℕ) : Type 0 where
  pub greater : e < d → (d + e) ^ 12 * 2 ^ q ≤ (2 * N) ^ 12
  pub smaller : d < e → (2 * N) ^ 12 < (d + e) ^ 12 * 2 ^ q

-- i is the place of fret q
pub record IsFret (N q i : ℕ) : Type 0 where
  pub distance : ℕ
  pub above : 1 ≤ distance
  -- so the distance is at most N
  pub place : i + distance ≡ N
  pub rule : IsDistance N q distance
  -- the nearest point, a tie to the lower place
  pub nearest : (e : ℕ) → Nearer N q distance e

pub record FretRule : Type 0 where
  pub placed : (N q : ℕ) → 2 ≤ N → N ≤ 128 → 1 ≤ q → q ≤ 24 → IsFret N q (fret_place N q)
  -- no two numbers meet both conditions, for any N and q
  pub one : (N q d e : ℕ) → IsDistance N q d → IsDistance N q e → d ≡ e

-- a list of the first n frets
pub record IsFretList (N n : ℕ) (places : List ℕ) : Type 0 where
  pub count : length places ≡ n
  pub each : (k : ℕ) → k < n → IsFret N (suc k) (get_or places k 0)
  -- it is a fret list that laying accepts, on every setup with that N: the row 8 does not hold for it, and 8 is never given
  pub lays : (s : Setup) → Setups.N s ≡ N → T (not (frets_wrong s places))
  pub never-eight : (s : Setup) (plan : Plan) (heights : List ℤ) (stiffness : List ℕ) → Setups.N s ≡ N → plan.frets ≡ places → (lay s plan heights stiffness).answer ≡ refused 8 → ⊥

-- of what is accepted
abbrev pub FretLists : Type 0
FretLists = (N n : ℕ) (buffer : List ℕ) → (frets N n buffer).answer ≡ accepted tt → IsFretList N n (frets N n buffer).places
