-- 01, 'Checked by hand': the bench voice, for the tables of worked examples.
use Rattle.std.specs.Prelude.{[], ◌∷◌, ℕ, ℤ, pos}
use Rattle.model.specs.State.{Lent, Forces, Neck}
use Rattle.model.specs.declared.Setup.{Setup}
use Rattle.model.specs.declared.Finger.{Finger}

-- with these L, M, S, Z and K; N = 2, m = 4096, all places 1
abbrev pub bench_setup : (L M S Z K : ℕ) → Setup
bench_setup L M S Z K = record {
  segments = 2;
  tension = L;
  stiffness = M;
  viscous = S;
  plain = Z;
  finger = record { place = 1; stiffness = K; mass = 4096 };
  pluck_place = 1;
  bridge_place = 1;
  neck_place = 1;
}

abbrev pub bench : Setup
bench = bench_setup 4096 0 0 0 0

-- height 0 and this stiffness
abbrev pub flat_neck : ℕ → Neck
flat_neck k = record { heights = pos 0 ∷ []; stiffness = k ∷ [] }

abbrev pub finger : (w w' φ : ℤ) → Finger
finger w w' φ = record { newer = w; older = w'; contact = φ }

-- resting at 0
abbrev pub resting_finger : Finger
resting_finger = finger (pos 0) (pos 0) (pos 0)

-- one point: first and second string, contact variable, turn, finger
abbrev pub one_point : (first second ψ : ℤ) → ℕ → Finger → Lent
one_point a b ψ turn f = record { first = a ∷ []; second = b ∷ []; contact = ψ ∷ []; turn = turn; finger = f }

abbrev pub forces : (pluck finger : ℤ) → Forces
forces f g = record { pluck = f; finger = g }
