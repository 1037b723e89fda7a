-- What a step works on. 01, 'One step': two string buffers are lent with a turn number.
use Rattle.std.specs.Prelude.{List, ℕ, zero, suc, ℤ}
use Rattle.model.specs.declared.Finger.{Finger}

-- newer string u, older string v, contact variables ψ; the finger holds w, w' and φ
pub record State : Type 0 where
  pub newer : List ℤ
  pub older : List ℤ
  pub contact : List ℤ
  pub finger : Finger

-- what is passed with every call: the string and contact buffers, which are lent, and with them the turn number and the finger
pub record Lent : Type 0 where
  pub first : List ℤ
  pub second : List ℤ
  pub contact : List ℤ
  pub turn : ℕ
  pub finger : Finger

-- a at turn 0, b at any other number
abbrev pub by_turn {ℓ} : {A : Type ℓ} → ℕ → A → A → A
by_turn zero a b = a
by_turn (suc n) a b = b

-- the newest string: turn 0 means that the first buffer is newer, any other number the second
abbrev pub newest {ℓ} : {A : Type ℓ} → ℕ → A → A → A
newest turn first second = by_turn turn first second

unfoldable pub state_of : Lent → State
state_of v = record {
  newer = newest v.turn v.first v.second;
  older = by_turn v.turn v.second v.first;
  contact = v.contact;
  finger = v.finger;
}

-- an accepted step writes the new string over the older buffer and flips the turn to 1 or 0; the newer buffer is untouched
unfoldable pub put : Lent → State → Lent
put v x = record {
  first = by_turn v.turn v.first x.newer;
  second = by_turn v.turn x.newer v.second;
  contact = x.contact;
  turn = by_turn v.turn 1 0;
  finger = x.finger;
}

-- a laid neck: the height and the stiffness of each point
pub record Neck : Type 0 where
  pub heights : List ℤ
  pub stiffness : List ℕ

-- what one step is given: pluck force and finger force
pub record Forces : Type 0 where
  pub pluck : ℤ
  pub finger : ℤ

-- a number for each point and one for the finger: gradients, moves, residuals, limits
pub record PointsAndFinger : Type 0 where
  pub points : List ℤ
  pub finger : ℤ
