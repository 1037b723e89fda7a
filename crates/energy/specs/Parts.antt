-- The parts of an energy as the code adds them up, with their sizes: none is beyond 2^62, and the sums are of two words.
use Rattle.std.specs.Prelude.{◌≡◌, refl, List, [], ◌∷◌, ℕ, ◌*◌, ◌^◌, ℤ, ◌+ℤ◌, ◌-ℤ◌, ◌*ℤ◌}
use Rattle.std.proofs.Math.IntN.{pos}
use Rattle.integers.specs.Solve.{◌⊕◌, ◌⊖◌, #◌, ◌≐◌, solve}
use Rattle.integers.specs.Size.{◌within◌, ◌⟨+⟩◌, ◌⟨-⟩◌, ◌⟨*⟩◌, num, natural, wide}
use Rattle.integers.specs.Machine.{Within, ∅, ◌▹◌}
use Rattle.model.specs.Setup.{L, M, S, m, p}
use Rattle.model.specs.Differences.{at, minus, D1, dot, E}
use Rattle.model.specs.State.{State, Neck}
use Rattle.model.specs.Step.{let_go, cleared}
use Rattle.model.specs.Energy.{stored_energy, dot_all}
use Rattle.model.specs.declared.Setup.{Setup}
use Rattle.model.specs.declared.Finger.{Finger}
use Rattle.laws.specs.Accepted.{SetupFacts, setup-facts}
use Rattle.laws.specs.EnergySizes.{Held, strings, few-contacts, changes-size, rises-size, bends-size, change-rises-size, contacts-size, height-within, older-height-within, finger-within}
use Rattle.energy_sums.specs.Contacts.{cleared_contacts}

-- ---- a stored energy

-- the string's part, by Σa², E(u, v), Σ D1u·D1v and E(a, a)
abbrev pub string_part : Setup → (change tension stiffness viscous : ℤ) → ℤ
string_part s change tension stiffness viscous = pos 8192 *ℤ change +ℤ pos 2 *ℤ pos (L s) *ℤ tension +ℤ pos 2 *ℤ pos (M s) *ℤ stiffness +ℤ (pos 0 -ℤ pos (S s) *ℤ viscous)

abbrev pub string_sizes : List ℕ
string_sizes = 127 * 2 ^ 42 ∷ 2 ^ 49 ∷ 127 * 2 ^ 44 ∷ 2 ^ 51 ∷ []

-- that of the contact variables and of the finger, by Σψ²
abbrev pub rest_part : ℕ → ℤ → Finger → ℤ
rest_part m ψψ f = pos 2 *ℤ ψψ +ℤ pos 2 *ℤ pos m *ℤ ((f.newer -ℤ f.older) *ℤ (f.newer -ℤ f.older)) +ℤ pos 2 *ℤ (f.contact *ℤ f.contact)

abbrev pub rest_sizes : List ℕ
rest_sizes = 1048576 ∷ 127 * 2 ^ 52 ∷ 1048576 ∷ 1048576 ∷ 67108864 ∷ []

module _ {s : Setup} {x : State} (h : Held s x) where
  abbrev a : List ℤ
  a = minus x.newer x.older

  abbrev pub string : ℤ
  string = string_part s (dot a a) (E x.newer x.older) (dot (D1 x.newer) (D1 x.older)) (E a a)

  abbrev pub rest : ℤ
  rest = rest_part (m s) (dot x.contact x.contact) x.finger

  pub energy-parts : string +ℤ rest ≡ stored_energy s x
  unfolding stored_energy
  energy-parts =
      let w = x.finger.newer -ℤ x.finger.older in
      solve 5 (λ e v a b c. e ⊕ (# 0 ⊖ v) ⊕ (a ⊕ b ⊕ c) ≐ e ⊖ v ⊕ a ⊕ b ⊕ c) tt
      (pos 8192 *ℤ dot a a +ℤ pos 2 *ℤ pos (L s) *ℤ E x.newer x.older +ℤ pos 2 *ℤ pos (M s) *ℤ dot (D1 x.newer) (D1 x.older)) (pos (S s) *ℤ E a a)
      (pos 2 *ℤ dot x.contact x.contact) (pos 2 *ℤ pos (m s) *ℤ (w *ℤ w)) (pos 2 *ℤ (x.finger.contact *ℤ x.finger.contact))

  facts : SetupFacts s
  facts = setup-facts s h.setup

  pub string-within : Within (dot a a ∷ E x.newer x.older ∷ dot (D1 x.newer) (D1 x.older) ∷ E a a ∷ []) string_sizes
  string-within = let z = strings h in changes-size z ▹ rises-size z ▹ bends-size z ▹ change-rises-size z ▹ ∅

  pub string-size : string within 2 ^ 64
  string-size =
      let f = facts in
      let z = strings h in
      wide (num 8192 ⟨*⟩ changes-size z ⟨+⟩ num 2 ⟨*⟩ natural f.tension ⟨*⟩ rises-size z ⟨+⟩ num 2 ⟨*⟩ natural f.stiffness ⟨*⟩ bends-size z ⟨+⟩ (num 0 ⟨-⟩ natural f.viscous ⟨*⟩ change-rises-size z)) tt

  pub rest-within : Within (pos (m s) ∷ dot x.contact x.contact ∷ x.finger.newer ∷ x.finger.older ∷ x.finger.contact ∷ []) rest_sizes
  rest-within = natural facts.mass ▹ contacts-size x.contact (few-contacts h) h.range.contact ▹ height-within h ▹ older-height-within h ▹ finger-within h ▹ ∅

  pub rest-size : rest within 2 ^ 64
  rest-size =
      let w = height-within h ⟨-⟩ older-height-within h in
      let φ = finger-within h in
      wide (num 2 ⟨*⟩ contacts-size x.contact (few-contacts h) h.range.contact ⟨+⟩ num 2 ⟨*⟩ natural facts.mass ⟨*⟩ (w ⟨*⟩ w) ⟨+⟩ num 2 ⟨*⟩ (φ ⟨*⟩ φ)) tt

-- ---- what is let go before a step

abbrev pub finger_cleared : Setup → List ℤ → Finger → ℤ
finger_cleared s newer finger = let_go (at newer (p s) -ℤ finger.newer) finger.contact

unfoldable pub released_energy : Setup → (heights newer contact : List ℤ) → Finger → ℤ
released_energy s heights newer contact finger =
    let ψ = cleared_contacts heights newer contact in
    let φ = finger_cleared s newer finger in
    pos 2 *ℤ (dot ψ ψ +ℤ φ *ℤ φ)

pub released_is : (s : Setup) (neck : Neck) (x : State) → released_energy s neck.heights x.newer x.contact x.finger ≡ pos 2 *ℤ dot_all (cleared s neck x) (cleared s neck x)
unfolding released_energy cleared_contacts dot_all cleared
released_is s neck x = refl
