-- 02, item 6: how large the energies of a state that passed 1 to 6 and 11 are, of a step between two such states, and of a bend: beyond 64 bits, but far within a column.
use Rattle.std.specs.Prelude.{◌≡◌, refl, Bool, true, false, cond, List, ℕ, suc, ◌+◌, ◌*◌, ◌^◌, ◌≤◌, ◌<◌, T, ℤ, pos, ◌+ℤ◌, ◌-ℤ◌, ◌*ℤ◌, length}
use Rattle.std.proofs.Common.{sym, ◌∙◌, zero-le, le_refl, le_of_lt, mul-le-mul, arith}
use Rattle.std.specs.Int.Signed.{le_z}
use Rattle.integers.specs.Sum.{sum-within}
use Rattle.integers.specs.Size.{◌within◌, ◌⟨+⟩◌, ◌⟨-⟩◌, ◌⟨*⟩◌, num, natural, weaken, wide}
use Rattle.model.specs.Ranges.{all, displacement_ok, contact_ok}
use Rattle.model.specs.Setup.{S, Z, points, setup_rules}
use Rattle.model.specs.Differences.{at, minus, D1, dot, E}
use Rattle.model.specs.State.{State, Neck}
use Rattle.model.specs.Step.{depths, let_go, cleared}
use Rattle.model.specs.Energy.{stored_energy, dot_all}
use Rattle.model.specs.declared.Setup.{Setup}
use Rattle.promises.specs.Promises.{Passed}
use Rattle.laws.specs.InRange.{InRange}
use Rattle.laws.specs.Strings.{◌spans◌, at-minus, spans-minus, spans-D1}
use Rattle.laws.specs.Accepted.{SetupFacts, setup-facts, Examined}
use Rattle.laws.specs.Clearing.{at-let_go, spans-cleared}
use Rattle.laws.specs.Sizes.{Bounded, D1-bounded, bounded, inside-within}

-- ---- two strings in range, and a state that passed 1 to 6 and 11 so far as they are on setup and state

pub record Strings (u v : List ℤ) : Type 0 where
  pub same : length u ≡ length v
  pub some : 1 ≤ length u
  pub most : length u ≤ 127
  pub newer : T (all displacement_ok u)
  pub older : T (all displacement_ok v)

pub record Held (s : Setup) (x : State) : Type 0 where
  pub setup : Passed (setup_rules s)
  pub newer-length : length x.newer ≡ points s
  pub older-length : length x.older ≡ points s
  pub contact-length : length x.contact ≡ points s
  pub range : InRange x

-- ---- sums over the points of two strings

-- Σ a·b over the points, at most 127, and Σ of products of rises over the segments, at most 128
pub dot-within : (a b : List ℤ) {k n : ℕ} → length a ≤ 127 → Bounded a k → Bounded b n → dot a b within 127 * (k * n)
unfolding dot
dot-within a b {k} {n} l ha hb = weaken (sum-within (length a) (λ i _. ha (suc i) ⟨*⟩ hb (suc i))) (mul-le-mul l (le_refl (k * n)))

E-within : (a b : List ℤ) {k n : ℕ} → length a ≤ 127 → Bounded a k → Bounded b n → E a b within 128 * ((k + k) * (n + n))
unfolding E
E-within a b {k} {n} l ha hb = weaken (sum-within (suc (length a)) (λ i _. (ha (suc i) ⟨-⟩ ha i) ⟨*⟩ (hb (suc i) ⟨-⟩ hb i))) (mul-le-mul (omega arith) (le_refl ((k + k) * (n + n))))

module _ {u v : List ℤ} (h : Strings u v) where
  pub newer-within : Bounded u 1048576
  unfolding displacement_ok
  newer-within = bounded 1048576 u h.newer

  pub older-within : Bounded v 1048576
  unfolding displacement_ok
  older-within = bounded 1048576 v h.older

  pub spans-newer : u spans length u
  spans-newer = record { long = refl }

  pub spans-older : v spans length u
  spans-older = record { long = sym h.same }

  pub change-within : Bounded (minus u v) 2097152
  change-within i = rw (at-minus spans-newer spans-older i) (newer-within i ⟨-⟩ older-within i)

  few : {a : List ℤ} → a spans length u → length a ≤ 127
  few ha = let e = ha.long in let l = h.most in omega arith

  pub changes-size : let a = minus u v in dot a a within 127 * 2 ^ 42
  changes-size = dot-within (minus u v) (minus u v) (few (spans-minus spans-newer spans-older)) change-within change-within

  pub rises-size : E u v within 2 ^ 49
  rises-size = E-within u v h.most newer-within older-within

  pub bends-size : dot (D1 u) (D1 v) within 127 * 2 ^ 44
  bends-size = dot-within (D1 u) (D1 v) (few (spans-D1 spans-newer)) (D1-bounded u newer-within) (D1-bounded v older-within)

  pub change-rises-size : let a = minus u v in E a a within 2 ^ 51
  change-rises-size = E-within (minus u v) (minus u v) (few (spans-minus spans-newer spans-older)) change-within change-within

pub contacts-size : (ψ : List ℤ) → length ψ ≤ 127 → T (all contact_ok ψ) → dot ψ ψ within 127 * 2 ^ 52
unfolding contact_ok
contacts-size ψ l h = dot-within ψ ψ l (bounded 67108864 ψ h) (bounded 67108864 ψ h)

-- ---- a state

module _ {s : Setup} {x : State} (h : Held s x) where
  facts : SetupFacts s
  facts = setup-facts s h.setup

  few-points : (a : List ℤ) → length a ≡ points s → length a ≤ 127
  few-points a q = let f = facts in let l = f.segments in omega arith

  pub few-contacts : length x.contact ≤ 127
  few-contacts = few-points x.contact h.contact-length

  pub strings : Strings x.newer x.older
  strings = record { same = h.newer-length ∙ sym h.older-length; some = let f = facts in let l = f.segments-low in let e = h.newer-length in omega arith; most = few-points x.newer h.newer-length; newer = h.range.newer; older = h.range.older }

  pub height-within : x.finger.newer within 1048576
  unfolding displacement_ok
  height-within = inside-within 1048576 x.finger.newer h.range.height

  pub older-height-within : x.finger.older within 1048576
  unfolding displacement_ok
  older-height-within = inside-within 1048576 x.finger.older h.range.older-height

  pub finger-within : x.finger.contact within 67108864
  unfolding contact_ok
  finger-within = inside-within 67108864 x.finger.contact h.range.finger

  -- every stored energy is within 2^65
  pub energy-size : stored_energy s x within 2 ^ 65
  unfolding stored_energy
  energy-size =
      let f = facts in
      let z = strings in
      let w = height-within ⟨-⟩ older-height-within in
      wide (num 8192 ⟨*⟩ changes-size z ⟨+⟩ num 2 ⟨*⟩ natural f.tension ⟨*⟩ rises-size z ⟨+⟩ num 2 ⟨*⟩ natural f.stiffness ⟨*⟩ bends-size z ⟨-⟩ natural f.viscous ⟨*⟩ change-rises-size z
      ⟨+⟩ num 2 ⟨*⟩ contacts-size x.contact few-contacts h.range.contact ⟨+⟩ num 2 ⟨*⟩ natural f.mass ⟨*⟩ (w ⟨*⟩ w) ⟨+⟩ num 2 ⟨*⟩ (finger-within ⟨*⟩ finger-within)) tt

-- ---- what a step adds

-- the loss of the moves from the string v to the string u
unfoldable pub moving_loss : Setup → List ℤ → ℤ
moving_loss s δ = pos 2 *ℤ pos (Z s) *ℤ dot δ δ +ℤ pos (S s) *ℤ E δ δ

pub moving-size : {s : Setup} {u v : List ℤ} → SetupFacts s → Strings u v → moving_loss s (minus u v) within 2 ^ 63
unfolding moving_loss
moving-size f z = wide (num 2 ⟨*⟩ natural f.plain ⟨*⟩ changes-size z ⟨+⟩ natural f.viscous ⟨*⟩ change-rises-size z) tt

-- what is let go of a contact variable is no larger
pub let_go-within : (d ψ : ℤ) {n : ℕ} → ψ within n → let_go d ψ within n
unfolding let_go
let_go-within d ψ {n} h = go (le_z d (pos 0))
  where
    go : (b : Bool) → cond b ψ (pos 0) within n
    go true = h
    go false = weaken (num 0) zero-le

pub released-size : {s : Setup} {neck : Neck} {x : State} → Examined s neck x → Held s x → (pos 2 *ℤ dot_all (cleared s neck x) (cleared s neck x)) within 2 ^ 60
unfolding dot_all cleared contact_ok
released-size {s} {neck} {x} q h =
    let d = depths s neck x in
    let ψ : Bounded (cleared s neck x).points 67108864 = λ i. rw (at-let_go q i) (let_go-within (at d.points i) (at x.contact i) (bounded 67108864 x.contact h.range.contact i)) in
    let φ = let_go-within d.finger x.finger.contact (finger-within h) in
    wide (num 2 ⟨*⟩ (dot-within ((cleared s neck x).points) ((cleared s neck x).points) (few-points h (cleared s neck x).points (spans-cleared q).long) ψ ψ ⟨+⟩ φ ⟨*⟩ φ)) tt

-- the work of forces, where the pluck place and the finger move by these
pub work-within : {f g δ δw : ℤ} → f within 1073741824 → g within 1073741824 → δ within 2097152 → δw within 2097152 → (pos 2 *ℤ f *ℤ δ +ℤ pos 2 *ℤ g *ℤ δw) within 2 ^ 53
work-within f g δ δw = num 2 ⟨*⟩ f ⟨*⟩ δ ⟨+⟩ num 2 ⟨*⟩ g ⟨*⟩ δw

-- ---- a bend, from any tension of 32 bits to any

pub bend-size : {u v : List ℤ} → Strings u v → {l l' : ℕ} → l < 2 ^ 32 → l' < 2 ^ 32 → (pos 2 *ℤ (pos l' -ℤ pos l) *ℤ E u v) within 2 ^ 84
bend-size z a b = wide (num 2 ⟨*⟩ (natural (le_of_lt b) ⟨-⟩ natural (le_of_lt a)) ⟨*⟩ rises-size z) tt
