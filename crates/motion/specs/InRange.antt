-- What strings, contact variables, gradients and forces in range give the code: their lengths and sizes, and that each number is read back from its bits as
-- itself.
use Rattle.std.specs.Prelude.{◌≡◌, Bool, true, false, cond, List, ℕ, suc, ◌-◌, ◌≤◌, ◌<◌, T, eqb, ℤ, pos, ◌≤ℤ◌, get_or}
use Rattle.std.proofs.Math.Path.{refl, sym}
use Rattle.std.proofs.Common.{◌∙◌, subst, arith, lit<, to_z, of_z}
use Rattle.std.specs.Int.{w32}
use Rattle.integers.specs.Bits.{back}
use Rattle.integers.specs.Filled.{get_d_tabulate}
use Rattle.integers.specs.Order.{nonneg}
use Rattle.integers.specs.Size.{◌within◌}
use Rattle.model.specs.Ranges.{all, inside, displacement_ok, contact_ok, force_ok}
use Rattle.model.specs.Setup.{e, p, points}
use Rattle.model.specs.Differences.{at, minus}
use Rattle.model.specs.Step.{kept}
use Rattle.model.specs.declared.Setup.{Setup}
use Rattle.laws.specs.Accepted.{SetupFacts, setup-facts}
use Rattle.laws.specs.LastMoves.{free_side}
use Rattle.laws.specs.Refusals.{at_all}
use Rattle.laws.specs.Sizes.{free_size, bounded, inside-within, only, free-size, kept-within}
use Rattle.laws.specs.Strings.{◌spans◌, spans-minus, at-zip}
use Rattle.motion.specs.Weighted.{StringRanges}
use Rattle.contact.specs.Contacts.{kept_contacts, gradients_in}
use Rattle.motion.specs.MoveRanges.{PointRanges}

-- a string of displacements
module _ (u : List ℤ) (h : T (all displacement_ok u)) where
  pub displacement : (i : ℕ) → T (displacement_ok (at u i))
  unfolding displacement_ok inside
  displacement i = at_all displacement_ok u tt h i

  pub displacement-size : (i : ℕ) → at u i within 1048576
  unfolding displacement_ok inside
  displacement-size i = bounded 1048576 u h i

  pub displacement-read : (k : ℕ) → to_z w32 (of_z w32 (get_or u k (pos 0))) ≡ get_or u k (pos 0)
  displacement-read k = back w32 (displacement-size (suc k)) (lit< tt)

-- the contact variables
module _ (ψ : List ℤ) (h : T (all contact_ok ψ)) where
  pub contact-size : (i : ℕ) → at ψ i within 67108864
  unfolding contact_ok
  contact-size i = bounded 67108864 ψ h i

module _ {s : Setup} {u v : List ℤ} (h : StringRanges s u v) where
  pub facts : SetupFacts s
  facts = setup-facts s h.setup

  pub newer-spans : u spans points s
  newer-spans = record { long = h.newer-length }

  pub older-spans : v spans points s
  older-spans = record { long = h.older-length }

  pub some-point : 1 ≤ points s
  some-point = let k = facts.segments-low in omega arith

  pub most-points : points s ≤ 127
  most-points = let k = facts.segments in omega arith

  -- the finger's place by its index
  pub finger-place : suc (p s - 1) ≡ p s
  finger-place = let k = facts.first in omega arith

  pub finger-point : p s - 1 < points s
  finger-point = let k = facts.first in let l = facts.last in omega arith

  -- c without the contact, where the pluck force f is in range
  pub side-within : (f : ℤ) → T (force_ok f) → (ψ G : List ℤ) (i : ℕ) → free_side s u v ψ G f i within free_size
  unfolding displacement_ok force_ok
  side-within f k ψ G i = free-size facts u v (h.newer-length ∙ sym h.older-length) (bounded 1048576 u h.newer) (bounded 1048576 v h.older) (only (eqb i (e s)) (inside-within 1073741824 f k)) i

-- the points over the neck
module _ {s : Setup} {h u v ψ G : List ℤ} {f : ℤ} (r : PointRanges s h u v ψ G f) where
  depths-span : minus h u spans points s
  depths-span = spans-minus (record { long = r.heights-length }) (newer-spans r.strings)

  -- a contact variable after clearing
  pub kept-size : (i : ℕ) → at (kept_contacts h u ψ) i within 67108864
  unfolding kept
  kept-size i = rw (at-zip kept refl depths-span (record { long = r.contact-length }) i) (kept-within (at (minus h u) i) (at ψ i) (contact-size ψ r.contact i))

-- a gradient as an array holds it
pub gradient-in : {n : ℕ} (gs : List ℕ) (i : ℕ) → i < n → at (gradients_in n gs) (suc i) ≡ pos (get_or gs i 0)
gradient-in {n} gs i l = get_d_tabulate n (λ j. pos (get_or gs j 0)) (pos 0) i l

pub gradient-low : {n : ℕ} (gs : List ℕ) (i : ℕ) → i < n → pos 0 ≤ℤ at (gradients_in n gs) (suc i)
gradient-low gs i l = subst (λ g. pos 0 ≤ℤ g) (sym (gradient-in gs i l)) (nonneg (get_or gs i 0))

pub force-ok : (f : ℤ) (b : Bool) → T (force_ok f) → T (force_ok (cond b f (pos 0)))
unfolding force_ok inside
force-ok f true h = h
force-ok f false h = tt
