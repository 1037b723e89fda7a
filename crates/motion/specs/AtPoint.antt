-- What the code has at a point, read from its bits: the pluck force there, c without the contact, the gradient, and the contact variable after clearing.
use Rattle.std.specs.Prelude.{◌≡◌, cond, List, ℕ, suc, ◌^◌, ◌<◌, eqb, ℤ, pos, get_or}
use Rattle.std.proofs.Common.{sym, ◌∙◌, ap, ap₂, lit<, to_z, of_z}
use Rattle.std.specs.Int.{Width, w32, w64}
use mir.Val.{hbits}
use Rattle.integers.specs.Bits.{back}
use Rattle.integers.specs.Size.{◌within◌}
use Rattle.model.specs.Ranges.{force_ok}
use Rattle.model.specs.Setup.{e}
use Rattle.model.specs.Differences.{at}
use Rattle.model.specs.Step.{right_side}
use Rattle.model.specs.declared.Setup.{Setup}
use Rattle.laws.specs.LastMoves.{free_side}
use Rattle.laws.specs.Sizes.{inside-within, only}
use Rattle.contact.specs.Contacts.{kept_contacts, gradients_in}
use Rattle.motion.specs.InRange.{kept-size, side-within, gradient-in}
use Rattle.motion.specs.MoveRanges.{PointRanges}

-- a number that is another one, which is small enough
pub read : (w : Width) {x y : ℤ} {n : ℕ} → x ≡ y → y within n → n < 2 ^ hbits w → to_z w (of_z w x) ≡ y
read w e k l = ap (λ z. to_z w (of_z w z)) e ∙ back w k l

module _ {s : Setup} {h u v ψ G : List ℤ} {f : ℤ} (r : PointRanges s h u v ψ G f) where
  force-size : f within 1073741824
  unfolding force_ok
  force-size = inside-within 1073741824 f r.force

  pub force-read : {j k : ℕ} {x : ℤ} → j ≡ k → x ≡ cond (eqb j (e s)) (to_z w32 (of_z w32 f)) (pos 0) → to_z w32 (of_z w32 x) ≡ cond (eqb k (e s)) f (pos 0)
  force-read {k} same x = read w32 (x ∙ ap₂ (λ (j : ℕ) f. cond (eqb j (e s)) f (pos 0)) same (back w32 force-size (lit< tt))) (only (eqb k (e s)) force-size) (lit< tt)

  -- at place k, whose index is i
  module _ {i k : ℕ} (place : suc i ≡ k) where
    pub side-read : {x y : ℤ} → y ≡ cond (eqb k (e s)) f (pos 0) → x ≡ right_side s u v (pos 0) (pos 0) y (suc i) → to_z w64 (of_z w64 x) ≡ free_side s u v (kept_contacts h u ψ) G f k
    side-read y x = read w64 (x ∙ ap₂ (λ y (k : ℕ). right_side s u v (pos 0) (pos 0) y k) y place) (side-within r.strings f r.force (kept_contacts h u ψ) G k) (lit< tt)

    pub variable-read : {x : ℤ} → x ≡ at (kept_contacts h u ψ) (suc i) → to_z w32 (of_z w32 x) ≡ at (kept_contacts h u ψ) k
    variable-read x = read w32 (x ∙ ap (at (kept_contacts h u ψ)) place) (kept-size r k) (lit< tt)

-- a gradient as an array holds it
pub gradient-read : {n : ℕ} (gs : List ℕ) {i k : ℕ} → suc i ≡ k → i < n → at (gradients_in n gs) k within 255 → to_z w64 (of_z w64 (pos (get_or gs i 0))) ≡ at (gradients_in n gs) k
gradient-read {n} gs {i} place l size = read w64 (sym (gradient-in gs i l) ∙ ap (at (gradients_in n gs)) place) size (lit< tt)
