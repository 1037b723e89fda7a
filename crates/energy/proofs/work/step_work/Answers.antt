-- The index of the pluck place lies on both strings.
use Rattle.std.specs.Prelude.{◌≡◌, List, [], ◌∷◌, ℕ, suc, ◌-◌, ◌^◌, ◌≤◌, ◌<◌, T, ℤ, pos, ◌+ℤ◌, ◌-ℤ◌, ◌*ℤ◌, length, get_or}
use Rattle.std.proofs.Common.{sym, ◌∙◌, ap, ap₂, arith, w32, w64, to_z, of_z, to_z-of_z}
use Rattle.std.specs.Int.Signed.{mag}
use Rattle.integers.specs.Size as Size
use Rattle.integers.specs.Size.{◌within◌, ◌⟨+⟩◌}
use Rattle.integers.specs.Machine.{var, ♯◌, ◌⊟◌, ◌⊠◌, Within, ∅, ◌▹◌, result, held-within, sized}
use Rattle.model.specs.Ranges.{displacement_ok, force_ok}
use Rattle.model.specs.Setup.{e, points, setup_rules}
use Rattle.model.specs.declared.Setup.{Setup}
use Rattle.promises.specs.Promises.{Passed}
use Rattle.model.specs.Differences.{at, minus}
use Rattle.laws.specs.Accepted.{setup-facts}
use Rattle.laws.specs.Sizes.{inside-within}
use Rattle.laws.specs.Strings.{at-index, at-minus}
use Rattle.laws.specs.EnergySizes.{Strings, newer-within, older-within, spans-newer, spans-older}
use Rattle.energy.proofs.work.step_work.Goals as goal

abbrev sizes : List ℕ
sizes = 1073741824 ∷ 1048576 ∷ 1048576 ∷ []

-- the work of a force over a move
abbrev work : ℤ → ℤ → ℤ → ℤ
work force new older = pos 2 *ℤ force *ℤ (new -ℤ older)

module _ {force new older : ℤ} (ρ : Within (force ∷ new ∷ older ∷ []) sizes) where
  asked : Within (to_z w32 (of_z w32 force) ∷ to_z w32 (of_z w32 new) ∷ to_z w32 (of_z w32 older) ∷ []) sizes
  asked = held-within ρ w32 (var 0) tt ▹ held-within ρ w32 (var 1) tt ▹ held-within ρ w32 (var 2) tt ▹ ∅

  work-is : {r : ℤ} → mag r < 2 ^ 63 → r ≡ work (to_z w32 (of_z w32 force)) (to_z w32 (of_z w32 new)) (to_z w32 (of_z w32 older)) → to_z w64 (of_z w64 r) ≡ work force new older
  work-is m q =
      to_z-of_z {w = w64} (record { sfits = m }) ∙ q
      ∙ ap₂ (λ f d. pos 2 *ℤ f *ℤ d) (result ρ w32 (var 0) tt) (ap₂ (λ a b. a -ℤ b) (result ρ w32 (var 1) tt) (result ρ w32 (var 2) tt))

  work-size : work force new older within 2 ^ 52
  work-size = sized ρ (♯ 2 ⊠ var 0 ⊠ (var 1 ⊟ var 2))

module _ (s : Setup) {u v : List ℤ} (h : Passed (setup_rules s)) (ok : Strings u v) (l : length u ≡ points s) where
  inside : (1 ≤ e s) × ((e s - 1 < length u) × (e s - 1 < length v))
  inside = let f = setup-facts s h in let a = f.pluck-first in let b = f.pluck-last in let q = ok.same in (a, (omega arith, omega arith))

  pluck-within : {force : ℤ} → T (force_ok force) → Within (force ∷ get_or u (e s - 1) (pos 0) ∷ get_or v (e s - 1) (pos 0) ∷ []) sizes
  unfolding force_ok
  pluck-within {force} t = inside-within 1073741824 force t ▹ newer-within ok (suc (e s - 1)) ▹ older-within ok (suc (e s - 1)) ▹ ∅

  move : get_or u (e s - 1) (pos 0) -ℤ get_or v (e s - 1) (pos 0) ≡ at (minus u v) (e s)
  move = ap₂ (λ x y. x -ℤ y) (sym (at-index u (e s) inside.0)) (sym (at-index v (e s) inside.0)) ∙ sym (at-minus (spans-newer ok) (spans-older ok) (e s))

finger-within : {force height before : ℤ} → T (force_ok force) → T (displacement_ok height) → T (displacement_ok before) → Within (force ∷ height ∷ before ∷ []) sizes
unfolding displacement_ok force_ok
finger-within {force} {height} {before} t d k = inside-within 1073741824 force t ▹ inside-within 1048576 height d ▹ inside-within 1048576 before k ▹ ∅

pub overflow_sub-place : goal.overflow_sub-place
overflow_sub-place c = (inside c.args.setup c.requires.0 c.requires.1 c.requires.2).0

pub bounds-new-place : goal.bounds-new-place
bounds-new-place c = (inside c.args.setup c.requires.0 c.requires.1 c.requires.2).1.0

pub overflow_sub-place-2 : goal.overflow_sub-place-2
overflow_sub-place-2 c = (inside c.args.setup c.requires.0 c.requires.1 c.requires.2).0

pub bounds-older-place : goal.bounds-older-place
bounds-older-place c = (inside c.args.setup c.requires.0 c.requires.1 c.requires.2).1.1

pub work_of-pluck-requires : goal.work_of-pluck-requires
work_of-pluck-requires c = asked (pluck-within c.args.setup c.requires.0 c.requires.1 c.requires.2 c.requires.3)

pub work_of-finger-requires : goal.work_of-finger-requires
work_of-finger-requires c = asked (finger-within c.requires.4 c.requires.5 c.requires.6)

pub overflow_add-result : goal.overflow_add-result
overflow_add-result c =
    let ρ = pluck-within c.args.setup c.requires.0 c.requires.1 c.requires.2 c.requires.3 in
    let σ = finger-within c.requires.4 c.requires.5 c.requires.6 in
    rw (work-is ρ c.work_of-pluck.type_inv c.work_of-pluck.ensures, work-is σ c.work_of-finger.type_inv c.work_of-finger.ensures) (Size.fits (work-size ρ ⟨+⟩ work-size σ) tt)

pub returns : goal.returns
returns c =
    let ρ = pluck-within c.args.setup c.requires.0 c.requires.1 c.requires.2 c.requires.3 in
    let σ = finger-within c.requires.4 c.requires.5 c.requires.6 in
    let forces = c.args.forces in
    rw (work-is ρ c.work_of-pluck.type_inv c.work_of-pluck.ensures, work-is σ c.work_of-finger.type_inv c.work_of-finger.ensures)
    (to_z-of_z {w = w64} (Size.fits (work-size ρ ⟨+⟩ work-size σ) tt) ∙ ap (λ d. pos 2 *ℤ forces.pluck *ℤ d +ℤ work forces.finger c.args.height c.args.before) (move c.args.setup c.requires.0 c.requires.1 c.requires.2))
