-- The finger's variable is let go by the depth at its place; all of it fits.
use Rattle.std.specs.Prelude.{◌≡◌, List, ◌-◌, ◌*◌, ◌^◌, ◌≤◌, ◌<◌, ℤ, pos, ◌+ℤ◌, ◌-ℤ◌, ◌*ℤ◌, length, get_or}
use Rattle.std.proofs.Common.{sym, ◌∙◌, ap, ap₂, arith, rules, w32, w64, SFits, to_z, of_z, to_z-of_z}
use Rattle.std.specs.Int.Signed.{mag}
use Rattle.integers.specs.Size as Size
use Rattle.integers.specs.Size.{◌within◌, ◌⟨+⟩◌, ◌⟨*⟩◌, num}
use Rattle.model.specs.Differences.{at, dot}
use Rattle.model.specs.Setup.{p, points, setup_rules}
use Rattle.model.specs.Step.{let_go}
use Rattle.model.specs.declared.Setup.{Setup}
use Rattle.model.specs.declared.Finger.{Finger}
use Rattle.promises.specs.Promises.{Passed}
use Rattle.laws.specs.Accepted.{setup-facts}
use Rattle.laws.specs.EnergySizes.{let_go-within, dot-within}
use Rattle.laws.specs.Strings.{at-index}
use Rattle.energy_sums.specs.Contacts.{Contacts, cleared_contacts, spans-cleared, cleared-within}
use Rattle.energy_sums.specs.Summing.{held_is}
use Rattle.energy.specs.Parts.{finger_cleared, released_energy}
use Rattle.energy.proofs.loss.released_energy.Goals as goal

module _ (s : Setup) {heights u ψ : List ℤ} (f : Finger) (h : Passed (setup_rules s)) (k : Contacts heights u ψ) (e : length u ≡ points s) (m : f.contact within 67108864) where
  abbrev cleared : List ℤ
  cleared = cleared_contacts heights u ψ

  abbrev φ : ℤ
  φ = finger_cleared s u f

  inside : (1 ≤ p s) × (p s - 1 < length u)
  inside = let x = setup-facts s h in let a = x.first in let b = x.last in (a, omega arith)

  points-within : dot cleared cleared within 127 * 2 ^ 52
  points-within =
      let l : length cleared ≤ 127 = (let e = (spans-cleared k).long in let m = k.most in omega arith) in
      dot-within cleared cleared l (cleared-within k) (cleared-within k)

  finger-within : φ within 67108864
  finger-within = let_go-within (at u (p s) -ℤ f.newer) f.contact m

  -- the finger's variable as the code has it, of which r is let go
  module _ (fu : SFits w32 (get_or u (p s - 1) (pos 0))) (fn : SFits w32 f.newer) (fc : SFits w32 f.contact) {r : ℤ} (fr : mag r < 2 ^ 31)
      (q : r ≡ let_go (to_z w32 (of_z w32 (get_or u (p s - 1) (pos 0))) -ℤ to_z w32 (of_z w32 f.newer)) (to_z w32 (of_z w32 f.contact))) where
    let-go_is : to_z w32 (of_z w32 r) ≡ φ
    let-go_is =
        to_z-of_z {w = w32} (record { sfits = fr }) ∙ q
        ∙ ap₂ let_go (ap₂ (λ a b. a -ℤ b) (to_z-of_z fu ∙ sym (at-index u (p s) inside.0)) (to_z-of_z fn)) (to_z-of_z fc)

  -- the sum of the points' squares and of the finger's
  module _ (a b : ℤ) (qa : to_z w64 (of_z w64 a) ≡ dot cleared cleared) (qb : to_z w64 (of_z w64 b) ≡ φ *ℤ φ) where
    sum-within : (to_z w64 (of_z w64 a) +ℤ to_z w64 (of_z w64 b)) within 2 ^ 59
    sum-within = rw (qa, qb) (points-within ⟨+⟩ finger-within ⟨*⟩ finger-within)

    sum_fits : SFits w64 (to_z w64 (of_z w64 a) +ℤ to_z w64 (of_z w64 b))
    sum_fits = Size.fits sum-within tt

    twice-fits : SFits w64 (pos 2 *ℤ to_z w64 (of_z w64 (to_z w64 (of_z w64 a) +ℤ to_z w64 (of_z w64 b))))
    twice-fits = rw (to_z-of_z {w = w64} sum_fits) (Size.fits (num 2 ⟨*⟩ sum-within) tt)

    twice_is : to_z w64 (of_z w64 (pos 2 *ℤ to_z w64 (of_z w64 (to_z w64 (of_z w64 a) +ℤ to_z w64 (of_z w64 b))))) ≡ released_energy s heights u ψ f
    unfolding released_energy
    twice_is = to_z-of_z {w = w64} twice-fits ∙ ap (λ z. pos 2 *ℤ z) (to_z-of_z {w = w64} sum_fits ∙ ap₂ (λ a b. a +ℤ b) qa qb)

pub overflow_sub-own : goal.overflow_sub-own
overflow_sub-own c = (inside c.args.setup c.args.state.finger c.requires.0 c.requires.1 c.requires.2 c.requires.3).0

pub bounds-state-place : goal.bounds-state-place
bounds-state-place c = (inside c.args.setup c.args.state.finger c.requires.0 c.requires.1 c.requires.2 c.requires.3).1

pub square-own_square-requires : goal.square-own_square-requires
square-own_square-requires c = rw (let-go_is c.args.setup c.args.state.finger c.requires.0 c.requires.1 c.requires.2 c.requires.3 (search rules) (search rules) (search rules) c.let_go.type_inv c.let_go.ensures) (finger-within c.args.setup c.args.state.finger c.requires.0 c.requires.1 c.requires.2 c.requires.3)

pub overflow_add-result : goal.overflow_add-result
overflow_add-result c =
    let go = let-go_is c.args.setup c.args.state.finger c.requires.0 c.requires.1 c.requires.2 c.requires.3 (search rules) (search rules) (search rules) c.let_go.type_inv c.let_go.ensures in
    sum_fits c.args.setup c.args.state.finger c.requires.0 c.requires.1 c.requires.2 c.requires.3 c.cleared_sum-points.result c.square-own_square.result (held_is c.cleared_sum-points.type_inv c.cleared_sum-points.ensures) (held_is c.square-own_square.type_inv c.square-own_square.ensures ∙ ap (λ x. x *ℤ x) go)

pub overflow_mul-result : goal.overflow_mul-result
overflow_mul-result c =
    let go = let-go_is c.args.setup c.args.state.finger c.requires.0 c.requires.1 c.requires.2 c.requires.3 (search rules) (search rules) (search rules) c.let_go.type_inv c.let_go.ensures in
    twice-fits c.args.setup c.args.state.finger c.requires.0 c.requires.1 c.requires.2 c.requires.3 c.cleared_sum-points.result c.square-own_square.result (held_is c.cleared_sum-points.type_inv c.cleared_sum-points.ensures) (held_is c.square-own_square.type_inv c.square-own_square.ensures ∙ ap (λ x. x *ℤ x) go)

pub returns : goal.returns
returns c =
    let go = let-go_is c.args.setup c.args.state.finger c.requires.0 c.requires.1 c.requires.2 c.requires.3 (search rules) (search rules) (search rules) c.let_go.type_inv c.let_go.ensures in
    twice_is c.args.setup c.args.state.finger c.requires.0 c.requires.1 c.requires.2 c.requires.3 c.cleared_sum-points.result c.square-own_square.result (held_is c.cleared_sum-points.type_inv c.cleared_sum-points.ensures) (held_is c.square-own_square.type_inv c.square-own_square.ensures ∙ ap (λ x. x *ℤ x) go)
