-- Each of the four parts fits; the middle term is twice its half.
use Rattle.std.specs.Prelude.{◌≡◌, [], ◌∷◌, ℕ, ℤ, pos, ◌+ℤ◌, ◌-ℤ◌, ◌*ℤ◌}
use Rattle.std.proofs.Common.{◌∙◌, ap₂, w32, w64}
use Rattle.integers.specs.Solve.{◌⊕◌, ◌⊗◌, #◌, ◌≐◌, solve}
use Rattle.integers.specs.Machine.{Code, var, nat, ♯◌, cast, done, ◌⊟◌, ◌⊠◌, Within, held, result, fits}
use Rattle.model.specs.declared.Finger.{Finger}
use Rattle.energy.specs.Parts.{rest_part, rest_sizes}
use Rattle.energy.proofs.stored.rest_energy.Goals as goal

abbrev change : Code
change = cast w32 (var 2 ⊟ var 3)

abbrev half : Code
half = nat 0 ⊠ (done change ⊠ done change)

abbrev contacts : Code
contacts = ♯ 2 ⊠ var 1

abbrev square : Code
square = ♯ 2 ⊠ (done (cast w32 (var 4)) ⊠ done (cast w32 (var 4)))

module _ (m : ℕ) (ψψ : ℤ) (f : Finger) (ρ : Within (pos m ∷ ψψ ∷ f.newer ∷ f.older ∷ f.contact ∷ []) rest_sizes) where
  sum_is : (let xs = pos m ∷ ψψ ∷ f.newer ∷ f.older ∷ f.contact ∷ [] in held xs w64 contacts +ℤ held xs w64 half +ℤ held xs w64 half +ℤ held xs w64 square) ≡ rest_part m ψψ f
  sum_is =
      ap₂ (λ x y. x +ℤ y) (ap₂ (λ x y. x +ℤ y) (ap₂ (λ x y. x +ℤ y) (result ρ w64 contacts tt) (result ρ w64 half tt)) (result ρ w64 half tt)) (result ρ w64 square tt)
      ∙ solve 4 (λ a m d b. a ⊕ m ⊗ d ⊕ m ⊗ d ⊕ b ≐ a ⊕ # 2 ⊗ m ⊗ d ⊕ b) tt (pos 2 *ℤ ψψ) (pos m) ((f.newer -ℤ f.older) *ℤ (f.newer -ℤ f.older)) (pos 2 *ℤ (f.contact *ℤ f.contact))

pub overflow_sub-change : goal.overflow_sub-change
overflow_sub-change c = fits c.requires w32 (var 2 ⊟ var 3) tt

pub overflow_mul-half : goal.overflow_mul-half
overflow_mul-half c = fits c.requires w64 (done change ⊠ done change) tt

pub overflow_mul-half-2 : goal.overflow_mul-half-2
overflow_mul-half-2 c = fits c.requires w64 half tt

pub overflow_mul-own-2 : goal.overflow_mul-own-2
overflow_mul-own-2 c = fits c.requires w64 square tt

pub returns : goal.returns
returns c = c.four.ensures ∙ sum_is c.args.mass c.args.contacts c.args.finger c.requires
