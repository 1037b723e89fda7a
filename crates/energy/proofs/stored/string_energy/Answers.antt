-- Each of the four parts fits.
use Rattle.std.specs.Prelude.{[], ◌∷◌, ℤ, pos, ◌+ℤ◌}
use Rattle.std.proofs.Common.{◌∙◌, ap₂, w64}
use Rattle.integers.specs.Size.{natural}
use Rattle.integers.specs.Machine.{Code, var, nat, ♯◌, done, ◌⊟◌, ◌⊠◌, Within, ◌▹◌, result, fits}
use Rattle.model.specs.Setup.{setup_rules}
use Rattle.model.specs.declared.Setup.{Setup}
use Rattle.promises.specs.Promises.{Passed}
use Rattle.laws.specs.Accepted.{setup-facts}
use Rattle.energy.specs.Parts.{string_sizes}
use Rattle.energy.proofs.stored.string_energy.Goals as goal

abbrev change : Code
change = ♯ 8192 ⊠ var 3

abbrev tension : Code
tension = ♯ 2 ⊠ done (nat 0) ⊠ var 4

abbrev stiffness : Code
stiffness = ♯ 2 ⊠ done (nat 1) ⊠ var 5

abbrev viscous : Code
viscous = ♯ 0 ⊟ done (nat 2) ⊠ var 6

-- the four sums, with what a setup multiplies them by
with_setup : (s : Setup) → Passed (setup_rules s) → {a b c d : ℤ} → Within (a ∷ b ∷ c ∷ d ∷ []) string_sizes → Within (pos s.tension ∷ pos s.stiffness ∷ pos s.viscous ∷ a ∷ b ∷ c ∷ d ∷ []) (4096 ∷ 1024 ∷ 2048 ∷ string_sizes)
with_setup s h ρ = let f = setup-facts s h in natural f.tension ▹ natural f.stiffness ▹ natural f.viscous ▹ ρ

pub overflow_mul-l-2 : goal.overflow_mul-l-2
overflow_mul-l-2 c = fits (with_setup c.args.setup c.requires.0 c.requires.1) w64 tension tt

pub overflow_mul-m-2 : goal.overflow_mul-m-2
overflow_mul-m-2 c = fits (with_setup c.args.setup c.requires.0 c.requires.1) w64 stiffness tt

pub overflow_mul-s : goal.overflow_mul-s
overflow_mul-s c = fits (with_setup c.args.setup c.requires.0 c.requires.1) w64 (done (nat 2) ⊠ var 6) tt

pub overflow_sub-s : goal.overflow_sub-s
overflow_sub-s c = fits (with_setup c.args.setup c.requires.0 c.requires.1) w64 viscous tt

pub returns : goal.returns
returns c =
    let ρ = with_setup c.args.setup c.requires.0 c.requires.1 in
    c.four.ensures ∙ ap₂ (λ x y. x +ℤ y) (ap₂ (λ x y. x +ℤ y) (ap₂ (λ x y. x +ℤ y) (result ρ w64 change tt) (result ρ w64 tension tt)) (result ρ w64 stiffness tt)) (result ρ w64 viscous tt)
