-- Both parts fit.
use Rattle.std.specs.Prelude.{[], ◌∷◌, ◌*◌, ◌^◌, ℤ, pos, ◌+ℤ◌}
use Rattle.std.proofs.Common.{◌∙◌, ap₂, w64}
use Rattle.integers.specs.Size.{natural}
use Rattle.integers.specs.Machine.{Code, var, nat, ♯◌, done, ◌⊠◌, Within, ◌▹◌, fits, result}
use Rattle.model.specs.Setup.{setup_rules}
use Rattle.model.specs.declared.Setup.{Setup}
use Rattle.promises.specs.Promises.{Passed}
use Rattle.laws.specs.Accepted.{setup-facts}
use Rattle.energy.proofs.loss.moving_loss.Goals as goal

abbrev plain : Code
plain = ♯ 2 ⊠ done (nat 0) ⊠ var 2

abbrev viscous : Code
viscous = done (nat 1) ⊠ var 3

-- both sums, with what a setup multiplies them by
with_setup : (s : Setup) → Passed (setup_rules s) → {a b : ℤ} → Within (a ∷ b ∷ []) (127 * 2 ^ 42 ∷ 2 ^ 51 ∷ []) → Within (pos s.plain ∷ pos s.viscous ∷ a ∷ b ∷ []) (4096 ∷ 2048 ∷ 127 * 2 ^ 42 ∷ 2 ^ 51 ∷ [])
with_setup s h ρ = let f = setup-facts s h in natural f.plain ▹ natural f.viscous ▹ ρ

pub overflow_mul-z-2 : goal.overflow_mul-z-2
overflow_mul-z-2 c = fits (with_setup c.args.setup c.requires.0 c.requires.1) w64 plain tt

pub overflow_mul-s : goal.overflow_mul-s
overflow_mul-s c = fits (with_setup c.args.setup c.requires.0 c.requires.1) w64 viscous tt

pub returns : goal.returns
returns c =
    let ρ = with_setup c.args.setup c.requires.0 c.requires.1 in
    c.added.ensures ∙ ap₂ (λ a b. a +ℤ b) (c.from.ensures ∙ result ρ w64 plain tt) (result ρ w64 viscous tt)
