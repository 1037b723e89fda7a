-- Both factors fit.
use Rattle.std.specs.Prelude.{[], ◌∷◌, ℕ, ◌^◌, ◌<◌, pos, ◌*ℤ◌}
use Rattle.std.proofs.Common.{◌∙◌, ap₂, le_of_lt, rules, w64}
use Rattle.integers.specs.Size.{natural, wide}
use Rattle.integers.specs.Machine.{Code, nat, ♯◌, ◌⊟◌, ◌⊠◌, Within, ∅, ◌▹◌, result, held-within}
use Rattle.laws.specs.EnergySizes.{rises-size}
use Rattle.energy_sums.specs.Summing.{held_is}
use Rattle.energy.proofs.work.bend_work.Goals as goal

abbrev factor : Code
factor = ♯ 2 ⊠ (nat 0 ⊟ nat 1)

tensions : {a b : ℕ} → a < 2 ^ 32 → b < 2 ^ 32 → Within (pos a ∷ pos b ∷ []) (2 ^ 32 ∷ 2 ^ 32 ∷ [])
tensions h k = natural (le_of_lt h) ▹ natural (le_of_lt k) ▹ ∅

pub product-requires : goal.product-requires
product-requires c =
    let h : c.args.tension < 2 ^ 32 = search rules in
    let k : c.args.old < 2 ^ 32 = search rules in
    (wide (held-within (tensions h k) w64 factor tt) tt, rw (held_is c.rises-rising.type_inv c.rises-rising.ensures) (wide (rises-size c.requires) tt))

pub returns : goal.returns
returns c =
    let h : c.args.tension < 2 ^ 32 = search rules in
    let k : c.args.old < 2 ^ 32 = search rules in
    c.product.ensures ∙ ap₂ (λ x y. x *ℤ y) (result (tensions h k) w64 factor tt) (held_is c.rises-rising.type_inv c.rises-rising.ensures)
