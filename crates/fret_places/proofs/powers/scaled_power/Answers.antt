-- `scaled_power` meets its contract: each product is the power so far, and none passes 2^120.
use mathlib.Core.Path.{◌≡◌, ◌∙◌, ap, ap₂}
use Prim.Native.Nat.{ℕ, ◌*◌, ◌^◌}
use native.Mathlib.Nat.{zero-add}
use lib.IntN.{pos, ◌*ℤ◌}
use Rattle.integers.specs.Size.{natural, wide}
use Rattle.model.specs.Wide.{value}
use Rattle.fret_places.specs.Powers.{cube, twelfth, shifted, ninth-most, twelfth-most, scaled-most}
use Rattle.fret_places.proofs.powers.scaled_power.Goals as goal
use Rattle.fret_places.proofs.powers.scaled_power.Goals.{After-times, After-times-2, Start}

abbrev x : Start → ℕ
x c = c.args.x

-- the ninth power, the twelfth, and that scaled
ninth_is : (c : After-times) → value c.times.result ≡ pos (cube (x c.before) * cube (x c.before) * cube (x c.before))
ninth_is c = let x = x c.before in c.times.ensures ∙ ap (λ (n : ℕ). pos (n * cube x)) (zero-add (cube x * cube x))

twelfth_is : (c : After-times-2) → let x = x c.before.before in value c.times-2.result ≡ pos (cube x * cube x * cube x * cube x)
twelfth_is c = c.times-2.ensures ∙ ap (λ v. v *ℤ pos (cube (x c.before.before))) (ninth_is c.before)

pub returns : goal.returns
returns c =
    let k = c.before.before.before in
    c.times-3.ensures ∙ ap₂ (λ v n. v *ℤ pos n) (twelfth_is c.before) (shifted k.args.q k.requires.1) ∙ ap (λ (n : ℕ). pos (n * 2 ^ k.args.q)) (twelfth (x k))

pub times-requires : goal.times-requires
times-requires c = rw (zero-add (cube (x c) * cube (x c))) (wide (natural (ninth-most c.requires.0)) tt)

pub times-requires-2 : goal.times-requires-2
times-requires-2 c = rw (ninth_is c) (wide (natural (twelfth-most c.requires.0)) tt)

pub times-requires-3 : goal.times-requires-3
times-requires-3 c = let k = c.before.before in rw (twelfth_is c, shifted k.args.q k.requires.1) (wide (natural (scaled-most k.requires.0 k.args.q k.requires.1)) tt)
