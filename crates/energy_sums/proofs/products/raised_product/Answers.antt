-- The product of the raised numbers fits.
use mathlib.Core.Path.{◌≡◌, ◌∙◌, ap, ap₂}
use Prim.Native.Nat.{◌*◌}
use lib.IntN.{pos, ◌+ℤ◌, ◌*ℤ◌}
use mir.Syntax.{w64}
use mir.Facts.{to_z-of_z}
use Rattle.integers.specs.Size.{◌within◌}
use Rattle.integers.specs.Size as Size
use Rattle.energy_sums.specs.Raised.{raise, raised, raised_size, raised-within}
use Rattle.energy_sums.proofs.products.raised_product.Goals as goal
use Rattle.energy_sums.proofs.products.raised_product.Goals.{After-raised-b, Start}

module _ (c : After-raised-b) where
  abbrev k : Start
  k = c.before.before

  product_is : pos (c.raised-a.result * c.raised-b.result) ≡ raised k.args.x k.args.y
  unfolding raised
  product_is = ap₂ (λ a b. a *ℤ b) (c.raised-a.ensures ∙ ap (λ z. z +ℤ raise) (to_z-of_z k.ranges.x)) (c.raised-b.ensures ∙ ap (λ z. z +ℤ raise) (to_z-of_z k.ranges.y))

  product-size : pos (c.raised-a.result * c.raised-b.result) within raised_size
  product-size = rw product_is (raised-within k.requires.0 k.requires.1)

pub returns : goal.returns
returns c = to_z-of_z {w = w64} (Size.fits (product-size c) tt) ∙ product_is c
