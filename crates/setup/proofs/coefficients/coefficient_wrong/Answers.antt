-- `any` over a visible list ends in `|| false`.
use mathlib.Core.Path.{sym, ap}
use mathlib.Core.Bool.{◌||◌, or-false}
use lib.Dec.{ltb, eqb}
use Rattle.model.specs.Setup.{L, M, S, Z}
use Rattle.setup.proofs.coefficients.coefficient_wrong.Goals as goal

pub returns : goal.returns
returns c =
    let s = c.args.setup in
    ap (λ last. eqb (L s) 0 || (ltb 4096 (L s) || (ltb 4096 (M s) || (ltb 4096 (S s) || last)))) (sym (or-false (ltb 4096 (Z s))))
