-- `small_product` meets its contract: the lower half's product carries into the upper half's, and that into the high word.
use Rattle.std.specs.Prelude.{◌*◌, ◌+◌, ◌/◌, ◌%◌, ◌^◌, ◌<◌, pos, ◌+ℤ◌, ◌*ℤ◌}
use Rattle.std.proofs.Common.{◌∙◌, ap, arith, rules, w64}
use mir.Facts.{to_z_pos}
use Rattle.wide.specs.Words.{lower_half, upper_half, joined, upper-most}
use Rattle.wide.proofs.product.small_product.Goals as goal

pub returns : goal.returns
returns c =
    let x = c.args.x in
    let m = c.args.m in
    let h : x < 2 ^ 64 = search rules in
    let k : m < 2 ^ 32 = search rules in
    ap (λ h. h *ℤ pos (2 ^ 64) +ℤ pos (upper_half x m % 4294967296 * 4294967296 + lower_half x m % 4294967296)) (to_z_pos w64 {n = upper_half x m / 4294967296} (omega (arith, upper-most h k))) ∙ ap pos (joined x m)
