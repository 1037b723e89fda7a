-- The total is the sum over the first i segments.
use Rattle.std.proofs.Common.{◌∙◌, ap, ap₂, arith}
use Rattle.integers.specs.Sum.{sum}
use Rattle.model.specs.Differences.{at}
use Rattle.laws.specs.Strings.{rise}
use Rattle.energy_sums.specs.Raised.{raised, only-term}
use Rattle.energy_sums.specs.Lines.{rise-within, first-rise, rise-is, rise-small, term-within}
use Rattle.energy_sums.specs.Summing.{held_is, next_fits, next-sum}
use Rattle.energy_sums.proofs.rises.rise_products.Goals as goal

pub raised_product-total-requires : goal.raised_product-total-requires
raised_product-total-requires g c =
    let h = c.requires.2 in (
      rise-small (first-rise _ h.first c.number-own.ensures) (rise-within _ h.first 0),
      rise-small (first-rise _ h.second c.number-other.ensures) (rise-within _ h.second 0),
    )

pub loop-i-init : goal.loop-i-init
loop-i-init g c =
    let h = c.requires.2 in
    let l = h.some in (
      omega arith,
      omega arith,
      held_is c.raised_product-total.type_inv c.raised_product-total.ensures ∙ ap₂ raised (rise-is (first-rise _ h.first c.number-own.ensures) (rise-within _ h.first 0)) (rise-is (first-rise _ h.second c.number-other.ensures) (rise-within _ h.second 0)) ∙ only-term _,
    )

pub overflow_add-total : goal.overflow_add-total
overflow_add-total g c = let h = c.requires.2 in let m = h.most in
    next_fits _ c.loop-i.total-bits c.loop-i.i c.loop-i.invariant.2 (held_is c.rise_product-total.type_inv c.rise_product-total.ensures) (omega arith) (term-within _ _ h.first h.second)

pub loop-i-preserved : goal.loop-i-preserved
loop-i-preserved g c = let h = c.requires.2 in let m = h.most in (
  omega arith,
  omega arith,
  next-sum _ c.loop-i.total-bits c.loop-i.i c.loop-i.invariant.2 (held_is c.rise_product-total.type_inv c.rise_product-total.ensures) (omega arith) (term-within _ _ h.first h.second),
)

pub returns : goal.returns
returns g c = c.loop-i.invariant.2 ∙ ap (λ n. sum n (λ k. raised (rise (at (g.A.Line.numbers c.args.a)) k) (rise (at (g.B.Line.numbers c.args.b)) k))) (omega (arith, c.loop-i-test.false))
