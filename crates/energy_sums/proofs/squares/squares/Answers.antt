-- The total is the sum over the first i numbers.
use Rattle.std.proofs.Common.{◌∙◌, ap, refl, suc, arith, ◌*ℤ◌}
use Rattle.integers.specs.Sum.{sum}
use Rattle.model.specs.Differences.{dot}
use Rattle.laws.specs.Strings.{◌·◌}
use Rattle.energy_sums.specs.Lines.{number-is, number-within, square-within}
use Rattle.energy_sums.specs.Summing.{held_is, next_fits, next-sum}
use Rattle.energy_sums.proofs.squares.squares.Goals as goal

pub loop-i-init : goal.loop-i-init
unfolding sum
loop-i-init g c = (omega arith, refl)

pub square-total-requires : goal.square-total-requires
square-total-requires g c = number-within c.number.ensures (c.requires.3 (suc c.loop-i.i)) tt

pub overflow_add-total : goal.overflow_add-total
overflow_add-total g c =
    let a = g.L.Line.numbers c.args.line in
    let h = c.requires.3 in
    next_fits (a · a) c.loop-i.total-bits c.loop-i.i c.loop-i.invariant.1
    (held_is c.square-total.type_inv c.square-total.ensures ∙ ap (λ x. x *ℤ x) (number-is c.number.ensures (h (suc c.loop-i.i)) tt))
    (omega arith) (square-within a h)

pub loop-i-preserved : goal.loop-i-preserved
loop-i-preserved g c =
    let a = g.L.Line.numbers c.args.line in
    let h = c.requires.3 in (
      omega arith,
      next-sum (a · a) c.loop-i.total-bits c.loop-i.i c.loop-i.invariant.1
          (held_is c.square-total.type_inv c.square-total.ensures ∙ ap (λ x. x *ℤ x) (number-is c.number.ensures (h (suc c.loop-i.i)) tt))
          (omega arith) (square-within a h),
    )

pub returns : goal.returns
unfolding dot
returns g c = let a = g.L.Line.numbers c.args.line in c.loop-i.invariant.1 ∙ ap (λ n. sum n (a · a)) (omega (arith, c.loop-i-test.false))
