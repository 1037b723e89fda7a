-- `sum_wrong` meets its contract, and its sum does not overflow.
use mathlib.Core.Path.{refl}
use native.Mathlib.Omega.{arith}
use Rattle.setup.proofs.coefficients.sum_wrong.Goals as goal

pub returns : goal.returns
returns c = refl

pub overflow_mul-result : goal.overflow_mul-result
overflow_mul-result c = omega arith

pub overflow_add-result : goal.overflow_add-result
overflow_add-result c = omega arith

pub overflow_mul-result-2 : goal.overflow_mul-result-2
overflow_mul-result-2 c = omega arith

pub overflow_add-result-2 : goal.overflow_add-result-2
overflow_add-result-2 c = omega arith
