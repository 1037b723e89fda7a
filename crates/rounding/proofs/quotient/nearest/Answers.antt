-- `nearest` meets its contract.
use mathlib.Core.Path.{◌≡◌, sym, ◌∙◌, ap}
use mathlib.Core.Logic.{⊎_elim}
use mathlib.Core.List.{List, [], ◌∷◌}
use Prim.Native.Nat.{◌^◌}
use lib.IntN.{ℤ, pos}
use lib.Signed.{◌≤ℤ◌, ◌<ℤ◌}
use mir.Syntax.{w64}
use mir.Val.{to_z, of_z}
use mir.Facts.{to_z-of_z}
use Rattle.integers.specs.Order.{≤-antisym, <-or-≤}
use Rattle.integers.specs.Machine.{Code, value, raw, var, ♯◌, ◌⊞◌, ◌⊟◌, ◌⊠◌, ◌⊘◌, ◌⊜◌, ◌≫◌, Within, ∅, ◌▹◌, fits, result, divisor, if-lt, else-lt}
use Rattle.rounding.proofs.quotient.ByQuotient.{unit-positive, even-nearest, quotient-nearest, less-nearest}
use Rattle.rounding.proofs.quotient.nearest.Goals as goal
use Rattle.rounding.proofs.quotient.nearest.Goals.{Start}

abbrev twice : Code
twice = ♯ 2 ⊠ var 0 ⊞ var 1

abbrev unit : Code
unit = ♯ 2 ⊠ var 1

abbrev quotient : Code
quotient = twice ⊘ unit

abbrev rest : Code
rest = twice ⊜ unit

abbrev even : Code
even = ♯ 2 ⊠ (quotient ≫ 1)

abbrev less : Code
less = quotient ⊟ ♯ 1

module _ (c : Start) where
  abbrev args : List ℤ
  args = c.args.num ∷ c.args.den ∷ []

  ρ : Within args (2 ^ 61 ∷ 2 ^ 38 ∷ [])
  ρ = c.requires.1 ▹ c.requires.2 ▹ ∅

  -- what the test of the remainder with 0 says, which compares bits
  none_left : of_z w64 (raw args w64 rest) ≡ 0 → value args rest ≡ pos 0
  none_left e = sym (result ρ w64 rest tt) ∙ ap (to_z w64) e

  above : (of_z w64 (raw args w64 rest) ≡ 0 → ⊥) → pos 0 ≤ℤ value args rest → pos 0 <ℤ value args rest
  above h l = ⊎_elim (λ k. k) (λ k. absurd (h (ap (of_z w64) (sym (to_z-of_z (fits ρ w64 rest tt)) ∙ result ρ w64 rest tt ∙ ≤-antisym k l)))) (<-or-≤ (pos 0) (value args rest))

pub returns-then-rest-eq0 : goal.returns-then-rest-eq0
returns-then-rest-eq0 c =
    let s = c.before in
    result (ρ s) w64 even tt ∙ even-nearest s.args.num s.args.den s.requires.0 (none_left s c.if-rest-eq0.true)

pub returns-then-rest-lt0 : goal.returns-then-rest-lt0
returns-then-rest-lt0 c =
    let s = c.before.before in
    result (ρ s) w64 less tt ∙ less-nearest s.args.num s.args.den s.requires.0 (if-lt (ρ s) w64 rest (♯ 0) tt c.if-rest-lt0.true)

pub returns-else-rest-lt0 : goal.returns-else-rest-lt0
returns-else-rest-lt0 c =
    let s = c.before.before in
    result (ρ s) w64 quotient tt ∙ quotient-nearest s.args.num s.args.den s.requires.0 (above s c.if-rest-eq0.false (else-lt (ρ s) w64 rest (♯ 0) tt c.if-rest-lt0.false))

pub nonzero_div-quotient : goal.nonzero_div-quotient
nonzero_div-quotient c = (divisor (ρ c) w64 unit tt (unit-positive c.args.num c.args.den c.requires.0), fits (ρ c) w64 quotient tt)

pub overflow_mul-twice : goal.overflow_mul-twice
overflow_mul-twice c = fits (ρ c) w64 (♯ 2 ⊠ var 0) tt

pub overflow_add-twice : goal.overflow_add-twice
overflow_add-twice c = fits (ρ c) w64 twice tt

pub overflow_mul-unit : goal.overflow_mul-unit
overflow_mul-unit c = fits (ρ c) w64 unit tt

pub overflow_mul-result : goal.overflow_mul-result
overflow_mul-result c = fits (ρ c.before) w64 even tt

pub overflow_sub-result : goal.overflow_sub-result
overflow_sub-result c = fits (ρ c.before.before) w64 less tt

pub nonzero_rem-rest : goal.nonzero_rem-rest
nonzero_rem-rest c = nonzero_div-quotient c
