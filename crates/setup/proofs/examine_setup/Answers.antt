-- The table is gone through row by row: where a row does not hold, the rows below it give the number.
use mathlib.Core.Bool.{not}
use mathlib.Core.Path.{ap, sym}
use Prim.Native.Nat.{ℕ}
use lib.ListN.{drop}
use Rattle.model.specs.Setup.{setup_rules}
use Rattle.laws.specs.Refusals.{Reached, reached-top, row-passed, row-passed-not, row-holds, row-holds-not}
use Rattle.laws.specs.Accepted.{small-coefficients}
use Rattle.setup.proofs.examine_setup.Goals as goal
use Rattle.setup.proofs.examine_setup.Goals.{Else-coefficient_wrong, Else-not-between, Else-not-own_places_ok, Else-sum_wrong, Start}

-- rows are passed as far as the k-th
module _ (c : Start) where
  abbrev After : ℕ → Type 0
  After k = Reached (setup_rules c.args.setup) (drop k (setup_rules c.args.setup))

after-0 : (c : Start) → After c 0
after-0 c = reached-top

after-1 : (c : Else-not-between) → After c.before.before 1
unfolding setup_rules
after-1 c = row-passed-not (after-0 c.before.before) c.between.ensures (ap not c.if-not-between.false)

after-2 : (c : Else-coefficient_wrong) → After c.before.before.before.before 2
unfolding setup_rules
after-2 c = row-passed (after-1 c.before.before) c.coefficient_wrong.ensures c.if-coefficient_wrong.false

after-3 : (c : Else-sum_wrong) → After c.before.before.before.before.before.before 3
unfolding setup_rules
after-3 c = row-passed (after-2 c.before.before) c.sum_wrong.ensures c.if-sum_wrong.false

after-4 : (c : Else-not-own_places_ok) → After c.before.before.before.before.before.before.before.before 4
unfolding setup_rules
after-4 c = row-passed-not (after-3 c.before.before) c.own_places_ok.ensures (ap not c.if-not-own_places_ok.false)

pub returns-then-not-between : goal.returns-then-not-between
unfolding setup_rules
returns-then-not-between c = sym (row-holds-not (after-0 c.before.before) c.between.ensures (ap not c.if-not-between.true))

pub returns-then-coefficient_wrong : goal.returns-then-coefficient_wrong
unfolding setup_rules
returns-then-coefficient_wrong c = sym (row-holds (after-1 c.before.before) c.coefficient_wrong.ensures c.if-coefficient_wrong.true)

pub returns-then-sum_wrong : goal.returns-then-sum_wrong
unfolding setup_rules
returns-then-sum_wrong c = sym (row-holds (after-2 c.before.before) c.sum_wrong.ensures c.if-sum_wrong.true)

pub returns-then-not-own_places_ok : goal.returns-then-not-own_places_ok
unfolding setup_rules
returns-then-not-own_places_ok c = sym (row-holds-not (after-3 c.before.before) c.own_places_ok.ensures (ap not c.if-not-own_places_ok.true))

pub returns-then-not-between-2 : goal.returns-then-not-between-2
unfolding setup_rules
returns-then-not-between-2 c = sym (row-holds-not (after-4 c.before.before) c.between-2.ensures (ap not c.if-not-between-2.true))

pub returns : goal.returns
unfolding setup_rules
returns c = sym (row-passed-not (after-4 c.before.before) c.between-2.ensures (ap not c.if-not-between-2.false)).number

-- where 2 has passed, the terms of the sum are small
pub sum_wrong-requires : goal.sum_wrong-requires
sum_wrong-requires c = let h = small-coefficients c.args.setup (rw (← c.coefficient_wrong.ensures, c.if-coefficient_wrong.false) tt) in (h.0, h.1.0, h.1.1.0)
