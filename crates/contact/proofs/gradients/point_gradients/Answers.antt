-- `point_gradients` meets its contract.
use mathlib.Core.Path.{◌≡◌, refl, sym, ◌∙◌, subst}
use mathlib.Core.List.{List}
use Prim.Native.Nat.{ℕ, ◌≤◌, ◌<◌, zero-le}
use native.Mathlib.Nat.{min-le_left}
use native.Mathlib.Decide.{dec_lt}
use native.Mathlib.Omega.{arith}
use lib.Dec.{T}
use lib.ListN.{length, get_or, take}
use Rattle.integers.specs.Filled.{Begun}
use Rattle.laws.specs.Gradient.{gradient-size}
use Rattle.contact.specs.Pressed.{front-long, front-pressed}
use Rattle.contact.specs.PutIn.{PutIn, put-none, put-more, root-put, put-front, none-put, all-put}
use Rattle.contact.proofs.gradients.point_gradients.Goals as goal

-- a number is at most 1023, also past those that are listed
numbers-small : {f : ℕ → ℕ} → ((j : ℕ) → f j ≤ 1023) → {count : ℕ} {numbers : List ℕ} → Begun 0 128 f count numbers → (j : ℕ) → get_or numbers j 0 ≤ 1023
numbers-small {f} s {count} {numbers} b j = go (dec_lt j count)
  where
    go : Dec (j < count) → get_or numbers j 0 ≤ 1023
    go (yes l) = subst (λ (x : ℕ). x ≤ 1023) (sym (b.filled.each j l)) (s j)
    go (no l) = subst (λ (x : ℕ). x ≤ 1023) (sym (b.rest j (omega arith))) zero-le

pub returns-then-none_pressed : goal.returns-then-none_pressed
returns-then-none_pressed c =
    let k = c.args in
    (refl, none-put k.neck.stiffness.now k.neck.heights.now k.newer.now c.requires.heights-length c.requires.stiffness-length (subst T (sym c.if-none_pressed.true ∙ c.none_pressed.ensures) tt))

pub write_numbers-requires : goal.write_numbers-requires
write_numbers-requires c =
    let listed = c.list_pressed-count.ensures in
    let m = c.requires.most in
    (c.requires, front-pressed listed m, rw (front-long listed m) (let f = listed.few in omega arith), refl)

pub write_roots-requires : goal.write_roots-requires
write_roots-requires c =
    let numbers = c.write_numbers.ensures in
    let listed = c.list_pressed-count.ensures in
    (let f = listed.few in let m = c.requires.most in omega arith, numbers.filled.len, numbers-small (λ j. min-le_left 1023 _) numbers)

pub loop-j-init : goal.loop-j-init
loop-j-init c = put-none c.args.neck.stiffness.now c.args.neck.heights.now c.args.newer.now

-- a turn: the root is the gradient of the listed point
pub overflow_cast-gradients : goal.overflow_cast-gradients
overflow_cast-gradients c =
    let k = c.args in
    let listed = c.list_pressed-count.ensures in
    let m = c.requires.most in
    let e = root-put k.neck.stiffness.now k.neck.heights.now k.newer.now (front-pressed listed m) (front-long listed m) c.write_numbers.ensures c.write_roots.ensures c.loop-j.j c.loop-j-test.true in
    let l : get_or c.write_roots.new.numbers c.loop-j.j 0 ≤ 255 = subst (λ (x : ℕ). x ≤ 255) (sym e) (gradient-size _ _).size in
    record { fits = omega arith }

pub loop-j-preserved : goal.loop-j-preserved
loop-j-preserved c =
    let k = c.args in
    let listed = c.list_pressed-count.ensures in
    let m = c.requires.most in
    let b = (front-pressed listed m).below c.loop-j.j c.loop-j-test.true in
    put-more k.neck.stiffness.now k.neck.heights.now k.newer.now c.loop-j.invariant (omega arith)
    (root-put k.neck.stiffness.now k.neck.heights.now k.newer.now (front-pressed listed m) (front-long listed m) c.write_numbers.ensures c.write_roots.ensures c.loop-j.j c.loop-j-test.true)

pub returns : goal.returns
returns c =
    let k = c.args in
    let listed = c.list_pressed-count.ensures in
    let all = take c.list_pressed-count.result c.list_pressed-count.new.list in
    let e : c.loop-j.j ≡ length all = omega (arith, c.loop-j-test.false, c.loop-j.auto.j-end) in
    let put = subst (λ (n : ℕ). PutIn k.neck.stiffness.now k.neck.heights.now k.newer.now all n c.loop-j.gradients) e c.loop-j.invariant in
    (put.long, all-put k.neck.stiffness.now k.neck.heights.now k.newer.now c.requires.heights-length c.requires.stiffness-length listed (put-front k.neck.stiffness.now k.neck.heights.now k.newer.now listed c.requires.most put))
