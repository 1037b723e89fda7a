-- By the turn, the strings are taken in one order or the other.
use Rattle.std.proofs.Common.{◌≡◌, ℕ, refl, arith}
use Prim.Native.Nat.{zero, suc}
use Rattle.model.specs.State.{by_turn, state_of}
use Rattle.examination.proofs.state.state_at.Goals as goal

first : {A : Type 0} (turn : ℕ) → turn ≡ 0 → (a b : A) → by_turn turn a b ≡ a
first zero e a b = refl
first (suc n) e a b = absurd (omega arith)

second : {A : Type 0} (turn : ℕ) → (turn ≡ 0 → ⊥) → (a b : A) → by_turn turn a b ≡ b
second zero h a b = absurd (h refl)
second (suc n) h a b = refl

pub returns-then-turn-eq0 : goal.returns-then-turn-eq0
unfolding state_of
returns-then-turn-eq0 c =
    let e = c.if-turn-eq0.true in
    rw (first c.args.turn e c.args.first.now c.args.second.now, first c.args.turn e c.args.second.now c.args.first.now) refl

pub returns-else-turn-eq0 : goal.returns-else-turn-eq0
unfolding state_of
returns-else-turn-eq0 c =
    let h = c.if-turn-eq0.false in
    rw (second c.args.turn h c.args.first.now c.args.second.now, second c.args.turn h c.args.second.now c.args.first.now) refl
