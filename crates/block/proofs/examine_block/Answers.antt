-- The rows 1 to 5 and 6 are gone through, then 15, then 7 and 11.
use Rattle.std.proofs.Common.{◌≡◌, sym, ◌∙◌}
use Rattle.std.specs.Prelude.{Bool, true, false, List, ℕ, ℤ, Float, length, drop}
use Rattle.model.specs.Block.{counts_wrong, block_rules}
use Rattle.model.specs.Lending.{the_neck, the_lent}
use Rattle.model.specs.Refusal.{Rule, first_of, number}
use Rattle.model.specs.Setup.{setup_rules}
use Rattle.model.specs.State.{Lent, state_of, Neck}
use Rattle.model.specs.declared.Setup.{Setup}
use Rattle.model.specs.declared.refusal.Refusal.{Refusal}
use Rattle.laws.specs.Answered.{handed-on, refused-rows}
use Rattle.laws.specs.Call.{buffer_rows, state_rows, buffers-reached, judged-in-order}
use Rattle.laws.specs.Refusals.{row-passed, row-holds}
use Rattle.block.proofs.examine_block.Goals as goal

-- by what each examination answered
module _ (s : Setup) (neck : Neck) (v : Lent) (forces : List ℤ) (samples : List Float) where
  abbrev table : List Rule
  table = block_rules s neck v forces samples

  held-6 : (e : Refusal) → number e ≡ first_of (buffer_rows s neck (state_of v)) → number e ≡ first_of table
  unfolding block_rules setup_rules
  held-6 e judged = sym (refused-rows (buffer_rows s neck (state_of v)) e judged (drop 6 table))

  module _ (passed-6 : 0 ≡ first_of (buffer_rows s neck (state_of v))) {t : Bool} (e-15 : t ≡ counts_wrong (length forces) (length samples)) where
    held-15 : t ≡ true → 15 ≡ first_of table
    unfolding block_rules setup_rules
    held-15 h = sym (row-holds (buffers-reached s neck (state_of v) (sym passed-6) (drop 6 table)) e-15 h)

    after-15 : t ≡ false → {n : ℕ} → n ≡ first_of (state_rows neck.heights (state_of v)) → n ≡ first_of table
    unfolding block_rules setup_rules
    after-15 h judged = judged ∙ sym (row-passed (buffers-reached s neck (state_of v) (sym passed-6) (drop 6 table)) e-15 h).number

pub returns-in_err-examine_buffers : goal.returns-in_err-examine_buffers
returns-in_err-examine_buffers c =
    let s = c.args.setup in
    let neck = the_neck c.args.neck in
    let v = the_lent c.args.lent.now in
    rw (handed-on _ _ c.from_residual.ensures) (held-6 s neck v _ _ _ (judged-in-order v (buffer_rows s neck) _ c.in_order-state.ensures c.in_err-examine_buffers.ensures))

pub returns-then-counts_wrong : goal.returns-then-counts_wrong
returns-then-counts_wrong c =
    let s = c.args.setup in
    let neck = the_neck c.args.neck in
    let v = the_lent c.args.lent.now in
    held-15 s neck v _ _ (judged-in-order v (buffer_rows s neck) 0 c.in_order-state.ensures c.in_ok-examine_buffers.ensures) c.counts_wrong.ensures c.if-counts_wrong.true

pub returns : goal.returns
returns c =
    let s = c.args.setup in
    let neck = the_neck c.args.neck in
    let v = the_lent c.args.lent.now in
    after-15 s neck v _ _ (judged-in-order v (buffer_rows s neck) 0 c.in_order-state.ensures c.in_ok-examine_buffers.ensures) c.counts_wrong.ensures c.if-counts_wrong.false
    (judged-in-order v (state_rows neck.heights) _ c.in_order-state.ensures c.examine_state.ensures)
