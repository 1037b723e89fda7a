-- A passed table leads to the three cleared buffers.
use Rattle.std.proofs.Common.{◌≡◌, ◌∙◌, ap, ap₂, ℤ, pos, w32, SFits, to_z, of_z, to_z-of_z}
use Rattle.model.specs.Start.{StartResult, start}
use Rattle.laws.specs.Answered.{handed-on}
use Rattle.start.proofs.Table.{turned_down, held, started}
use Rattle.start.proofs.fresh_start.Goals as goal

abbrev bits : ℤ → ℤ
bits x = to_z w32 (of_z w32 x)

-- the heights are those that are read back
read-back : (by : ℤ → ℤ → StartResult) (height older : ℤ) → SFits w32 height → SFits w32 older → by (bits height) (bits older) ≡ by height older
read-back by height older h o = ap₂ by (to_z-of_z h) (to_z-of_z o)

pub returns-in_err-examine : goal.returns-in_err-examine
returns-in_err-examine c =
    let k = c.args in
    rw (handed-on _ _ c.from_residual.ensures) (turned_down k.setup k.first.now k.second.now k.contact.now (bits k.height) (bits k.older) _ c.in_err-examine.ensures ∙ read-back (start k.setup k.first.now k.second.now k.contact.now) k.height k.older c.ranges.height c.ranges.older)

pub stored_energy-stored-requires : goal.stored_energy-stored-requires
stored_energy-stored-requires c =
    let k = c.args in
    held k.setup k.first.now k.second.now k.contact.now (bits k.height) (bits k.older) c.in_ok-examine.ensures (c.fill.ensures.after (λ y e. e)) (c.fill-2.ensures.after (λ y e. e)) (c.fill-3.ensures.after (λ y e. e))

pub returns : goal.returns
returns c =
    let k = c.args in
    let q = c.new_book.ensures ∙ ap (λ z. record { stored = z; work = pos 0; loss = pos 0; rounding = pos 0; count = 0 }) c.stored_energy-stored.ensures in
    started k.setup k.first.now k.second.now k.contact.now (bits k.height) (bits k.older) c.in_ok-examine.ensures (c.fill.ensures.after (λ y e. e)) (c.fill-2.ensures.after (λ y e. e)) (c.fill-3.ensures.after (λ y e. e)) c.new_book.result q
    ∙ read-back (start k.setup k.first.now k.second.now k.contact.now) k.height k.older c.ranges.height c.ranges.older
