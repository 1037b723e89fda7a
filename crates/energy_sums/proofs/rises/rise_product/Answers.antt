-- The rises are within what is added to them.
use Rattle.std.proofs.Common.{◌∙◌, ap₂}
use Rattle.energy_sums.specs.Raised.{raised}
use Rattle.energy_sums.specs.Lines.{rise-within, between, rise-fits, rise-is, rise-small}
use Rattle.energy_sums.specs.Summing.{held_is}
use Rattle.energy_sums.proofs.rises.rise_product.Goals as goal

pub overflow_sub-own : goal.overflow_sub-own
overflow_sub-own g c = let h = c.requires.2 in let l = c.requires.3 in rise-fits (between _ h.first l c.number-own.ensures c.number-left.ensures) (rise-within _ h.first c.args.i)

pub overflow_sub-other : goal.overflow_sub-other
overflow_sub-other g c = let h = c.requires.2 in let l = c.requires.3 in rise-fits (between _ h.second l c.number-other.ensures c.number-other_left.ensures) (rise-within _ h.second c.args.i)

pub raised_product-requires : goal.raised_product-requires
raised_product-requires g c =
    let h = c.requires.2 in
    let l = c.requires.3 in (
      rise-small (between _ h.first l c.number-own.ensures c.number-left.ensures) (rise-within _ h.first c.args.i),
      rise-small (between _ h.second l c.number-other.ensures c.number-other_left.ensures) (rise-within _ h.second c.args.i),
    )

pub returns : goal.returns
returns g c =
    let h = c.requires.2 in
    let l = c.requires.3 in
    held_is c.raised_product.type_inv c.raised_product.ensures ∙ ap₂ raised (rise-is (between _ h.first l c.number-own.ensures c.number-left.ensures) (rise-within _ h.first c.args.i)) (rise-is (between _ h.second l c.number-other.ensures c.number-other_left.ensures) (rise-within _ h.second c.args.i))
