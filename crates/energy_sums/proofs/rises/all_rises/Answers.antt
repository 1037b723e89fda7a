-- With the last segment it is the sum over all of them.
use Rattle.std.specs.Prelude.{◌≡◌, List, ℕ, suc, ◌+◌, ◌-◌, ◌^◌, ◌≤◌, ℤ, pos, ◌+ℤ◌, ◌-ℤ◌, ◌*ℤ◌, length}
use Rattle.std.proofs.Common.{sym, ◌∙◌, ap, ap₂, arith, w32, w64, SFits, to_z, of_z, to_z-of_z}
use Rattle.integers.specs.Sum.{sum}
use Rattle.integers.specs.Size as Size
use Rattle.integers.specs.Size.{◌within◌, ◌⟨+⟩◌, wide}
use Rattle.model.specs.Differences.{at, E}
use Rattle.laws.specs.Strings.{◌spans◌, rise}
use Rattle.energy_sums.specs.Raised.{raise, raised}
use Rattle.energy_sums.specs.Ends.{raised_rises, all-rises}
use Rattle.energy_sums.specs.Lines.{Pair, rise-within, end-rise, rise-fits, rise-is, rise-small, term-within}
use Rattle.energy_sums.specs.Summing.{few-terms, held_is}
use Rattle.energy_sums.proofs.rises.all_rises.Goals as goal

module _ {a b : List ℤ} {n : ℕ} (h : Pair a b) (e : n ≡ length a) where
  abbrev spans-a : a spans n
  spans-a = record { long = sym e }

  abbrev spans-b : b spans n
  spans-b = record { long = h.same ∙ sym e }

  some : 1 ≤ n
  some = let l = h.some in omega arith

  few : n + 1 ≤ 128
  few = let m = h.most in omega arith

  abbrev terms : ℕ → ℤ
  terms = raised_rises spans-a spans-b

  module _ (own other : ℤ) (p : own ≡ at a (suc (n - 1))) (q : other ≡ at b (suc (n - 1))) where
    abbrev fall : ℤ
    fall = pos 0 -ℤ to_z w32 (of_z w32 own)

    abbrev other_fall : ℤ
    other_fall = pos 0 -ℤ to_z w32 (of_z w32 other)

    fall_is : fall ≡ rise (at a) n
    fall_is = end-rise a h.first spans-a some p

    other_is : other_fall ≡ rise (at b) n
    other_is = end-rise b h.second spans-b some q

    -- the sum and the last term, as they are held
    module _ (total last : ℤ) (t : to_z w64 (of_z w64 total) ≡ sum n terms) (l : to_z w64 (of_z w64 last) ≡ raised (to_z w32 (of_z w32 fall)) (to_z w32 (of_z w32 other_fall))) where
      abbrev whole : ℤ
      whole = to_z w64 (of_z w64 total) +ℤ to_z w64 (of_z w64 last)

      last_is : to_z w64 (of_z w64 last) ≡ terms n
      last_is = l ∙ ap₂ raised (rise-is fall_is (rise-within a h.first n)) (rise-is other_is (rise-within b h.second n))

      whole-within : whole within 2 ^ 61
      whole-within = rw (t, last_is) (wide (few-terms n (let f = few in omega arith) (term-within a b h.first h.second) ⟨+⟩ term-within a b h.first h.second n) tt)

      whole-fits : SFits w64 whole
      whole-fits = Size.fits whole-within tt

      all_is : to_z w64 (of_z w64 whole) -ℤ raise *ℤ raise *ℤ pos (n + 1) ≡ E a b
      all_is = ap (λ z. z -ℤ raise *ℤ raise *ℤ pos (n + 1)) (to_z-of_z {w = w64} whole-fits ∙ ap₂ (λ a b. a +ℤ b) t last_is) ∙ all-rises spans-a spans-b

pub overflow_sub-own : goal.overflow_sub-own
overflow_sub-own g c = let h = c.requires.2 in rise-fits (fall_is h c.requires.3 _ _ c.number-own.ensures c.number-other.ensures) (rise-within _ h.first c.args.points)

pub overflow_sub-other : goal.overflow_sub-other
overflow_sub-other g c = let h = c.requires.2 in rise-fits (other_is h c.requires.3 _ _ c.number-own.ensures c.number-other.ensures) (rise-within _ h.second c.args.points)

pub raised_product-last-requires : goal.raised_product-last-requires
raised_product-last-requires g c =
    let h = c.requires.2 in (
      rise-small (fall_is h c.requires.3 _ _ c.number-own.ensures c.number-other.ensures) (rise-within _ h.first c.args.points),
      rise-small (other_is h c.requires.3 _ _ c.number-own.ensures c.number-other.ensures) (rise-within _ h.second c.args.points),
    )

pub overflow_add-total : goal.overflow_add-total
overflow_add-total g c =
    whole-fits c.requires.2 c.requires.3 _ _ c.number-own.ensures c.number-other.ensures c.rise_products-total.result c.raised_product-last.result (held_is c.rise_products-total.type_inv c.rise_products-total.ensures) (held_is c.raised_product-last.type_inv c.raised_product-last.ensures)

pub lowered-requires : goal.lowered-requires
lowered-requires g c =
    let k = whole-within c.requires.2 c.requires.3 _ _ c.number-own.ensures c.number-other.ensures c.rise_products-total.result c.raised_product-last.result (held_is c.rise_products-total.type_inv c.rise_products-total.ensures) (held_is c.raised_product-last.type_inv c.raised_product-last.ensures) in
    (rw (to_z-of_z {w = w64} (Size.fits k tt)) k, few c.requires.2 c.requires.3)

pub returns : goal.returns
returns g c =
    held_is c.lowered.type_inv c.lowered.ensures
    ∙ all_is c.requires.2 c.requires.3 _ _ c.number-own.ensures c.number-other.ensures c.rise_products-total.result c.raised_product-last.result (held_is c.rise_products-total.type_inv c.rise_products-total.ensures) (held_is c.raised_product-last.type_inv c.raised_product-last.ensures)
