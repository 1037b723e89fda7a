-- `clash` meets its contract.
use mathlib.Core.Path.{◌≡◌, sym, ap, ◌∙◌}
use Prim.Native.Nat.{ℕ, suc, ◌<◌}
use native.Mathlib.Numerals.{add-one}
use native.Mathlib.Omega.{arith}
use lib.ListN.{length, get_or}
use Rattle.integers.specs.Filled.{length-tabulate, get_d_tabulate}
use Rattle.model.specs.Frets.{fret_place, fret_places}
use Rattle.fret_places.specs.Clash.{none-judged, judged-more, all-judged}
use Rattle.fret_places.proofs.list.clash.Goals as goal

-- the list's length and its entries
module _ (N n : ℕ) where
  long : length (fret_places N n) ≡ n
  unfolding fret_places
  long = length-tabulate n (λ k. fret_place N (suc k))

  entry : (k : ℕ) → k < n → get_or (fret_places N n) k 0 ≡ fret_place N (suc k)
  unfolding fret_places
  entry k l = get_d_tabulate n (λ k. fret_place N (suc k)) 0 k l

pub loop-k-preserved : goal.loop-k-preserved
loop-k-preserved c =
    let l = c.before.before in
    let a = l.args in
    let k = l.loop-k.k in
    (omega arith, judged-more l.loop-k.invariant.1 (rw (long a.segments a.number) (omega arith)) c.place-own.result (c.place-own.ensures ∙ ap (fret_place a.segments) (add-one k) ∙ sym (entry a.segments a.number k (omega arith))))

pub returns : goal.returns
returns c = let l = c.before in let a = l.args in all-judged l.loop-k.invariant.1 (rw (long a.segments a.number) c.loop-k-test.false)

pub loop-k-init : goal.loop-k-init
loop-k-init c = (omega arith, none-judged (fret_places c.args.segments c.args.number))
