-- Calls that answer a refusal by its name: what a table then gives, where a part of it was examined by the call of another function.
use Rattle.std.specs.Prelude.{◌≡◌, List, ◌++◌, ℕ, T, ltb, Result, Err}
use Rattle.std.specs.Result.{IsErr, IsErrAnd}
use Rattle.std.proofs.Common.{◌∙◌, ap}
use Rattle.std.proofs.lemmas.Result.{err_from_is_err_and}
use Rattle.model.specs.Refusal.{Rule, first_of, number, unless}
use Rattle.model.specs.declared.refusal.Refusal.{Refusal}
use Rattle.laws.specs.Refusals.{front-number, refused-by}

-- no refusal has the number 0
above : (e : Refusal) → T (ltb 0 (number e))
above Refusal.Segments = tt
above Refusal.Coefficient = tt
above Refusal.CoefficientSum = tt
above Refusal.Place = tt
above Refusal.Mass = tt
above Refusal.BufferLength = tt
above Refusal.Height = tt
above Refusal.Frets = tt
above Refusal.Tip = tt
above Refusal.StartHeight = tt
above Refusal.State = tt
above Refusal.Force = tt
above Refusal.NewDisplacement = tt
above Refusal.NewContact = tt
above Refusal.ForceCount = tt
above Refusal.BookCount = tt
above Refusal.BookColumn = tt
above Refusal.FretCount = tt
above Refusal.FretPlace = tt

pub number-not-zero : (e : Refusal) → number e ≡ 0 → ⊥
number-not-zero e z = rw z at (above e)

-- a call that examined these rows answered e: a table that begins with them gives its number
pub refused-rows : (rows : List Rule) (e : Refusal) → number e ≡ first_of rows → (rest : List Rule) → first_of (rows ++ rest) ≡ number e
refused-rows rows e judged rest = front-number rows rest (number e) judged (number-not-zero e)

-- what becomes of the number that a table gives
pub turned-down {ℓ} : {R : Type ℓ} (rules : List Rule) (made : R) (down : ℕ → R) (e : Refusal) → first_of rules ≡ number e → down (number e) ≡ unless (first_of rules) made down
turned-down rules made down e given = refused-by rules made down (number e) given (number-not-zero e)

-- the refusal that `?` hands on is that of the call
pub handed-on : {A : Type 0} (r : Result A Refusal) (e : Refusal) → IsErr r × IsErrAnd r (λ x. x ≡ e) → r ≡ Err e
handed-on r e h = let (x, is, same) = err_from_is_err_and r h.1 in is ∙ ap (λ x. Err x) same
