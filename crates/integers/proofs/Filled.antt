-- What a loop that has come to the end has filled.
use Rattle.std.specs.Prelude.{◌≡◌, List, ℕ, ◌≤◌}
use Rattle.std.proofs.Common.{sym, ◌∙◌, le_refl, le_of_eq, take_all}
use Rattle.integers.specs.Filled.{tabulate, Filled, filled-first}

module _ {A : Type 0} {d : A} {n : ℕ} {f : ℕ → A} where
  -- all of the elements
  pub filled-all : {i : ℕ} {l : List A} → n ≤ i → Filled d n f i l → l ≡ tabulate n f
  filled-all {i} {l} h F = sym (take_all n l (le_of_eq F.len)) ∙ filled-first h (le_refl n) F
