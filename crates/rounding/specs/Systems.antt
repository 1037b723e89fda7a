-- A two-by-two system held in arrays and its solution as the code has it, and the sizes that the system of a step has.
use Rattle.std.specs.Prelude.{List, [], ◌∷◌, ℕ, ◌^◌, ℤ, pos, get_or, ◌<ℤ◌}
use Rattle.integers.specs.Machine.{Within}
use Rattle.model.specs.System.{System, det, rounded₁, rounded₂}
use Rattle.rounding.specs.declared.system.System as Declared
use Rattle.rounding.specs.declared.system.Solution.{Solution}

-- by rows and right side
abbrev pub system_of : Declared.System → System
system_of t =
    let row = get_or t.matrix 0 [] in
    let next = get_or t.matrix 1 [] in
    record {
      a₁₁ = get_or row 0 (pos 0);
      a₁₂ = get_or row 1 (pos 0);
      a₂₁ = get_or next 0 (pos 0);
      a₂₂ = get_or next 1 (pos 0);
      b₁ = get_or t.right 0 (pos 0);
      b₂ = get_or t.right 1 (pos 0);
    }

-- both parts of the solution, each rounded
abbrev pub rounded : System → Solution
rounded t = record { x = rounded₁ t; y = rounded₂ t }

-- the entries, and what 01's ranges keep them within: A + g², g², g², m + g², and the two right sides, rounded up
abbrev pub entries : System → List ℤ
entries t = t.a₁₁ ∷ t.a₁₂ ∷ t.a₂₁ ∷ t.a₂₂ ∷ t.b₁ ∷ t.b₂ ∷ []

abbrev pub system_sizes : List ℕ
system_sizes = 138242 ∷ 65025 ∷ 65025 ∷ 1113601 ∷ 2 ^ 38 ∷ 2 ^ 43 ∷ []

-- a system of that size with one solution
pub record Solvable (t : System) : Type 0 where
  pub regular : pos 0 <ℤ det t
  pub sizes : Within (entries t) system_sizes
