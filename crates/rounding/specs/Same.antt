-- Two systems with the same entries are the same.
use Rattle.std.specs.Prelude.{◌≡◌}
use Rattle.model.specs.System.{System}

pub same-system : {t t' : System} → t.a₁₁ ≡ t'.a₁₁ → t.a₁₂ ≡ t'.a₁₂ → t.a₂₁ ≡ t'.a₂₁ → t.a₂₂ ≡ t'.a₂₂ → t.b₁ ≡ t'.b₁ → t.b₂ ≡ t'.b₂ → t ≡ t'
same-system e₁₁ e₁₂ e₂₁ e₂₂ e₁ e₂ = λ i. record { a₁₁ = e₁₁ i; a₁₂ = e₁₂ i; a₂₁ = e₂₁ i; a₂₂ = e₂₂ i; b₁ = e₁ i; b₂ = e₂ i }
