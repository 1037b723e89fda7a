-- 02, item 3: the contact variables of the points that are cleared before a step.
use Rattle.std.specs.Prelude.{◌≡◌, Bool, true, ℕ, ◌≤◌, T, ℤ, pos, negsuc, ◌-ℤ◌, length}
use Rattle.std.proofs.Math.Path.{refl, ap}
use Rattle.std.proofs.Common.{sym, ◌∙◌, arith}
use mathlib.Core.List.{List, zip_with}
use Rattle.integers.specs.Size.{◌within◌}
use Rattle.model.specs.Differences.{at, minus, dot}
use Rattle.model.specs.Ranges.{all, inside, contact_ok}
use Rattle.model.specs.Step.{let_go}
use Rattle.laws.specs.EnergySizes.{dot-within, let_go-within}
use Rattle.laws.specs.Sizes.{Bounded, bounded}
use Rattle.laws.specs.Strings.{◌spans◌, spans-minus, at-minus, spans-zip, at-zip}

-- of a neck's heights, the newer string and the contact variables
unfoldable pub cleared_contacts : (heights newer contact : List ℤ) → List ℤ
cleared_contacts heights newer contact = zip_with let_go (minus heights newer) contact

pub record Contacts (heights newer contact : List ℤ) : Type 0 where
  pub heights-length : length heights ≡ length contact
  pub newer-length : length newer ≡ length contact
  pub most : length contact ≤ 127
  pub range : T (all contact_ok contact)

module _ {heights newer contact : List ℤ} (h : Contacts heights newer contact) where
  hd : minus heights newer spans length contact
  hd = spans-minus (record { long = h.heights-length }) (record { long = h.newer-length })

  pub spans-cleared : cleared_contacts heights newer contact spans length contact
  unfolding cleared_contacts let_go
  spans-cleared = spans-zip let_go refl hd (record { long = refl })

  pub at-cleared : (i : ℕ) → at (cleared_contacts heights newer contact) i ≡ let_go (at heights i -ℤ at newer i) (at contact i)
  unfolding cleared_contacts let_go
  at-cleared i = at-zip let_go refl hd (record { long = refl }) i ∙ ap (λ d. let_go d (at contact i)) (at-minus (record { long = h.heights-length }) (record { long = h.newer-length }) i)

  pub contact-within : (i : ℕ) → at contact i within 67108864
  unfolding contact_ok
  contact-within = bounded 67108864 contact h.range

  pub cleared-within : (i : ℕ) → at (cleared_contacts heights newer contact) i within 67108864
  cleared-within i = rw (at-cleared i) (let_go-within (at heights i -ℤ at newer i) (at contact i) (contact-within i))

  pub few-cleared : length (cleared_contacts heights newer contact) ≤ 127
  few-cleared = let e = spans-cleared.long in let m = h.most in omega arith

  -- what is 0 is cleared to 0
  pub zero-cleared : Bounded contact 0 → Bounded (cleared_contacts heights newer contact) 0
  zero-cleared z i = rw (at-cleared i) (let_go-within (at heights i -ℤ at newer i) (at contact i) (z i))

-- ---- no contact variable other than 0

-- as a scan finds it
pub all-zero : (ψ : List ℤ) {t : Bool} → t ≡ all (λ x. inside (pos 0) x (pos 0)) ψ → t ≡ true → Bounded ψ 0
all-zero ψ e q = bounded 0 ψ (rw (sym e ∙ q) tt)

pub zero-sum : (ψ : List ℤ) → length ψ ≤ 127 → Bounded ψ 0 → dot ψ ψ ≡ pos 0
zero-sum ψ l z = none (dot ψ ψ) (dot-within ψ ψ l z z)
  where
    none : (x : ℤ) → x within 0 → x ≡ pos 0
    none (pos n) h = let e : n ≡ 0 = (let l = h.size in omega arith) in ap pos e
    none (negsuc n) h = absurd (let l = h.size in omega arith)
