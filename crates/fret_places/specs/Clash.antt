-- 19, gone through from the front, as the code does.
use Rattle.std.specs.Prelude.{◌≡◌, refl, Bool, true, false, ◌||◌, List, [], ◌∷◌, ℕ, ◌+◌, ◌≤◌, ◌<◌, eqb, length, get_or, drop}
use Rattle.std.proofs.Common.{sym, ◌∙◌, ap, ap₂, add-one, drop_of_length-le, drop-cons}
use Rattle.std.proofs.Math.Bool.{or_assoc, or-false}
use Rattle.model.specs.Ranges.{any}
use Rattle.model.specs.Frets.{repeats, places_clash}

-- a place is 0 or its predecessor's, where `previous` stands before the list
abbrev pub clash_after : ℕ → List ℕ → Bool
clash_after previous [] = false
clash_after previous (i ∷ is) = (eqb 0 i || eqb previous i) || clash_after i is

exchanged : (a b c d : Bool) → ((a || b) || (c || d)) ≡ ((a || c) || (b || d))
exchanged true b c d = refl
exchanged false true true d = refl
exchanged false true false d = refl
exchanged false false c d = refl

both : (previous : ℕ) (is : List ℕ) → clash_after previous is ≡ (any (eqb 0) is || repeats (previous ∷ is))
both previous [] = refl
both previous (i ∷ is) = ap (λ t. (eqb 0 i || eqb previous i) || t) (both i is) ∙ exchanged (eqb 0 i) (eqb previous i) (any (eqb 0) is) (repeats (i ∷ is))

-- the first place is compared with 0 twice
pub from-nut : (is : List ℕ) → places_clash is ≡ clash_after 0 is
from-nut [] = refl
from-nut (i ∷ is) = once (eqb 0 i) (any (eqb 0) is) (repeats (i ∷ is)) ∙ sym (both 0 (i ∷ is))
  where
    once : (a b c : Bool) → ((a || b) || c) ≡ ((a || b) || (a || c))
    once true b c = refl
    once false b c = refl

-- ---- the loop: what is found among the first k places of the list, and the place before the next

pub record Judged (is : List ℕ) (found : Bool) (previous k : ℕ) : Type 0 where
  pub whole : places_clash is ≡ (found || clash_after previous (drop k is))

pub none-judged : (is : List ℕ) → Judged is false 0 0
none-judged is = record { whole = from-nut is }

-- a place more
pub judged-more : {is : List ℕ} {found : Bool} {previous k : ℕ} → Judged is found previous k → k < length is → (own : ℕ) → own ≡ get_or is k 0
    → Judged is (found || (eqb 0 own || eqb previous own)) own (k + 1)
judged-more {is} {found} {previous} {k} j l own e = record {
  whole = j.whole ∙ ap (λ l. found || clash_after previous l) (drop-cons is k 0 l ∙ ap₂ (λ i l. i ∷ l) (sym e) (ap (λ n. drop n is) (sym (add-one k))))
      ∙ sym (or_assoc found (eqb 0 own || eqb previous own) (clash_after own (drop (k + 1) is)));
}

-- none left
pub all-judged : {is : List ℕ} {found : Bool} {previous k : ℕ} → Judged is found previous k → length is ≤ k → found ≡ places_clash is
all-judged {is} {found} {previous} j l = sym (j.whole ∙ ap (λ l. found || clash_after previous l) (drop_of_length-le is l) ∙ or-false found)
