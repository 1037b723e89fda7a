-- Scans of lists: every entry has to pass, or one that passes is enough.
use Rattle.std.specs.Prelude.{◌≡◌, refl, Bool, true, false, ◌&&◌, ◌||◌, List, ◌∷◌, ℕ, ◌+◌, ◌≤◌, ◌<◌, ℤ, pos, length, get_or}
use Rattle.std.proofs.Common.{ap₂, ◌∙◌, add-one, drop_of_length-le, drop-cons, SFits, to_z, of_z, to_z-of_z}
use Rattle.std.proofs.Math.Bool.{and_assoc, and-true, or_assoc, or-false}
use Rattle.std.specs.Int.{Width}
use Rattle.integers.specs.Scan.{Scanned, more, over}
use Rattle.model.specs.Ranges.{all, any, inside}

pub none_yet : {A : Type 0} {test : List A → Bool} {xs : List A} → Scanned ◌&&◌ test xs true 0
none_yet = record { whole = refl }

pub none_found : {A : Type 0} {test : List A → Bool} {xs : List A} → Scanned ◌||◌ test xs false 0
none_found = record { whole = refl }

-- one entry more, of a test that joins those of the entries
module _ {A : Type 0} {join : Bool → Bool → Bool} {test : List A → Bool} (f : A → Bool) {xs : List A} {flag : Bool} {i : ℕ} (s : Scanned join test xs flag i) where
  one_more : ((a b c : Bool) → join (join a b) c ≡ join a (join b c)) → ((x : A) (l : List A) → test (x ∷ l) ≡ join (f x) (test l))
      → i < length xs → (d : A) (t : Bool) → t ≡ f (get_or xs i d) → Scanned join test xs (join flag t) (i + 1)
  one_more assoc joined l d t e = more s assoc t (rw (e, add-one, drop-cons xs i d) (joined _ _))

module _ {A : Type 0} (f : A → Bool) {xs : List A} {ok : Bool} {i : ℕ} (s : Scanned ◌&&◌ (all f) xs ok i) where
  pub more-all : i < length xs → (d : A) (t : Bool) → t ≡ f (get_or xs i d) → Scanned ◌&&◌ (all f) xs (ok && t) (i + 1)
  more-all = one_more f s and_assoc (λ x l. refl)

  pub over-all : length xs ≤ i → ok ≡ all f xs
  over-all l = over s (and-true ok) (rw (drop_of_length-le xs l))

module _ {A : Type 0} (f : A → Bool) {xs : List A} {found : Bool} {i : ℕ} (s : Scanned ◌||◌ (any f) xs found i) where
  pub more-any : i < length xs → (d : A) (t : Bool) → t ≡ f (get_or xs i d) → Scanned ◌||◌ (any f) xs (found || t) (i + 1)
  more-any = one_more f s or_assoc (λ x l. refl)

  pub over_any : length xs ≤ i → found ≡ any f xs
  over_any l = over s (or-false found) (rw (drop_of_length-le xs l))

-- ---- every signed number lies between two ends, which a loop holds as bits

abbrev pub inside_bits : Width → ℕ → ℕ → ℤ → Bool
inside_bits w low high x = inside (to_z w low) x (to_z w high)

module _ (w : Width) (low high : ℤ) {xs : List ℤ} {ok : Bool} {i : ℕ} (s : Scanned ◌&&◌ (all (inside_bits w (of_z w low) (of_z w high))) xs ok i) where
  abbrev test : ℤ → Bool
  test = inside_bits w (of_z w low) (of_z w high)

  -- t is said of the number as it is read back from its bits
  pub more-inside : i < length xs → SFits w (get_or xs i (pos 0)) → (t : Bool) → t ≡ test (to_z w (of_z w (get_or xs i (pos 0)))) → Scanned ◌&&◌ (all test) xs (ok && t) (i + 1)
  more-inside l f t e = more-all test s l (pos 0) t (rw (to_z-of_z f) at e)

  pub over-inside : length xs ≤ i → SFits w low → SFits w high → ok ≡ all (λ x. inside low x high) xs
  over-inside l p q = over-all test s l ∙ ap₂ (λ a b. all (λ x. inside a x b) xs) (to_z-of_z p) (to_z-of_z q)
