-- A scan of a list that keeps one flag: the test of the whole list is the flag, joined with the same test of what is left.
use Rattle.std.specs.Prelude.{◌≡◌, Bool, List, ℕ, ◌+◌, drop}
use Rattle.std.proofs.Common.{sym, ◌∙◌, ap}

-- the flag after i entries; `join` is `◌&&◌` where every entry has to pass, `◌||◌` where one is enough
pub record Scanned {A : Type 0} (join : Bool → Bool → Bool) (test : List A → Bool) (xs : List A) (flag : Bool) (i : ℕ) : Type 0 where
  pub whole : test xs ≡ join flag (test (drop i xs))

module _ {A : Type 0} {join : Bool → Bool → Bool} {test : List A → Bool} {xs : List A} {flag : Bool} {i : ℕ} (s : Scanned join test xs flag i) where
  -- an entry more, of which the test says t
  pub more : ((a b c : Bool) → join (join a b) c ≡ join a (join b c)) → (t : Bool) → test (drop i xs) ≡ join t (test (drop (i + 1) xs)) → Scanned join test xs (join flag t) (i + 1)
  more assoc t e = record { whole = s.whole ∙ ap (join flag) e ∙ sym (assoc flag t (test (drop (i + 1) xs))) }

  -- nothing left that could change the flag
  pub over : {end : Bool} → join flag end ≡ flag → test (drop i xs) ≡ end → flag ≡ test xs
  over unit e = sym (s.whole ∙ ap (join flag) e ∙ unit)
