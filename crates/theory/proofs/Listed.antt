-- What is listed for a column in a flat list of pairs.
-- Assumes nothing.
use Prim.Native.Nat.{ℕ, ◌<◌}
use mathlib.Core.Bool.{Bool, true, false}
use mathlib.Core.List.{List}
use mathlib.Core.Logic.{◌≢◌}
use mathlib.Core.Option.{Option, none, some}
use mathlib.Core.Path.{◌≡◌, refl, sym, ap, ◌∙◌}
use native.Mathlib.Omega.{arith}
use lib.Dec.{eqb}
use Rattle.bounded.specs.Bounded.{first_below}
use Rattle.bounded.proofs.All.{all-at}
use Rattle.bounded.proofs.Any.{any_none}
use Rattle.bounded.proofs.First.{first_holds, First, found, absent, first-cases}
use Rattle.bounded.proofs.Reflection.{if-cases, of-true, of-false, eqb-r, ltb-r}
use Rattle.model.specs.Insert.{key_listed}
use Rattle.model.specs.Listed.{pairs, column_at, second_at, each, listed, lists}

-- the first pair of the column, or none
data Entry (list : List ℕ) (k : ℕ) (o : Option ℕ) : Type 0 where
  entry : (i : ℕ) → i < pairs list → column_at list i ≡ k → o ≡ some (second_at list i) → Entry list k o
  missing : ((i : ℕ) → i < pairs list → column_at list i ≢ k) → o ≡ none → Entry list k o

entry? : (list : List ℕ) (k : ℕ) → Entry list k (listed list k)
unfolding listed
entry? list k =
    if-cases (Entry list k) (ltb-r (first_below (pairs list) is) (pairs list))
    (λ h. entry (first_below (pairs list) is) h (of-true (eqb-r (column_at list (first_below (pairs list) is)) k) (first_holds (pairs list) is h)) refl)
    (λ n. missing (λ i h. misses (first-cases (pairs list) is) n i h) refl)
  where
    is : ℕ → Bool
    is i = eqb (column_at list i) k

    misses : First (pairs list) is (first_below (pairs list) is) → (first_below (pairs list) is < pairs list → ⊥) → (i : ℕ) → i < pairs list → column_at list i ≢ k
    misses (found h _ _) n i _ = absurd (n h)
    misses (absent _ f) n i h = of-false (eqb-r (column_at list i) k) (f i h)

pub each-listed : (p : ℕ → ℕ → Bool) (list : List ℕ) (k v : ℕ) → each p list ≡ true → listed list k ≡ some v → p k v ≡ true
unfolding each
each-listed p list k v e q = go (entry? list k) q
  where
    go : {o : Option ℕ} → Entry list k o → o ≡ some v → p k v ≡ true
    go (entry i h c s) q = cc (all-at (pairs list) (λ i. p (column_at list i) (second_at list i)) e i h, c, s, q)
    go (missing _ s) q = let z : ◌≡◌ {A = ℕ} 0 1 = cc in absurd (omega (arith, z))

pub not_listed : (list : List ℕ) (k : ℕ) → lists list k ≡ false → listed list k ≡ none
unfolding lists
not_listed list k e = go (entry? list k)
  where
    go : {o : Option ℕ} → Entry list k o → o ≡ none
    go (entry i h c s) = absurd (of-false (eqb-r (column_at list i) k) (any_none (pairs list) (λ i. eqb (column_at list i) k) e i h) c)
    go (missing _ s) = s

pub key-listed : (list : List ℕ) → key_listed list ≢ 0 → listed list 1 ≡ some (key_listed list)
unfolding key_listed
key-listed list n = go (listed list 1) refl
  where
    go : (o : Option ℕ) → listed list 1 ≡ o → listed list 1 ≡ some (key_listed list)
    go none q = absurd (n (rw (q, key_listed)))
    go (some v) q = q ∙ ap some (sym (rw (q, key_listed)))
