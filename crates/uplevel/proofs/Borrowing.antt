-- What an UPLEVEL borrows: whether a reference names its row, and what a new cell is, way by way.
-- Assumes nothing.
use Rattle.std.specs.Prelude.{Some, None, if◌then◌else◌}
use Prim.Native.Nat.{ℕ, ◌+◌, ◌*◌}
use mathlib.Core.Path.{◌≡◌, refl, sym, ap, ◌∙◌}
use mathlib.Core.Bool.{Bool, true, false, not, ◌&&◌}
use mathlib.Core.Logic.{◌≢◌}
use mathlib.Core.List.{List}
use mathlib.Core.Option.{Option, none, some}
use native.Mathlib.Nat.{lt_irrefl}
use lib.Dec.{eqb}
use lib.ListN.{get_or}
use borrow.Author.Tests.{eq-eqb, ne_eqb}
use Rattle.bounded.proofs.Reflection.{of-true, and_r, bool-r}
use Rattle.model.specs.declared.Description.{Description}
use Rattle.model.specs.Description.{is_level, is_column, over, foreign_of, refers_of}
use Rattle.model.specs.Tables.{Cell, State, Tables, cell, same, rows_of, seen, at, own_null, lends}
use Rattle.model.specs.Listed.{each, listed}
use Rattle.model.specs.Effect.{agrees, names_row}
use Rattle.model.specs.Uplevel.{borrowed_names, borrowed, raised}
use Rattle.model.proofs.Sound.{column-r}
use Rattle.asked.specs.Facts.{Found}
use Rattle.theory.proofs.Listed.{each-listed}
use Rattle.theory.proofs.Fine.{cell-path, lends-class}
use Rattle.theory.proofs.Reach.{null-value}
use Rattle.theory.proofs.Seen.{seen_at}
use Rattle.uplevel.specs.Raising.{strayed}
use Rattle.change.proofs.Pairs.{listed-none, listed-some}

-- a column that is listed exists, and the level that it is listed with is seen
pub listed-column : (d : Description) (r : ℕ) (list : List ℕ) (k a : ℕ) → each (λ k l. is_column d r k && is_level d l) list ≡ true → listed list k ≡ some a → is_column d r k ≡ true
listed-column d r list k a h e = (of-true (and_r (bool-r (is_column d r k)) (bool-r (is_level d a))) (each-listed (λ k l. is_column d r k && is_level d l) list k a h e)).0

pub from-seen : (d : Description) (c : ℕ) (list : List ℕ) (k : ℕ) {i : ℕ} → each (λ k a. over d c a) list ≡ true → Found list k (Some i) → over d c (get_or list (2 * i + 1) 0) ≡ true
from-seen d c list k h F = each-listed (λ k a. over d c a) list k _ h (listed-some list k F)

module _ (d : Description) (c r : ℕ) (e : Cell) (list : List ℕ) (S : State) where
  abbrev T : Tables
  T = rows_of (seen d c S)

  -- whether what is borrowed names its row
  abbrev naming : Option ℕ → Bool
  naming o = elim o [ none ↦ true | some a ↦ names_row d c r T (lends (at d T r a e.value) e (foreign_of d r) a).value ]

  names-by : {k : ℕ} {o : Option ℕ} → k ≡ foreign_of d r → listed list k ≡ o → naming o ≡ borrowed_names d c r e list T
  unfolding borrowed_names
  names-by f q = ap naming (sym q ∙ ap (listed list) f)

  -- no column 0 is listed
  pub borrows-unreferring : each (λ k l. is_column d r k && is_level d l) list ≡ true → {k : ℕ} → k ≡ foreign_of d r → k ≡ 0 → true ≡ borrowed_names d c r e list T
  borrows-unreferring h f z = go (listed list 0) refl
    where
      go : (o : Option ℕ) → listed list 0 ≡ o → true ≡ borrowed_names d c r e list T
      go none q = names-by (sym z ∙ f) q
      go (some a) q = absurd (lt_irrefl 0 (of-true (column-r d r 0) (listed-column d r list 0 a h q)).0)

  module _ {k : ℕ} (f : k ≡ foreign_of d r) where
    pub borrows-unlisted : Found list k None → true ≡ borrowed_names d c r e list T
    borrows-unlisted F = names-by f (listed-none list k F)

    module _ {i : ℕ} (F : Found list k (Some i)) (o : over d c c ≡ true) (s : over d c (get_or list (2 * i + 1) 0) ≡ true) where
      seen-names : (v : ℕ) → names_row d c r T v ≡ names_row d c r (rows_of S) v
      unfolding names_row
      seen-names v = rw (seen_at d S c (refers_of d r) c v o)

      pub borrows-listed : {w : ℕ} → w ≡ (lends (at d (rows_of S) r (get_or list (2 * i + 1) 0) e.value) e k (get_or list (2 * i + 1) 0)).value
          → {b : Bool} → b ≡ names_row d c r (rows_of S) w → b ≡ borrowed_names d c r e list T
      borrows-listed {w} p q =
          q ∙ sym (seen-names w) ∙ ap (names_row d c r T) (rw (← f, seen_at d S c r (get_or list (2 * i + 1) 0) e.value s) p) ∙ names-by f (listed-some list k F)

-- ---- a reference that names another entity

module _ (d : Description) (S : State) (r c k a v : ℕ) {f : ℕ} (F : f ≡ foreign_of d r) where
  pub strays-other : (k ≡ f → ⊥) → false ≡ strayed d (at d (rows_of S)) r c k a v
  unfolding strayed
  strays-other n = rw (← F, ne_eqb k f n)

  module _ (e : k ≡ f) where
    pub strays-null : v ≡ 0 → false ≡ strayed d (at d (rows_of S)) r c k a v
    unfolding strayed
    strays-null z = rw (← F, eq-eqb k f e, eq-eqb v 0 z)

    pub strays-named : (v ≡ 0 → ⊥) → {t : ℕ} → t ≡ refers_of d r → {b : Bool} → b ≡ same (at d (rows_of S) t c v 1) (at d (rows_of S) t a v 1) → not b ≡ strayed d (at d (rows_of S)) r c k a v
    unfolding strayed agrees
    strays-named n q p = rw (← F, eq-eqb k f e, ne_eqb v 0 n, ← q, p)

-- ---- a new cell

-- own null, by its class
null_is : (d : Description) (r k c : ℕ) {own : ℕ} → own ≡ (own_null d r k c).class → cell 0 own ≡ own_null d r k c
null_is d r k c x = cell-path (sym (null-value d r k c)) x

module _ (d : Description) (c r : ℕ) (e : Cell) (S : State) (k a : ℕ) (o : over d c c ≡ true) (s : over d c a ≡ true) {w : ℕ} (p : w ≡ (lends (at d (rows_of S) r a e.value) e k a).value)
    {b : Bool} (q : b ≡ strayed d (at d (rows_of S)) r c k a w) where
  lent_is : lends (at d (rows_of (seen d c S)) r a e.value) e k a ≡ cell w a
  lent_is = rw (seen_at d S c r a e.value s) (cell-path (sym p) (lends-class _ e k a))

  strayed-is : (eqb k (foreign_of d r) && (not (eqb w 0) && not (agrees d (at d (rows_of (seen d c S))) r c a w))) ≡ b
  unfolding strayed agrees
  strayed-is = rw (seen_at d S c (refers_of d r) a w s, seen_at d S c (refers_of d r) c w o) (sym q)

  taken_is : borrowed d (at d (rows_of (seen d c S))) c r e k a ≡ (if b then own_null d r k c else cell w a)
  unfolding borrowed
  taken_is = rw (lent_is, strayed-is)

  pub taken-strayed : b ≡ true → {own : ℕ} → own ≡ (own_null d r k c).class → cell 0 own ≡ borrowed d (at d (rows_of (seen d c S))) c r e k a
  taken-strayed t x = null_is d r k c x ∙ sym (taken_is ∙ rw t)

  pub taken-lent : b ≡ false → cell w a ≡ borrowed d (at d (rows_of (seen d c S))) c r e k a
  taken-lent t = sym (taken_is ∙ rw t)

module _ (d : Description) (c r : ℕ) (e : Cell) (list : List ℕ) (W : Tables) (k : ℕ) where
  pub raised-key : k ≡ 1 → e ≡ raised d W c r e list k
  unfolding raised
  raised-key p = rw p

  module _ (n : k ≢ 1) where
    abbrev taking : Option ℕ → Cell
    taking o = elim o [ none ↦ own_null d r k c | some a ↦ borrowed d W c r e k a ]

    raised_by : {o : Option ℕ} → listed list k ≡ o → raised d W c r e list k ≡ taking o
    unfolding raised
    raised_by p = rw (ne_eqb k 1 n) (ap taking p)

    pub raised-unlisted : listed list k ≡ none → {own : ℕ} → own ≡ (own_null d r k c).class → cell 0 own ≡ raised d W c r e list k
    raised-unlisted L x = null_is d r k c x ∙ sym (raised_by L)

    pub raised-listed : {a : ℕ} → listed list k ≡ some a → {x : Cell} → x ≡ borrowed d W c r e k a → x ≡ raised d W c r e list k
    raised-listed L p = p ∙ sym (raised_by L)
