-- Nothing is vacuous: two legal ledgers that are unlike above what a level sees, and what a level sees of legal tables.
-- Assumes nothing.
use Prim.Native.Nat.{ℕ, zero, suc, ◌<◌}
use mathlib.Core.Path.{◌≡◌, refl, sym, ap, ◌∙◌, fun_ext}
use mathlib.Core.Bool.{Bool, true, not, ◌||◌, false≢true}
use mathlib.Core.Logic.{◌≢◌, ◌⊎◌, inl, inr}
use mathlib.Core.List.{[], ◌∷◌}
use native.Mathlib.Nat.{lt_irrefl}
use native.Mathlib.Omega.{arith}
use lib.ListN.{get_or}
use Rattle.bounded.specs.Tests.{Reflects}
use Rattle.bounded.specs.Bounded.{all_below}
use Rattle.bounded.proofs.Cases.{cases}
use Rattle.bounded.proofs.Reflection.{of-true, bool-r, not-r, or_r, all-r}
use Rattle.model.specs.declared.Description.{Description}
use Rattle.model.specs.Description.{over, column_count, row_count}
use Rattle.model.specs.Tables.{Row, cell, same}
use Rattle.model.specs.Buffers.{inside}
use Rattle.model.specs.Ledger.{Ledger, cells_of, seen_pages, pages_of, ledger_of}
use Rattle.model.specs.Run.{Request}
use Rattle.model.proofs.Border.{Inside, inside-says}
use Rattle.model.proofs.Pages.{page-path, pages-framed}
use Rattle.model.proofs.Computed.{computed}
use Rattle.model.proofs.Build.{update_at, laid}
use Rattle.model.proofs.Worked.{five, no₁, no₂, levels, x₀, x₁, X}
use Rattle.theory.specs.Laws.{Laws}
use Rattle.theory.specs.Theorems.{Yes, tables, leaves, hears, SeesSame}
use Rattle.theory.proofs.Fine.{same-r}
use Rattle.theory.proofs.Theorems.{sees-only}
use Rattle.theory.proofs.Visible.{visible-legal}
use Rattle.theory.proofs.Instance.{five-laws, start, start-legal}

-- ---- that a level sees two ledgers alike, by computation

same_cells : Description → Ledger → Ledger → ℕ → Bool
same_cells d b b' l =
    all_below (suc d.relations) (λ r. all_below (row_count d r) (λ i. all_below (column_count d r) (λ k.
    same ((cells_of (pages_of d b) l).rows r i (suc k)) ((cells_of (pages_of d b') l).rows r i (suc k)))))

sees_alike : Description → ℕ → Ledger → Ledger → Bool
sees_alike d e b b' = all_below d.levels (λ l. not (over d e l) || same_cells d b b' l)

module _ (d : Description) (L : Laws d) (b b' : Ledger) where
  abbrev SameCells : ℕ → Type 0
  SameCells l = (r : ℕ) → r < suc d.relations → (i : ℕ) → i < row_count d r → (k : ℕ) → k < column_count d r → (cells_of (pages_of d b) l).rows r i (suc k) ≡ (cells_of (pages_of d b') l).rows r i (suc k)

  cells-r : (l : ℕ) → Reflects (SameCells l) (same_cells d b b' l)
  unfolding same_cells
  cells-r l = all-r (suc d.relations) (λ r. all-r (row_count d r) (λ i. all-r (column_count d r) (λ k. same-r _ _)))

  same-level : (l : ℕ) → SameCells l → pages_of d b l ≡ pages_of d b' l
  same-level l h = page-path (ap (λ (B : ℕ → ℕ → Row). record { rows = B }) (fun_ext (λ r. fun_ext (λ i. fun_ext (λ k. go r i k)))))
    where
      by : (r i k : ℕ) → Inside d r l i k → (cells_of (pages_of d b) l).rows r i k ≡ (cells_of (pages_of d b') l).rows r i k
      by r i zero x = absurd (lt_irrefl 0 x.least)
      by r i (suc k) x = h r x.relation i x.row k x.column

      go : (r i k : ℕ) → (cells_of (pages_of d b) l).rows r i k ≡ (cells_of (pages_of d b') l).rows r i k
      go r i k = cases (inside d r l i k) (λ t. by r i k (inside-says d r l i k t)) (λ t. (pages-framed d b).outside r l i k t ∙ sym ((pages-framed d b').outside r l i k t))

  sees-alike : (e : ℕ) → sees_alike d e b b' ≡ true → SeesSame d e b b'
  unfolding sees_alike
  sees-alike e t l o = same-level l (by (of-true (all-r d.levels (λ l. or_r (not-r (bool-r (over d e l))) (cells-r l))) t l (L.within e l o).1))
    where
      by : (over d e l ≡ true → ⊥) ⊎ SameCells l → SameCells l
      by (inl n) = absurd (n o)
      by (inr h) = h

-- ---- sees-only: tables X, with and without P1's row at level 3

abbrev other : Ledger
other = laid five (X no₁ no₂ no₂)

pub other-legal : Yes five other
unfolding computed
other-legal = refl

pub unlike : start ≢ other
unlike e = let z : ◌≡◌ {A = ℕ} 7 0 = ap (λ (b : Ledger). get_or b.tables.values 18 0) e in omega (arith, z)

pub zero-sees : SeesSame five 0 start other
unfolding computed sees_alike same_cells
zero-sees = sees-alike five five-laws start other 0 refl

pub one-sees : SeesSame five 1 start other
unfolding computed sees_alike same_cells
one-sees = sees-alike five five-laws start other 1 refl

-- an UPDATE at 0, which level 1 feels
abbrev low : Request
low = update_at 0 1 (3 ∷ 33 ∷ []) []

pub low-changes : tables five (leaves five low start) 1 1 0 3 ≡ cell 33 0
unfolding computed
low-changes = refl

pub low-heard : hears five low start ≡ hears five low other
low-heard = (sees-only five low).reply start other start-legal other-legal zero-sees

pub low-above : SeesSame five 1 (leaves five low start) (leaves five low other)
unfolding computed
low-above = (sees-only five low).above start other start-legal other-legal 1 refl one-sees

-- an UPDATE at 1, of which level 2 feels nothing
abbrev side : Request
side = update_at 1 1 (2 ∷ 22 ∷ []) []

pub side-stays : pages_of five (leaves five side start) 2 ≡ pages_of five start 2
unfolding computed
side-stays = (sees-only five side).stays start start-legal 2 false≢true

-- ---- visible-legal: level 1 sees levels 0 and 1 of those tables

pub one-visible : ledger_of five (seen_pages five 1 (pages_of five start)) ≡ laid five (levels x₀ x₁ no₁ no₁ no₂ no₂)
unfolding computed
one-visible = refl

pub one-legal : Yes five (ledger_of five (seen_pages five 1 (pages_of five start)))
one-legal = visible-legal five start 1 start-legal
