-- Nothing is vacuous: every sentence on DELETE applies to some cell, and one to which none does.
-- Assumes nothing.
use Prim.Native.Nat.{ℕ}
use mathlib.Core.Path.{◌≡◌, refl}
use mathlib.Core.List.{[]}
use native.Mathlib.Omega.{arith}
use Rattle.std.specs.Prelude.{Ok, Err}
use Rattle.model.specs.Tables.{cell}
use Rattle.model.specs.Ledger.{Ledger}
use Rattle.model.specs.Run.{Request}
use Rattle.model.proofs.Computed.{computed}
use Rattle.model.proofs.Build.{delete_at, key, laid}
use Rattle.model.proofs.Worked.{five, no₂, X, row₁, ref}
use Rattle.theory.specs.Theorems.{tables, leaves, hears, Deleted, Emptied, NamesEmptied, Lent}
use Rattle.theory.proofs.Said.{delete-as-said}

-- ---- P11 at 0: the entity is level 0's own, and level 1 refers to it

abbrev referred : Ledger
referred = laid five (X row₁ ref no₂)

abbrev lowest : Request
lowest = delete_at 0 1 (key 7)

pub lowest-done : (hears five lowest referred).answer ≡ Ok 1
unfolding computed
lowest-done = refl

pub row-deleted : Deleted five referred lowest 1 0 0
unfolding computed
row-deleted = record { within = refl; level = refl; meets = refl }

pub row-emptied : Emptied five referred lowest 1 1 0
unfolding computed
row-emptied =
    record {
      of = record {
        above = record { dominates = refl; other = λ e. let z : ◌≡◌ {A = ℕ} 1 0 = e in omega (arith, z) };
        row = 0;
        deleted = row-deleted;
        entity = refl;
      };
      key = refl;
    }

pub reference-names : NamesEmptied five referred lowest 2 1 0 2
unfolding computed
reference-names = record { reference = refl; row = 0; names = refl; emptied = row-emptied }

-- so 50/1 7/1 becomes 50/1 0/1
pub reference-null : tables five (leaves five lowest referred) 2 1 0 2 ≡ cell 0 1
unfolding computed
reference-null = (delete-as-said five referred lowest 1 refl lowest-done).references 2 1 0 2 reference-names

-- ---- P1, then DELETE at 1, where the entity is level 0's: level 3 has column 2 from level 1, and column 3 from level 2

abbrev lending : Ledger
lending = laid five (X row₁ no₂ no₂)

abbrev lender : Request
lender = delete_at 1 1 []

pub lender-done : (hears five lender lending).answer ≡ Ok 1
unfolding computed
lender-done = refl

pub cell-lent : Lent five lending lender 1 3 0 2
unfolding computed
cell-lent =
    record {
      of = record {
        above = record { dominates = refl; other = λ e. let z : ◌≡◌ {A = ℕ} 3 1 = e in omega (arith, z) };
        row = 0;
        deleted = record { within = refl; level = refl; meets = refl };
        entity = refl;
      };
      key = record { dominates = refl; other = λ e. let z : ◌≡◌ {A = ℕ} 1 0 = e in omega (arith, z) };
      class = refl;
    }

pub cell-null : tables five (leaves five lender lending) 1 3 0 2 ≡ cell 0 1
unfolding computed
cell-null = (delete-as-said five lending lender 1 refl lender-done).lent 1 3 0 2 cell-lent

pub other-stays : tables five (leaves five lender lending) 1 3 0 3 ≡ cell 31 2
unfolding computed
other-stays =
    (delete-as-said five lending lender 1 refl lender-done).stays 1 3 0 3
    (λ s. let z : ◌≡◌ {A = ℕ} 3 1 = s.level in omega (arith, z))
    (λ s. let z : ◌≡◌ {A = ℕ} 0 1 = s.key in omega (arith, z))
    (λ s. let z : ◌≡◌ {A = ℕ} 3 0 = s.reference in omega (arith, z))
    (λ s. let z : ◌≡◌ {A = ℕ} 2 1 = s.class in omega (arith, z))
