-- At most one outcome meets each public function's promise, as the checker reads the promise from the source. A lent buffer keeps its length,
-- which is a promise of the language and not of the contract; with it the tables that a contract speaks of settle every cell.
-- Assumes nothing.
use Prim.Native.Nat.{ℕ}
use mathlib.Core.Bool.{true}
use mathlib.Core.List.{List}
use mathlib.Core.Path.{◌≡◌, sym, ap, subst, ◌∙◌}
use lib.ListN.{length}
use Rattle.std.proofs.Math.Nat.{ℕ_set}
use Rattle.std.proofs.Math.Bridge.{le_prop}
use Rattle.cells.specs.Laid.{Laid}
use Rattle.cells.specs.declared.layout.Part.{Part}
use Rattle.bounded.proofs.Reflection.{is_true, and_r, eqb-r}
use Rattle.model.specs.declared.Description.{Description}
use Rattle.model.specs.Description.{total_of}
use Rattle.model.specs.Buffers.{Buffers, holding, fitting, state_of, buffers_of}
use Rattle.model.proofs.Border.{buffers-state}
use Rattle.level.proofs.Settled.{Settled}
use Rattle.cells.proofs.layout.lay.Reads as lay
use Rattle.cells.proofs.layout.Part.place.Reads as place
use Rattle.cells.proofs.layout.Part.value_at.Reads as value-at
use Rattle.cells.proofs.layout.Part.class_at.Reads as class-at
use Rattle.cells.proofs.layout.Part.put.Reads as put
use Rattle.cells.proofs.layout.Part.put_value.Reads as put-value
use Rattle.cells.proofs.layout.Part.find.Reads as find
use Rattle.cells.proofs.layout.Part.entity.Reads as entity
use Rattle.cells.proofs.layout.Part.is_empty.Reads as is-empty
use Rattle.cells.proofs.layout.Part.lowest.Reads as lowest
use Rattle.cells.proofs.layout.Part.clear.Reads as clear
use Rattle.cells.proofs.layout.Part.store.Reads as store

-- ---- readers

abbrev part : (d : Description) (r s n k : ℕ) → Laid d r s n k → Part
part d r s n k l = record { description = d; relation = r; start = s; rows = n; columns = k; laid = l }

laid_prop : {d : Description} {r s n k : ℕ} → IsProp (Laid d r s n k)
laid_prop a b = λ i. record {
  start = ℕ_set _ _ a.start b.start i;
  rows = ℕ_set _ _ a.rows b.rows i;
  columns = ℕ_set _ _ a.columns b.columns i;
  few = le_prop a.few b.few i;
  narrow = le_prop a.narrow b.narrow i;
  total = le_prop a.total b.total i;
}

abbrev One : Part → Description → ℕ → ℕ → ℕ → ℕ → Type 0
One x d r s n k = (l : Laid d r s n k) → x ≡ part d r s n k l

of-numbers : (x : Part) (s n k : ℕ) → x.start ≡ s → x.rows ≡ n → x.columns ≡ k → One x x.description x.relation s n k
of-numbers x s n k g h j =
    subst (λ (k : ℕ). One x x.description x.relation s n k) j
    (subst (λ (n : ℕ). One x x.description x.relation s n x.columns) h
    (subst (λ (s : ℕ). One x x.description x.relation s x.rows x.columns) g (λ l. ap (part x.description x.relation x.start x.rows x.columns) (laid_prop x.laid l))))

-- the numbers of a relation are one
one-part : (x : Part) {d : Description} {r : ℕ} → x.description ≡ d → x.relation ≡ r → (s n k : ℕ) → One x d r s n k
one-part x {d} {r} e f =
    subst (λ (d : Description). (s n k : ℕ) → One x d r s n k) e
    (subst (λ (r : ℕ). (s n k : ℕ) → One x x.description r s n k) f
    (λ s n k l. of-numbers x s n k (x.laid.start ∙ sym l.start) (x.laid.rows ∙ sym l.rows) (x.laid.columns ∙ sym l.columns) l))

pub lay-settled : Settled lay.Post
lay-settled κs a x y e f p q = one-part x (p.0 ∙ sym q.0) (p.1 ∙ sym q.1) y.start y.rows y.columns y.laid

pub place-settled : Settled place.Post
place-settled κs a x y e f p q = p.is ∙ sym q.is

pub value-at-settled : Settled value-at.Post
value-at-settled κs a x y e f p q = p ∙ sym q

pub class-at-settled : Settled class-at.Post
class-at-settled κs a x y e f p q = p ∙ sym q

pub find-settled : Settled find.Post
find-settled κs a x y e f p q = p ∙ sym q

pub entity-settled : Settled entity.Post
entity-settled κs a x y e f p q = p ∙ sym q

pub is-empty-settled : Settled is-empty.Post
is-empty-settled κs a x y e f p q = p ∙ sym q

pub lowest-settled : Settled lowest.Post
lowest-settled κs a x y e f p q = p ∙ sym q

-- ---- writers

fits : (d : Description) (xs ys : List ℕ) → length xs ≡ total_of d → length ys ≡ total_of d → fitting d (holding xs ys) ≡ true
unfolding fitting
fits d xs ys h g = is_true (and_r (eqb-r (length xs) (total_of d)) (eqb-r (length ys) (total_of d))) (h, g)

-- buffers of the right lengths that hold the same tables are the same
pub one-buffers : (d : Description) (vs cs us ds : List ℕ) → length vs ≡ total_of d → length cs ≡ total_of d → length us ≡ total_of d → length ds ≡ total_of d
    → state_of d (holding vs cs) ≡ state_of d (holding us ds) → holding vs cs ≡ holding us ds
one-buffers d vs cs us ds hv hc hu hd e =
    sym (buffers-state d (holding vs cs) (fits d vs cs hv hc)) ∙ ap (buffers_of d) e ∙ buffers-state d (holding us ds) (fits d us ds hu hd)

pub put-settled : (κs : _) (a : _) (e f : _) → put.Pre κs a → put.Post κs a tt e → put.Post κs a tt f
    → length e.1.0.now ≡ length a.1.0.now → length e.1.1.0.now ≡ length a.1.1.0.now
    → length f.1.0.now ≡ length a.1.0.now → length f.1.1.0.now ≡ length a.1.1.0.now
    → holding e.1.0.now e.1.1.0.now ≡ holding f.1.0.now f.1.1.0.now
put-settled κs a e f pre p q v c u d =
    one-buffers _ _ _ _ _ (v ∙ pre.0.values) (c ∙ pre.0.classes) (u ∙ pre.0.values) (d ∙ pre.0.classes) (p ∙ sym q)

pub clear-settled : (κs : _) (a : _) (e f : _) → clear.Pre κs a → clear.Post κs a tt e → clear.Post κs a tt f
    → length e.1.0.now ≡ length a.1.0.now → length e.1.1.0.now ≡ length a.1.1.0.now
    → length f.1.0.now ≡ length a.1.0.now → length f.1.1.0.now ≡ length a.1.1.0.now
    → holding e.1.0.now e.1.1.0.now ≡ holding f.1.0.now f.1.1.0.now
clear-settled κs a e f pre p q v c u d =
    one-buffers _ _ _ _ _ (v ∙ pre.0.values) (c ∙ pre.0.classes) (u ∙ pre.0.values) (d ∙ pre.0.classes) (p ∙ sym q)

pub store-settled : (κs : _) (a : _) (e f : _) → store.Pre κs a → store.Post κs a tt e → store.Post κs a tt f
    → length e.1.0.now ≡ length a.1.0.now → length e.1.1.0.now ≡ length a.1.1.0.now
    → length f.1.0.now ≡ length a.1.0.now → length f.1.1.0.now ≡ length a.1.1.0.now
    → holding e.1.0.now e.1.1.0.now ≡ holding f.1.0.now f.1.1.0.now
store-settled κs a e f pre p q v c u d =
    one-buffers _ _ _ _ _ (v ∙ pre.0.values) (c ∙ pre.0.classes) (u ∙ pre.0.values) (d ∙ pre.0.classes) (p ∙ sym q)

pub put-value-settled : (κs : _) (a : _) (e f : _) → put-value.Pre κs a → put-value.Post κs a tt e → put-value.Post κs a tt f
    → length e.1.0.now ≡ length a.1.0.now → length f.1.0.now ≡ length a.1.0.now → e.1.0.now ≡ f.1.0.now
put-value-settled κs a e f pre p q v u =
    let other = a.1.0.now in
    ap (λ (b : Buffers). b.values)
    (one-buffers _ _ _ _ _ (v ∙ pre.0) pre.0 (u ∙ pre.0) pre.0 (p other ∙ sym (q other)))
