-- At most one outcome meets each public function's promise, as the checker reads the promise from the source.
-- Assumes nothing.
use mathlib.Core.Bool.{Bool, Bool-discrete}
use mathlib.Core.HLevel.{hedberg}
use mathlib.Core.List.{List, List-discrete}
use mathlib.Core.Path.{◌≡◌, sym, ap, subst, ◌∙◌}
use Prim.Native.Nat.{ℕ}
use Rattle.std.proofs.Math.Nat.{ℕ_set}
use Rattle.std.proofs.Math.Bridge.{le_prop}
use Rattle.model.specs.declared.Description.{Description}
use Rattle.asked.specs.declared.levels.Levels.{Levels}
use Rattle.asked.specs.declared.columns.Columns.{Columns}
use Rattle.asked.specs.Known.{Ordered, Related}
use Rattle.level.proofs.Settled.{Settled}
use Rattle.asked.proofs.table.Table.levels.Reads as levels
use Rattle.asked.proofs.table.Table.columns.Reads as columns
use Rattle.asked.proofs.levels.Levels.over.Reads as over
use Rattle.asked.proofs.columns.Columns.takes.Reads as takes
use Rattle.asked.proofs.columns.Columns.null.Reads as null
use Rattle.asked.proofs.columns.Columns.each.Reads as each
use Rattle.asked.proofs.pairs.once.Reads as pairs-once
use Rattle.asked.proofs.pairs.find.Reads as find
use Rattle.asked.proofs.levels.exist.Reads as exist
use Rattle.asked.proofs.levels.Levels.seen.Reads as seen
use Rattle.asked.proofs.levels.once.Reads as levels-once
use Rattle.asked.proofs.levels.lists.Reads as lists

-- ---- what a statement is about

ordered_prop : {d : Description} {order : List (List Bool)} → IsProp (Ordered d order)
ordered_prop a b = λ i. record { order_is = hedberg (List-discrete (List-discrete Bool-discrete)) _ _ a.order_is b.order_is i; few = le_prop a.few b.few i }

related_prop : {d : Description} {r k : ℕ} → IsProp (Related d r k)
related_prop a b = λ i. record { relation = le_prop a.relation b.relation i; is = ℕ_set _ _ a.is b.is i; narrow = le_prop a.narrow b.narrow i }

abbrev levels_of : (d : Description) (order : List (List Bool)) → Ordered d order → Levels
levels_of d order o = record { description = d; order = order; ordered = o }

abbrev columns_of : (levels : Levels) (r k : ℕ) → Related levels.description r k → Columns
columns_of levels r k n = record { levels = levels; relation = r; count = k; related = n }

one-levels : (x y : Levels) → x.description ≡ y.description → x.order ≡ y.order → x ≡ y
one-levels x y e f =
    let One : Description → List (List Bool) → Type 0 = λ d order. (o : Ordered d order) → x ≡ levels_of d order o in
    subst (λ (d : Description). One d y.order) e
    (subst (λ (order : List (List Bool)). One x.description order) f
    (λ o. ap (levels_of x.description x.order) (ordered_prop x.ordered o)))
    y.ordered

one-columns : (x y : Columns) → x.levels ≡ y.levels → x.relation ≡ y.relation → x.count ≡ y.count → x ≡ y
one-columns x y e f g =
    let One : Levels → ℕ → ℕ → Type 0 = λ levels r k. (n : Related levels.description r k) → x ≡ columns_of levels r k n in
    subst (λ (levels : Levels). One levels y.relation y.count) e
    (subst (λ (r : ℕ). One x.levels r y.count) f
    (subst (λ (k : ℕ). One x.levels x.relation k) g
    (λ n. ap (columns_of x.levels x.relation x.count) (related_prop x.related n))))
    y.related

pub levels-settled : Settled levels.Post
levels-settled κs a x y e f p q = one-levels x y (p.0 ∙ sym q.0) (p.1 ∙ sym q.1)

pub columns-settled : Settled columns.Post
columns-settled κs a x y e f p q = one-columns x y (one-levels x.levels y.levels (p.0 ∙ sym q.0) (p.1.0 ∙ sym q.1.0)) (p.1.1.0 ∙ sym q.1.1.0) (p.1.1.1 ∙ sym q.1.1.1)

-- ---- an order and ranges

pub over-settled : Settled over.Post
over-settled κs a x y e f p q = p ∙ sym q

pub takes-settled : Settled takes.Post
takes-settled κs a x y e f p q = p ∙ sym q

pub null-settled : Settled null.Post
null-settled κs a x y e f p q = p ∙ sym q

-- ---- pairs

pub each-settled : Settled each.Post
each-settled κs a x y e f p q = p ∙ sym q

pub pairs-once-settled : Settled pairs-once.Post
pairs-once-settled κs a x y e f p q = p ∙ sym q

pub find-settled : Settled find.Post
find-settled κs a x y e f p q = p ∙ sym q

-- ---- levels

pub exist-settled : Settled exist.Post
exist-settled κs a x y e f p q = p ∙ sym q

pub seen-settled : Settled seen.Post
seen-settled κs a x y e f p q = p ∙ sym q

pub levels-once-settled : Settled levels-once.Post
levels-once-settled κs a x y e f p q = p ∙ sym q

pub lists-settled : Settled lists.Post
lists-settled κs a x y e f p q = p ∙ sym q
