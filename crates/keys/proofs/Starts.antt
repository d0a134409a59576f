-- Where the cells of each relation stand, and the keys that are gathered from them.
-- Assumes nothing.
use Rattle.std.specs.Prelude.{Option, Some, None, SomeIff}
use mathlib.Core.Path.{◌≡◌, refl, sym, ap, ◌∙◌}
use mathlib.Core.Bool.{Bool, true}
use mathlib.Core.List.{List}
use Prim.Native.Nat.{ℕ, zero, suc, ◌+◌, ◌-◌, ◌*◌, ◌≤◌, ◌<◌}
use native.Mathlib.Nat.{le-mul_of_pos_right}
use native.Mathlib.Numerals.{add-one}
use native.Mathlib.Omega.{arith}
use lib.Dec.{ltb}
use lib.ListN.{length, get_or, replicate}
use lib.Seq.{ext_get_or}
use borrow.Author.Tests.{ltb-true, ltb-false}
use Rattle.bounded.specs.Bounded.{all_below, sum_below}
use Rattle.bounded.proofs.Cases.{cases, split-last}
use Rattle.bounded.proofs.Sum.{sum_mono}
use Rattle.model.specs.declared.Description.{Description}
use Rattle.model.specs.Description.{column_count, row_count, foreign_of, size_of, start_of, total_of, sound}
use Rattle.model.proofs.Sound.{sound-says}
use Rattle.describe.proofs.Sizes.{row_count_lem, column-count, foreign-of}
use Rattle.keys.specs.declared.areas.Area.{Area}
use Rattle.keys.specs.Facts.{first_of, Starting, column_at, area_of, Gathered, Keyed}

pub noughts : (n k : ℕ) → get_or {A = ℕ} (replicate n 0) k 0 ≡ 0
noughts zero k = refl
noughts (suc n) zero = refl
noughts (suc n) (suc k) = noughts n k

module _ (d : Description) where
  pub starts_none : (ss : List ℕ) → length ss ≡ 9 → get_or ss 0 0 ≡ 0 → (k : ℕ) → k < 0 + 1 → get_or ss k 0 ≡ start_of d k
  unfolding start_of sum_below
  starts_none ss e z zero h = z
  starts_none ss e z (suc k) h = absurd (omega arith)

  -- the starts are one list
  pub starts-one : (x y : List ℕ) → Starting d x → Starting d y → x ≡ y
  starts-one x y p q =
      ext_get_or 0 x y (p.long ∙ sym q.long)
      (λ i h. cases (ltb d.relations i)
      (λ t. let l = ltb-true d.relations i t in p.rest i l ∙ sym (q.rest i l))
      (λ t. let l = ltb-false d.relations i t in p.right i l ∙ sym (q.right i l)))

  pub start-room : (q : ℕ) → q ≤ d.relations → start_of d q + size_of d q ≤ total_of d
  unfolding start_of total_of
  start-room q h = sum_mono (size_of d) q (suc d.relations) (omega arith)

  pub start-before : (p q : ℕ) → p < q → start_of d p + size_of d p ≤ start_of d q
  unfolding start_of
  start-before p q h = sum_mono (size_of d) p q h

  -- ---- keys

  -- there are no more keys than cells
  keys-few : sound d ≡ true → (r : ℕ) → r < d.relations → d.levels * row_count d (suc r) ≤ size_of d (suc r)
  unfolding size_of
  keys-few s r h = le-mul_of_pos_right (d.levels * row_count d (suc r)) ((sound-says d s).relations r h).keyed

  pub keys-room : sound d ≡ true → (r : ℕ) → r < d.relations → start_of d (suc r) + d.levels * row_count d (suc r) ≤ 8192
  keys-room s r h = omega (arith, keys-few s r h, start-room (suc r) h, (sound-says d s).total)

  pub cells-room : (r : ℕ) → r < d.relations → start_of d (suc r) + d.levels * row_count d (suc r) * column_count d (suc r) ≤ total_of d
  unfolding size_of
  cells-room r h = start-room (suc r) h

  pub keyed-more : sound d ≡ true → (vs ks xs : List ℕ) (m : ℕ) → m < d.relations → Keyed d vs m ks
      → Gathered vs ks xs (start_of d (suc m)) (d.levels * row_count d (suc m)) (column_count d (suc m)) → Keyed d vs (m + 1) xs
  keyed-more s vs ks xs m h K G =
      record {
        long = G.long ∙ K.long;
        right = λ r j g f. let q : r < suc m = omega arith in
            split-last q
            (λ l. G.kept (start_of d (suc r) + j) (omega (arith, keys-few s r (omega arith), start-before (suc r) (suc m) (omega arith))) ∙ K.right r j l f)
            (λ e. rw e (G.put j (rw e at f)));
      }

-- ---- what stands where code reads it

pub column-sub : (x : Option ℕ) (f : ℕ) → SomeIff x (1 ≤ f) (f - 1) → x ≡ column_at f
unfolding column_at
column-sub None zero h = refl
column-sub None (suc f) h = absurd (h (omega arith))
column-sub (Some x) zero h = let q = h.0 in absurd (omega arith)
column-sub (Some x) (suc f) h = let q = h.1 in ap Some (omega arith)

pub record Standing (d : Description) (r : ℕ) (a : Area) : Type 0 where
  pub relation : a.relation ≡ suc r
  pub start : a.start ≡ start_of d (suc r)
  pub levels : a.levels ≡ d.levels
  pub rows : a.rows ≡ row_count d (suc r)
  pub cols : a.cols ≡ column_count d (suc r)
  pub foreign : a.foreign ≡ column_at (foreign_of d (suc r))

module _ (d : Description) (ss : List ℕ) (P : Starting d ss) (r : ℕ) (h : r < d.relations) where
  pub standing : Standing d r (area_of d ss (suc r))
  standing =
      let l : 0 < suc r = omega arith in
      record {
        relation = refl;
        start = P.right (suc r) h;
        levels = refl;
        rows = row_count_lem d (suc r) l h;
        cols = column-count d (suc r) l h;
        foreign = ap column_at (foreign-of d (suc r) l h);
      }

  pub standing-at : (a : Area) → a ≡ area_of d ss (r + 1) → Standing d r a
  standing-at a e = rw (e, add-one r) standing

module _ (d : Description) (s : sound d ≡ true) (r : ℕ) (h : r < d.relations) (a : Area) (G : Standing d r a) where
  pub fill-room : (vs : List ℕ) → length vs ≡ total_of d
      → ((a.start + a.levels * a.rows ≤ 16384) × (a.start + a.levels * a.rows * a.cols ≤ length vs) × (0 < a.cols)) × (length vs ≤ 8192)
  fill-room vs x =
      rw (G.start, G.rows, G.cols, G.levels, x) ((omega (arith, keys-room d s r h), cells-room d r h, ((sound-says d s).relations r h).keyed), (sound-says d s).total)

  pub fill_more : (vs ks xs : List ℕ) → Keyed d vs r ks → Gathered vs ks xs a.start (a.levels * a.rows) a.cols → Keyed d vs (r + 1) xs
  fill_more vs ks xs K F = keyed-more d s vs ks xs r h K (rw (← G.start, ← G.rows, ← G.cols, ← G.levels) F)

  pub levels-room : (a.start + a.levels * a.rows ≤ 8192) × (a.rows ≤ 64) × (a.levels ≤ 16)
  levels-room = rw (G.start, G.rows, G.levels) (keys-room d s r h, ((sound-says d s).relations r h).few, (sound-says d s).few-levels)

  pub distinct-at : (ks : List ℕ) {b : Bool} → b ≡ all_below a.levels (λ m. all_below a.rows (first_of ks (a.start + m * a.rows)))
      → b ≡ all_below d.levels (λ m. all_below (row_count d (suc r)) (first_of ks (start_of d (suc r) + m * row_count d (suc r))))
  distinct-at ks x = rw (← G.start, ← G.rows, ← G.levels) x
