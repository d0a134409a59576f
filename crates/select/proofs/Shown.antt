-- Rows written one behind the other into two buffers: their values into one, their classes and TC into the other.
-- Assumes nothing.
use Prim.Native.Nat.{ℕ, zero, suc, ◌+◌, ◌*◌, ◌≤◌, ◌<◌}
use mathlib.Core.Path.{◌≡◌, refl, sym, ap, ◌∙◌, fun_ext}
use mathlib.Core.Bool.{Bool, true, false}
use mathlib.Core.List.{List, [], ◌∷◌, ◌++◌, map, append_assoc, append-nil}
use native.Mathlib.Nat.{not-suc-le-zero}
use native.Mathlib.Omega.{arith}
use lib.ListN.{length, take, drop, set, length-append, length-map}
use lib.Seq.{length-take-le}
use Rattle.bounded.specs.Lists.{list_below, concat_below, write_at}
use Rattle.bounded.proofs.Cases.{split-last, at-end}
use Rattle.bounded.proofs.Lists.{write-none, write-more, write-on, list_length, concat-more}
use Rattle.model.specs.declared.Description.{Description}
use Rattle.model.specs.Description.{column_count}
use Rattle.model.specs.Tables.{Cell, Row}
use Rattle.model.specs.Buffers.{holding, state_of}
use Rattle.model.specs.Select.{Shown, values_shown, owners_shown}
use Rattle.cells.specs.Changed.{class_at}
use Rattle.cells.proofs.Cells.{state-cell}
use Rattle.select.specs.declared.At.{At}
use Rattle.select.specs.Facts.{values_of, owners_of, row_shown, Room, Wrote}

-- ---- rows and their numbers

map-append : {A B : Type 0} (f : A → B) (xs ys : List A) → map f (xs ++ ys) ≡ map f xs ++ map f ys
map-append f [] ys = refl
map-append f (x ∷ xs) ys = ap (λ zs. f x ∷ zs) (map-append f xs ys)

map-list : {A B : Type 0} (f : A → B) (n : ℕ) (g : ℕ → A) → map f (list_below n g) ≡ list_below n (λ i. f (g i))
unfolding list_below
map-list f zero g = refl
map-list f (suc n) g = map-append f (list_below n g) (g n ∷ []) ∙ ap (λ zs. zs ++ (f (g n) ∷ [])) (map-list f n g)

pub values-append : (xs ys : List Shown) → values_shown (xs ++ ys) ≡ values_shown xs ++ values_shown ys
unfolding values_shown
values-append [] ys = refl
values-append (x ∷ xs) ys = rw (values-append xs ys) (sym (append_assoc (map (λ (y : Cell). y.value) x.cells) (values_shown xs) (values_shown ys)))

pub owners-append : (xs ys : List Shown) → owners_shown (xs ++ ys) ≡ owners_shown xs ++ owners_shown ys
unfolding owners_shown
owners-append [] ys = refl
owners-append (x ∷ xs) ys = rw (owners-append xs ys) (sym (append_assoc (map (λ (y : Cell). y.class) x.cells) (x.tc ∷ owners_shown xs) (owners_shown ys)))

values-sum : (xs ys : List Shown) → length (values_shown (xs ++ ys)) ≡ length (values_shown xs) + length (values_shown ys)
values-sum xs ys = ap length (values-append xs ys) ∙ length-append (values_shown xs) (values_shown ys)

owners-sum : (xs ys : List Shown) → length (owners_shown (xs ++ ys)) ≡ length (owners_shown xs) + length (owners_shown ys)
owners-sum xs ys = ap length (owners-append xs ys) ∙ length-append (owners_shown xs) (owners_shown ys)

-- each row fills k values, and one owner more
pub record Wide (k : ℕ) (rows : List Shown) : Type 0 where
  pub values : length (values_shown rows) ≡ length rows * k
  pub owners : length (owners_shown rows) ≡ length rows * (k + 1)

wide-none : (k : ℕ) → Wide k []
unfolding values_shown owners_shown
wide-none k = record { values = omega arith; owners = omega arith }

wide-append : {k : ℕ} (xs ys : List Shown) → Wide k xs → Wide k ys → Wide k (xs ++ ys)
wide-append {k} xs ys h g = record {
  values = rw (values-sum xs ys, length-append xs ys) (omega (arith, h.values, g.values));
  owners = rw (owners-sum xs ys, length-append xs ys) (omega (arith, h.owners, g.owners));
}

pub wide-concat : {k : ℕ} (n : ℕ) (g : ℕ → List Shown) → ((i : ℕ) → Wide k (g i)) → Wide k (concat_below n g)
unfolding concat_below
wide-concat {k} zero g f = wide-none k
wide-concat {k} (suc n) g f = wide-append (concat_below n g) (g n) (wide-concat n g f) (f n)

pub wide_row : (d : Description) (r : ℕ) (B : ℕ → Row) (l : ℕ) (b : Bool) (i : ℕ) → Wide (column_count d r) (row_shown d r B l b i)
unfolding row_shown values_shown owners_shown
wide_row d r B l true i = record {
  values = rw (length-append, length-map, list_length) (omega arith);
  owners = rw (length-append, length-map, list_length) (omega arith);
}
wide_row d r B l false i = wide-none (column_count d r)

-- ---- one row, as the buffers have it

module _ (d : Description) (vs cs : List ℕ) (r l i : ℕ) where
  abbrev B : ℕ → Row
  B = (state_of d (holding vs cs) l).rows r

  pub values-row : values_of d vs r l i ≡ values_shown (row_shown d r B l true i)
  unfolding values_of row_shown values_shown
  values-row =
      ap (list_below (column_count d r)) (fun_ext (λ k. sym (ap (λ (y : Cell). y.value) (state-cell d vs cs r l i (suc k)))))
      ∙ sym (map-list (λ (y : Cell). y.value) (column_count d r) (λ k. B i (suc k)))
      ∙ sym (append-nil (map (λ (y : Cell). y.value) (list_below (column_count d r) (λ k. B i (suc k)))))

  pub owners-row : owners_of d cs r l i ≡ owners_shown (row_shown d r B l true i)
  unfolding owners_of row_shown owners_shown
  owners-row =
      ap (λ (f : ℕ → ℕ). list_below (column_count d r) f ++ (l ∷ [])) (fun_ext (λ k. sym (ap (λ (y : Cell). y.class) (state-cell d vs cs r l i (suc k)))))
      ∙ ap (λ (xs : List ℕ). xs ++ (l ∷ [])) (sym (map-list (λ (y : Cell). y.class) (column_count d r) (λ k. B i (suc k))))

-- the TC behind the classes
pub owners-end : (d : Description) (cs : List ℕ) (r l i at n m : ℕ) (o₀ : List ℕ) {o : List ℕ} → o ≡ write_at at (list_below m (λ k. class_at d cs r l i (suc k))) o₀
    → m ≤ n → n ≤ m → n ≡ column_count d r → at + column_count d r < length o₀ → set o (at + n) l ≡ write_at at (owners_of d cs r l i) o₀
unfolding owners_of
owners-end d cs r l i at n m o₀ e h k q small =
    let p : m ≡ column_count d r = omega arith in
    let f : ℕ → ℕ = λ k. class_at d cs r l i (suc k) in
    let w : at + n ≡ at + length (list_below (column_count d r) f) = omega (arith, list_length (column_count d r) f) in
    rw (e, p, w) (write-more at (list_below (column_count d r) f) o₀ l (omega (arith, list_length (column_count d r) f)))

-- ---- one behind the other

-- a piece written from a place on is written with what stands before it
write-whole : (n : ℕ) (s d : List ℕ) → n ≤ length d → write_at n s d ≡ write_at 0 (take n d ++ s) d
unfolding write_at
write-whole n s d h =
    let e : 0 + length (take n d ++ s) ≡ n + length s = rw (length-append, length-take-le n d h) (omega arith) in
    rw e (sym (append_assoc (take n d) s (drop (n + length s) d)))

write-behind : (n m : ℕ) (s c d : List ℕ) → m ≡ n + length s → m + length c ≤ length d → write_at m c (write_at n s d) ≡ write_at n (s ++ c) d
write-behind n m s c d e h =
    ap (write_at m c) (write-whole n s d (omega arith))
    ∙ write-on m (take n d ++ s) c d (rw (length-append, length-take-le n d (omega arith)) (sym e)) h
    ∙ ap (λ (x : List ℕ). write_at 0 x d) (append_assoc (take n d) s c)
    ∙ sym (write-whole n (s ++ c) d (omega arith))

pub wrote_none : (at : At) (s o : List ℕ) → Wrote [] at at s o s o
unfolding values_shown owners_shown
wrote_none at s o = record {
  values-to = omega arith;
  owners-to = omega arith;
  values-is = write-none at.values s;
  owners-is = write-none at.owners o;
}

wrote-more : (xs ys : List Shown) {a b c : At} {s o s' o' s'' o'' : List ℕ} → Room (xs ++ ys) a (length s) (length o)
    → Wrote xs a b s o s' o' → Wrote ys b c s' o' s'' o'' → Wrote (xs ++ ys) a c s o s'' o''
wrote-more xs ys {a} {b} {c} {s} {o} h p q =
    let v = values-sum xs ys in
    let w = owners-sum xs ys in
    record {
      values-to = omega arith;
      owners-to = omega arith;
      values-is =
          q.values-is
          ∙ ap (write_at b.values (values_shown ys)) p.values-is
          ∙ write-behind a.values b.values (values_shown xs) (values_shown ys) s p.values-to (omega arith)
          ∙ ap (λ (x : List ℕ). write_at a.values x s) (sym (values-append xs ys));
      owners-is =
          q.owners-is
          ∙ ap (write_at b.owners (owners_shown ys)) p.owners-is
          ∙ write-behind a.owners b.owners (owners_shown xs) (owners_shown ys) o p.owners-to (omega arith)
          ∙ ap (λ (x : List ℕ). write_at a.owners x o) (sym (owners-append xs ys));
    }

-- ---- one row, where it is chosen

module _ (d : Description) (r : ℕ) (B : ℕ → Row) (l i : ℕ) {b : Bool} (at : At) where
  row-values : b ≡ true → length (values_shown (row_shown d r B l b i)) ≡ column_count d r
  unfolding row_shown
  row-values t = rw t ((wide_row d r B l true i).values ∙ omega arith)

  row-owners : b ≡ true → length (owners_shown (row_shown d r B l b i)) ≡ column_count d r + 1
  unfolding row_shown
  row-owners t = rw t ((wide_row d r B l true i).owners ∙ omega arith)

  pub room-values : {m n : ℕ} → b ≡ true → Room (row_shown d r B l b i) at m n → at.values + column_count d r ≤ m
  room-values t h = omega (arith, h.values, row-values t)

  pub room-owners : {m n : ℕ} → b ≡ true → Room (row_shown d r B l b i) at m n → at.owners + column_count d r < n
  room-owners t h = omega (arith, h.owners, row-owners t)

  pub wrote-unchosen : (s o : List ℕ) → b ≡ false → Wrote (row_shown d r B l b i) at at s o s o
  unfolding row_shown
  wrote-unchosen s o f = rw f (wrote_none at s o)

pub wrote-chosen : (d : Description) (vs cs : List ℕ) (r l i k : ℕ) (at : At) {b : Bool} {s o s' o' : List ℕ} → b ≡ true → k ≡ column_count d r
    → s' ≡ write_at at.values (values_of d vs r l i) s → o' ≡ write_at at.owners (owners_of d cs r l i) o
    → Wrote (row_shown d r ((state_of d (holding vs cs) l).rows r) l b i) at (record { values = at.values + k; owners = at.owners + k + 1 }) s o s' o'
wrote-chosen d vs cs r l i k at {b} {s} {o} t e p q = rw t (record {
  values-to = omega (arith, row-values d r (B d vs cs r l i) l i at refl);
  owners-to = omega (arith, row-owners d r (B d vs cs r l i) l i at refl);
  values-is = p ∙ ap (λ (x : List ℕ). write_at at.values x s) (values-row d vs cs r l i);
  owners-is = q ∙ ap (λ (x : List ℕ). write_at at.owners x o) (owners-row d vs cs r l i);
})

-- ---- piece after piece

-- there is room for a piece where there is room for all
room-front : (xs ys : List Shown) {a : At} {m n : ℕ} → Room (xs ++ ys) a m n → Room xs a m n
room-front xs ys r =
    record { values = omega (arith, r.values, values-sum xs ys); owners = omega (arith, r.owners, owners-sum xs ys) }

room_next : (g : ℕ → List Shown) (k i : ℕ) {a : At} {m n : ℕ} → i < k → Room (concat_below k g) a m n → Room (concat_below i g ++ g i) a m n
unfolding concat_below
room_next g zero i h r = absurd (not-suc-le-zero h)
room_next g (suc k) i h r =
    split-last h (λ l. room_next g k i l (room-front (concat_below k g) (g k) r)) (λ e. rw e r)

-- ---- as the loops have it

pub wrote-start : (g : ℕ → List Shown) (at : At) (s o : List ℕ) → Wrote (concat_below 0 g) at at s o s o
unfolding concat_below
wrote-start g at s o = wrote_none at s o

pub wrote-end : (n m : ℕ) (g : ℕ → List Shown) {a b : At} {s o s' o' : List ℕ} → Wrote (concat_below m g) a b s o s' o' → m ≤ n → n ≤ m → Wrote (concat_below n g) a b s o s' o'
wrote-end n m g {a} {b} {s} {o} {s'} {o'} w h k = at-end (λ i. Wrote (concat_below i g) a b s o s' o') h k w

module _ (g : ℕ → List Shown) (n i : ℕ) {a b : At} {s o s' o' : List ℕ} (small : i < n) (r : Room (concat_below n g) a (length s) (length o)) (w : Wrote (concat_below i g) a b s o s' o') where
  pub room_at : length s' ≡ length s → length o' ≡ length o → Room (g i) b (length s') (length o')
  room_at e f =
      let h = room_next g n i small r in
      record {
        values = omega (arith, w.values-to, h.values, values-sum (concat_below i g) (g i));
        owners = omega (arith, w.owners-to, h.owners, owners-sum (concat_below i g) (g i));
      }

  pub wrote-next : {c : At} {s'' o'' : List ℕ} → Wrote (g i) b c s' o' s'' o'' → Wrote (concat_below (i + 1) g) a c s o s'' o''
  wrote-next q = rw concat-more (wrote-more (concat_below i g) (g i) (room_next g n i small r) w q)
