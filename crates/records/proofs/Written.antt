-- Numbers written into a lent list: stores one behind the other are one piece, and how many numbers the lists of a statement have.
-- Assumes nothing.
use Rattle.std.specs.Prelude.{Some}
use Prim.Native.Nat.{ℕ, zero, suc, ◌+◌, ◌*◌, ◌-◌, ◌≤◌, ◌<◌}
use mathlib.Core.Path.{◌≡◌, refl, sym, ap, ◌∙◌}
use mathlib.Core.List.{List, [], ◌∷◌, ◌++◌, append-nil, append_assoc}
use native.Mathlib.Omega.{arith}
use borrow.Rule.Slice.PartMut.{put_mid}
use lib.ListN.{length, take, drop, set, length-append, length-drop, drop_of_length-le}
use lib.Seq.{take_all, drop-drop}
use Rattle.bounded.specs.Lists.{list_below, concat_below, write_at}
use Rattle.bounded.proofs.Lists.{write-none, write-more, list_length, numbers_more, pieces_more}
use Rattle.records.specs.declared.kinds.Entry.{Entry}
use Rattle.records.specs.declared.kinds.Entry.TheVariants as Entries
use Rattle.records.specs.Bytes.{pair, fields_from, cells_from, tests_from}
use Rattle.records.specs.Kinds.{width, numbers}
use Rattle.records.specs.Statements.{entry_at, numbers_of}
use Rattle.records.specs.Facts.{Filled}

module _ {A : Type 0} where
  pub write-whole : (s d : List A) → length s ≡ length d → write_at 0 s d ≡ s
  unfolding write_at
  write-whole s d e =
      let h : length d ≤ 0 + length s = omega arith in
      rw (drop_of_length-le d h) (append-nil s)

  -- one number more, where they stand from the start
  pub numbers-first : (n : ℕ) (f : ℕ → A) (d₀ : List A) {d : List A} {x : A} → d ≡ write_at 0 (list_below n f) d₀ → n < length d₀ → x ≡ f n → set d n x ≡ write_at 0 (list_below (n + 1) f) d₀
  numbers-first n f d₀ {d} {x} p h e =
      let z : 0 + n ≡ n = omega arith in
      let k : 0 + n < length d₀ = omega arith in
      ap (λ m. set d m x) (sym z) ∙ numbers_more n 0 f d₀ p k e

  pub write-one : (n : ℕ) (d : List A) (a : A) → n < length d → set d n a ≡ write_at n (a ∷ []) d
  write-one n d a h =
      let z : n ≡ n + 0 = omega arith in
      let k : n + 0 < length d = omega arith in
      ap (λ m. set d m a) z ∙ (ap (λ l. set l (n + 0) a) (write-none n d) ∙ write-more n [] d a k)

  pub write_two : (n : ℕ) (d : List A) (a b : A) → n + 2 ≤ length d → set (set d n a) (n + 1) b ≡ write_at n (a ∷ b ∷ []) d
  write_two n d a b h =
      let k : n < length d = omega arith in
      ap (λ l. set l (n + 1) b) (write-one n d a k) ∙ write-more n (a ∷ []) d b (omega arith)

  pub write-four : (n : ℕ) (d : List A) (a b x y : A) → n + 4 ≤ length d → set (set (set (set d n a) (n + 1) b) (n + 2) x) (n + 3) y ≡ write_at n (a ∷ b ∷ x ∷ y ∷ []) d
  write-four n d a b x y h =
      let k : n + 2 ≤ length d = omega arith in
      ap (λ l. set (set l (n + 2) x) (n + 3) y) (write_two n d a b k)
      ∙ (ap (λ l. set l (n + 3) y) (write-more n (a ∷ b ∷ []) d x (omega arith)) ∙ write-more n (a ∷ b ∷ x ∷ []) d y (omega arith))

  -- a piece written at the front of what stands from a place on
  pub write-part : (n : ℕ) (s d : List A) → n ≤ length d → put_mid n (length d - n) d (write_at 0 s (take (length d - n) (drop n d))) ≡ write_at n s d
  unfolding write_at
  write-part n s d h =
      let k : length (drop n d) ≤ length d - n = omega (arith, length-drop n d) in
      let z : 0 + length s ≡ length s = omega arith in
      rw (take_all (length d - n) (drop n d) k, drop_of_length-le (drop n d) k, append-nil, z, drop-drop (length s) n d)

  -- pieces of k numbers each
  pub pieces-length : (n k : ℕ) (g : ℕ → List A) → ((i : ℕ) → length (g i) ≡ k) → length (concat_below n g) ≡ k * n
  unfolding concat_below
  pieces-length zero k g e = omega arith
  pieces-length (suc n) k g e =
      let h = pieces-length n k g e in omega (arith, length-append (concat_below n g) (g n), e n)

-- ---- the lists of a statement

pub fields-length : (bytes : List ℕ) (at n : ℕ) → length (fields_from bytes at n) ≡ n
unfolding fields_from
fields-length bytes at n = list_length n _

pub cells-length : (bytes : List ℕ) (at n : ℕ) → length (cells_from bytes at n) ≡ 2 * n
unfolding cells_from
cells-length bytes at n = pieces-length n 2 _ (λ i. refl)

pub tests-length : (bytes : List ℕ) (at n : ℕ) → length (tests_from bytes at n) ≡ 4 * n
unfolding tests_from
tests-length bytes at n = pieces-length n 4 _ (λ i. refl)

-- ---- entry after entry

pub entry-length : (bytes : List ℕ) (entry : Entry) (at : ℕ) → length (entry_at bytes entry at) ≡ numbers entry
unfolding entry_at numbers
entry-length bytes Entries.Level at = refl
entry-length bytes Entries.Borrow at = refl
entry-length bytes Entries.Cell at = refl
entry-length bytes Entries.Condition at = refl

-- the numbers of the entries before the one at i
pub entries-length : (bytes : List ℕ) (entry : Entry) (at i : ℕ) → length (concat_below i (λ j. entry_at bytes entry (at + width entry * j))) ≡ numbers entry * i
entries-length bytes entry at i = pieces-length i (numbers entry) _ (λ j. entry-length bytes entry (at + width entry * j))

-- one entry more, put where those before it end
pub entry-more : (bytes : List ℕ) (entry : Entry) (at i : ℕ) (lent list : List ℕ) {n w : ℕ} {piece : List ℕ} → n ≡ numbers entry → w ≡ width entry
    → length list ≡ length lent → numbers entry * i + numbers entry ≤ length lent
    → list ≡ write_at 0 (concat_below i (λ j. entry_at bytes entry (at + width entry * j))) lent
    → piece ≡ write_at 0 (entry_at bytes entry (at + w * i)) (take (length list - n * i) (drop (n * i) list))
    → put_mid (n * i) (length list - n * i) list piece ≡ write_at 0 (concat_below (i + 1) (λ j. entry_at bytes entry (at + width entry * j))) lent
entry-more bytes entry at i lent list {n} {w} {piece} n-is w-is l h e p =
    let a : n * i ≡ numbers entry * i = rw n-is in
    let k : n * i ≤ length list = omega arith in
    let m : n * i ≡ length (concat_below i (λ j. entry_at bytes entry (at + width entry * j))) = a ∙ sym (entries-length bytes entry at i) in
    pieces_more i (n * i) (λ j. entry_at bytes entry (at + width entry * j)) lent m (omega (arith, entry-length bytes entry (at + width entry * i))) e
    (rw p (write-part (n * i) _ list k ∙ rw w-is))

levels-each : (bytes : List ℕ) (at n : ℕ) → fields_from bytes at n ≡ concat_below n (λ i. pair bytes (at + 2 * i) ∷ [])
unfolding fields_from list_below concat_below
levels-each bytes at zero = refl
levels-each bytes at (suc n) = ap (λ l. l ++ (pair bytes (at + 2 * n) ∷ [])) (levels-each bytes at n)

borrows-each : (bytes : List ℕ) (at n : ℕ) → fields_from bytes at (2 * n) ≡ concat_below n (λ i. pair bytes (at + 4 * i) ∷ pair bytes (at + 4 * i + 2) ∷ [])
unfolding fields_from list_below concat_below
borrows-each bytes at zero = refl
borrows-each bytes at (suc n) =
    let e : 2 * suc n ≡ suc (suc (2 * n)) = omega arith in
    let p : at + 2 * (2 * n) ≡ at + 4 * n = omega arith in
    let q : at + 2 * suc (2 * n) ≡ at + 4 * n + 2 = omega arith in
    rw (e, p, q, append_assoc) (ap (λ l. l ++ (pair bytes (at + 4 * n) ∷ pair bytes (at + 4 * n + 2) ∷ [])) (borrows-each bytes at n))

-- a list is its entries, one behind the other
pub numbers-each : (bytes : List ℕ) (entry : Entry) (at : ℕ) → numbers_of bytes (Some entry) at ≡ concat_below (pair bytes at) (λ i. entry_at bytes entry (at + 2 + width entry * i))
unfolding numbers_of entry_at width cells_from tests_from
numbers-each bytes Entries.Level at = levels-each bytes (at + 2) (pair bytes at)
numbers-each bytes Entries.Borrow at = borrows-each bytes (at + 2) (pair bytes at)
numbers-each bytes Entries.Cell at = refl
numbers-each bytes Entries.Condition at = refl

pub filled : {numbers written lent lent' : List ℕ} {count : ℕ} → numbers ≡ written → length written ≡ count → lent' ≡ write_at 0 written lent → Filled numbers lent lent' count
filled p e w = record { count-is = rw p (sym e); lent_is = rw p w }
