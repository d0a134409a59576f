-- The rows that SELECT finds: level by level and row by row, how many there are, and that a subject sees all of them.
-- Assumes nothing.
use Rattle.std.specs.Prelude.{if◌then◌else◌}
use Prim.Native.Nat.{ℕ, zero, suc, ◌+◌, ◌≤◌, ◌<◌}
use mathlib.Core.Path.{◌≡◌, refl, sym, ap, ap₂, ◌∙◌, subst}
use mathlib.Core.Bool.{Bool, true, false, ◌&&◌}
use mathlib.Core.List.{List, [], ◌∷◌, ◌++◌, append_assoc, append-nil}
use native.Mathlib.Omega.{arith}
use lib.Dec.{eqb}
use lib.ListN.{length, get_or, take, length-append}
use lib.Seq.{take-suc}
use Rattle.bounded.specs.Bounded.{count_below}
use Rattle.bounded.specs.Lists.{concat_below}
use Rattle.bounded.proofs.Cases.{cases, at-end}
use Rattle.bounded.proofs.Count.{count-cong}
use Rattle.bounded.proofs.All.{all-at}
use Rattle.bounded.proofs.Reflection.{of-true, any-r, eqb-r}
use Rattle.model.specs.declared.Description.{Description}
use Rattle.model.specs.Description.{over, height_at, column_count, row_count}
use Rattle.model.specs.Tables.{Row, State, seen}
use Rattle.model.specs.Listed.{among, each_level}
use Rattle.model.specs.Select.{Shown, asked, found_at, found}
use Rattle.theory.proofs.Seen.{seen-level}
use Rattle.conditions.specs.Facts.{met_at, ChosenBy, Counted}
use Rattle.select.specs.declared.At.{At}
use Rattle.select.specs.declared.InOrder.{InOrder}
use Rattle.select.specs.Facts.{wanted, level_at, levels_at, shown_levels, Holds, level_found, found_in, row_shown, Room, Wrote}
use Rattle.select.proofs.Shown.{Wide, wide-concat, wide_row, room_at, wrote-next, wrote-end}

-- ---- row by row

-- row i of a level, where it is found
unfoldable pub row_found : Description → ℕ → List ℕ → State → ℕ → ℕ → List Shown
row_found d r conditions S l i = row_shown d r ((S l).rows r) l (met_at d conditions ((S l).rows r) i) i

row-length : (d : Description) (r : ℕ) (B : ℕ → Row) (l : ℕ) (b : Bool) (i : ℕ) → length (row_shown d r B l b i) ≡ (if b then 1 else 0)
unfolding row_shown
row-length d r B l true i = refl
row-length d r B l false i = refl

module _ (d : Description) (r : ℕ) (conditions : List ℕ) (S : State) (l : ℕ) where
  pub found_rows : found_at d r conditions S l ≡ concat_below (row_count d r) (row_found d r conditions S l)
  unfolding found_at row_found row_shown met_at
  found_rows = refl

  rows-length : (n : ℕ) → length (concat_below n (row_found d r conditions S l)) ≡ count_below n (met_at d conditions ((S l).rows r))
  unfolding concat_below count_below row_found
  rows-length zero = refl
  rows-length (suc n) =
      length-append (concat_below n (row_found d r conditions S l)) (row_found d r conditions S l n)
      ∙ ap₂ ◌+◌ (rows-length n) (row-length d r ((S l).rows r) l (met_at d conditions ((S l).rows r) n) n)

  found-count : {n k : ℕ} {chosen : List Bool} → ChosenBy (row_count d r) (met_at d conditions ((S l).rows r)) chosen → n ≡ row_count d r → Counted n chosen k → k ≡ length (found_at d r conditions S l)
  found-count {n} {k} {chosen} m e c =
      c.is
      ∙ ap (λ (j : ℕ). count_below j (λ i. get_or chosen i false)) e
      ∙ count-cong (row_count d r) (λ i. get_or chosen i false) (met_at d conditions ((S l).rows r)) m.right
      ∙ sym (ap length found_rows ∙ rows-length (row_count d r))

  found-wide : Wide (column_count d r) (found_at d r conditions S l)
  unfolding row_found
  found-wide =
      rw found_rows (wide-concat (row_count d r) (row_found d r conditions S l) (λ i. wide_row d r ((S l).rows r) l (met_at d conditions ((S l).rows r) i) i))

pub found-in-wide : (d : Description) (r : ℕ) (conditions : List ℕ) (S : State) (v : InOrder) → Wide (column_count d r) (found_in d r conditions S v)
unfolding found_in level_found
found-in-wide d r conditions S v =
    wide-concat v.count (level_found d r conditions S v) (λ i. found-wide d r conditions S (get_or v.levels i 0))

pub level-count : (d : Description) (r : ℕ) (conditions : List ℕ) (S : State) (v : InOrder) (i : ℕ) {n k : ℕ} {chosen : List Bool}
    → ChosenBy (row_count d r) (met_at d conditions ((S (get_or v.levels i 0)).rows r)) chosen → n ≡ row_count d r → Counted n chosen k → k ≡ length (level_found d r conditions S v i)
unfolding level_found
level-count d r conditions S v i = found-count d r conditions S (get_or v.levels i 0)

-- a row that is chosen is one that is found
module _ (d : Description) (r : ℕ) (conditions : List ℕ) (S : State) (l : ℕ) {n : ℕ} (e : n ≡ row_count d r) {a b : At} {s o s' o' : List ℕ} where
  pub show-end : {m : ℕ} → Wrote (concat_below m (row_found d r conditions S l)) a b s o s' o' → m ≤ n → n ≤ m → Wrote (found_at d r conditions S l) a b s o s' o'
  show-end {m} w h k =
      rw found_rows (wrote-end (row_count d r) m (row_found d r conditions S l) w (omega arith) (omega arith))

  module _ {chosen : List Bool} (i : ℕ) (m : ChosenBy (row_count d r) (met_at d conditions ((S l).rows r)) chosen) (small : i < n) (room : Room (found_at d r conditions S l) a (length s) (length o))
      (w : Wrote (concat_below i (row_found d r conditions S l)) a b s o s' o') where
    shown : row_shown d r ((S l).rows r) l (get_or chosen i false) i ≡ row_found d r conditions S l i
    unfolding row_found
    shown = rw (m.right i (omega arith))

    below : i < row_count d r
    below = omega arith

    whole : Room (concat_below (row_count d r) (row_found d r conditions S l)) a (length s) (length o)
    whole = rw found_rows at room

    pub show-room : length s' ≡ length s → length o' ≡ length o → Room (row_shown d r ((S l).rows r) l (get_or chosen i false) i) b (length s') (length o')
    show-room f g = rw shown (room_at (row_found d r conditions S l) (row_count d r) i below whole w f g)

    pub show-next : {c : At} {s'' o'' : List ℕ} → Wrote (row_shown d r ((S l).rows r) l (get_or chosen i false) i) b c s' o' s'' o''
        → Wrote (concat_below (i + 1) (row_found d r conditions S l)) a c s o s'' o''
    show-next q = wrote-next (row_found d r conditions S l) (row_count d r) i below whole w (rw shown at q)

-- ---- level by level

pub count-found : (d : Description) (r : ℕ) (conditions : List ℕ) (S : State) (v : InOrder) (i : ℕ) {k : ℕ} → k ≡ length (concat_below i (level_found d r conditions S v))
    → i ≤ v.count → v.count ≤ i → k ≡ length (found_in d r conditions S v)
unfolding found_in
count-found d r conditions S v i {k} e h g = at-end (λ m. k ≡ length (concat_below m (level_found d r conditions S v))) h g e

module _ (d : Description) (r : ℕ) (conditions : List ℕ) (S : State) (v : InOrder) (i : ℕ) {a b : At} {s o s' o' : List ℕ} (w : Wrote (concat_below i (level_found d r conditions S v)) a b s o s' o') where
  pub level-end : i ≤ v.count → v.count ≤ i → Wrote (found_in d r conditions S v) a b s o s' o'
  unfolding found_in
  level-end h k = wrote-end v.count i (level_found d r conditions S v) w h k

  module _ (small : i < v.count) (room : Room (found_in d r conditions S v) a (length s) (length o)) where
    pub level-room : length s' ≡ length s → length o' ≡ length o → Room (found_at d r conditions S (get_or v.levels i 0)) b (length s') (length o')
    unfolding found_in level_found
    level-room f g = room_at (level_found d r conditions S v) v.count i small room w f g

    pub level-next : {c : At} {s'' o'' : List ℕ} → Wrote (found_at d r conditions S (get_or v.levels i 0)) b c s' o' s'' o''
        → Wrote (concat_below (i + 1) (level_found d r conditions S v)) a c s o s'' o''
    unfolding found_in level_found
    level-next q = wrote-next (level_found d r conditions S v) v.count i small room w q

flat : (ℕ → List Shown) → List ℕ → List Shown
flat f [] = []
flat f (x ∷ xs) = f x ++ flat f xs

flat_append : (f : ℕ → List Shown) (xs ys : List ℕ) → flat f (xs ++ ys) ≡ flat f xs ++ flat f ys
unfolding flat
flat_append f [] ys = refl
flat_append f (x ∷ xs) ys = rw (flat_append f xs ys) (sym (append_assoc (f x) (flat f xs) (flat f ys)))

flat-concat : (f : ℕ → List Shown) (n : ℕ) (g : ℕ → List ℕ) → flat f (concat_below n g) ≡ concat_below n (λ i. flat f (g i))
unfolding concat_below flat
flat-concat f zero g = refl
flat-concat f (suc n) g = flat_append f (concat_below n g) (g n) ∙ ap (λ (xs : List Shown). xs ++ flat f (g n)) (flat-concat f n g)

-- the first n of a list, one by one
flat-take : (f : ℕ → List Shown) (xs : List ℕ) (n : ℕ) → n ≤ length xs → concat_below n (λ i. f (get_or xs i 0)) ≡ flat f (take n xs)
unfolding concat_below flat
flat-take f xs zero h = refl
flat-take f xs (suc n) h =
    ap (λ (ys : List Shown). ys ++ f (get_or xs n 0)) (flat-take f xs n (omega arith))
    ∙ sym (ap (flat f) (take-suc xs n 0 h) ∙ flat_append f (take n xs) (get_or xs n 0 ∷ []) ∙ ap (λ (ys : List Shown). flat f (take n xs) ++ ys) (append-nil (f (get_or xs n 0))))

concat-cong : (n : ℕ) (f g : ℕ → List Shown) → ((i : ℕ) → i < n → f i ≡ g i) → concat_below n f ≡ concat_below n g
unfolding concat_below
concat-cong zero f g h = refl
concat-cong (suc n) f g h = ap₂ ◌++◌ (concat-cong n f g (λ i k. h i (omega arith))) (h n (omega arith))

module _ (d : Description) (c r : ℕ) (list conditions : List ℕ) where
  flat-level : (f : ℕ → List Shown) (h l : ℕ) → flat f (level_at d c list h l) ≡ (if eqb (height_at d l) h && asked c list l then f l else [])
  unfolding level_at wanted flat
  flat-level f h l =
      cases (eqb (height_at d l) h && asked c list l)
      (λ t. rw t (append-nil (f l)))
      (λ t. rw t)

  found-flat : (S : State) → flat (found_at d r conditions S) (shown_levels d c list) ≡ found d c r list conditions S
  unfolding shown_levels levels_at found
  found-flat S =
      flat-concat (found_at d r conditions S) 24 (levels_at d c list)
      ∙ concat-cong 24 _ _ (λ h _.
      flat-concat (found_at d r conditions S) d.levels (level_at d c list h)
      ∙ concat-cong d.levels _ _ (λ l _. flat-level (found_at d r conditions S) h l))

  -- the rows found at the levels that are laid out are those that SELECT finds
  pub found_in_lem : (S : State) {v : InOrder} → Holds (shown_levels d c list) v → v.count ≤ 16 → found_in d r conditions S v ≡ found d c r list conditions S
  unfolding found_in level_found
  found_in_lem S {v} h few =
      flat-take (found_at d r conditions S) v.levels v.count (omega (arith, h.long))
      ∙ ap (flat (found_at d r conditions S)) h.is
      ∙ found-flat S

-- ---- what a subject sees

module _ (d : Description) (c : ℕ) (list : List ℕ) (own : over d c c ≡ true) (e : each_level (over d c) list ≡ true) where
  asked-over : (l : ℕ) → asked c list l ≡ true → over d c l ≡ true
  unfolding asked among each_level
  asked-over l t =
      cases (eqb (length list) 0)
      (λ u. subst (λ (m : ℕ). over d c m ≡ true) (sym (of-true (eqb-r l c) (rw u at t))) own)
      (λ u.
      let k = of-true (any-r (length list) (λ i. eqb-r (get_or list i 0) l)) (rw u at t) in
      subst (λ (m : ℕ). over d c m ≡ true) k.2 (all-at (length list) (λ i. over d c (get_or list i 0)) e k.0 k.1))

  found_here : (r : ℕ) (conditions : List ℕ) (S : State) (l : ℕ) → over d c l ≡ true → found_at d r conditions (seen d c S) l ≡ found_at d r conditions S l
  unfolding found_at
  found_here r conditions S l h = rw (seen-level d S c l h)

  pub found-seen : (r : ℕ) (conditions : List ℕ) (S : State) → found d c r list conditions S ≡ found d c r list conditions (seen d c S)
  unfolding found
  found-seen r conditions S =
      concat-cong 24 _ _ (λ h _. concat-cong d.levels _ _ (λ l _. at h l))
    where
      at : (h l : ℕ) → (if eqb (height_at d l) h && asked c list l then found_at d r conditions S l else [])
          ≡ (if eqb (height_at d l) h && asked c list l then found_at d r conditions (seen d c S) l else [])
      at h l =
          cases (asked c list l)
          (λ t. rw (found_here r conditions S l (asked-over l t)))
          (λ t. cases (eqb (height_at d l) h) (λ u. rw (t, u)) (λ u. rw (t, u)))
