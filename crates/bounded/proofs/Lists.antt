-- The laws of a buffer that a loop writes from a place on, one after the other or piece after piece.
-- Assumes nothing.
use mathlib.Core.Path.{◌≡◌, refl, sym, ap, ◌∙◌}
use mathlib.Core.List.{List, [], ◌∷◌, ◌++◌, append_assoc}
use Prim.Native.Nat.{ℕ, zero, suc, ◌+◌, ◌≤◌, ◌<◌}
use native.Mathlib.Nat.{not-suc-le-zero, add-zero}
use native.Mathlib.Numerals.{add-one}
use native.Mathlib.Omega.{arith}
use lib.ListN.{length, take, drop, set, get_or, length-append, length-drop, take-append-drop}
use lib.Seq.{length-take-le, drop-cons, set_at, drop-append-add, take_at, drop-drop}
use Rattle.bounded.specs.Lists.{list_below, concat_below, write_at}
use Rattle.bounded.proofs.Cases.{split-last, at-end}

module _ {A : Type 0} where
  -- ---- one piece

  pub write-none : (n : ℕ) (d : List A) → d ≡ write_at n [] d
  unfolding write_at
  write-none n d = rw add-zero (sym (take-append-drop n d))

  pub length-write : (n : ℕ) (s d : List A) → n + length s ≤ length d → length (write_at n s d) ≡ length d
  unfolding write_at
  length-write n s d h =
      rw (length-append, length-append, length-drop, length-take-le n d (omega arith)) (omega arith)

  -- the element behind the piece, and the piece with one more
  before : (n : ℕ) (s d : List A) (x : A) → n + length s < length d → write_at n s d ≡ take n d ++ s ++ (get_or d (n + length s) x ∷ drop (suc (n + length s)) d)
  unfolding write_at
  before n s d x h =
      rw (drop-cons d (n + length s) x h)
      (sym (append_assoc (take n d) s (get_or d (n + length s) x ∷ drop (suc (n + length s)) d)))

  after : (n : ℕ) (s d : List A) (x : A) → write_at n (s ++ (x ∷ [])) d ≡ take n d ++ s ++ (x ∷ drop (suc (n + length s)) d)
  unfolding write_at
  after n s d x =
      let e : n + length (s ++ (x ∷ [])) ≡ suc (n + length s) = omega (arith, length-append s (x ∷ [])) in
      rw (e, append_assoc s (x ∷ []) (drop (suc (n + length s)) d))
      (sym (append_assoc (take n d) s (x ∷ drop (suc (n + length s)) d)))

  pub write-more : (n : ℕ) (s d : List A) (x : A) → n + length s < length d → set (write_at n s d) (n + length s) x ≡ write_at n (s ++ (x ∷ [])) d
  write-more n s d x h =
      rw (before n s d x h, after n s d x)
      (set_at (take n d ++ s) (get_or d (n + length s) x) (drop (suc (n + length s)) d) x (n + length s) (length-append (take n d) s ∙ rw (length-take-le n d (omega arith))))

  -- a piece written after a piece that was written from the start
  pub write-on : (n : ℕ) (s c d : List A) → length s ≡ n → n + length c ≤ length d → write_at n c (write_at 0 s d) ≡ write_at 0 (s ++ c) d
  unfolding write_at
  write-on n s c d e h =
      let q : 0 + length s ≡ n = omega arith in
      let z : 0 + length (s ++ c) ≡ n + length c = omega (arith, length-append s c) in
      let f : drop (n + length c) (s ++ drop n d) ≡ drop (n + length c) d = ap (λ m. drop (m + length c) (s ++ drop n d)) (sym e) ∙ (drop-append-add s (drop n d) (length c) ∙ drop-drop (length c) n d) in
      rw (q, z, take_at s (drop n d) n e, f) (sym (append_assoc s c (drop (n + length c) d)))

  -- ---- one after the other

  pub list-more : (n : ℕ) (f : ℕ → A) → list_below (n + 1) f ≡ list_below n f ++ (f n ∷ [])
  unfolding list_below
  list-more n f = rw add-one

  pub list_length : (n : ℕ) (f : ℕ → A) → length (list_below n f) ≡ n
  unfolding list_below
  list_length zero f = refl
  list_length (suc n) f = let h = list_length n f in omega (arith, length-append (list_below n f) (f n ∷ []))

  pub numbers-start : (at : ℕ) (f : ℕ → A) (d : List A) → d ≡ write_at at (list_below 0 f) d
  unfolding list_below
  numbers-start at f d = write-none at d

  pub numbers_more : (n at : ℕ) (f : ℕ → A) (d₀ : List A) {d : List A} {x : A} → d ≡ write_at at (list_below n f) d₀ → at + n < length d₀ → x ≡ f n → set d (at + n) x ≡ write_at at (list_below (n + 1) f) d₀
  numbers_more n at f d₀ {d} {x} p h e =
      let q = list_length n f in
      let m : at + length (list_below n f) < length d₀ = omega arith in
      rw (p, e, list-more)
      (ap (λ k. set (write_at at (list_below n f) d₀) (at + k) (f n)) (sym q) ∙ write-more at (list_below n f) d₀ (f n) m)

  pub numbers-end : (n m at : ℕ) (f : ℕ → A) (d₀ : List A) {d : List A} → d ≡ write_at at (list_below m f) d₀ → m ≤ n → n ≤ m → d ≡ write_at at (list_below n f) d₀
  numbers-end n m at f d₀ {d} e h k = at-end (λ i. d ≡ write_at at (list_below i f) d₀) h k e

  -- ---- piece after piece

  pub concat-more : (n : ℕ) (g : ℕ → List A) → concat_below (n + 1) g ≡ concat_below n g ++ g n
  unfolding concat_below
  concat-more n g = rw add-one

  pub concat-start : (g : ℕ → List A) → 0 ≡ length (concat_below 0 g)
  unfolding concat_below
  concat-start g = refl

  pub concat-length : (n at : ℕ) (g : ℕ → List A) {k : ℕ} → at ≡ length (concat_below n g) → k ≡ at + length (g n) → k ≡ length (concat_below (n + 1) g)
  concat-length n at g a e = rw concat-more (omega (arith, length-append (concat_below n g) (g n)))

  -- there is room for a piece where there is room for all
  pub concat-room : (n i : ℕ) (g : ℕ → List A) → i < n → length (concat_below i g) + length (g i) ≤ length (concat_below n g)
  unfolding concat_below
  concat-room zero i g h = absurd (not-suc-le-zero h)
  concat-room (suc n) i g h =
      split-last h
      (λ l. let k = concat-room n i g l in omega (arith, length-append (concat_below n g) (g n)))
      (λ e. rw e (omega (arith, length-append (concat_below n g) (g n))))

  pub pieces-start : (g : ℕ → List A) (d : List A) → d ≡ write_at 0 (concat_below 0 g) d
  unfolding concat_below
  pieces-start g d = write-none 0 d

  pub pieces_more : (n at : ℕ) (g : ℕ → List A) (d₀ : List A) {d d' : List A} → at ≡ length (concat_below n g) → at + length (g n) ≤ length d₀ → d ≡ write_at 0 (concat_below n g) d₀ → d' ≡ write_at at (g n) d → d' ≡ write_at 0 (concat_below (n + 1) g) d₀
  pieces_more n at g d₀ a h p q =
      q ∙ (ap (write_at at (g n)) p ∙ (write-on at (concat_below n g) (g n) d₀ (sym a) h ∙ rw concat-more))

  pub pieces_end : (n m : ℕ) (g : ℕ → List A) (d₀ : List A) {d : List A} → d ≡ write_at 0 (concat_below m g) d₀ → m ≤ n → n ≤ m → d ≡ write_at 0 (concat_below n g) d₀
  pieces_end n m g d₀ {d} e h k = at-end (λ i. d ≡ write_at 0 (concat_below i g) d₀) h k e
