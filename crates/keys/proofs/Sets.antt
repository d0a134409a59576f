-- Laws of the sets of levels.
-- Assumes nothing.
use mathlib.Core.Path.{◌≡◌, refl, sym, ap, subst, ◌∙◌}
use mathlib.Core.Bool.{Bool, true, false, ◌&&◌, ◌||◌}
use mathlib.Core.List.{List, []}
use Prim.Native.Nat.{ℕ, zero, suc, ◌+◌, ◌*◌, ◌/◌, ◌%◌, ◌^◌, ◌≤◌, ◌<◌, max}
use native.Mathlib.Nat.{lt_of_lt_of_le, div-eq_of_lt, div_self, zero-div, pow-suc, one-mul, le_refl}
use native.Mathlib.Numerals.{one-add}
use native.Mathlib.Omega.{arith}
use lib.Arith.{bin_ind}
use lib.Pow.{pow_mono, pow_pos, shr-shr, shl_exact}
use lib.Dec.{eqb, ltb}
use lib.Bits.{bit_and, bit_or, and_step, and_shr, or_step, or_shr}
use lib.ListN.{length, get_or, set}
use lib.Seq.{ext_get_or, get_or-set_same, get_or-set_other}
use borrow.Author.Count.{below_more}
use borrow.Author.Tests.{eq-eqb, ne_eqb, eqb-true, eqb-false, lt-ltb, le-ltb, ltb-true, ltb-false}
use Rattle.std.proofs.lemmas.List.{get_or_past}
use Rattle.bounded.proofs.Cases.{cases}
use Rattle.level.specs.Order.{order_of}
use Rattle.level.proofs.Levels.{order-laws}
use Rattle.model.specs.declared.Description.{Description}
use Rattle.model.specs.Description.{over, sound}
use Rattle.model.proofs.Sound.{sound-says, over-levels}
use Rattle.describe.proofs.Descriptions.{over-entry}
use Rattle.keys.specs.Facts.{has_bit, With, Word, pair_of, Words, Orders, Within, Ranges}

pub bit-none : (w c : ℕ) → w < 65536 → 16 ≤ c → has_bit w c ≡ false
unfolding has_bit
bit-none w c h k =
    let q : w / 2 ^ c ≡ 0 = div-eq_of_lt (lt_of_lt_of_le h (pow_mono k)) in rw q

digit_and : (a b : ℕ) → eqb (bit_and a b % 2) 1 ≡ (eqb (a % 2) 1 && eqb (b % 2) 1)
digit_and a b =
    cases (eqb (a % 2) 1)
    (λ t. cases (eqb (b % 2) 1)
    (λ u. rw (t, u) (eq-eqb (bit_and a b % 2) 1 (omega (arith, and_step a b, eqb-true (a % 2) 1 t, eqb-true (b % 2) 1 u))))
    (λ u. rw (t, u) (ne_eqb (bit_and a b % 2) 1 (λ e. eqb-false (b % 2) 1 u (omega (arith, and_step a b, eqb-true (a % 2) 1 t))))))
    (λ t. rw t (ne_eqb (bit_and a b % 2) 1 (λ e. eqb-false (a % 2) 1 t (omega (arith, and_step a b)))))

pub bit-and : (a b c : ℕ) → has_bit (bit_and a b) c ≡ (has_bit a c && has_bit b c)
unfolding has_bit
bit-and a b c = ap (λ (x : ℕ). eqb (x % 2) 1) (and_shr a b c) ∙ digit_and (a / 2 ^ c) (b / 2 ^ c)

-- ---- a level put into a set

abbrev bit : ℕ → ℕ → ℕ
bit w i = w / 2 ^ i % 2

pub shl_one : (i : ℕ) → i < 16 → (1 * 2 ^ i) % 2 ^ 16 ≡ 2 ^ i
shl_one i h = shl_exact 1 i 16 (omega arith) (omega arith) ∙ one-mul (2 ^ i)

bit-or : (a b i : ℕ) → bit (bit_or a b) i ≡ max (bit a i) (bit b i)
bit-or a b i = rw (or_shr a b i) (omega (arith, or_step (a / 2 ^ i) (b / 2 ^ i)))

bit-suc : (w i : ℕ) → bit w (suc i) ≡ bit (w / 2) i
bit-suc w i = ap (λ (k : ℕ). k % 2) (sym (shr-shr w 1 i ∙ ap (λ (k : ℕ). w / 2 ^ k) (one-add i)))

half_pow : (j : ℕ) → 2 ^ suc j / 2 ≡ 2 ^ j
half_pow j = omega (arith, pow-suc 2 j)

bit-pow-same : (j : ℕ) → bit (2 ^ j) j ≡ 1
bit-pow-same j = rw (div_self (pow_pos j))

bit-pow-other : (i j : ℕ) → (i ≡ j → ⊥) → bit (2 ^ j) i ≡ 0
bit-pow-other zero zero n = absurd (n refl)
bit-pow-other zero (suc j) n = omega (arith, pow-suc 2 j)
bit-pow-other (suc i) zero n = bit-suc 1 i ∙ ap (λ (k : ℕ). k % 2) (zero-div (2 ^ i))
bit-pow-other (suc i) (suc j) n = bit-suc (2 ^ suc j) i ∙ rw half_pow (bit-pow-other i j (λ e. n (ap suc e)))

pub with-on : (w b : ℕ) (on : Bool) → on ≡ true → With w b on (bit_or w (2 ^ b))
unfolding has_bit
with-on w b on t =
    record {
      right = λ c. cases (eqb c b)
          (λ e. rw (e, t) (eq-eqb (bit (bit_or w (2 ^ b)) c) 1 (same_bit c (eqb-true c b e))))
          (λ e. let q : bit (bit_or w (2 ^ b)) c ≡ bit w c = omega (arith, bit-or w (2 ^ b) c, bit-pow-other c b (eqb-false c b e)) in rw e (ap (λ (x : ℕ). eqb x 1) q));
    }
  where
    same_bit : (c : ℕ) → c ≡ b → bit (bit_or w (2 ^ b)) c ≡ 1
    same_bit c e = rw e (omega (arith, bit-or w (2 ^ b) b, bit-pow-same b))

-- ---- the levels of which a test is true

bit-zero : (c : ℕ) → has_bit 0 c ≡ false
unfolding has_bit
bit-zero c = rw (zero-div (2 ^ c))

pub word_none : (f : ℕ → Bool) → Word f 0 0
word_none f = record { right = λ c. rw (bit-zero c, le-ltb c 0 (omega arith)) }

or-false : (x : Bool) → (x || false) ≡ x
or-false true = refl
or-false false = refl

pub word_more : (f : ℕ → Bool) (b w : ℕ) {on : Bool} {r : ℕ} → Word f b w → on ≡ f b → With w b on r → Word f (b + 1) r
word_more f b w {on} {r} D e W =
    record {
      right = λ c. W.right c ∙ cases (eqb c b)
          (λ t. let q = eqb-true c b t in rw (t, D.right c, q, le-ltb b b (le_refl b), lt-ltb b (b + 1) (omega arith), e) (or-false (f b)))
          (λ t. let q = eqb-false c b t in rw (t, D.right c) (ap (λ (x : Bool). x && f c) (step c q)));
    }
  where
    step : (c : ℕ) → (c ≡ b → ⊥) → ltb c b ≡ ltb c (b + 1)
    step c q = cases (ltb c b) (λ t. rw t (sym (lt-ltb c (b + 1) (omega (arith, ltb-true c b t))))) (λ t. rw t (sym (le-ltb c (b + 1) (omega (arith, ltb-false c b t)))))

-- an entry of the order, read where both levels are below 16
module _ (order : List (List Bool)) (turned : Bool) (a b : ℕ) (ha : a < 16) (hb : b < 16) where
  pub pair-as : turned ≡ false → get_or (get_or order a []) b false ≡ pair_of order turned a b
  unfolding pair_of
  pair-as t = rw t (sym ((order-laws [] 0).read order a b ha hb))

  pub pair-turned : turned ≡ true → get_or (get_or order b []) a false ≡ pair_of order turned a b
  unfolding pair_of
  pair-turned t = rw t (sym ((order-laws [] 0).read order b a hb ha))

-- ---- a list that is filled one number after the other

pub each_more : (P : ℕ → ℕ → Type 0) (i : ℕ) (l : List ℕ) (v : ℕ) → i < length l → P i v → ((k : ℕ) → k < i → P k (get_or l k 0)) → (k : ℕ) → k < i + 1 → P k (get_or (set l i v) k 0)
each_more P i l v h p q =
    below_more _ i
    (λ k lt. subst (P k) (sym (get_or-set_other l i k v 0 (omega arith))) (q k lt))
    (subst (P i) (sym (get_or-set_same l i v 0 h)) p)

-- ---- at most one

-- numbers with the same digits are one
number-one : (v w : ℕ) → ((c : ℕ) → bit v c ≡ bit w c) → v ≡ w
number-one =
    bin_ind (λ (v : ℕ). (w : ℕ) → ((c : ℕ) → bit v c ≡ bit w c) → v ≡ w)
    (bin_ind (λ (w : ℕ). ((c : ℕ) → bit 0 c ≡ bit w c) → 0 ≡ w)
    (λ h. refl)
    (λ w ih h. omega (arith, ih (λ c. sym (bit-suc 0 c) ∙ h (suc c) ∙ bit-suc w c), h 0)))
    (λ v ih w h. omega (arith, ih (w / 2) (λ c. sym (bit-suc v c) ∙ h (suc c) ∙ bit-suc w c), h 0))

one-digit : (a b : ℕ) → a < 2 → b < 2 → eqb a 1 ≡ eqb b 1 → a ≡ b
one-digit a b h k e =
    cases (eqb a 1)
    (λ t. omega (arith, eqb-true a 1 t, eqb-true b 1 (sym e ∙ t)))
    (λ t. let n = eqb-false a 1 t in let m = eqb-false b 1 (sym e ∙ t) in omega arith)

-- a set is one number
set-one : (v w : ℕ) → ((c : ℕ) → has_bit v c ≡ has_bit w c) → v ≡ w
unfolding has_bit
set-one v w h = number-one v w (λ c. one-digit (bit v c) (bit w c) (omega arith) (omega arith) (h c))

pub words-one : (order : List (List Bool)) (turned : Bool) (x y : List ℕ) → Words order turned 16 x → Words order turned 16 y → x ≡ y
words-one order turned x y p q =
    ext_get_or 0 x y (p.long ∙ sym q.long)
    (λ i h. let l : i < 16 = omega (arith, p.long) in set-one _ _ (λ c. (p.right i l).right c ∙ sym ((q.right i l).right c)))

pub ranges-one : (d : Description) (x y : List ℕ) → Ranges d 81 x → Ranges d 81 y → x ≡ y
ranges-one d x y p q =
    ext_get_or 0 x y (p.long ∙ sym q.long)
    (λ i h. let l : i < 81 = omega (arith, p.long) in set-one _ _ (λ c. (p.right i l).right c ∙ sym ((q.right i l).right c)))

-- ---- the order

over-low : (d : Description) → sound d ≡ true → (a b : ℕ) → 16 ≤ b → over d a b ≡ false
over-low d s a b h = let S = sound-says d s in cases (over d a b) (λ t. absurd (omega (arith, over-levels d S a b t, S.few-levels))) (λ t. t)

over-high : (d : Description) → sound d ≡ true → (a b : ℕ) → 16 ≤ a → over d a b ≡ false
over-high d s a b h = let S = sound-says d s in cases (over d a b) (λ t. absurd (omega (arith, over-levels d S a b t, S.few-levels))) (λ t. t)

module _ (d : Description) (order : List (List Bool)) (s : sound d ≡ true) (e : order ≡ order_of d.labels d.levels) where
  pub orders-of : (bs us : List ℕ) → Words order false 16 bs → Words order true 16 us → Orders d bs us
  unfolding pair_of
  orders-of bs us B U =
      record {
        long = B.long;
        wide = U.long;
        below = λ a b h. (B.right a h).right b ∙ cases (ltb b 16) (λ t. rw t (over-entry d order e (sound-says d s).few-levels a b)) (λ t. rw t (sym (over-low d s a b (ltb-false b 16 t))));
        above = λ a b h. (U.right b h).right a ∙ cases (ltb a 16) (λ t. rw t (over-entry d order e (sound-says d s).few-levels a b)) (λ t. rw t (sym (over-high d s a b (ltb-false a 16 t))));
      }

-- ---- ranges

-- where no level is, the words say nothing
module _ (d : Description) (s : sound d ≡ true) (bs us : List ℕ) (G : Orders d bs us) where
  below-all : (a b : ℕ) → has_bit (get_or bs a 0) b ≡ over d a b
  below-all a b =
      cases (ltb a 16)
      (λ t. G.below a b (ltb-true a 16 t))
      (λ t. let h = ltb-false a 16 t in rw (get_or_past bs a 0 (omega (arith, G.long)), bit-zero b) (sym (over-high d s a b h)))

  above-all : (a b : ℕ) → has_bit (get_or us b 0) a ≡ over d a b
  above-all a b =
      cases (ltb b 16)
      (λ t. G.above a b (ltb-true b 16 t))
      (λ t. let h = ltb-false b 16 t in rw (get_or_past us b 0 (omega (arith, G.wide)), bit-zero a) (sym (over-low d s a b h)))

  pub range-of : (low high : ℕ) → Within d low high (bit_and (get_or bs high 0) (get_or us low 0))
  range-of low high = record { right = λ c. bit-and (get_or bs high 0) (get_or us low 0) c ∙ rw (below-all high c, above-all c low) }
