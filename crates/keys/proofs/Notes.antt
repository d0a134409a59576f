-- Notes beside the keys: writing one leaves the keys as they are, and a key whose place has none is new.
-- Assumes nothing.
use mathlib.Core.Path.{◌≡◌, refl, sym, ap, ◌∙◌}
use mathlib.Core.Bool.{true}
use mathlib.Core.Logic.{◌≢◌}
use mathlib.Core.List.{List}
use Prim.Native.Nat.{ℕ, suc, ◌+◌, ◌*◌, ◌≤◌, ◌<◌}
use native.Mathlib.Nat.{mul-le-mul_right}
use native.Mathlib.Omega.{arith}
use lib.Dec.{eqb, ltb}
use lib.ListN.{length, get_or, set, length-set}
use lib.Seq.{get_or-set_same, get_or-set_other}
use borrow.Author.Tests.{ltb-true, ltb-false, ne_eqb, eq-eqb, eqb-true, eqb-false}
use Rattle.bounded.specs.Bounded.{first_below, all_below}
use Rattle.bounded.proofs.Cases.{cases, clash, split-last}
use Rattle.bounded.proofs.First.{first_cong, first_holds, first-before}
use Rattle.bounded.proofs.All.{all-cong}
use Rattle.model.specs.declared.Description.{Description}
use Rattle.model.specs.Description.{row_count, start_of, sound}
use Rattle.keys.specs.Facts.{has_key, Once, first_of, slot_of, Noted, Kept, Keyed, distinct_keys}
use Rattle.keys.proofs.Sought.{first-none}
use Rattle.keys.proofs.Starts.{keys-room}

pub slot-room : (from v : ℕ) → (8192 ≤ slot_of from v) × (slot_of from v < 16384)
unfolding slot_of
slot-room from v = (omega arith, omega arith)

-- ---- keys that are kept

pub kept_self : (ks : List ℕ) → Kept ks ks
kept_self ks = record { long = refl; same = λ p h. refl }

pub kept_then : (xs ys zs : List ℕ) → Kept xs ys → Kept ys zs → Kept xs zs
kept_then xs ys zs K L = record { long = L.long ∙ K.long; same = λ p h. L.same p h ∙ K.same p h }

pub kept_set : (ks : List ℕ) (p x : ℕ) → 8192 ≤ p → Kept ks (set ks p x)
kept_set ks p x h = record { long = length-set ks p x; same = λ q g. get_or-set_other ks p q x 0 (λ e. absurd (omega arith)) }

module _ (xs ys : List ℕ) (K : Kept xs ys) where
  first-kept : (from i : ℕ) → from + i < 8192 → first_of ys from i ≡ first_of xs from i
  unfolding first_of has_key
  first-kept from i h =
      let v = get_or xs (from + i) 0 in
      let e : first_below i (has_key ys from v) ≡ first_below i (has_key xs from v) = first_cong i _ _ (λ j g. ap (λ (x : ℕ). eqb x v) (K.same (from + j) (omega arith))) in
      rw (K.same (from + i) h, e)

  pub all-kept : (from n : ℕ) → from + n ≤ 8192 → all_below n (first_of ys from) ≡ all_below n (first_of xs from)
  all-kept from n h = all-cong n _ _ (λ i g. first-kept from i (omega arith))

-- ---- notes

pub noted-none : (ks : List ℕ) (from : ℕ) → Noted ks from 0
noted-none ks from = record { noted = λ i h. absurd (omega arith) }

pub noted_more : (ks : List ℕ) (from n : ℕ) → Noted ks from n → (get_or ks (from + n) 0 ≢ 0 → get_or ks (slot_of from (get_or ks (from + n) 0)) 0 ≢ 0) → Noted ks from (n + 1)
noted_more ks from n N f =
    record { noted = λ i h. let g : i < suc n = omega arith in split-last g (λ l. N.noted i l) (λ e. rw e f) }

pub noted-set : (ks : List ℕ) (from n p x : ℕ) → from + n ≤ 8192 → 8192 ≤ p → p < length ks → x ≢ 0 → Noted ks from n → Noted (set ks p x) from n
noted-set ks from n p x h g l z N =
    record {
      noted = λ i f. let e : get_or (set ks p x) (from + i) 0 ≡ get_or ks (from + i) 0 = get_or-set_other ks p (from + i) x 0 (λ q. absurd (omega arith)) in
          rw e
          (λ y. cases (eqb (slot_of from (get_or ks (from + i) 0)) p)
          (λ t. rw (eqb-true _ p t, get_or-set_same ks p x 0 l) z)
          (λ t. rw (get_or-set_other ks p (slot_of from (get_or ks (from + i) 0)) x 0 (eqb-false _ p t)) (N.noted i f y)));
    }

pub noted-new : (ks : List ℕ) (from n v : ℕ) → Noted ks from n → v ≢ 0 → get_or ks (slot_of from v) 0 ≡ 0 → first_below n (has_key ks from v) ≡ n
unfolding has_key
noted-new ks from n v N z e =
    first-none n _
    (λ j h. ne_eqb (get_or ks (from + j) 0) v
    (λ q. N.noted j h (λ y. z (sym q ∙ y)) (ap (λ (x : ℕ). get_or ks (slot_of from x) 0) q ∙ e)))

-- a key that is new, once it is noted
pub fresh-new : (ks : List ℕ) (from i x : ℕ) → from + i < 8192 → length ks ≡ 16384 → get_or ks (from + i) 0 ≢ 0 → get_or ks (slot_of from (get_or ks (from + i) 0)) 0 ≡ 0 → x ≢ 0 → Noted ks from i
    → (true ≡ first_of ks from i)
    × Kept ks (set ks (slot_of from (get_or ks (from + i) 0)) x)
    × Noted (set ks (slot_of from (get_or ks (from + i) 0)) x) from (i + 1)
unfolding first_of
fresh-new ks from i x h l z e y N =
    let v = get_or ks (from + i) 0 in
    let p = slot_of from v in
    let R : (8192 ≤ p) × (p < 16384) = slot-room from v in
    let inside : p < length ks = omega (arith, R.1) in
    let here : get_or (set ks p x) (from + i) 0 ≡ v = get_or-set_other ks p (from + i) x 0 (λ q. absurd (omega (arith, R.0))) in (
      rw (ne_eqb v 0 z, noted-new ks from i v N z e, eq-eqb i i refl),
      kept_set ks p x R.0,
      noted_more (set ks p x) from i (noted-set ks from i p x (omega arith) R.0 inside y N) (λ _. rw (here, get_or-set_same ks p x 0 inside) y),
    )

pub once-first : (ks : List ℕ) (from n v i : ℕ) → Once ks from n v → i < n → has_key ks from v i ≡ true → i ≡ first_below n (has_key ks from v)
once-first ks from n v i O h t =
    cases (ltb (first_below n (has_key ks from v)) n)
    (λ u. O.one i _ h (ltb-true _ _ u) t (first_holds n _ (ltb-true _ _ u)))
    (λ u. clash t (first-before n (has_key ks from v) i (omega (arith, ltb-false (first_below n (has_key ks from v)) n u))))

-- ---- every relation

module _ (d : Description) (s : sound d ≡ true) (xs ys : List ℕ) (K : Kept xs ys) where
  pub keyed-kept : (vs : List ℕ) → Keyed d vs d.relations xs → Keyed d vs d.relations ys
  keyed-kept vs G =
      record {
        long = K.long ∙ G.long;
        right = λ r j h g. K.same (start_of d (suc r) + j) (omega (arith, keys-room d s r h)) ∙ G.right r j h g;
      }

  pub relation-kept : (r : ℕ) → r < d.relations
      → all_below d.levels (λ l. all_below (row_count d (suc r)) (first_of ys (start_of d (suc r) + l * row_count d (suc r))))
      ≡ all_below d.levels (λ l. all_below (row_count d (suc r)) (first_of xs (start_of d (suc r) + l * row_count d (suc r))))
  relation-kept r h =
      all-cong d.levels _ _
      (λ l g. all-kept xs ys K (start_of d (suc r) + l * row_count d (suc r)) (row_count d (suc r)) (omega (arith, keys-room d s r h, mul-le-mul_right (row_count d (suc r)) g)))

  pub distinct-kept : distinct_keys d ys ≡ distinct_keys d xs
  unfolding distinct_keys
  distinct-kept = all-cong d.relations _ _ relation-kept
