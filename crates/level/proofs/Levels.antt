-- The laws of the levels that distinct labels give, and of the order that is laid out.
-- Assumes nothing.
use mathlib.Core.Path.{◌≡◌, refl, sym, ◌∙◌}
use mathlib.Core.Bool.{Bool, true, false, ◌&&◌}
use mathlib.Core.List.{List, []}
use Prim.Native.Nat.{ℕ, ◌<◌, ◌≤◌}
use native.Mathlib.Omega.{arith}
use native.Mathlib.Decide.{dec_lt}
use lib.Dec.{ltb}
use lib.ListN.{length, get_or}
use borrow.Author.Tests.{ltb-true, lt-ltb, le-ltb}
use Rattle.level.specs.Label.{dominates}
use Rattle.level.specs.Order.{level_dominates, row_of, order_of, entry_of}
use Rattle.level.specs.Laws.{Distinct, LevelLaws, OrderLaws}
use Rattle.level.proofs.Laws.{label-laws, and-true}
use Rattle.level.proofs.Fill.{get_or-up_to, length-up_to}

not-lt : {a b : ℕ} → (a < b → ⊥) → b ≤ a
not-lt h = omega arith

read : (order : List (List Bool)) (a b : ℕ) → a < 16 → b < 16 → entry_of order a b ≡ get_or (get_or order a []) b false
unfolding entry_of
read order a b h k = rw (lt-ltb a 16 h, lt-ltb b 16 k)

module _ (labels : List ℕ) (n : ℕ) where
  record Pair (a b : ℕ) : Type 0 where
    high : a < n
    low : b < n
    over : dominates (get_or labels a 0) (get_or labels b 0) ≡ true

  says : (a b : ℕ) → level_dominates labels n a b ≡ true → Pair a b
  unfolding level_dominates
  says a b p =
      let h = and-true (ltb a n) _ p in
      let k = and-true (ltb b n) _ h.1 in
      record { high = ltb-true a n h.0; low = ltb-true b n k.0; over = k.1 }

  shown : (a b : ℕ) → Pair a b → level_dominates labels n a b ≡ true
  unfolding level_dominates
  shown a b d = simp (lt-ltb a n d.high, lt-ltb b n d.low) d.over

  pub level-laws : Distinct labels n → LevelLaws labels n
  level-laws distinct = record {
    within = λ a b p. let d = says a b p in (d.high, d.low);
    reflexive = λ a h. shown a a (record { high = h; low = h; over = label-laws.reflexive (get_or labels a 0) });
    transitive = λ a b c p q.
        let d = says a b p in
        let e = says b c q in
        shown a c (record { high = d.high; low = e.low; over = label-laws.transitive _ _ _ d.over e.over });
    antisymmetric = λ a b p q.
        let d = says a b p in
        let e = says b a q in
        distinct.one a b d.high d.low (label-laws.antisymmetric _ _ d.over e.over);
    higher = λ a b p m.
        let d = says a b p in
        label-laws.higher _ _ d.over (λ e. m (distinct.one a b d.high d.low e));
  }

  inside : (a b : ℕ) → a < 16 → b < 16 → entry_of (order_of labels n) a b ≡ level_dominates labels n a b
  unfolding entry_of order_of row_of
  inside a b h k =
      rw (lt-ltb a 16 h, lt-ltb b 16 k, get_or-up_to 16 (row_of labels n) a [] h)
      (get_or-up_to 16 (level_dominates labels n a) b false k)

  outside : (a b : ℕ) → (a < 16 → b < 16 → ⊥) → entry_of (order_of labels n) a b ≡ false
  unfolding entry_of
  outside a b m = go (dec_lt a 16)
    where
      go : Dec (a < 16) → (ltb a 16 && (ltb b 16 && get_or (get_or (order_of labels n) a []) b false)) ≡ false
      go (yes h) = rw (lt-ltb a 16 h, le-ltb b 16 (not-lt (m h)))
      go (no k) = rw (le-ltb a 16 (not-lt k))

  no-level : n ≤ 16 → (a b : ℕ) → (a < 16 → b < 16 → ⊥) → level_dominates labels n a b ≡ false
  no-level l a b m = go (level_dominates labels n a b) (says a b)
    where
      go : (x : Bool) → (x ≡ true → Pair a b) → x ≡ false
      go true f = let d = f refl in absurd (m (omega arith) (omega arith))
      go false f = refl

  entries : n ≤ 16 → (a b : ℕ) → entry_of (order_of labels n) a b ≡ level_dominates labels n a b
  entries l a b = go (dec_lt a 16) (dec_lt b 16)
    where
      go : Dec (a < 16) → Dec (b < 16) → entry_of (order_of labels n) a b ≡ level_dominates labels n a b
      go (yes h) (yes k) = inside a b h k
      go (yes h) (no k) = let m : a < 16 → b < 16 → ⊥ = λ _ b. k b in outside a b m ∙ sym (no-level l a b m)
      go (no h) _ = let m : a < 16 → b < 16 → ⊥ = λ a _. h a in outside a b m ∙ sym (no-level l a b m)

  long : (a : ℕ) → a < 16 → length (get_or (order_of labels n) a []) ≡ 16
  unfolding order_of row_of
  long a h = rw (get_or-up_to 16 (row_of labels n) a [] h) (length-up_to 16 (level_dominates labels n a))

  pub order-laws : OrderLaws labels n
  order-laws = record { inside = inside; outside = outside; entries = entries; long = long; read = read }
