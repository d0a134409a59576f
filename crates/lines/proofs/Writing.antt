-- The laws of text in a lent buffer: a text behind a text, one byte, a number, what a writer writes, and texts one after the other.
-- Assumes nothing.
use mathlib.Core.Path.{◌≡◌, refl, sym, ◌∙◌}
use mathlib.Core.List.{List, [], ◌∷◌, ◌++◌}
use Prim.Native.Nat.{ℕ, suc, ◌+◌, ◌*◌, ◌/◌, ◌%◌, ◌≤◌, ◌<◌, ◌^◌}
use native.Mathlib.Nat.{add-zero}
use native.Mathlib.Omega.{arith}
use lib.ListN.{length, set, length-append}
use lib.Seq.{set_out}
use Rattle.bounded.specs.Lists.{concat_below}
use Rattle.bounded.proofs.Lists.{concat-more}
use Rattle.lines.proofs.Decimals.{decimal-one, decimal-more, decimal-short}
use Rattle.lines.specs.Text.{digit, decimal}
use Rattle.lines.specs.Written.{written, Wrote}
use Rattle.lines.specs.Writes.{Writes}
use Rattle.lines.specs.declared.writer.Writer.{Writer}

-- ---- a text behind a text

pub written-append : (at : ℕ) (s t b : List ℕ) → written at (s ++ t) b ≡ written (at + length s) t (written at s b)
unfolding written
written-append at [] t b = rw add-zero
written-append at (byte ∷ s) t b =
    let e : at + length (byte ∷ s) ≡ suc at + length s = omega arith in
    rw e (written-append (suc at) s t (set b at byte))

pub wrote_on : {at n m : ℕ} {s t b c d : List ℕ} → Wrote at s b c n → Wrote n t c d m → Wrote at (s ++ t) b d m
wrote_on {at} {n} {m} {s} {t} {b} {c} {d} p q =
    record { is = q.is ∙ rw (p.next-is, p.is) (sym (written-append at s t b)); next-is = q.next-is ∙ rw p.next-is (omega (arith, length-append s t)) }

-- ---- one byte, where the buffer has the place and where it doesn't

pub wrote-in : (at byte : ℕ) (b : List ℕ) → Wrote at (byte ∷ []) b (set b at byte) (at + 1)
unfolding written
wrote-in at byte b = record { is = refl; next-is = omega arith }

pub wrote-out : (at byte : ℕ) (b : List ℕ) → length b ≤ at → Wrote at (byte ∷ []) b b (at + 1)
unfolding written
wrote-out at byte b h = record { is = sym (set_out b at byte h); next-is = omega arith }

-- ---- a number

pub wrote-one : (n : ℕ) {at x r : ℕ} {b c : List ℕ} → n < 10 → x ≡ digit (n % 10) → Wrote at (x ∷ []) b c r → Wrote at (decimal n) b c r × (r ≤ at + 20)
wrote-one n h e p =
    let m : n % 10 ≡ n = omega arith in
    (rw (decimal-one n h, ← (rw m at e)) p, omega (arith, p.next-is))

pub wrote-digit : (n : ℕ) {at m x r : ℕ} {b c d : List ℕ} → 10 ≤ n → n < 2 ^ 64 → Wrote at (decimal (n / 10)) b c m → x ≡ digit (n % 10) → Wrote m (x ∷ []) c d r → Wrote at (decimal n) b d r × (r ≤ at + 20)
wrote-digit n {at} {m} {x} {r} {b} {c} {d} h k p e q =
    let w : Wrote at (decimal n) b d r = rw (decimal-more n h, ← e) (wrote_on p q) in
    (w, omega (arith, w.next-is, decimal-short n k))

-- ---- what a writer writes

pub writes_on : {n m : ℕ} {s t : List ℕ} {a b c : Writer} → Writes n s a b → Writes m t b c → Writes (n + m) (s ++ t) a c
writes_on p q =
    record { same = q.same ∙ p.same; wrote = wrote_on p.wrote q.wrote; near = omega (arith, p.near, q.near) }

pub writes-within : (n : ℕ) {m : ℕ} {t : List ℕ} {a b : Writer} → m ≤ n → Writes m t a b → Writes n t a b
writes-within n h p = record { same = p.same; wrote = p.wrote; near = omega (arith, p.near) }

-- ---- texts one after the other

pub writes-none : (g : ℕ → List ℕ) (a : Writer) → Writes 0 (concat_below 0 g) a a
unfolding written concat_below
writes-none g a = record { same = refl; wrote = record { is = refl; next-is = omega arith }; near = omega arith }

pub writes-more : (k n : ℕ) (g : ℕ → List ℕ) {a b c : Writer} → Writes (n * k) (concat_below k g) a b → Writes n (g k) b c → Writes (n * (k + 1)) (concat_below (k + 1) g) a c
writes-more k n g p q = rw concat-more (writes-within (n * (k + 1)) (omega arith) (writes_on p q))
