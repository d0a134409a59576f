-- Runs of requests over a state that is stored by levels, where a subject sees what is stored at the levels that its own dominates. From
-- laws of a single request: any merging of two queues.
-- Assumes nothing.
use Prim.Native.Nat.{ℕ}
use mathlib.Core.Bool.{Bool, true}
use mathlib.Core.List.{List}
use mathlib.Core.Path.{◌≡◌}
use Rattle.theory.specs.Queues.{Merge, Each, SameRun}
use Rattle.theory.proofs.Queues.{queues-merge}

-- c sees the same
abbrev pub Low : (ℕ → ℕ → Bool) → {Level : Type 0} → ℕ → (ℕ → Level) → (ℕ → Level) → Type 0
Low dom c S U = (l : ℕ) → dom c l ≡ true → S l ≡ U l

-- neither of two requests is from a level that dominates the other's
pub record Apart (dom : ℕ → ℕ → Bool) {Request : Type 0} (subject : Request → ℕ) (q p : Request) : Type 0 where
  pub not-over : dom (subject q) (subject p) ≡ true → ⊥
  pub not-under : dom (subject p) (subject q) ≡ true → ⊥

pub record StepLaws {Request Level Reply : Type 0} (dom : ℕ → ℕ → Bool) (subject : Request → ℕ) (step : Request → (ℕ → Level) → (ℕ → Level)) (reply : Request → (ℕ → Level) → Reply) (Legal : (ℕ → Level) → Type 0) : Type 0 where
  pub step-legal : (q : Request) (S : ℕ → Level) → Legal S → Legal (step q S)
  -- a level that does not dominate the subject's sees no change
  pub unseen : (c : ℕ) (q : Request) (S : ℕ → Level) → (dom c (subject q) ≡ true → ⊥) → Legal S → Low dom c (step q S) S
  -- a subject's reply, and what its request does to the levels that c sees, depend on what is seen
  pub answers : (q : Request) (S U : ℕ → Level) → Legal S → Legal U → Low dom (subject q) S U → reply q S ≡ reply q U
  pub steps : (c : ℕ) (q : Request) (S U : ℕ → Level) → Legal S → Legal U → dom c (subject q) ≡ true → Low dom c S U → Low dom c (step q S) (step q U)
  pub commutes : (q p : Request) (S : ℕ → Level) → Legal S → Apart dom subject q p → step p (step q S) ≡ step q (step p S)

module _ {Request Level Reply : Type 0} (dom : ℕ → ℕ → Bool) (subject : Request → ℕ) (step : Request → (ℕ → Level) → (ℕ → Level)) (reply : Request → (ℕ → Level) → Reply)
    (Legal : (ℕ → Level) → Type 0) (H : StepLaws dom subject step reply Legal) where
  -- a reply does not change by a request from a level that the subject's does not dominate
  pub quiet : (q p : Request) (S : ℕ → Level) → Legal S → (dom (subject q) (subject p) ≡ true → ⊥) → reply q (step p S) ≡ reply q S
  quiet q p S g n = H.answers q (step p S) S (H.step-legal p S g) g (H.unseen (subject q) p S n g)

  -- two queues, no level of one dominating a level of the other, in any merging
  pub queues : {qs ps : List Request} (m m' : Merge qs ps) (S : ℕ → Level) → Each (λ q. Each (Apart dom subject q) ps) qs → Legal S → SameRun step reply m m' S
  queues m m' S a g =
      queues-merge step reply Legal (Apart dom subject) H.step-legal
      (λ q p S h g. H.commutes q p S g h) (λ q p S h g. quiet q p S g h.not-over) (λ q p S h g. quiet p q S g h.not-under) m m' S a g
