-- The theorems of specs/Theorems.antt on the order and the merging of calls, from the laws of one call on pages.
-- Assumes nothing.
use Prim.Native.Nat.{ℕ, ◌<◌}
use mathlib.Core.Path.{◌≡◌, refl, sym, ap, ◌∙◌, fun_ext}
use mathlib.Core.Bool.{true}
use mathlib.Core.Option.{Option, none, some}
use mathlib.Core.Logic.{◌⊎◌, inl, inr}
use native.Mathlib.Omega.{arith}
use Rattle.bounded.proofs.Cases.{cases}
use Rattle.bounded.proofs.Reflection.{decide, ltb-r}
use Rattle.model.specs.declared.Description.{Description}
use Rattle.model.specs.declared.Fault.{Fault}
use Rattle.model.specs.Numbers.{count_of}
use Rattle.model.specs.Description.{over}
use Rattle.model.specs.Tables.{Row, nocell}
use Rattle.model.specs.Buffers.{inside}
use Rattle.model.specs.Ledger.{Ledger, Pages, cells_of, pages_of, ledger_of}
use Rattle.model.specs.Legal.{LegalPages}
use Rattle.model.specs.Run.{Request, subject, Outcome, refusal, refused, done}
use Rattle.model.proofs.Border.{inside-says}
use Rattle.model.proofs.Pages.{page-path, pages-framed}
use Rattle.theory.specs.Laws.{Laws}
use Rattle.theory.specs.Theorems.{Yes, leaves, hears, Apart, StaysLegal, Kept, RefusalKeeps, ApartCommute, QueuesMerge, OnlySeen}
use Rattle.theory.proofs.Described.{sound-laws}
use Rattle.theory.proofs.State.{step, reply}
use Rattle.theory.proofs.Steps.{step-laws}
use Rattle.theory.proofs.Runs as Runs
use Rattle.theory.proofs.Queues as Queues
use Rattle.theory.proofs.Calls.{yes-says, run-refused, run-done, hears-is, leaves-is, leaves-pages, stays-yes}

pub stays-legal : StaysLegal
stays-legal d b q y = stays-yes d b q y

-- ---- refusals

pub refusal-keeps : RefusalKeeps
unfolding count_of refused done
refusal-keeps d b q fault e = go (refusal d b q) refl
  where
    go : (x : Option Fault) → refusal d b q ≡ x → Kept d b q
    go none r = absurd (let z : ◌≡◌ {A = ℕ} 0 1 = cc (e, ap (λ (o : Outcome). o.reply.answer) (run-done d b q r)) in omega arith)
    go (some x) r =
        let u = run-refused d b q r in
        record {
          count = ap (λ (o : Outcome). count_of o.reply.answer) u;
          ledger = ap (λ (o : Outcome). o.ledger) u;
          shown = ap (λ (o : Outcome). o.reply.shown) u;
          owners = ap (λ (o : Outcome). o.reply.owners) u;
        }

-- ---- two requests

module _ (d : Description) (b : Ledger) (y : Yes d b) where
  abbrev L : Laws d
  L = sound-laws d (yes-says d b y).sound

  abbrev laws : Runs.StepLaws (over d) subject (step d) (reply d) (LegalPages d)
  laws = step-laws d L

  -- what is heard after another's request is what was heard before it
  pub quiet : (q p : Request) → (over d (subject q) (subject p) ≡ true → ⊥) → hears d q (leaves d p b) ≡ hears d q b
  quiet q p n =
      hears-is d (leaves d p b) q (stays-legal d b p y)
      ∙ ap (reply d q) (leaves-pages d b p y)
      ∙ Runs.quiet (over d) subject (step d) (reply d) (LegalPages d) laws q p (pages_of d b) (yes-says d b y).legal n
      ∙ sym (hears-is d b q y)

  twice : (q p : Request) → leaves d p (leaves d q b) ≡ ledger_of d (step d p (step d q (pages_of d b)))
  twice q p = leaves-is d (leaves d q b) p (stays-legal d b q y) ∙ ap (λ (P : Pages). ledger_of d (step d p P)) (leaves-pages d b q y)

  pub commutes : (q p : Request) → Apart d q p → leaves d p (leaves d q b) ≡ leaves d q (leaves d p b)
  commutes q p a =
      twice q p
      ∙ ap (ledger_of d) (laws.commutes q p (pages_of d b) (yes-says d b y).legal (record { not-over = a.not-over; not-under = a.not-under }))
      ∙ sym (twice p q)

pub apart-commute : ApartCommute
apart-commute d b q p y a = record { first = quiet d b y q p a.not-over; second = quiet d b y p q a.not-under; ledger = commutes d b y q p a }

pub queues-merge : QueuesMerge
queues-merge d b qs ps y apart m m' =
    Queues.queues-merge (leaves d) (hears d) (Yes d) (Apart d) (λ q b g. stays-legal d b q g) (λ q p b a g. commutes d b g q p a)
    (λ q p b a g. quiet d b g q p a.not-over) (λ q p b a g. quiet d b g p q a.not-under) m m' b apart y

-- ---- what is seen

-- two ledgers hold the same at a number that is no level: nothing
nowhere : (d : Description) (b c : Ledger) (l : ℕ) → (l < d.levels → ⊥) → pages_of d b l ≡ pages_of d c l
nowhere d b c l n =
    page-path (ap (λ (B : ℕ → ℕ → Row). record { rows = B }) (fun_ext (λ r. fun_ext (λ i. fun_ext (λ k. none-at b r i k ∙ sym (none-at c r i k))))))
  where
    none-at : (b : Ledger) (r i k : ℕ) → (cells_of (pages_of d b) l).rows r i k ≡ nocell
    none-at b r i k = cases (inside d r l i k) (λ t. absurd (n (inside-says d r l i k t).level)) ((pages-framed d b).outside r l i k)

pub sees-only : OnlySeen
sees-only d q = record {
  reply = λ b b' y y' h.
      hears-is d b q y
      ∙ (laws d b y).answers q (pages_of d b) (pages_of d b') (yes-says d b y).legal (yes-says d b' y').legal h
      ∙ sym (hears-is d b' q y');
  above = λ b b' y y' e o h l m.
      ap (λ (P : Pages). P l) (leaves-pages d b q y)
      ∙ (laws d b y).steps e q (pages_of d b) (pages_of d b') (yes-says d b y).legal (yes-says d b' y').legal o h l m
      ∙ sym (ap (λ (P : Pages). P l) (leaves-pages d b' q y'));
  stays = λ b y l n. stays b y l n (decide (ltb-r l d.levels));
}
  where
    stays : (b : Ledger) (y : Yes d b) (l : ℕ) → (over d l (subject q) ≡ true → ⊥) → (l < d.levels) ⊎ (l < d.levels → ⊥) → pages_of d (leaves d q b) l ≡ pages_of d b l
    stays b y l n (inl h) =
        ap (λ (P : Pages). P l) (leaves-pages d b q y)
        ∙ (laws d b y).unseen l q (pages_of d b) n (yes-says d b y).legal l ((L d b y).reflexive l h)
    stays b y l n (inr h) = nowhere d (leaves d q b) b l h
