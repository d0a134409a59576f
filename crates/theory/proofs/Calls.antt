-- One call on a ledger is one call on the pages that it holds, and the judge says what it is defined to say.
-- Assumes nothing.
use Prim.Native.Nat.{ℕ}
use mathlib.Core.Path.{◌≡◌, refl, sym, ap, ◌∙◌, subst}
use mathlib.Core.Bool.{true, false}
use mathlib.Core.Option.{Option, none, some}
use native.Mathlib.Omega.{arith}
use lib.ListN.{length}
use Rattle.bounded.specs.Tests.{Reflects}
use Rattle.bounded.proofs.Cases.{cases}
use Rattle.bounded.proofs.Reflection.{is_true, of-true, of-false, and_r, eqb-r, reflects-as}
use Rattle.model.specs.declared.Description.{Description}
use Rattle.model.specs.declared.Fault.{Fault}
use Rattle.std.specs.Prelude.{Ok, Err}
use Rattle.model.specs.Answers.{Verdict}
use Rattle.model.specs.Description.{sound, total_of}
use Rattle.model.specs.Tables.{seen}
use Rattle.model.specs.Buffers.{fitting}
use Rattle.model.specs.Ledger.{Ledger, Pages, cells_of, lent_fits, pages_of, ledger_of}
use Rattle.model.specs.Legal.{LegalPages}
use Rattle.model.specs.Judge.{legal_pages, judge}
use Rattle.model.specs.Run.{Request, subject, Outcome, refusal, first_fault, refused, done, after, run}
use Rattle.model.proofs.Pages.{pages-framed, ledger-pages, pages-ledger, ledger-fits}
use Rattle.theory.specs.Laws.{Laws}
use Rattle.theory.specs.Theorems.{Yes, leaves, hears, Lengths, Says, is-legal, not_sound, not-long, not-legal, JudgeLegal}
use Rattle.theory.proofs.Described.{sound-laws}
use Rattle.theory.proofs.Judged.{judged, legal-framed}
use Rattle.theory.proofs.State.{fault, acts, step, reply}
use Rattle.theory.proofs.Tests.{passed}
use Rattle.theory.proofs.Steps.{step-legal}

-- ---- the judge

lengths-r : (d : Description) (b : Ledger) → Reflects (Lengths d b) (lent_fits d b)
unfolding lent_fits fitting
lengths-r d b =
    reflects-as (λ h. record { values = h.0; classes = h.1 }) (λ h. (h.values, h.classes))
    (and_r (eqb-r (length b.tables.values) (total_of d)) (eqb-r (length b.tables.classes) (total_of d)))

legal-r : (d : Description) (b : Ledger) → sound d ≡ true → Reflects (LegalPages d (pages_of d b)) (legal_pages d (pages_of d b))
unfolding legal_pages
legal-r d b s = judged d (sound-laws d s) (cells_of (pages_of d b)) (pages-framed d b)

pub judge-legal : JudgeLegal
unfolding judge
judge-legal d b =
    cases (sound d)
    (λ s. cases (lent_fits d b)
    (λ f. cases (legal_pages d (pages_of d b))
    (λ g. rw (s, f, g) (is-legal s (of-true (lengths-r d b) f) (of-true (legal-r d b s) g)))
    (λ g. rw (s, f, g) (not-legal s (of-true (lengths-r d b) f) (of-false (legal-r d b s) g))))
    (λ f. rw (s, f) (not-long s (of-false (lengths-r d b) f))))
    (λ s. rw s (not_sound s))

-- what a yes says, and what gives one
pub record Judged (d : Description) (b : Ledger) : Type 0 where
  pub sound : sound d ≡ true
  pub lengths : Lengths d b
  pub legal : LegalPages d (pages_of d b)

pub yes-says : (d : Description) (b : Ledger) → Yes d b → Judged d b
yes-says d b e = go (judge-legal d b) e
  where
    go : {v : Verdict} → Says d b v → v ≡ (Ok tt) → Judged d b
    go (is-legal s f g) e = record { sound = s; lengths = f; legal = g }
    go (not_sound s) e = absurd (let z : ◌≡◌ {A = ℕ} 0 1 = cc in omega arith)
    go (not-long s f) e = absurd (let z : ◌≡◌ {A = ℕ} 0 1 = cc in omega arith)
    go (not-legal s f g) e = absurd (let z : ◌≡◌ {A = ℕ} 0 1 = cc in omega arith)

pub yes_of : (d : Description) (b : Ledger) → Judged d b → Yes d b
unfolding judge
yes_of d b j =
    rw (j.sound, is_true (lengths-r d b) j.lengths, is_true (legal-r d b j.sound) j.legal)

-- legal pages, as a ledger
pub ledger-yes : (d : Description) (P : Pages) → sound d ≡ true → LegalPages d P → Yes d (ledger_of d P)
ledger-yes d P s g = yes_of d (ledger_of d P) (record {
  sound = s;
  lengths = of-true (lengths-r d (ledger_of d P)) (ledger-fits d P);
  legal = subst (LegalPages d) (sym (pages-ledger d P (legal-framed d (sound-laws d s) (cells_of P) g))) g;
})

-- ---- a call

-- refused or done, on a ledger
pub run-refused : (d : Description) (b : Ledger) (q : Request) {x : Fault} → refusal d b q ≡ some x → run d b q ≡ record { reply = refused q x; ledger = b }
unfolding run
run-refused d b q e = rw (e, run)

pub run-done : (d : Description) (b : Ledger) (q : Request) → refusal d b q ≡ none
    → run d b q ≡ record { reply = done d q (seen d (subject q) (cells_of (pages_of d b))); ledger = ledger_of d (after d q (pages_of d b)) }
unfolding run
run-done d b q e = rw (e, run)

-- a request that is done is made on legal tables
pub done-says : (d : Description) (b : Ledger) (q : Request) {count : ℕ} → (hears d q b).answer ≡ Ok count → Yes d b × (fault d q (pages_of d b) ≡ none)
unfolding refusal judge fault refused
done-says d b q {count} h = go (refusal d b q) refl
  where
    go : (x : Option Fault) → refusal d b q ≡ x → Yes d b × (fault d q (pages_of d b) ≡ none)
    go (some x) e = absurd (let z : ◌≡◌ {A = ℕ} 0 1 = cc (h, ap (λ (o : Outcome). o.reply.answer) (run-refused d b q e)) in omega arith)
    go none e =
        let s = passed _ _ e in
        let f = passed _ _ s.1 in
        (rw (s.0, f.0, (passed _ _ f.1).0), f.1)

-- and on pages
reply-refused : (d : Description) (q : Request) (P : Pages) {x : Fault} → fault d q P ≡ some x → reply d q P ≡ refused q x
unfolding reply
reply-refused d q P e = rw (e, reply)

pub reply-done : (d : Description) (q : Request) (P : Pages) → fault d q P ≡ none → reply d q P ≡ done d q (seen d (subject q) (cells_of P))
unfolding reply
reply-done d q P e = rw (e, reply)

pub step-refused : (d : Description) (q : Request) (P : Pages) {x : Fault} → fault d q P ≡ some x → step d q P ≡ P
unfolding step acts
step-refused d q P e = let a : acts d q P ≡ false = rw (e, acts) in rw a

pub step-done : (d : Description) (q : Request) (P : Pages) → fault d q P ≡ none → step d q P ≡ after d q P
unfolding step acts
step-done d q P e = let a : acts d q P ≡ true = rw (e, acts) in rw a

module _ (d : Description) (b : Ledger) (q : Request) (s : sound d ≡ true) (f : lent_fits d b ≡ true) where
  refusal_is : refusal d b q ≡ fault d q (pages_of d b)
  unfolding refusal first_fault fault
  refusal_is = rw (s, f)

  pub call-is : run d b q ≡ record { reply = reply d q (pages_of d b); ledger = ledger_of d (step d q (pages_of d b)) }
  call-is = go (fault d q (pages_of d b)) refl
    where
      go : (x : Option Fault) → fault d q (pages_of d b) ≡ x → run d b q ≡ record { reply = reply d q (pages_of d b); ledger = ledger_of d (step d q (pages_of d b)) }
      go none e =
          run-done d b q (refusal_is ∙ e)
          ∙ (λ i. record { reply = sym (reply-done d q (pages_of d b) e) i; ledger = ledger_of d (sym (step-done d q (pages_of d b) e) i) })
      go (some x) e =
          run-refused d b q (refusal_is ∙ e)
          ∙ (λ i. record { reply = sym (reply-refused d q (pages_of d b) e) i; ledger = (sym (ledger-pages d b f) ∙ ap (ledger_of d) (sym (step-refused d q (pages_of d b) e))) i })

-- ---- a call on legal tables

module _ (d : Description) (b : Ledger) (q : Request) (yes : Yes d b) where
  abbrev j : Judged d b
  j = yes-says d b yes

  abbrev L : Laws d
  L = sound-laws d (yes-says d b yes).sound

  call : run d b q ≡ record { reply = reply d q (pages_of d b); ledger = ledger_of d (step d q (pages_of d b)) }
  call = call-is d b q j.sound (is_true (lengths-r d b) j.lengths)

  pub hears-is : hears d q b ≡ reply d q (pages_of d b)
  hears-is = ap (λ (o : Outcome). o.reply) call

  pub leaves-is : leaves d q b ≡ ledger_of d (step d q (pages_of d b))
  leaves-is = ap (λ (o : Outcome). o.ledger) call

  pub leaves-pages : pages_of d (leaves d q b) ≡ step d q (pages_of d b)
  leaves-pages =
      ap (pages_of d) leaves-is
      ∙ pages-ledger d (step d q (pages_of d b)) (legal-framed d L (cells_of (step d q (pages_of d b))) (step-legal d L q (pages_of d b) j.legal))

  pub stays-yes : Yes d (leaves d q b)
  stays-yes = subst (Yes d) (sym leaves-is) (ledger-yes d (step d q (pages_of d b)) j.sound (step-legal d L q (pages_of d b) j.legal))
