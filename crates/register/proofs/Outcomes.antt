-- From what a statement's function promises to what is carried out, and from there to the outcome of the whole call.
-- Assumes nothing.
use Prim.Native.Nat.{ℕ}
use mathlib.Core.Path.{◌≡◌, refl, sym, ap, ◌∙◌}
use mathlib.Core.Bool.{Bool, true, false}
use mathlib.Core.List.{List, []}
use mathlib.Core.Option.{none, some}
use Rattle.bounded.specs.Lists.{write_at}
use Rattle.bounded.proofs.Lists.{write-none}
use Rattle.model.specs.declared.Description.{Description}
use Rattle.model.specs.declared.What.{What}
use Rattle.model.specs.declared.What.TheVariants as Whats
use Rattle.model.specs.declared.Fault.{Fault}
use Rattle.model.specs.declared.Fault.TheVariants as Faults
use Rattle.std.specs.Prelude.{Ok, Err}
use Rattle.model.specs.Answers.{Answer}
use Rattle.model.specs.Description.{sound}
use Rattle.model.specs.Tables.{State, seen}
use Rattle.model.specs.Buffers.{holding, fitting, state_of, buffers_of}
use Rattle.model.specs.Ledger.{Ledger, lending, cells_of, lent_fits, pages_of, ledger_of}
use Rattle.model.specs.Judge.{legal, legal_pages}
use Rattle.model.specs.Effect.{Effect}
use Rattle.model.specs.Select.{values_shown, owners_shown}
use Rattle.model.specs.Run.{Request, subject, relation, met_count, formed, further, first_fault, tests, refusal, effect_as, left, after, shown_as, count_as, refused, done, run}
use Rattle.model.proofs.Border.{buffers-state}
use Rattle.model.proofs.Pages.{ledger-path}
use Rattle.theory.proofs.Calls.{run-refused, run-done}
use Rattle.change.specs.Facts as change
use Rattle.change.specs.Facts.{sight, Answered, shows, Inserts, Deletes, Updates, Uplevels, Selects, met_rows}
use Rattle.register.specs.Facts.{Judged}
use Rattle.register.specs.Calls.{outcome, Carried, refuses, does}

module _ (d : Description) (b : Ledger) (q : Request) where
  -- ---- why a call is refused

  pub unsound-refused : sound d ≡ false → refusal d b q ≡ some Faults.Description
  unfolding refusal first_fault
  unsound-refused s = rw s

  module _ (s : sound d ≡ true) where
    pub unfit-refused : lent_fits d b ≡ false → refusal d b q ≡ some Faults.Length
    unfolding refusal first_fault
    unfit-refused f = rw (s, f)

    module _ (f : lent_fits d b ≡ true) where
      pub illegal-refused : legal_pages d (pages_of d b) ≡ false → refusal d b q ≡ some Faults.Illegal
      unfolding refusal first_fault
      illegal-refused l = rw (s, f, l)

      module _ (l : legal_pages d (pages_of d b) ≡ true) where
        pub malformed-refused : formed d q ≡ false → refusal d b q ≡ some Faults.Malformed
        unfolding refusal first_fault tests
        malformed-refused m = rw (s, f, l, m)

        pub further-refused : formed d q ≡ true → refusal d b q ≡ first_fault (further d q q.statement.what (seen d (subject q) (cells_of (pages_of d b))))
        unfolding refusal first_fault tests
        further-refused m = rw (s, f, l, m)

  -- ---- what comes out

  pub refusal-out : (x : Fault) {a : Answer} → refusal d b q ≡ some x → a ≡ Err x
      → outcome a b.tables.values b.tables.classes q.shown q.owners ≡ run d b q
  unfolding refused
  refusal-out x e h = rw h (sym (run-refused d b q e))

  pub done-out : {vs cs shown owners : List ℕ} {a : Answer} → refusal d b q ≡ none
      → a ≡ Ok (count_as d q q.statement.what (seen d (subject q) (cells_of (pages_of d b))))
      → shown ≡ write_at 0 (values_shown (shown_as d q q.statement.what (seen d (subject q) (cells_of (pages_of d b))))) q.shown
      → owners ≡ write_at 0 (owners_shown (shown_as d q q.statement.what (seen d (subject q) (cells_of (pages_of d b))))) q.owners
      → lending (holding vs cs) ≡ ledger_of d (after d q (pages_of d b))
      → outcome a vs cs shown owners ≡ run d b q
  unfolding done
  done-out e h k m n = rw (h, k, m, n) (sym (run-done d b q e))

-- ---- what is known of two lists, said of the ledger that they are

pub lent_fits_lem : (d : Description) (vs cs : List ℕ) {x : Bool} → fitting d (holding vs cs) ≡ x → lent_fits d (lending (holding vs cs)) ≡ x
unfolding lent_fits
lent_fits_lem d vs cs e = e

pub lent-legal : (d : Description) (vs cs : List ℕ) {x : Bool} → legal d (state_of d (holding vs cs)) ≡ x → legal_pages d (pages_of d (lending (holding vs cs))) ≡ x
unfolding legal_pages pages_of
lent-legal d vs cs e = e

-- ---- from the cells to the ledger

module _ (d : Description) (vs cs : List ℕ) (q : Request) (j : Judged d vs cs) where
  abbrev b : Ledger
  b = lending (holding vs cs)

  pub malformed-out : formed d q ≡ false → outcome (Err Faults.Malformed) vs cs q.shown q.owners ≡ run d b q
  malformed-out m =
      refusal-out d b q Faults.Malformed (malformed-refused d b q j.sound-is (lent_fits_lem d vs cs j.fits) (lent-legal d vs cs j.legal-is) m) refl

  pub carried-out : formed d q ≡ true → {vs' cs' shown' owners' : List ℕ} {a : Answer} → fitting d (holding vs' cs') ≡ true
      → Carried d q vs cs a vs' cs' shown' owners' → outcome a vs' cs' shown' owners' ≡ run d b q
  unfolding after pages_of ledger_of
  carried-out m {vs'} {cs'} g w = go w
    where
      refusal_is : refusal d b q ≡ first_fault (further d q q.statement.what (sight d (subject q) vs cs))
      refusal_is = further-refused d b q j.sound-is (lent_fits_lem d vs cs j.fits) (lent-legal d vs cs j.legal-is) m

      go : {shown' owners' : List ℕ} {a : Answer} → Carried d q vs cs a vs' cs' shown' owners' → outcome a vs' cs' shown' owners' ≡ run d b q
      go (refuses x t h v c s o) = rw (v, c, s, o) (refusal-out d b q x (refusal_is ∙ t) h)
      go (does t h p s o) = done-out d b q (refusal_is ∙ t) h s o (ledger-path (sym (buffers-state d (holding vs' cs') g) ∙ ap (buffers_of d) p))

-- ---- the statements that write

module _ (d : Description) (vs cs : List ℕ) (q : Request) where
  abbrev S : State
  S = sight d (subject q) vs cs

  abbrev what : What
  what = q.statement.what

  wrote : (ts : List (Bool × Fault)) (count : ℕ) (E : Effect) → further d q what S ≡ ts → count_as d q what S ≡ count → effect_as d q what S ≡ some E → shown_as d q what S ≡ []
      → {vs' cs' : List ℕ} {a : Answer} → Answered d (subject q) ts count E vs cs vs' cs' a → Carried d q vs cs a vs' cs' q.shown q.owners
  unfolding values_shown owners_shown
  wrote ts count E t n e z (change.refuses x w h v c) = refuses x (ap first_fault t ∙ w) h v c refl refl
  wrote ts count E t n e z (change.does w h p) =
      does (ap first_fault t ∙ w) (h ∙ rw n) (p ∙ rw e) (rw z (write-none 0 q.shown)) (rw z (write-none 0 q.owners))

  pub insert-carried : what ≡ Whats.Insert → {vs' cs' : List ℕ} {a : Answer}
      → Inserts d (subject q) (relation q) q.list vs cs vs' cs' a → Carried d q vs cs a vs' cs' q.shown q.owners
  unfolding further count_as effect_as shown_as
  insert-carried w = wrote _ _ _ (rw w) (rw w) (rw w) (rw w)

  pub delete-carried : what ≡ Whats.Delete → {vs' cs' : List ℕ} {a : Answer}
      → Deletes d (subject q) (relation q) q.conditions vs cs vs' cs' a → Carried d q vs cs a vs' cs' q.shown q.owners
  unfolding further count_as effect_as shown_as met_count met_rows
  delete-carried w = wrote _ _ _ (rw w) (rw w) (rw w) (rw w)

  pub update-carried : what ≡ Whats.Update → {vs' cs' : List ℕ} {a : Answer}
      → Updates d (subject q) (relation q) q.list q.conditions vs cs vs' cs' a → Carried d q vs cs a vs' cs' q.shown q.owners
  unfolding further count_as effect_as shown_as met_count met_rows
  update-carried w = wrote _ _ _ (rw w) (rw w) (rw w) (rw w)

  pub uplevel-carried : (key class : ℕ) → what ≡ Whats.Uplevel key class → {vs' cs' : List ℕ} {a : Answer}
      → Uplevels d (subject q) (relation q) key class q.list vs cs vs' cs' a → Carried d q vs cs a vs' cs' q.shown q.owners
  unfolding further count_as effect_as shown_as
  uplevel-carried key class w = wrote _ _ _ (rw w) (rw w) (rw w) (rw w)

  -- ---- SELECT, which leaves the tables

  pub select-carried : what ≡ Whats.Select → {shown' owners' : List ℕ} {a : Answer}
      → Selects d (subject q) (relation q) q.list q.conditions vs cs q.shown q.owners shown' owners' a
      → Carried d q vs cs a vs cs shown' owners'
  unfolding further count_as effect_as left shown_as
  select-carried w (change.refuses x t h v c) = refuses x (rw w t) h refl refl v c
  select-carried w (shows t h v c) = does (rw w t) (h ∙ rw w) (rw w) (v ∙ rw w) (c ∙ rw w)
