-- The theorems, stated over the definition of one call on a ledger. Each is proved in proofs/ under the name that stands above it.
-- Assumes nothing: these are statements.
use Rattle.std.specs.Prelude.{ℕ, ◌<◌, ◌≤◌, ◌≡◌, ◌≢◌, ◌⊎◌, Bool, true, false, List, [], ◌∷◌, map, length}
use Rattle.std.proofs.Math.Option.{some}
use Rattle.model.specs.declared.Description.{Description}
use Rattle.model.specs.declared.What.{What}
use Rattle.model.specs.declared.What.TheVariants as Whats
use Rattle.model.specs.declared.Fault.{Fault}
use Rattle.std.specs.Prelude.{Ok, Err}
use Rattle.model.specs.Answers.{Verdict}
use Rattle.model.specs.declared.Fault.TheVariants as Faults
use Rattle.model.specs.Numbers.{answer_number, count_of}
use Rattle.model.specs.Description.{over, foreign_of, refers_of, total_of, sound}
use Rattle.model.specs.Tables.{Cell, Tables, cell, nocell, rows_of, seen, at}
use Rattle.model.specs.Conditions.{met}
use Rattle.model.specs.Ledger.{Ledger, cells_of, seen_pages, pages_of, ledger_of}
use Rattle.model.specs.Legal.{LegalPages}
use Rattle.model.specs.Judge.{judge}
use Rattle.model.specs.Listed.{listed}
use Rattle.model.specs.Uplevel.{entity_of}
use Rattle.model.specs.Run.{Request, subject, relation, Reply, all_tests, run}
use Rattle.theory.specs.Places.{entry_at}
use Rattle.theory.specs.Queues.{Merge, Each, SameRun}

-- ---- words of the statements

-- the judge says yes
abbrev pub Yes : Description → Ledger → Type 0
Yes d b = judge d b ≡ (Ok tt)

-- the tables that a ledger holds
abbrev pub tables : Description → Ledger → Tables
tables d b = rows_of (cells_of (pages_of d b))

-- what a call leaves in the ledger, and what its subject hears
abbrev pub leaves : Description → Request → Ledger → Ledger
leaves d q b = (run d b q).ledger

abbrev pub hears : Description → Request → Ledger → Reply
hears d q b = (run d b q).reply

-- neither request's level dominates the other's
pub record Apart (d : Description) (q p : Request) : Type 0 where
  pub not-over : over d (subject q) (subject p) ≡ true → ⊥
  pub not-under : over d (subject p) (subject q) ≡ true → ⊥

-- what a subject at c sees is the same
abbrev pub SeesSame : Description → ℕ → Ledger → Ledger → Type 0
SeesSame d c b b' = (l : ℕ) → over d c l ≡ true → pages_of d b l ≡ pages_of d b' l

-- ---- judge-legal

-- both buffers of the tables are as long as there are cells
pub record Lengths (d : Description) (b : Ledger) : Type 0 where
  pub values : length b.tables.values ≡ total_of d
  pub classes : length b.tables.classes ≡ total_of d

-- what a verdict says: each is given exactly where it applies and none before it does
pub data Says (d : Description) (b : Ledger) : Verdict → Type 0 where
  is-legal : sound d ≡ true → Lengths d b → LegalPages d (pages_of d b) → Says d b (Ok tt)
  not_sound : sound d ≡ false → Says d b (Err Faults.Description)
  not-long : sound d ≡ true → (Lengths d b → ⊥) → Says d b (Err Faults.Length)
  not-legal : sound d ≡ true → Lengths d b → (LegalPages d (pages_of d b) → ⊥) → Says d b (Err Faults.Illegal)

abbrev pub JudgeLegal : Type 0
JudgeLegal = (d : Description) (b : Ledger) → Says d b (judge d b)

-- ---- stays-legal

abbrev pub StaysLegal : Type 0
StaysLegal = (d : Description) (b : Ledger) (q : Request) → Yes d b → Yes d (leaves d q b)

-- ---- refusal-keeps

pub record Kept (d : Description) (b : Ledger) (q : Request) : Type 0 where
  pub count : count_of (hears d q b).answer ≡ 0
  pub ledger : leaves d q b ≡ b
  pub shown : (hears d q b).shown ≡ q.shown
  pub owners : (hears d q b).owners ≡ q.owners

abbrev pub RefusalKeeps : Type 0
RefusalKeeps = (d : Description) (b : Ledger) (q : Request) (fault : Fault) → (hears d q b).answer ≡ Err fault → Kept d b q

-- ---- least-given

-- at that place of a list of tests stands one for this fault, and it holds, or fails: the fault's number applies
abbrev pub Test : List (Bool × Fault) → ℕ → Bool → Fault → Type 0
Test tests place holds fault = entry_at tests place ≡ some (holds, fault)

abbrev pub number_of : Fault → ℕ
number_of fault = answer_number (Err fault)

-- the numbers that 01's table has for each kind of statement
unfoldable pub numbers_for : What → List ℕ
numbers_for Whats.Insert = 1 ∷ 2 ∷ 3 ∷ 4 ∷ 6 ∷ 9 ∷ 11 ∷ 13 ∷ []
numbers_for Whats.Delete = 1 ∷ 2 ∷ 3 ∷ 4 ∷ 12 ∷ []
numbers_for Whats.Update = 1 ∷ 2 ∷ 3 ∷ 4 ∷ 6 ∷ 11 ∷ []
numbers_for (Whats.Uplevel key class) = 1 ∷ 2 ∷ 3 ∷ 4 ∷ 5 ∷ 6 ∷ 7 ∷ 8 ∷ 9 ∷ 10 ∷ 11 ∷ 13 ∷ []
numbers_for Whats.Select = 1 ∷ 2 ∷ 3 ∷ 4 ∷ 5 ∷ 14 ∷ []

-- the test for the fault fails, and every test before it holds
pub record First (tests : List (Bool × Fault)) (fault : Fault) : Type 0 where
  pub place : ℕ
  pub fails : Test tests place false fault
  pub before : (n : ℕ) (holds : Bool) (other : Fault) → n < place → Test tests n holds other → holds ≡ true

pub record LeastGiven (d : Description) (b : Ledger) (q : Request) : Type 0 where
  -- the call has a test for each number of its kind of statement, and for no other
  pub numbers : map (λ (t : Bool × Fault). number_of t.1) (all_tests d b q) ≡ numbers_for q.statement.what
  -- the numbers rise along the list of tests
  pub rise : (m n : ℕ) (x y : Bool) (fault other : Fault) → m < n → Test (all_tests d b q) m x fault → Test (all_tests d b q) n y other
      → number_of fault < number_of other
  -- the fault that is answered is the first in the list whose test fails
  pub first : (fault : Fault) → (hears d q b).answer ≡ Err fault → First (all_tests d b q) fault
  -- no test that fails has a lesser number than the one answered
  pub least : (n : ℕ) (fault : Fault) → Test (all_tests d b q) n false fault → answer_number (hears d q b).answer ≤ number_of fault
  -- where the statement is done, every test holds
  pub done : (count : ℕ) → (hears d q b).answer ≡ Ok count
      → (n : ℕ) (holds : Bool) (fault : Fault) → Test (all_tests d b q) n holds fault → holds ≡ true

abbrev pub LeastIsGiven : Type 0
LeastIsGiven = (d : Description) (b : Ledger) (q : Request) → LeastGiven d b q

-- ---- apart-commute

-- in either order the same two answers with their output buffers, and the same ledger
pub record Commute (d : Description) (b : Ledger) (q p : Request) : Type 0 where
  pub first : hears d q (leaves d p b) ≡ hears d q b
  pub second : hears d p (leaves d q b) ≡ hears d p b
  pub ledger : leaves d p (leaves d q b) ≡ leaves d q (leaves d p b)

abbrev pub ApartCommute : Type 0
ApartCommute = (d : Description) (b : Ledger) (q p : Request) → Yes d b → Apart d q p → Commute d b q p

-- ---- queues-merge

abbrev pub QueuesMerge : Type 0
QueuesMerge =
    (d : Description) (b : Ledger) (qs ps : List Request) → Yes d b → Each (λ q. Each (λ p. Apart d q p) ps) qs
    → (m m' : Merge qs ps) → SameRun (leaves d) (hears d) m m' b

-- ---- silence-shows

-- an UPLEVEL at c of the entity, which lists column k FROM a
pub record Lists (d : Description) (b : Ledger) (q : Request) (entity : Cell) (k a : ℕ) : Type 0 where
  pub class : ℕ
  pub what : q.statement.what ≡ Whats.Uplevel entity.value class
  pub is : entity_of d (subject q) (relation q) entity.value class (rows_of (seen d (subject q) (cells_of (pages_of d b)))) ≡ entity
  pub column : listed q.list k ≡ some a

-- the entity's row at level a is absent, or holds nothing of a's own in column k
abbrev pub Silent : Description → Ledger → ℕ → Cell → ℕ → ℕ → Type 0
Silent d b r entity k a = (v : ℕ) → v ≢ 0 → at d (tables d b) r a entity.value 1 ≡ entity → at d (tables d b) r a entity.value k ≡ cell v a → ⊥

abbrev pub SilenceShows : Type 0
SilenceShows =
    (d : Description) (b : Ledger) (q : Request) (entity : Cell) (k a count : ℕ) → (hears d q b).answer ≡ Ok count → Lists d b q entity k a
    → Silent d b (relation q) entity k a
    → (at d (tables d (leaves d q b)) (relation q) (subject q) entity.value 1 ≡ entity)
    × (at d (tables d (leaves d q b)) (relation q) (subject q) entity.value k ≡ cell 0 a)

-- ---- delete-as-said

-- level l is above level c
pub record IsAbove (d : Description) (l c : ℕ) : Type 0 where
  pub dominates : over d l c ≡ true
  pub other : l ≢ c

-- what 01 says of a DELETE, on the tables before it: row i of relation r at level l, and its cell in column k
module _ (d : Description) (b : Ledger) (q : Request) where
  -- "among rows at c that meet the conditions"
  pub record Deleted (r l i : ℕ) : Type 0 where
    pub within : r ≡ relation q
    pub level : l ≡ subject q
    pub meets : met d q.conditions (tables d b r l i) ≡ true

  -- a row above c of the entity of one of those
  pub record OfDeleted (r l i : ℕ) : Type 0 where
    pub above : IsAbove d l (subject q)
    pub row : ℕ
    pub deleted : Deleted r (subject q) row
    pub entity : tables d b r l i 1 ≡ tables d b r (subject q) row 1

  -- "If its key class is c, every row of that entity above c is emptied"
  pub record Emptied (r l i : ℕ) : Type 0 where
    pub of : OfDeleted r l i
    pub key : (tables d b r l i 1).class ≡ subject q

  -- "at each level above, in every relation referring to it, a reference whose named row was emptied"
  pub record NamesEmptied (r l i k : ℕ) : Type 0 where
    pub reference : k ≡ foreign_of d r
    pub row : ℕ
    pub names : (tables d b (refers_of d r) l row 1).value ≡ (tables d b r l i k).value
    pub emptied : Emptied (refers_of d r) l row

  -- "If its key class is below c, cells of class c in that entity's rows above c"
  pub record Lent (r l i k : ℕ) : Type 0 where
    pub of : OfDeleted r l i
    pub key : IsAbove d (subject q) (tables d b r l i 1).class
    pub class : (tables d b r l i k).class ≡ subject q

pub record DeleteSaid (d : Description) (b : Ledger) (q : Request) : Type 0 where
  -- "each is emptied."
  pub deleted : (r l i k : ℕ) → Deleted d b q r l i → tables d (leaves d q b) r l i k ≡ nocell
  -- "every row of that entity above c is emptied;"
  pub emptied : (r l i k : ℕ) → Emptied d b q r l i → tables d (leaves d q b) r l i k ≡ nocell
  -- "a reference whose named row was emptied becomes null, class kept."
  pub references : (r l i k : ℕ) → NamesEmptied d b q r l i k → tables d (leaves d q b) r l i k ≡ cell 0 (tables d b r l i k).class
  -- "cells of class c in that entity's rows above c become null, class kept."
  pub lent : (r l i k : ℕ) → Lent d b q r l i k → tables d (leaves d q b) r l i k ≡ cell 0 (tables d b r l i k).class
  -- nothing is said of any other cell, and it stays
  pub stays : (r l i k : ℕ) → (Deleted d b q r l i → ⊥) → (Emptied d b q r l i → ⊥) → (NamesEmptied d b q r l i k → ⊥) → (Lent d b q r l i k → ⊥)
      → tables d (leaves d q b) r l i k ≡ tables d b r l i k

abbrev pub DeleteAsSaid : Type 0
DeleteAsSaid =
    (d : Description) (b : Ledger) (q : Request) (count : ℕ) → q.statement.what ≡ Whats.Delete → (hears d q b).answer ≡ Ok count
    → DeleteSaid d b q

-- ---- trust-is-named

-- that entity's row at level l had class a in column k before, with a value or waiting for one
pub record Held (T : Tables) (r l : ℕ) (entity : Cell) (k a : ℕ) : Type 0 where
  pub row : ℕ
  pub one : T r l row 1 ≡ entity
  pub class : (T r l row k).class ≡ a

-- the request is an UPLEVEL at l, in relation r, of the entity, which lists column k FROM a; and it was done
pub record Named (d : Description) (b : Ledger) (q : Request) (r l : ℕ) (entity : Cell) (k a : ℕ) : Type 0 where
  pub level : subject q ≡ l
  pub within : relation q ≡ r
  pub lists : Lists d b q entity k a
  pub done : (hears d q b).answer ≡ Ok 1

abbrev pub TrustIsNamed : Type 0
TrustIsNamed =
    (d : Description) (b : Ledger) (q : Request) → Yes d b → (r l i k : ℕ) → k ≢ 1
    → (tables d (leaves d q b) r l i k).value ≢ 0 → (tables d (leaves d q b) r l i k).class ≢ l
    → Held (tables d b) r l (tables d (leaves d q b) r l i 1) k (tables d (leaves d q b) r l i k).class
    ⊎ Named d b q r l (tables d (leaves d q b) r l i 1) k (tables d (leaves d q b) r l i k).class

-- ---- sees-only

pub record SeesOnly (d : Description) (q : Request) : Type 0 where
  -- the answer and the rows shown depend only on levels that c dominates
  pub reply : (b b' : Ledger) → Yes d b → Yes d b' → SeesSame d (subject q) b b' → hears d q b ≡ hears d q b'
  -- the new rows at e, which dominates c or is c, only on levels that e dominates
  pub above : (b b' : Ledger) → Yes d b → Yes d b' → (e : ℕ) → over d e (subject q) ≡ true → SeesSame d e b b' → SeesSame d e (leaves d q b) (leaves d q b')
  -- levels that don't dominate c stay
  pub stays : (b : Ledger) → Yes d b → (l : ℕ) → (over d l (subject q) ≡ true → ⊥) → pages_of d (leaves d q b) l ≡ pages_of d b l

abbrev pub OnlySeen : Type 0
OnlySeen = (d : Description) (q : Request) → SeesOnly d q

-- ---- visible-legal

abbrev pub VisibleLegal : Type 0
VisibleLegal = (d : Description) (b : Ledger) (c : ℕ) → Yes d b → Yes d (ledger_of d (seen_pages d c (pages_of d b)))
