-- What a record leaves, case by case, from the facts that the functions have.
-- Assumes nothing.
use Rattle.std.specs.Prelude.{Option, Some, None}
use Rattle.model.specs.Answers.{Answer}
use Prim.Native.Nat.{ℕ, ◌<◌, min}
use mathlib.Core.Path.{◌≡◌, refl, sym, ap, subst, ◌∙◌}
use mathlib.Core.Bool.{Bool, true, false}
use mathlib.Core.List.{List, ◌++◌}
use native.Mathlib.Omega.{arith}
use lib.Dec.{eqb}
use lib.ListN.{length, take, drop, replicate, length-take, take-append-drop}
use borrow.Author.Tests.{ne_eqb}
use Rattle.bounded.proofs.Cases.{cases, clash, and_left, and-false-right}
use Rattle.model.specs.declared.Description.{Description}
use Rattle.model.specs.declared.Statement.{Statement}
use Rattle.model.specs.Description.{column_count, total_of, sound}
use Rattle.model.specs.Buffers.{Buffers, holding, fitting}
use Rattle.model.specs.Ledger.{lending}
use Rattle.model.specs.Run.{Request, Outcome, run}
use Rattle.theory.proofs.Calls.{run-refused}
use Rattle.records.specs.declared.Read.{Read}
use Rattle.records.specs.Record.{kind_after}
use Rattle.records.specs.Statements.{statement_of, read_of, is_statement}
use Rattle.records.specs.Descriptions.{is_labels, labelled, is_related, related}
use Rattle.records.proofs.Outcomes.{Holds}
use Rattle.placing.specs.Placing.{placeable, placed, Places}
use Rattle.lines.specs.Lines.{answer_text}
use Rattle.lines.specs.Written.{Wrote, written}
use Rattle.register.specs.Calls.{request, outcome}
use Rattle.register.proofs.Outcomes.{unsound-refused}
use Rattle.stream.specs.declared.Stepped.{Stepped}
use Rattle.stream.specs.Step.{Turn, extent_of, lent, keeping, describing, refuses, silent, labels_turn, relation_turn, row_turn, call, answered, statement_turn, turn_of, step}
use Rattle.stream.specs.Facts.{holds, taken_of, Took}
use Rattle.stream.proofs.Parts.{take-least, drop-least}

pub took-as : {t u : Turn} {text values classes text' : List ℕ} {r : Stepped} → t ≡ u → Took u text values classes text' r → Took t text values classes text' r
took-as p x = rw p x

-- nothing is printed
pub quiet : {t : Turn} (kind : ℕ) (d : Description) (values classes text : List ℕ) {r : Stepped} → r ≡ taken_of 0 (Some kind) d → t ≡ silent (holds (Some kind) d values classes) → Took t text values classes text r
unfolding silent written
quiet kind d values classes text e p =
    rw (e, p) (record { kept-is = refl; room-is = refl; text-is = record { is = refl; next-is = refl } })

-- ---- how many cells there are

all-cells : (d : Description) → sound d ≡ true → extent_of d ≡ total_of d
unfolding extent_of
all-cells d s = rw s

-- ---- records of kind 1 and 2

module _ (last : Option ℕ) (d : Description) (values classes : List ℕ) (number : ℕ) (bytes : List ℕ) where
  pub labels-refused : is_labels bytes ≡ false → labels_turn (holds last d values classes) number bytes ≡ refuses (holds last d values classes) number
  unfolding labels_turn
  labels-refused p = rw p

  pub labels-taken : {d' : Description} → is_labels bytes ≡ true → d' ≡ labelled d bytes → labels_turn (holds last d values classes) number bytes ≡ silent (holds (Some 1) d' values classes)
  unfolding labels_turn describing
  labels-taken p e = rw (p, e)

  pub relation-refused : is_related bytes ≡ false → relation_turn (holds last d values classes) number bytes ≡ refuses (holds last d values classes) number
  unfolding relation_turn
  relation-refused p = rw p

  pub relation-taken : {d' : Description} → is_related bytes ≡ true → d' ≡ related d bytes → relation_turn (holds last d values classes) number bytes ≡ silent (holds (Some 2) d' values classes)
  unfolding relation_turn describing
  relation-taken p e = rw (p, e)

-- ---- a record of kind 3

pub unfit : (d : Description) (b : Buffers) (bytes : List ℕ) → (sound d ≡ true → fitting d b ≡ false) → placeable d b bytes ≡ false
unfolding placeable
unfit d b bytes f = cases (sound d) (λ s. rw (s, f s)) (λ s. rw s)

fit-values : (d : Description) (b : Buffers) → length b.values < total_of d → fitting d b ≡ false
unfolding fitting
fit-values d b h = rw (ne_eqb (length b.values) (total_of d) (λ e. omega arith))

fit-classes : (d : Description) (b : Buffers) → length b.classes < total_of d → fitting d b ≡ false
unfolding fitting
fit-classes d b h = and-false-right (eqb (length b.values) (total_of d)) _ (ne_eqb (length b.classes) (total_of d) (λ e. omega arith))

placed-sound : (d : Description) (b : Buffers) (bytes : List ℕ) → placeable d b bytes ≡ true → sound d ≡ true
unfolding placeable
placed-sound d b bytes t = and_left (sound d) _ t

module _ (last : Option ℕ) (d : Description) (values classes : List ℕ) (number : ℕ) (bytes : List ℕ) where
  row-unplaced : placeable d (lent (holds last d values classes)).tables bytes ≡ false → row_turn (holds last d values classes) number bytes ≡ refuses (holds last d values classes) number
  unfolding row_turn
  row-unplaced p = rw p

  pub row-values : {extent : ℕ} → extent ≡ total_of d → length values < extent → row_turn (holds last d values classes) number bytes ≡ refuses (holds last d values classes) number
  unfolding lent
  row-values {extent} e h =
      row-unplaced
      (unfit d _ bytes (λ s. fit-values d _ (omega (arith, e, all-cells d s, length-take (extent_of d) values))))

  pub row-classes : {extent : ℕ} → extent ≡ total_of d → length classes < extent → row_turn (holds last d values classes) number bytes ≡ refuses (holds last d values classes) number
  unfolding lent
  row-classes {extent} e h =
      row-unplaced
      (unfit d _ bytes (λ s. fit-classes d _ (omega (arith, e, all-cells d s, length-take (extent_of d) classes))))

  module _ {extent : ℕ} {values' classes' : List ℕ} {done : Bool} (e : extent ≡ total_of d) (k : Places d bytes (holding (take extent values) (take extent classes)) (holding values' classes') done) where
    all-is : sound d ≡ true → extent ≡ extent_of d
    all-is s = e ∙ sym (all-cells d s)

    places : sound d ≡ true → Places d bytes (lent (holds last d values classes)).tables (holding values' classes') done
    unfolding lent
    places s = rw (all-is s) at k

    unplaced : done ≡ false → placeable d (lent (holds last d values classes)).tables bytes ≡ false
    unplaced f = cases (sound d) (λ s. sym (places s).done-is ∙ f) (λ s. unfit d _ bytes (λ t. clash t s))

    unchanged : done ≡ false → holding values' classes' ≡ holding (take extent values) (take extent classes)
    unfolding placed
    unchanged f = k.left_is ∙ rw (sym k.done-is ∙ f)

    pub row-refused : done ≡ false → row_turn (holds last d values classes) number bytes ≡ refuses (holds last d (values' ++ drop extent values) (classes' ++ drop extent classes)) number
    row-refused f =
        let u = unchanged f in
        let v : values' ++ drop extent values ≡ values = ap (λ b. b.values ++ drop extent values) u ∙ take-append-drop extent values in
        let w : classes' ++ drop extent classes ≡ classes = ap (λ b. b.classes ++ drop extent classes) u ∙ take-append-drop extent classes in
        row-unplaced (unplaced f) ∙ sym (ap (λ x. refuses (holds last d x (classes' ++ drop extent classes)) number) v ∙ ap (λ y. refuses (holds last d values y) number) w)

    pub row-taken : done ≡ true → row_turn (holds last d values classes) number bytes ≡ silent (holds (Some 3) d (values' ++ drop extent values) (classes' ++ drop extent classes))
    unfolding row_turn keeping
    row-taken t =
        let s = placed-sound d _ bytes (sym k.done-is ∙ t) in
        rw (sym (places s).done-is ∙ t, ← (places s).left_is, all-is s)

-- ---- a statement

module _ (last : Option ℕ) (d : Description) (values classes : List ℕ) (kind : ℕ) (statement : Statement) where
  answered-took : {o : Outcome} {values' classes' shown' owners' text text' : List ℕ} {answer : Answer} {printed : ℕ}
      → outcome answer values' classes' shown' owners' ≡ o
      → Wrote 0 (answer_text statement.what answer (column_count d statement.relation) shown' owners') text text' printed
      → Took (answered (holds last d values classes) kind statement o) text (values' ++ drop (extent_of d) values) (classes' ++ drop (extent_of d) classes) text' (taken_of printed (Some kind) d)
  unfolding answered keeping
  answered-took p w = rw (← p) (record { kept-is = refl; room-is = refl; text-is = w })

  -- where the description breaks a rule, the register leaves what it is handed, whatever part of the room that is
  answered-unsound : (q : Request) (a b : ℕ) {printed : ℕ} {values' classes' shown' owners' text text' : List ℕ} {answer : Answer}
      → sound d ≡ false
      → outcome answer values' classes' shown' owners' ≡ run d (lending (holding (take a values) (take b classes))) q
      → Wrote 0 (answer_text statement.what answer (column_count d statement.relation) shown' owners') text text' printed
      → Took (answered (holds last d values classes) kind statement (run d (lent (holds last d values classes)) q)) text (values' ++ drop a values) (classes' ++ drop b classes) text' (taken_of printed (Some kind) d)
  unfolding answered keeping lent
  answered-unsound q a b {printed} {text = text} {text' = text'} s r w =
      let k = r ∙ run-refused d _ q (unsound-refused d _ q s) in
      let n = extent_of d in
      let v = ap (λ o. o.ledger.tables.values ++ drop a values) k ∙ take-append-drop a values ∙ sym (take-append-drop n values) in
      let u = ap (λ o. o.ledger.tables.classes ++ drop b classes) k ∙ take-append-drop b classes ∙ sym (take-append-drop n classes) in
      rw (run-refused d (lending (holding (take n values) (take n classes))) q (unsound-refused d _ q s))
      (record {
        kept-is = refl;
        room-is = λ i. lending (holding (v i) (u i));
        text-is = subst (λ x. Wrote 0 (answer_text statement.what x.answer (column_count d statement.relation) x.shown x.owners) text text' printed) (ap (λ o. o.reply) k) w;
      })

  pub answer-took : (q : Request) {extent a b columns : ℕ} {values' classes' shown' owners' text text' : List ℕ} {answer : Answer} {printed : ℕ}
      → extent ≡ total_of d → a ≡ min extent (length values) → b ≡ min extent (length classes)
      → outcome answer values' classes' shown' owners' ≡ run d (lending (holding (take a values) (take b classes))) q
      → columns ≡ column_count d statement.relation
      → Wrote 0 (answer_text statement.what answer columns shown' owners') text text' printed
      → Took (answered (holds last d values classes) kind statement (run d (lent (holds last d values classes)) q)) text (values' ++ drop a values) (classes' ++ drop b classes) text' (taken_of printed (Some kind) d)
  unfolding lent
  answer-took q {extent} {a} {b} e p s r c w =
      cases (sound d)
      (λ h.
      let x : extent ≡ extent_of d = e ∙ sym (all-cells d h) in
      let pa : a ≡ min (extent_of d) (length values) = rw (← x) p in
      let pb : b ≡ min (extent_of d) (length classes) = rw (← x) s in
      let ta : take a values ≡ take (extent_of d) values = rw pa (take-least (extent_of d) values) in
      let tb : take b classes ≡ take (extent_of d) classes = rw pb (take-least (extent_of d) classes) in
      let da : drop a values ≡ drop (extent_of d) values = rw pa (drop-least (extent_of d) values) in
      let db : drop b classes ≡ drop (extent_of d) classes = rw pb (drop-least (extent_of d) classes) in
      rw (da, db) (answered-took (rw (ta, tb) at r) (rw c at w)))
      (λ h. answered-unsound q a b h r (rw c at w))

module _ (last : Option ℕ) (d : Description) (values classes : List ℕ) (kind number : ℕ) (bytes : List ℕ) where
  pub statement-refused : is_statement bytes ≡ false → statement_turn (holds last d values classes) kind number bytes ≡ refuses (holds last d values classes) number
  unfolding statement_turn read_of
  statement-refused s = rw (s, statement_turn)

  statement-run : is_statement bytes ≡ true → statement_turn (holds last d values classes) kind number bytes
      ≡ answered (holds last d values classes) kind (statement_of bytes) (run d (lent (holds last d values classes)) (call (statement_of bytes) bytes))
  unfolding statement_turn read_of
  statement-run s = rw (s, statement_turn)

  -- the lists that were read are those of the record
  pub statement-taken : {list conditions : List ℕ} {read : Read} → Holds bytes list conditions read
      → statement_turn (holds last d values classes) kind number bytes
      ≡ answered (holds last d values classes) kind read.statement (run d (lent (holds last d values classes)) (request read.statement (take read.listed list) (take read.tested conditions) (replicate 8192 0) (replicate 9216 0)))
  unfolding call
  statement-taken h = statement-run h.is-statement ∙ rw (h.list-is, h.conditions-is, h.statement-is)

-- ---- any record

module _ (last : Option ℕ) (d : Description) (values classes : List ℕ) (number : ℕ) (bytes : List ℕ) {found : Option ℕ} (k : found ≡ kind_after last bytes) where
  turn_is : step (holds last d values classes) number bytes ≡ turn_of (holds last d values classes) found number bytes
  unfolding step
  turn_is = rw (← k)

  pub step-refused : found ≡ None → step (holds last d values classes) number bytes ≡ refuses (holds last d values classes) number
  unfolding turn_of
  step-refused e = turn_is ∙ rw e

  pub step-labels : {kind : ℕ} → found ≡ Some kind → kind ≡ 1 → step (holds last d values classes) number bytes ≡ labels_turn (holds last d values classes) number bytes
  unfolding turn_of
  step-labels e i = turn_is ∙ rw (e, i)

  pub step-relation : {kind : ℕ} → found ≡ Some kind → kind ≡ 2 → step (holds last d values classes) number bytes ≡ relation_turn (holds last d values classes) number bytes
  unfolding turn_of
  step-relation e i = turn_is ∙ rw (e, i)

  pub step_row : {kind : ℕ} → found ≡ Some kind → kind ≡ 3 → step (holds last d values classes) number bytes ≡ row_turn (holds last d values classes) number bytes
  unfolding turn_of
  step_row e i = turn_is ∙ rw (e, i)

  pub step-statement : {kind : ℕ} → found ≡ Some kind → (kind ≡ 1 → ⊥) → (kind ≡ 2 → ⊥) → (kind ≡ 3 → ⊥) → step (holds last d values classes) number bytes ≡ statement_turn (holds last d values classes) kind number bytes
  unfolding turn_of
  step-statement {kind} e a b f = turn_is ∙ rw (e, ne_eqb kind 1 a, ne_eqb kind 2 b, ne_eqb kind 3 f)
