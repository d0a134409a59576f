-- The theorems about one call on legal pages: they stay legal; a level that does not dominate the subject's keeps what it holds; what is
-- heard, and what is done to the levels that a level sees, depend on what is seen; requests from levels that do not dominate each other
-- commute. So any merging of two queues at such levels is heard alike and leaves the same pages.
-- Assumes nothing.
use Rattle.std.specs.Prelude.{if◌then◌else◌}
use Prim.Native.Nat.{ℕ, ◌<◌}
use mathlib.Core.Bool.{true, false}
use mathlib.Core.List.{List}
use mathlib.Core.Logic.{◌⊎◌, inl, inr}
use mathlib.Core.Option.{Option, none, some}
use mathlib.Core.Path.{◌≡◌, refl, sym, ap, ◌∙◌, fun_ext}
use lib.Dec.{ltb}
use Rattle.bounded.proofs.Cases.{and_left, and_right}
use Rattle.bounded.proofs.Reflection.{is_false, of-true, decide, bool-r, ltb-r}
use Rattle.model.specs.Description.{is_level, over, is_relation, row_count}
use Rattle.model.specs.Effect.{Rows, Effect, reach, applied}
use Rattle.model.specs.Numbers.{fault_number}
use Rattle.model.specs.Ledger.{Page, Pages, cells_of}
use Rattle.model.specs.Judge.{legal_pages}
use Rattle.model.specs.Legal.{LegalPages}
use Rattle.model.specs.Run.{Request, subject, relation, formed_as, formed, further, first_fault, tests, effect_as, left, after}
use Rattle.model.specs.Tables.{Row, Level, State, Tables, rows_of, seen, seek, at}
use Rattle.model.specs.declared.Description.{Description}
use Rattle.model.specs.declared.Fault.{Fault}
use Rattle.model.proofs.Pages.{page-path}
use Rattle.theory.specs.Laws.{Laws}
use Rattle.theory.proofs.Seek.{at-seek}
use Rattle.theory.proofs.Reach.{carry_own, carry-above, carry-aside, Side, at_c, over-c, off-c, side}
use Rattle.theory.proofs.Lift.{Tidy, Fits, stays-tidy}
use Rattle.theory.proofs.Order.{reach-local, effects-commute, unseen-row}
use Rattle.theory.proofs.Legality.{legal-tidy, tidy-legal}
use Rattle.theory.proofs.Judged.{legal-judged}
use Rattle.theory.proofs.Tests.{pass, pass-after}
use Rattle.theory.proofs.Accepted.{accepted}
use Rattle.theory.proofs.State.{fault, acts, step, reply}
use Rattle.theory.specs.Queues.{Merge, Each, SameRun}
use Rattle.theory.proofs.Runs.{Low, Apart, StepLaws}
use Rattle.theory.proofs.Runs as Runs

abbrev stored : Tables → State
stored T l = record { rows = λ r i. T r l i }

-- the cells T after what a request does that is worked out from S, and the pages P after what is worked out from U
abbrev pub next : Description → Request → State → State → State
next D q S T = left D (subject q) (effect_as D q q.statement.what (seen D (subject q) S)) T

abbrev turned : Description → Request → Pages → Pages → Pages
turned D q U P l = record { cells = next D q (cells_of U) (cells_of P) l }

-- the cells that are left
pub after-cells : (D : Description) (q : Request) (P : Pages) → cells_of (after D q P) ≡ next D q (cells_of P) (cells_of P)
unfolding after
after-cells D q P = refl

-- the statement's own tests stand after that of legal tables and that of its form
pub further-passes : (D : Description) (q : Request) (P : Pages) → fault D q P ≡ none → first_fault (further D q q.statement.what (seen D (subject q) (cells_of P))) ≡ none
unfolding fault tests
further-passes D q P e = pass-after 2 _ e

module _ (D : Description) (L : Laws D) where
  -- what holds of a request that is not refused
  pub record Passed (q : Request) (S : State) : Type 0 where
    pub well : formed_as D (relation q) q.statement.what q.list q.conditions ≡ true
    pub fits : (E : Effect) → effect_as D q q.statement.what (seen D (subject q) S) ≡ some E → Fits D (rows_of S) (subject q) E

  pub all-passed : (q : Request) (P : Pages) → Tidy D (rows_of (cells_of P)) → fault D q P ≡ none → Passed q (cells_of P)
  unfolding fault tests formed is_level fault_number
  all-passed q P t e = record { well = well; fits = λ E. accepted D L (cells_of P) t q q.statement.what E level well (further-passes D q P e) }
    where
      formed-is : formed D q ≡ true
      formed-is = pass _ e 4

      level : subject q < D.levels
      level = of-true (ltb-r (subject q) D.levels) (and_left (ltb (subject q) D.levels) _ formed-is)

      well : formed_as D (relation q) q.statement.what q.list q.conditions ≡ true
      well = and_right (is_relation D (relation q)) _ (and_right (ltb (subject q) D.levels) _ formed-is)

  -- what a request does, if it is done: an effect that fits, or nothing
  data Went (q : Request) (S : State) : Type 0 where
    went : (E : Effect) → ((T : State) → next D q S T ≡ stored (applied D (subject q) E (rows_of T))) → Fits D (rows_of S) (subject q) E → Went q S
    stood : ((T : State) → next D q S T ≡ T) → Went q S

  go_on : (q : Request) (S : State) → Passed q S → Went q S
  unfolding left
  go_on q S p = go (effect_as D q q.statement.what (seen D (subject q) S)) refl
    where
      go : (o : Option Effect) → effect_as D q q.statement.what (seen D (subject q) S) ≡ o → Went q S
      go (some E) i = went E (λ T. rw (i, left)) (p.fits E i)
      go none i = stood (λ T. rw (i, left))

  -- a request is done, or leaves the pages
  data Step (q : Request) (P : Pages) : Type 0 where
    act : acts D q P ≡ true → step D q P ≡ turned D q P P → Went q (cells_of P) → Step q P
    rest : acts D q P ≡ false → step D q P ≡ P → Step q P

  stepped : (q : Request) (P : Pages) → Tidy D (rows_of (cells_of P)) → Step q P
  unfolding step acts after
  stepped q P t = go (fault D q P) refl
    where
      go : (o : Option Fault) → fault D q P ≡ o → Step q P
      go none e = act (rw (e, acts)) (rw (e, acts)) (go_on q (cells_of P) (all-passed q P t e))
      go (some f) e = rest (rw (e, acts)) (rw (e, acts))

  step-tidy : (q : Request) (P : Pages) → Tidy D (rows_of (cells_of P)) → Tidy D (rows_of (cells_of (step D q P)))
  step-tidy q P t = go (stepped q P t)
    where
      by : Went q (cells_of P) → Tidy D (rows_of (next D q (cells_of P) (cells_of P)))
      by (went E e f) = rw (e (cells_of P)) (stays-tidy D L (rows_of (cells_of P)) (subject q) E t f)
      by (stood e) = rw (e (cells_of P)) t

      go : Step q P → Tidy D (rows_of (cells_of (step D q P)))
      go (act _ e w) = rw e (by w)
      go (rest _ e) = rw e t

  -- ---- what a level sees

  next-unseen : (q : Request) (S : State) → Went q S → (c : ℕ) → (over D c (subject q) ≡ true → ⊥) → (T : State) → Low (over D) c (next D q S T) T
  next-unseen q S (went E e f) c n T l h = ap (λ (K : State). K l) (e T) ∙ ap (λ (B : Rows). record { rows = B }) (fun_ext (λ r. fun_ext (λ i. unseen-row D L (rows_of T) (subject q) c E n r l i h)))
  next-unseen q S (stood e) c n T l h = ap (λ (K : State). K l) (e T)

  unseen : (c : ℕ) (q : Request) (P : Pages) → (over D c (subject q) ≡ true → ⊥) → Tidy D (rows_of (cells_of P)) → Low (over D) c (step D q P) P
  unseen c q P n t = go (stepped q P t)
    where
      go : Step q P → Low (over D) c (step D q P) P
      go (act _ e w) l h = ap (λ (K : Pages). K l) e ∙ page-path (next-unseen q (cells_of P) w c n (cells_of P) l h)
      go (rest _ e) l h = ap (λ (K : Pages). K l) e

  low-seen : (c : ℕ) (S U : State) → Low (over D) c S U → seen D c S ≡ seen D c U
  unfolding seen
  low-seen c S U h = fun_ext (λ l. go l (decide (bool-r (over D c l))))
    where
      go : (l : ℕ) → (over D c l ≡ true) ⊎ (over D c l ≡ true → ⊥) → seen D c S l ≡ seen D c U l
      go l (inl x) = rw (x, h l x)
      go l (inr n) = rw (is_false (bool-r (over D c l)) n)

  low-cells : (c : ℕ) (P U : Pages) → Low (over D) c P U → Low (over D) c (cells_of P) (cells_of U)
  low-cells c P U h l x = ap (λ (K : Page). K.cells) (h l x)

  module _ (q : Request) (P U : Pages) (t : Tidy D (rows_of (cells_of P))) (u : Tidy D (rows_of (cells_of U))) (h : Low (over D) (subject q) P U) where
    same_seen : seen D (subject q) (cells_of P) ≡ seen D (subject q) (cells_of U)
    same_seen = low-seen (subject q) (cells_of P) (cells_of U) (low-cells (subject q) P U h)

    same-fault : fault D q P ≡ fault D q U
    unfolding fault tests legal_pages
    same-fault = rw (legal-judged D L (cells_of P) t, legal-judged D L (cells_of U) u, same_seen)

    answers : reply D q P ≡ reply D q U
    unfolding reply
    answers = go (fault D q P) refl
      where
        go : (o : Option Fault) → fault D q P ≡ o → reply D q P ≡ reply D q U
        go none e = rw (e, sym same-fault ∙ e, reply, same_seen)
        go (some f) e = rw (e, sym same-fault ∙ e, reply)

    same_after : after D q P ≡ turned D q U P
    unfolding after
    same_after =
        let from : State → Pages = λ S l. record { cells = left D (subject q) (effect_as D q q.statement.what S) (cells_of P) l } in
        ap from same_seen

    step_same : step D q P ≡ (if acts D q U then turned D q U P else P)
    unfolding step acts
    step_same = rw (same-fault, acts, same_after)

  -- a request does the same to what c sees of two states that c sees alike
  low-next : (c : ℕ) (q : Request) (S U : State) → Went q U → over D c (subject q) ≡ true → Low (over D) c S U → Low (over D) c (next D q U S) (next D q U U)
  unfolding applied
  low-next c q S U (stood e) d h l x = ap (λ (K : State). K l) (e S) ∙ h l x ∙ sym (ap (λ (K : State). K l) (e U))
  low-next c q S U (went E e f) d h l x =
      ap (λ (K : State). K l) (e S) ∙ ap (λ (B : Rows). record { rows = B }) (fun_ext (λ r. fun_ext (λ i. go r i (side D a l)))) ∙ sym (ap (λ (K : State). K l) (e U))
    where
      a : ℕ
      a = subject q

      row : (r l : ℕ) → over D c l ≡ true → rows_of S r l ≡ rows_of U r l
      row r l g = ap (λ (K : Level). K.rows r) (h l g)

      low-at : (r l v : ℕ) → over D c l ≡ true → at D (rows_of S) r l v ≡ at D (rows_of U) r l v
      low-at r l v g = at-seek D (rows_of S) r l v ∙ ap (λ (B : ℕ → Row). seek (row_count D r) B v) (row r l g) ∙ sym (at-seek D (rows_of U) r l v)

      go : (r i : ℕ) → Side D a l → applied D a E (rows_of S) r l i ≡ applied D a E (rows_of U) r l i
      go r i (at_c p) = rw p (carry_own D (at D (rows_of S)) a E.own E.above (rows_of S) r i ∙ sym (carry_own D (at D (rows_of U)) a E.own E.above (rows_of U) r i))
      go r i (off-c n m) =
          carry-aside D (at D (rows_of S)) a E.own E.above (rows_of S) r l i n m ∙ ap (λ (B : ℕ → Row). B i) (row r l x)
          ∙ sym (carry-aside D (at D (rows_of U)) a E.own E.above (rows_of U) r l i n m)
      go r i (over-c n m) =
          carry-above D (at D (rows_of S)) a E.own E.above (rows_of S) r l i n m
          ∙ fun_ext (reach-local D (at D (rows_of S)) (at D (rows_of U)) a l (λ r v. low-at r a v d) (λ r v. low-at r l v x) E.above r (rows_of S r l i))
          ∙ ap (reach D (at D (rows_of U)) a E.above r l) (ap (λ (B : ℕ → Row). B i) (row r l x))
          ∙ sym (carry-above D (at D (rows_of U)) a E.own E.above (rows_of U) r l i n m)

  steps : (c : ℕ) (q : Request) (P U : Pages) → Tidy D (rows_of (cells_of P)) → Tidy D (rows_of (cells_of U)) → over D c (subject q) ≡ true → Low (over D) c P U
      → Low (over D) c (step D q P) (step D q U)
  steps c q P U t u d h l x = ap (λ (K : Pages). K l) (step_same q P U t u (λ l x. h l (L.transitive c (subject q) l d x))) ∙ go (stepped q U u)
    where
      go : Step q U → (if acts D q U then turned D q U P else P) l ≡ step D q U l
      go (act a e w) = rw a (page-path (low-next c q (cells_of P) (cells_of U) w d (low-cells c P U h) l x) ∙ sym (ap (λ (K : Pages). K l) e))
      go (rest a e) = rw a (h l x ∙ sym (ap (λ (K : Pages). K l) e))

  -- ---- two requests

  commutes : (q p : Request) (P : Pages) → Tidy D (rows_of (cells_of P)) → Apart (over D) subject q p → step D p (step D q P) ≡ step D q (step D p P)
  commutes q p P t a = go (stepped q P t) (stepped p P t)
    where
      S : State
      S = cells_of P

      p-second : step D p (step D q P) ≡ (if acts D p P then turned D p P (step D q P) else step D q P)
      p-second = step_same p (step D q P) P (step-tidy q P t) t (unseen (subject p) q P a.not-under t)

      q-second : step D q (step D p P) ≡ (if acts D q P then turned D q P (step D p P) else step D p P)
      q-second = step_same q (step D p P) P (step-tidy p P t) t (unseen (subject q) p P a.not-over t)

      both : Went q S → Went p S → next D p S (next D q S S) ≡ next D q S (next D p S S)
      both (stood e) _ = ap (next D p S) (e S) ∙ sym (e (next D p S S))
      both (went _ _ _) (stood e) = e (next D q S S) ∙ sym (ap (next D q S) (e S))
      both (went E e f) (went E' e' f') =
          ap (next D p S) (e S) ∙ e' (stored (applied D (subject q) E (rows_of S)))
          ∙ ap stored (effects-commute D L (rows_of S) t (subject q) (subject p) E E' f f' a.not-over a.not-under)
          ∙ sym (ap (next D q S) (e' S) ∙ e (stored (applied D (subject p) E' (rows_of S))))

      both-turned : Went q S → Went p S → turned D p P (turned D q P P) ≡ turned D q P (turned D p P P)
      both-turned w w' = fun_ext (λ l. page-path (ap (λ (T : State). T l) (both w w')))

      go : Step q P → Step p P → step D p (step D q P) ≡ step D q (step D p P)
      go (rest x e) _ = ap (step D p) e ∙ sym (q-second ∙ rw x)
      go (act _ _ _) (rest x e) = p-second ∙ rw x (sym (ap (step D q) e))
      go (act x e w) (act x' e' w') = p-second ∙ rw x' (ap (turned D p P) e ∙ both-turned w w' ∙ sym (q-second ∙ rw x (ap (turned D q P) e')))

  -- ---- the theorems

  tidy : (P : Pages) → LegalPages D P → Tidy D (rows_of (cells_of P))
  tidy P g = legal-tidy D L (rows_of (cells_of P)) g

  pub step-legal : (q : Request) (P : Pages) → LegalPages D P → LegalPages D (step D q P)
  step-legal q P g = tidy-legal D L (rows_of (cells_of (step D q P))) (step-tidy q P (tidy P g))

  pub step-laws : StepLaws (over D) subject (step D) (reply D) (LegalPages D)
  step-laws = record {
    step-legal = step-legal;
    unseen = λ c q P n g. unseen c q P n (tidy P g);
    answers = λ q P U g k h. answers q P U (tidy P g) (tidy U k) h;
    steps = λ c q P U g k d h. steps c q P U (tidy P g) (tidy U k) d h;
    commutes = λ q p P g a. commutes q p P (tidy P g) a;
  }

  -- two queues, no level of one dominating a level of the other, in any merging
  pub queues : {qs ps : List Request} (m m' : Merge qs ps) (P : Pages) → Each (λ q. Each (Apart (over D) subject q) ps) qs → LegalPages D P → SameRun (step D) (reply D) m m' P
  queues m m' P a g = Runs.queues (over D) subject (step D) (reply D) (LegalPages D) step-laws m m' P a g
