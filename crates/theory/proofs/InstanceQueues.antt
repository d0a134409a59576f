-- Nothing is vacuous: two queues of all five kinds of statement, each of two levels, which change a level above both.
-- Assumes nothing.
use Prim.Native.Nat.{ℕ}
use mathlib.Core.Path.{◌≡◌, refl, sym, ◌∙◌}
use mathlib.Core.Bool.{false, ◌||◌, false≢true}
use mathlib.Core.List.{List, [], ◌∷◌}
use lib.ListN.{replicate}
use Rattle.bounded.proofs.Cases.{or_true_right}
use Rattle.model.specs.declared.Description.{Description}
use Rattle.std.specs.Prelude.{Ok, Err}
use Rattle.model.specs.Description.{over}
use Rattle.model.specs.Tables.{Cell, cell}
use Rattle.model.specs.Ledger.{Ledger}
use Rattle.model.specs.Run.{Request, subject, Reply}
use Rattle.model.proofs.Computed.{computed}
use Rattle.model.proofs.Build.{insert_at, delete_at, update_at, uplevel_at, select_at, key, laid}
use Rattle.model.proofs.Worked.{one, no₁, two, no₂, x₀, x₁, x₂, row₁}
use Rattle.theory.specs.Queues.{Merge, from-left, from-right, finished, Each, more, no_more, final, firsts, seconds, SameRun}
use Rattle.theory.specs.Theorems.{Yes, leaves, hears, Apart}
use Rattle.theory.proofs.Theorems.{queues-merge}

-- labels 0, 1, 2, 5, 10, 15: levels 1 and 3 on one side, 2 and 4 on the other, and level 5 above both; the two relations of the worked rows
abbrev forked : Description
forked =
    record {
      levels = 6;
      labels = 0 ∷ 1 ∷ 2 ∷ 5 ∷ 10 ∷ 15 ∷ replicate 10 0;
      relations = 2;
      columns = 0 ∷ 3 ∷ 2 ∷ replicate 6 0;
      rows = 0 ∷ 2 ∷ 2 ∷ replicate 6 0;
      foreign = 0 ∷ 0 ∷ 2 ∷ replicate 6 0;
      refers = 0 ∷ 0 ∷ 1 ∷ replicate 6 0;
      low = replicate 81 0;
      high = replicate 81 5;
    }

-- relation 1 at levels 0 to 5, then relation 2 at level 2 and at level 5
abbrev forking : List Cell → List Cell → List Cell → List Cell → List Cell → List Cell → List Cell → List Cell → Ledger
forking a b c e f g x y = laid forked (a ∷ b ∷ c ∷ e ∷ f ∷ g ∷ no₂ ∷ no₂ ∷ x ∷ no₂ ∷ no₂ ∷ y ∷ [])

-- level 5 has 21 from level 1, 31 from level 2, and level 2's row of relation 2
abbrev begun : Ledger
begun = forking x₀ x₁ x₂ no₁ no₁ row₁ (two (cell 50 2) (cell 7 2)) (two (cell 50 2) (cell 7 2))

pub begun-legal : Yes forked begun
unfolding computed
begun-legal = refl

abbrev ones : List Request
ones = update_at 1 1 (2 ∷ 22 ∷ []) [] ∷ uplevel_at 3 1 7 255 (2 ∷ 1 ∷ []) ∷ select_at 3 1 (3 ∷ 1 ∷ []) [] (replicate 7 9) (replicate 9 8) ∷ []

abbrev others : List Request
others = delete_at 2 2 (key 50) ∷ insert_at 4 1 (1 ∷ 8 ∷ 2 ∷ 40 ∷ []) ∷ select_at 4 1 [] [] (replicate 3 9) (replicate 4 8) ∷ []

-- two requests neither of whose levels dominates the other's, by computation
apart : (q p : Request) → (over forked (subject q) (subject p) || over forked (subject p) (subject q)) ≡ false → Apart forked q p
apart q p e =
    record {
      not-over = λ t. false≢true (sym e ∙ rw t);
      not-under = λ t. false≢true (sym e ∙ or_true_right (over forked (subject q) (subject p)) _ t);
    }

pub queues-apart : Each (λ q. Each (λ p. Apart forked q p) others) ones
unfolding computed
queues-apart =
    more (more (apart _ _ refl) (more (apart _ _ refl) (more (apart _ _ refl) no_more)))
    (more (more (apart _ _ refl) (more (apart _ _ refl) (more (apart _ _ refl) no_more)))
    (more (more (apart _ _ refl) (more (apart _ _ refl) (more (apart _ _ refl) no_more))) no_more))

-- the one queue after the other, and the two in turn
abbrev in_order_lem : Merge ones others
in_order_lem = from-left (from-left (from-left (from-right (from-right (from-right finished)))))

abbrev in-turn : Merge ones others
in-turn = from-right (from-left (from-right (from-left (from-right (from-left finished)))))

-- ---- all are done, and level 5 has another value in relation 1 and has lost its row of relation 2

abbrev done-with : ℕ → List ℕ → List ℕ → Reply
done-with count shown owners = record { answer = Ok count; shown = shown; owners = owners }

pub ones-hear : firsts (leaves forked) (hears forked) in_order_lem begun
    ≡ done-with 1 [] [] ∷ done-with 1 [] []
    ∷ done-with 2 (7 ∷ 22 ∷ 30 ∷ 7 ∷ 22 ∷ 0 ∷ 9 ∷ []) (0 ∷ 1 ∷ 0 ∷ 1 ∷ 0 ∷ 1 ∷ 3 ∷ 3 ∷ 8 ∷ []) ∷ []
unfolding computed firsts
ones-hear = refl

pub others-hear : seconds (leaves forked) (hears forked) in_order_lem begun
    ≡ done-with 1 [] [] ∷ done-with 1 [] [] ∷ done-with 1 (8 ∷ 40 ∷ 0 ∷ []) (4 ∷ 4 ∷ 4 ∷ 4 ∷ []) ∷ []
unfolding computed seconds
others-hear = refl

pub queues-leave : final (leaves forked) (hears forked) in_order_lem begun
    ≡ forking x₀ (one (cell 7 0) (cell 22 1) (cell 30 0)) x₂ (one (cell 7 0) (cell 22 1) (cell 0 3)) (one (cell 8 4) (cell 40 4) (cell 0 4))
    (one (cell 7 0) (cell 22 1) (cell 31 2)) no₂ no₂
unfolding computed final
queues-leave = refl

pub queues-same : SameRun (leaves forked) (hears forked) in_order_lem in-turn begun
queues-same = queues-merge forked begun ones others begun-legal queues-apart in_order_lem in-turn
