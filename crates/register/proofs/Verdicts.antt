-- What a verdict says of a description and a ledger.
-- Assumes nothing.
use Rattle.std.specs.Prelude.{if◌then◌else◌, Ok, Err}
use mathlib.Core.Path.{◌≡◌, refl, sym, ◌∙◌}
use mathlib.Core.Bool.{Bool, true, false, not}
use mathlib.Core.List.{List}
use mathlib.Core.Option.{some}
use Prim.Native.Nat.{ℕ}
use Rattle.model.specs.declared.Description.{Description}
use Rattle.model.specs.declared.Fault.{Fault}
use Rattle.model.specs.declared.Fault.TheVariants as Faults
use Rattle.model.specs.Answers.{Verdict}
use Rattle.model.specs.Description.{sound}
use Rattle.model.specs.Buffers.{holding}
use Rattle.model.specs.Ledger.{Ledger, lending, lent_fits, pages_of}
use Rattle.model.specs.Judge.{legal_pages, judge}
use Rattle.model.specs.Run.{Request, refusal}
use Rattle.register.specs.Facts.{Judged}
use Rattle.register.proofs.Outcomes.{unsound-refused, unfit-refused, illegal-refused}

abbrev said : Bool → Bool → Bool → Verdict
said s f l = if not s then Err Faults.Description else if not f then Err Faults.Length else if not l then Err Faults.Illegal else Ok tt

right : (s f l : Bool) → said s f l ≡ Ok tt → (s ≡ true) × (f ≡ true) × (l ≡ true)
right false f l e = cc
right true false l e = cc
right true true false e = cc
right true true true e = (refl, refl, refl)

-- tables that are judged legal are
pub judged-of : (d : Description) (vs cs : List ℕ) {v : Verdict} → v ≡ judge d (lending (holding vs cs)) → v ≡ Ok tt → Judged d vs cs
unfolding judge lent_fits pages_of legal_pages
judged-of d vs cs j e =
    let b = lending (holding vs cs) in
    let k = right (sound d) (lent_fits d b) (legal_pages d (pages_of d b)) (sym j ∙ e) in
    record { sound-is = k.0; fits = k.1; legal-is = k.2 }

-- what is judged wrong is what the call is refused for
pub judged-refused : (d : Description) (b : Ledger) (q : Request) {v : Verdict} {x : Fault} → v ≡ judge d b → v ≡ Err x → refusal d b q ≡ some x
unfolding judge
judged-refused d b q {v} {x} j e = go (sound d) (lent_fits d b) (legal_pages d (pages_of d b)) refl refl refl (sym j ∙ e)
  where
    go : (s f l : Bool) → sound d ≡ s → lent_fits d b ≡ f → legal_pages d (pages_of d b) ≡ l → said s f l ≡ Err x → refusal d b q ≡ some x
    go false f l h g k i = cc (unsound-refused d b q h)
    go true false l h g k i = cc (unfit-refused d b q h g)
    go true true false h g k i = cc (illegal-refused d b q h g k)
    go true true true h g k i = cc
