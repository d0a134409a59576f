-- At most one outcome meets each public function's promise. `Post` is the function's `ensures` as the checker reads it from the source,
-- so that a theorem here is about the contract's own text.
-- Assumes nothing.
use mathlib.Core.Path.{◌≡◌, sym, ◌∙◌}
use Rattle.level.proofs.Label.height.Reads as height
use Rattle.level.proofs.Label.dominates.Reads as dominates
use Rattle.level.proofs.bottom.Reads as bottom
use Rattle.level.proofs.order.Reads as order
use Rattle.level.proofs.over.Reads as over

-- for all lifetimes and arguments, two results that meet the promise are one, whatever the parameters are at exit
abbrev pub Settled : {L : Type 0} {A R E : L → Type 0} → ((κs : L) → A κs → R κs → E κs → Type 0) → Type 0
Settled {L} {A} {R} {E} Promise =
    (κs : L) (a : A κs) (x y : R κs) (e f : E κs) → Promise κs a x e → Promise κs a y f → x ≡ y

pub height-settled : Settled height.Post
height-settled κs a x y e f p q = p ∙ sym q

pub dominates-settled : Settled dominates.Post
dominates-settled κs a x y e f p q = p ∙ sym q

pub bottom-settled : Settled bottom.Post
bottom-settled κs a x y e f p q = λ i. record { 0 = (p ∙ sym q) i }

pub order-settled : Settled order.Post
order-settled κs a x y e f p q = p ∙ sym q

pub over-settled : Settled over.Post
over-settled κs a x y e f p q = p ∙ sym q
