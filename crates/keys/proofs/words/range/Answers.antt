use mathlib.Core.Path.{ap, ◌∙◌}
use native.Mathlib.Nat.{le_refl}
use Rattle.std.specs.Prelude.{ℕ, Option, unwrap_or}
use Rattle.keys.proofs.Sets.{range-of}
use Rattle.keys.proofs.words.range.Goals as goal

pub returns : goal.returns
returns c =
    let high = c.unwrap_or.ensures ∙ ap (λ (x : Option ℕ). unwrap_or x 0) c.copied.ensures ∙ c.get.ensures.lookup.4 (le_refl _) 0 in
    let low = c.unwrap_or-2.ensures ∙ ap (λ (x : Option ℕ). unwrap_or x 0) c.copied-2.ensures ∙ c.get-2.ensures.lookup.4 (le_refl _) 0 in
    rw (high, low) (range-of _ c.requires.0 _ _ c.requires.1 _ _)
