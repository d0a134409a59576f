-- Two queues of requests, and what a merging of them leaves and answers.
-- Assumes nothing: these are definitions.
use Rattle.std.specs.Prelude.{List, [], ◌∷◌, ◌≡◌}

-- a merging of two lists that keeps the order of each: which of them goes next
pub data Merge {A : Type 0} : List A → List A → Type 0 where
  finished : Merge [] []
  from-left : {p : A} {ps qs : List A} → Merge ps qs → Merge (p ∷ ps) qs
  from-right : {q : A} {ps qs : List A} → Merge ps qs → Merge ps (q ∷ qs)

pub data Each {A : Type 0} (P : A → Type 0) : List A → Type 0 where
  no_more : Each P []
  more : {x : A} {xs : List A} → P x → Each P xs → Each P (x ∷ xs)

-- requests that change a state and are replied to
module _ {S Request Reply : Type 0} (step : Request → S → S) (reply : Request → S → Reply) where
  -- a merging: what it leaves, and what each queue hears
  unfoldable pub final : {ps qs : List Request} → Merge ps qs → S → S
  final finished T = T
  final (from-left {p = p} m) T = final m (step p T)
  final (from-right {q = q} m) T = final m (step q T)

  unfoldable pub firsts : {ps qs : List Request} → Merge ps qs → S → List Reply
  firsts finished T = []
  firsts (from-left {p = p} m) T = reply p T ∷ firsts m (step p T)
  firsts (from-right {q = q} m) T = firsts m (step q T)

  unfoldable pub seconds : {ps qs : List Request} → Merge ps qs → S → List Reply
  seconds finished T = []
  seconds (from-left {p = p} m) T = seconds m (step p T)
  seconds (from-right {q = q} m) T = reply q T ∷ seconds m (step q T)

  pub record SameRun {ps qs : List Request} (m m' : Merge ps qs) (T : S) : Type 0 where
    pub state : final m T ≡ final m' T
    pub first : firsts m T ≡ firsts m' T
    pub second : seconds m T ≡ seconds m' T
