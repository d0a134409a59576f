-- Two queues whose requests commute pairwise on legal states and do not change each other's replies: every merging of the two leaves the
-- same state and gives each request the same reply.
-- Assumes nothing.
use mathlib.Core.List.{List, [], ◌∷◌}
use mathlib.Core.Path.{◌≡◌, refl, sym, ap, ap₂, ◌∙◌}
use Rattle.theory.specs.Queues.{Merge, finished, from-left, from-right, Each, no_more, more, final, firsts, seconds, SameRun}

-- a member of a list
data In {A : Type 0} (x : A) : List A → Type 0 where
  first : {xs : List A} → In x (x ∷ xs)
  later : {y : A} {xs : List A} → In x xs → In x (y ∷ xs)

each_of : {A : Type 0} {P : A → Type 0} (xs : List A) → ((x : A) → In x xs → P x) → Each P xs
each_of [] f = no_more
each_of (x ∷ xs) f = more (f x first) (each_of xs (λ y i. f y (later i)))

each_in : {A : Type 0} {P : A → Type 0} {xs : List A} {x : A} → Each P xs → In x xs → P x
each_in no_more i = elim i [ ]
each_in (more p e) first = p
each_in (more p e) (later i) = each_in e i

module _ {S Request Reply : Type 0} (step : Request → S → S) (reply : Request → S → Reply) where
  -- a queue alone
  unfoldable pub after_all : List Request → S → S
  after_all [] T = T
  after_all (p ∷ ps) T = after_all ps (step p T)

  unfoldable pub replies : List Request → S → List Reply
  replies [] T = []
  replies (p ∷ ps) T = reply p T ∷ replies ps (step p T)

  module _ (Legal : S → Type 0) (P Q : Request → Type 0)
      (legal : (s : Request) (T : S) → Legal T → Legal (step s T))
      (commute : (s t : Request) (T : S) → P s → Q t → Legal T → step t (step s T) ≡ step s (step t T))
      (quiet-p : (s t : Request) (T : S) → P s → Q t → Legal T → reply s (step t T) ≡ reply s T)
      (quiet-q : (s t : Request) (T : S) → P s → Q t → Legal T → reply t (step s T) ≡ reply t T) where
    -- a request of the second queue goes past the first queue
    past : (ps : List Request) (q : Request) (T : S) → Each P ps → Q q → Legal T → after_all ps (step q T) ≡ step q (after_all ps T)
    unfolding after_all
    past [] q T e h g = refl
    past (p ∷ ps) q T (more k e) h g = ap (after_all ps) (sym (commute p q T k h g)) ∙ past ps q (step p T) e h (legal p T g)

    past-replies : (ps : List Request) (q : Request) (T : S) → Each P ps → Q q → Legal T → replies ps (step q T) ≡ replies ps T
    unfolding replies
    past-replies [] q T e h g = refl
    past-replies (p ∷ ps) q T (more k e) h g =
        ap₂ (λ x xs. x ∷ xs) (quiet-p p q T k h g) (ap (replies ps) (sym (commute p q T k h g)) ∙ past-replies ps q (step p T) e h (legal p T g))

    -- and one of the first past the second
    other-replies : (p : Request) (qs : List Request) (T : S) → P p → Each Q qs → Legal T → replies qs (step p T) ≡ replies qs T
    unfolding replies
    other-replies p [] T h e g = refl
    other-replies p (q ∷ qs) T h (more k e) g =
        ap₂ (λ x xs. x ∷ xs) (quiet-q p q T h k g) (ap (replies qs) (commute p q T h k g) ∙ other-replies p qs (step q T) h e (legal q T g))

    final-is : {ps qs : List Request} (m : Merge ps qs) (T : S) → Each P ps → Each Q qs → Legal T → final step reply m T ≡ after_all qs (after_all ps T)
    unfolding final after_all
    final-is finished T e f g = refl
    final-is (from-left {p = p} m) T (more h e) f g = final-is m (step p T) e f (legal p T g)
    final-is (from-right {q = q} {ps = ps} {qs = qs} m) T e (more h f) g = final-is m (step q T) e f (legal q T g) ∙ ap (after_all qs) (past ps q T e h g)

    firsts-is : {ps qs : List Request} (m : Merge ps qs) (T : S) → Each P ps → Each Q qs → Legal T → firsts step reply m T ≡ replies ps T
    unfolding firsts replies
    firsts-is finished T e f g = refl
    firsts-is (from-left {p = p} m) T (more h e) f g = ap (λ xs. reply p T ∷ xs) (firsts-is m (step p T) e f (legal p T g))
    firsts-is (from-right {q = q} {ps = ps} m) T e (more h f) g = firsts-is m (step q T) e f (legal q T g) ∙ past-replies ps q T e h g

    seconds-is : {ps qs : List Request} (m : Merge ps qs) (T : S) → Each P ps → Each Q qs → Legal T → seconds step reply m T ≡ replies qs T
    unfolding seconds replies
    seconds-is finished T e f g = refl
    seconds-is (from-left {p = p} {qs = qs} m) T (more h e) f g = seconds-is m (step p T) e f (legal p T g) ∙ other-replies p qs T h f g
    seconds-is (from-right {q = q} m) T e (more h f) g = ap (λ xs. reply q T ∷ xs) (seconds-is m (step q T) e f (legal q T g))

    any-merging : {ps qs : List Request} (m m' : Merge ps qs) (T : S) → Each P ps → Each Q qs → Legal T → SameRun step reply m m' T
    any-merging m m' T e f g =
        record {
          state = final-is m T e f g ∙ sym (final-is m' T e f g);
          first = firsts-is m T e f g ∙ sym (firsts-is m' T e f g);
          second = seconds-is m T e f g ∙ sym (seconds-is m' T e f g);
        }

  -- two queues of which each pair of requests, one of either, commutes on legal states and leaves the other's reply
  pub queues-merge : (Legal : S → Type 0) (Apart : Request → Request → Type 0)
      → ((s : Request) (T : S) → Legal T → Legal (step s T))
      → ((s t : Request) (T : S) → Apart s t → Legal T → step t (step s T) ≡ step s (step t T))
      → ((s t : Request) (T : S) → Apart s t → Legal T → reply s (step t T) ≡ reply s T)
      → ((s t : Request) (T : S) → Apart s t → Legal T → reply t (step s T) ≡ reply t T)
      → {ps qs : List Request} (m m' : Merge ps qs) (T : S) → Each (λ s. Each (Apart s) qs) ps → Legal T → SameRun step reply m m' T
  queues-merge Legal Apart legal commute quiet-p quiet-q {ps} {qs} m m' T a g =
      any-merging Legal (λ s. In s ps) (λ t. In t qs) legal (λ s t T i j. commute s t T (apart i j)) (λ s t T i j. quiet-p s t T (apart i j)) (λ s t T i j. quiet-q s t T (apart i j))
      m m' T (each_of ps (λ s i. i)) (each_of qs (λ t j. j)) g
    where
      apart : {s t : Request} → In s ps → In t qs → Apart s t
      apart i j = each_in (each_in a i) j
