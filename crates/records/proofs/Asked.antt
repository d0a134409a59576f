-- What a record asks for and the number of its kind: each says the other.
-- Assumes nothing.
use Rattle.std.specs.Prelude.{Option, Some, None}
use Prim.Native.Nat.{ℕ, ◌≤◌}
use mathlib.Core.Path.{◌≡◌, sym, ap}
use mathlib.Core.Bool.{true, false}
use mathlib.Core.List.{List}
use native.Mathlib.Omega.{arith}
use lib.Dec.{eqb, leb}
use borrow.Author.Tests.{eqb-true, eqb-false, leb-true}
use Rattle.bounded.proofs.Cases.{cases, and_left, and_right}
use Rattle.model.specs.declared.What.{What}
use Rattle.model.specs.Description.{between}
use Rattle.records.specs.Kinds.{is_kind, number_of, form_of}
use Rattle.records.specs.Statements.{kind, form, what_of, what_read}

module _ (bytes : List ℕ) where
  number-is : is_kind (kind bytes) ≡ true → number_of (what_of bytes) ≡ kind bytes
  unfolding is_kind between what_of number_of
  number-is t =
      let l : 16 ≤ kind bytes = leb-true _ _ (and_left (leb 16 (kind bytes)) _ t) in
      let m : kind bytes ≤ 20 = leb-true _ _ (and_right (leb 16 (kind bytes)) _ t) in
      cases (eqb (kind bytes) 16) (λ e. rw e (sym (eqb-true _ _ e)))
      (λ a. cases (eqb (kind bytes) 17) (λ e. rw (a, e) (sym (eqb-true _ _ e)))
      (λ b. cases (eqb (kind bytes) 18) (λ e. rw (a, b, e) (sym (eqb-true _ _ e)))
      (λ c. cases (eqb (kind bytes) 19) (λ e. rw (a, b, c, e) (sym (eqb-true _ _ e)))
      (λ d. rw (a, b, c, d) (omega (arith, eqb-false _ _ a, eqb-false _ _ b, eqb-false _ _ c, eqb-false _ _ d))))))

  -- what is known of what a record asks for
  pub record Known (what : What) : Type 0 where
    pub is-kind : is_kind (kind bytes) ≡ true
    pub what-is : what ≡ what_of bytes
    pub form-is : form_of (number_of what) ≡ form bytes

  pub known : {what : What} → what_read bytes ≡ Some what → Known what
  unfolding what_read
  known {what} p =
      cases (is_kind (kind bytes))
      (λ t.
      let q : ◌≡◌ {A = Option What} (Some (what_of bytes)) (Some what) = rw t at p in
      let e : what ≡ what_of bytes = cc in
      record { is-kind = t; what-is = e; form-is = rw e (ap form_of (number-is t)) })
      (λ f. let q : ◌≡◌ {A = Option What} None (Some what) = rw f at p in cc)

  pub unknown : what_read bytes ≡ None → is_kind (kind bytes) ≡ false
  unfolding what_read
  unknown p =
      cases (is_kind (kind bytes)) (λ t. let q : ◌≡◌ {A = Option What} (Some (what_of bytes)) None = rw t at p in cc) (λ f. f)
