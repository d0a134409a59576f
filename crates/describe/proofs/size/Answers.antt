use mathlib.Core.Path.{refl}
use native.Mathlib.Omega.{arith}
use lib.ListN.{get_or}
use mir.Syntax.{w16}
use mir.Val.{Fits}
use borrow.Author.Rules.{rules}
use Rattle.describe.proofs.Sizes.{size-absent, size_is, small}
use Rattle.describe.proofs.size.Goals as goal

pub returns-then-relation-eq0 : goal.returns-then-relation-eq0
returns-then-relation-eq0 c = (size-absent _ _ (λ h. omega (arith, h)), omega arith)

pub returns : goal.returns
returns c =
    let x : Fits w16 c.args.d.levels = search rules in
    let y : Fits w16 (get_or c.args.d.rows c.args.relation 0) = search rules in
    let z : Fits w16 (get_or c.args.d.columns c.args.relation 0) = search rules in
    (size_is _ _ (omega arith) (omega arith) refl refl refl, small x.fits y.fits z.fits)
