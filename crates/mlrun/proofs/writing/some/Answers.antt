-- No more bytes go than stand there.
use Rattle.std.proofs.Common.{◌≡◌, length, refl, rules, of_calls}
use Rattle.std.proofs.lemmas.Fn.{answers_by}
use Rattle.mlrun.proofs.writing.some.Goals as goal

pub returns : goal.returns
returns g c =
    let bytes = c.args.bytes.now in
    c.patiently.ensures (length bytes) (answers_by _ _ (λ q. q.1.now ≡ bytes) (λ q a r q' k i. search (rules, of_calls)) _ refl)
