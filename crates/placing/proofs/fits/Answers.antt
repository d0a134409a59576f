use Rattle.placing.proofs.Tested.{fits-unsound, fits-values, fits-classes}
use Rattle.placing.proofs.fits.Goals as goal

pub returns-then-not-sound : goal.returns-then-not-sound
returns-then-not-sound c = fits-unsound _ _ c.sound.ensures c.if-not-sound.true

pub returns-then-values-total : goal.returns-then-values-total
returns-then-values-total c = fits-values _ _ c.sound.ensures c.if-not-sound.false c.total-total.ensures c.if-values-total.true

pub returns : goal.returns
returns c = fits-classes _ _ c.sound.ensures c.if-not-sound.false c.total-total.ensures c.if-values-total.false
