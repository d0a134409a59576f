-- What was there at the start is there, at the front, and what was read stands behind it, within the buffer.
use Rattle.std.proofs.Common.{◌-◌, ◌≡◌, ◌≤◌, length}
use Rattle.mlrun.specs.Reading.{Added}
use Rattle.mlrun.proofs.reading.load.Given as goal

abbrev pub invariant-loop-to : goal.invariant-loop-to
invariant-loop-to g l =
    (l.there ≤ l.to) × (l.to ≤ length l.fn.buffer) × (length l.buffer ≡ length l.fn.buffer) × Added l.there 0 l.fn.buffer l.buffer

abbrev pub decreases-loop-to : goal.decreases-loop-to
decreases-loop-to g l = length l.fn.buffer - l.to
