-- The number of each fault is its place among them, from 1.
-- Assumes nothing.
use Rattle.std.proofs.Common.{◌≡◌, ◌+◌, refl}
use Rattle.model.specs.Numbers.{fault_number}
use Rattle.model.specs.contracts.Fault.{the_type}
use Rattle.model.specs.declared.Fault.{Fault}
use Rattle.model.specs.declared.Fault.TheVariants as Faults
use denote.Enum.Declared.{tag_of}

pub place : (fault : Fault) → tag_of the_type fault + 1 ≡ fault_number fault
unfolding fault_number
place Faults.Description = refl
place Faults.Length = refl
place Faults.Illegal = refl
place Faults.Malformed = refl
place Faults.Unseen = refl
place Faults.Range = refl
place Faults.Absent = refl
place Faults.Several = refl
place Faults.Taken = refl
place Faults.KeyClass = refl
place Faults.Reference = refl
place Faults.Referred = refl
place Faults.Full = refl
place Faults.Short = refl
