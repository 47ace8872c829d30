-- Laws on the manners that the code is handed.
use mathlib.Core.Path.{◌≡◌, refl}
use Rattle.theory.specs.Faults.{may_stand}
use Rattle.tables.specs.declared.Manner.{Manner as Handed}
use Rattle.tables.specs.declared.Manner.TheVariants.{Whole, ButForHeads}
use Rattle.tables.specs.Manners.{manner_of}

-- each of them allows the letters of a whole pack
pub letters_kept : (manner : Handed) → (manner_of manner).allows ≡ may_stand
letters_kept Whole = refl
letters_kept ButForHeads = refl
