-- Lines by letter: fields that have no fault, and fields whose line writes what they add.
use mathlib.Core.Path.{◌≡◌}
use mathlib.Core.Bool.{true}
use mathlib.Core.List.{List, ◌∷◌}
use lib.ListN.{drop}
use Rattle.theory.specs.Text.{Bytes}
use Rattle.theory.specs.Packs.{Pack}
use Rattle.theory.specs.declared.Letter.{Letter}
use Rattle.theory.specs.Written.{field, add}
use Rattle.theory.specs.Faults.{may_stand, Manner, tests}
use Rattle.theory.proofs.Reading.Letters.{letter_field}
use Rattle.theory.proofs.Reading.PlainFields.{Plain}
use Rattle.theory.proofs.Judging.Tests.{Clear}

-- after lines that write p, fields with this letter have no fault, where it may stand
pub record Faultless (m : Manner) (letter : Letter) (p : Pack) (fields : List Bytes) : Type 0 where
  pub first : field 0 fields ≡ letter_field letter
  pub stands : may_stand p letter ≡ true
  pub clear : Clear (tests m letter fields p)

-- the line of fields with this letter has these fields again, and makes q of p, with a fault or without
pub record Adds (letter : Letter) (p : Pack) (fields : List Bytes) (q : Pack) : Type 0 where
  pub starts : fields ≡ letter_field letter ∷ drop 1 fields
  pub is : add letter fields p ≡ q
  pub plain : Plain fields

-- both
pub record Readable (m : Manner) (letter : Letter) (p : Pack) (fields : List Bytes) (q : Pack) : Type 0 where
  pub faultless : Faultless m letter p fields
  pub adds : Adds letter p fields q
