-- How lines are judged, by the manner that the code is handed.
use Rattle.theory.specs.Faults.{Manner, whole, but_for_heads}
use Rattle.tables.specs.declared.Manner.{Manner as Handed}
use Rattle.tables.specs.declared.Manner.TheVariants.{Whole, ButForHeads}

abbrev pub manner_of : Handed → Manner
manner_of Whole = whole
manner_of ButForHeads = but_for_heads whole
