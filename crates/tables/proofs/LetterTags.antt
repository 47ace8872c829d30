-- Letters that are one have one tag: so a pattern of several letters is told as one of their tags.
use mathlib.Core.Path.{◌≡◌, ap}
use denote.Enum.Declared.{tag_of}
use Rattle.theory.specs.contracts.Letter.{the_type}
use Rattle.theory.specs.declared.Letter.{Letter}

pub same_tag : {k l : Letter} → k ≡ l → tag_of the_type k ≡ tag_of the_type l
same_tag = ap (tag_of the_type)
