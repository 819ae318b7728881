-- The number of a refusal. (Document 01, "Refusal numbers".)
use Rattle.std.specs.Prelude.{ℕ}
use Rattle.definition.specs.declared.Fault.{Fault}
use Rattle.definition.specs.declared.Fault.TheVariants.{Setting, Size, Record, Reference, Text, Depth, End, Documents, Entries, Room}

abbrev pub number_of : Fault → ℕ
number_of Setting = 1
number_of Size = 2
number_of Record = 3
number_of Reference = 4
number_of Text = 5
number_of Depth = 6
number_of End = 7
number_of Documents = 8
number_of Entries = 9
number_of Room = 10
