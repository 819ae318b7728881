-- The files of includes: each is a node of its tree, so its scalars are well-formed texts where the tree's are, and its script is sound.
use Rattle.std.specs.Prelude.{List, [], ◌∷◌}
use Rattle.definition.specs.Change.{Boundary}
use Rattle.scripts.specs.Sound.{Formed}

unfoldable pub FormedFiles : List Boundary → Type 0
FormedFiles [] = Unit {0}
FormedFiles (x ∷ xs) = Formed x.node × FormedFiles xs
