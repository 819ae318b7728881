-- The walk makes only sound scripts: of trees whose scalars are well-formed texts. Nothing else of a tree matters.
use Rattle.std.specs.Prelude.{◌≡◌, true}
use mathlib.Core.List.{List, [], ◌∷◌}
use Rattle.definition.specs.Utf8.{well_formed}
use Rattle.definition.specs.Tree.{Node, Kind, Nodes, Pairs, node, null, scalar, alias, sequence, mapping, end, item, close, pair}

-- ---- trees whose scalars are well-formed texts

unfoldable mutual
  pub Formed : Node → Type 0
  Formed (node p a b k) = FormedKind k

  pub FormedKind : Kind → Type 0
  FormedKind null = Unit {0}
  FormedKind (scalar t y) = well_formed t ≡ true
  FormedKind (alias t) = Unit {0}
  FormedKind (sequence f xs) = FormedNodes xs
  FormedKind (mapping f ps) = FormedPairs ps

  pub FormedNodes : Nodes → Type 0
  FormedNodes end = Unit {0}
  FormedNodes (item x xs) = Formed x × FormedNodes xs

  pub FormedPairs : Pairs → Type 0
  FormedPairs close = Unit {0}
  FormedPairs (pair k v ps) = Formed k × (Formed v × FormedPairs ps)

unfoldable pub FormedAll : List Node → Type 0
FormedAll [] = Unit {0}
FormedAll (n ∷ ns) = Formed n × FormedAll ns
