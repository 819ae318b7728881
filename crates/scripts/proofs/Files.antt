-- The files of includes: each is a node of its tree, so its scalars are well-formed texts where the tree's are, and its script is sound.
use Prim.{tt}
use Rattle.std.specs.Prelude.{ℕ, true, List, [], ◌∷◌, ◌++◌}
use Rattle.std.proofs.Math.Option.{Option, none, some}
use Rattle.definition.specs.Settings.{plain_settings}
use Rattle.definition.specs.Tree.{Source, Node, Kind, Nodes, Pairs, node, null, scalar, alias, sequence, mapping, end, item, close, pair}
use Rattle.definition.specs.Document.{one_document}
use Rattle.definition.specs.Change.{Boundary, with_id, own_boundary, boundaries, boundaries_in, boundaries_items, boundaries_pairs, boundaries_all}
use Rattle.pen.specs.Shown.{Sound}
use Rattle.scripts.specs.Sound.{Formed, FormedKind, FormedNodes, FormedPairs, FormedAll}
use Rattle.scripts.specs.Files.{FormedFiles}
use Rattle.scripts.proofs.Sound.{sound-one}

files-append : (xs ys : List Boundary) → FormedFiles xs → FormedFiles ys → FormedFiles (xs ++ ys)
unfolding FormedFiles
files-append [] ys g h = h
files-append (x ∷ xs) ys g h = (g.0, files-append xs ys g.1 h)

own-file : (o : Option Source) (n : Node) → Formed n → FormedFiles (own_boundary o n)
unfolding own_boundary
own-file none n h = unfold FormedFiles in tt
own-file (some r) n h = go r.file
  where
    go : (i : Option ℕ) → FormedFiles (with_id i n)
    go none = unfold FormedFiles with_id in tt
    go (some i) = unfold FormedFiles with_id in (h, tt)

mutual
  unfolding boundaries Formed FormedFiles

  pub formed-files : (n : Node) → Formed n → FormedFiles (boundaries n)
  formed-files (node p a b k) h = files-append (own_boundary a.source (node p a b k)) _ (own-file a.source (node p a b k) h) (formed-files-in k h)

  formed-files-in : (k : Kind) → FormedKind k → FormedFiles (boundaries_in k)
  formed-files-in null h = tt
  formed-files-in (scalar t y) h = tt
  formed-files-in (alias t) h = tt
  formed-files-in (sequence f xs) h = formed-files-items xs h
  formed-files-in (mapping f ps) h = formed-files-pairs ps h

  formed-files-items : (xs : Nodes) → FormedNodes xs → FormedFiles (boundaries_items xs)
  formed-files-items end h = tt
  formed-files-items (item x xs) h = files-append (boundaries x) _ (formed-files x h.0) (formed-files-items xs h.1)

  formed-files-pairs : (ps : Pairs) → FormedPairs ps → FormedFiles (boundaries_pairs ps)
  formed-files-pairs close h = tt
  formed-files-pairs (pair k v ps) h =
      files-append (boundaries k) _ (formed-files k h.0) (files-append (boundaries v) _ (formed-files v h.1.0) (formed-files-pairs ps h.1.1))

pub formed-files-all : (ns : List Node) → FormedAll ns → FormedFiles (boundaries_all ns)
unfolding boundaries_all FormedAll FormedFiles
formed-files-all [] h = tt
formed-files-all (n ∷ ns) h = files-append (boundaries n) _ (formed-files n h.0) (formed-files-all ns h.1)

-- what `emit_file` writes
pub sound-file : (n : Node) → Formed n → Sound (one_document plain_settings true n)
sound-file n h = sound-one plain_settings true n h
