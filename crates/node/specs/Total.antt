-- The total decoder: the tree that stands at a cursor, read with no test. Its fuel is the deck that is left, so it never runs out. These are
-- definitions.
use Rattle.std.specs.Prelude.{ℕ, zero, suc, ◌+◌, ◌-◌, List, [], ◌∷◌, length, leb, None, Some}
use Rattle.std.proofs.Math.Option.{Option, none, some}
use Rattle.definition.specs.Base.{Bytes, when◌then◌else◌}
use Rattle.definition.specs.Records.{text_at, include_at, heading_at, trailer_at}
use Rattle.definition.specs.Tree.{Source, Inline, Kept, Brought, Node, Nodes, Pairs, node, null, scalar, alias, sequence, mapping, end, item, close, pair}
use Rattle.definition.specs.Tree as tree
use Rattle.definition.specs.Deck.{words, marked, layout_of, source_of, head_of, inline_of}
use Rattle.definition.specs.declared.Cursor.{Cursor}
use Rattle.definition.specs.declared.Record.{Record}
use Rattle.definition.specs.declared.Record.TheVariants as is
use Rattle.node.specs.declared.Lead.{Lead}
use Rattle.node.specs.Head.{Head, Maybe, head_at}

-- ---- what a head says of its node

unfoldable pub held_of : Bytes → Bytes → Maybe → Option Bytes
held_of deck pool None = none
held_of deck pool (Some c) = some (words pool (text_at deck c.at))

unfoldable pub origin_of : Bytes → Bytes → Maybe → Option Source
origin_of deck pool None = none
origin_of deck pool (Some c) = some (source_of pool (include_at deck c.at))

unfoldable pub remark_of : Bytes → Bytes → Maybe → Option Inline
remark_of deck pool None = none
remark_of deck pool (Some c) = some (inline_of pool (trailer_at deck c.at))

-- n entries, s bytes apart
unfoldable pub run_from : {A : Type 0} → (Cursor → A) → ℕ → ℕ → Cursor → List A
run_from e s zero c = []
run_from e s (suc n) c = e c ∷ run_from e s n (record { at = c.at + s })

-- the head comment, the text of the record at a cursor
unfoldable pub comment_at : Bytes → Bytes → Cursor → tree.Head
comment_at deck pool c = head_of pool (heading_at deck (c.at + 1))

unfoldable pub text_of : Bytes → Bytes → Cursor → Bytes
text_of deck pool c = words pool (text_at deck (c.at + 1))

unfoldable pub kept_of : Bytes → Bytes → Lead → Kept
kept_of deck pool l =
    record {
      source = origin_of deck pool l.origin;
      heads = run_from (comment_at deck pool) 6 l.heads.count l.heads.first;
      inline = remark_of deck pool l.remark;
      foots = run_from (text_of deck pool) 5 l.foots.count l.foots.first;
      directives = run_from (text_of deck pool) 5 l.directives.count l.directives.first;
      layout = layout_of l.lines;
    }

unfoldable pub brought_of : Bytes → Bytes → Lead → Brought
brought_of deck pool l =
    record {
      tag = held_of deck pool l.tag;
      anchor = held_of deck pool l.anchor;
      raw = held_of deck pool l.raw;
      modified = marked l.lines.marks 1;
    }

-- ---- trees

pub record Got (A : Type 0) : Type 0 where
  pub value : A
  pub next : Cursor

unfoldable pub items_from : (Cursor → Got Node) → ℕ → Cursor → Got Nodes
items_from f zero c = record { value = end; next = c }
items_from f (suc n) c =
    let x = f c in
    let xs = items_from f n x.next in
    record { value = item x.value xs.value; next = xs.next }

unfoldable pub pairs_from : (Cursor → Got Node) → ℕ → Cursor → Got Pairs
pairs_from f zero c = record { value = close; next = c }
pairs_from f (suc n) c =
    let k = f c in
    let v = f k.next in
    let ps = pairs_from f n v.next in
    record { value = pair k.value v.value ps.value; next = ps.next }

-- the node of a node's own record, given how a child is read
unfoldable pub shape : Bytes → (Cursor → Got Node) → ℕ → Kept → Brought → Record → Cursor → Got Node
shape pool f p a b (is.Tag t) c = record { value = node p a b null; next = c }
shape pool f p a b (is.Anchor t) c = record { value = node p a b null; next = c }
shape pool f p a b (is.Source i) c = record { value = node p a b null; next = c }
shape pool f p a b (is.Head h) c = record { value = node p a b null; next = c }
shape pool f p a b (is.Inline t) c = record { value = node p a b null; next = c }
shape pool f p a b (is.Foot t) c = record { value = node p a b null; next = c }
shape pool f p a b (is.Raw t) c = record { value = node p a b null; next = c }
shape pool f p a b (is.Directive t) c = record { value = node p a b null; next = c }
shape pool f p a b (is.Layout l) c = record { value = node p a b null; next = c }
shape pool f p a b is.Null c = record { value = node p a b null; next = c }
shape pool f p a b (is.Scalar w) c = record { value = node p a b (scalar (words pool w.text) w.style); next = c }
shape pool f p a b (is.Alias t) c = record { value = node p a b (alias (words pool t)); next = c }
shape pool f p a b (is.Sequence g) c = let xs = items_from f g.count c in record { value = node p a b (sequence g.form xs.value); next = xs.next }
shape pool f p a b (is.Mapping g) c = let ps = pairs_from f g.count c in record { value = node p a b (mapping g.form ps.value); next = ps.next }

-- the node of a head
unfoldable pub shape_of : Bytes → Bytes → (Cursor → Got Node) → Head → Got Node
shape_of deck pool f h = shape pool f h.place.at (kept_of deck pool h.lead) (brought_of deck pool h.lead) h.own h.next

-- what no deck is left for: a null, of no bytes
unfoldable pub null_at : Bytes → Bytes → Cursor → Got Node
null_at deck pool c = let l = (head_at deck c).lead in record { value = node c.at (kept_of deck pool l) (brought_of deck pool l) null; next = c }

unfoldable pub node_from : Bytes → Bytes → ℕ → Cursor → Got Node
node_from deck pool zero c = shape_of deck pool (null_at deck pool) (head_at deck c)
node_from deck pool (suc n) c = shape_of deck pool (node_from deck pool n) (head_at deck c)

-- the tree at a cursor
unfoldable pub tree_at : Bytes → Bytes → Cursor → Got Node
tree_at deck pool c = node_from deck pool (length deck - c.at) c

-- trees up to the deck's end, n of them at most
unfoldable pub trees_from : Bytes → Bytes → ℕ → Cursor → List Node
trees_from deck pool zero c = []
trees_from deck pool (suc n) c =
    let x = tree_at deck pool c in
    let r = x.value ∷ trees_from deck pool n x.next in
    when leb (length deck) c.at then [] else r

unfoldable pub trees_of : Bytes → Bytes → List Node
trees_of deck pool = trees_from deck pool (length deck) (record { at = 0 })
