-- A deck read into trees, or its refusal (document 01, "The deck" and refusals 3 to 7). The reader goes in the order of the records, so the
-- first faulty one decides. Depth is the fuel of the recursion over nodes, a collection's count that of the loop over its children, the
-- deck's length that of the loops over a node's records and over the documents.
use Rattle.std.specs.Prelude.{ℕ, zero, suc, ◌+◌, ◌/◌, ◌%◌, Bool, true, false, not, ◌&&◌, ◌||◌, List, [], ◌∷◌, ◌++◌, eqb, leb, ltb, length, take, drop}
use Rattle.std.proofs.Math.Option.{Option, none, some}
use Rattle.definition.specs.Base.{Bytes, when◌then◌else◌}
use Rattle.definition.specs.Utf8.{well_formed}
use Rattle.definition.specs.Records.{byte_at, kind_at, record_at, size_of, past}
use Rattle.definition.specs.Tree.{Source, Head, Inline, Layout, Kept, Brought, Node, Nodes, Pairs, node, null, scalar, alias, sequence, mapping, end, item, close, pair}
use Rattle.definition.specs.declared.Cursor.{Cursor}
use Rattle.definition.specs.declared.Text.{Text}
use Rattle.definition.specs.declared.Side.{Side}
use Rattle.definition.specs.declared.Side.TheVariants.{Above, Below}
use Rattle.definition.specs.Records.{File}
use Rattle.std.specs.Prelude.{None, Some}
use Rattle.definition.specs.declared.Include.{Include}
use Rattle.definition.specs.declared.Heading.{Heading}
use Rattle.definition.specs.declared.Trailer.{Trailer}
use Rattle.definition.specs.declared.Lines.{Lines}
use Rattle.definition.specs.declared.Record.{Record}
use Rattle.definition.specs.declared.Record.TheVariants as is

-- a refusal, number and place, or a value with the cursor after it
pub data Read (A : Type 0) : Type 0 where
  fault : ℕ → ℕ → Read A
  got : A → Cursor → Read A

unfoldable pub bind : {A B : Type 0} → Read A → (A → Cursor → Read B) → Read B
bind (fault n p) f = fault n p
bind (got a c) f = f a c

-- ---- what a node's leading records give it

-- the text that a reference gives
unfoldable pub words : Bytes → Text → Bytes
words pool t = take t.len (drop t.from pool)

-- a mark: 1, 2, 4 and so on
unfoldable pub marked : ℕ → ℕ → Bool
marked marks m = eqb ((marks / m) % 2) 1

unfoldable pub layout_of : Lines → Layout
layout_of l =
    record {
      blank = l.blank;
      pad = l.pad;
      column = l.column;
      inline_before = marked l.marks 2;
      compact = marked l.marks 4;
      synthetic = marked l.marks 8;
      explicit_key = marked l.marks 16;
      explicit_start = marked l.marks 32;
      leading_bom = marked l.marks 64;
    }

-- an absent layout record means zeros
unfoldable pub no_lines : Lines
no_lines = record { blank = 0; pad = 0; column = 0; marks = 0 }

unfoldable pub none_kept : Kept
none_kept = record { source = none; heads = []; inline = none; foots = []; directives = []; layout = layout_of no_lines }

unfoldable pub none_brought : Brought
none_brought = record { tag = none; anchor = none; raw = none; modified = false }

unfoldable pub file_of : File → Option ℕ
file_of None = none
file_of (Some n) = some n

unfoldable pub is_below : Side → Bool
is_below Above = false
is_below Below = true

unfoldable pub source_of : Bytes → Include → Source
source_of pool r = record { tag = words pool r.tag; target = words pool r.target; file = file_of r.file }

unfoldable pub head_of : Bytes → Heading → Head
head_of pool h = record { text = words pool h.text; below = is_below h.side }

unfoldable pub inline_of : Bytes → Trailer → Inline
inline_of pool t = record { text = words pool t.text; spaces = t.spaces }

-- what a record adds to `Kept`
unfoldable pub keep : Bytes → Record → Kept → Kept
keep pool (is.Tag t) a = a
keep pool (is.Anchor t) a = a
keep pool (is.Source r) a = record { source = some (source_of pool r); heads = a.heads; inline = a.inline; foots = a.foots; directives = a.directives; layout = a.layout }
keep pool (is.Head h) a = record { source = a.source; heads = a.heads ++ head_of pool h ∷ []; inline = a.inline; foots = a.foots; directives = a.directives; layout = a.layout }
keep pool (is.Inline t) a = record { source = a.source; heads = a.heads; inline = some (inline_of pool t); foots = a.foots; directives = a.directives; layout = a.layout }
keep pool (is.Foot t) a = record { source = a.source; heads = a.heads; inline = a.inline; foots = a.foots ++ words pool t ∷ []; directives = a.directives; layout = a.layout }
keep pool (is.Raw t) a = a
keep pool (is.Directive t) a = record { source = a.source; heads = a.heads; inline = a.inline; foots = a.foots; directives = a.directives ++ words pool t ∷ []; layout = a.layout }
keep pool (is.Layout l) a = record { source = a.source; heads = a.heads; inline = a.inline; foots = a.foots; directives = a.directives; layout = layout_of l }
keep pool is.Null a = a
keep pool (is.Scalar w) a = a
keep pool (is.Alias t) a = a
keep pool (is.Sequence g) a = a
keep pool (is.Mapping g) a = a

-- what a record adds to `Brought`
unfoldable pub bring : Bytes → Record → Brought → Brought
bring pool (is.Tag t) b = record { tag = some (words pool t); anchor = b.anchor; raw = b.raw; modified = b.modified }
bring pool (is.Anchor t) b = record { tag = b.tag; anchor = some (words pool t); raw = b.raw; modified = b.modified }
bring pool (is.Source r) b = b
bring pool (is.Head h) b = b
bring pool (is.Inline t) b = b
bring pool (is.Foot t) b = b
bring pool (is.Raw t) b = record { tag = b.tag; anchor = b.anchor; raw = some (words pool t); modified = b.modified }
bring pool (is.Directive t) b = b
bring pool (is.Layout l) b = record { tag = b.tag; anchor = b.anchor; raw = b.raw; modified = marked l.marks 1 }
bring pool is.Null b = b
bring pool (is.Scalar w) b = b
bring pool (is.Alias t) b = b
bring pool (is.Sequence g) b = b
bring pool (is.Mapping g) b = b

-- records 20 to 24
unfoldable pub is_node : Record → Bool
is_node (is.Tag t) = false
is_node (is.Anchor t) = false
is_node (is.Source r) = false
is_node (is.Head h) = false
is_node (is.Inline t) = false
is_node (is.Foot t) = false
is_node (is.Raw t) = false
is_node (is.Directive t) = false
is_node (is.Layout l) = false
is_node is.Null = true
is_node (is.Scalar w) = true
is_node (is.Alias t) = true
is_node (is.Sequence g) = true
is_node (is.Mapping g) = true

-- ---- refusals 3, 4 and 5 of a record

-- a record's references, in order
unfoldable pub references : Record → List Text
references (is.Tag t) = t ∷ []
references (is.Anchor t) = t ∷ []
references (is.Source r) = r.tag ∷ r.target ∷ []
references (is.Head h) = h.text ∷ []
references (is.Inline t) = t.text ∷ []
references (is.Foot t) = t ∷ []
references (is.Raw t) = t ∷ []
references (is.Directive t) = t ∷ []
references (is.Layout l) = []
references is.Null = []
references (is.Scalar w) = w.text ∷ []
references (is.Alias t) = t ∷ []
references (is.Sequence g) = []
references (is.Mapping g) = []

-- the refusal of the first faulty reference, 0 where none is: 4 past the pool, 5 not UTF-8
unfoldable pub texts_fault : Bytes → List Text → ℕ
texts_fault pool [] = 0
texts_fault pool (t ∷ ts) =
    let r = texts_fault pool ts in when ltb (length pool) (t.from + t.len) then 4 else when well_formed (words pool t) then r else 5

-- every byte of the body of the record at a place has a meaning
unfoldable pub meant : ℕ → Bytes → ℕ → Bool
meant k deck at =
    when eqb k 0x03 then ltb (byte_at deck (at + 9)) 2
    else when eqb k 0x04 then ltb (byte_at deck (at + 5)) 2
    else when eqb k 0x09 then ltb (byte_at deck (at + 5)) 128
    else when eqb k 0x21 then ltb (byte_at deck (at + 5)) 5
    else when eqb k 0x23 || eqb k 0x24 then ltb (byte_at deck (at + 1)) 2
    else true

-- kinds 01 to 09 rise, and only 04, 06 and 08 repeat: `last` is the kind before, 0 at a node's first record
unfoldable pub in_order : ℕ → ℕ → Bool
in_order last k = ltb 0x09 k || ltb last k || (eqb last k && (eqb k 0x04 || eqb k 0x06 || eqb k 0x08))

-- no reason for refusal 3: a known kind, a whole body, bytes that have a meaning, in order
unfoldable pub sound : Bytes → ℕ → Cursor → Bool
sound deck last c =
    let k = kind_at deck c in
    ltb 0 (size_of k) && leb (c.at + size_of k) (length deck) && meant k deck c.at && in_order last k

-- ---- the reader

-- how deep a node may stand: a root is 1
unfoldable pub deepest : ℕ
deepest = 64

-- a node without what is below it: what its leading records give, its own record and that record's place
pub record Whole : Type 0 where
  pub kept : Kept
  pub brought : Brought
  pub own : Record
  pub place : ℕ

-- n items, n pairs, by a reader of nodes
unfoldable pub read_items : (Cursor → Read Node) → ℕ → Cursor → Read Nodes
read_items f zero c = got end c
read_items f (suc n) c = bind (f c) (λ x d. bind (read_items f n d) (λ xs e. got (item x xs) e))

unfoldable pub read_pairs : (Cursor → Read Node) → ℕ → Cursor → Read Pairs
read_pairs f zero c = got close c
read_pairs f (suc n) c = bind (f c) (λ k d. bind (f d) (λ v e. bind (read_pairs f n e) (λ ps g. got (pair k v ps) g)))

module _ (pool : Bytes) where
  -- the node of a node's own record (a leading record is none: it never comes here)
  unfoldable pub node_of : (Cursor → Read Node) → ℕ → Kept → Brought → Record → Cursor → Read Node
  node_of f p a b (is.Tag t) c = got (node p a b null) c
  node_of f p a b (is.Anchor t) c = got (node p a b null) c
  node_of f p a b (is.Source r) c = got (node p a b null) c
  node_of f p a b (is.Head h) c = got (node p a b null) c
  node_of f p a b (is.Inline t) c = got (node p a b null) c
  node_of f p a b (is.Foot t) c = got (node p a b null) c
  node_of f p a b (is.Raw t) c = got (node p a b null) c
  node_of f p a b (is.Directive t) c = got (node p a b null) c
  node_of f p a b (is.Layout l) c = got (node p a b null) c
  node_of f p a b is.Null c = got (node p a b null) c
  node_of f p a b (is.Scalar w) c = got (node p a b (scalar (words pool w.text) w.style)) c
  node_of f p a b (is.Alias t) c = got (node p a b (alias (words pool t))) c
  node_of f p a b (is.Sequence g) c = bind (read_items f g.count c) (λ xs d. got (node p a b (sequence g.form xs)) d)
  node_of f p a b (is.Mapping g) c = bind (read_pairs f g.count c) (λ ps d. got (node p a b (mapping g.form ps)) d)

  -- after a record: it is the node's own, or what it gives is added and the reading goes on
  unfoldable pub own_or_on : (Kept → Brought → Cursor → Read Whole) → Kept → Brought → ℕ → Record → Cursor → Read Whole
  own_or_on go a b p r c =
      let own : Read Whole = got (record { kept = a; brought = b; own = r; place = p }) c in
      let on : Read Whole = go (keep pool r a) (bring pool r b) c in
      when is_node r then own else on

module _ (deck pool : Bytes) where
  -- the record at a cursor: refusal 7 at the deck's end, then 3, then its references' 4 and 5
  unfoldable pub read_record : ℕ → Cursor → Read Record
  read_record last c =
      let r = record_at deck c in
      let n = texts_fault pool (references r) in
      when leb (length deck) c.at then fault 7 (length deck)
      else when not (sound deck last c) then fault 3 c.at
      else when eqb n 0 then got r (past deck c)
      else fault n c.at

  -- a node's records up to its own, `n` of them at most
  unfoldable pub read_whole : ℕ → ℕ → Kept → Brought → Cursor → Read Whole
  read_whole zero last a b c = fault 7 (length deck)
  read_whole (suc n) last a b c = let k = kind_at deck c in bind (read_record last c) (own_or_on pool (λ a' b' d. read_whole n k a' b' d) a b c.at)

  -- a node, with so many levels left; refusal 6 comes after all others of its record
  unfoldable pub read_node : ℕ → Cursor → Read Node
  read_node zero c = bind (read_whole (length deck) 0 none_kept none_brought c) (λ w d. fault 6 w.place)
  read_node (suc n) c =
      bind (read_whole (length deck) 0 none_kept none_brought c) (λ w d. node_of pool (read_node n) w.place w.kept w.brought w.own d)

  -- the documents, `n` of them at most
  unfoldable pub read_trees : ℕ → Cursor → Read (List Node)
  read_trees zero c = got [] c
  read_trees (suc n) c =
      let r = bind (read_node deepest c) (λ x d. bind (read_trees n d) (λ xs e. got (x ∷ xs) e)) in
      when leb (length deck) c.at then got [] c else r

  unfoldable pub read_deck : Read (List Node)
  read_deck = read_trees (length deck) (record { at = 0 })
