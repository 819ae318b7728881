-- The walk's tests on a node and the columns that it chooses, from what the emitter takes of the node; and that each is the definition's, with
-- any deck and any pool.
use Rattle.std.specs.Prelude.{ℕ, zero, suc, ◌+◌, ◌≡◌, Bool, ◌&&◌, ◌||◌, leb}
use Rattle.std.proofs.Math.Path.{refl}
use Rattle.std.proofs.Common.{sym, arith, ne_eqb}
use Rattle.std.proofs.Math.Bool.{true, false, not}
use Rattle.definition.specs.Base.{Bytes, when◌then◌else◌, is_nil, is_some}
use Rattle.definition.specs.Settings.{step_of, is_empty_style}
use Rattle.definition.specs.Tree.{Node}
use Rattle.definition.specs.Deck.{words, marked, layout_of}
use Rattle.definition.specs.Walk.{included, is_block_style, is_plain, some_item, some_pair, is_block_form, is_block, is_sequence, is_null, is_empty_scalar, has_comments, needs_explicit, is_explicit, bare, value_column, item_column, on_dash_line}
use Rattle.definition.specs.Document.{root_column, bare_root}
use Rattle.definition.specs.declared.Cursor.{Cursor}
use Rattle.definition.specs.declared.Group.{Group}
use Rattle.definition.specs.declared.Lines.{Lines}
use Rattle.definition.specs.declared.Settings.{Settings}
use Rattle.std.specs.Prelude.{None, Some}
use Rattle.node.specs.Head.{Maybe, there}
use Rattle.node.specs.declared.Lead.{Lead}
use Rattle.node.specs.Comments.{commented, comments-are}
use Rattle.node.specs.Total.{Got, kept_of, brought_of, origin_of, items_from, pairs_from, tree_at}
use Rattle.parts.specs.Props.{held-some, has-props-is}
use Rattle.spot.specs.declared.Body.{Body}
use Rattle.spot.specs.declared.Body.TheVariants.{Null, Scalar, Alias, Sequence, Mapping}
use Rattle.spot.specs.declared.Spot.{Spot}
use Rattle.spot.specs.Spot.{kind_of, node_in}
use Rattle.atoms.specs.Atoms.{on, remark-some}

-- ---- what a node is

-- a block collection that is not empty
unfoldable pub block_group : Group → Bool
block_group g = is_block_form g.form && on g.count

unfoldable pub block_in : Body → Bool
block_in Null = false
block_in (Scalar w) = false
block_in (Alias t) = false
block_in (Sequence g) = block_group g
block_in (Mapping g) = block_group g

unfoldable pub sequence_in : Body → Bool
sequence_in Null = false
sequence_in (Scalar w) = false
sequence_in (Alias t) = false
sequence_in (Sequence g) = true
sequence_in (Mapping g) = false

unfoldable pub none_in : Body → Bool
none_in Null = true
none_in (Scalar w) = false
none_in (Alias t) = false
none_in (Sequence g) = false
none_in (Mapping g) = false

unfoldable pub empty_in : Bytes → Body → Bool
empty_in pool Null = true
empty_in pool (Scalar w) = is_plain w.style && is_nil (words pool w.text)
empty_in pool (Alias t) = false
empty_in pool (Sequence g) = false
empty_in pool (Mapping g) = false

on-suc : (n : ℕ) → on (suc n) ≡ true
unfolding on
on-suc n = rw (ne_eqb (suc n) 0 (λ e. absurd (omega arith)))

-- n members are some, where n is not 0
pub some_item-on : (f : Cursor → Got Node) (n : ℕ) (c : Cursor) → some_item (items_from f n c).value ≡ on n
unfolding some_item items_from on
some_item-on f zero c = refl
some_item-on f (suc n) c = sym (on-suc n)

pub some_pair-on : (f : Cursor → Got Node) (n : ℕ) (c : Cursor) → some_pair (pairs_from f n c).value ≡ on n
unfolding some_pair pairs_from on
some_pair-on f zero c = refl
some_pair-on f (suc n) c = sym (on-suc n)

module _ (deck pool : Bytes) where
  pub block-is : (b : Body) (c : Cursor) → is_block (kind_of deck pool b c) ≡ block_in b
  unfolding is_block kind_of block_in block_group
  block-is Null c = refl
  block-is (Scalar w) c = refl
  block-is (Alias t) c = refl
  block-is (Sequence g) c = rw (some_item-on (tree_at deck pool) g.count c)
  block-is (Mapping g) c = rw (some_pair-on (tree_at deck pool) g.count c)

  pub sequence-is : (b : Body) (c : Cursor) → is_sequence (kind_of deck pool b c) ≡ sequence_in b
  unfolding is_sequence kind_of sequence_in
  sequence-is Null c = refl
  sequence-is (Scalar w) c = refl
  sequence-is (Alias t) c = refl
  sequence-is (Sequence g) c = refl
  sequence-is (Mapping g) c = refl

  pub null_is : (b : Body) (c : Cursor) → is_null (kind_of deck pool b c) ≡ none_in b
  unfolding is_null kind_of none_in
  null_is Null c = refl
  null_is (Scalar w) c = refl
  null_is (Alias t) c = refl
  null_is (Sequence g) c = refl
  null_is (Mapping g) c = refl

  pub empty-is : (b : Body) (c : Cursor) → is_empty_scalar (kind_of deck pool b c) ≡ empty_in pool b
  unfolding is_empty_scalar kind_of empty_in
  empty-is Null c = refl
  empty-is (Scalar w) c = refl
  empty-is (Alias t) c = refl
  empty-is (Sequence g) c = refl
  empty-is (Mapping g) c = refl

-- ---- comments, includes, keys

unfoldable pub needs_in : Lines → Body → Bool
needs_in l Null = false
needs_in l (Scalar w) = marked l.marks 16 || is_block_style w.style
needs_in l (Alias t) = marked l.marks 16
needs_in l (Sequence g) = block_group g
needs_in l (Mapping g) = block_group g

unfoldable pub explicit_in : Bool → Lead → Body → Bool
explicit_in first l b = needs_in l.lines b || (not first && marked l.lines.marks 8 && (there l.tag || there l.anchor))

abbrev pub included_in : Maybe → Bool
included_in o = there o

module _ (deck pool : Bytes) where
  pub comments-is : (x : Spot) → has_comments (node_in deck pool x) ≡ commented x.lead
  unfolding node_in
  comments-is x = comments-are deck pool x.place x.lead _ _

  needs-is : (l : Lead) (b : Body) (c : Cursor) → needs_explicit (kept_of deck pool l) (kind_of deck pool b c) ≡ needs_in l.lines b
  unfolding needs_explicit kind_of kept_of layout_of needs_in
  needs-is l Null c = refl
  needs-is l (Scalar w) c = refl
  needs-is l (Alias t) c = refl
  needs-is l (Sequence g) c = unfold block_in in block-is deck pool (Sequence g) c
  needs-is l (Mapping g) c = unfold block_in in block-is deck pool (Mapping g) c

  pub explicit-is : (first : Bool) (x : Spot) → is_explicit first (node_in deck pool x) ≡ explicit_in first x.lead x.body
  unfolding is_explicit node_in explicit_in
  explicit-is first x = rw (needs-is, has-props-is) (unfold kept_of layout_of in refl)

  origin-some : (o : Maybe) → is_some (origin_of deck pool o) ≡ there o
  unfolding origin_of is_some
  origin-some None = refl
  origin-some (Some c) = refl

  pub included-is : (l : Lead) → included (kept_of deck pool l) ≡ included_in l.origin
  unfolding included kept_of
  included-is l = origin-some l.origin

-- ---- what is written of a null, and the columns

-- a null that was edited in
unfoldable pub edited_in : Lines → Body → Bool
edited_in l b = marked l.marks 8 && none_in b

unfoldable pub bare_in : Settings → Bytes → Lines → Maybe → Body → Bool
bare_in s pool l m b = empty_in pool b && not (there m) && (not (edited_in l b) || is_empty_style s.null_style)

-- a sequence stands at its key's column
unfoldable pub flush_in : Settings → Lines → Maybe → ℕ → Bool
flush_in s l tag i = when s.indent_sequences then s.indentless && not (there tag) else leb l.column i

unfoldable pub value_column_in : Settings → Lines → Maybe → ℕ → Body → ℕ
value_column_in s l tag i b = when sequence_in b && flush_in s l tag i then i else i + step_of s

unfoldable pub item_column_in : Settings → Maybe → Maybe → ℕ → Body → ℕ
item_column_in s tag anchor i b = when (there tag || there anchor) && not (sequence_in b) then i + step_of s else i + 2

unfoldable pub on_dash_line_in : Lines → Maybe → Maybe → Maybe → Body → Bool
on_dash_line_in l tag anchor m b =
    not (there tag || there anchor) && (when sequence_in b then marked l.marks 4 else not (there m || marked l.marks 2))

unfoldable pub root_column_in : Settings → Lines → Maybe → Body → ℕ
root_column_in s l tag b = when marked l.marks 8 && there tag && not (sequence_in b && s.indentless) then step_of s else 0

unfoldable pub bare_root_in : Settings → Lines → Maybe → Maybe → Maybe → Body → Bool
bare_root_in s l m tag anchor b =
    none_in b && marked l.marks 8 && there tag && not (there m) && not (there anchor) && is_empty_style s.null_style

module _ (s : Settings) (deck pool : Bytes) (l : Lead) where
  pub bare-is : (b : Body) (c : Cursor) → bare s (kept_of deck pool l) (kind_of deck pool b c) ≡ bare_in s pool l.lines l.remark b
  unfolding bare kept_of layout_of bare_in edited_in
  bare-is b c = rw (empty-is deck pool b c, null_is deck pool b c, remark-some)

  pub value-column-is : (i : ℕ) (b : Body) (c : Cursor) → value_column s (kept_of deck pool l) (brought_of deck pool l) i (kind_of deck pool b c) ≡ value_column_in s l.lines l.tag i b
  unfolding value_column kept_of brought_of layout_of value_column_in flush_in
  value-column-is i b c = rw (sequence-is deck pool b c, held-some) (go (sequence_in b) s.indent_sequences (s.indentless && not (there l.tag)) (leb l.lines.column i))
    where
      go :
          (q d f g : Bool) →
          (when not q then i + step_of s else when d then (when f then i else i + step_of s) else when g then i else i + step_of s)
          ≡ (when q && (when d then f else g) then i else i + step_of s)
      go true true f g = refl
      go true false f g = refl
      go false d f g = refl

  pub item-column-is : (i : ℕ) (b : Body) (c : Cursor) → item_column s (brought_of deck pool l) i (kind_of deck pool b c) ≡ item_column_in s l.tag l.anchor i b
  unfolding item_column item_column_in
  item-column-is i b c = rw (sequence-is deck pool b c, has-props-is)

  pub on-dash-line-is : (b : Body) (c : Cursor) → on_dash_line (kept_of deck pool l) (brought_of deck pool l) (kind_of deck pool b c) ≡ on_dash_line_in l.lines l.tag l.anchor l.remark b
  unfolding on_dash_line kept_of layout_of on_dash_line_in
  on-dash-line-is b c = rw (sequence-is deck pool b c, has-props-is, remark-some)

  pub root-column-is : (b : Body) (c : Cursor) → root_column s (kept_of deck pool l) (brought_of deck pool l) (kind_of deck pool b c) ≡ root_column_in s l.lines l.tag b
  unfolding root_column kept_of brought_of layout_of root_column_in
  root-column-is b c = rw (sequence-is deck pool b c, held-some)

  pub bare-root-is : (b : Body) (c : Cursor) → bare_root s (kept_of deck pool l) (brought_of deck pool l) (kind_of deck pool b c) ≡ bare_root_in s l.lines l.remark l.tag l.anchor b
  unfolding bare_root kept_of brought_of layout_of bare_root_in
  bare-root-is b c = rw (null_is deck pool b c, held-some, held-some, remark-some)
