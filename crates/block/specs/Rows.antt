-- The members of a block collection, items or pairs, by the cursors where they stand; and that this is the walk over the collection's tree.
use Rattle.std.specs.Prelude.{◌≡◌, Bool}
use Rattle.std.proofs.Math.Path.{refl}
use Prim.Native.Nat.{ℕ, zero, suc, ◌+◌}
use Rattle.std.proofs.Math.Bool.{true, false}
use Rattle.definition.specs.Base.{Bytes, when◌then◌else◌}
use Rattle.definition.specs.Ascii.{'?', ':'}
use Rattle.definition.specs.Tree.{Node, kept}
use Rattle.definition.specs.Pen.{Script, ◌>>◌, nothing, indent, sign}
use Rattle.definition.specs.Walk.{foots, is_explicit, inline_key, content, dash_compact, item_column, on_dash_line, value, dash, key_below, members, block_items, block_pairs}
use Rattle.definition.specs.declared.Cursor.{Cursor}
use Rattle.definition.specs.declared.Settings.{Settings}
use Rattle.node.specs.Total.{items_from, pairs_from, tree_at}
use Rattle.pen.specs.Pen.{Pen, ink}
use Rattle.pen.specs.Draws.{Draws}
use Rattle.parts.specs.Lines.{heads_over, before, colon_open, dash_open}
use Rattle.spot.specs.declared.Spot.{Spot}
use Rattle.spot.specs.Spot.{kept_in, brought_in, kind_in}
use Rattle.joints.specs.Entries.{node_at, next_at, last_of, entry_end}

module _ (s : Settings) where
  -- a key with its colon: after `?`, or inline
  unfoldable pub explicit_key : ℕ → Node → Script
  explicit_key i k = sign '?' >> key_below s i k >> indent i >> sign ':'

  unfoldable pub key_part : ℕ → Bool → Node → Script
  key_part i first k = when is_explicit first k then explicit_key i k else inline_key k (content s false true i k)

  module _ (deck pool : Bytes) where
    -- an item, and a pair, with what stands before it unless its line is begun already
    unfoldable pub item_row : ℕ → Bool → Cursor → Script
    item_row i lead c = (when lead then before false (kept (node_at deck pool c)) i else nothing) >> dash s i (node_at deck pool c)

    unfoldable pub pair_row : ℕ → Bool → Bool → Cursor → Script
    pair_row i lead first c = (when lead then before true (kept (node_at deck pool c)) i else nothing) >> key_part i first (node_at deck pool c) >> value s i (node_at deck pool (next_at deck pool c))

    unfoldable pub row_of : ℕ → Bool → Bool → Bool → Cursor → Script
    row_of i true lead first c = pair_row i lead first c
    row_of i false lead first c = item_row i lead c

    -- n of them
    unfoldable pub rows : ℕ → Bool → Bool → Bool → ℕ → Cursor → Script
    rows i pairs lead first zero c = nothing
    rows i pairs lead first (suc n) c = row_of i pairs lead first c >> rows i pairs true false n (entry_end deck pool pairs c)

    -- ---- the walk over the tree

    pub rows-items : (i : ℕ) (lead first : Bool) (n : ℕ) (c : Cursor) (p : Pen) → ink s (block_items s i lead (items_from (tree_at deck pool) n c).value) p ≡ ink s (rows i false lead first n c) p
    unfolding ink block_items items_from rows row_of item_row entry_end last_of before heads_over
    rows-items i lead first zero c p = refl
    rows-items i lead first (suc n) c p = rows-items i true false n (next_at deck pool c) _

    pub rows-pairs : (i : ℕ) (lead first : Bool) (n : ℕ) (c : Cursor) (p : Pen) → ink s (block_pairs s i lead first (pairs_from (tree_at deck pool) n c).value) p ≡ ink s (rows i true lead first n c) p
    unfolding ink block_pairs pairs_from rows row_of pair_row key_part explicit_key entry_end last_of before heads_over
    rows-pairs i lead first zero c p = refl
    rows-pairs i lead first (suc n) c p = rows-pairs i true false n (next_at deck pool (next_at deck pool c)) _

module _ (deck pool : Bytes) where
  -- a block collection below its introducer: what stands before its members, and the whole with its foot comments at column k
  unfoldable pub opening_of : Bool → Spot → ℕ → Script
  opening_of true x j = dash_open x.place (kept_in deck pool x) (brought_in deck pool x) j
  opening_of false x j = colon_open x.place (kept_in deck pool x) (brought_in deck pool x) j

  -- the foot comments of a node, after what was emitted of it
  pub record Footed (x : Spot) (k : ℕ) (P P' : Pen) (c c' : Cursor) : Type 0 where
    pub drawn : Draws (foots (kept_in deck pool x) k) P P'
    pub next : c' ≡ c

module _ (s : Settings) (deck pool : Bytes) where
  unfoldable pub under_of : Bool → Spot → ℕ → ℕ → Script
  under_of dashed x j k = opening_of deck pool dashed x j >> members s j true (kind_in deck pool x) >> foots (kept_in deck pool x) k

  -- a block collection after a dash at column i
  unfoldable pub dash_in : ℕ → Spot → Script
  dash_in i x =
      when on_dash_line (kept_in deck pool x) (brought_in deck pool x) (kind_in deck pool x) then dash_compact (kept_in deck pool x) (i + 2) (members s (i + 2) false (kind_in deck pool x))
      else under_of true x (item_column s (brought_in deck pool x) i (kind_in deck pool x)) (i + 2)

-- the colon of an explicit key
pub record Coloned (i : ℕ) (P P' : Pen) (c c' : Cursor) : Type 0 where
  pub drawn : Draws (indent i >> sign ':') P P'
  pub next : c' ≡ c
