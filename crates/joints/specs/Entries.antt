-- The entries of a flow collection, items or pairs, by the cursors where they stand; and that this is the walk over the collection's tree.
use Rattle.std.specs.Prelude.{◌≡◌, Bool}
use Rattle.std.proofs.Math.Path.{refl, ap}
use Rattle.std.proofs.Common.{◌∙◌}
use Prim.Native.Nat.{ℕ, zero, suc, ◌+◌}
use Rattle.std.proofs.Math.Bool.{true, false}
use Rattle.std.proofs.Math.Option.{Option}
use Rattle.definition.specs.Base.{Bytes, when◌then◌else◌}
use Rattle.definition.specs.Ascii.{SP, COMMA, '[', ']', OPEN, CLOSE}
use Rattle.definition.specs.Settings.{step_of}
use Rattle.definition.specs.Tree.{Inline, Kept, Brought, Node, sequence, mapping, place, kept, brought}
use Rattle.definition.specs.Pen.{Script, comment, comma, ◌>>◌, nothing, newline, indent, sign}
use Rattle.definition.specs.Walk.{heads, props, inline_key, some_item, some_pair, any_comments, any_comments_in, content, content_of, flow_items, flow_pairs, lined_items, lined_pairs}
use Rattle.definition.specs.declared.Cursor.{Cursor}
use Rattle.definition.specs.declared.Form.{Form}
use Rattle.definition.specs.declared.Settings.{Settings}
use Rattle.node.specs.Total.{items_from, pairs_from, tree_at}
use Rattle.pen.specs.Pen.{Pen, puts, ink}

unfoldable pub is_none : ℕ → Bool
is_none zero = true
is_none (suc n) = false

unfoldable pub opening : Bool → ℕ
opening true = OPEN
opening false = '['

unfoldable pub closing : Bool → ℕ
closing true = CLOSE
closing false = ']'

-- what stands after an entry on a line of its own, the last one or not: the place and the inline comment of its last node
unfoldable pub lined_after : Bool → ℕ → Option Inline → Script
lined_after last p m = (when last then nothing else sign COMMA) >> comment p m >> newline

module _ (deck pool : Bytes) where
  abbrev pub node_at : Cursor → Node
  node_at c = (tree_at deck pool c).value

  abbrev pub next_at : Cursor → Cursor
  next_at c = (tree_at deck pool c).next

  -- the node of an entry after its key, if it has one; and the cursor after an entry
  unfoldable pub last_of : Bool → Cursor → Cursor
  last_of true c = next_at c
  last_of false c = c

  unfoldable pub entry_end : Bool → Cursor → Cursor
  entry_end pairs c = next_at (last_of pairs c)

  unfoldable pub run_end : Bool → ℕ → Cursor → Cursor
  run_end pairs zero c = c
  run_end pairs (suc n) c = run_end pairs n (entry_end pairs c)

  unfoldable pub some_comments : Bool → ℕ → Cursor → Bool
  some_comments true n c = any_comments_in (pairs_from (tree_at deck pool) n c).value
  some_comments false n c = any_comments (items_from (tree_at deck pool) n c).value

  -- what stands before an entry on a line of its own: the head comments of a pair's key, those of its value or of the item, and the indent
  unfoldable pub key_heads : ℕ → Bool → Cursor → Script
  key_heads i true c = heads (kept (node_at c)) i
  key_heads i false c = nothing

  unfoldable pub lined_before : ℕ → Bool → Cursor → Kept → Script
  lined_before i pairs c a = key_heads i pairs c >> heads a i >> indent i

  module _ (s : Settings) (flow key : Bool) where
    -- a node with its properties, and a key
    unfoldable pub item_of : ℕ → Node → Script
    item_of i x = props (brought x) >> content s flow key i x

    unfoldable pub key_of : ℕ → Node → Script
    key_of i k = inline_key k (content s flow true i k)

    -- an entry: the key of a pair and a space, then the item or the value
    unfoldable pub entry_key : ℕ → Bool → Cursor → Script
    entry_key i true c = key_of i (node_at c) >> sign SP
    entry_key i false c = nothing

    unfoldable pub entry_of : ℕ → Bool → Cursor → Script
    entry_of i pairs c = entry_key i pairs c >> item_of i (node_at (last_of pairs c))

    -- n entries on one line
    unfoldable pub flow_run : ℕ → Bool → Bool → ℕ → Cursor → Script
    flow_run i pairs first zero c = nothing
    flow_run i pairs first (suc n) c = (when first then nothing else comma key i) >> entry_of i pairs c >> flow_run i pairs false n (entry_end pairs c)

    unfoldable pub lined_of : ℕ → Bool → Bool → Cursor → Script
    lined_of i pairs last c = lined_before i pairs c (kept (node_at (last_of pairs c))) >> entry_of i pairs c >> lined_after last (place (node_at (last_of pairs c))) (kept (node_at (last_of pairs c))).inline

    -- n entries on lines of their own
    unfoldable pub lined_run : ℕ → Bool → ℕ → Cursor → Script
    lined_run i pairs zero c = nothing
    lined_run i pairs (suc n) c = lined_of i pairs (is_none n) c >> lined_run i pairs n (entry_end pairs c)

  -- a flow collection, its entries on lines of their own at column j, or on one line
  unfoldable pub lined_in : Settings → Bool → Bool → ℕ → ℕ → Bool → ℕ → Cursor → Script
  lined_in s flow key i j pairs n c = sign (opening pairs) >> newline >> lined_run s flow key j pairs n c >> indent i >> sign (closing pairs)

  unfoldable pub plain_in : Settings → Bool → Bool → ℕ → Bool → ℕ → Cursor → Script
  plain_in s flow key i pairs n c = sign (opening pairs) >> flow_run s flow key i pairs true n c >> sign (closing pairs)

  unfoldable pub group_of : Settings → Bool → Bool → ℕ → Bool → ℕ → Cursor → Script
  group_of s flow key i pairs n c = when some_comments pairs n c then lined_in s flow key i (i + step_of s) pairs n c else plain_in s flow key i pairs n c

  -- ---- the walk over the tree

  module _ (s : Settings) (key : Bool) where
    flow-items : (i : ℕ) (first : Bool) (n : ℕ) (c : Cursor) (p : Pen) → ink s (flow_items s key i first (items_from (tree_at deck pool) n c).value) p ≡ ink s (flow_run s true key i false first n c) p
    unfolding ink flow_items items_from flow_run entry_of entry_key item_of entry_end last_of nothing puts
    flow-items i first zero c p = refl
    flow-items i first (suc n) c p = flow-items i false n (next_at c) _

    flow-pairs : (i : ℕ) (first : Bool) (n : ℕ) (c : Cursor) (p : Pen) → ink s (flow_pairs s key i first (pairs_from (tree_at deck pool) n c).value) p ≡ ink s (flow_run s true key i true first n c) p
    unfolding ink flow_pairs pairs_from flow_run entry_of entry_key item_of key_of entry_end last_of nothing puts
    flow-pairs i first zero c p = refl
    flow-pairs i first (suc n) c p = flow-pairs i false n (next_at (next_at c)) _

    some_item-ink : (n : ℕ) (c : Cursor) (a : Script) (p : Pen) → ink s (when some_item (items_from (tree_at deck pool) n c).value then a else nothing) p ≡ ink s (when is_none n then nothing else a) p
    unfolding items_from some_item is_none
    some_item-ink zero c a p = refl
    some_item-ink (suc n) c a p = refl

    some_pair-ink : (n : ℕ) (c : Cursor) (a : Script) (p : Pen) → ink s (when some_pair (pairs_from (tree_at deck pool) n c).value then a else nothing) p ≡ ink s (when is_none n then nothing else a) p
    unfolding pairs_from some_pair is_none
    some_pair-ink zero c a p = refl
    some_pair-ink (suc n) c a p = refl

    lined-items : (i n : ℕ) (c : Cursor) (p : Pen) → ink s (lined_items s key i (items_from (tree_at deck pool) n c).value) p ≡ ink s (lined_run s true key i false n c) p
    unfolding ink lined_items items_from lined_run lined_of lined_before key_heads lined_after entry_of entry_key item_of entry_end last_of nothing puts
    lined-items i zero c p = refl
    lined-items i (suc n) c p =
        ap (λ (q : Pen). ink s (lined_items s key i (items_from (tree_at deck pool) n (next_at c)).value) (ink s (comment (place (node_at c)) (kept (node_at c)).inline >> newline) q)) (some_item-ink n (next_at c) (sign COMMA) _)
        ∙ lined-items i n (next_at c) _

    lined-pairs : (i n : ℕ) (c : Cursor) (p : Pen) → ink s (lined_pairs s key i (pairs_from (tree_at deck pool) n c).value) p ≡ ink s (lined_run s true key i true n c) p
    unfolding ink lined_pairs pairs_from lined_run lined_of lined_before key_heads lined_after entry_of entry_key item_of key_of entry_end last_of nothing puts
    lined-pairs i zero c p = refl
    lined-pairs i (suc n) c p =
        ap (λ (q : Pen). ink s (lined_pairs s key i (pairs_from (tree_at deck pool) n (next_at (next_at c))).value) (ink s (comment (place (node_at (next_at c))) (kept (node_at (next_at c))).inline >> newline) q)) (some_pair-ink n (next_at (next_at c)) (sign COMMA) _)
        ∙ lined-pairs i n (next_at (next_at c)) _

    pub group-items : (flow : Bool) (i m : ℕ) (a : Kept) (b : Brought) (f : Form) (n : ℕ) (c : Cursor) (p : Pen) → ink s (content_of s flow key i m a b (sequence f (items_from (tree_at deck pool) n c).value)) p ≡ ink s (group_of s true key i false n c) p
    unfolding ink content_of group_of lined_in plain_in some_comments opening closing
    group-items flow i m a b f n c p = go (any_comments (items_from (tree_at deck pool) n c).value)
      where
        go :
            (t : Bool) →
            ink s (when t then sign '[' >> newline >> lined_items s key (i + step_of s) (items_from (tree_at deck pool) n c).value >> indent i >> sign ']' else (sign '[' >> flow_items s key i true (items_from (tree_at deck pool) n c).value >> sign ']')) p
            ≡ ink s (when t then lined_in s true key i (i + step_of s) false n c else plain_in s true key i false n c) p
        go true = ap (λ (q : Pen). ink s (indent i >> sign ']') q) (lined-items (i + step_of s) n c _)
        go false = ap (λ (q : Pen). ink s (sign ']') q) (flow-items i true n c _)

    pub group-pairs : (flow : Bool) (i m : ℕ) (a : Kept) (b : Brought) (f : Form) (n : ℕ) (c : Cursor) (p : Pen) → ink s (content_of s flow key i m a b (mapping f (pairs_from (tree_at deck pool) n c).value)) p ≡ ink s (group_of s true key i true n c) p
    unfolding ink content_of group_of lined_in plain_in some_comments opening closing
    group-pairs flow i m a b f n c p = go (any_comments_in (pairs_from (tree_at deck pool) n c).value)
      where
        go :
            (t : Bool) →
            ink s (when t then sign OPEN >> newline >> lined_pairs s key (i + step_of s) (pairs_from (tree_at deck pool) n c).value >> indent i >> sign CLOSE else (sign OPEN >> flow_pairs s key i true (pairs_from (tree_at deck pool) n c).value >> sign CLOSE)) p
            ≡ ink s (when t then lined_in s true key i (i + step_of s) true n c else plain_in s true key i true n c) p
        go true = ap (λ (q : Pen). ink s (indent i >> sign CLOSE) q) (lined-pairs (i + step_of s) n c _)
        go false = ap (λ (q : Pen). ink s (sign CLOSE) q) (flow-pairs i true n c _)

  pub items-end : (n : ℕ) (c : Cursor) → (items_from (tree_at deck pool) n c).next ≡ run_end false n c
  unfolding items_from run_end entry_end last_of
  items-end zero c = refl
  items-end (suc n) c = items-end n (next_at c)

  pub pairs_end : (n : ℕ) (c : Cursor) → (pairs_from (tree_at deck pool) n c).next ≡ run_end true n c
  unfolding pairs_from run_end entry_end last_of
  pairs_end zero c = refl
  pairs_end (suc n) c = pairs_end n (next_at (next_at c))
