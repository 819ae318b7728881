-- The changed files of the nodes that stand one after another in a deck: each node's own, and then those of its children.
use Rattle.std.specs.Prelude.{◌≡◌, Bool, true, false, length}
use Rattle.std.proofs.Math.Path.{refl, ap}
use Rattle.std.proofs.Common.{◌∙◌, le-leb}
use Prim.Native.Nat.{ℕ, zero, suc, ◌+◌, ◌<◌, ◌≤◌}
use mathlib.Core.List.{List, [], ◌∷◌, ◌++◌}
use Rattle.std.proofs.Math.Option.{Option, none, some}
use Rattle.std.proofs.lemmas.Bool.{lt-leb}
use Rattle.definition.specs.Base.{Bytes, when◌then◌else◌}
use Rattle.definition.specs.Records.{include_at}
use Rattle.definition.specs.Tree.{Source, Node, kept}
use Rattle.definition.specs.Deck.{file_of, source_of}
use Rattle.definition.specs.Document.{emit_file}
use Rattle.definition.specs.Change.{Boundary, Written, written_of, with_id, own_boundary, boundaries, boundaries_in, boundaries_items, boundaries_pairs, boundaries_all, changed, local_modified}
use Rattle.definition.specs.declared.Cursor.{Cursor}
use Rattle.definition.specs.Records.{File}
use Rattle.std.specs.Prelude.{None, Some}
use Rattle.deck.specs.Kids.{twice}
use Rattle.node.specs.Head.{Maybe}
use Rattle.node.specs.Fuel.{nexts}
use Rattle.node.specs.Total.{kept_of, origin_of, items_from, pairs_from, tree_at, trees_from, trees_of}
use Rattle.spot.specs.declared.Body.{Body}
use Rattle.spot.specs.declared.Body.TheVariants.{Null, Scalar, Alias, Sequence, Mapping}
use Rattle.spot.specs.declared.Spot.{Spot}
use Rattle.spot.specs.Spot.{spot_at, kind_of, node_in, tree-value}
use Rattle.modified.specs.declared.Own.{Own}
use Rattle.modified.specs.declared.Counted.{Counted}
use Rattle.modified.specs.Local.{kids_in, After}

-- ---- a node's own file

unfoldable pub id_in : Option ℕ → File
id_in none = None
id_in (some i) = Some i

unfoldable pub file_in : Option Source → File
file_in none = None
file_in (some r) = id_in r.file

-- the id of the file that a node is, if it is one and changed
unfoldable pub changed_file : Node → File
changed_file n = when local_modified n then file_in (kept n).source else None

unfoldable pub file_at : Bytes → Bytes → Cursor → File
file_at deck pool c = changed_file (tree_at deck pool c).value

-- what is handed back of it
unfoldable pub entry : File → Node → List Written
entry None n = []
entry (Some i) n = record { id = i; bytes = emit_file n } ∷ []

own-id : (n : Node) (f : Option ℕ) (bs : List Boundary) → changed (with_id f n ++ bs) ≡ entry (when local_modified n then id_in f else None) n ++ changed bs
unfolding with_id changed written_of entry id_in
own-id n none bs = go (local_modified n)
  where
    go : (b : Bool) → changed bs ≡ entry (when b then None else None) n ++ changed bs
    go true = refl
    go false = refl
own-id n (some i) bs = go (local_modified n)
  where
    go : (b : Bool) → (when b then record { id = i; bytes = emit_file n } ∷ changed bs else changed bs) ≡ entry (when b then Some i else None) n ++ changed bs
    go true = refl
    go false = refl

own-source : (n : Node) (r : Option Source) (bs : List Boundary) → changed (own_boundary r n ++ bs) ≡ entry (when local_modified n then file_in r else None) n ++ changed bs
unfolding own_boundary file_in
own-source n none bs = unfold with_id id_in in own-id n none bs
own-source n (some r) bs = own-id n r.file bs

-- the changed ones of a node's own boundary and of others: its file, if it changed, and those of the others
pub own-changed : (n : Node) (bs : List Boundary) → changed (own_boundary (kept n).source n ++ bs) ≡ entry (changed_file n) n ++ changed bs
unfolding changed_file
own-changed n bs = own-source n (kept n).source bs

-- the file of an include that may be absent
unfoldable pub file_named : Bytes → Maybe → File
file_named deck None = None
file_named deck (Some c) = (include_at deck c.at).file

id-is : (f : File) → id_in (file_of f) ≡ f
unfolding id_in file_of
id-is None = refl
id-is (Some i) = refl

named-is : (deck pool : Bytes) (o : Maybe) → file_in (origin_of deck pool o) ≡ file_named deck o
unfolding file_named origin_of source_of file_in
named-is deck pool None = refl
named-is deck pool (Some c) = id-is (include_at deck c.at).file

-- the file of the node at a cursor, by its head
pub file-is :
    (deck pool : Bytes) (c : Cursor) → c.at ≤ length deck →
    file_at deck pool c ≡ (when local_modified (tree_at deck pool c).value then file_named deck (spot_at deck c).lead.origin else None)
unfolding file_at changed_file node_in kept kept_of
file-is deck pool c k = rw (tree-value deck pool c k, named-is deck pool (spot_at deck c).lead.origin)

-- ---- the files below

pub changed-append : (xs ys : List Boundary) → changed (xs ++ ys) ≡ changed xs ++ changed ys
unfolding changed
changed-append [] ys = refl
changed-append (x ∷ xs) ys = rw (changed-append xs ys) (go (local_modified x.node))
  where
    go : (b : Bool) → (when b then written_of x ∷ (changed xs ++ changed ys) else (changed xs ++ changed ys)) ≡ (when b then written_of x ∷ changed xs else changed xs) ++ changed ys
    go true = refl
    go false = refl

module _ (deck pool : Bytes) where
  -- the changed files at and below n nodes that stand one after another
  unfoldable pub changed_from : ℕ → Cursor → List Written
  changed_from zero c = []
  changed_from (suc n) c = changed (boundaries (tree_at deck pool c).value) ++ changed_from n (tree_at deck pool c).next

  changed-items : (n : ℕ) (c : Cursor) → changed (boundaries_items (items_from (tree_at deck pool) n c).value) ≡ changed_from n c
  unfolding changed boundaries_items items_from changed_from
  changed-items zero c = refl
  changed-items (suc n) c = changed-append (boundaries (tree_at deck pool c).value) _ ∙ ap (λ (ws : List Written). changed (boundaries (tree_at deck pool c).value) ++ ws) (changed-items n (tree_at deck pool c).next)

  changed-pairs : (n : ℕ) (c : Cursor) → changed (boundaries_pairs (pairs_from (tree_at deck pool) n c).value) ≡ changed_from (twice n) c
  unfolding changed boundaries_pairs pairs_from changed_from twice
  changed-pairs zero c = refl
  changed-pairs (suc n) c =
      let d = (tree_at deck pool c).next in
      changed-append (boundaries (tree_at deck pool c).value) _
      ∙ ap (λ (ws : List Written). changed (boundaries (tree_at deck pool c).value) ++ ws)
      (changed-append (boundaries (tree_at deck pool d).value) _
      ∙ ap (λ (ws : List Written). changed (boundaries (tree_at deck pool d).value) ++ ws) (changed-pairs n (tree_at deck pool d).next))

  changed-in : (b : Body) (c : Cursor) → changed (boundaries_in (kind_of deck pool b c)) ≡ changed_from (kids_in b) c
  unfolding changed boundaries_in kind_of changed_from kids_in
  changed-in Null c = refl
  changed-in (Scalar w) c = refl
  changed-in (Alias t) c = refl
  changed-in (Sequence g) c = changed-items g.count c
  changed-in (Mapping g) c = changed-pairs g.count c

  changed-node : (x : Spot) → changed (boundaries (node_in deck pool x)) ≡ entry (changed_file (node_in deck pool x)) (node_in deck pool x) ++ changed_from (kids_in x.body) x.next
  unfolding boundaries node_in kept
  changed-node x =
      own-changed (node_in deck pool x) (boundaries_in (kind_of deck pool x.body x.next))
      ∙ ap (λ (ws : List Written). entry (changed_file (node_in deck pool x)) (node_in deck pool x) ++ ws) (changed-in x.body x.next)

  -- the changed files at and below a node: its own, and those of its children
  pub changed-at :
      (c : Cursor) → c.at ≤ length deck →
      changed (boundaries (tree_at deck pool c).value) ≡ entry (file_at deck pool c) (tree_at deck pool c).value ++ changed_from (kids_in (spot_at deck c).body) (spot_at deck c).next
  unfolding file_at
  changed-at c k = rw (tree-value deck pool c k) (changed-node (spot_at deck c))

  -- the changed files of n documents at most, up to the deck's end
  unfoldable pub changed_up_to : ℕ → Cursor → List Written
  changed_up_to n c = changed (boundaries_all (trees_from deck pool n c))

  pub changed-end : (n : ℕ) (c : Cursor) → length deck ≤ c.at → changed_up_to n c ≡ []
  unfolding changed_up_to changed boundaries_all trees_from
  changed-end zero c h = refl
  changed-end (suc n) c h = rw (le-leb _ _ h)

  pub changed-none : (c : Cursor) → changed_up_to 0 c ≡ []
  unfolding changed_up_to changed boundaries_all trees_from
  changed-none c = refl

  pub changed-more : (n : ℕ) (c : Cursor) → c.at < length deck → changed_up_to (suc n) c ≡ changed (boundaries (tree_at deck pool c).value) ++ changed_up_to n (tree_at deck pool c).next
  unfolding changed_up_to boundaries_all trees_from
  changed-more n c h = rw (lt-leb _ _ h) (changed-append (boundaries (tree_at deck pool c).value) _)

  pub changed-all : changed_up_to (length deck) (record { at = 0 }) ≡ changed (boundaries_all (trees_of deck pool))
  unfolding changed_up_to trees_of
  changed-all = refl

-- ---- how many

unfoldable pub tally : File → ℕ
tally None = 0
tally (Some i) = 1

pub entry_length : (f : File) (n : Node) → length (entry f n) ≡ tally f
unfolding entry tally
entry_length None n = refl
entry_length (Some i) n = refl

-- ---- what is promised, with any pool

-- the id of the file that the node at a cursor is, if it is one and changed
pub record Files (deck : Bytes) (c : Cursor) (r : File) : Type 0 where
  pub told : (pool : Bytes) → r ≡ file_at deck pool c

-- the changed files at a node, and the children that are left to look at
pub record Owns (deck : Bytes) (c : Cursor) (r : Own) : Type 0 where
  pub told : (pool : Bytes) → length (changed (boundaries (tree_at deck pool c).value)) ≡ r.count + length (changed_from deck pool r.kids r.next)
  pub ends : (pool : Bytes) → (tree_at deck pool c).next ≡ nexts (λ d. (tree_at deck pool d).next) r.kids r.next
  pub after : After deck c r.kids r.next
  pub few : c.at + r.count ≤ r.next.at

-- the changed files at and below a node, and where it ends; they are no more than its bytes
pub record Counts (deck : Bytes) (c : Cursor) (r : Counted) : Type 0 where
  pub told : (pool : Bytes) → r.count ≡ length (changed (boundaries (tree_at deck pool c).value))
  pub ends : (pool : Bytes) → r.next ≡ (tree_at deck pool c).next
  pub few : c.at + r.count ≤ r.next.at
  pub within : r.next.at ≤ length deck

-- the changed files of a deck
pub record CountsAll (deck : Bytes) (n : ℕ) : Type 0 where
  pub told : (pool : Bytes) → n ≡ length (changed (boundaries_all (trees_of deck pool)))
  pub few : n ≤ length deck
