-- The changed test over the nodes that stand one after another in a deck. An included item or value is not looked into: it is a file of its
-- own. An included key is looked into.
use Rattle.std.specs.Prelude.{◌≡◌, Bool, not, ◌&&◌, ◌||◌, length, Option, None, Some, is_some, IfSome}
use Rattle.std.proofs.Math.Path.{refl, ap}
use Rattle.std.proofs.Common.{◌∙◌, arith}
use Prim.Native.Nat.{ℕ, zero, suc, ◌<◌, ◌≤◌}
use Rattle.std.proofs.Math.Bool.{true, false}
use Rattle.definition.specs.Base.{Bytes}
use Rattle.definition.specs.Tree.{Node, kept}
use Rattle.definition.specs.Deck.{marked}
use Rattle.definition.specs.Walk.{included}
use Rattle.definition.specs.Change.{local_modified, local_in, local_items, local_pairs}
use Rattle.definition.specs.declared.Cursor.{Cursor}
use Rattle.definition.specs.declared.Record.{Record}
use Rattle.definition.specs.declared.Record.TheVariants as is
use Rattle.deck.specs.Kids.{twice, kids_of}
use Rattle.node.specs.Head.{head_at}
use Rattle.node.specs.Total.{brought_of, items_from, pairs_from, tree_at}
use Rattle.node.specs.Fuel.{nexts, head-at-onward, tree-next}
use Rattle.spot.specs.declared.Body.{Body}
use Rattle.spot.specs.declared.Body.TheVariants.{Null, Scalar, Alias, Sequence, Mapping}
use Rattle.spot.specs.declared.Spot.{Spot}
use Rattle.spot.specs.Spot.{pairs_in, body_of, spot_of, spot_at, kind_of, node_in}
use Rattle.modified.specs.declared.Start.{Start}

-- ---- the children of a node

-- a pair is two nodes
unfoldable pub kids_in : Body → ℕ
kids_in Null = 0
kids_in (Scalar w) = 0
kids_in (Alias t) = 0
kids_in (Sequence g) = g.count
kids_in (Mapping g) = twice g.count

kids-is : (r : Record) → kids_of r ≡ kids_in (body_of r)
unfolding kids_of kids_in body_of
kids-is (is.Tag t) = refl
kids-is (is.Anchor t) = refl
kids-is (is.Source i) = refl
kids-is (is.Head h) = refl
kids-is (is.Inline t) = refl
kids-is (is.Foot t) = refl
kids-is (is.Raw t) = refl
kids-is (is.Directive t) = refl
kids-is (is.Layout l) = refl
kids-is is.Null = refl
kids-is (is.Scalar w) = refl
kids-is (is.Alias t) = refl
kids-is (is.Sequence g) = refl
kids-is (is.Mapping g) = refl

-- they stand after the node, within the deck
pub record After (deck : Bytes) (c : Cursor) (n : ℕ) (e : Cursor) : Type 0 where
  pub onward : c.at ≤ e.at
  pub within : e.at ≤ length deck
  pub deeper : 0 < n → c.at < e.at

pub kids-after : (deck : Bytes) (c : Cursor) → c.at ≤ length deck → After deck c (kids_in (spot_at deck c).body) (spot_at deck c).next
unfolding spot_at spot_of
kids-after deck c k =
    let o = head-at-onward deck c k in
    let e = kids-is (head_at deck c).own in
    record {
      onward = omega (arith, o.ahead, o.beyond);
      within = o.within;
      deeper = λ h. let s = o.kids (λ z. absurd (omega (arith, e, h, z))) in omega (arith, o.ahead, s);
    }

-- ---- the changed test

-- of a key, or of an item or a value
unfoldable pub seen : Bool → Node → Bool
seen true n = local_modified n
seen false n = not (included (kept n)) && local_modified n

-- after a key comes a value, and after a value a key; after an item an item
unfoldable pub turned : Bool → Bool → Bool
turned pairs key = pairs && not key

module _ (deck pool : Bytes) where
  -- some of n nodes that stand one after another, items or keys and values in turn
  unfoldable pub some_seen : Bool → Bool → ℕ → Cursor → Bool
  some_seen pairs key zero c = false
  some_seen pairs key (suc n) c = seen key (tree_at deck pool c).value || some_seen pairs (turned pairs key) n (tree_at deck pool c).next

  seen-items : (n : ℕ) (c : Cursor) → local_items (items_from (tree_at deck pool) n c).value ≡ some_seen false false n c
  unfolding local_items items_from some_seen seen turned
  seen-items zero c = refl
  seen-items (suc n) c = rw (seen-items n (tree_at deck pool c).next)

  seen-pairs : (n : ℕ) (c : Cursor) → local_pairs (pairs_from (tree_at deck pool) n c).value ≡ some_seen true true (twice n) c
  unfolding local_pairs pairs_from some_seen seen turned twice
  seen-pairs zero c = refl
  seen-pairs (suc n) c =
      let d = (tree_at deck pool c).next in
      rw (seen-pairs n (tree_at deck pool d).next) (regroup (local_modified (tree_at deck pool c).value) _ _)
    where
      regroup : (x y z : Bool) → ((x || y) || z) ≡ (x || (y || z))
      regroup true y z = refl
      regroup false y z = refl

  local-in : (b : Body) (c : Cursor) → local_in (kind_of deck pool b c) ≡ some_seen (pairs_in b) (pairs_in b) (kids_in b) c
  unfolding local_in kind_of some_seen pairs_in kids_in
  local-in Null c = refl
  local-in (Scalar w) c = refl
  local-in (Alias t) c = refl
  local-in (Sequence g) c = seen-items g.count c
  local-in (Mapping g) c = seen-pairs g.count c

  -- a node changed by its own mark, or by its children
  pub local-is : (x : Spot) → local_modified (node_in deck pool x) ≡ (marked x.lead.lines.marks 1 || some_seen (pairs_in x.body) (pairs_in x.body) (kids_in x.body) x.next)
  unfolding local_modified node_in brought_of
  local-is x = rw (local-in x.body x.next)

  -- it ends where its children end
  pub end_is : (c : Cursor) → c.at ≤ length deck → (tree_at deck pool c).next ≡ nexts (λ d. (tree_at deck pool d).next) (kids_in (spot_at deck c).body) (spot_at deck c).next
  unfolding spot_at spot_of
  end_is c k = tree-next deck pool c k ∙ ap (λ (n : ℕ). nexts (λ d. (tree_at deck pool d).next) n (head_at deck c).next) (kids-is (head_at deck c).own)

-- ---- what is promised, with any pool

-- the children that say whether a node changed, where its own mark does not say that it did
unfoldable pub some_left : Bytes → Bytes → Option Start → Bool
some_left deck pool None = true
some_left deck pool (Some s) = some_seen deck pool s.pairs s.pairs s.kids s.next

-- they make the node's end
pub record Left (deck : Bytes) (c : Cursor) (s : Start) : Type 0 where
  pub ends : (pool : Bytes) → (tree_at deck pool c).next ≡ nexts (λ d. (tree_at deck pool d).next) s.kids s.next
  pub after : After deck c s.kids s.next

pub record Starts (deck : Bytes) (c : Cursor) (key : Bool) (r : Option Start) : Type 0 where
  pub told : (pool : Bytes) → seen key (tree_at deck pool c).value ≡ some_left deck pool r
  pub left : IfSome r (Left deck c)

-- where a node ends
pub record Ended (deck : Bytes) (c e : Cursor) : Type 0 where
  pub ends : (pool : Bytes) → e ≡ (tree_at deck pool c).next
  pub onward : c.at ≤ e.at
  pub within : e.at ≤ length deck

-- the test of a node: where it ends if it did not change
pub record Looks (deck : Bytes) (c : Cursor) (key : Bool) (r : Option Cursor) : Type 0 where
  pub told : (pool : Bytes) → not (is_some r) ≡ seen key (tree_at deck pool c).value
  pub ended : IfSome r (Ended deck c)

-- `local_modified` of the node at a cursor
pub record Changed (deck : Bytes) (c : Cursor) (r : Bool) : Type 0 where
  pub told : (pool : Bytes) → r ≡ local_modified (tree_at deck pool c).value
