-- A node by what the emitter takes of it. The tree at a cursor is such a node, with the trees at its children's cursors.
use Rattle.std.specs.Prelude.{◌≡◌, ℕ, ◌≤◌, Bool, true, false, length}
use Rattle.std.proofs.Math.Path.{refl}
use Rattle.std.proofs.Common.{ap, ◌∙◌}
use Rattle.definition.specs.Base.{Bytes}
use Rattle.definition.specs.Tree.{Kept, Brought, Node, Kind, node, null, scalar, alias, sequence, mapping}
use Rattle.definition.specs.Deck.{words}
use Rattle.definition.specs.declared.Cursor.{Cursor}
use Rattle.definition.specs.declared.Record.{Record}
use Rattle.definition.specs.declared.Record.TheVariants as is
use Rattle.node.specs.Head.{Head, head_at}
use Rattle.node.specs.Total.{Got, kept_of, brought_of, items_from, pairs_from, shape, shape_of, tree_at}
use Rattle.node.specs.Fuel.{tree_is}
use Rattle.spot.specs.declared.Body.{Body}
use Rattle.spot.specs.declared.Body.TheVariants as body
use Rattle.spot.specs.declared.Spot.{Spot}

-- its members are pairs
unfoldable pub pairs_in : Body → Bool
pairs_in body.Null = false
pairs_in (body.Scalar w) = false
pairs_in (body.Alias t) = false
pairs_in (body.Sequence g) = false
pairs_in (body.Mapping g) = true

-- how many members a collection has; a leaf has none
unfoldable pub count_in : Body → ℕ
count_in body.Null = 0
count_in (body.Scalar w) = 0
count_in (body.Alias t) = 0
count_in (body.Sequence g) = g.count
count_in (body.Mapping g) = g.count

unfoldable pub body_of : Record → Body
body_of (is.Tag t) = body.Null
body_of (is.Anchor t) = body.Null
body_of (is.Source i) = body.Null
body_of (is.Head h) = body.Null
body_of (is.Inline t) = body.Null
body_of (is.Foot t) = body.Null
body_of (is.Raw t) = body.Null
body_of (is.Directive t) = body.Null
body_of (is.Layout l) = body.Null
body_of is.Null = body.Null
body_of (is.Scalar w) = body.Scalar w
body_of (is.Alias t) = body.Alias t
body_of (is.Sequence g) = body.Sequence g
body_of (is.Mapping g) = body.Mapping g

unfoldable pub spot_of : Head → Spot
spot_of h = record { lead = h.lead; body = body_of h.own; place = h.place.at; next = h.next }

-- the node at a cursor
unfoldable pub spot_at : Bytes → Cursor → Spot
spot_at deck c = spot_of (head_at deck c)

module _ (deck pool : Bytes) where
  -- what a node is, its children from a cursor on, and where they end
  unfoldable pub kind_of : Body → Cursor → Kind
  kind_of body.Null c = null
  kind_of (body.Scalar w) c = scalar (words pool w.text) w.style
  kind_of (body.Alias t) c = alias (words pool t)
  kind_of (body.Sequence g) c = sequence g.form (items_from (tree_at deck pool) g.count c).value
  kind_of (body.Mapping g) c = mapping g.form (pairs_from (tree_at deck pool) g.count c).value

  unfoldable pub end_of : Body → Cursor → Cursor
  end_of body.Null c = c
  end_of (body.Scalar w) c = c
  end_of (body.Alias t) c = c
  end_of (body.Sequence g) c = (items_from (tree_at deck pool) g.count c).next
  end_of (body.Mapping g) c = (pairs_from (tree_at deck pool) g.count c).next

  abbrev pub kept_in : Spot → Kept
  kept_in x = kept_of deck pool x.lead

  abbrev pub brought_in : Spot → Brought
  brought_in x = brought_of deck pool x.lead

  abbrev pub kind_in : Spot → Kind
  kind_in x = kind_of x.body x.next

  abbrev pub end_in : Spot → Cursor
  end_in x = end_of x.body x.next

  unfoldable pub node_in : Spot → Node
  node_in x = node x.place (kept_in x) (brought_in x) (kind_in x)

  shape_is : (p : ℕ) (a : Kept) (b : Brought) (r : Record) (c : Cursor) → shape pool (tree_at deck pool) p a b r c ≡ record { value = node p a b (kind_of (body_of r) c); next = end_of (body_of r) c }
  unfolding shape kind_of end_of body_of
  shape_is p a b (is.Tag t) c = refl
  shape_is p a b (is.Anchor t) c = refl
  shape_is p a b (is.Source i) c = refl
  shape_is p a b (is.Head h) c = refl
  shape_is p a b (is.Inline t) c = refl
  shape_is p a b (is.Foot t) c = refl
  shape_is p a b (is.Raw t) c = refl
  shape_is p a b (is.Directive t) c = refl
  shape_is p a b (is.Layout l) c = refl
  shape_is p a b is.Null c = refl
  shape_is p a b (is.Scalar w) c = refl
  shape_is p a b (is.Alias t) c = refl
  shape_is p a b (is.Sequence g) c = refl
  shape_is p a b (is.Mapping g) c = refl

  -- the tree at a cursor is the node there
  pub tree-spot : (c : Cursor) → c.at ≤ length deck → tree_at deck pool c ≡ record { value = node_in (spot_at deck c); next = end_in (spot_at deck c) }
  unfolding shape_of spot_at spot_of node_in
  tree-spot c k = let h = head_at deck c in tree_is deck pool c k ∙ shape_is h.place.at (kept_of deck pool h.lead) (brought_of deck pool h.lead) h.own h.next

  pub tree-value : (c : Cursor) → c.at ≤ length deck → (tree_at deck pool c).value ≡ node_in (spot_at deck c)
  tree-value c k = ap (λ (g : Got Node). g.value) (tree-spot c k)

  pub tree-end : (c : Cursor) → c.at ≤ length deck → (tree_at deck pool c).next ≡ end_in (spot_at deck c)
  tree-end c k = ap (λ (g : Got Node). g.next) (tree-spot c k)
