-- The total decoder goes onward and never runs out: the tree at a cursor is its head with the trees at its children's cursors.
use Rattle.std.specs.Prelude.{◌≡◌, Bool, leb}
use Rattle.std.proofs.Math.Path.{refl, sym, ap}
use Rattle.std.proofs.Common.{◌∙◌}
use Prim.Native.Nat.{ℕ, zero, suc, ◌+◌, ◌-◌, ◌<◌, ◌≤◌, min}
use Rattle.std.proofs.Math.Nat.{min-eq_left, min-eq_right, min-le_right}
use native.Mathlib.Omega.{arith}
use Rattle.std.proofs.Math.Bool.{true, false}
use Rattle.std.proofs.Math.ListN.{length, get_or-eq_default}
use Rattle.std.proofs.Math.Dec.{eqb, ltb}
use borrow.Author.Tests.{ltb-true, ltb-false, leb-true, leb-false, eqb-true, eqb-false}
use Rattle.definition.specs.Base.{Bytes, when◌then◌else◌}
use Rattle.definition.specs.Records.{byte_at, kind_at, record_at, size_of, past}
use Rattle.definition.specs.Tree.{Kept, Brought, Node, Kind, node, null, scalar, alias}
use Rattle.definition.specs.Deck.{is_node, words}
use Rattle.definition.specs.declared.Cursor.{Cursor}
use Rattle.definition.specs.declared.Group.{Group}
use Rattle.definition.specs.declared.Record.{Record}
use Rattle.definition.specs.declared.Record.TheVariants as is
use Rattle.deck.specs.Next.{next_of}
use Rattle.deck.specs.Kids.{kids_of, twice, no_kids, lead-sized}
use Rattle.node.specs.declared.Lead.{Lead}
use Rattle.node.specs.Head.{Head, add_to, headed, head_from, head_at, no_lead}
use Rattle.node.specs.Total.{Got, kept_of, brought_of, items_from, pairs_from, shape, shape_of, null_at, node_from, tree_at}

-- n siblings passed, one after another
unfoldable pub nexts : (Cursor → Cursor) → ℕ → Cursor → Cursor
nexts f zero c = c
nexts f (suc n) c = nexts f n (f c)

-- ---- a head goes onward

pub record Onward (deck : Bytes) (c : Cursor) (h : Head) : Type 0 where
  pub ahead : c.at ≤ h.place.at
  pub beyond : h.place.at ≤ h.next.at
  pub within : h.next.at ≤ length deck
  pub own : h.own ≡ record_at deck h.place
  pub next : h.next ≡ next_of deck h.place
  pub kids : (kids_of h.own ≡ 0 → ⊥) → h.place.at < h.next.at

min-onward : (a b n : ℕ) → a ≤ b → a ≤ min (a + n) b
min-onward a b n h = go (leb (a + n) b) refl
  where
    go : (t : Bool) → leb (a + n) b ≡ t → a ≤ min (a + n) b
    go true e = rw (min-eq_left (leb-true _ _ e)) (omega arith)
    go false e = let l : b < a + n = leb-false _ _ e in let k : b ≤ a + n = omega arith in rw (min-eq_right k) h

module _ (deck : Bytes) where
  pub next-onward : (c : Cursor) → c.at ≤ length deck → c.at ≤ (next_of deck c).at
  unfolding next_of past
  next-onward c h = min-onward c.at (length deck) _ h

  pub next-within : (c : Cursor) → (next_of deck c).at ≤ length deck
  unfolding next_of
  next-within c = min-le_right _ _

  -- a byte that is not 0 stands in the deck
  inside : (c : Cursor) (k : ℕ) → 0 < k → kind_at deck c ≡ k → c.at < length deck
  unfolding kind_at byte_at
  inside c k p e = go (ltb c.at (length deck)) refl
    where
      go : (t : Bool) → ltb c.at (length deck) ≡ t → c.at < length deck
      go true h = ltb-true _ _ h
      go false h = let z : 0 ≡ k = sym (get_or-eq_default deck 0 (ltb-false _ _ h)) ∙ e in absurd (omega arith)

  -- past a record that has bytes
  sized : (c : Cursor) → 0 < kind_at deck c → 0 < size_of (kind_at deck c) → c.at < (next_of deck c).at
  unfolding next_of past
  sized c p s =
      let i : c.at < length deck = inside c (kind_at deck c) p refl in
      let m = size_of (kind_at deck c) in
      let v : c.at + 1 + (m - 1) ≡ c.at + m = omega arith in
      let w : c.at + 1 ≤ min (c.at + m) (length deck) = rw v at (min-onward (c.at + 1) (length deck) (m - 1) (omega arith)) in
      omega arith

  -- past a collection's record
  pub collection : (c : Cursor) (k : ℕ) → 0 < k → kind_at deck c ≡ k → size_of k ≡ 4 → c.at < (next_of deck c).at
  collection c k p e s = sized c (rw e p) (rw (e, s) (omega arith))

  -- past a leading record
  pub lead-onward : (c : Cursor) → is_node (record_at deck c) ≡ false → c.at < (next_of deck c).at
  unfolding record_at
  lead-onward c e = let s = lead-sized deck (c.at + 1) (kind_at deck c) e in sized c s.0 s.1

  pub next-kids : (c : Cursor) → (kids_of (record_at deck c) ≡ 0 → ⊥) → c.at < (next_of deck c).at
  unfolding record_at size_of
  next-kids c n = go (eqb (kind_at deck c) 0x23) (eqb (kind_at deck c) 0x24) refl refl
    where
      go : (x y : Bool) → eqb (kind_at deck c) 0x23 ≡ x → eqb (kind_at deck c) 0x24 ≡ y → c.at < (next_of deck c).at
      go true y e f = collection c 0x23 (omega arith) (eqb-true _ _ e) refl
      go false true e f = collection c 0x24 (omega arith) (eqb-true _ _ f) refl
      go false false e f = absurd (n (no_kids deck (c.at + 1) (kind_at deck c) (eqb-false _ _ e) (eqb-false _ _ f)))

  headed-onward : (l : Lead) (c : Cursor) → c.at ≤ length deck → Onward deck c (headed deck l c)
  unfolding headed
  headed-onward l c k = record { ahead = omega arith; beyond = next-onward c k; within = next-within c; own = refl; next = refl; kids = next-kids c }

  head-onward : (n : ℕ) (l : Lead) (c : Cursor) → c.at ≤ length deck → Onward deck c (head_from deck n l c)
  unfolding head_from
  head-onward zero l c k = headed-onward l c k
  head-onward (suc n) l c k = go (is_node (record_at deck c)) (head-onward n (add_to (record_at deck c) c l) (next_of deck c) (next-within c))
    where
      go :
          (b : Bool) → Onward deck (next_of deck c) (head_from deck n (add_to (record_at deck c) c l) (next_of deck c)) →
          Onward deck c (when b then headed deck l c else head_from deck n (add_to (record_at deck c) c l) (next_of deck c))
      go true o = headed-onward l c k
      go false o =
          record { ahead = (let p = o.ahead in let q = next-onward c k in omega arith); beyond = o.beyond; within = o.within; own = o.own; next = o.next; kids = o.kids }

  pub head-at-onward : (c : Cursor) → c.at ≤ length deck → Onward deck c (head_at deck c)
  unfolding head_at
  head-at-onward c k = head-onward (length deck) no_lead c k

  -- a node's own record with no leading one
  pub head-own : (n : ℕ) (l : Lead) (c : Cursor) → is_node (record_at deck c) ≡ true → head_from deck n l c ≡ headed deck l c
  unfolding head_from
  head-own zero l c e = refl
  head-own (suc n) l c e = rw e

  -- after a leading one it comes further on
  pub own-further : (c : Cursor) → is_node (record_at deck c) ≡ false → c.at < (head_at deck c).place.at
  unfolding head_at
  own-further c e = let o = lead-onward c e in let w = next-within c in go (length deck) (omega arith)
    where
      go : (n : ℕ) → 0 < n → c.at < (head_from deck n no_lead c).place.at
      go zero p = absurd (omega arith)
      go (suc n) p = let o = lead-onward c e in let h = head-onward n (add_to (record_at deck c) c no_lead) (next_of deck c) (next-within c) in unfold head_from in rw e (omega (arith, o, h.ahead))

  -- the own record's cursor lies within the deck
  pub place-within : (c : Cursor) → c.at ≤ length deck → (head_at deck c).place.at ≤ length deck
  place-within c k = let o = head-at-onward c k in omega (arith, o.beyond, o.within)

  -- where the own record stands does not depend on what the leading ones say
  pub place_same : (n : ℕ) (l m : Lead) (c : Cursor) → (head_from deck n l c).place ≡ (head_from deck n m c).place
  unfolding head_from headed
  place_same zero l m c = refl
  place_same (suc n) l m c = go (is_node (record_at deck c)) (place_same n (add_to (record_at deck c) c l) (add_to (record_at deck c) c m) (next_of deck c))
    where
      go :
          (b : Bool) → (head_from deck n (add_to (record_at deck c) c l) (next_of deck c)).place ≡ (head_from deck n (add_to (record_at deck c) c m) (next_of deck c)).place →
          (when b then headed deck l c else head_from deck n (add_to (record_at deck c) c l) (next_of deck c)).place ≡ (when b then headed deck m c else head_from deck n (add_to (record_at deck c) c m) (next_of deck c)).place
      go true e = refl
      go false e = e

  -- at the deck's end no record leads
  head-end : (n : ℕ) (l : Lead) (c : Cursor) → length deck ≤ c.at → head_from deck n l c ≡ headed deck l c
  unfolding head_from
  head-end zero l c h = refl
  head-end (suc n) l c h = go (is_node (record_at deck c)) refl
    where
      go : (b : Bool) → is_node (record_at deck c) ≡ b → head_from deck (suc n) l c ≡ headed deck l c
      go true e = rw e
      go false e = let o = lead-onward c e in let w = next-within c in absurd (omega arith)

  -- as many leading records as the deck may hold are enough
  pub head-same : (n m : ℕ) (l : Lead) (c : Cursor) → length deck - c.at ≤ n → length deck - c.at ≤ m → head_from deck n l c ≡ head_from deck m l c
  unfolding head_from
  head-same zero m l c p q = sym (head-end m l c (omega arith))
  head-same (suc n) zero l c p q = head-end (suc n) l c (omega arith)
  head-same (suc n) (suc m) l c p q = go (is_node (record_at deck c)) refl (λ h k. head-same n m (add_to (record_at deck c) c l) (next_of deck c) h k)
    where
      go :
          (b : Bool) → is_node (record_at deck c) ≡ b
          → (length deck - (next_of deck c).at ≤ n → length deck - (next_of deck c).at ≤ m → head_from deck n (add_to (record_at deck c) c l) (next_of deck c) ≡ head_from deck m (add_to (record_at deck c) c l) (next_of deck c))
          → head_from deck (suc n) l c ≡ head_from deck (suc m) l c
      go true e f = rw e
      go false e f = let o = lead-onward c e in rw e (f (omega arith) (omega arith))

  -- at the deck's end there are no children
  ended : (c : Cursor) → c.at ≤ length deck → length deck ≤ c.at → kids_of (head_at deck c).own ≡ 0
  ended c k l = go (eqb (kids_of (head_at deck c).own) 0) refl
    where
      go : (b : Bool) → eqb (kids_of (head_at deck c).own) 0 ≡ b → kids_of (head_at deck c).own ≡ 0
      go true e = eqb-true _ _ e
      go false e = let o = head-at-onward c k in let s = o.kids (eqb-false _ _ e) in absurd (omega (arith, o.ahead, o.within, s))

-- ---- the shape of a node: without children, or items, or pairs

data View (pool : Bytes) (p : ℕ) (a : Kept) (b : Brought) : Record → Type 0 where
  leaf : {r : Record} (k : Kind) → ((f : Cursor → Got Node) (c : Cursor) → shape pool f p a b r c ≡ record { value = node p a b k; next = c }) → kids_of r ≡ 0 → View pool p a b r
  items : (g : Group) → View pool p a b (is.Sequence g)
  pairs : (g : Group) → View pool p a b (is.Mapping g)

view : (pool : Bytes) (p : ℕ) (a : Kept) (b : Brought) (r : Record) → View pool p a b r
unfolding shape kids_of
view pool p a b (is.Tag t) = leaf null (λ f c. refl) refl
view pool p a b (is.Anchor t) = leaf null (λ f c. refl) refl
view pool p a b (is.Source i) = leaf null (λ f c. refl) refl
view pool p a b (is.Head h) = leaf null (λ f c. refl) refl
view pool p a b (is.Inline t) = leaf null (λ f c. refl) refl
view pool p a b (is.Foot t) = leaf null (λ f c. refl) refl
view pool p a b (is.Raw t) = leaf null (λ f c. refl) refl
view pool p a b (is.Directive t) = leaf null (λ f c. refl) refl
view pool p a b (is.Layout l) = leaf null (λ f c. refl) refl
view pool p a b is.Null = leaf null (λ f c. refl) refl
view pool p a b (is.Scalar w) = leaf (scalar (words pool w.text) w.style) (λ f c. refl) refl
view pool p a b (is.Alias t) = leaf (alias (words pool t)) (λ f c. refl) refl
view pool p a b (is.Sequence g) = items g
view pool p a b (is.Mapping g) = pairs g

-- ---- a tree goes onward

abbrev Moves : Bytes → Cursor → Cursor → Type 0
Moves deck c e = (c.at ≤ e.at) × (e.at ≤ length deck)

module _ (deck pool : Bytes) (F : Cursor → Got Node) (o : (d : Cursor) → d.at ≤ length deck → Moves deck d (F d).next) where
  items-move : (n : ℕ) (c : Cursor) → c.at ≤ length deck → Moves deck c (items_from F n c).next
  unfolding items_from
  items-move zero c k = (omega arith, k)
  items-move (suc n) c k = let p = o c k in let q = items-move n (F c).next p.1 in (omega (arith, p.0, q.0), q.1)

  pairs-move : (n : ℕ) (c : Cursor) → c.at ≤ length deck → Moves deck c (pairs_from F n c).next
  unfolding pairs_from
  pairs-move zero c k = (omega arith, k)
  pairs-move (suc n) c k =
      let p = o c k in let r = o (F c).next p.1 in let q = pairs-move n (F (F c).next).next r.1 in (omega (arith, p.0, r.0, q.0), q.1)

  shape-moves : (p : ℕ) (a : Kept) (b : Brought) (r : Record) (c : Cursor) → c.at ≤ length deck → Moves deck c (shape pool F p a b r c).next
  unfolding shape
  shape-moves p a b r c k = go (view pool p a b r)
    where
      go : {r : Record} → View pool p a b r → Moves deck c (shape pool F p a b r c).next
      go (leaf x e z) = rw (e F c) (omega arith, k)
      go (items g) = items-move g.count c k
      go (pairs g) = pairs-move g.count c k

-- ---- two ways to read a child that are the same from `lo` on

module _ (deck pool : Bytes) (F G : Cursor → Got Node) (o : (d : Cursor) → d.at ≤ length deck → Moves deck d (F d).next) (lo : ℕ)
    (h : (d : Cursor) → lo ≤ d.at → d.at ≤ length deck → F d ≡ G d) where
  items-same : (n : ℕ) (c : Cursor) → lo ≤ c.at → c.at ≤ length deck → items_from F n c ≡ items_from G n c
  unfolding items_from
  items-same zero c k l = refl
  items-same (suc n) c k l = let p = o c l in rw (← (h c k l), items-same n (F c).next (omega (arith, p.0)) p.1)

  pairs-same : (n : ℕ) (c : Cursor) → lo ≤ c.at → c.at ≤ length deck → pairs_from F n c ≡ pairs_from G n c
  unfolding pairs_from
  pairs-same zero c k l = refl
  pairs-same (suc n) c k l =
      let p = o c l in let r = o (F c).next p.1 in
      rw (← (h c k l), ← (h (F c).next (omega (arith, p.0)) p.1), pairs-same n (F (F c).next).next (omega (arith, p.0, r.0)) r.1)

  shape_same : (p : ℕ) (a : Kept) (b : Brought) (r : Record) (c : Cursor) → lo ≤ c.at → c.at ≤ length deck → shape pool F p a b r c ≡ shape pool G p a b r c
  unfolding shape
  shape_same p a b r c k i = go (view pool p a b r)
    where
      go : {r : Record} → View pool p a b r → shape pool F p a b r c ≡ shape pool G p a b r c
      go (leaf x e z) = e F c ∙ sym (e G c)
      go (items g) = rw (items-same g.count c k i)
      go (pairs g) = rw (pairs-same g.count c k i)

-- without children it does not matter how one is read
module _ (pool : Bytes) (F G : Cursor → Got Node) where
  items-none : (n : ℕ) (c : Cursor) → n ≡ 0 → items_from F n c ≡ items_from G n c
  unfolding items_from
  items-none zero c e = refl
  items-none (suc n) c e = absurd (omega arith)

  pairs-none : (n : ℕ) (c : Cursor) → twice n ≡ 0 → pairs_from F n c ≡ pairs_from G n c
  unfolding pairs_from twice
  pairs-none zero c e = refl
  pairs-none (suc n) c e = absurd (omega arith)

  shape-none : (p : ℕ) (a : Kept) (b : Brought) (r : Record) (c : Cursor) → kids_of r ≡ 0 → shape pool F p a b r c ≡ shape pool G p a b r c
  unfolding shape kids_of
  shape-none p a b r c e = go (view pool p a b r) e
    where
      go : {r : Record} → View pool p a b r → kids_of r ≡ 0 → shape pool F p a b r c ≡ shape pool G p a b r c
      go (leaf x q z) e = q F c ∙ sym (q G c)
      go (items g) e = rw (items-none g.count c e)
      go (pairs g) e = rw (pairs-none g.count c e)

-- where the children of a node's own record end
module _ (pool : Bytes) (F : Cursor → Got Node) where
  items-next : (n : ℕ) (c : Cursor) → (items_from F n c).next ≡ nexts (λ d. (F d).next) n c
  unfolding items_from nexts
  items-next zero c = refl
  items-next (suc n) c = items-next n (F c).next

  pairs_next : (n : ℕ) (c : Cursor) → (pairs_from F n c).next ≡ nexts (λ d. (F d).next) (twice n) c
  unfolding pairs_from nexts twice
  pairs_next zero c = refl
  pairs_next (suc n) c = pairs_next n (F (F c).next).next

  shape-next : (p : ℕ) (a : Kept) (b : Brought) (r : Record) (c : Cursor) → (shape pool F p a b r c).next ≡ nexts (λ d. (F d).next) (kids_of r) c
  unfolding shape kids_of nexts
  shape-next p a b r c = go (view pool p a b r)
    where
      go : {r : Record} → View pool p a b r → (shape pool F p a b r c).next ≡ nexts (λ d. (F d).next) (kids_of r) c
      go (leaf x e z) = rw (e F c, z)
      go (items g) = items-next g.count c
      go (pairs g) = pairs_next g.count c

-- ---- the tree at a cursor

module _ (deck pool : Bytes) where
  shape-of-moves : (F : Cursor → Got Node) → ((d : Cursor) → d.at ≤ length deck → Moves deck d (F d).next) → (c : Cursor) → c.at ≤ length deck → Moves deck c (shape_of deck pool F (head_at deck c)).next
  unfolding shape_of
  shape-of-moves F f c k =
      let o = head-at-onward deck c k in
      let h = head_at deck c in
      let m = shape-moves deck pool F f h.place.at (kept_of deck pool h.lead) (brought_of deck pool h.lead) h.own h.next o.within in
      (omega (arith, o.ahead, o.beyond, m.0), m.1)

  node-moves : (n : ℕ) (c : Cursor) → c.at ≤ length deck → Moves deck c (node_from deck pool n c).next
  unfolding node_from null_at
  node-moves zero c k = shape-of-moves (null_at deck pool) (λ d i. (omega arith, i)) c k
  node-moves (suc n) c k = shape-of-moves (node_from deck pool n) (λ d i. node-moves n d i) c k

  pub tree-moves : (c : Cursor) → c.at ≤ length deck → (c.at ≤ (tree_at deck pool c).next.at) × ((tree_at deck pool c).next.at ≤ length deck)
  unfolding tree_at
  tree-moves c k = node-moves (length deck - c.at) c k

  -- two readers of children make the same node where they read the same past its head, or where it has no children
  shape-of-none : (F G : Cursor → Got Node) (c : Cursor) → kids_of (head_at deck c).own ≡ 0 → shape_of deck pool F (head_at deck c) ≡ shape_of deck pool G (head_at deck c)
  unfolding shape_of
  shape-of-none F G c e = shape-none pool F G _ _ _ (head_at deck c).own (head_at deck c).next e

  shape-of-same :
      (F G : Cursor → Got Node) → ((d : Cursor) → d.at ≤ length deck → Moves deck d (F d).next) → (c : Cursor) → c.at ≤ length deck →
      ((d : Cursor) → c.at < d.at → d.at ≤ length deck → F d ≡ G d) → shape_of deck pool F (head_at deck c) ≡ shape_of deck pool G (head_at deck c)
  unfolding shape_of
  shape-of-same F G f c k h = go (eqb (kids_of (head_at deck c).own) 0) refl
    where
      go : (b : Bool) → eqb (kids_of (head_at deck c).own) 0 ≡ b → shape_of deck pool F (head_at deck c) ≡ shape_of deck pool G (head_at deck c)
      go true e = shape-of-none F G c (eqb-true _ _ e)
      go false e =
          let o = head-at-onward deck c k in
          let s = o.kids (eqb-false _ _ e) in
          let t : c.at < (head_at deck c).next.at = omega (arith, o.ahead, s) in
          shape_same deck pool F G f (head_at deck c).next.at (λ d x y. h d (omega arith) y) _ _ _ (head_at deck c).own (head_at deck c).next (omega arith) o.within

  same-fuel : (n m : ℕ) (c : Cursor) → c.at ≤ length deck → length deck - c.at ≤ n → length deck - c.at ≤ m → node_from deck pool n c ≡ node_from deck pool m c
  unfolding node_from
  same-fuel zero zero c k p q = refl
  same-fuel zero (suc m) c k p q = shape-of-none _ _ c (ended deck c k (omega arith))
  same-fuel (suc n) zero c k p q = shape-of-none _ _ c (ended deck c k (omega arith))
  same-fuel (suc n) (suc m) c k p q = shape-of-same (node_from deck pool n) (node_from deck pool m) (node-moves n) c k (λ d x y. same-fuel n m d y (omega arith) (omega arith))

  -- the tree at a cursor is its head, with the trees at its children's cursors
  pub tree_is : (c : Cursor) → c.at ≤ length deck → tree_at deck pool c ≡ shape_of deck pool (tree_at deck pool) (head_at deck c)
  unfolding tree_at node_from
  tree_is c k =
      let n = length deck - c.at in
      same-fuel n (suc n) c k (omega arith) (omega arith)
      ∙ shape-of-same (node_from deck pool n) (tree_at deck pool) (node-moves n) c k (λ d x y. same-fuel n (length deck - d.at) d y (omega arith) (omega arith))

  -- and it ends where its children end
  pub tree-next : (c : Cursor) → c.at ≤ length deck → (tree_at deck pool c).next ≡ nexts (λ d. (tree_at deck pool d).next) (kids_of (head_at deck c).own) (head_at deck c).next
  unfolding shape_of
  tree-next c k = ap (λ (g : Got Node). g.next) (tree_is c k) ∙ shape-next pool (tree_at deck pool) _ _ _ (head_at deck c).own (head_at deck c).next
