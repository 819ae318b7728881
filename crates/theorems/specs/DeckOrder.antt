-- Places rise in the trees that a deck is read into.
use Rattle.std.specs.Prelude.{◌≡◌, Bool, true, false, not, ◌&&◌, List, T, eqb, leb, ltb, length}
use Rattle.std.proofs.Common.{subst, le_trans, le_refl, le_of_lt}
use Prim.Native.Nat.{ℕ, zero, suc, ◌+◌, ◌≤◌, ◌<◌}
use native.Mathlib.Omega.{arith}
use Rattle.std.proofs.Math.Dec.{ltb→lt}
use Rattle.definition.specs.Base.{Bytes, when◌then◌else◌}
use Rattle.definition.specs.Records.{kind_at, record_at, size_of, past}
use Rattle.definition.specs.Tree.{Kept, Brought, Node, Nodes, Pairs, node, end, item, close, pair}
use Rattle.definition.specs.Deck
use Rattle.definition.specs.declared.Cursor.{Cursor}
use Rattle.definition.specs.declared.Record.{Record}
use Rattle.definition.specs.declared.Record.TheVariants as is
use Rattle.laws.specs.Gives.{Gives, gives-fault, gives-got, gives-bind, got-out}
use Rattle.theorems.specs.Order.{Rising, RisingItems, RisingPairs, RisingAll, OrderedAll}

-- ---- what was read, and the cursor after it

gives-if : {A : Type 0} {P : A → Cursor → Type 0} (b : Bool) {r q : Deck.Read A} → Gives P r → (T (not b) → Gives P q) → Gives P (when b then r else q)
gives-if true f g = f
gives-if false f g = g tt

gives-map : {A : Type 0} {P Q : A → Cursor → Type 0} {r : Deck.Read A} → Gives P r → ((a : A) (c : Cursor) → P a c → Q a c) → Gives Q r
gives-map gives-fault g = gives-fault
gives-map (gives-got {a = a} {c = c} h) g = gives-got (g a c h)

-- ---- a tree read

-- `Rising` with room below
lower : (n : Node) (lo mid hi : ℕ) → lo ≤ mid → Rising mid n hi → Rising lo n hi
unfolding Rising
lower (node p a b k) lo mid hi l h = (le_trans l h.0, h.1)

lower-items : (xs : Nodes) (lo mid hi : ℕ) → lo ≤ mid → RisingItems mid xs hi → RisingItems lo xs hi
unfolding Rising
lower-items end lo mid hi l h = le_trans l h
lower-items (item x xs) lo mid hi l h = (h.0, lower x lo mid h.0 l h.1, h.2)

lower-pairs : (ps : Pairs) (lo mid hi : ℕ) → lo ≤ mid → RisingPairs mid ps hi → RisingPairs lo ps hi
unfolding Rising
lower-pairs close lo mid hi l h = le_trans l h
lower-pairs (pair k v ps) lo mid hi l h = (h.0, h.1, lower k lo mid h.0 l h.2, h.3, h.4)

-- a reader of nodes, whose places rise from the cursor before to the cursor after
abbrev Climbs : (Cursor → Deck.Read Node) → Type 0
Climbs f = (c : Cursor) → Gives (λ n d. Rising c.at n d.at) (f c)

items-climb : (f : Cursor → Deck.Read Node) → Climbs f → (n : ℕ) (c : Cursor) → Gives (λ xs d. RisingItems c.at xs d.at) (Deck.read_items f n c)
unfolding Deck.read_items Rising
items-climb f g zero c = gives-got (le_refl c.at)
items-climb f g (suc n) c = gives-bind (g c) (λ x d h. gives-bind (items-climb f g n d) (λ xs e k. gives-got (d.at, h, k)))

pairs-climb : (f : Cursor → Deck.Read Node) → Climbs f → (n : ℕ) (c : Cursor) → Gives (λ ps d. RisingPairs c.at ps d.at) (Deck.read_pairs f n c)
unfolding Deck.read_pairs Rising
pairs-climb f g zero c = gives-got (le_refl c.at)
pairs-climb f g (suc n) c =
    gives-bind (g c) (λ k d h. gives-bind (g d) (λ v e h'. gives-bind (pairs-climb f g n e) (λ ps z w. gives-got (d.at, e.at, h, h', w))))

-- a place between two cursors
abbrev Between : ℕ → ℕ → Cursor → Type 0
Between lo p c = (lo ≤ p) × (p < c.at)

node-climb : (pool : Bytes) (f : Cursor → Deck.Read Node) → Climbs f → (p : ℕ) (a : Kept) (b : Brought) (r : Record) (lo : ℕ) (c : Cursor) → Between lo p c
    → Gives (λ n d. Rising lo n d.at) (Deck.node_of pool f p a b r c)
unfolding Deck.node_of Rising
node-climb pool f g p a b (is.Tag t) lo c h = gives-got h
node-climb pool f g p a b (is.Anchor t) lo c h = gives-got h
node-climb pool f g p a b (is.Source r) lo c h = gives-got h
node-climb pool f g p a b (is.Head x) lo c h = gives-got h
node-climb pool f g p a b (is.Inline t) lo c h = gives-got h
node-climb pool f g p a b (is.Foot t) lo c h = gives-got h
node-climb pool f g p a b (is.Raw t) lo c h = gives-got h
node-climb pool f g p a b (is.Directive t) lo c h = gives-got h
node-climb pool f g p a b (is.Layout l) lo c h = gives-got h
node-climb pool f g p a b is.Null lo c h = gives-got h
node-climb pool f g p a b (is.Scalar w) lo c h = gives-got h
node-climb pool f g p a b (is.Alias t) lo c h = gives-got h
node-climb pool f g p a b (is.Sequence z) lo c h =
    gives-bind (items-climb f g z.count c) (λ xs d k. gives-got (h.0, lower-items xs (suc p) c.at d.at h.1 k))
node-climb pool f g p a b (is.Mapping z) lo c h =
    gives-bind (pairs-climb f g z.count c) (λ ps d k. gives-got (h.0, lower-pairs ps (suc p) c.at d.at h.1 k))

T-first : (a b c d : Bool) → T (a && b && c && d) → T a
T-first true b c d t = tt
T-first false b c d t = t

T-twice : (b : Bool) → T (not (not b)) → T b
T-twice true t = tt
T-twice false t = t

module _ (deck pool : Bytes) where
  -- a record that is sound has bytes
  past-further : (last : ℕ) (c : Cursor) → T (Deck.sound deck last c) → c.at < (past deck c).at
  unfolding Deck.sound past
  past-further last c t =
      let k = kind_at deck c in
      let h : 0 < size_of k = ltb→lt 0 (size_of k) (T-first (ltb 0 (size_of k)) (leb (c.at + size_of k) (length deck)) (Deck.meant k deck c.at) (Deck.in_order last k) t) in
      omega arith

  record-climb : (last : ℕ) (c : Cursor) → Gives (λ r d. c.at < d.at) (Deck.read_record deck pool last c)
  unfolding Deck.read_record
  record-climb last c =
      gives-if (leb (length deck) c.at) gives-fault
      (λ _. gives-if (not (Deck.sound deck last c)) gives-fault
      (λ t. gives-if (eqb (Deck.texts_fault pool (Deck.references (record_at deck c))) 0) (gives-got (past-further last c (T-twice (Deck.sound deck last c) t))) (λ _. gives-fault)))

  own-climb : (go : Kept → Brought → Cursor → Deck.Read Deck.Whole) → ((a : Kept) (b : Brought) (d : Cursor) → Gives (λ w e. Between d.at w.place e) (go a b d))
      → (a : Kept) (b : Brought) (p : ℕ) (r : Record) (d : Cursor) → p < d.at → Gives (λ w e. Between p w.place e) (Deck.own_or_on pool go a b p r d)
  unfolding Deck.own_or_on
  own-climb go g a b p r d l =
      gives-if (Deck.is_node r) (gives-got (le_refl p, l))
      (λ _. gives-map (g (Deck.keep pool r a) (Deck.bring pool r b) d) (λ w e k. (le_trans (le_of_lt l) k.0, k.1)))

  whole-climb : (n last : ℕ) (a : Kept) (b : Brought) (c : Cursor) → Gives (λ w e. Between c.at w.place e) (Deck.read_whole deck pool n last a b c)
  unfolding Deck.read_whole
  whole-climb zero last a b c = gives-fault
  whole-climb (suc n) last a b c =
      gives-bind (record-climb last c) (λ r d h. own-climb _ (λ a' b' d. whole-climb n (kind_at deck c) a' b' d) a b c.at r d h)

  read-climb : (n : ℕ) → Climbs (Deck.read_node deck pool n)
  unfolding Deck.read_node
  read-climb zero c = gives-bind (whole-climb (length deck) 0 Deck.none_kept Deck.none_brought c) (λ w d h. gives-fault)
  read-climb (suc n) c =
      gives-bind (whole-climb (length deck) 0 Deck.none_kept Deck.none_brought c)
      (λ w d h. node-climb pool _ (λ e. read-climb n e) w.place w.kept w.brought w.own c.at d h)

  trees-climb : (n : ℕ) (c : Cursor) → Gives (λ ns d. RisingAll c.at ns d.at) (Deck.read_trees deck pool n c)
  unfolding Deck.read_trees RisingAll
  trees-climb zero c = gives-got (le_refl c.at)
  trees-climb (suc n) c =
      gives-if (leb (length deck) c.at) (gives-got (le_refl c.at))
      (λ _. gives-bind (read-climb Deck.deepest c) (λ x d h. gives-bind (trees-climb n d) (λ xs e k. gives-got (d.at, h, k))))

-- a deck that is read gives trees whose places rise
pub read-ordered : (deck pool : Bytes) {ns : List Node} {c : Cursor} → Deck.read_deck deck pool ≡ Deck.got ns c → OrderedAll ns
unfolding Deck.read_deck
read-ordered deck pool {ns} {c} q = record {
  low = 0;
  high = c.at;
  rising =
      got-out (subst (λ (r : Deck.Read (List Node)). Gives (λ ns c. RisingAll 0 ns c.at) r) q (trees-climb deck pool (length deck) (record { at = 0 })));
}
