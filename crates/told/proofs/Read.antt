-- The trees that a deck is read into have only well-formed scalars, since the reader tests each text (refusal 5). So the scripts of an accepted
-- deck are sound (Sound).
use Rattle.std.specs.Prelude.{◌≡◌, refl, Bool, true, not, List, [], ◌∷◌, eqb, leb, ltb, length}
use Rattle.std.proofs.Common.{subst, arith}
use Prim.{tt}
use Prim.Native.Nat.{ℕ, zero, suc, ◌+◌}
use Rattle.std.proofs.Math.Bool.{false}
use borrow.Author.Tests.{eqb-true}
use Rattle.definition.specs.Base.{Bytes, when◌then◌else◌}
use Rattle.definition.specs.Utf8.{well_formed}
use Rattle.definition.specs.Records.{kind_at, record_at}
use Rattle.definition.specs.Tree.{Kept, Brought, Node}
use Rattle.definition.specs.Deck
use Rattle.definition.specs.declared.Cursor.{Cursor}
use Rattle.definition.specs.declared.Text.{Text}
use Rattle.definition.specs.declared.Record.{Record}
use Rattle.definition.specs.declared.Record.TheVariants as is
use Rattle.laws.specs.Gives.{gives-fault, gives-got, gives-bind, got-out}
use Rattle.laws.specs.Gives as read
use Rattle.scripts.specs.Sound.{Formed, FormedNodes, FormedPairs, FormedAll}

-- ---- a value that was read is as P says

abbrev Gives : {A : Type 0} → (A → Type 0) → Deck.Read A → Type 0
Gives {A} P r = read.Gives (λ (a : A) (c : Cursor). P a) r

gives-if : {A : Type 0} {P : A → Type 0} (b : Bool) {r q : Deck.Read A} → (b ≡ true → Gives P r) → Gives P q → Gives P (when b then r else q)
gives-if true f g = f refl
gives-if false f g = g

-- ---- texts

-- no reference of a record is faulty
record Clean (pool : Bytes) (r : Record) : Type 0 where
  texts : Deck.texts_fault pool (Deck.references r) ≡ 0

clean-text : (pool : Bytes) (t : Text) (ts : List Text) → Deck.texts_fault pool (t ∷ ts) ≡ 0 → well_formed (Deck.words pool t) ≡ true
unfolding Deck.texts_fault
clean-text pool t ts h = go (ltb (length pool) (t.from + t.len)) (well_formed (Deck.words pool t)) refl h
  where
    go : (b c : Bool) → well_formed (Deck.words pool t) ≡ c → (when b then 4 else when c then Deck.texts_fault pool ts else 5) ≡ 0
        → well_formed (Deck.words pool t) ≡ true
    go true c e h = absurd (omega arith)
    go false true e h = e
    go false false e h = absurd (omega arith)

-- ---- nodes

abbrev Forms : (Cursor → Deck.Read Node) → Type 0
Forms f = (c : Cursor) → Gives Formed (f c)

items-formed : (f : Cursor → Deck.Read Node) → Forms f → (n : ℕ) (c : Cursor) → Gives FormedNodes (Deck.read_items f n c)
unfolding Deck.read_items Formed
items-formed f g zero c = gives-got tt
items-formed f g (suc n) c = gives-bind (g c) (λ x d h. gives-bind (items-formed f g n d) (λ xs e k. gives-got (h, k)))

pairs-formed : (f : Cursor → Deck.Read Node) → Forms f → (n : ℕ) (c : Cursor) → Gives FormedPairs (Deck.read_pairs f n c)
unfolding Deck.read_pairs Formed
pairs-formed f g zero c = gives-got tt
pairs-formed f g (suc n) c = gives-bind (g c) (λ x d h. gives-bind (g d) (λ v e j. gives-bind (pairs-formed f g n e) (λ ps i k. gives-got (h, (j, k)))))

node-formed : (pool : Bytes) (f : Cursor → Deck.Read Node) → Forms f → (p : ℕ) (a : Kept) (b : Brought) (r : Record) (c : Cursor) → Clean pool r
    → Gives Formed (Deck.node_of pool f p a b r c)
unfolding Deck.node_of Formed Deck.references
node-formed pool f g p a b (is.Tag t) c h = gives-got tt
node-formed pool f g p a b (is.Anchor t) c h = gives-got tt
node-formed pool f g p a b (is.Source r) c h = gives-got tt
node-formed pool f g p a b (is.Head x) c h = gives-got tt
node-formed pool f g p a b (is.Inline t) c h = gives-got tt
node-formed pool f g p a b (is.Foot t) c h = gives-got tt
node-formed pool f g p a b (is.Raw t) c h = gives-got tt
node-formed pool f g p a b (is.Directive t) c h = gives-got tt
node-formed pool f g p a b (is.Layout l) c h = gives-got tt
node-formed pool f g p a b is.Null c h = gives-got tt
node-formed pool f g p a b (is.Scalar w) c h = gives-got (clean-text pool w.text [] h.texts)
node-formed pool f g p a b (is.Alias t) c h = gives-got tt
node-formed pool f g p a b (is.Sequence z) c h = gives-bind (items-formed f g z.count c) (λ xs d k. gives-got k)
node-formed pool f g p a b (is.Mapping z) c h = gives-bind (pairs-formed f g z.count c) (λ ps d k. gives-got k)

-- ---- the reader

module _ (deck pool : Bytes) where
  record-clean : (last : ℕ) (c : Cursor) → Gives (Clean pool) (Deck.read_record deck pool last c)
  unfolding Deck.read_record
  record-clean last c =
      gives-if (leb (length deck) c.at) (λ _. gives-fault)
      (gives-if (not (Deck.sound deck last c)) (λ _. gives-fault)
      (gives-if (eqb (Deck.texts_fault pool (Deck.references (record_at deck c))) 0) (λ e. gives-got (record { texts = eqb-true _ _ e })) gives-fault))

  whole-clean : (n last : ℕ) (a : Kept) (b : Brought) (c : Cursor) → Gives (λ w. Clean pool w.own) (Deck.read_whole deck pool n last a b c)
  unfolding Deck.read_whole Deck.own_or_on
  whole-clean zero last a b c = gives-fault
  whole-clean (suc n) last a b c =
      gives-bind (record-clean last c)
      (λ r d h. gives-if (Deck.is_node r) (λ _. gives-got h) (whole-clean n (kind_at deck c) (Deck.keep pool r a) (Deck.bring pool r b) d))

  read-formed : (n : ℕ) → Forms (Deck.read_node deck pool n)
  unfolding Deck.read_node
  read-formed zero c = gives-bind (whole-clean (length deck) 0 Deck.none_kept Deck.none_brought c) (λ w d h. gives-fault)
  read-formed (suc n) c =
      gives-bind (whole-clean (length deck) 0 Deck.none_kept Deck.none_brought c)
      (λ w d h. node-formed pool _ (λ e. read-formed n e) w.place w.kept w.brought w.own d h)

  trees-formed : (n : ℕ) (c : Cursor) → Gives FormedAll (Deck.read_trees deck pool n c)
  unfolding Deck.read_trees FormedAll
  trees-formed zero c = gives-got tt
  trees-formed (suc n) c =
      gives-if (leb (length deck) c.at) (λ _. gives-got tt)
      (gives-bind (read-formed Deck.deepest c) (λ x d h. gives-bind (trees-formed n d) (λ xs e k. gives-got (h, k))))

  -- a deck that is read gives trees whose scalars are well-formed texts
  pub formed : (ns : List Node) (c : Cursor) → Deck.read_deck deck pool ≡ Deck.got ns c → FormedAll ns
  unfolding Deck.read_deck
  formed ns c q = got-out (subst (λ (r : Deck.Read (List Node)). Gives FormedAll r) q (trees-formed (length deck) (record { at = 0 })))
