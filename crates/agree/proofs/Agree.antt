-- Where the definition's reader accepts, the total decoder gives the same tree, contents and places, and the same next cursor.
use Rattle.std.specs.Prelude.{◌≡◌, Bool, leb}
use Rattle.std.proofs.Math.Path.{refl}
use Prim.Native.Nat.{ℕ, zero, suc, ◌-◌, ◌<◌, ◌≤◌}
use native.Mathlib.Omega.{arith}
use Rattle.std.proofs.Math.Bool.{true, false}
use mathlib.Core.List.{List, [], ◌∷◌}
use Rattle.std.proofs.Math.ListN.{length}
use Rattle.definition.specs.Base.{Bytes, when◌then◌else◌}
use Rattle.definition.specs.Records.{kind_at, record_at, past}
use Rattle.definition.specs.Tree.{Kept, Brought, Node}
use Rattle.definition.specs.Deck.{Read, fault, got, bind, Whole, keep, bring, is_node, own_or_on, read_whole, node_of, read_items, read_pairs, read_node, read_trees, read_deck, none_kept, none_brought, deepest}
use Rattle.definition.specs.declared.Cursor.{Cursor}
use Rattle.definition.specs.declared.Record.{Record}
use Rattle.definition.specs.declared.Record.TheVariants as is
use Rattle.laws.specs.Gives.{Gives, gives-fault, gives-got, gives-bind}
use Rattle.deck.specs.Next.{next_of}
use Rattle.deck.specs.Outcome.{Sound, Outcome, bad, good, outcome, next_past}
use Rattle.node.specs.declared.Lead.{Lead}
use Rattle.node.specs.Head.{Head, add_to, headed, head_from, head_at, no_lead}
use Rattle.node.specs.Total.{Got, kept_of, brought_of, items_from, pairs_from, shape, shape_of, node_from, tree_at, trees_from, trees_of}
use Rattle.agree.specs.Runs.{Fits}
use Rattle.agree.proofs.Runs.{fits_more, fits-none}

gives_at : {A : Type 0} {P : A → Cursor → Type 0} (r : Read A) (a : A) (e : Cursor) → Gives P r → r ≡ got a e → P a e
gives_at (fault n p) a e g q = cc
gives_at {P = P} (got x i) a e (gives-got h) q = let u : x ≡ a = cc in let v : i ≡ e = cc in rw (u, v) at h

-- ---- a node's records

-- a head says what the definition's reader found
record Same (deck pool : Bytes) (c : Cursor) (h : Head) (w : Whole) (e : Cursor) : Type 0 where
  kept : kept_of deck pool h.lead ≡ w.kept
  brought : brought_of deck pool h.lead ≡ w.brought
  own : h.own ≡ w.own
  place : h.place.at ≡ w.place
  next : h.next ≡ e
  after : c.at < e.at
  within : e.at ≤ length deck

module _ (deck pool : Bytes) where
  past_after : (last : ℕ) (c : Cursor) → Sound deck last c → (c.at < (past deck c).at) × ((past deck c).at ≤ length deck)
  unfolding past
  past_after last c s = let q = s.some in (omega arith, s.fits)

  whole-gives :
      (n last : ℕ) (l : Lead) (a : Kept) (b : Brought) (c : Cursor) → Fits deck pool last c l a b →
      Gives (Same deck pool c (head_from deck n l c)) (read_whole deck pool n last a b c)
  unfolding read_whole own_or_on bind head_from headed
  whole-gives zero last l a b c y = gives-fault
  whole-gives (suc n) last l a b c y =
      go (outcome deck last c pool)
      (λ f. whole-gives n (kind_at deck c) (add_to (record_at deck c) c l) (keep pool (record_at deck c) a) (bring pool (record_at deck c) b) (past deck c) f)
    where
      later : {h : Head} {r : Read Whole} → c.at < (past deck c).at → Gives (Same deck pool (past deck c) h) r → Gives (Same deck pool c h) r
      later k gives-fault = gives-fault
      later k (gives-got s) =
          gives-got (record { kept = s.kept; brought = s.brought; own = s.own; place = s.place; next = s.next; after = (let q = s.after in omega arith); within = s.within })

      own :
          (w : Bool) → is_node (record_at deck c) ≡ w → Sound deck last c →
          (Fits deck pool (kind_at deck c) (past deck c) (add_to (record_at deck c) c l) (keep pool (record_at deck c) a) (bring pool (record_at deck c) b) →
          Gives (Same deck pool (past deck c) (head_from deck n (add_to (record_at deck c) c l) (past deck c)))
          (read_whole deck pool n (kind_at deck c) (keep pool (record_at deck c) a) (bring pool (record_at deck c) b) (past deck c))) →
          Gives (Same deck pool c (when w then headed deck l c else head_from deck n (add_to (record_at deck c) c l) (next_of deck c)))
          (when w then got (record { kept = a; brought = b; own = record_at deck c; place = c.at }) (past deck c)
          else read_whole deck pool n (kind_at deck c) (keep pool (record_at deck c) a) (bring pool (record_at deck c) b) (past deck c))
      own true e s ih =
          let o = past_after last c s in
          gives-got (record { kept = y.kept; brought = y.brought; own = refl; place = refl; next = next_past deck last c s.fits; after = o.0; within = o.1 })
      own false e s ih = rw (next_past deck last c s.fits) (later (past_after last c s).0 (ih (fits_more deck pool last c l a b e s.order y)))

      go :
          {r : Read Record} → Outcome deck last c r →
          (Fits deck pool (kind_at deck c) (past deck c) (add_to (record_at deck c) c l) (keep pool (record_at deck c) a) (bring pool (record_at deck c) b) →
          Gives (Same deck pool (past deck c) (head_from deck n (add_to (record_at deck c) c l) (past deck c)))
          (read_whole deck pool n (kind_at deck c) (keep pool (record_at deck c) a) (bring pool (record_at deck c) b) (past deck c))) →
          Gives (Same deck pool c (when is_node (record_at deck c) then headed deck l c else head_from deck n (add_to (record_at deck c) c l) (next_of deck c)))
          (bind r (own_or_on pool (λ a' b' d. read_whole deck pool n (kind_at deck c) a' b' d) a b c.at))
      go bad ih = gives-fault
      go (good s) ih = own (is_node (record_at deck c)) refl s ih

-- ---- trees

-- the total reading is the one that was accepted, which ends no sooner than it began
record Agrees {A : Type 0} (g : Got A) (c : Cursor) (a : A) (e : Cursor) : Type 0 where
  same : g ≡ record { value = a; next = e }
  onward : c.at ≤ e.at

module _ (f : Cursor → Read Node) (F : Cursor → Got Node) (lo : ℕ) (h : (c : Cursor) → lo ≤ c.at → Gives (Agrees (F c) c) (f c)) where
  items_give : (n : ℕ) (c : Cursor) → lo ≤ c.at → Gives (Agrees (items_from F n c) c) (read_items f n c)
  unfolding read_items items_from
  items_give zero c k = gives-got (record { same = refl; onward = omega arith })
  items_give (suc n) c k =
      gives-bind (h c k) (λ x j s.
      gives-bind (items_give n j (let q = s.onward in omega arith)) (λ xs e t.
      gives-got (record { same = rw (s.same, t.same); onward = (let q = s.onward in let r = t.onward in omega arith) })))

  pairs-give : (n : ℕ) (c : Cursor) → lo ≤ c.at → Gives (Agrees (pairs_from F n c) c) (read_pairs f n c)
  unfolding read_pairs pairs_from
  pairs-give zero c k = gives-got (record { same = refl; onward = omega arith })
  pairs-give (suc n) c k =
      gives-bind (h c k) (λ x j s.
      gives-bind (h j (let q = s.onward in omega arith)) (λ v i u.
      gives-bind (pairs-give n i (let q = s.onward in let r = u.onward in omega arith)) (λ ps e t.
      gives-got (record { same = rw (s.same, u.same, t.same); onward = (let q = s.onward in let r = u.onward in let z = t.onward in omega arith) }))))

  node-gives-of : (pool : Bytes) (p : ℕ) (a : Kept) (b : Brought) (r : Record) (c : Cursor) → lo ≤ c.at → Gives (Agrees (shape pool F p a b r c) c) (node_of pool f p a b r c)
  unfolding node_of shape
  node-gives-of pool p a b (is.Tag t) c k = gives-got (record { same = refl; onward = omega arith })
  node-gives-of pool p a b (is.Anchor t) c k = gives-got (record { same = refl; onward = omega arith })
  node-gives-of pool p a b (is.Source t) c k = gives-got (record { same = refl; onward = omega arith })
  node-gives-of pool p a b (is.Head t) c k = gives-got (record { same = refl; onward = omega arith })
  node-gives-of pool p a b (is.Inline t) c k = gives-got (record { same = refl; onward = omega arith })
  node-gives-of pool p a b (is.Foot t) c k = gives-got (record { same = refl; onward = omega arith })
  node-gives-of pool p a b (is.Raw t) c k = gives-got (record { same = refl; onward = omega arith })
  node-gives-of pool p a b (is.Directive t) c k = gives-got (record { same = refl; onward = omega arith })
  node-gives-of pool p a b (is.Layout t) c k = gives-got (record { same = refl; onward = omega arith })
  node-gives-of pool p a b is.Null c k = gives-got (record { same = refl; onward = omega arith })
  node-gives-of pool p a b (is.Scalar t) c k = gives-got (record { same = refl; onward = omega arith })
  node-gives-of pool p a b (is.Alias t) c k = gives-got (record { same = refl; onward = omega arith })
  node-gives-of pool p a b (is.Sequence g) c k = gives-bind (items_give g.count c k) (λ xs e s. gives-got (record { same = rw s.same; onward = s.onward }))
  node-gives-of pool p a b (is.Mapping g) c k = gives-bind (pairs-give g.count c k) (λ ps e s. gives-got (record { same = rw s.same; onward = s.onward }))

gives-from : {A : Type 0} {g : Got A} {r : Read A} (c e : Cursor) → c.at ≤ e.at → Gives (Agrees g e) r → Gives (Agrees g c) r
gives-from c e k gives-fault = gives-fault
gives-from c e k (gives-got s) = gives-got (record { same = s.same; onward = (let q = s.onward in omega arith) })

module _ (deck pool : Bytes) where
  node-gives : (d n : ℕ) (c : Cursor) → length deck - c.at ≤ n → Gives (Agrees (node_from deck pool n c) c) (read_node deck pool d c)
  unfolding read_node node_from shape_of head_at
  node-gives zero n c k = gives-bind (whole-gives deck pool (length deck) 0 no_lead none_kept none_brought c (fits-none deck pool c)) (λ w e s. gives-fault)
  node-gives (suc d) n c k =
      gives-bind (whole-gives deck pool (length deck) 0 no_lead none_kept none_brought c (fits-none deck pool c)) (λ w e s. go n k w e s (λ m j. node-gives d m j))
    where
      go :
          (n : ℕ) → length deck - c.at ≤ n → (w : Whole) (e : Cursor) → Same deck pool c (head_from deck (length deck) no_lead c) w e →
          ((m : ℕ) (j : Cursor) → length deck - j.at ≤ m → Gives (Agrees (node_from deck pool m j) j) (read_node deck pool d j)) →
          Gives (Agrees (node_from deck pool n c) c) (node_of pool (read_node deck pool d) w.place w.kept w.brought w.own e)
      go zero k w e s ih = let q = s.after in let r = s.within in absurd (omega arith)
      go (suc m) k w e s ih =
          let q = s.after in let r = s.within in
          rw (s.own, s.place, s.kept, s.brought, s.next)
          (gives-from c e (omega arith)
          (node-gives-of (read_node deck pool d) (node_from deck pool m) e.at (λ j z. ih m j (omega arith)) pool w.place w.kept w.brought w.own e (omega arith)))

  -- AGREE, at a node
  pub agree-node : (d : ℕ) (c j : Cursor) (t : Node) → read_node deck pool d c ≡ got t j → tree_at deck pool c ≡ record { value = t; next = j }
  unfolding tree_at
  agree-node d c j t e = (gives_at (read_node deck pool d c) t j (node-gives d (length deck - c.at) c (omega arith)) e).same

  -- ---- the whole deck

  tree-gives : (d : ℕ) (c : Cursor) → 0 ≤ c.at → Gives (Agrees (tree_at deck pool c) c) (read_node deck pool d c)
  unfolding tree_at
  tree-gives d c k = node-gives d (length deck - c.at) c (omega arith)

  trees-give : (n : ℕ) (c : Cursor) → Gives (λ ts e. trees_from deck pool n c ≡ ts) (read_trees deck pool n c)
  unfolding read_trees trees_from
  trees-give zero c = gives-got refl
  trees-give (suc n) c = go (leb (length deck) c.at) (λ j. trees-give n j)
    where
      go :
          (b : Bool) → ((j : Cursor) → Gives (λ ts e. trees_from deck pool n j ≡ ts) (read_trees deck pool n j)) →
          Gives (λ ts e. (when b then [] else (tree_at deck pool c).value ∷ trees_from deck pool n (tree_at deck pool c).next) ≡ ts)
          (when b then got [] c else bind (read_node deck pool deepest c) (λ x j. bind (read_trees deck pool n j) (λ xs e. got (x ∷ xs) e)))
      go true ih = gives-got refl
      go false ih = gives-bind (tree-gives deepest c (omega arith)) (λ x j s. gives-bind (ih j) (λ xs e t. gives-got (rw (s.same, t))))

  -- AGREE, of a deck that is accepted
  pub agree-deck : (ts : List Node) (j : Cursor) → read_deck deck pool ≡ got ts j → trees_of deck pool ≡ ts
  unfolding read_deck trees_of
  agree-deck ts j e = gives_at (read_trees deck pool (length deck) (record { at = 0 })) ts j (trees-give (length deck) (record { at = 0 })) e
