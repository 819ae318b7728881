-- What the judge sees of the definition's reader: laws of `step_of`, by induction over the reader.
use mathlib.Core.Path.{◌≡◌, refl, ap, ◌∙◌}
use Prim.Native.Nat.{ℕ, zero, suc, ◌+◌, ◌-◌, ◌<◌, ◌≤◌}
use native.Mathlib.Omega.{arith}
use mathlib.Core.Bool.{Bool, true, false}
use mathlib.Core.List.{List, ◌∷◌}
use lib.ListN.{length}
use borrow.Author.Tests.{le-leb, lt-leb}
use Rattle.std.proofs.Common.{add-one}
use Rattle.definition.specs.Base.{Bytes, when◌then◌else◌}
use Rattle.definition.specs.Records.{kind_at, record_at, size_of, past}
use Rattle.definition.specs.Tree.{Kept, Brought, Node, node, item, pair, sequence, mapping}
use Rattle.definition.specs.Deck.{Read, fault, got, bind, Whole, keep, bring, is_node, sound, read_record, own_or_on, read_whole, node_of, read_items, read_pairs, read_node, read_trees, read_deck, none_kept, none_brought, deepest}
use Rattle.definition.specs.declared.Cursor.{Cursor}
use Rattle.definition.specs.declared.Record.{Record}
use Rattle.definition.specs.declared.Record.TheVariants as is
use Rattle.deck.specs.Kids.{kids_of, twice}
use Rattle.deck.specs.Next.{next_of}
use Rattle.deck.specs.Outcome.{Outcome, bad, good, outcome, sound-is, next_past}
use Rattle.judge.specs.Judge.{Step, On, Refused, Good, Rejected, step_of, chain, lead_of, each, children, tally, verdict_of}

bind-chain : {A B : Type 0} (r : Read A) (k : A → Cursor → Read B) (K : Cursor → Step) → ((a : A) (d : Cursor) → step_of (k a d) ≡ K d) → step_of (bind r k) ≡ chain (step_of r) K
unfolding bind step_of chain
bind-chain (fault n p) k K h = refl
bind-chain (got a d) k K h = h a d

step_map : {A B : Type 0} (r : Read A) (g : A → B) → step_of (bind r (λ a d. got (g a) d)) ≡ step_of r
unfolding bind step_of
step_map (fault n p) g = refl
step_map (got a d) g = refl

module _ (f : Cursor → Read Node) where
  items-each : (n : ℕ) (c : Cursor) → step_of (read_items f n c) ≡ each (λ d. step_of (f d)) n c
  unfolding read_items each step_of
  items-each zero c = refl
  items-each (suc n) c = bind-chain (f c) _ (each (λ d. step_of (f d)) n) (λ x d. step_map (read_items f n d) (item x) ∙ items-each n d)

  -- a pair is two siblings
  pairs-each : (n : ℕ) (c : Cursor) → step_of (read_pairs f n c) ≡ each (λ d. step_of (f d)) (twice n) c
  unfolding read_pairs each step_of twice
  pairs-each zero c = refl
  pairs-each (suc n) c =
      bind-chain (f c) _ (each (λ d. step_of (f d)) (suc (twice n)))
      (λ k d. bind-chain (f d) _ (each (λ i. step_of (f i)) (twice n)) (λ v e. step_map (read_pairs f n e) (pair k v) ∙ pairs-each n e))

  node-each : (pool : Bytes) (p : ℕ) (a : Kept) (b : Brought) (r : Record) (c : Cursor) → step_of (node_of pool f p a b r c) ≡ each (λ d. step_of (f d)) (kids_of r) c
  unfolding node_of kids_of each step_of
  node-each pool p a b (is.Tag t) c = refl
  node-each pool p a b (is.Anchor t) c = refl
  node-each pool p a b (is.Source s) c = refl
  node-each pool p a b (is.Head h) c = refl
  node-each pool p a b (is.Inline t) c = refl
  node-each pool p a b (is.Foot t) c = refl
  node-each pool p a b (is.Raw t) c = refl
  node-each pool p a b (is.Directive t) c = refl
  node-each pool p a b (is.Layout l) c = refl
  node-each pool p a b is.Null c = refl
  node-each pool p a b (is.Scalar s) c = refl
  node-each pool p a b (is.Alias t) c = refl
  node-each pool p a b (is.Sequence g) c = step_map (read_items f g.count c) (λ xs. node p a b (sequence g.form xs)) ∙ items-each g.count c
  node-each pool p a b (is.Mapping g) c = step_map (read_pairs f g.count c) (λ ps. node p a b (mapping g.form ps)) ∙ pairs-each g.count c

abbrev whole_of : Bytes → Kept → Brought → Cursor → Whole
whole_of deck a b p = record { kept = a; brought = b; own = record_at deck p; place = p.at }

module _ (deck pool : Bytes) where
  -- whatever is made of a node's records, the judge makes it of the cursor of its own record
  lead-then :
      {B : Type 0} (k : Whole → Cursor → Read B) (K : Cursor → Step) →
      ((a : Kept) (b : Brought) (p : Cursor) → step_of (k (whole_of deck a b p) (past deck p)) ≡ K p) →
      (n last : ℕ) (a : Kept) (b : Brought) (c : Cursor) →
      step_of (bind (read_whole deck pool n last a b c) k) ≡ chain (lead_of deck pool n last c) K
  unfolding read_whole lead_of own_or_on bind step_of chain
  lead-then k K h zero last a b c = refl
  lead-then k K h (suc n) last a b c =
      let r = record_at deck c in
      go (outcome deck last c pool) (lead-then k K h n (kind_at deck c) (keep pool r a) (bring pool r b) (past deck c))
    where
      own :
          (w : Bool) →
          step_of (bind (read_whole deck pool n (kind_at deck c) (keep pool (record_at deck c) a) (bring pool (record_at deck c) b) (past deck c)) k)
          ≡ chain (lead_of deck pool n (kind_at deck c) (past deck c)) K →
          step_of (bind (when w then got (whole_of deck a b c) (past deck c) else read_whole deck pool n (kind_at deck c) (keep pool (record_at deck c) a) (bring pool (record_at deck c) b) (past deck c)) k)
          ≡ chain (when w then On c else lead_of deck pool n (kind_at deck c) (past deck c)) K
      own true ih = h a b c
      own false ih = ih

      go :
          {r : Read Record} → Outcome deck last c r →
          step_of (bind (read_whole deck pool n (kind_at deck c) (keep pool (record_at deck c) a) (bring pool (record_at deck c) b) (past deck c)) k)
          ≡ chain (lead_of deck pool n (kind_at deck c) (past deck c)) K →
          step_of (bind (bind r (own_or_on pool (λ a' b' d. read_whole deck pool n (kind_at deck c) a' b' d) a b c.at)) k)
          ≡ chain (chain (step_of r) (λ d. when is_node (record_at deck c) then On c else lead_of deck pool n (kind_at deck c) d)) K
      go bad ih = refl
      go (good s) ih = own (is_node (record_at deck c)) ih

  -- how the children of the own record at a cursor are judged, with so many levels left
  abbrev below : ℕ → Cursor → Step
  below zero p = Refused 6 p.at
  below (suc n) p = each (λ d. step_of (read_node deck pool n d)) (kids_of (record_at deck p)) (past deck p)

  pub node-is : (n : ℕ) (c : Cursor) → step_of (read_node deck pool n c) ≡ chain (lead_of deck pool (length deck) 0 c) (below n)
  unfolding read_node step_of
  node-is zero c = lead-then (λ w d. fault 6 w.place) (below zero) (λ a b p. refl) (length deck) 0 none_kept none_brought c
  node-is (suc n) c =
      lead-then (λ w d. node_of pool (read_node deck pool n) w.place w.kept w.brought w.own d) (below (suc n))
      (λ a b p. node-each (read_node deck pool n) pool p.at a b (record_at deck p) (past deck p))
      (length deck) 0 none_kept none_brought c

-- ---- one record

-- where refusal 3 has no reason, the total reader goes on where the definition's does
pub sound_next : (deck : Bytes) (last : ℕ) (c : Cursor) → sound deck last c ≡ true → next_of deck c ≡ past deck c
sound_next deck last c e = next_past deck last c (sound-is deck last c e).fits

-- ---- a node's leading records

module _ (deck pool : Bytes) (n last : ℕ) (c : Cursor) where
  pub lead_done : n ≡ 0 → lead_of deck pool n last c ≡ Refused 7 (length deck)
  unfolding lead_of
  lead_done e = rw e

  pub lead_stop : (a b : ℕ) → 0 < n → step_of (read_record deck pool last c) ≡ Refused a b → lead_of deck pool n last c ≡ Refused a b
  unfolding lead_of chain
  lead_stop a b h e = let p : n - 1 + 1 ≡ n = omega arith in rw (← p, add-one, e)

  pub lead_node : (d : Cursor) → 0 < n → step_of (read_record deck pool last c) ≡ On d → is_node (record_at deck c) ≡ true → lead_of deck pool n last c ≡ On c
  unfolding lead_of chain
  lead_node d h e t = let p : n - 1 + 1 ≡ n = omega arith in rw (← p, add-one, e, t)

  pub lead_more :
      (m : ℕ) (d : Cursor) → m + 1 ≡ n → step_of (read_record deck pool last c) ≡ On d → is_node (record_at deck c) ≡ false →
      lead_of deck pool n last c ≡ lead_of deck pool m (kind_at deck c) d
  unfolding lead_of chain
  lead_more m d h e t = rw (← h, add-one, e, t)

-- a record that is read lies in the deck as a whole
pub record_fits : (deck pool : Bytes) (last : ℕ) (c d : Cursor) → step_of (read_record deck pool last c) ≡ On d → c.at + size_of (kind_at deck c) ≤ length deck
unfolding step_of
record_fits deck pool last c d e = go (outcome deck last c pool) e
  where
    go : {x : Read Record} → Outcome deck last c x → step_of x ≡ On d → c.at + size_of (kind_at deck c) ≤ length deck
    go bad q = cc
    go (good s) q = s.fits

pub ruleset lead_steps = (lead_done, lead_stop, lead_node, lead_more, record_fits)

-- ---- a node

module _ (deck pool : Bytes) (levels n : ℕ) (c : Cursor) where
  pub children_done : n ≡ 0 → children deck pool levels n c ≡ On c
  unfolding children each
  children_done e = rw e

  pub children_stop : (a b : ℕ) → 0 < n → step_of (read_node deck pool levels c) ≡ Refused a b → children deck pool levels n c ≡ Refused a b
  unfolding children each chain
  children_stop a b h e = let p : n - 1 + 1 ≡ n = omega arith in rw (← p, add-one, e)

  pub children_more : (m : ℕ) (d : Cursor) → m + 1 ≡ n → step_of (read_node deck pool levels c) ≡ On d → children deck pool levels n c ≡ children deck pool levels m d
  unfolding children each chain
  children_more m d h e = rw (← h, add-one, e)

module _ (deck pool : Bytes) (n : ℕ) (c : Cursor) where
  pub node_stop : (a b : ℕ) → lead_of deck pool (length deck) 0 c ≡ Refused a b → step_of (read_node deck pool n c) ≡ Refused a b
  unfolding chain
  node_stop a b e = rw (node-is, e)

  pub node_deep : (p : Cursor) → lead_of deck pool (length deck) 0 c ≡ On p → n ≡ 0 → step_of (read_node deck pool n c) ≡ Refused 6 p.at
  unfolding chain
  node_deep p e z = rw (node-is, e, z)

  pub node_go :
      (m k : ℕ) (p d : Cursor) →
      m + 1 ≡ n → lead_of deck pool (length deck) 0 c ≡ On p → p.at + size_of (kind_at deck p) ≤ length deck → k ≡ kids_of (record_at deck p) → d ≡ next_of deck p →
      children deck pool m k d ≡ step_of (read_node deck pool n c)
  unfolding chain children
  node_go m k p d h e w i j = rw (node-is, e, ← h, add-one, i, j, next_past deck 0 p w)

pub ruleset node_steps = (children_done, children_stop, children_more, node_stop, node_deep, node_go)

-- ---- the trees of a deck

tally-cons : (k : ℕ) (x : Node) (r : Read (List Node)) → tally k (bind r (λ xs d. got (x ∷ xs) d)) ≡ tally (k + 1) r
unfolding tally bind
tally-cons k x (fault n p) = refl
tally-cons k x (got xs d) = ap Good (let z = length xs in omega arith)

module _ (deck pool : Bytes) (k n : ℕ) (c : Cursor) where
  pub trees_done : n ≡ 0 → tally k (read_trees deck pool n c) ≡ Good k
  unfolding read_trees tally
  trees_done e = rw e (ap Good (omega arith))

  pub trees_end : length deck ≤ c.at → tally k (read_trees deck pool n c) ≡ Good k
  unfolding read_trees tally
  trees_end h = go n
    where
      go : (n : ℕ) → tally k (read_trees deck pool n c) ≡ Good k
      go zero = ap Good (omega arith)
      go (suc n) = rw (le-leb _ _ h) (ap Good (omega arith))

  pub trees_stop : (a b : ℕ) → 0 < n → c.at < length deck → step_of (read_node deck pool 64 c) ≡ Refused a b → tally k (read_trees deck pool n c) ≡ Rejected a b
  unfolding read_trees deepest bind step_of tally
  trees_stop a b h l e = let p : n - 1 + 1 ≡ n = omega arith in rw (← p, add-one, lt-leb _ _ l) (go (n - 1) (read_node deck pool 64 c) e)
    where
      go : (m : ℕ) (r : Read Node) → step_of r ≡ Refused a b → tally k (bind r (λ x d. bind (read_trees deck pool m d) (λ xs i. got (x ∷ xs) i))) ≡ Rejected a b
      go m (fault x y) q = let o : x ≡ a = cc in let u : y ≡ b = cc in rw (o, u)
      go m (got x i) q = cc

  pub trees_more :
      (m : ℕ) (j : Cursor) → m + 1 ≡ n → c.at < length deck → step_of (read_node deck pool 64 c) ≡ On j →
      tally k (read_trees deck pool n c) ≡ tally (k + 1) (read_trees deck pool m j)
  unfolding read_trees deepest bind step_of
  trees_more m j h l e = rw (← h, add-one m, lt-leb _ _ l) (go (read_node deck pool 64 c) e)
    where
      go : (r : Read Node) → step_of r ≡ On j → tally k (bind r (λ x i. bind (read_trees deck pool m i) (λ xs d. got (x ∷ xs) d))) ≡ tally (k + 1) (read_trees deck pool m j)
      go (fault a b) q = cc
      go (got x i) q = let o : i ≡ j = cc in rw o (tally-cons k x (read_trees deck pool m j))

pub deck_is : (deck pool : Bytes) → verdict_of (read_deck deck pool) ≡ tally 0 (read_trees deck pool (length deck) (record { at = 0 }))
unfolding read_deck tally verdict_of
deck_is deck pool = go (read_trees deck pool (length deck) (record { at = 0 }))
  where
    go : (r : Read (List Node)) → verdict_of r ≡ tally 0 r
    go (fault n p) = refl
    go (got ts d) = ap Good (omega arith)

pub ruleset tree_steps = (trees_done, trees_end, trees_stop, trees_more, deck_is)
