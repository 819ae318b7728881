-- Laws of what is told to have no comments: handed on from a node to what is below it, from a flow collection to its entries.
-- Assumes nothing.
use mathlib.Core.Path.{◌≡◌, refl, sym, ◌∙◌}
use Prim.Native.Nat.{ℕ, zero, suc, ◌-◌, ◌*◌, ◌<◌, ◌≤◌}
use native.Mathlib.Omega.{arith}
use mathlib.Core.Bool.{Bool, true, false, not, ◌||◌, true≢false}
use lib.ListN.{length}
use Rattle.definition.specs.Base.{Bytes}
use Rattle.definition.specs.Tree.{Node, node}
use Rattle.definition.specs.Walk.{has_comments}
use Rattle.definition.specs.declared.Cursor.{Cursor}
use Rattle.definition.specs.declared.Group.{Group}
use Rattle.laws.specs.Tests.{neither_left, neither_right}
use Rattle.deck.specs.Kids.{twice}
use Rattle.node.specs.Total.{tree_at}
use Rattle.node.specs.Loud.{loud, loud_kind, some_of, loud_from, loud-items, loud-pairs}
use Rattle.node.specs.Ends.{Still}
use Rattle.spot.specs.declared.Spot.{Spot}
use Rattle.spot.specs.Spot.{kind_of, kind_in, node_in, spot_at, tree-value}
use Rattle.choices.specs.Siblings.{some_from, Some, some-items, some_pairs}
use Rattle.joints.specs.Entries.{next_at, last_of, entry_end, some_comments}
use Rattle.flow.specs.Hushed.{trees_in, Hushed, HushedIn, Quiet, Lined}
use Rattle.flow.proofs.Laws.{grouped}

-- ---- trees one after another: the first, and the others

module _ (deck pool : Bytes) (n : ℕ) (c : Cursor) (e : loud_from deck pool (suc n) c ≡ false) where
  first_of : loud (tree_at deck pool c).value ≡ false
  unfolding loud_from some_of
  first_of = neither_left (loud (tree_at deck pool c).value) (loud_from deck pool n (next_at deck pool c)) e

  rest_of : loud_from deck pool n (next_at deck pool c) ≡ false
  unfolding loud_from some_of
  rest_of = neither_right (loud (tree_at deck pool c).value) (loud_from deck pool n (next_at deck pool c)) e

all_of : (deck pool : Bytes) (n : ℕ) (c : Cursor) → loud (tree_at deck pool c).value ≡ false → loud_from deck pool n (next_at deck pool c) ≡ false → loud_from deck pool (suc n) c ≡ false
unfolding loud_from some_of
all_of deck pool n c a b = rw (a, b)

none_of : (deck pool : Bytes) (c : Cursor) → loud_from deck pool 0 c ≡ false
unfolding loud_from some_of
none_of deck pool c = refl

module _ (deck pool : Bytes) (still : Bool) where
  -- ---- of a node, what is below it

  pub hushed-grouped : (pairs : Bool) (x : Spot) (g : Group) → x.body ≡ grouped pairs g → HushedIn deck pool still x → Hushed deck pool still (trees_in pairs g.count) x.next
  unfolding trees_in kind_of loud_kind loud_from
  hushed-grouped false x g b h = record { told = λ e. sym (loud-items (tree_at deck pool) g.count x.next) ∙ rw b at (h.told e) }
  hushed-grouped true x g b h = record { told = λ e. sym (loud-pairs (tree_at deck pool) g.count x.next) ∙ rw b at (h.told e) }

  -- ---- of entries, the first and the others

  pub hushed-first : (pairs : Bool) (n : ℕ) (c : Cursor) → 0 < n → Hushed deck pool still (trees_in pairs n) c → Hushed deck pool still (trees_in pairs 1) c
  unfolding trees_in twice
  hushed-first pairs zero c l h = absurd (omega arith)
  hushed-first true (suc n) c l h =
      record {
        told = λ e.
            all_of deck pool 1 c (first_of deck pool _ c (h.told e))
            (all_of deck pool 0 (next_at deck pool c) (first_of deck pool _ (next_at deck pool c) (rest_of deck pool _ c (h.told e))) (none_of deck pool _));
      }
  hushed-first false (suc n) c l h = record { told = λ e. all_of deck pool 0 c (first_of deck pool _ c (h.told e)) (none_of deck pool _) }

  pub hushed-rest : (pairs : Bool) (n : ℕ) (c d : Cursor) → 0 < n → d ≡ entry_end deck pool pairs c → Hushed deck pool still (trees_in pairs n) c → Hushed deck pool still (trees_in pairs (n - 1)) d
  unfolding trees_in twice entry_end last_of
  hushed-rest pairs zero c d l q h = absurd (omega arith)
  hushed-rest true (suc n) c d l q h = let z : suc n - 1 ≡ n = omega arith in rw (z, q) (record { told = λ e. rest_of deck pool _ (next_at deck pool c) (rest_of deck pool _ c (h.told e)) })
  hushed-rest false (suc n) c d l q h = let z : suc n - 1 ≡ n = omega arith in rw (z, q) (record { told = λ e. rest_of deck pool _ c (h.told e) })

  -- ---- of an entry, its first node and its last one

  pub hushed-lead : (pairs : Bool) (c : Cursor) → Hushed deck pool still (trees_in pairs 1) c → Hushed deck pool still 1 c
  unfolding trees_in twice
  hushed-lead true c h = record { told = λ e. all_of deck pool 0 c (first_of deck pool 1 c (h.told e)) (none_of deck pool _) }
  hushed-lead false c h = h

  pub hushed-last : (pairs : Bool) (c d : Cursor) → d ≡ last_of deck pool pairs c → Hushed deck pool still (trees_in pairs 1) c → Hushed deck pool still 1 d
  unfolding trees_in twice last_of
  hushed-last true c d q h = rw q (record { told = λ e. rest_of deck pool 1 c (h.told e) })
  hushed-last false c d q h = rw q h

  -- ---- of the tree at a cursor, what is below its node

  pub hushed-node : (c : Cursor) (x : Spot) → c.at ≤ length deck → x ≡ spot_at deck c → Hushed deck pool still 1 c → HushedIn deck pool still x
  unfolding loud node_in
  hushed-node c x k q h =
      record {
        told = λ e.
            let a : loud (node_in deck pool x) ≡ false = rw (tree-value deck pool c k, ← q) at (first_of deck pool 0 c (h.told e)) in
            neither_right (has_comments (node_in deck pool x)) (loud_kind (kind_in deck pool x)) a;
      }

-- ---- of a flow collection: told or found

module _ (deck pool : Bytes) (n : ℕ) (c : Cursor) where
  pub quiet_is : (still quiet : Bool) → Hushed deck pool still n c → Quiet deck still n c quiet → Hushed deck pool quiet n c
  quiet_is still quiet h q = record { told = λ e. go still (loud_from deck pool n c) h.told (sym e ∙ q.told pool) }
    where
      go : (s l : Bool) → (s ≡ true → l ≡ false) → true ≡ (s || not l) → l ≡ false
      go true l f z = f refl
      go false true f z = z
      go false false f z = refl

-- trees that are still have no comments
module _ (deck pool : Bytes) where
  silent : (x : Node) → loud x ≡ false → has_comments x ≡ false
  unfolding loud
  silent (node p a b k) e = neither_left (has_comments (node p a b k)) (loud_kind k) e

  still-none : (n : ℕ) (c : Cursor) → loud_from deck pool n c ≡ false → some_from deck pool n c ≡ false
  unfolding some_from some_of
  still-none zero c e = refl
  still-none (suc n) c e = rw (silent (tree_at deck pool c).value (first_of deck pool n c e), still-none n (next_at deck pool c) (rest_of deck pool n c e))

  pub hushed-none : (pairs : Bool) (n : ℕ) (c : Cursor) → Hushed deck pool true (trees_in pairs n) c → false ≡ some_comments deck pool pairs n c
  unfolding trees_in some_comments
  hushed-none true n c h = sym (sym (some_pairs deck pool n c) ∙ still-none (twice n) c (h.told refl))
  hushed-none false n c h = sym (sym (some-items deck pool n c) ∙ still-none n c (h.told refl))

-- ---- the two tests

module _ (deck : Bytes) (pairs : Bool) (n : ℕ) (c : Cursor) where
  pub lined_quiet : (quiet : Bool) → quiet ≡ true → Lined deck quiet pairs n c false
  lined_quiet quiet e = record { told = λ pool h. hushed-none deck pool pairs n c (rw e at h) }

  pub lined_found : (quiet r : Bool) → Some deck c (trees_in pairs n) r → Lined deck quiet pairs n c r
  unfolding some_comments trees_in
  lined_found quiet r s = record { told = λ pool h. s.told pool ∙ some-entries pool pairs }
    where
      some-entries : (pool : Bytes) (b : Bool) → some_from deck pool (trees_in b n) c ≡ some_comments deck pool b n c
      some-entries pool true = some_pairs deck pool n c
      some-entries pool false = some-items deck pool n c

  pub quiet_told : (still : Bool) → still ≡ true → Quiet deck still (trees_in pairs n) c true
  quiet_told still e = record { told = λ pool. rw e }

  pub quiet_found : (still r : Bool) → still ≡ false → Still deck (trees_in pairs n) c r → Quiet deck still (trees_in pairs n) c r
  quiet_found still r e s = record { told = λ pool. rw e (s.told pool) }

pub trees_pairs : (pairs : Bool) (n : ℕ) → pairs ≡ true → 2 * n ≡ trees_in pairs n
unfolding trees_in twice
trees_pairs true zero e = refl
trees_pairs true (suc m) e = let h : 2 * m ≡ trees_in true m = trees_pairs true m refl in omega arith
trees_pairs false n e = absurd (true≢false (sym e))

pub trees_items : (pairs : Bool) (n : ℕ) → pairs ≡ false → n ≡ trees_in pairs n
unfolding trees_in
trees_items false n e = refl
trees_items true n e = absurd (true≢false e)
