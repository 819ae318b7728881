-- Laws of the changed test, for the functions that make it.
-- Assumes nothing.
use mathlib.Core.Path.{◌≡◌, refl, sym, ◌∙◌}
use Prim.Native.Nat.{ℕ, zero, suc, ◌+◌, ◌-◌, ◌*◌, ◌<◌, ◌≤◌}
use native.Mathlib.Omega.{arith}
use mathlib.Core.Bool.{Bool, true, false, not, ◌&&◌, ◌||◌}
use lib.ListN.{length}
use Rattle.std.specs.Prelude.{None, Some}
use Rattle.std.specs.Bool.{then_some}
use Rattle.definition.specs.Base.{Bytes, when◌then◌else◌, is_some as is_one}
use Rattle.definition.specs.Tree.{kept}
use Rattle.definition.specs.Deck.{marked}
use Rattle.definition.specs.Walk.{included}
use Rattle.definition.specs.Change.{local_modified}
use Rattle.definition.specs.declared.Cursor.{Cursor}
use Rattle.definition.specs.Records.{File}
use Rattle.deck.specs.Kids.{twice}
use Rattle.node.specs.Head.{Maybe, there}
use Rattle.node.specs.Ends.{Ends}
use Rattle.node.specs.Fuel.{nexts}
use Rattle.node.specs.Total.{kept_of, origin_of, tree_at}
use Rattle.definition.specs.declared.Group.{Group}
use Rattle.spot.specs.declared.Body.{Body}
use Rattle.spot.specs.declared.Body.TheVariants.{Null, Scalar, Alias, Sequence, Mapping}
use Rattle.spot.specs.declared.Spot.{Spot}
use Rattle.spot.specs.Spot.{pairs_in, spot_at, node_in, tree-value}
use Rattle.modified.specs.declared.Start.{Start}
use Rattle.modified.specs.Local.{kids_in, kids-after, seen, turned, some_seen, some_left, local-is, end_is, Starts, Looks, Changed}
use Rattle.modified.proofs.Going.{one-more, no-more, Going, going_on, going_end}
use Rattle.modified.specs.Files.{file_named, file_at, file-is, Files}

pub twice-is : (n : ℕ) → 2 * n ≡ twice n
unfolding twice
twice-is zero = refl
twice-is (suc n) = let e : 2 * n ≡ twice n = twice-is n in omega arith

-- a leaf has no children
pub leaf-kids : (b : Body) → ((g : Group) → b ≡ Sequence g → ⊥) → ((g : Group) → b ≡ Mapping g → ⊥) → 0 ≡ kids_in b
unfolding kids_in
leaf-kids Null h k = refl
leaf-kids (Scalar w) h k = refl
leaf-kids (Alias t) h k = refl
leaf-kids (Sequence g) h k = absurd (h g refl)
leaf-kids (Mapping g) h k = absurd (k g refl)

-- what is none is not some
pub is-none : (n s : Bool) → s ≡ not n → n ≡ not s
is-none true s e = rw e
is-none false s e = rw e

-- ---- what a node says before its children do

origin-is : (deck pool : Bytes) (o : Maybe) → is_one (origin_of deck pool o) ≡ there o
unfolding origin_of is_one
origin-is deck pool None = refl
origin-is deck pool (Some c) = refl

seen-is : (deck pool : Bytes) (key : Bool) (x : Spot) → seen key (node_in deck pool x) ≡ (not (not key && there x.lead.origin) && local_modified (node_in deck pool x))
unfolding seen node_in kept kept_of included
seen-is deck pool true x = refl
seen-is deck pool false x = rw (origin-is deck pool x.lead.origin)

module _ (deck : Bytes) (c : Cursor) (k : c.at ≤ length deck) (key : Bool) (x : Spot) (at : x ≡ spot_at deck c) where
  seen_at : (pool : Bytes) {b : Bool} → b ≡ (not key && there x.lead.origin) → seen key (tree_at deck pool c).value ≡ (not b && local_modified (node_in deck pool x))
  seen_at pool e = rw (tree-value deck pool c k, ← at, e) (seen-is deck pool key x)

  pub start-passed :
      {b : Bool} {e : Cursor} → b ≡ (not key && there x.lead.origin) → b ≡ true → Ends deck c e
      → Starts deck c key (Some (record { pairs = false; kids = 0; next = e }))
  unfolding some_left some_seen nexts
  start-passed e f d =
      record {
        told = λ pool. rw f at (seen_at pool e);
        left = record {
          ends = λ pool. sym (d.tree pool);
          after = record { onward = d.onward; within = d.within; deeper = λ h. absurd (omega arith) };
        };
      }

  pub start-marked :
      {b m : Bool} → b ≡ (not key && there x.lead.origin) → b ≡ false → m ≡ marked x.lead.lines.marks 1 → m ≡ true → Starts deck c key None
  unfolding some_left
  start-marked e f g t = record { told = λ pool. rw f at (seen_at pool e) ∙ rw (sym g ∙ t) at (local-is deck pool x); left = tt }

  pub start-kids :
      {b m p : Bool} {n : ℕ} → b ≡ (not key && there x.lead.origin) → b ≡ false → m ≡ marked x.lead.lines.marks 1 → m ≡ false
      → p ≡ pairs_in x.body → n ≡ kids_in x.body → Starts deck c key (Some (record { pairs = p; kids = n; next = x.next }))
  unfolding some_left
  start-kids e f g t p q =
      record {
        told = λ pool. rw (p, q) (rw f at (seen_at pool e) ∙ rw (sym g ∙ t) at (local-is deck pool x));
        left = record {
          ends = λ pool. rw (q, at) (end_is deck pool c k);
          after = rw (q, at) (kids-after deck c k);
        };
      }

-- ---- the children, one after another

-- i of them are passed: with any pool, the others say what all say
pub record Rest (deck : Bytes) (s : Start) (key : Bool) (i : ℕ) (here : Cursor) : Type 0 where
  pub told : (pool : Bytes) → some_seen deck pool s.pairs key (s.kids - i) here ≡ some_seen deck pool s.pairs s.pairs s.kids s.next
  pub going : Going deck s.kids s.next i here

module _ (deck : Bytes) (c : Cursor) (key₀ : Bool) (s : Start) (b : Starts deck c key₀ (Some s)) where
  module _ (key : Bool) (i : ℕ) (here : Cursor) (r : Rest deck s key i here) where
    seen_more :
        (pool : Bytes) → i < s.kids
        → some_seen deck pool s.pairs key (s.kids - i) here
        ≡ (seen key (tree_at deck pool here).value || some_seen deck pool s.pairs (turned s.pairs key) (s.kids - (i + 1)) (tree_at deck pool here).next)
    unfolding some_seen
    seen_more pool h = rw (one-more s.kids i h)

    pub look-found : i < s.kids → Looks deck here key None → Looks deck c key₀ None
    unfolding some_left
    look-found h l =
        record {
          told = λ pool. sym (b.told pool ∙ sym (r.told pool) ∙ seen_more pool h ∙ rw (← l.told pool));
          ended = tt;
        }

    pub one-passed : {e : Cursor} {t : Bool} → i < s.kids → Looks deck here key (Some e) → t ≡ turned s.pairs key → Rest deck s t (i + 1) e
    one-passed {e} {t} h l q =
        record {
          told = λ pool. rw (q, l.ended.ends pool) (sym (seen_more pool h ∙ rw (← l.told pool)) ∙ r.told pool);
          going = going_on deck s.kids s.next i here r.going h (λ pool. l.ended.ends pool) l.ended.onward l.ended.within;
        }

    pub look-done : s.kids ≤ i → Looks deck c key₀ (Some here)
    unfolding some_left some_seen
    look-done h =
        record {
          told = λ pool. sym (b.told pool ∙ sym (rw (no-more s.kids i h) at (r.told pool)));
          ended = record {
            ends = λ pool. going_end deck s.kids s.next i here r.going pool h ∙ sym (b.left.ends pool);
            onward = (let p = b.left.after.onward in let q = r.going.onward in omega arith);
            within = r.going.within;
          };
        }

pub marked-none : (deck : Bytes) (c : Cursor) (key : Bool) → Starts deck c key None → Looks deck c key None
unfolding some_left
marked-none deck c key b = record { told = λ pool. sym (b.told pool); ended = tt }

-- ---- the file of a node

module _ (deck : Bytes) (c : Cursor) (k : c.at ≤ length deck) (o : Maybe) (at : o ≡ (spot_at deck c).lead.origin) where
  file-found : {f : File} → f ≡ file_named deck o → (pool : Bytes) → file_at deck pool c ≡ (when local_modified (tree_at deck pool c).value then f else None)
  file-found e pool = rw (← at, ← e) at (file-is deck pool c k)

  pub file-absent : None ≡ file_named deck o → Files deck c None
  file-absent e = record { told = λ pool. sym (file-found e pool ∙ same (local_modified (tree_at deck pool c).value)) }
    where
      same : (b : Bool) → ◌≡◌ {A = File} (when b then None else None) None
      same true = refl
      same false = refl

  pub file-changed : {i : ℕ} {b : Bool} → Some i ≡ file_named deck o → Changed deck c b → Files deck c (then_some b i)
  file-changed {i} {b} e d = record { told = λ pool. sym (file-found e pool ∙ rw (← d.told pool) (same b)) }
    where
      same : (b : Bool) → (when b then Some i else None) ≡ then_some b i
      same true = refl
      same false = refl
