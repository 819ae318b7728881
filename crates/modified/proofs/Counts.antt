-- Laws of counting changed files.
-- Assumes nothing.
use mathlib.Core.Path.{◌≡◌, refl, sym, ap, ◌∙◌}
use Prim.Native.Nat.{ℕ, ◌+◌, ◌-◌, ◌<◌, ◌≤◌}
use native.Mathlib.Omega.{arith}
use mathlib.Core.Bool.{Bool, true, false}
use mathlib.Core.List.{[]}
use mir.Val.{bool_byte}
use lib.ListN.{length, length-append}
use Rattle.definition.specs.Base.{Bytes, when◌then◌else◌}
use Rattle.definition.specs.Change.{boundaries, changed, local_modified}
use Rattle.definition.specs.declared.Cursor.{Cursor}
use Rattle.definition.specs.Records.{File}
use Rattle.std.specs.Prelude.{None, Some, is_some}
use Rattle.node.specs.Head.{Maybe}
use Rattle.node.specs.Total.{tree_at}
use Rattle.spot.specs.declared.Spot.{Spot}
use Rattle.spot.specs.Good.{good-at}
use Rattle.spot.specs.Spot.{spot_at}
use Rattle.modified.specs.declared.Own.{Own}
use Rattle.modified.specs.declared.Counted.{Counted}
use Rattle.modified.specs.Local.{kids_in, kids-after, end_is}
use Rattle.modified.specs.Files.{file_named, file_at, file-is, entry, changed_from, changed-at, changed_up_to, changed-end, changed-none, changed-more, changed-all, tally, entry_length, Files, Owns, Counts, CountsAll}
use Rattle.modified.proofs.Going.{one-more, no-more, Going, going_on, going_end}
use Rattle.modified.proofs.Ahead.{include-ahead}

-- ---- a node's own file

tally-most : (f : File) → tally f ≤ 1
unfolding tally
tally-most None = omega arith
tally-most (Some i) = omega arith

pub tally-is : (f : File) → bool_byte (is_some f) ≡ tally f
unfolding tally
tally-is None = refl
tally-is (Some i) = refl

tally-none : (m : Bool) → tally (when m then None else None) ≡ 0
unfolding tally
tally-none true = refl
tally-none false = refl

module _ (deck : Bytes) (c : Cursor) (k : c.at ≤ length deck) (b : length deck ≤ 65536) (f : File) (i : Files deck c f) where
  own-few : c.at + tally f ≤ (spot_at deck c).next.at
  unfolding file_named
  own-few = go (spot_at deck c).lead.origin refl
    where
      go : (o : Maybe) → (spot_at deck c).lead.origin ≡ o → c.at + tally f ≤ (spot_at deck c).next.at
      go None e =
          let p = good-at deck c k b in
          let z = ap tally (i.told [] ∙ rw e at (file-is deck [] c k)) ∙ tally-none (local_modified (tree_at deck [] c).value) in
          let q = p.0.ahead in
          let o = p.1 in
          omega (arith, z, q, o)
      go (Some d) e =
          let p = include-ahead deck c (rw e) in
          let q = (good-at deck c k b).0.ahead in
          let m = tally-most f in
          omega (arith, p, q, m)

  pub own_is : (x : Spot) → x ≡ spot_at deck c → {n m : ℕ} → n ≡ tally f → m ≡ kids_in x.body → Owns deck c (record { count = n; kids = m; next = x.next })
  own_is x at p q =
      record {
        told = λ pool.
            rw (p, q, at) (
            ap length (changed-at deck pool c k)
            ∙ length-append (entry (file_at deck pool c) (tree_at deck pool c).value) _
            ∙ ap (λ (a : ℕ). a + length (changed_from deck pool (kids_in (spot_at deck c).body) (spot_at deck c).next)) (entry_length (file_at deck pool c) _ ∙ ap tally (sym (i.told pool))));
        ends = λ pool. rw (q, at) (end_is deck pool c k);
        after = rw (q, at) (kids-after deck c k);
        few = rw (p, at) own-few;
      }

-- ---- the children, one after another

-- i of them are passed: with any pool, what is counted and what is left make the whole
pub record Tally (deck : Bytes) (own : Own) (count i : ℕ) (here : Cursor) : Type 0 where
  pub told : (pool : Bytes) → count + length (changed_from deck pool (own.kids - i) here) ≡ own.count + length (changed_from deck pool own.kids own.next)
  pub going : Going deck own.kids own.next i here
  pub few : count + own.next.at ≤ own.count + here.at

module _ (deck : Bytes) (c : Cursor) (own : Own) (w : Owns deck c own) where
  module _ (count i : ℕ) (here : Cursor) (t : Tally deck own count i here) where
    length_more :
        (pool : Bytes) → i < own.kids
        → length (changed_from deck pool (own.kids - i) here)
        ≡ length (changed (boundaries (tree_at deck pool here).value)) + length (changed_from deck pool (own.kids - (i + 1)) (tree_at deck pool here).next)
    unfolding changed_from
    length_more pool h = rw (one-more own.kids i h) (length-append (changed (boundaries (tree_at deck pool here).value)) _)

    pub tally-more : {r : Counted} → i < own.kids → Counts deck here r → Tally deck own (count + r.count) (i + 1) r.next
    tally-more {r} h k =
        record {
          told = λ pool.
              let p = t.told pool in
              let q = length_more pool h in
              let s = k.told pool in
              rw (k.ends pool) (omega (arith, p, q, s));
          going = going_on deck own.kids own.next i here t.going h (λ pool. k.ends pool) (let f = k.few in omega (arith, f)) k.within;
          few = (let f = t.few in let g = k.few in omega (arith, f, g));
        }

    -- what is counted is no more than what is passed
    pub tally-fits : c.at + count ≤ here.at
    tally-fits = let p = w.few in let q = t.few in omega (arith, p, q)

    pub tally-done : own.kids ≤ i → Counts deck c (record { count = count; next = here })
    unfolding changed_from
    tally-done h =
        record {
          told = λ pool. let p = rw (no-more own.kids i h) at (t.told pool) in let q = w.told pool in omega (arith, p, q);
          ends = λ pool. going_end deck own.kids own.next i here t.going pool h ∙ sym (w.ends pool);
          few = tally-fits;
          within = t.going.within;
        }

-- ---- documents

-- i of them are passed at most
pub record Sum (deck : Bytes) (count i : ℕ) (here : Cursor) : Type 0 where
  pub told : (pool : Bytes) → count + length (changed_up_to deck pool (length deck - i) here) ≡ length (changed_up_to deck pool (length deck) (record { at = 0 }))
  pub few : count ≤ here.at
  pub within : here.at ≤ length deck

module _ (deck : Bytes) (count i : ℕ) (here : Cursor) (t : Sum deck count i here) where
  pub sum_more : {r : Counted} → i < length deck → here.at < length deck → Counts deck here r → Sum deck (count + r.count) (i + 1) r.next
  sum_more {r} h l k =
      record {
        told = λ pool.
            let p = rw (one-more (length deck) i h, changed-more deck pool (length deck - (i + 1)) here l, length-append (changed (boundaries (tree_at deck pool here).value)) _) at (t.told pool) in
            let s = k.told pool in
            rw (k.ends pool) (omega (arith, p, s));
        few = (let f = t.few in let g = k.few in omega (arith, f, g));
        within = k.within;
      }

  sum_is : ((pool : Bytes) → changed_up_to deck pool (length deck - i) here ≡ []) → CountsAll deck count
  sum_is e =
      record {
        told = λ pool. (let p = t.told pool in let q = ap length (e pool) in let z : count ≡ length (changed_up_to deck pool (length deck) (record { at = 0 })) = omega (arith, p, q) in z) ∙ ap length (changed-all deck pool);
        few = (let f = t.few in let w = t.within in omega (arith, f, w));
      }

  pub sum-end : length deck ≤ here.at → CountsAll deck count
  sum-end h = sum_is (λ pool. changed-end deck pool (length deck - i) here h)

  pub sum-out : length deck ≤ i → CountsAll deck count
  sum-out h = sum_is (λ pool. ap (λ (m : ℕ). changed_up_to deck pool m here) (no-more (length deck) i h) ∙ changed-none deck pool here)
