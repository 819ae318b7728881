-- What is known of the node at a cursor: it lies ahead, its children lie further on, its runs are short.
use Rattle.std.specs.Prelude.{◌≡◌, Bool, length, get_or}
use Rattle.std.proofs.Math.Path.{refl}
use Rattle.std.proofs.Common.{sym, ◌∙◌, true≢false}
use Prim.Native.Nat.{ℕ, zero, suc, ◌+◌, ◌<◌, ◌≤◌}
use native.Mathlib.Omega.{arith}
use Rattle.std.proofs.Math.Bool.{true, false}
use Rattle.std.proofs.Math.Dec.{eqb}
use borrow.Author.Tests.{ne_eqb, eqb-true, eqb-false}
use Rattle.definition.specs.Base.{Bytes, when◌then◌else◌}
use Rattle.definition.specs.Records.{byte_at, word_at, group_at, kind_at, record_of, record_at, size_of}
use Rattle.definition.specs.Deck.{is_node}
use Rattle.definition.specs.declared.Cursor.{Cursor}
use Rattle.definition.specs.declared.Record.{Record}
use Rattle.definition.specs.declared.Record.TheVariants as is
use Rattle.deck.specs.Kids.{either}
use Rattle.deck.specs.Next.{next_of}
use Rattle.node.specs.declared.Lead.{Lead}
use Rattle.node.specs.declared.Run.{Run}
use Rattle.node.specs.Head.{no_lead, onto, add_to, headed, head_from, head_at}
use Rattle.node.specs.Fuel.{head-at-onward, next-within, collection}
use Rattle.comments.specs.Runs.{Short}
use Rattle.spot.specs.declared.Body.{Body}
use Rattle.spot.specs.declared.Body.TheVariants as body
use Rattle.spot.specs.declared.Spot.{Spot}
use Rattle.spot.specs.Spot.{count_in, body_of, spot_of, spot_at}

-- ---- runs

-- at most n records, the first at m or before
record Few (n m : ℕ) (r : Run) : Type 0 where
  first : r.first.at ≤ m
  count : r.count ≤ n

few-more : (n m : ℕ) (r : Run) → Few n m r → Few (suc n) m r
few-more n m r f = let c = f.count in record { first = f.first; count = omega arith }

few-onto : (n m : ℕ) (r : Run) (c : Cursor) → c.at ≤ m → Few n m r → Few (suc n) m (onto r c)
unfolding onto
few-onto n m r c k f = let z = f.count in record { first = go (eqb r.count 0); count = omega arith }
  where
    go : (b : Bool) → (when b then c else r.first).at ≤ m
    go true = k
    go false = f.first

record Lodged (n m : ℕ) (l : Lead) : Type 0 where
  heads : Few n m l.heads
  foots : Few n m l.foots
  directives : Few n m l.directives

lodged-more : (n m : ℕ) (l : Lead) → Lodged n m l → Lodged (suc n) m l
lodged-more n m l f = record { heads = few-more n m _ f.heads; foots = few-more n m _ f.foots; directives = few-more n m _ f.directives }

lodged-add : (n m : ℕ) (r : Record) (c : Cursor) (l : Lead) → c.at ≤ m → Lodged n m l → Lodged (suc n) m (add_to r c l)
unfolding add_to
lodged-add n m (is.Tag t) c l k f = let g = lodged-more n m l f in record { heads = g.heads; foots = g.foots; directives = g.directives }
lodged-add n m (is.Anchor t) c l k f = let g = lodged-more n m l f in record { heads = g.heads; foots = g.foots; directives = g.directives }
lodged-add n m (is.Source i) c l k f = let g = lodged-more n m l f in record { heads = g.heads; foots = g.foots; directives = g.directives }
lodged-add n m (is.Head h) c l k f = let g = lodged-more n m l f in record { heads = few-onto n m _ c k f.heads; foots = g.foots; directives = g.directives }
lodged-add n m (is.Inline t) c l k f = let g = lodged-more n m l f in record { heads = g.heads; foots = g.foots; directives = g.directives }
lodged-add n m (is.Foot t) c l k f = let g = lodged-more n m l f in record { heads = g.heads; foots = few-onto n m _ c k f.foots; directives = g.directives }
lodged-add n m (is.Raw t) c l k f = let g = lodged-more n m l f in record { heads = g.heads; foots = g.foots; directives = g.directives }
lodged-add n m (is.Directive t) c l k f = let g = lodged-more n m l f in record { heads = g.heads; foots = g.foots; directives = few-onto n m _ c k f.directives }
lodged-add n m (is.Layout s) c l k f = let g = lodged-more n m l f in record { heads = g.heads; foots = g.foots; directives = g.directives }
lodged-add n m is.Null c l k f = lodged-more n m l f
lodged-add n m (is.Scalar w) c l k f = lodged-more n m l f
lodged-add n m (is.Alias t) c l k f = lodged-more n m l f
lodged-add n m (is.Sequence g) c l k f = lodged-more n m l f
lodged-add n m (is.Mapping g) c l k f = lodged-more n m l f

module _ (deck : Bytes) where
  record Ends (l : Lead) : Type 0 where
    most : ℕ
    bound : most ≤ length deck
    lodged : Lodged most (length deck) l

  lodged-from : (k n : ℕ) (l : Lead) (c : Cursor) → c.at ≤ length deck → n + k ≤ length deck → Lodged n (length deck) l → Ends (head_from deck k l c).lead
  unfolding head_from headed
  lodged-from zero n l c h b f = record { most = n; bound = omega arith; lodged = f }
  lodged-from (suc k) n l c h b f =
      go (is_node (record_at deck c)) (lodged-from k (suc n) (add_to (record_at deck c) c l) (next_of deck c) (next-within deck c) (omega arith) (lodged-add n (length deck) (record_at deck c) c l h f))
    where
      go : (t : Bool) → Ends (head_from deck k (add_to (record_at deck c) c l) (next_of deck c)).lead → Ends (when t then headed deck l c else head_from deck k (add_to (record_at deck c) c l) (next_of deck c)).lead
      go true e = record { most = n; bound = omega arith; lodged = f }
      go false e = e

  none-lodged : Lodged 0 (length deck) no_lead
  none-lodged = let f : Few 0 (length deck) no_lead.heads = record { first = omega arith; count = omega arith } in record { heads = f; foots = f; directives = f }

  head-short : (c : Cursor) → c.at ≤ length deck → length deck ≤ 65536 → Short (head_at deck c).lead
  unfolding head_at
  head-short c h b =
      let e = lodged-from (length deck) 0 no_lead c h (omega arith) none-lodged in
      let m = e.bound in
      let x = e.lodged.heads in
      let y = e.lodged.foots in
      let z = e.lodged.directives in
      record {
        heads-first = omega (arith, x.first, b);
        heads-count = omega (arith, x.count, m, b);
        foots-first = omega (arith, y.first, b);
        foots-count = omega (arith, y.count, m, b);
        directives-first = omega (arith, z.first, b);
        directives-count = omega (arith, z.count, m, b);
      }

-- ---- collections

unfoldable pub is_group : Body → Bool
is_group body.Null = false
is_group (body.Scalar w) = false
is_group (body.Alias t) = false
is_group (body.Sequence g) = true
is_group (body.Mapping g) = true

pub record Good (deck : Bytes) (x : Spot) : Type 0 where
  pub ahead : x.place ≤ x.next.at
  pub within : x.next.at ≤ length deck
  pub deeper : is_group x.body ≡ true → x.place < x.next.at
  pub short : Short x.lead

module _ (deck : Bytes) where
  -- only kinds 23 and 24 are collections
  no-group : (k at : ℕ) → (k ≡ 0x23 → ⊥) → (k ≡ 0x24 → ⊥) → is_group (body_of (record_of k deck at)) ≡ false
  unfolding record_of body_of is_group
  no-group k at p q =
      rw (ne_eqb k 0x23 p, ne_eqb k 0x24 q)
      (no 0x01 _ _ refl (no 0x02 _ _ refl (no 0x03 _ _ refl (no 0x04 _ _ refl (no 0x05 _ _ refl (no 0x06 _ _ refl (no 0x07 _ _ refl (no 0x08 _ _ refl (no 0x09 _ _ refl (no 0x21 _ _ refl (no 0x22 _ _ refl refl)))))))))))
    where
      no : (n : ℕ) (x y : Record) → is_group (body_of x) ≡ false → is_group (body_of y) ≡ false → is_group (body_of (when eqb k n then x else y)) ≡ false
      no n x y = either (λ (r : Record). is_group (body_of r) ≡ false) (eqb k n) {x = x} {y = y}

  group-onward : (c : Cursor) → is_group (body_of (record_at deck c)) ≡ true → c.at < (next_of deck c).at
  unfolding record_at size_of
  group-onward c g = go (eqb (kind_at deck c) 0x23) (eqb (kind_at deck c) 0x24) refl refl
    where
      go : (x y : Bool) → eqb (kind_at deck c) 0x23 ≡ x → eqb (kind_at deck c) 0x24 ≡ y → c.at < (next_of deck c).at
      go true y e f = collection deck c 0x23 (omega arith) (eqb-true _ _ e) refl
      go false true e f = collection deck c 0x24 (omega arith) (eqb-true _ _ f) refl
      go false false e f = absurd (true≢false (sym g ∙ no-group (kind_at deck c) (c.at + 1) (eqb-false _ _ e) (eqb-false _ _ f)))

  -- the node at a cursor is good, and stands there or further on
  pub good-at : (c : Cursor) → c.at ≤ length deck → length deck ≤ 65536 → Good deck (spot_at deck c) × (c.at ≤ (spot_at deck c).place)
  unfolding spot_at spot_of
  good-at c k b =
      let o = head-at-onward deck c k in (
        record {
          ahead = o.beyond;
          within = o.within;
          deeper = λ g. rw o.next (group-onward (head_at deck c).place (rw o.own at g));
          short = head-short deck c k b;
        },
        o.ahead,
      )

-- ---- how many members a collection has

module _ (deck : Bytes) (bytes : (k : ℕ) → get_or deck k 0 < 256) where
  few-group : (at : ℕ) → (group_at deck at).count < 65536
  unfolding group_at word_at byte_at
  few-group at = let x = bytes (at + 1) in let y = bytes (at + 1 + 1) in omega (arith, x, y)

  few-record : (k at : ℕ) → count_in (body_of (record_of k deck at)) < 65536
  unfolding record_of body_of count_in
  few-record k at =
      let z : 0 < 65536 = omega arith in
      few 0x01 _ _ z (few 0x02 _ _ z (few 0x03 _ _ z (few 0x04 _ _ z (few 0x05 _ _ z (few 0x06 _ _ z (few 0x07 _ _ z (few 0x08 _ _ z (few 0x09 _ _ z (few 0x21 _ _ z (few 0x22 _ _ z (few 0x23 _ _ (few-group at) (few 0x24 _ _ (few-group at) z))))))))))))
    where
      few : (n : ℕ) (x y : Record) → count_in (body_of x) < 65536 → count_in (body_of y) < 65536 → count_in (body_of (when eqb k n then x else y)) < 65536
      few n x y = either (λ (r : Record). count_in (body_of r) < 65536) (eqb k n) {x = x} {y = y}

  -- fewer than 65,536, since two bytes say it
  pub few-at : (c : Cursor) → c.at ≤ length deck → count_in (spot_at deck c).body < 65536
  unfolding spot_at spot_of record_at
  few-at c k = let o = head-at-onward deck c k in rw o.own (few-record (kind_at deck (head_at deck c).place) ((head_at deck c).place.at + 1))

-- ---- the same of a node that was read at a cursor

pub spot-good : (deck : Bytes) (c : Cursor) (x : Spot) → c.at ≤ length deck → length deck ≤ 65536 → x ≡ spot_at deck c → Good deck x × (c.at ≤ x.place) × (x.place ≤ length deck)
spot-good deck c x k b e = let g = good-at deck c k b in rw e (g.0, g.1, (let a = g.0.ahead in let w = g.0.within in omega (arith, a, w)))

pub few-spot : (deck : Bytes) → ((k : ℕ) → get_or deck k 0 < 256) → (c : Cursor) (x : Spot) → c.at ≤ length deck → x ≡ spot_at deck c → count_in x.body < 65536
few-spot deck b c x k e = rw e (few-at deck b c k)
