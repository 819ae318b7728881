-- What a node's own record is, by its kind; and the node that is made of a front.
use mathlib.Core.Path.{◌≡◌, refl, sym}
use Prim.Native.Nat.{ℕ, ◌≤◌}
use lib.ListN.{length}
use lib.Dec.{eqb}
use borrow.Author.Tests.{ne_eqb}
use Rattle.definition.specs.Base.{Bytes, when◌then◌else◌}
use Rattle.definition.specs.Records.{kind_at, record_of, record_at}
use Rattle.definition.specs.declared.Cursor.{Cursor}
use Rattle.definition.specs.declared.Record.{Record}
use Rattle.deck.specs.Kids.{either}
use Rattle.deck.specs.Next.{next_of}
use Rattle.node.specs.declared.Front.{Front}
use Rattle.node.specs.Head.{front_of, head_at}
use Rattle.node.specs.Fuel.{head-at-onward, place-within}
use Rattle.spot.specs.declared.Body.{Body}
use Rattle.spot.specs.declared.Body.TheVariants.{Null}
use Rattle.spot.specs.Spot.{body_of, spot_of, spot_at}

module _ (deck : Bytes) (c : Cursor) (k : ℕ) (f : k ≡ kind_at deck c) where
  -- every other kind is a null
  pub of-null : (k ≡ 0x21 → ⊥) → (k ≡ 0x22 → ⊥) → (k ≡ 0x23 → ⊥) → (k ≡ 0x24 → ⊥) → Null ≡ body_of (record_at deck c)
  unfolding record_at record_of body_of
  of-null p q r s =
      rw (← f, ne_eqb k 0x21 p, ne_eqb k 0x22 q, ne_eqb k 0x23 r, ne_eqb k 0x24 s)
      (sym (no 0x01 _ _ refl (no 0x02 _ _ refl (no 0x03 _ _ refl (no 0x04 _ _ refl (no 0x05 _ _ refl (no 0x06 _ _ refl (no 0x07 _ _ refl (no 0x08 _ _ refl (no 0x09 _ _ refl refl))))))))))
    where
      no : (n : ℕ) (x y : Record) → body_of x ≡ Null → body_of y ≡ Null → body_of (when eqb k n then x else y) ≡ Null
      no n x y = either (λ (r : Record). body_of r ≡ Null) (eqb k n) {x = x} {y = y}

-- ---- a node of its front

module _ (deck : Bytes) (c : Cursor) (k : c.at ≤ length deck) (t : Front) (e : t ≡ front_of (head_at deck c)) where
  pub own-within : t.own.at ≤ length deck
  unfolding front_of
  own-within = rw e (place-within deck c k)

  pub spot_is : (b : Body) (n : Cursor) → b ≡ body_of (record_at deck t.own) → n ≡ next_of deck t.own → record { lead = t.lead; body = b; place = t.own.at; next = n } ≡ spot_at deck c
  unfolding front_of spot_of spot_at
  spot_is b n p q = let o = head-at-onward deck c k in rw (p, q, e, o.own, o.next)
