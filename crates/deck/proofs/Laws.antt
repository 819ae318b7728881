-- Laws of the cursor after a record, and of what a record's kind says.
use mathlib.Core.Path.{◌≡◌, refl, sym, ap, ◌∙◌}
use mathlib.Core.Bool.{Bool, true, false}
use Prim.Native.Nat.{ℕ, zero, suc, ◌+◌, ◌*◌, ◌<◌, ◌≤◌, min}
use native.Mathlib.Omega.{arith}
use lib.ListN.{length, get_or-eq_default}
use lib.Dec.{ltb}
use borrow.Author.Tests.{ltb-true, ltb-false, le-leb, lt-leb}
use Rattle.definition.specs.Base.{Bytes, within}
use Rattle.definition.specs.declared.Cursor.{Cursor}
use Rattle.definition.specs.Records.{byte_at, kind_at, word_at, text_at, file_at, trailer_at, include_at, size_of, record_at, record_of, group_at}
use Rattle.definition.specs.Deck.{is_node}
use Rattle.std.specs.Prelude.{None}
use Rattle.deck.specs.Next.{Within}
use Rattle.deck.specs.Kids.{kids_of, twice, node-kind, no_kids}

abbrev at_place : ℕ → Cursor
at_place n = record { at = n }

pub size_of_layout : (k : ℕ) → k ≡ 9 → size_of k ≡ 6
unfolding size_of
size_of_layout k e = rw e

twice-is : (n : ℕ) → 2 * n ≡ twice n
unfolding twice
twice-is zero = refl
twice-is (suc n) = let e : 2 * n ≡ twice n = twice-is n in omega arith

module _ (deck : Bytes) (c : Cursor) (k : ℕ) (f : k ≡ kind_at deck c) where
  pub kids_sequence : (w : ℕ) → w ≡ word_at deck (c.at + 2) → k ≡ 0x23 → w ≡ kids_of (record_at deck c)
  unfolding kids_of record_at record_of group_at
  kids_sequence w e h = let s : c.at + 1 + 1 ≡ c.at + 2 = omega arith in rw (e, ← f, h, s)

  pub kids_mapping : (w : ℕ) → w ≡ word_at deck (c.at + 2) → k ≡ 0x24 → 2 * w ≡ kids_of (record_at deck c)
  unfolding kids_of record_at record_of group_at
  kids_mapping w e h = let s : c.at + 1 + 1 ≡ c.at + 2 = omega arith in rw (← f, h, s, ← e, twice-is)

  pub kids_other : (k ≡ 0x23 → ⊥) → (k ≡ 0x24 → ⊥) → 0 ≡ kids_of (record_at deck c)
  unfolding record_at
  kids_other p q = rw (← f, no_kids deck (c.at + 1) k p q)

  pub leads : 1 ≤ k → k < 10 → false ≡ is_node (record_at deck c)
  unfolding record_at within
  leads p q = let r : k ≤ 9 = omega arith in rw (← f, node-kind deck (c.at + 1) k, le-leb 1 k p, le-leb k 9 r)

  pub owns_low : k < 1 → true ≡ is_node (record_at deck c)
  unfolding record_at within
  owns_low p = rw (← f, node-kind deck (c.at + 1) k, lt-leb 1 k p)

  pub owns_high : 1 ≤ k → 10 ≤ k → true ≡ is_node (record_at deck c)
  unfolding record_at within
  owns_high p q = let r : 9 < k = omega arith in rw (← f, node-kind deck (c.at + 1) k, le-leb 1 k p, lt-leb k 9 r)

-- ---- past the deck's end all is zero

module _ (deck : Bytes) where
  byte_past : (n : ℕ) → length deck ≤ n → byte_at deck n ≡ 0
  unfolding byte_at
  byte_past n h = get_or-eq_default deck 0 h

  word-past : (n : ℕ) → length deck ≤ n → word_at deck n ≡ 0
  unfolding word_at
  word-past n h = rw (byte_past n h, byte_past (n + 1) (omega arith))

  text-past : (n : ℕ) → length deck ≤ n → text_at deck n ≡ record { from = 0; len = 0 }
  unfolding text_at
  text-past n h = rw (word-past n h, word-past (n + 2) (omega arith))

  trailer-past : (n : ℕ) → length deck ≤ n → trailer_at deck n ≡ record { text = record { from = 0; len = 0 }; spaces = 0 }
  unfolding trailer_at
  trailer-past n h = rw (text-past n h, byte_past (n + 4) (omega arith))

  include-past : (n : ℕ) → length deck ≤ n → include_at deck n ≡ record { tag = record { from = 0; len = 0 }; target = record { from = 0; len = 0 }; file = None }
  unfolding include_at file_at
  include-past n h = rw (text-past n h, text-past (n + 4) (omega arith), byte_past (n + 8) (omega arith))

  pub within_at : (at n : ℕ) → n ≡ min at (length deck) → Within deck at (record { at = n })
  within_at at n e = go (ltb at (length deck)) refl
    where
      go : (b : Bool) → ltb at (length deck) ≡ b → Within deck at (at_place n)
      go true w =
          let l : at < length deck = ltb-true _ _ w in
          let f : n ≡ at = omega arith in
          record { inside = omega arith; text = ap (text_at deck) f; trailer = ap (trailer_at deck) f; include = ap (include_at deck) f }
      go false w =
          let l : length deck ≤ at = ltb-false _ _ w in
          let m : length deck ≤ n = omega arith in
          record {
            inside = omega arith;
            text = text-past n m ∙ sym (text-past at l);
            trailer = trailer-past n m ∙ sym (trailer-past at l);
            include = include-past n m ∙ sym (include-past at l);
          }
