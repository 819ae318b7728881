-- What the definition's reader makes of one record: a refusal; or the record, which is sound, and the cursor past it.
use Rattle.std.specs.Prelude.{ℕ, ◌+◌, ◌<◌, ◌≤◌, Bool, ◌&&◌, length, eqb}
use Rattle.std.proofs.Math.Nat.{min-eq_left}
use Rattle.std.proofs.Math.Path.{◌≡◌, refl}
use Rattle.std.proofs.Math.Bool.{true, false, not}
use Rattle.std.proofs.Common.{arith}
use Rattle.std.proofs.Math.Dec.{leb, ltb}
use borrow.Author.Tests.{leb-true, ltb-true}
use Rattle.definition.specs.Base.{Bytes, when◌then◌else◌}
use Rattle.definition.specs.Records.{kind_at, record_at, size_of, past}
use Rattle.definition.specs.Deck.{Read, fault, got, references, texts_fault, meant, in_order, sound, read_record}
use Rattle.definition.specs.declared.Cursor.{Cursor}
use Rattle.definition.specs.declared.Record.{Record}
use Rattle.deck.specs.Next.{next_of}

pub record Sound (deck : Bytes) (last : ℕ) (c : Cursor) : Type 0 where
  pub some : 0 < size_of (kind_at deck c)
  pub fits : c.at + size_of (kind_at deck c) ≤ length deck
  pub order : in_order last (kind_at deck c) ≡ true

pub data Outcome (deck : Bytes) (last : ℕ) (c : Cursor) : Read Record → Type 0 where
  bad : {n p : ℕ} → Outcome deck last c (fault n p)
  good : Sound deck last c → Outcome deck last c (got (record_at deck c) (past deck c))

module _ (deck : Bytes) (last : ℕ) (c : Cursor) where
  pub sound-is : sound deck last c ≡ true → Sound deck last c
  unfolding sound
  sound-is e =
      go (ltb 0 (size_of (kind_at deck c))) (leb (c.at + size_of (kind_at deck c)) (length deck)) (meant (kind_at deck c) deck c.at) refl refl e
    where
      go :
          (x y z : Bool) → ltb 0 (size_of (kind_at deck c)) ≡ x → leb (c.at + size_of (kind_at deck c)) (length deck) ≡ y →
          x && y && z && in_order last (kind_at deck c) ≡ true → Sound deck last c
      go false y z p q e = let o : ◌≡◌ {A = ℕ} 0 1 = cc in absurd (omega arith)
      go true false z p q e = let o : ◌≡◌ {A = ℕ} 0 1 = cc in absurd (omega arith)
      go true true false p q e = let o : ◌≡◌ {A = ℕ} 0 1 = cc in absurd (omega arith)
      go true true true p q e = record { some = ltb-true _ _ p; fits = leb-true _ _ q; order = e }

  -- where a record fits, the total reader goes on where the definition's does
  pub next_past : c.at + size_of (kind_at deck c) ≤ length deck → next_of deck c ≡ past deck c
  unfolding next_of past
  next_past h = rw (min-eq_left h)

  pub outcome : (pool : Bytes) → Outcome deck last c (read_record deck pool last c)
  unfolding read_record
  outcome pool = go (leb (length deck) c.at) (sound deck last c) (eqb (texts_fault pool (references (record_at deck c))) 0) refl
    where
      go :
          (x y z : Bool) → sound deck last c ≡ y →
          Outcome deck last c
          (when x then fault 7 (length deck) else when not y then fault 3 c.at else when z then got (record_at deck c) (past deck c)
          else fault (texts_fault pool (references (record_at deck c))) c.at)
      go true y z e = bad
      go false false z e = bad
      go false true false e = bad
      go false true true e = good (sound-is e)
