-- What the total readers hand back besides a record: the cursor after it, and the cursor after a reference. These are definitions.
use Rattle.std.specs.Prelude.{ℕ, ◌+◌, ◌≤◌, min, ◌≡◌, length}
use Rattle.definition.specs.Base.{Bytes}
use Rattle.definition.specs.Records.{text_at, trailer_at, include_at, past}
use Rattle.definition.specs.declared.Cursor.{Cursor}
use Rattle.deck.specs.declared.Reference.{Reference}

-- the cursor after the record at a cursor, and never past the deck's end
unfoldable pub next_of : Bytes → Cursor → Cursor
next_of deck c = record { at = min (past deck c).at (length deck) }

-- the reference at a cursor, and the cursor four bytes on
pub record Referred (deck : Bytes) (c : Cursor) (r : Reference) : Type 0 where
  pub text : r.text ≡ text_at deck c.at
  pub next : r.next.at ≡ c.at + 4

-- a cursor within the deck where the same is read as at a place
pub record Within (deck : Bytes) (at : ℕ) (c : Cursor) : Type 0 where
  pub inside : c.at ≤ length deck
  pub text : text_at deck c.at ≡ text_at deck at
  pub trailer : trailer_at deck c.at ≡ trailer_at deck at
  pub include : include_at deck c.at ≡ include_at deck at
