-- A node's leading records, as the definition's reader and as the head keep them: what the head says so far.
use Rattle.std.specs.Prelude.{◌≡◌}
use Prim.Native.Nat.{ℕ, zero, suc, ◌+◌, ◌<◌}
use Rattle.definition.specs.Base.{Bytes}
use Rattle.definition.specs.Tree.{Kept, Brought}
use Rattle.definition.specs.declared.Cursor.{Cursor}
use Rattle.node.specs.declared.Run.{Run}
use Rattle.node.specs.declared.Lead.{Lead}
use Rattle.node.specs.Total.{kept_of, brought_of}

-- ---- records of one kind, one after another

-- the bytes of n records of s bytes
unfoldable pub span : ℕ → ℕ → ℕ
span s zero = 0
span s (suc n) = span s n + s

abbrev pub on : Cursor → ℕ → Cursor
on c s = record { at = c.at + s }

-- records of kind k, s bytes each, that end at a cursor where the kind before it is k, and are none where it is below k
pub record Ready (k s last : ℕ) (c : Cursor) (r : Run) : Type 0 where
  pub same : last ≡ k → r.first.at + span s r.count ≡ c.at
  pub fresh : last < k → r.count ≡ 0

-- ---- the head so far

-- the head so far says what the definition's reader has so far
pub record Fits (deck pool : Bytes) (last : ℕ) (c : Cursor) (l : Lead) (a : Kept) (b : Brought) : Type 0 where
  pub kept : kept_of deck pool l ≡ a
  pub brought : brought_of deck pool l ≡ b
  pub heads : Ready 4 6 last c l.heads
  pub foots : Ready 6 5 last c l.foots
  pub directives : Ready 8 5 last c l.directives
