-- What the program keeps of a piece of a quoted body: its kind, and what it spells.
use Rattle.std.specs.Prelude.{ℕ, ◌+◌, ◌≤◌, ◌≡◌, get_or, eqb, ltb, Bool, ◌||◌, Option, Some, None, [], ◌∷◌}
use Rattle.std.proofs.Common.{arith}
use Rattle.definition.specs.Base.{Bytes, when◌then◌else◌}
use Rattle.laws.specs.Pieces.{Quote}
use Rattle.definition.specs.Quote.{hex2, hex4}
use Rattle.pieces.specs.declared.Piece.{Piece}
use Rattle.pieces.specs.declared.Piece.TheVariants.{Plain, Pair, Hex, Latin, Wide}

-- its bytes
abbrev pub spell : Piece → Bytes
spell (Plain a) = a ∷ []
spell (Pair a b) = a ∷ b ∷ []
spell (Hex a) = 92 ∷ 120 ∷ hex2 a
spell (Latin b) = 92 ∷ 120 ∷ hex2 b
spell (Wide c) = 92 ∷ 117 ∷ hex4 (0xff40 + c)

-- how many bytes of the value it speaks for beside the first
abbrev pub beside : Piece → ℕ
beside (Plain a) = 0
beside (Pair a b) = 0
beside (Hex a) = 0
beside (Latin b) = 1
beside (Wide c) = 2

pub beside-few : (p : Piece) → beside p ≤ 2
beside-few (Plain a) = omega arith
beside-few (Pair a b) = omega arith
beside-few (Hex a) = omega arith
beside-few (Latin b) = omega arith
beside-few (Wide c) = omega arith

-- the letter of a short escape, where there is one
unfoldable pub letter_of : ℕ → Option ℕ
letter_of a =
    when eqb a 0 then Some 48
    else when eqb a 9 then Some 116
    else when eqb a 10 then Some 110
    else when eqb a 13 then Some 114
    else when eqb a 34 then Some 34
    else when eqb a 92 then Some 92
    else None

-- a `\u` is of FFFE or FFFF
abbrev pub Sound : Piece → Type 0
Sound (Plain a) = Unit
Sound (Pair a b) = Unit
Sound (Hex a) = Unit
Sound (Latin b) = Unit
Sound (Wide c) = (0xbe ≤ c) × (c ≤ 0xbf)

pub record Written (bytes : Bytes) (others : ℕ) (p : Piece) : Type 0 where
  pub spelled : spell p ≡ bytes
  pub speaks : beside p ≡ others
  pub good : Sound p

-- the piece for the first byte of a text
pub record Stands (q : Quote) (t : Bytes) (p : Piece) : Type 0 where
  pub spelled : spell p ≡ q.piece (get_or t 0 0) (get_or t 1 0) (get_or t 2 0)
  pub speaks : beside p ≡ q.more (get_or t 0 0) (get_or t 1 0) (get_or t 2 0)
  pub good : Sound p

-- a byte that is written as it is, whatever stands after it, and is not `stop`
pub record Own (q : Quote) (stop a : ℕ) : Type 0 where
  pub itself : (b c : ℕ) → q.piece a b c ≡ a ∷ []
  pub alone : (b c : ℕ) → q.more a b c ≡ 0
  pub other : a ≡ stop → ⊥

-- between double quotes a byte begins an escape, at least before certain others
abbrev pub marked : ℕ → Bool
marked a = ltb a 0x20 || eqb a 34 || eqb a 92 || eqb a 0x7f || eqb a 0xc2 || eqb a 0xef
