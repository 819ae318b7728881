-- Tests of a text that look at a place and the two bytes after it: each is one test, passed at some place.
use Rattle.std.specs.Prelude.{ℕ, Bool, ◌&&◌, ◌||◌, eqb, ltb}
use Rattle.definition.specs.Ascii.{LF, CR, SP, APOSTROPHE, COMMA, ':', '[', ']', OPEN, CLOSE}
use Rattle.laws.specs.Pieces.{non_printable_at}

-- single quotes do not take what stands here
unfoldable pub refused_at : ℕ → ℕ → ℕ → Bool
refused_at a b c = eqb APOSTROPHE a || eqb LF a || eqb CR a || (ltb a 0x20 || eqb a 0x7f) || non_printable_at a b c

-- a byte that flow collections use
unfoldable pub flow_mark : ℕ → Bool
flow_mark a = eqb COMMA a || eqb '[' a || eqb ']' a || eqb OPEN a || eqb CLOSE a

-- a plain scalar in flow would be read otherwise for what stands here
unfoldable pub unsafe_at : ℕ → ℕ → ℕ → Bool
unsafe_at a b c = flow_mark a || (eqb a ':' && eqb b SP)
