-- What a literal block cannot hold, by the bytes at a place.
use Rattle.std.specs.Prelude.{ℕ, Bool, ◌||◌, eqb}
use Rattle.definition.specs.Ascii.{CR}
use Rattle.laws.specs.Pieces.{non_printable_at}

-- a carriage return, or a character that is not printable, begins here
unfoldable pub unfit_at : ℕ → ℕ → ℕ → Bool
unfit_at a b c = eqb a CR || non_printable_at a b c
