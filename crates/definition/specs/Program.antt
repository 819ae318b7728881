-- The emit program, as a function from what stands on its standard input to what it writes. (Document 01, "The emit program".)
use Rattle.std.specs.Prelude.{ℕ, zero, suc, ◌+◌, ◌*◌, ◌/◌, ◌%◌, [], ◌∷◌, ◌++◌, eqb, ltb, length, take, drop, replicate}
use Rattle.definition.specs.Base.{Bytes, when◌then◌else◌}
use Rattle.definition.specs.Ascii.{LF, SP}
use Rattle.definition.specs.Settings.{plain_settings}
use Rattle.definition.specs.Records.{word_at}
use Rattle.definition.specs.Calls.{Outcome, write_all}

-- a number in decimal digits, of which it has at most `n`
unfoldable pub decimal : ℕ → ℕ → Bytes
decimal zero m = []
decimal (suc n) m = let more = decimal n (m / 10) in (when ltb m 10 then [] else more) ++ (48 + m % 10) ∷ []

-- `refused N at P` and a line break
unfoldable pub refusal_line : ℕ → ℕ → Bytes
refusal_line n p =
    114 ∷ 101 ∷ 102 ∷ 117 ∷ 115 ∷ 101 ∷ 100 ∷ SP ∷ (decimal 2 n ++ SP ∷ 97 ∷ 116 ∷ SP ∷ (decimal 5 p ++ LF ∷ []))

unfoldable pub shown : Outcome → Bytes
shown r = when eqb r.number 0 then take r.length r.output else refusal_line r.number r.place

unfoldable pub emit_into : Bytes → Bytes → Outcome
emit_into deck pool = write_all plain_settings (record { deck = deck; pool = pool; output = replicate 65536 0; list = [] })

-- u32 deck length, deck, then pool to the end; under four bytes, an empty deck and pool
unfoldable pub program : Bytes → Bytes
program input =
    let n = word_at input 0 + 65536 * word_at input 2 in
    let rest = drop 4 input in
    when ltb (length input) 4 then shown (emit_into [] []) else when ltb 65536 n then refusal_line 2 0 else shown (emit_into (take n rest) (drop n rest))
