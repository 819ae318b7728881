-- `utf8::char_len` meets its contract.
use Rattle.utf8.proofs.Chars.{char_not}
use Rattle.utf8.proofs.char_len.Goals as goal

pub returns-then-not-is_first : goal.returns-then-not-is_first
returns-then-not-is_first c = char_not _ _ _ c.in_ok-b.ensures.cases.0 (cc)
