-- DEMAND 3, of the program: what `crates/theorems` says of the definitions' outcomes, said once more of what the calls hand back.
--
--     program-bytes      what one include brought in does not change the bytes of its document, in any call that writes documents
--     program-entries    an include on the path down to it has an entry in the list of the one run exactly when it has one in the other's: the
--                        same entry
--     program-files      of the files that are handed back, those around the include and beside it are the same, with their bytes and in their
--                        order
--     program-modified   nor does it change the answer of `local_modified`, unless the include is its document's root
--     program-exactly    a file with an id is handed back, once per include and in tree order, exactly when its include is touched
--     program-only       and no other list is so
--     program-touched    `local_modified` answers yes exactly when the document is touched
--
-- The four that speak of files and entries are in proofs/Program.antt.
--
-- A run is what a call hands back, with the equation that is the call's contract (`crates/rassemok`). Of two runs both answer.
use Rattle.std.specs.Prelude.{◌≡◌, ◌↔◌, List, T, take}
use Rattle.std.proofs.Common.{sym, ◌∙◌}
use Rattle.std.proofs.Math.Path.{ap, subst}
use Rattle.definition.specs.Base.{Bytes}
use Rattle.definition.specs.Tree.{Node}
use Rattle.definition.specs.Change.{Written}
use Rattle.definition.specs.Deck.{got, read_deck}
use Rattle.definition.specs.Calls.{Lent, Outcome, Call, call_local_modified, outcome}
use Rattle.definition.specs.declared.Cursor.{Cursor}
use Rattle.definition.specs.declared.Change.{Change}
use Rattle.answers.specs.declared.Answer.{Answer}
use Rattle.answers.specs.Answer.{outcome_of}
use Rattle.theorems.specs.Around.{Touched}
use Rattle.theorems.specs.Answers.{bytes_back, files_at, Answered, One}
use Rattle.theorems.specs.Demand3.{TwinDecks, Inner, Writes}
use Rattle.theorems.proofs.Demand3.{same_bytes, same-modified, modified-exactly}

-- what a call handed back on what it was lent, as its contract has it
pub record Ran (c : Call) (x : Lent) : Type 0 where
  pub answer : Answer
  pub out : Bytes
  pub list : List Change
  pub meets : outcome_of answer out list ≡ outcome c x

module _ {c : Call} {x : Lent} where
  abbrev pub Answers : Ran c x → Type 0
  Answers r = r.answer.number ≡ 0

  -- the bytes up to its length, and each entry up to its count with the bytes that it names
  abbrev pub written : Ran c x → Bytes
  written r = take r.answer.length r.out

  abbrev pub files : Ran c x → List Written
  files r = files_at (take r.answer.count r.list) r.out

  pub answers-is : (r : Ran c x) → Answers r → Answered (outcome c x)
  unfolding outcome_of
  answers-is r h = subst Answered r.meets h

  written_is : (r : Ran c x) → written r ≡ bytes_back (outcome c x)
  unfolding outcome_of
  written_is r = ap bytes_back r.meets

  modified-is : (r : Ran c x) → r.answer.modified ≡ (outcome c x).modified
  unfolding outcome_of
  modified-is r = ap (λ (o : Outcome). o.modified) r.meets

-- ---- the first sentence

module _ (x y : Lent) (w : TwinDecks x y) where
  pub program-bytes : (c : Call) → Writes c → (r : Ran c x) (s : Ran c y) → Answers r → Answers s → written r ≡ written s
  program-bytes c q r s h k = written_is r ∙ same_bytes x y w c q (answers-is r h) (answers-is s k) ∙ sym (written_is s)

  pub program-modified : Inner w.twin → (r : Ran call_local_modified x) (s : Ran call_local_modified y) → Answers r → Answers s
      → r.answer.modified ≡ s.answer.modified
  program-modified i r s h k = modified-is r ∙ same-modified x y w i (answers-is r h) (answers-is s k) ∙ sym (modified-is s)

-- ---- the second sentence

module _ (x : Lent) {ns : List Node} {c : Cursor} (q : read_deck x.deck x.pool ≡ got ns c) where
  pub program-touched : (r : Ran call_local_modified x) → Answers r → One (λ n. T r.answer.modified ↔ Touched n) ns
  program-touched r h = rw (modified-is r) (modified-exactly x q (answers-is r h))
