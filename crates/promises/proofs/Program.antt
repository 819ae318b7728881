-- Demand 3, of the program, of the list of files: the theorems that speak of `files` (Program, in specs/).
use Rattle.std.specs.Prelude.{◌≡◌, List}
use Rattle.std.proofs.Common.{sym, ◌∙◌}
use Rattle.std.proofs.Math.Path.{ap}
use Rattle.definition.specs.Tree.{Node}
use Rattle.definition.specs.Change.{Written}
use Rattle.definition.specs.Deck.{got, read_deck}
use Rattle.definition.specs.Calls.{Lent, Call, collect_changed_include_changes, outcome}
use Rattle.definition.specs.declared.Cursor.{Cursor}
use Rattle.answers.specs.Answer.{outcome_of}
use Rattle.theorems.specs.Handed.{SameHanded}
use Rattle.theorems.specs.Listed.{Exactly}
use Rattle.theorems.specs.Entries.{SameEntries}
use Rattle.theorems.specs.Answers.{files_back}
use Rattle.theorems.specs.Demand3.{TwinDecks}
use Rattle.theorems.proofs.Demand3.{same_entries, same-files, handed-exactly, handed-only}
use Rattle.promises.specs.Program.{Ran, Answers, files, answers-is}

module _ {c : Call} {x : Lent} where
  files-is : (r : Ran c x) → files r ≡ files_back (outcome c x)
  unfolding outcome_of
  files-is r = ap files_back r.meets

-- ---- the first sentence

module _ (x y : Lent) (w : TwinDecks x y) where
  pub program-entries : (r : Ran collect_changed_include_changes x) (s : Ran collect_changed_include_changes y) → Answers r → Answers s
      → SameEntries w.twin (files r) (files s)
  program-entries r s h k = rw (files-is r, files-is s) (same_entries x y w (answers-is r h) (answers-is s k))

  pub program-files : (r : Ran collect_changed_include_changes x) (s : Ran collect_changed_include_changes y) → Answers r → Answers s
      → SameHanded w.include₁ w.include₂ (files r) (files s)
  program-files r s h k = rw (files-is r, files-is s) (same-files x y w (answers-is r h) (answers-is s k))

-- ---- the second sentence

module _ (x : Lent) {ns : List Node} {c : Cursor} (q : read_deck x.deck x.pool ≡ got ns c) where
  pub program-exactly : (r : Ran collect_changed_include_changes x) → Answers r → Exactly ns (files r)
  program-exactly r h = rw (files-is r) (handed-exactly x q (answers-is r h))

  pub program-only : (r : Ran collect_changed_include_changes x) → Answers r → (ws : List Written) → Exactly ns ws → ws ≡ files r
  program-only r h ws b = handed-only x q (answers-is r h) ws b ∙ sym (files-is r)
