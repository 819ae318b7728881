-- What is written of a deck that is read is sound, and so are the files of its includes.
use Rattle.std.specs.Prelude.{◌≡◌, List, [], ◌∷◌}
use Rattle.std.proofs.Math.Bool.{false}
use Rattle.definition.specs.Base.{Bytes}
use Rattle.definition.specs.Tree.{Node}
use Rattle.definition.specs.Document.{one_document, all_documents}
use Rattle.definition.specs.Change.{boundaries_all}
use Rattle.definition.specs.Deck
use Rattle.definition.specs.declared.Settings.{Settings}
use Rattle.definition.specs.declared.Cursor.{Cursor}
use Rattle.pen.specs.Shown.{Sound}
use Rattle.scripts.specs.Sound.{FormedAll}
use Rattle.scripts.proofs.Sound.{sound-one, sound-all}
use Rattle.scripts.specs.Files.{FormedFiles}
use Rattle.scripts.proofs.Files.{formed-files-all}
use Rattle.told.proofs.Read.{formed}

module _ (deck pool : Bytes) where
  -- so what is written of them is sound
  pub sound-read-all : (s : Settings) (ns : List Node) (c : Cursor) → Deck.read_deck deck pool ≡ Deck.got ns c → Sound (all_documents s ns)
  sound-read-all s ns c q = sound-all s ns (formed deck pool ns c q)

  pub sound-read-one : (s : Settings) (n : Node) (c : Cursor) → Deck.read_deck deck pool ≡ Deck.got (n ∷ []) c → Sound (one_document s false n)
  unfolding FormedAll
  sound-read-one s n c q = sound-one s false n (formed deck pool (n ∷ []) c q).0

  -- and so are the files of its includes
  pub files-read : (ns : List Node) (c : Cursor) → Deck.read_deck deck pool ≡ Deck.got ns c → FormedFiles (boundaries_all ns)
  files-read ns c q = formed-files-all ns (formed deck pool ns c q)
