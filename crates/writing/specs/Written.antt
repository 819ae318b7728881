-- What a call that writes comes to, and the answer at its end. It is lent no list.
use Rattle.std.specs.Prelude.{◌≡◌, Bool, true, false, [], length}
use Rattle.definition.specs.Base.{Bytes}
use Rattle.definition.specs.Pen.{Script}
use Rattle.definition.specs.Document.{one_document, all_documents}
use Rattle.definition.specs.Calls.{Lent, Outcome, write_one, write_all}
use Rattle.definition.specs.declared.Settings.{Settings}
use Rattle.node.specs.Total.{trees_of}
use Rattle.pen.specs.Pen.{Pen}
use Rattle.joints.specs.Entries.{node_at}
use Rattle.told.specs.Outcome.{lent, told}
use Rattle.answers.specs.declared.Answer.{Answer}
use Rattle.answers.specs.Answer.{outcome_of}

-- all documents of a deck, or the one that it holds
unfoldable pub written : Settings → Bool → Lent → Outcome
written s true x = write_all s x
written s false x = write_one s x

-- what is written of them
unfoldable pub script_of : Settings → Bytes → Bytes → Bool → Script
script_of s deck pool true = all_documents s (trees_of deck pool)
script_of s deck pool false = one_document s false (node_at deck pool (record { at = 0 }))

-- the answer at the end of a run, from its pen: whatever was lent, as long as the output is as long as it was
pub record Tells (q : Pen) (r : Answer) (out : Bytes) : Type 0 where
  pub tells : (deck pool orig : Bytes) → length q.out ≡ length orig → outcome_of r out [] ≡ told q (lent deck pool orig)
