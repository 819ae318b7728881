-- `atoms::put_words` meets its contract.
use Rattle.std.proofs.Common.{sym, ◌∙◌}
use Rattle.atoms.proofs.Laws.{aside, again, bare}
use Rattle.atoms.proofs.put_words.Goals as goal
use Rattle.atoms.proofs.put_words.Goals.{in_default-via-in-Some+else-not-modified, in_default-via-in_default}

pub returns-in-Some : goal.returns-in-Some
returns-in-Some c = again _ _ _ _ _ _ _ _ (sym c.is_marked-modified.ensures ∙ c.if-not-modified.true) c.in-Some.is c.text_in.ensures c.words_of.ensures c.replay.ensures

pub returns-in_default : goal.returns-in_default
returns-in_default c =
    elim c.in_default.branch [
      | in_default-via-in-Some+else-not-modified w ↦ aside _ _ _ _ _ _ _ _ (sym c.is_marked-modified.ensures ∙ w.if-not-modified.false) c.put_fresh.ensures
      | in_default-via-in_default w ↦ bare _ _ _ _ _ _ _ _ w.in_default.is c.put_fresh.ensures
    ]
