-- From what the parts of the call do to the definition's outcome.
-- Assumes nothing.
use mathlib.Core.Path.{◌≡◌, refl, sym, ◌∙◌}
use Prim.Native.Nat.{ℕ, ◌<◌, ◌≤◌}
use mathlib.Core.Bool.{true, false, true≢false}
use mathlib.Core.List.{List}
use lib.ListN.{length, replicate}
use borrow.Author.Tests.{lt-ltb, le-ltb}
use Rattle.std.specs.Prelude.{Result, Ok, Err}
use Rattle.std.specs.Result.{is_err}
use Rattle.definition.specs.Base.{Bytes}
use Rattle.definition.specs.Calls.{Lent, no_change, no_room}
use Rattle.definition.specs.Change.{collect}
use Rattle.definition.specs.Settings.{plain_settings}
use Rattle.definition.specs.declared.Change.{Change}
use Rattle.definition.specs.declared.Fault.TheVariants.{Entries, Room}
use Rattle.definition.specs.declared.Refusal.{Refusal}
use Rattle.modified.specs.Files.{CountsAll}
use Rattle.node.specs.Total.{trees_of}
use Rattle.answers.specs.declared.Answer.{Answer}
use Rattle.judge.specs.Judge.{told}
use Rattle.answers.specs.Answer.{answer_of, outcome_of, refusal, refusal_is}
use Rattle.answers.specs.Admitted.{Says, Admits, admit_of, said}
use Rattle.files.specs.declared.Walk.{Walk}
use Rattle.files.specs.Run.{first_walk}
use Rattle.changes.specs.Filled.{started, filled}
use Rattle.plan.specs.Collected.{wrote, ended_by, counted, admitted, collected, Hands}

no-room : (x : Lent) (f : ℕ) → outcome_of (refusal f 0) (replicate (length x.output) 0) (replicate (length x.list) no_change) ≡ no_room f x
unfolding outcome_of refusal no_room
no-room x f = refl

module _ (x : Lent) (k : ℕ) (c : CountsAll x.deck k) where
  count-is : k ≡ length (collect (trees_of x.deck x.pool))
  unfolding collect
  count-is = c.told x.pool

  -- the list has no room
  pub crowded : (o : Bytes) (l : List Change) → length x.list < k → Hands x (Err (record { fault = Entries; place = 0 })) o l
  unfolding counted
  crowded o l h = rw (← count-is, lt-ltb _ _ h) (no-room x 9)

  module _ (h : k ≤ length x.list) (w : Walk) (o : Bytes) (l : List Change) (f : started w o l ≡ filled x.deck x.pool 0 k (started first_walk x.output x.list)) where
    ended : counted x ≡ ended_by x k w.start o l
    unfolding counted
    ended = rw (← count-is, le-ltb _ _ h, ← f)

    -- the output has no room
    pub overfull : length x.output < w.start → Hands x (Err (record { fault = Room; place = 0 })) o l
    unfolding ended_by
    overfull g = no-room x 10 ∙ sym (ended ∙ rw (lt-ltb _ _ g))

    pub roomy : w.start ≤ length x.output → outcome_of (wrote k w.start) o l ≡ counted x
    unfolding ended_by
    roomy g = sym (ended ∙ rw (le-ltb _ _ g))

-- ---- the whole call

module _ (x : Lent) where
  pub refused-so : (r : Refusal) → told (Err r) ≡ admit_of plain_settings x.deck x.pool (length x.output) (length x.list) → outcome_of (answer_of (Err r)) x.output x.list ≡ collected x
  unfolding told collected admitted
  refused-so r e = refusal_is x _ _ _ refl ∙ rw (← e)

  module _ (n : ℕ) (e : told (Ok n) ≡ admit_of plain_settings x.deck x.pool (length x.output) (length x.list)) where
    pub admits : Admits plain_settings x n
    unfolding told Says
    admits = said plain_settings x _ _ e refl

    counts : counted x ≡ collected x
    unfolding told collected admitted
    counts = rw (← e)

    pub zeroed : (r : Result Answer Refusal) (o : Bytes) (l : List Change) → is_err r ≡ true → Hands x r o l → outcome_of (answer_of r) (replicate (length x.output) 0) (replicate (length x.list) no_change) ≡ collected x
    zeroed (Ok a) o l h z = absurd (true≢false (sym h))
    zeroed (Err q) o l h z = z ∙ counts

    pub handed-back : (r : Result Answer Refusal) (o : Bytes) (l : List Change) → is_err r ≡ false → Hands x r o l → outcome_of (answer_of r) o l ≡ collected x
    handed-back (Ok a) o l h z = z ∙ counts
    handed-back (Err q) o l h z = absurd (true≢false h)
