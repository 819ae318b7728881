-- The call from end to end: judged, the changed files counted, the list filled. It is the definition's.
use Rattle.std.specs.Prelude.{◌≡◌, ℕ, ◌<◌, ◌≤◌, Bool, List, replicate, Result, Ok, Err}
use Rattle.std.proofs.Math.Path.{refl, sym}
use Rattle.std.proofs.Common.{◌∙◌}
use Rattle.std.proofs.Math.Bool.{true, false}
use Rattle.std.proofs.Math.Dec.{ltb}
use Rattle.std.proofs.Math.ListN.{length}
use borrow.Author.Tests.{lt-ltb, le-ltb, ltb-true, ltb-false}
use Rattle.definition.specs.Base.{Bytes, when◌then◌else◌}
use Rattle.definition.specs.Refusal.{number_of}
use Rattle.definition.specs.Settings.{plain_settings}
use Rattle.definition.specs.Change.{Written, collect}
use Rattle.definition.specs.Calls.{Lent, Outcome, no_change, no_room, refused, answered, handed, entries, bytes_of_all, write_changed}
use Rattle.definition.specs.declared.Change.{Change}
use Rattle.definition.specs.declared.Refusal.{Refusal}
use Rattle.node.specs.Total.{trees_of}
use Rattle.judge.specs.Judge.{Verdict, Good, Rejected}
use Rattle.told.specs.Outcome.{changed-judged}
use Rattle.told.proofs.Outcome.{changed-told}
use Rattle.answers.specs.declared.Answer.{Answer}
use Rattle.answers.specs.Answer.{outcome_of, refusal}
use Rattle.answers.specs.Admitted.{Admits, Says, admit_of, said}
use Rattle.files.specs.declared.Walk.{Walk}
use Rattle.files.specs.Run.{Run, run_of, run_past, first_walk, files-fit, files-over}
use Rattle.files.specs.Stored.{length-entries, stored-entries, stored-zeros}
use Rattle.changes.specs.Filled.{started, filled, filled_is}

-- ---- what the call does

-- what it is lent
abbrev pub lent_with : Bytes → Bytes → Bytes → List Change → Lent
lent_with d p o l = record { deck = d; pool = p; output = o; list = l }

-- an answer that k files were written, and end so far into the output
abbrev pub wrote : ℕ → ℕ → Answer
wrote k n = record { number = 0; place = 0; length = n; count = k; modified = false }

-- after a run of k files that ends so far into the output
unfoldable pub ended_by : Lent → ℕ → ℕ → Bytes → List Change → Outcome
ended_by x k n o l = when ltb (length x.output) n then no_room 10 x else outcome_of (wrote k n) o l

-- with a deck that is admitted
unfoldable pub counted : Lent → Outcome
counted x =
    let k = length (collect (trees_of x.deck x.pool)) in
    let f = filled x.deck x.pool 0 k (started first_walk x.output x.list) in
    when ltb (length x.list) k then no_room 9 x else ended_by x k f.walk.start f.out f.list

unfoldable pub admitted : Lent → Verdict → Outcome
admitted x (Good n) = counted x
admitted x (Rejected n p) = refused n p x

unfoldable pub collected : Lent → Outcome
collected x = admitted x (admit_of plain_settings x.deck x.pool (length x.output) (length x.list))

-- ---- what is promised of its parts

-- the answer with output and list as they are left, or the refusal with both zeroed
abbrev pub Hands : Lent → Result Answer Refusal → Bytes → List Change → Type 0
Hands x (Ok a) o l = outcome_of a o l ≡ counted x
Hands x (Err r) o l = outcome_of (refusal (number_of r.fault) r.place) (replicate (length x.output) 0) (replicate (length x.list) no_change) ≡ counted x

-- ---- and what it comes to

module _ (x : Lent) where
  abbrev d : Bytes
  d = x.deck

  abbrev p : Bytes
  p = x.pool

  abbrev n : ℕ
  n = length x.list

  abbrev ws : List Written
  ws = collect (trees_of d p)

  -- from a walk past the output on the whole list is zeroed, and nothing is written
  pub zeroed : (w : Walk) (o : Bytes) (l : List Change) → length l ≡ n → length o < w.start → filled d p 0 n (started w o l) ≡ started w o (replicate n no_change)
  zeroed w o l e h = filled_is d p 0 n w o l ∙ rw (run_past d p n w o h, ← e, stored-zeros l) refl

  module _ (m : ℕ) (g : Admits plain_settings x m) where
    told-so : write_changed x ≡ handed (bytes_of_all ws) (entries 0 ws) x
    told-so = changed-told x (trees_of d p) g.accepted.end g.small g.accepted.read

    abbrev run : Run
    run = run_of d p (length ws) first_walk x.output

    -- the list has no room
    crowded : n < length ws → counted x ≡ write_changed x
    unfolding counted handed
    crowded h = rw (lt-ltb _ _ h) (sym (told-so ∙ rw (length-entries 0 ws, lt-ltb _ _ h)))

    fits : length ws ≤ n → length (bytes_of_all ws) ≤ length x.output → counted x ≡ write_changed x
    unfolding counted ended_by outcome_of handed answered
    fits h k =
        let f = files-fit d p g.small.deck g.small.pool x.output g.small.output g.accepted.end g.accepted.read k in
        rw (le-ltb _ _ h, filled_is d p 0 (length ws) first_walk x.output x.list, f.0, le-ltb _ _ k, f.1, f.2, stored-entries 0 ws x.list h) (sym (told-so ∙ rw (length-entries 0 ws, le-ltb _ _ h, le-ltb _ _ k)))

    overfull : length ws ≤ n → length x.output < length (bytes_of_all ws) → counted x ≡ write_changed x
    unfolding counted ended_by handed
    overfull h k =
        let z = files-over d p g.small.deck g.small.pool x.output g.small.output g.accepted.end g.accepted.read k in
        rw (le-ltb _ _ h, filled_is d p 0 (length ws) first_walk x.output x.list, lt-ltb _ _ z) (sym (told-so ∙ rw (length-entries 0 ws, le-ltb _ _ h, lt-ltb _ _ k)))

    pub counted-is : counted x ≡ write_changed x
    counted-is = go (ltb n (length ws)) (ltb (length x.output) (length (bytes_of_all ws))) refl refl
      where
        go : (a b : Bool) → ltb n (length ws) ≡ a → ltb (length x.output) (length (bytes_of_all ws)) ≡ b → counted x ≡ write_changed x
        go true b e f = crowded (ltb-true _ _ e)
        go false true e f = overfull (ltb-false _ _ e) (ltb-true _ _ f)
        go false false e f = fits (ltb-false _ _ e) (ltb-false _ _ f)

  -- the call is the definition's
  pub collected-is : collected x ≡ write_changed x
  unfolding collected admitted Says
  collected-is = go (admit_of plain_settings d p (length x.output) n) (said plain_settings x _ _ refl refl)
    where
      go : (v : Verdict) → Says plain_settings x v → admitted x v ≡ write_changed x
      go (Good m) g = counted-is m g
      go (Rejected a b) r = sym (r.refuses write_changed changed-judged)
