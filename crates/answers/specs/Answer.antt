-- What a call hands back: with output and list at exit, the definition's outcome.
use Rattle.std.specs.Prelude.{◌≡◌, ℕ, false, List, Result, Ok, Err}
use Rattle.definition.specs.Base.{Bytes}
use Rattle.definition.specs.Calls.{Lent, Outcome, refused}
use Rattle.definition.specs.Refusal.{number_of}
use Rattle.definition.specs.declared.Change.{Change}
use Rattle.definition.specs.declared.Refusal.{Refusal}
use Rattle.answers.specs.declared.Answer.{Answer}

unfoldable pub outcome_of : Answer → Bytes → List Change → Outcome
outcome_of r out list =
    record {
      number = r.number;
      place = r.place;
      length = r.length;
      count = r.count;
      modified = r.modified;
      list = list;
      output = out;
    }

-- refusal n at a place
unfoldable pub refusal : ℕ → ℕ → Answer
refusal n p = record { number = n; place = p; length = 0; count = 0; modified = false }

-- an answer, or that of a refusal
abbrev pub answer_of : Result Answer Refusal → Answer
answer_of (Ok a) = a
answer_of (Err r) = refusal (number_of r.fault) r.place

-- it leaves output and list as they came
pub refusal_is : (x : Lent) (n p : ℕ) (r : Answer) → r ≡ refusal n p → outcome_of r x.output x.list ≡ refused n p x
unfolding outcome_of refusal refused
refusal_is x n p r e = rw e
