-- What a call comes to, in the definition's words: refusals 1 to 8 of every call, and of a call that writes the answer or refusal 10, from the
-- pen at its end.
use Rattle.std.specs.Prelude.{◌≡◌, refl, ◌≤◌, List, [], ltb, length}
use Rattle.std.proofs.Math.Bool.{false}
use Rattle.definition.specs.Base.{Bytes, when◌then◌else◌}
use Rattle.definition.specs.Settings.{plain_settings}
use Rattle.definition.specs.Tree.{Node}
use Rattle.definition.specs.Calls.{Lent, Outcome, no_room, over_trees, write_one, write_all, write_changed, tell_modified}
use Rattle.definition.specs.declared.Settings.{Settings}
use Rattle.pen.specs.Pen.{Pen}

-- ---- refusals 1 to 8

pub record Settled (s : Settings) : Type 0 where
  pub indent : s.indent ≤ 16
  pub width : s.width ≤ 65535

pub record Small (x : Lent) : Type 0 where
  pub deck : length x.deck ≤ 65536
  pub pool : length x.pool ≤ 65536
  pub output : length x.output ≤ 1048576
  pub list : length x.list ≤ 4096

-- a call that tests limits and deck first, and goes on with the trees by `of`
pub record Judged (s : Settings) (call : Lent → Outcome) : Type 0 where
  pub of : Lent → List Node → Outcome
  pub is : (x : Lent) → call x ≡ over_trees s (of x) x

unfoldable pub one-judged : (s : Settings) → Judged s (write_one s)
unfolding write_one
one-judged s = record { of = _; is = λ x. refl }

unfoldable pub all-judged : (s : Settings) → Judged s (write_all s)
unfolding write_all
all-judged s = record { of = _; is = λ x. refl }

unfoldable pub changed-judged : Judged plain_settings write_changed
unfolding write_changed
changed-judged = record { of = _; is = λ x. refl }

unfoldable pub modified-judged : Judged plain_settings tell_modified
unfolding tell_modified
modified-judged = record { of = _; is = λ x. refl }

-- ---- the answer, and refusal 10

-- what a call that writes is lent: no list
abbrev pub lent : Bytes → Bytes → Bytes → Lent
lent deck pool out = record { deck = deck; pool = pool; output = out; list = [] }

-- what it comes to, by the pen at its end
unfoldable pub told : Pen → Lent → Outcome
told q x =
    let wrote : Outcome = record { number = 0; place = 0; length = q.w.len; count = 0; modified = false; list = x.list; output = q.out } in
    when ltb (length x.output) q.w.len then no_room 10 x else wrote
