-- The contracts of a turn of each loop.
use Rattle.std.specs.Prelude.{ℕ, ◌+◌, ◌*◌, ◌^◌, ◌≤◌, ◌<◌, max, ◌≡◌, drop, length}
use Rattle.definition.specs.Base.{Bytes}
use Rattle.definition.specs.Fold.{Folding}
use Rattle.laws.specs.Pieces.{Quote, body}
use Rattle.laws.specs.Folded.{ahead_of, folded_of}
use Rattle.pen.specs.Pen.{pen, puts}
use Rattle.pen.specs.declared.Writer.{Writer}
use Rattle.quoted.specs.declared.Fold.{Fold}
use Rattle.quoted.specs.declared.Going.{Going}
use Rattle.quoted.specs.declared.Scan.{Scan}
use Rattle.quoted.specs.declared.Line.{Line}

-- every byte takes one column
abbrev pub folding : Fold → Folding
folding f = record { weight = λ b. 1; indent = f.indent; width = f.width }

-- a turn: finishing from where it ends is finishing from where it began
pub record Further (q : Quote) (s : Bytes) (i : ℕ) (w : Writer) (out : Bytes) (r : Going) (out' : Bytes) : Type 0 where
  pub same : puts (body q 0 (drop r.at s)) (pen r.w out') ≡ puts (body q 0 (drop i s)) (pen w out)
  pub on : i < r.at

-- a turn of the measuring leaves the sum of what was measured and what is ahead
pub record Measured (q : Quote) (s : Bytes) (i : ℕ) (g r : Scan) : Type 0 where
  pub sum : r.n + ahead_of q (λ b. 1) 0 r.after (drop r.at s) ≡ g.n + ahead_of q (λ b. 1) 0 g.after (drop i s)
  pub grows : r.n + 6 * i ≤ g.n + 6 * r.at
  pub on : i < r.at
  pub upto : r.at ≤ length s + 2

-- where a turn of the folding may stand
pub record Passing (s : Bytes) (i : ℕ) (l : Line) (out : Bytes) : Type 0 where
  pub inside : i < length s
  pub short : length s ≤ 65536
  pub near : l.col ≤ 2 ^ 63 + 2 ^ 20
  pub room : length out < 2 ^ 21

-- a turn of the folding
pub record Onward (q : Quote) (f : Fold) (s : Bytes) (i : ℕ) (l : Line) (out : Bytes) (r : Line) (out' : Bytes) : Type 0 where
  pub same :
      puts (folded_of q (folding f) 0 r.after r.col (drop r.at s)) (pen r.w out')
      ≡ puts (folded_of q (folding f) 0 l.after l.col (drop i s)) (pen l.w out)
  pub grows : r.col + 6 * i ≤ max l.col f.indent + 6 * r.at
  pub on : i < r.at
  pub long : length out' ≡ length out
