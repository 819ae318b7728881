-- Laws of records one after another, for the loop that writes them.
use mathlib.Core.Path.{◌≡◌, sym, ◌∙◌}
use Prim.Native.Nat.{ℕ, zero, suc, ◌+◌, ◌-◌, ◌<◌, ◌^◌}
use native.Mathlib.Omega.{arith}
use Rattle.definition.specs.Base.{Bytes}
use Rattle.definition.specs.Pen.{Script, nothing}
use Rattle.definition.specs.declared.Cursor.{Cursor}
use Rattle.definition.specs.declared.Settings.{Settings}
use Rattle.node.specs.declared.Lead.{Lead}
use Rattle.node.specs.declared.Run.{Run}
use Rattle.node.specs.Total.{kept_of}
use Rattle.pen.specs.Pen.{Pen, puts, ink}
use Rattle.pen.specs.Draws.{Draws}
use Rattle.comments.specs.declared.Entries.{Entries}
use Rattle.comments.specs.declared.Entries.TheVariants.{Heads, Over, Under, Foots, Directives}
use Rattle.comments.specs.Runs.{stride, entry, entries, run_of, repeated, repeated-drawn, Short}

-- how many are left at the first turn, and one turn later
pub first-left : (n : ℕ) → n - 0 ≡ n
first-left n = omega arith

pub next-left : (n k : ℕ) → n - (k + 1) ≡ n - k - 1
next-left n k = omega arith

-- two pens that end alike: under any settings, a from P and b from Q
pub record Level (a : Script) (P : Pen) (b : Script) (Q : Pen) : Type 0 where
  pub same : (s : Settings) → ink s a P ≡ ink s b Q

pub turn :
    (deck pool : Bytes) (e : Entries) (i left : ℕ) (here : Cursor) (step : ℕ) (P P' : Pen) (b : Script) (Q : Pen) → 0 < left → step ≡ stride e
    → Draws (entry deck pool e i here) P P' → Level (entries deck pool e i left here) P b Q
    → Level (entries deck pool e i (left - 1) (record { at = here.at + step })) P' b Q
unfolding ink entries
turn deck pool e i zero here step P P' b Q l k d h = absurd (omega arith)
turn deck pool e i (suc n) here step P P' b Q l k d h =
    let z : suc n - 1 ≡ n = omega arith in
    record { same = λ s. rw (z, k, d.drawn s) (h.same s) }

pub done :
    (deck pool : Bytes) (e : Entries) (i left : ℕ) (here : Cursor) (P Q : Pen) {b : Script} → left ≡ 0 → Level (entries deck pool e i left here) P b Q → Draws b Q P
unfolding ink entries nothing puts
done deck pool e i left here P Q z h = record { drawn = λ s. rw z at (h.same s) }

pub short-run : (e : Entries) (l : Lead) (r : Run) → Short l → r ≡ run_of e l → (r.first.at < 2 ^ 61) × (r.count < 2 ^ 58)
unfolding run_of
short-run Heads l r h k = rw k (omega (arith, h.heads-first), omega (arith, h.heads-count))
short-run Over l r h k = rw k (omega (arith, h.heads-first), omega (arith, h.heads-count))
short-run Under l r h k = rw k (omega (arith, h.heads-first), omega (arith, h.heads-count))
short-run Foots l r h k = rw k (omega (arith, h.foots-first), omega (arith, h.foots-count))
short-run Directives l r h k = rw k (omega (arith, h.directives-first), omega (arith, h.directives-count))

pub of-run :
    (deck pool : Bytes) (e : Entries) (i : ℕ) (l : Lead) {r : Run} {P Q : Pen} → r ≡ run_of e l → Draws (entries deck pool e i r.count r.first) P Q → Draws (repeated e (kept_of deck pool l) i) P Q
of-run deck pool e i l {P = P} k d = record { drawn = λ s. rw k at (d.drawn s) ∙ sym (repeated-drawn deck pool i s e l P) }
