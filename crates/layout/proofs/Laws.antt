-- Laws of lines of block layout.
-- Assumes nothing.
use mathlib.Core.Path.{◌≡◌}
use Prim.Native.Nat.{ℕ, ◌<◌, ◌≤◌, max}
use native.Mathlib.Omega.{arith}
use mathlib.Core.Bool.{Bool, true, false, ◌||◌}
use lib.ListN.{length}
use Rattle.definition.specs.Base.{Bytes, spaces}
use Rattle.definition.specs.Ascii.{LF, SP}
use Rattle.definition.specs.Tree.{Brought}
use Rattle.definition.specs.Pen.{mark, space, nothing, newline, indent, sign}
use Rattle.definition.specs.Walk.{props_compact, include_line, below_introducer, content}
use Rattle.definition.specs.declared.Cursor.{Cursor}
use Rattle.definition.specs.declared.Settings.{Settings}
use Rattle.node.specs.declared.Lead.{Lead}
use Rattle.node.specs.Ends.{Ends}
use Rattle.node.specs.Total.{kept_of, brought_of, origin_of, remark_of}
use Rattle.pen.specs.Pen.{Pen, put1, puts, ink}
use Rattle.pen.specs.Draws.{Draws, both, of-byte, of-puts}
use Rattle.parts.specs.Lines.{props_by, directed, below_open, breaks}
use Rattle.node.specs.Head.{there}
use Rattle.parts.specs.Props.{no-props}
use Rattle.spot.specs.declared.Spot.{Spot}
use Rattle.spot.specs.Spot.{kept_in, brought_in, end_in, node_in}
use Rattle.atoms.specs.Atoms.{on}
use Rattle.joints.specs.declared.Manner.TheVariants.{Below, Asked}
use Rattle.joints.specs.Line.{dressed, key_by, ending, line_of}
use Rattle.joints.specs.Entries.{next_at}
use Rattle.flow.specs.Ready.{Emits}
use Rattle.layout.specs.Stretch.{include_after, key_line, bare_line}
use Rattle.layout.specs.Value.{line_after}

-- properties, and the line's end
pub bare-whole : (b : Brought) {P Q R : Pen} → Draws (props_compact b) P Q → R ≡ put1 Q LF → Draws (bare_line b) P R
unfolding bare_line newline
bare-whole b d p = both _ _ d (of-byte space LF p)

-- the line's end alone, where there are no properties
pub bare-none : (deck pool : Bytes) (l : Lead) (r : Bool) {P Q : Pen} → r ≡ (there l.tag || there l.anchor) → r ≡ false → Q ≡ put1 P LF → Draws (bare_line (brought_of deck pool l)) P Q
unfolding props_compact props_by brought_of
bare-none deck pool l r e f p = bare-whole _ (no-props deck pool true l.tag l.anchor r e f) p

-- the pad: one space at least
pub pad-one : {P Q : Pen} (n : ℕ) → n < 2 → Q ≡ put1 P SP → Draws (indent (max n 1)) P Q
unfolding indent spaces
pad-one n h e = let z : max n 1 ≡ 1 = omega (arith, h) in rw z (of-byte space SP e)

pub pad-more : {P Q : Pen} (n : ℕ) → 2 ≤ n → Q ≡ puts (spaces n) P → Draws (indent (max n 1)) P Q
unfolding indent
pad-more n h e = let z : max n 1 ≡ n = omega (arith, h) in rw z (of-puts space (spaces n) e)

module _ (s : Settings) (deck pool : Bytes) where
  pub included-whole :
      (x : Spot) (c r : Cursor) {P Q R : Pen} → Q ≡ put1 P SP → Draws (directed x.place (origin_of deck pool x.lead.origin) (remark_of deck pool x.lead.remark)) Q R → Ends deck c r
      → Emits s (include_after x.place (kept_in deck pool x)) P R c.at (next_at deck pool c) r (length deck)
  unfolding include_after include_line directed sign kept_of
  included-whole x c r e d n = record { drawn = (both _ _ (of-byte mark SP e) d).drawn s; next = n.tree pool; onward = n.onward; within = n.within }

  pub below-whole :
      (x : Spot) (i : ℕ) (r : Cursor) (P Q R : Pen) → P.w.flow ≡ 0 → P.w.key ≡ 0 → Draws (below_open x.place (kept_of deck pool x.lead) (brought_of deck pool x.lead) i) P Q
      → Emits s (line_of s (on Q.w.flow) (on Q.w.key) Below i (node_in deck pool x)) Q R x.place (end_in deck pool x) r (length deck)
      → Emits s (below_introducer x.place (kept_in deck pool x) (brought_in deck pool x) i (content s false false i (node_in deck pool x))) P R x.place (end_in deck pool x) r (length deck)
  unfolding ink puts nothing below_introducer below_open breaks line_of dressed key_by ending node_in
  below-whole x i r P Q R f k d e =
      let m = line_after s deck pool (below_open x.place (kept_of deck pool x.lead) (brought_of deck pool x.lead) i) Below x i r P Q R f k d e in
      record { drawn = m.drawn; next = m.next; onward = m.onward; within = m.within }

  -- ---- a key after `?`

  pub key-line-whole :
      (x : Spot) (i : ℕ) (r : Cursor) (P Q R : Pen) → P.w.flow ≡ 0 → P.w.key ≡ 0 → Q ≡ put1 P SP
      → Emits s (line_of s (on Q.w.flow) (on Q.w.key) Asked i (node_in deck pool x)) Q R x.place (end_in deck pool x) r (length deck)
      → Emits s (key_line s i (brought_in deck pool x) (node_in deck pool x)) P R x.place (end_in deck pool x) r (length deck)
  unfolding key_line sign line_of dressed key_by ending node_in
  key-line-whole x i r P Q R f k a e = line_after s deck pool (sign SP) Asked x i r P Q R f k (of-byte mark SP a) e
