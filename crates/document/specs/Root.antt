-- At a document's root: the columns that it may take, and how a run begins.
use Rattle.std.specs.Prelude.{refl, ℕ, ◌≤◌, length}
use Rattle.std.proofs.Common.{arith}
use Rattle.definition.specs.Base.{Bytes}
use Rattle.definition.specs.Pen.{Script}
use Rattle.definition.specs.declared.Cursor.{Cursor}
use Rattle.definition.specs.declared.Settings.{Settings}
use Rattle.pen.specs.Pen.{Pen, page}
use Rattle.pen.specs.Shown.{begun}
use Rattle.flow.specs.Ready.{Emits}
use Rattle.layout.specs.Calm.{Calm, in-line, calm-after, calm-further}

module _ {s : Settings} {deck pool : Bytes} where
  -- after a tree
  pub calm-emits :
      {P Q : Pen} {at i : ℕ} {a : Script} {c r : Cursor} → Calm s deck pool P at i → Emits s a P Q at c r (length deck) → Calm s deck pool Q r.at i
  calm-emits {a = a} b e = calm-further (calm-after b s a _ e.drawn) _ e.onward e.within

  -- a root's members, at most a step in
  pub root-calm : {P : Pen} {at : ℕ} → Calm s deck pool P at 0 → (to i : ℕ) → at ≤ to → to ≤ length deck → i ≤ 16 → Calm s deck pool P to i
  root-calm b to i h l m =
      record { ready = in-line b to i h l (omega (arith, m)); column = (let d = b.ready.deck-small in omega (arith, d, m)); flow = b.flow; key = b.key }

-- a new writer, at the deck's beginning
pub begin :
    (s : Settings) (deck pool out : Bytes) → length deck ≤ 65536 → length pool ≤ 65536 → length out ≤ 1048576 → s.indent ≤ 16
    → Calm s deck pool (page (begun s) out) 0 0
unfolding begun
begin s deck pool out d p o i =
    record {
      ready = record {
        deck-small = d;
        pool-small = p;
        out-small = o;
        step = i;
        here = omega arith;
        indent = omega (arith, d);
        flow = omega (arith, d);
      };
      column = omega (arith, d);
      flow = refl;
      key = refl;
    }
