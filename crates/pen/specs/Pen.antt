-- The pen: what writing into a lent slice does, one byte after another, and what a script does to it. Total in all states: a store past the
-- end changes nothing, a byte past the end is 0, and counts stop at two past the room.
pub use mir.Val.{bool_byte as from_bool}
use Rattle.std.specs.Prelude.{ℕ, ◌+◌, ◌-◌, ◌/◌, ◌%◌, min, ◌≡◌, refl, [], ◌∷◌, ◌++◌, length, get_or, set, eqb}
use Rattle.std.proofs.Common.{sym, ap, ◌∙◌}
use Rattle.std.proofs.Math.Option.{Option, none, some}
use Rattle.definition.specs.Base.{Bytes, when◌then◌else◌}
use Rattle.definition.specs.Ascii.{LF}
use Rattle.definition.specs.Scalar.{separator}
use Rattle.definition.specs.Tree.{Inline}
use Rattle.definition.specs.Pen.{Script, put, end_line, comment, replay, leaf, comma, ◌>>◌, inline_text, ends_closed}
use Rattle.definition.specs.declared.Settings.{Settings}
use Rattle.laws.specs.Leaf.{scalar_bytes}
use Rattle.pen.specs.declared.Writer.{Writer}

-- what a writer says
pub record Fields : Type 0 where
  pub len : ℕ
  pub last : ℕ
  pub under : ℕ
  pub column : ℕ
  pub tracks : ℕ
  pub flow : ℕ
  pub key : ℕ
  pub inline : ℕ
  pub raw : ℕ

-- and how it keeps that in its two numbers: from 2^22 and 2^45 on the second and third of the counts; from 2^8, 2^16, 2^17, 2^18 and 2^36 on the parts
-- of the state after the first
abbrev pub fields : Writer → Fields
fields w =
    record {
      len = w.counts % 4194304;
      last = w.state / 256 % 256;
      under = w.state % 256;
      column = w.state / 68719476736;
      tracks = w.state / 131072 % 2;
      flow = w.state / 262144 % 262144;
      key = w.state / 65536 % 2;
      inline = w.counts / 35184372088832;
      raw = w.counts / 4194304 % 8388608;
    }

-- the same after some bytes: their count, the last of them, what it was put over, the column
abbrev pub moved : Fields → ℕ → ℕ → ℕ → ℕ → Fields
moved w n b u c =
    record {
      len = n;
      last = b;
      under = u;
      column = c;
      tracks = w.tracks;
      flow = w.flow;
      key = w.key;
      inline = w.inline;
      raw = w.raw;
    }

abbrev pub put_to : ℕ → ℕ → ℕ → Fields → Fields
put_to n b u w = moved w n b u w.column

abbrev pub at_column : ℕ → Fields → Fields
at_column c w = moved w w.len w.last w.under c

-- the same with other marks: flow depth, key, whose inline comment, where raw text ended
abbrev pub stamped : Fields → ℕ → ℕ → ℕ → ℕ → Fields
stamped w f k i r =
    record {
      len = w.len;
      last = w.last;
      under = w.under;
      column = w.column;
      tracks = w.tracks;
      flow = f;
      key = k;
      inline = i;
      raw = r;
    }

unfoldable pub with_inline : ℕ → Fields → Fields
with_inline m w = stamped w w.flow w.key m w.raw

unfoldable pub with_raw : ℕ → Fields → Fields
with_raw m w = stamped w w.flow w.key w.inline m

-- a writer and its slice
pub record Pen : Type 0 where
  pub w : Fields
  pub out : Bytes

abbrev pub page : Fields → Bytes → Pen
page w o = record { w = w; out = o }

abbrev pub pen : Writer → Bytes → Pen
pen w o = page (fields w) o

-- the column after a byte at a column, `most` at most; after a text
abbrev pub next_column : ℕ → ℕ → ℕ → ℕ
next_column most c b = when eqb b LF then 0 else min (c + 1) most

unfoldable pub column_over : ℕ → ℕ → Bytes → ℕ
column_over most c [] = c
column_over most c (b ∷ t) = column_over most (next_column most c b) t

-- the same of a writer, which may keep no columns
unfoldable pub column_after : Fields → ℕ → ℕ → ℕ
column_after w most b = when eqb w.tracks 0 then w.column else next_column most w.column b

unfoldable pub column_past : Fields → ℕ → Bytes → ℕ
column_past w most t = when eqb w.tracks 0 then w.column else column_over most w.column t

-- one byte: stored where there is room, else only counted
unfoldable pub put1 : Pen → ℕ → Pen
put1 p b =
    let most = length p.out + 2 in
    page (moved p.w (min (p.w.len + 1) most) b (get_or p.out p.w.len 0) (column_after p.w most b)) (set p.out p.w.len b)

unfoldable pub puts : Bytes → Pen → Pen
puts [] p = p
puts (b ∷ bs) p = puts bs (put1 p b)

pub puts-append : (a b : Bytes) (p : Pen) → puts (a ++ b) p ≡ puts b (puts a p)
unfolding puts
puts-append [] b p = refl
puts-append (x ∷ a) b p = puts-append a b (put1 p x)

-- one text after another
pub and_then : (p : Pen) {q r : Pen} (a b : Bytes) → q ≡ puts a p → r ≡ puts b q → r ≡ puts (a ++ b) p
and_then p a b e f = f ∙ ap (puts b) e ∙ sym (puts-append a b p)

-- ---- the steps that look at the writer

unfoldable pub line_ended : Pen → Pen
line_ended p = when eqb p.w.last LF then p else put1 p LF

-- the inline comment of the node at a place, unless it was the last one written
unfoldable pub noted : ℕ → Inline → Pen → Pen
noted place c p =
    let q = puts (inline_text c) p in
    when eqb p.w.inline (place + 1) then p else page (with_inline (place + 1) q.w) q.out

-- a raw text, and where it ended if it has no line break there
unfoldable pub rawed : Bytes → Pen → Pen
rawed t p = let q = puts t p in when ends_closed t then q else page (with_raw (q.w.len + 1) q.w) q.out

-- the byte put last, taken away again
unfoldable pub unput : Pen → Pen
unput p = page (moved p.w (p.w.len - 1) p.w.last p.w.under p.w.column) (set p.out (p.w.len - 1) p.w.under)

-- `finish`: the last line break is dropped, if it directly follows a raw text that has none of its own
unfoldable pub ended : Pen → Pen
ended p = when eqb p.w.raw 0 then p else when eqb p.w.len p.w.raw then (when eqb p.w.last LF then unput p else p) else p

-- ---- flow depth and key mark

unfoldable pub with_flow : ℕ → Pen → Pen
with_flow n p = page (stamped p.w n p.w.key p.w.inline p.w.raw) p.out

unfoldable pub with_key : ℕ → Pen → Pen
with_key n p = page (stamped p.w p.w.flow n p.w.inline p.w.raw) p.out

-- ---- a script, its scalars by the bytes at a place

unfoldable pub note_of : ℕ → Option Inline → Pen → Pen
note_of place none p = p
note_of place (some c) p = noted place c p

module _ (s : Settings) where
  unfoldable pub ink : Script → Pen → Pen
  ink (put k t) p = puts t p
  ink end_line p = line_ended p
  ink (comment place c) p = note_of place c p
  ink (replay place t) p = rawed t p
  ink (leaf place flow key t y i) p = puts (scalar_bytes s flow key t y i p.w.column) p
  ink (comma key i) p = puts (separator s key i p.w.column) p
  ink (a >> b) p = ink b (ink a p)
