-- Laws of atoms, for the functions that write them.
-- Assumes nothing.
use mathlib.Core.Path.{◌≡◌, ap, ◌∙◌}
use Prim.Native.Nat.{ℕ, zero, suc, ◌≤◌}
use native.Mathlib.Omega.{arith}
use mathlib.Core.Bool.{Bool, true, false, not, ◌&&◌}
use mathlib.Core.List.{[], ◌∷◌}
use lib.ListN.{length, take, drop, length-drop}
use Rattle.definition.specs.Base.{Bytes}
use Rattle.definition.specs.Ascii.{'*'}
use Rattle.definition.specs.Records.{text_at}
use Rattle.definition.specs.Scalar.{marker_of}
use Rattle.definition.specs.Deck.{words}
use Rattle.definition.specs.Pen.{Script}
use Rattle.definition.specs.Walk.{is_block_style, replays}
use Rattle.definition.specs.declared.Settings.{Settings}
use Rattle.definition.specs.declared.Style.{Style}
use Rattle.definition.specs.declared.Text.{Text}
use Rattle.std.specs.Prelude.{None, Some}
use Rattle.definition.specs.declared.Cursor.{Cursor}
use Rattle.node.specs.Head.{Maybe, there}
use Rattle.node.specs.Total.{held_of, remark_of}
use Rattle.laws.specs.Leaf.{scalar_bytes}
use Rattle.pen.specs.Pen.{Pen, put1, puts, rawed, ink}
use Rattle.pen.specs.Draws.{Draws}
use Rattle.atoms.specs.Atoms.{commented, fresh_in, remark-some}

take_short : (n : ℕ) (s : Bytes) → length (take n s) ≤ length s
take_short zero s = omega arith
take_short (suc n) [] = omega arith
take_short (suc n) (b ∷ s) = let h = take_short n s in omega (arith, h)

-- a text is no longer than the pool
pub words-short : (pool : Bytes) (x : Text) {t : Bytes} {n : ℕ} → t ≡ words pool x → length pool ≤ n → length t ≤ n
unfolding words
words-short pool x e h = rw e (let k = take_short x.len (drop x.from pool) in omega (arith, k, length-drop x.from pool, h))

-- a star before a name
pub starred : (pool : Bytes) (x : Text) (P : Pen) {Q R : Pen} (t : Bytes) → t ≡ words pool x → Q ≡ put1 P '*' → R ≡ puts t Q → R ≡ puts ('*' ∷ words pool x) P
unfolding puts
starred pool x P t e f g = rw (← e) (g ∙ ap (puts t) f)

-- a scalar that is not replayed: with a comment on its header, and otherwise
pub with-comment :
    (s : Settings) (flow key : Bool) (i p : ℕ) (deck pool : Bytes) (m : Maybe) (x : Text) (y : Style) {t : Bytes} {marker : ℕ} {r : Bool} {P Q : Pen}
    → r ≡ (there m && is_block_style y && not flow) → r ≡ true → t ≡ words pool x → marker ≡ marker_of y
    → Draws (commented marker i p (remark_of deck pool m) t) P Q → Q ≡ ink s (fresh_in flow key i p (remark_of deck pool m) (words pool x) y) P
unfolding fresh_in
with-comment s flow key i p deck pool m x y e f g h d = rw (remark-some deck pool m, ← e, f, ← g, ← h) (d.drawn s)

pub without-comment :
    (s : Settings) (flow key : Bool) (i p : ℕ) (deck pool : Bytes) (m : Maybe) (x : Text) (y : Style) (P : Pen) {Q : Pen} {t : Bytes} {r : Bool}
    → r ≡ (there m && is_block_style y && not flow) → r ≡ false → t ≡ words pool x
    → Q ≡ puts (scalar_bytes s flow key t y i P.w.column) P → Q ≡ ink s (fresh_in flow key i p (remark_of deck pool m) (words pool x) y) P
unfolding fresh_in ink
without-comment s flow key i p deck pool m x y P e f g d = rw (remark-some deck pool m, ← e, f, ← g) d

-- a raw text: put aside, or replayed
module _ (s : Settings) (p : ℕ) (deck pool : Bytes) (a : Script) (P : Pen) {Q : Pen} where
  pub aside : (h : Maybe) (modified : Bool) → modified ≡ true → Q ≡ ink s a P → Q ≡ ink s (replays p (held_of deck pool h) modified a) P
  unfolding replays held_of
  aside None m e d = d
  aside (Some c) m e d = rw e d

  pub bare : (h : Maybe) (modified : Bool) → h ≡ None → Q ≡ ink s a P → Q ≡ ink s (replays p (held_of deck pool h) modified a) P
  unfolding replays held_of
  bare h m e d = rw e d

  pub again : (h : Maybe) (modified : Bool) {t : Bytes} {x : Text} {c : Cursor} → modified ≡ false → h ≡ Some c → x ≡ text_at deck c.at → t ≡ words pool x → Q ≡ rawed t P
      → Q ≡ ink s (replays p (held_of deck pool h) modified a) P
  unfolding replays held_of ink
  again h m e f k g d = rw (f, e, ← k, ← g) d
