-- Emission in steps: what is drawn before and after it, and lines in no flow collection and no key.
use Rattle.std.specs.Prelude.{◌≡◌, refl, ℕ, Bool, true, false}
use Rattle.std.proofs.Math.Path.{ap}
use Rattle.std.proofs.Common.{◌∙◌}
use Rattle.definition.specs.Base.{when◌then◌else◌}
use Rattle.definition.specs.Pen.{Script, ◌>>◌}
use Rattle.definition.specs.Tree.{Kept, Brought, Kind, Node, node}
use Rattle.definition.specs.Walk.{inlined, content}
use Rattle.definition.specs.declared.Cursor.{Cursor}
use Rattle.definition.specs.declared.Settings.{Settings}
use Rattle.pen.specs.Pen.{Pen, ink}
use Rattle.pen.specs.Draws.{Draws}
use Rattle.atoms.specs.Atoms.{on}
use Rattle.joints.specs.declared.Manner.{Manner}
use Rattle.joints.specs.declared.Manner.TheVariants.{Value}
use Rattle.joints.specs.Line.{dressed, key_by, ending, line_of}
use Rattle.flow.specs.Ready.{Emits}

module _ {s : Settings} {st : ℕ} {z r : Cursor} {l : ℕ} where
  pub drawn-first : {P Q R : Pen} (a b : Script) → Draws a P Q → Emits s b Q R st z r l → Emits s (a >> b) P R st z r l
  unfolding ink
  drawn-first a b d e = record { drawn = e.drawn ∙ ap (ink s b) (d.drawn s); next = e.next; onward = e.onward; within = e.within }

  pub drawn-last : {P Q R : Pen} (a b : Script) → Emits s a P Q st z r l → Draws b Q R → Emits s (a >> b) P R st z r l
  unfolding ink
  drawn-last a b e d = record { drawn = d.drawn s ∙ ap (ink s b) e.drawn; next = e.next; onward = e.onward; within = e.within }

  pub emits-yes : {P Q : Pen} (t : Bool) (a b : Script) → t ≡ true → Emits s a P Q st z r l → Emits s (when t then a else b) P Q st z r l
  emits-yes t a b e d = rw e d

  pub emits-no : {P Q : Pen} (t : Bool) (a b : Script) → t ≡ false → Emits s b P Q st z r l → Emits s (when t then a else b) P Q st z r l
  emits-no t a b e d = rw e d

  pub emits-same : {P Q : Pen} (a b : Script) → a ≡ b → Emits s a P Q st z r l → Emits s b P Q st z r l
  emits-same a b e d = rw e at d

-- a node on its line where no flow collection and no key is open
pub calm-line : (s : Settings) (m : Manner) (i f k : ℕ) (n : Node) → f ≡ 0 → k ≡ 0 → line_of s (on f) (on k) m i n ≡ line_of s false false m i n
unfolding on
calm-line s m i f k n e h = rw (e, h)

-- a value, to the end of the line
pub line-value : (s : Settings) (f k : Bool) (i p : ℕ) (a : Kept) (b : Brought) (t : Kind) → line_of s f k Value i (node p a b t) ≡ inlined p a b (content s f k i (node p a b t))
unfolding line_of dressed key_by ending inlined
line-value s f k i p a b t = refl
