-- What a function that writes does: it draws a script. The pen at exit is what the script makes of the pen at entry, under any settings.
use Rattle.std.specs.Prelude.{◌≡◌, refl, ℕ, Bool, true, false, [], ◌∷◌}
use Rattle.std.proofs.Common.{ap, ◌∙◌}
use Rattle.definition.specs.Base.{Bytes, when◌then◌else◌}
use Rattle.definition.specs.Pen.{Ink, Script, put, end_line, ◌>>◌, nothing}
use Rattle.definition.specs.declared.Settings.{Settings}
use Rattle.pen.specs.Pen.{Pen, put1, puts, line_ended, ink}

pub record Draws (a : Script) (P P' : Pen) : Type 0 where
  pub drawn : (s : Settings) → P' ≡ ink s a P

-- one script after another
pub both : {P Q R : Pen} (a b : Script) → Draws a P Q → Draws b Q R → Draws (a >> b) P R
unfolding ink
both a b d e = record { drawn = λ s. e.drawn s ∙ ap (ink s b) (d.drawn s) }

pub of-puts : {P Q : Pen} (k : Ink) (t : Bytes) → Q ≡ puts t P → Draws (put k t) P Q
unfolding ink
of-puts k t e = record { drawn = λ s. e }

pub of-byte : {P Q : Pen} (k : Ink) (b : ℕ) → Q ≡ put1 P b → Draws (put k (b ∷ [])) P Q
unfolding ink puts
of-byte k b e = record { drawn = λ s. e }

pub of_end : {P Q : Pen} → Q ≡ line_ended P → Draws end_line P Q
unfolding ink
of_end e = record { drawn = λ s. e }

pub stays : {P : Pen} → Draws nothing P P
unfolding ink puts nothing
stays = record { drawn = λ s. refl }

-- where a test decides
pub draws-yes : {P Q : Pen} (t : Bool) (a b : Script) → t ≡ true → Draws a P Q → Draws (when t then a else b) P Q
draws-yes t a b e d = rw e d

pub draws-no : {P Q : Pen} (t : Bool) (a b : Script) → t ≡ false → Draws b P Q → Draws (when t then a else b) P Q
draws-no t a b e d = rw e d
