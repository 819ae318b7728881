-- Laws of parts that may be absent, for the functions that write them.
use mathlib.Core.Path.{◌≡◌, refl, sym, ap, ◌∙◌}
use Prim.Native.Nat.{ℕ}
use mathlib.Core.Bool.{Bool, true, false, not, ◌||◌}
use mathlib.Core.List.{◌∷◌, ◌++◌}
use mathlib.Core.Option.{Option}
use borrow.Author.Tests.{not-true}
use Rattle.definition.specs.Base.{Bytes}
use Rattle.definition.specs.Ascii.{LF, SP, '&'}
use Rattle.definition.specs.Records.{text_at, include_at, trailer_at}
use Rattle.definition.specs.Deck.{words, inline_of, source_of}
use Rattle.definition.specs.Pen.{put, comment, directive, nothing, space, newline}
use Rattle.definition.specs.Walk.{prop, props_compact, props_line, directive_of}
use Rattle.definition.specs.declared.Include.{Include}
use Rattle.definition.specs.declared.Text.{Text}
use Rattle.definition.specs.declared.Trailer.{Trailer}
use Rattle.laws.specs.Tests.{both_left, both_right}
use Rattle.std.specs.Prelude.{None, Some}
use Rattle.std.proofs.Common.{true≢false}
use Rattle.definition.specs.declared.Cursor.{Cursor}
use Rattle.node.specs.Head.{Maybe, there}
use Rattle.node.specs.declared.Lead.{Lead}
use Rattle.node.specs.Total.{held_of, origin_of, remark_of, brought_of}
use Rattle.pen.specs.Pen.{Pen, put1, puts, and_then, note_of, noted, ink}
use Rattle.pen.specs.Draws.{Draws, both, of-byte, draws-yes, draws-no, stays}
use Rattle.parts.specs.Lines.{only, props_of, props_by, breaks}
use Rattle.parts.specs.Props.{held-some, has-props-is, no-props, silent_in}

pub no-remark : (deck pool : Bytes) (place : ℕ) (m : Maybe) (P : Pen) → there m ≡ false → Draws (comment place (remark_of deck pool m)) P P
unfolding ink note_of remark_of
no-remark deck pool place None P e = record { drawn = λ s. refl }
no-remark deck pool place (Some c) P e = absurd (true≢false e)

-- a line that has neither
pub silent-break :
    (deck pool : Bytes) (place : ℕ) (l : Lead) (r : Bool) {P Q : Pen} → r ≡ silent_in l → r ≡ true → Q ≡ put1 P LF
    → Draws (breaks place (remark_of deck pool l.remark) (brought_of deck pool l)) P Q
unfolding breaks newline props_compact props_by brought_of silent_in
silent-break deck pool place l r e t d =
    let h = sym e ∙ t in
    let p = not-true _ (both_left _ _ h) in
    let m = not-true _ (both_right (not (there l.tag || there l.anchor)) _ h) in
    both _ _ (no-props deck pool true l.tag l.anchor _ refl p) (both _ _ (no-remark deck pool place l.remark _ m) (of-byte space LF d))

pub some-remark :
    (deck pool : Bytes) (place : ℕ) (m : Maybe) (c : Cursor) (r : Trailer) (t : Bytes) (P Q : Pen) → m ≡ Some c → r ≡ trailer_at deck c.at → t ≡ words pool r.text
    → Q ≡ noted place (record { text = t; spaces = r.spaces }) P → Draws (comment place (remark_of deck pool m)) P Q
unfolding ink note_of remark_of inline_of
some-remark deck pool place m c r t P Q e k f d = record { drawn = λ s. rw (e, ← k, ← f) d }

pub no-prop : (deck pool before : Bytes) (h : Maybe) (after : Bytes) (P : Pen) → there h ≡ false → Draws (prop before (held_of deck pool h) after) P P
unfolding ink prop held_of nothing puts
no-prop deck pool before None after P e = record { drawn = λ s. refl }
no-prop deck pool before (Some c) after P e = absurd (true≢false e)

pub some-prop :
    (deck pool before : Bytes) (h : Maybe) (c : Cursor) (after : Bytes) (x : Text) (t : Bytes) (P Q R S : Pen) → h ≡ Some c → x ≡ text_at deck c.at → t ≡ words pool x
    → Q ≡ puts before P → R ≡ puts t Q → S ≡ puts after R → Draws (prop before (held_of deck pool h) after) P S
unfolding ink prop held_of
some-prop deck pool before h c after x t P Q R S e k f u v w = record { drawn = λ s. rw (e, ← k, ← f) (and_then P (before ++ t) after (and_then P before t u v) w) }

pub no-directive : (deck pool : Bytes) (o : Maybe) (P : Pen) → there o ≡ false → Draws (put directive (directive_of (origin_of deck pool o))) P P
unfolding ink directive_of origin_of puts
no-directive deck pool None P e = record { drawn = λ s. refl }
no-directive deck pool (Some c) P e = absurd (true≢false e)

pub some-directive :
    (deck pool : Bytes) (o : Maybe) (c : Cursor) (i : Include) (t u : Bytes) (P Q R S : Pen) → o ≡ Some c → i ≡ include_at deck c.at → t ≡ words pool i.tag → u ≡ words pool i.target
    → Q ≡ puts t P → R ≡ put1 Q SP → S ≡ puts u R → Draws (put directive (directive_of (origin_of deck pool o))) P S
unfolding ink directive_of origin_of source_of puts
some-directive deck pool o c i t u P Q R S e k f g x y z =
    record { drawn = λ s. rw (e, ← k, ← f, ← g) (and_then P t (SP ∷ u) x (z ∙ ap (puts u) y)) }

-- a tag and an anchor, each after a space or each with one after it
pub props-by : (compact : Bool) (t a : Option Bytes) {P Q R : Pen}
    → Draws (prop (only compact SP ++ only false '&') t (only (not compact) SP)) P Q → Draws (prop (only compact SP ++ only true '&') a (only (not compact) SP)) Q R
    → Draws (props_by compact t a) P R
unfolding props_by props_of
props-by true t a d e = both _ _ d e
props-by false t a d e = both _ _ d e

-- a line of properties: a space follows the tag where an anchor does
pub props-line :
    (deck pool : Bytes) (l : Lead) (n r : Bool) {P Q R S : Pen} → r ≡ (there l.tag || there l.anchor) → r ≡ true → n ≡ there l.anchor
    → Draws (prop (only false SP ++ only false '&') (held_of deck pool l.tag) (only n SP)) P Q
    → Draws (prop (only false SP ++ only true '&') (held_of deck pool l.anchor) (only false SP)) Q R → S ≡ put1 R LF → Draws (props_line (brought_of deck pool l)) P S
unfolding props_line newline brought_of
props-line deck pool l n r e t k d f g =
    draws-yes _ _ _ (has-props-is deck pool l ∙ sym e ∙ t)
    (rw (held-some deck pool l.anchor, ← k) (both _ _ d (both _ _ f (of-byte space LF g))))

pub no_line : (deck pool : Bytes) (l : Lead) (r : Bool) {P : Pen} → r ≡ (there l.tag || there l.anchor) → r ≡ false → Draws (props_line (brought_of deck pool l)) P P
unfolding props_line
no_line deck pool l r e t = draws-no _ _ _ (has-props-is deck pool l ∙ sym e ∙ t) stays
