-- Properties, a tag and an anchor: whether a node has them, and that nothing is drawn where it has none.
use Rattle.std.specs.Prelude.{◌≡◌, refl, Bool, true, false, not, ◌||◌, ◌&&◌, None, Some}
use Rattle.std.proofs.Common.{sym, ◌∙◌, true≢false}
use Rattle.std.proofs.Math.Option.{Option, none, some}
use Rattle.definition.specs.Base.{Bytes, is_some}
use Rattle.definition.specs.Pen.{nothing}
use Rattle.definition.specs.Walk.{prop, props, has_props}
use Rattle.node.specs.declared.Lead.{Lead}
use Rattle.node.specs.Head.{Maybe, there}
use Rattle.node.specs.Total.{brought_of, held_of}
use Rattle.pen.specs.Pen.{Pen}
use Rattle.pen.specs.Draws.{Draws, both, stays}
use Rattle.parts.specs.Lines.{props_of, props_by}

pub held-some : (deck pool : Bytes) (h : Maybe) → is_some (held_of deck pool h) ≡ there h
unfolding held_of is_some
held-some deck pool None = refl
held-some deck pool (Some c) = refl

pub has-props-is : (deck pool : Bytes) (l : Lead) → has_props (brought_of deck pool l) ≡ (there l.tag || there l.anchor)
unfolding has_props brought_of
has-props-is deck pool l = rw (held-some, held-some)

-- the properties of a node are its tag and its anchor
pub of-props :
    (deck pool : Bytes) (l : Lead) {P Q : Pen} → Draws (props_of (held_of deck pool l.tag) (held_of deck pool l.anchor)) P Q → Draws (props (brought_of deck pool l)) P Q
unfolding props props_of brought_of
of-props deck pool l d = d

-- where neither is there, nothing is drawn of them
neither : (compact : Bool) (x y : Option Bytes) {P : Pen} → (is_some x || is_some y) ≡ false → Draws (props_by compact x y) P P
unfolding props_by props_of prop is_some
neither true none none e = both nothing nothing stays stays
neither false none none e = both nothing nothing stays stays
neither compact none (some t) e = absurd (true≢false e)
neither compact (some t) y e = absurd (true≢false e)

pub no-props :
    (deck pool : Bytes) (compact : Bool) (x y : Maybe) (b : Bool) {P : Pen} → b ≡ (there x || there y) → b ≡ false
    → Draws (props_by compact (held_of deck pool x) (held_of deck pool y)) P P
no-props deck pool compact x y b e f = neither compact (held_of deck pool x) (held_of deck pool y) (rw (held-some deck pool x, held-some deck pool y) (sym e ∙ f))

-- neither a tag nor an anchor is there, nor an inline comment
unfoldable pub silent_in : Lead → Bool
silent_in l = not (there l.tag || there l.anchor) && not (there l.remark)
