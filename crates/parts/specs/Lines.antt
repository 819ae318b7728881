-- Stretches of the walk's lines that are written together.
use Rattle.std.specs.Prelude.{ℕ, Bool, true, false, [], ◌∷◌}
use Rattle.std.proofs.Math.Option.{Option}
use Rattle.definition.specs.Base.{Bytes, when◌then◌else◌}
use Rattle.definition.specs.Ascii.{SP, '&'}
use Rattle.definition.specs.Tree.{Source, Inline, Kept, Brought}
use Rattle.definition.specs.Pen.{directive, Script, put, comment, end_line, ◌>>◌, newline, indent}
use Rattle.definition.specs.Walk.{blanks, heads, heads_below, above_dash, below_dash, prop, props_compact, directive_of}

-- a byte, or none
abbrev pub only : Bool → ℕ → Bytes
only wanted b = when wanted then b ∷ [] else []

-- a tag and an anchor, each with its space
unfoldable pub props_of : Option Bytes → Option Bytes → Script
props_of t a = prop [] t (SP ∷ []) >> prop ('&' ∷ []) a (SP ∷ [])

-- each after a space, or each with its space
unfoldable pub props_by : Bool → Option Bytes → Option Bytes → Script
props_by true t a = prop (SP ∷ []) t [] >> prop (SP ∷ '&' ∷ []) a []
props_by false t a = props_of t a

-- an include's directive, to the end of the line
unfoldable pub directed : ℕ → Option Source → Option Inline → Script
directed p o m = put directive (directive_of o) >> comment p m >> newline

-- the properties and the inline comment of what stands below, to the end of the line
unfoldable pub breaks : ℕ → Option Inline → Brought → Script
breaks p m b = props_compact b >> comment p m >> newline

-- the inline comment, and the end of the line
unfoldable pub closes : ℕ → Option Inline → Script
closes p m = comment p m >> end_line

-- what stands before a pair's key or an item's dash: blank lines, head comments, the indent
unfoldable pub heads_over : Bool → Kept → ℕ → Script
heads_over true a i = heads a i
heads_over false a i = above_dash a i

unfoldable pub before : Bool → Kept → ℕ → Script
before pairs a i = blanks a >> heads_over pairs a i >> indent i

-- what stands below its introducer, up to its content
unfoldable pub below_open : ℕ → Kept → Brought → ℕ → Script
below_open p a b i = breaks p a.inline b >> heads_below a i >> indent i

-- a block collection after `:`, and below its dash, up to its members
unfoldable pub colon_open : ℕ → Kept → Brought → ℕ → Script
colon_open p a b i = breaks p a.inline b >> heads a i

unfoldable pub dash_open : ℕ → Kept → Brought → ℕ → Script
dash_open p a b i = breaks p a.inline b >> below_dash a i
