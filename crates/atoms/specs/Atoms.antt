-- What is written of a node without children, from what its head says of it alone.
use Rattle.std.specs.Prelude.{ℕ, ◌≡◌, refl, Bool, true, false, not, ◌&&◌, [], ◌∷◌, eqb}
use Rattle.std.proofs.Math.Option.{Option}
use Rattle.definition.specs.Base.{Bytes, when◌then◌else◌, is_some}
use Rattle.definition.specs.Ascii.{'~'}
use Rattle.definition.specs.Block.{block_header, block_body}
use Rattle.definition.specs.Settings.{is_tilde}
use Rattle.definition.specs.Scalar.{marker_of}
use Rattle.definition.specs.Tree.{Inline}
use Rattle.definition.specs.Deck.{marked}
use Rattle.definition.specs.Pen.{text, Script, put, comment, leaf, ◌>>◌}
use Rattle.definition.specs.Walk.{is_block_style}
use Rattle.definition.specs.declared.Lines.{Lines}
use Rattle.definition.specs.declared.Settings.{Settings}
use Rattle.definition.specs.declared.Style.{Style}
use Rattle.definition.specs.declared.Style.TheVariants.{Plain, Single, Double, Literal, Folded}
use Rattle.pen.specs.Pen.{from_bool}
use Rattle.std.specs.Prelude.{None, Some}
use Rattle.node.specs.Head.{Maybe, there}
use Rattle.node.specs.Total.{remark_of}

-- a mark or a depth that is not 0
unfoldable pub on : ℕ → Bool
on n = not (eqb n 0)

-- a yes or no that a number tells
pub on-bit : (b : Bool) (n : ℕ) → from_bool b ≡ n → b ≡ on n
unfolding on
on-bit true n e = rw (← e)
on-bit false n e = rw (← e)

-- a number for each style: the deck's
unfoldable pub number_of : Style → ℕ
number_of Plain = 0
number_of Single = 1
number_of Double = 2
number_of Literal = 3
number_of Folded = 4

-- `~` or `null`, from the layout record
unfoldable pub null_in : Settings → Lines → Bytes
null_in s l = when marked l.marks 8 && is_tilde s.null_style then '~' ∷ [] else 110 ∷ 117 ∷ 108 ∷ 108 ∷ []

-- a block scalar with an inline comment on its header
unfoldable pub commented : ℕ → ℕ → ℕ → Option Inline → Bytes → Script
commented marker i p m t = put text (block_header marker t) >> comment p m >> put text (block_body i t)

-- a scalar that is not replayed, from its inline comment alone
unfoldable pub fresh_in : Bool → Bool → ℕ → ℕ → Option Inline → Bytes → Style → Script
fresh_in flow key i p m t y = when is_some m && is_block_style y && not flow then commented (marker_of y) i p m t else leaf p flow key t y i

-- an inline comment is there
pub remark-some : (deck pool : Bytes) (m : Maybe) → is_some (remark_of deck pool m) ≡ there m
unfolding remark_of is_some
remark-some deck pool None = refl
remark-some deck pool (Some c) = refl
