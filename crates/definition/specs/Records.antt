-- The record at a cursor of a deck, totally: past the deck's end a byte is 0, and an unknown kind reads as null and has no bytes. Which
-- records have a meaning is said in Deck. (Document 01, "The deck".)
use Rattle.std.specs.Prelude.{ℕ, ◌+◌, ◌*◌, ◌||◌, eqb, get_or}
use Rattle.definition.specs.Base.{Bytes, when◌then◌else◌}
use Rattle.definition.specs.declared.Cursor.{Cursor}
use Rattle.definition.specs.declared.Text.{Text}
use Rattle.definition.specs.declared.Style.{Style}
use Rattle.definition.specs.declared.Style.TheVariants.{Plain, Single, Double, Literal, Folded}
use Rattle.definition.specs.declared.Form.{Form}
use Rattle.definition.specs.declared.Form.TheVariants.{Block, Flow}
use Rattle.definition.specs.declared.Side.{Side}
use Rattle.definition.specs.declared.Side.TheVariants.{Above, Below}
use Rattle.std.specs.Prelude.{Option, None, Some}
use Rattle.definition.specs.declared.Include.{Include}
use Rattle.definition.specs.declared.Heading.{Heading}
use Rattle.definition.specs.declared.Trailer.{Trailer}
use Rattle.definition.specs.declared.Lines.{Lines}
use Rattle.definition.specs.declared.Words.{Words}
use Rattle.definition.specs.declared.Group.{Group}
use Rattle.definition.specs.declared.Record.{Record}
use Rattle.definition.specs.declared.Record.TheVariants as is

unfoldable pub byte_at : Bytes → ℕ → ℕ
byte_at deck at = get_or deck at 0

-- numbers are little-endian
unfoldable pub word_at : Bytes → ℕ → ℕ
word_at deck at = byte_at deck at + 256 * byte_at deck (at + 1)

-- a reference
unfoldable pub text_at : Bytes → ℕ → Text
text_at deck at = record { from = word_at deck at; len = word_at deck (at + 2) }

unfoldable pub style_of : ℕ → Style
style_of b = when eqb b 0 then Plain else when eqb b 1 then Single else when eqb b 2 then Double else when eqb b 3 then Literal else Folded

unfoldable pub form_of : ℕ → Form
form_of b = when eqb b 0 then Block else Flow

unfoldable pub side_of : ℕ → Side
side_of b = when eqb b 0 then Above else Below

-- the id of an include's file, which may be absent
abbrev pub File : Type 0
File = Option ℕ

-- the file id of an include: ignored where the byte before it says that it is absent
unfoldable pub file_at : Bytes → ℕ → File
file_at deck at = when eqb (byte_at deck at) 0 then None else Some (word_at deck (at + 1) + 65536 * word_at deck (at + 3))

unfoldable pub include_at : Bytes → ℕ → Include
include_at deck at = record { tag = text_at deck at; target = text_at deck (at + 4); file = file_at deck (at + 8) }

unfoldable pub heading_at : Bytes → ℕ → Heading
heading_at deck at = record { text = text_at deck at; side = side_of (byte_at deck (at + 4)) }

unfoldable pub trailer_at : Bytes → ℕ → Trailer
trailer_at deck at = record { text = text_at deck at; spaces = byte_at deck (at + 4) }

unfoldable pub lines_at : Bytes → ℕ → Lines
lines_at deck at = record { blank = byte_at deck at; pad = byte_at deck (at + 1); column = word_at deck (at + 2); marks = byte_at deck (at + 4) }

unfoldable pub words_at : Bytes → ℕ → Words
words_at deck at = record { text = text_at deck at; style = style_of (byte_at deck (at + 4)) }

unfoldable pub group_at : Bytes → ℕ → Group
group_at deck at = record { form = form_of (byte_at deck at); count = word_at deck (at + 1) }

-- the record of a kind whose body starts at a place
unfoldable pub record_of : ℕ → Bytes → ℕ → Record
record_of k deck at =
    when eqb k 0x01 then is.Tag (text_at deck at)
    else when eqb k 0x02 then is.Anchor (text_at deck at)
    else when eqb k 0x03 then is.Source (include_at deck at)
    else when eqb k 0x04 then is.Head (heading_at deck at)
    else when eqb k 0x05 then is.Inline (trailer_at deck at)
    else when eqb k 0x06 then is.Foot (text_at deck at)
    else when eqb k 0x07 then is.Raw (text_at deck at)
    else when eqb k 0x08 then is.Directive (text_at deck at)
    else when eqb k 0x09 then is.Layout (lines_at deck at)
    else when eqb k 0x21 then is.Scalar (words_at deck at)
    else when eqb k 0x22 then is.Alias (text_at deck at)
    else when eqb k 0x23 then is.Sequence (group_at deck at)
    else when eqb k 0x24 then is.Mapping (group_at deck at)
    else is.Null

unfoldable pub kind_at : Bytes → Cursor → ℕ
kind_at deck c = byte_at deck c.at

-- the record whose kind byte stands at a cursor
unfoldable pub record_at : Bytes → Cursor → Record
record_at deck c = let k = kind_at deck c in record_of k deck (c.at + 1)

-- the bytes of a record, its kind byte too: none of an unknown kind
unfoldable pub size_of : ℕ → ℕ
size_of k =
    when eqb k 0x01 || eqb k 0x02 || eqb k 0x06 || eqb k 0x07 || eqb k 0x08 || eqb k 0x22 then 5
    else when eqb k 0x04 || eqb k 0x05 || eqb k 0x09 || eqb k 0x21 then 6
    else when eqb k 0x03 then 14
    else when eqb k 0x20 then 1
    else when eqb k 0x23 || eqb k 0x24 then 4
    else 0

-- the cursor after the record at a cursor
unfoldable pub past : Bytes → Cursor → Cursor
past deck c = let k = kind_at deck c in record { at = c.at + size_of k }
