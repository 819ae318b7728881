-- Stretches of the walk's lines that are written together.
use Rattle.std.specs.Prelude.{ℕ, true, false}
use Rattle.definition.specs.Ascii.{SP}
use Rattle.definition.specs.Tree.{Kept, Brought, Node}
use Rattle.definition.specs.Pen.{Script, end_line, ◌>>◌, newline, sign}
use Rattle.definition.specs.Walk.{props, props_compact, include_line, content}
use Rattle.definition.specs.declared.Settings.{Settings}

-- an include after `:` or `-`
unfoldable pub include_after : ℕ → Kept → Script
include_after p a = sign SP >> include_line p a

-- a key after `?` that stands on its line
unfoldable pub key_line : Settings → ℕ → Brought → Node → Script
key_line s i b n = sign SP >> props b >> content s false true i n >> end_line

-- a node of which nothing is written but its properties
unfoldable pub bare_line : Brought → Script
bare_line b = props_compact b >> newline
