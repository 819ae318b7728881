-- A node on its line, in one of five manners: its properties, its content, and what ends it.
use Rattle.std.specs.Prelude.{◌≡◌, ℕ, Bool, true}
use Rattle.std.proofs.Math.Path.{refl}
use Rattle.definition.specs.Base.{Bytes}
use Rattle.definition.specs.Tree.{Kept, Kind, Node, node, brought}
use Rattle.definition.specs.Pen.{Script, comment, end_line, ◌>>◌, nothing}
use Rattle.definition.specs.Walk.{props, colon, inline_key, content}
use Rattle.definition.specs.declared.Settings.{Settings}
use Rattle.pen.specs.Pen.{Pen, puts, ink}
use Rattle.joints.specs.Entries.{item_of, key_of}
use Rattle.joints.specs.declared.Manner.{Manner}
use Rattle.joints.specs.declared.Manner.TheVariants.{Entry, Value, Below, Key, Asked}

-- its properties, where they are not written already
unfoldable pub dressed : Manner → Script → Script
dressed Entry a = a
dressed Value a = a
dressed Below a = nothing
dressed Key a = a
dressed Asked a = a

-- inside a key there is a mark; in any other node it is as outside. The walk has it as a Bool, the writer as a number
unfoldable pub key_by : {A : Type 0} → Manner → A → A → A
key_by Entry inside outside = outside
key_by Value inside outside = outside
key_by Below inside outside = outside
key_by Key inside outside = inside
key_by Asked inside outside = inside

-- nothing after an entry; the inline comment and the line's end; the colon; the line's end
unfoldable pub ending : Manner → ℕ → Kept → Kind → Script
ending Entry p a k = nothing
ending Value p a k = comment p a.inline >> end_line
ending Below p a k = end_line
ending Key p a k = colon k
ending Asked p a k = end_line

unfoldable pub line_of : Settings → Bool → Bool → Manner → ℕ → Node → Script
line_of s flow key m i (node p a b k) = dressed m (props b) >> content s flow (key_by m true key) i (node p a b k) >> ending m p a k

-- a key, and an entry of a flow collection
module _ (deck pool : Bytes) (s : Settings) (flow key : Bool) (i : ℕ) where
  pub line-key : (n : Node) → line_of s flow key Key i n ≡ key_of deck pool s flow key i n
  unfolding line_of key_of inline_key dressed key_by ending
  line-key (node p a b k) = refl

  pub line-entry : (n : Node) (P : Pen) → ink s (line_of s flow key Entry i n) P ≡ ink s (item_of deck pool s flow key i n) P
  unfolding ink puts nothing line_of item_of brought dressed key_by ending
  line-entry (node p a b k) P = refl
