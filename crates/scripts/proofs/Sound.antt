-- The walk makes only sound scripts: of trees whose scalars are well-formed texts. Nothing else of a tree matters.
use Rattle.std.specs.Prelude.{◌≡◌, ℕ, ◌+◌, Bool, true, ◌&&◌}
use Prim.{tt}
use Rattle.std.proofs.Math.Bool.{false, not}
use mathlib.Core.List.{List, [], ◌∷◌}
use Rattle.std.proofs.Math.Option.{Option, none, some}
use Rattle.definition.specs.Base.{Bytes, when◌then◌else◌, is_nil, is_some}
use Rattle.definition.specs.Settings.{step_of}
use Rattle.definition.specs.Utf8.{well_formed}
use Rattle.definition.specs.Tree.{Kept, Brought, Node, Kind, Nodes, Pairs, node, null, scalar, alias, sequence, mapping, end, item, close, pair, kept, brought}
use Rattle.definition.specs.Pen.{Script, nothing, newline, indent, sign}
use Rattle.definition.specs.Walk
use Rattle.definition.specs.Document
use Rattle.definition.specs.declared.Settings.{Settings}
use Rattle.definition.specs.declared.Style.{Style}
use Rattle.pen.specs.Shown.{Sound}
use Rattle.scripts.specs.Sound.{Formed, FormedKind, FormedNodes, FormedPairs, FormedAll}

-- ---- the parts that write no scalar

-- a script of two parts
infixr 20 ◌⨾◌
abbrev ◌⨾◌ : {A B : Type 0} → A → B → A × B
x ⨾ y = (x, y)

pub sound-if : (b : Bool) (x y : Script) → Sound x → Sound y → Sound (when b then x else y)
sound-if true x y g h = g
sound-if false x y g h = h

sound-lines : (i : ℕ) (ts : List Bytes) → Sound (Walk.comment_lines i ts)
unfolding Sound Walk.comment_lines Walk.comment_line nothing indent newline
sound-lines i [] = tt
sound-lines i (t ∷ ts) = (tt ⨾ tt ⨾ tt) ⨾ sound-lines i ts

sound-heads : (a : Kept) (i : ℕ) → Sound (Walk.heads a i)
unfolding Walk.heads
sound-heads a i = sound-lines i _

sound-below : (a : Kept) (i : ℕ) → Sound (Walk.heads_below a i)
unfolding Walk.heads_below
sound-below a i = sound-lines i _

sound-foots : (a : Kept) (i : ℕ) → Sound (Walk.foots a i)
unfolding Walk.foots
sound-foots a i = sound-lines i _

sound-above_dash : (a : Kept) (i : ℕ) → Sound (Walk.above_dash a i)
unfolding Walk.above_dash Walk.heads_above
sound-above_dash a i = sound-if a.layout.inline_before _ _ (sound-lines i _) (sound-heads a i)

sound-below_dash : (a : Kept) (i : ℕ) → Sound (Walk.below_dash a i)
unfolding Walk.below_dash Sound nothing
sound-below_dash a i = sound-if a.layout.inline_before _ _ (sound-below a i) tt

sound-blanks : (a : Kept) → Sound (Walk.blanks a)
unfolding Walk.blanks Sound
sound-blanks a = tt

sound_prop : (t : Bytes) (o : Option Bytes) (u : Bytes) → Sound (Walk.prop t o u)
unfolding Walk.prop Sound nothing
sound_prop t none u = tt
sound_prop t (some x) u = tt

sound-props : (b : Brought) → Sound (Walk.props b)
unfolding Walk.props Sound
sound-props b = sound_prop _ b.tag _ ⨾ sound_prop _ b.anchor _

sound-compact : (b : Brought) → Sound (Walk.props_compact b)
unfolding Walk.props_compact Sound
sound-compact b = sound_prop _ b.tag _ ⨾ sound_prop _ b.anchor _

sound-line : (b : Brought) → Sound (Walk.props_line b)
unfolding Walk.props_line Sound nothing newline
sound-line b = sound-if (Walk.has_props b) _ _ (sound_prop _ b.tag _ ⨾ sound_prop _ b.anchor _ ⨾ tt) tt

sound-include : (p : ℕ) (a : Kept) → Sound (Walk.include_line p a)
unfolding Walk.include_line Sound newline
sound-include p a = tt ⨾ tt ⨾ tt

sound-directives : (ts : List Bytes) → Sound (Document.directives ts)
unfolding Document.directives Sound nothing newline
sound-directives [] = tt
sound-directives (t ∷ ts) = tt ⨾ tt ⨾ sound-directives ts

sound-colon : (k : Kind) → Sound (Walk.colon k)
unfolding Walk.colon Sound sign
sound-colon null = tt
sound-colon (scalar t y) = tt
sound-colon (alias t) = tt ⨾ tt
sound-colon (sequence f xs) = tt
sound-colon (mapping f ps) = tt

-- ---- parts of a line around a sound script

pub sound-key : (n : Node) (w : Script) → Sound w → Sound (Walk.inline_key n w)
unfolding Walk.inline_key Sound
sound-key (node p a b k) w h = sound-props b ⨾ h ⨾ sound-colon k

pub sound-inlined : (p : ℕ) (a : Kept) (b : Brought) (w : Script) → Sound w → Sound (Walk.inlined p a b w)
unfolding Walk.inlined Sound
sound-inlined p a b w h = sound-props b ⨾ h ⨾ tt ⨾ tt

pub sound-value_of : (bare : Bool) (p : ℕ) (a : Kept) (b : Brought) (i : ℕ) (w : Script) → Sound w → Sound (Walk.value_of bare p a b i w)
unfolding Walk.value_of Walk.below_introducer Sound newline indent
sound-value_of bare p a b i w h =
    sound-if bare _ _ (sound-compact b ⨾ tt)
    (sound-if a.layout.inline_before _ _ (sound-compact b ⨾ tt ⨾ tt ⨾ sound-below a i ⨾ tt ⨾ h ⨾ tt) (tt ⨾ sound-inlined p a b w h))

pub sound-colon_block : (p : ℕ) (a : Kept) (b : Brought) (i : ℕ) (w : Script) → Sound w → Sound (Walk.colon_block p a b i w)
unfolding Walk.colon_block Sound newline
sound-colon_block p a b i w h = sound-compact b ⨾ tt ⨾ tt ⨾ sound-heads a i ⨾ h ⨾ sound-foots a i

pub sound-dash_block : (p : ℕ) (a : Kept) (b : Brought) (i j : ℕ) (w : Script) → Sound w → Sound (Walk.dash_block p a b i j w)
unfolding Walk.dash_block Sound newline
sound-dash_block p a b i j w h = sound-compact b ⨾ tt ⨾ tt ⨾ sound-below_dash a i ⨾ h ⨾ sound-foots a j

pub sound-dash_compact : (a : Kept) (j : ℕ) (w : Script) → Sound w → Sound (Walk.dash_compact a j w)
unfolding Walk.dash_compact Sound sign
sound-dash_compact a j w h = tt ⨾ h ⨾ sound-foots a j

pub sound-fresh : (flow key : Bool) (i p : ℕ) (a : Kept) (t : Bytes) (y : Style) → well_formed t ≡ true → Sound (Walk.fresh flow key i p a t y)
unfolding Walk.fresh Sound
sound-fresh flow key i p a t y h = sound-if (is_some a.inline && Walk.is_block_style y && not flow) _ _ (tt ⨾ tt ⨾ tt) h

pub sound-replays : (p : ℕ) (o : Option Bytes) (modified : Bool) (w : Script) → Sound w → Sound (Walk.replays p o modified w)
unfolding Walk.replays Sound
sound-replays p none modified w h = h
sound-replays p (some r) modified w h = sound-if modified _ _ h tt

module _ (s : Settings) where
  -- ---- flow layout, and all content of one line

  mutual
    unfolding Walk.content Formed Sound nothing newline indent sign

    pub sound-content : (n : Node) → Formed n → (flow key : Bool) (i : ℕ) → Sound (Walk.content s flow key i n)
    sound-content (node p a b k) h flow key i = sound-content_of k h flow key i p a b

    pub sound-content_of : (k : Kind) → FormedKind k → (flow key : Bool) (i p : ℕ) (a : Kept) (b : Brought) → Sound (Walk.content_of s flow key i p a b k)
    sound-content_of null h flow key i p a b = tt
    sound-content_of (scalar t y) h flow key i p a b = sound-replays p b.raw b.modified _ (sound-fresh flow key i p a t y h)
    sound-content_of (alias t) h flow key i p a b = tt
    sound-content_of (sequence f xs) h flow key i p a b =
        sound-if (Walk.any_comments xs) _ _ (tt ⨾ tt ⨾ sound-lined_items xs h key (i + step_of s) ⨾ tt ⨾ tt) (tt ⨾ sound-flow_items xs h key i true ⨾ tt)
    sound-content_of (mapping f ps) h flow key i p a b =
        sound-if (Walk.any_comments_in ps) _ _ (tt ⨾ tt ⨾ sound-lined_pairs ps h key (i + step_of s) ⨾ tt ⨾ tt) (tt ⨾ sound-flow_pairs ps h key i true ⨾ tt)

    sound-flow_items : (xs : Nodes) → FormedNodes xs → (key : Bool) (i : ℕ) (first : Bool) → Sound (Walk.flow_items s key i first xs)
    sound-flow_items end h key i first = tt
    sound-flow_items (item x xs) h key i first =
        sound-if first _ _ tt tt ⨾ sound-props (brought x) ⨾ sound-content x h.0 true key i ⨾ sound-flow_items xs h.1 key i false

    sound-flow_pairs : (ps : Pairs) → FormedPairs ps → (key : Bool) (i : ℕ) (first : Bool) → Sound (Walk.flow_pairs s key i first ps)
    sound-flow_pairs close h key i first = tt
    sound-flow_pairs (pair k v ps) h key i first =
        sound-if first _ _ tt tt
        ⨾ sound-key k _ (sound-content k h.0 true true i)
        ⨾ tt
        ⨾ sound-props (brought v)
        ⨾ sound-content v h.1.0 true key i
        ⨾ sound-flow_pairs ps h.1.1 key i false

    sound-lined_items : (xs : Nodes) → FormedNodes xs → (key : Bool) (i : ℕ) → Sound (Walk.lined_items s key i xs)
    sound-lined_items end h key i = tt
    sound-lined_items (item x xs) h key i =
        sound-heads (kept x) i
        ⨾ tt
        ⨾ sound-props (brought x)
        ⨾ sound-content x h.0 true key i
        ⨾ sound-if (Walk.some_item xs) _ _ tt tt
        ⨾ tt
        ⨾ tt
        ⨾ sound-lined_items xs h.1 key i

    sound-lined_pairs : (ps : Pairs) → FormedPairs ps → (key : Bool) (i : ℕ) → Sound (Walk.lined_pairs s key i ps)
    sound-lined_pairs close h key i = tt
    sound-lined_pairs (pair k v ps) h key i =
        sound-heads (kept k) i
        ⨾ sound-heads (kept v) i
        ⨾ tt
        ⨾ sound-key k _ (sound-content k h.0 true true i)
        ⨾ tt
        ⨾ sound-props (brought v)
        ⨾ sound-content v h.1.0 true key i
        ⨾ sound-if (Walk.some_pair ps) _ _ tt tt
        ⨾ tt
        ⨾ tt
        ⨾ sound-lined_pairs ps h.1.1 key i

  -- ---- block layout

  mutual
    unfolding Walk.value Formed Sound nothing newline indent sign

    pub sound-value : (n : Node) → Formed n → (i : ℕ) → Sound (Walk.value s i n)
    sound-value (node p a b k) h i =
        sound-if (Walk.included a) _ _ (tt ⨾ sound-include p a)
        (sound-if (Walk.is_block k) _ _ (sound-colon_block p a b _ _ (sound-members k h _ true))
        (sound-value_of _ p a b _ _ (sound-content (node p a b k) h false false _)))

    pub sound-dash : (n : Node) → Formed n → (i : ℕ) → Sound (Walk.dash s i n)
    sound-dash (node p a b k) h i =
        tt
        ⨾ sound-if (Walk.included a) _ _ (tt ⨾ sound-include p a)
        (sound-if (Walk.is_block k) _ _
        (sound-if (Walk.on_dash_line a b k) _ _ (sound-dash_compact a _ _ (sound-members k h _ false)) (sound-dash_block p a b _ _ _ (sound-members k h _ true)))
        (sound-value_of _ p a b _ _ (sound-content (node p a b k) h false false _)))

    pub sound-key_below : (n : Node) → Formed n → (i : ℕ) → Sound (Walk.key_below s i n)
    sound-key_below (node p a b k) h i =
        sound-if (Walk.is_block k) _ _ (sound-compact b ⨾ tt ⨾ sound-members k h _ true)
        (tt ⨾ sound-props b ⨾ sound-content (node p a b k) h false true _ ⨾ tt)

    pub sound-members : (k : Kind) → FormedKind k → (i : ℕ) (lead : Bool) → Sound (Walk.members s i lead k)
    sound-members null h i lead = tt
    sound-members (scalar t y) h i lead = tt
    sound-members (alias t) h i lead = tt
    sound-members (sequence f xs) h i lead = sound-block_items xs h i lead
    sound-members (mapping f ps) h i lead = sound-block_pairs ps h i lead true

    pub sound-block_items : (xs : Nodes) → FormedNodes xs → (i : ℕ) (lead : Bool) → Sound (Walk.block_items s i lead xs)
    sound-block_items end h i lead = tt
    sound-block_items (item x xs) h i lead =
        sound-if lead _ _ (sound-blanks (kept x) ⨾ sound-above_dash (kept x) i ⨾ tt) tt ⨾ sound-dash x h.0 i ⨾ sound-block_items xs h.1 i true

    pub sound-block_pairs : (ps : Pairs) → FormedPairs ps → (i : ℕ) (lead first : Bool) → Sound (Walk.block_pairs s i lead first ps)
    sound-block_pairs close h i lead first = tt
    sound-block_pairs (pair k v ps) h i lead first =
        sound-if lead _ _ (sound-blanks (kept k) ⨾ sound-heads (kept k) i ⨾ tt) tt
        ⨾ sound-if (Walk.is_explicit first k) _ _ (tt ⨾ sound-key_below k h.0 i ⨾ tt ⨾ tt) (sound-key k _ (sound-content k h.0 false true i))
        ⨾ sound-value v h.1.0 i
        ⨾ sound-block_pairs ps h.1.1 i true false

  -- ---- documents

  pub sound-body : (n : Node) → Formed n → Sound (Document.body s n)
  unfolding Document.body Formed Sound
  sound-body (node p a b k) h =
      sound-if (Walk.is_block k) _ _ (sound-line b ⨾ sound-members k h _ true)
      (sound-if (Document.bare_root s a b k) _ _ (sound-line b) (sound-inlined p a b _ (sound-content (node p a b k) h false false _)))

  pub sound-document : (passed : Bool) (n : Node) → Formed n → Sound (Document.document s passed n)
  unfolding Document.document Document.dashes Sound nothing newline
  sound-document passed (node p a b k) h =
      sound-directives a.directives
      ⨾ sound-if a.layout.explicit_start _ _ (tt ⨾ tt) tt
      ⨾ sound-heads a 0
      ⨾ sound-if (Walk.included a && not passed) _ _ (sound-include p a) (sound-body (node p a b k) h)
      ⨾ sound-foots a 0

  sound-bom : (n : Node) → Sound (Document.bom n)
  unfolding Document.bom Sound nothing
  sound-bom n = sound-if (kept n).layout.leading_bom _ _ tt tt

  sound-separation : (a : Kept) → Sound (Document.separation a)
  unfolding Document.separation Document.dashes Document.dots Sound nothing newline
  sound-separation a = sound-if (not (is_nil a.directives)) _ _ (tt ⨾ tt) (sound-if a.layout.explicit_start _ _ tt (tt ⨾ tt))

  pub sound-one : (passed : Bool) (n : Node) → Formed n → Sound (Document.one_document s passed n)
  unfolding Document.one_document Document.dots Sound nothing newline
  sound-one passed n h = sound-bom n ⨾ sound-document passed n h ⨾ sound-if s.explicit_end _ _ (tt ⨾ tt) tt

  pub sound-later : (ns : List Node) → FormedAll ns → Sound (Document.later_documents s ns)
  unfolding Document.later_documents FormedAll Sound nothing
  sound-later [] h = tt
  sound-later (n ∷ ns) h = sound-separation (kept n) ⨾ sound-document false n h.0 ⨾ sound-later ns h.1

  pub sound-all : (ns : List Node) → FormedAll ns → Sound (Document.all_documents s ns)
  unfolding Document.all_documents FormedAll Sound nothing
  sound-all [] h = tt
  sound-all (n ∷ ns) h = sound-bom n ⨾ sound-document false n h.0 ⨾ sound-later ns h.1
