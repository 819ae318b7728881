-- What is no block collection after `:` or `-`, of a node that was read: beside its introducer, below it, or but for its properties not written.
use Rattle.std.specs.Prelude.{◌≡◌, ℕ, max, Bool, ◌&&◌, length}
use Rattle.std.proofs.Math.Path.{refl, sym}
use Rattle.std.proofs.Common.{◌∙◌, true≢false}
use Rattle.std.proofs.Math.Bool.{true, false}
use Rattle.definition.specs.Base.{Bytes}
use Rattle.definition.specs.Deck.{marked, layout_of}
use Rattle.definition.specs.Pen.{Script, ◌>>◌, indent}
use Rattle.definition.specs.Walk.{below_introducer, value_of, bare, content}
use Rattle.definition.specs.declared.Cursor.{Cursor}
use Rattle.definition.specs.declared.Lines.{Lines}
use Rattle.definition.specs.declared.Settings.{Settings}
use Rattle.node.specs.Head.{Maybe}
use Rattle.node.specs.Total.{kept_of, brought_of}
use Rattle.pen.specs.Pen.{Pen}
use Rattle.scripts.specs.Keep.{flow-of, key_of}
use Rattle.pen.specs.Draws.{Draws}
use Rattle.spot.specs.declared.Body.{Body}
use Rattle.spot.specs.declared.Body.TheVariants as body
use Rattle.spot.specs.declared.Spot.{Spot}
use Rattle.spot.specs.Spot.{end_of, kept_in, brought_in, kind_in, end_in, node_in}
use Rattle.spot.specs.Good.{Good}
use Rattle.atoms.specs.Atoms.{on}
use Rattle.choices.specs.Choices.{empty_in, bare_in, bare-is}
use Rattle.joints.specs.declared.Manner.{Manner}
use Rattle.joints.specs.declared.Manner.TheVariants.{Value}
use Rattle.joints.specs.Line.{line_of}
use Rattle.flow.specs.Ready.{Emits}
use Rattle.layout.specs.Emitting.{drawn-first, emits-yes, emits-no, emits-same, calm-line, line-value}
use Rattle.layout.specs.Stretch.{bare_line}

-- the walk's value, below at column i
abbrev pub value_in : Settings → Bytes → Bytes → Spot → ℕ → Script
value_in s deck pool x i = value_of (bare s (kept_in deck pool x) (kind_in deck pool x)) x.place (kept_in deck pool x) (brought_in deck pool x) i (content s false false i (node_in deck pool x))

and_left : (a b : Bool) → (a && b) ≡ true → a ≡ true
and_left true b e = refl
and_left false b e = e

module _ (s : Settings) (deck pool : Bytes) where
  -- a script, and a node on its line where no flow collection and no key is open
  pub line_after :
      (a : Script) (m : Manner) (x : Spot) (i : ℕ) (r : Cursor) (P Q R : Pen) → P.w.flow ≡ 0 → P.w.key ≡ 0 → Draws a P Q
      → Emits s (line_of s (on Q.w.flow) (on Q.w.key) m i (node_in deck pool x)) Q R x.place (end_in deck pool x) r (length deck)
      → Emits s (a >> line_of s false false m i (node_in deck pool x)) P R x.place (end_in deck pool x) r (length deck)
  line_after a m x i r P Q R f k d e =
      drawn-first _ _ d (emits-same _ _ (calm-line s m i Q.w.flow Q.w.key (node_in deck pool x) (flow-of s a P Q (d.drawn s) ∙ f) (key_of s a P Q (d.drawn s) ∙ k)) e)

  -- a bare node has no children
  bare-end : (b : Body) (c : Cursor) → empty_in pool b ≡ true → end_of deck pool b c ≡ c
  unfolding empty_in end_of
  bare-end body.Null c e = refl
  bare-end (body.Scalar w) c e = refl
  bare-end (body.Alias t) c e = refl
  bare-end (body.Sequence g) c e = absurd (true≢false (sym e))
  bare-end (body.Mapping g) c e = absurd (true≢false (sym e))

  empty_of : (l : Lines) (m : Maybe) (b : Body) → bare_in s pool l m b ≡ true → empty_in pool b ≡ true
  unfolding bare_in
  empty_of l m b e = and_left _ _ (and_left _ _ e)

  module _ (x : Spot) (i : ℕ) (b : Bool) (e : b ≡ bare_in s pool x.lead.lines x.lead.remark x.body) where
    -- but for its properties not written
    pub value-bare :
        (r : Cursor) {P Q : Pen} → Good deck x → b ≡ true → Draws (bare_line (brought_of deck pool x.lead)) P Q → r ≡ x.next
        → Emits s (value_in s deck pool x i) P Q x.place (end_in deck pool x) r (length deck)
    unfolding value_of bare_line
    value-bare r g f d q =
        let h : bare_in s pool x.lead.lines x.lead.remark x.body ≡ true = sym e ∙ f in
        rw q
        (emits-yes _ _ _ (bare-is s deck pool x.lead x.body x.next ∙ h)
        (record { drawn = d.drawn s; next = sym (bare-end x.body x.next (empty_of x.lead.lines x.lead.remark x.body h)); onward = g.ahead; within = g.within }))

    module _ (f : b ≡ false) (m : Bool) (t : m ≡ marked x.lead.lines.marks 2) where
      -- below its introducer
      pub value-below :
          (r : Cursor) {P Q : Pen} → m ≡ true
          → Emits s (below_introducer x.place (kept_in deck pool x) (brought_in deck pool x) i (content s false false i (node_in deck pool x))) P Q x.place (end_in deck pool x) r (length deck)
          → Emits s (value_in s deck pool x i) P Q x.place (end_in deck pool x) r (length deck)
      unfolding value_of kept_of layout_of
      value-below r g d = emits-no _ _ _ (bare-is s deck pool x.lead x.body x.next ∙ sym e ∙ f) (emits-yes _ _ _ (sym t ∙ g) d)

      -- beside its introducer: the pad, and its line
      pub value-beside :
          (r : Cursor) (P Q R : Pen) → m ≡ false → P.w.flow ≡ 0 → P.w.key ≡ 0 → Draws (indent (max x.lead.lines.pad 1)) P Q
          → Emits s (line_of s (on Q.w.flow) (on Q.w.key) Value i (node_in deck pool x)) Q R x.place (end_in deck pool x) r (length deck)
          → Emits s (value_in s deck pool x i) P R x.place (end_in deck pool x) r (length deck)
      unfolding value_of kept_of layout_of node_in
      value-beside r P Q R g u v d n =
          emits-no _ _ _ (bare-is s deck pool x.lead x.body x.next ∙ sym e ∙ f)
          (emits-no _ _ _ (sym t ∙ g)
          (rw (line-value s false false i x.place (kept_in deck pool x) (brought_in deck pool x) (kind_in deck pool x)) at (line_after (indent (max x.lead.lines.pad 1)) Value x i r P Q R u v d n)))
