-- Laws of nodes on lines of their own, for the members of the cycle.
-- Assumes nothing.
use mathlib.Core.Path.{◌≡◌, refl, sym, ap, ◌∙◌}
use Prim.Native.Nat.{ℕ, zero, suc, ◌+◌, ◌-◌, ◌<◌, ◌≤◌}
use native.Mathlib.Omega.{arith}
use mathlib.Core.Bool.{Bool, true, false}
use lib.ListN.{length}
use lib.Dec.{eqb}
use borrow.Author.Tests.{ne_eqb}
use Rattle.definition.specs.Base.{Bytes, when◌then◌else◌}
use Rattle.definition.specs.Ascii.{SP, '-', '?'}
use Rattle.definition.specs.Settings.{step_of}
use Rattle.definition.specs.Tree.{Node, kept}
use Rattle.definition.specs.Pen.{mark, Script, nothing, sign}
use Rattle.definition.specs.Walk.{included, is_block, colon_block, dash_block, dash_compact, value_of, bare, value_column, item_column, on_dash_line, content, value, dash, key_below, members}
use Rattle.definition.specs.declared.Cursor.{Cursor}
use Rattle.definition.specs.declared.Settings.{Settings}
use Rattle.node.specs.Total.{brought_of}
use Rattle.pen.specs.Pen.{Pen, put1, puts, ink}
use Rattle.pen.specs.Draws.{Draws, of-byte}
use Rattle.parts.specs.Lines.{before, breaks, colon_open, dash_open}
use Rattle.spot.specs.declared.Body.{Body}
use Rattle.spot.specs.declared.Body.TheVariants as body
use Rattle.spot.specs.declared.Spot.{Spot}
use Rattle.spot.specs.Spot.{count_in, pairs_in, kind_of, end_of, kept_in, brought_in, kind_in, end_in, node_in, spot_at, tree-value}
use Rattle.spot.specs.Good.{Good, is_group}
use Rattle.atoms.specs.Atoms.{on}
use Rattle.choices.specs.Choices.{block_in, block-is, explicit_in, explicit-is, included_in, included-is, value_column_in, value-column-is, item_column_in, item-column-is, on_dash_line_in, on-dash-line-is}
use Rattle.joints.specs.declared.Manner.TheVariants.{Key}
use Rattle.joints.specs.Line.{line_of, line-key}
use Rattle.joints.specs.Entries.{node_at, next_at, last_of, entry_end, run_end, key_of, items-end, pairs_end}
use Rattle.flow.specs.Ready.{Emits, kept-length, at-cursor}
use Rattle.layout.specs.Calm.{Calm, calm-after, calm-further}
use Rattle.layout.specs.Emitting.{drawn-first, drawn-last, emits-yes, emits-no}
use Rattle.layout.specs.Stretch.{include_after, key_line, bare_line}
use Rattle.block.specs.Rows.{opening_of, under_of, dash_in, Footed, Coloned, explicit_key, key_part, item_row, pair_row, row_of, rows, rows-items, rows-pairs}

-- ---- the members that are left at the first turn, and one turn later; one that is not the first

pub first-left : (n : ℕ) → n - 0 ≡ n
first-left n = omega arith

pub next-left : (n k : ℕ) → n - (k + 1) ≡ n - k - 1
next-left n k = omega arith

pub later : (k : ℕ) → eqb (k + 1) 0 ≡ false
later k = ne_eqb (k + 1) 0 (λ e. absurd (omega (arith, e)))

-- ---- the node at a cursor

group_of : (b : Body) → block_in b ≡ true → is_group b ≡ true
unfolding block_in is_group
group_of body.Null e = e
group_of (body.Scalar w) e = e
group_of (body.Alias t) e = e
group_of (body.Sequence g) e = refl
group_of (body.Mapping g) e = refl

-- a block collection's members lie further on
pub deeper : (deck : Bytes) (x : Spot) (b : Bool) → Good deck x → b ≡ block_in x.body → b ≡ true → x.place < x.next.at
deeper deck x b g e f = g.deeper (group_of x.body (sym e ∙ f))

module _ (s : Settings) (deck pool : Bytes) where
  -- from the node that was read to the tree at its cursor
  at-node : (c r : Cursor) (x : Spot) (f : Node → Script) {P Q : Pen} {n : ℕ} {z : Cursor} → c.at ≤ length deck → x ≡ spot_at deck c → Emits s (f (node_in deck pool x)) P Q n z r (length deck) → Emits s (f (node_at deck pool c)) P Q n z r (length deck)
  at-node c r x f k e m = rw (tree-value deck pool c k, ← e) m

  -- ---- the members of a collection

  -- a body that is no collection has no rows
  rows_of :
      (i : ℕ) (begin : Bool) (b : Body) (c : Cursor) (P : Pen)
      → (ink s (rows s deck pool i (pairs_in b) begin true (count_in b) c) P ≡ ink s (members s i begin (kind_of deck pool b c)) P) × (run_end deck pool (pairs_in b) (count_in b) c ≡ end_of deck pool b c)
  unfolding pairs_in count_in members rows run_end kind_of end_of
  rows_of i begin body.Null c P = (refl, refl)
  rows_of i begin (body.Scalar w) c P = (refl, refl)
  rows_of i begin (body.Alias t) c P = (refl, refl)
  rows_of i begin (body.Sequence g) c P = (sym (rows-items s deck pool i begin true g.count c P), sym (items-end deck pool g.count c))
  rows_of i begin (body.Mapping g) c P = (sym (rows-pairs s deck pool i begin true g.count c P), sym (pairs_end deck pool g.count c))

  pub members-rows :
      (x : Spot) (i : ℕ) (begin k : Bool) (n : ℕ) (r : Cursor) {P Q : Pen} → Good deck x → k ≡ pairs_in x.body → n ≡ count_in x.body
      → Emits s (rows s deck pool i k begin true n x.next) P Q x.next.at (run_end deck pool k n x.next) r (length deck)
      → Emits s (members s i begin (kind_in deck pool x)) P Q x.place (end_in deck pool x) r (length deck)
  members-rows x i begin k n r {P} g e f m =
      let t = rw (← e, ← f) at (rows_of i begin x.body x.next P) in
      record {
        drawn = m.drawn ∙ t.0;
        next = m.next ∙ t.1;
        onward = (let a = g.ahead in let o = m.onward in omega (arith, a, o));
        within = m.within;
      }

  -- ---- rows one after another: finishing from here ends as finishing from the start would

  pub record Rowing (i : ℕ) (pairs : Bool) (P₀ : Pen) (lead₀ first₀ : Bool) (left₀ : ℕ) (here₀ : Cursor) (P : Pen) (lead first : Bool) (left : ℕ) (here : Cursor) : Type 0 where
    pub same : ink s (rows s deck pool i pairs lead first left here) P ≡ ink s (rows s deck pool i pairs lead₀ first₀ left₀ here₀) P₀
    pub size : length P.out ≡ length P₀.out
    pub end : run_end deck pool pairs left here ≡ run_end deck pool pairs left₀ here₀
    pub onward : here₀.at ≤ here.at
    pub calm : Calm s deck pool P here.at i

  pub start : (i : ℕ) (pairs : Bool) (P : Pen) (lead first : Bool) (n : ℕ) (c : Cursor) → Calm s deck pool P c.at i → Rowing i pairs P lead first n c P lead first n c
  start i pairs P lead first n c r = record { same = refl; size = refl; end = refl; onward = omega arith; calm = r }

  turn :
      (i : ℕ) (pairs lead first : Bool) (left : ℕ) (here next : Cursor) (P Q : Pen) → 0 < left → Q ≡ ink s (row_of s deck pool i pairs lead first here) P → next ≡ entry_end deck pool pairs here
      → (ink s (rows s deck pool i pairs true false (left - 1) next) Q ≡ ink s (rows s deck pool i pairs lead first left here) P) × (run_end deck pool pairs (left - 1) next ≡ run_end deck pool pairs left here)
  unfolding ink rows run_end
  turn i pairs lead first zero here next P Q l e n = absurd (omega arith)
  turn i pairs lead first (suc m) here next P Q l e n = let z : suc m - 1 ≡ m = omega arith in (rw (z, n, e), rw (z, n))

  pub step :
      (i : ℕ) (pairs : Bool) (P₀ : Pen) (lead₀ first₀ : Bool) (left₀ : ℕ) (here₀ : Cursor) (P R : Pen) (lead first : Bool) (left : ℕ) (here next : Cursor)
      → Rowing i pairs P₀ lead₀ first₀ left₀ here₀ P lead first left here → 0 < left
      → Emits s (row_of s deck pool i pairs lead first here) P R here.at (entry_end deck pool pairs here) next (length deck)
      → Rowing i pairs P₀ lead₀ first₀ left₀ here₀ R true false (left - 1) next
  step i pairs P₀ lead₀ first₀ left₀ here₀ P R lead first left here next g l e =
      let t = turn i pairs lead first left here next P R l e.drawn e.next in
      let p = g.onward in
      let o = e.onward in
      record {
        same = t.0 ∙ g.same;
        size = kept-length s e ∙ g.size;
        end = t.1 ∙ g.end;
        onward = omega (arith, p, o);
        calm = calm-further (calm-after g.calm s (row_of s deck pool i pairs lead first here) R e.drawn) next.at o e.within;
      }

  pub stop :
      (i : ℕ) (pairs : Bool) (P₀ : Pen) (begin : Bool) (n : ℕ) (c : Cursor) (P : Pen) (lead first : Bool) (left : ℕ) (here : Cursor)
      → Rowing i pairs P₀ begin true n c P lead first left here → left ≡ 0
      → Emits s (rows s deck pool i pairs begin true n c) P₀ P c.at (run_end deck pool pairs n c) here (length deck)
  unfolding ink rows run_end nothing puts
  stop i pairs P₀ begin n c P lead first left here g z = record { drawn = rw z at g.same; next = rw z at g.end; onward = g.onward; within = g.calm.ready.here }

  -- ---- one row

  -- what stands before the node that was read stands before the tree at its cursor
  before-there :
      (i : ℕ) (pairs lead : Bool) (c : Cursor) (x : Spot) {P Q : Pen} → c.at ≤ length deck → x ≡ spot_at deck c
      → Draws (when lead then before pairs (kept_in deck pool x) i else nothing) P Q → Draws (when lead then before pairs (kept (node_at deck pool c)) i else nothing) P Q
  unfolding kept node_in
  before-there i pairs lead c x k e d = rw (tree-value deck pool c k, ← e) d

  pub pair_row-is :
      (i : ℕ) (pairs lead first : Bool) (c d r : Cursor) (x : Spot) {P₀ P₁ P₂ P₃ : Pen} → c.at ≤ length deck → length deck ≤ 65536 → x ≡ spot_at deck c → pairs ≡ true
      → Draws (when lead then before pairs (kept_in deck pool x) i else nothing) P₀ P₁
      → Emits s (key_part s i first (node_in deck pool x)) P₁ P₂ x.place (end_in deck pool x) d (length deck)
      → Emits s (value s i (node_at deck pool d)) P₂ P₃ d.at (next_at deck pool d) r (length deck)
      → Emits s (row_of s deck pool i pairs lead first c) P₀ P₃ c.at (entry_end deck pool pairs c) r (length deck)
  unfolding ink row_of pair_row entry_end last_of
  pair_row-is i pairs lead first c d r x h l e t a m v =
      let b = before-there i pairs lead c x h e a in
      let k = at-cursor s deck pool c d x (key_part s i first) h l e m in
      let p = k.onward in
      let q = v.onward in
      let v' = rw k.next at v in
      rw t (record {
        drawn = v'.drawn ∙ ap (ink s (value s i (node_at deck pool (next_at deck pool c)))) (k.drawn ∙ ap (ink s (key_part s i first (node_at deck pool c))) (rw t at (b.drawn s)));
        next = v'.next;
        onward = omega (arith, p, q);
        within = v.within;
      })

  pub item-row :
      (i : ℕ) (pairs lead first : Bool) (c r : Cursor) (x : Spot) {P₀ P₁ P₂ : Pen} → c.at ≤ length deck → x ≡ spot_at deck c → pairs ≡ false
      → Draws (when lead then before pairs (kept_in deck pool x) i else nothing) P₀ P₁
      → Emits s (dash s i (node_at deck pool c)) P₁ P₂ c.at (next_at deck pool c) r (length deck)
      → Emits s (row_of s deck pool i pairs lead first c) P₀ P₂ c.at (entry_end deck pool pairs c) r (length deck)
  unfolding row_of item_row entry_end last_of
  item-row i pairs lead first c r x h e t a d = let b = before-there i pairs lead c x h e a in rw t (drawn-first _ _ (rw t at b) d)

  -- ---- keys

  pub key-explicit :
      (i : ℕ) (first : Bool) (d r : Cursor) (x : Spot) (b : Bool) {P₀ P₁ P₂ P₃ : Pen} → b ≡ explicit_in first x.lead x.body → b ≡ true → P₁ ≡ put1 P₀ '?'
      → Emits s (key_below s i (node_in deck pool x)) P₁ P₂ x.place (end_in deck pool x) d (length deck) → Coloned i P₂ P₃ d r
      → Emits s (key_part s i first (node_in deck pool x)) P₀ P₃ x.place (end_in deck pool x) r (length deck)
  unfolding key_part explicit_key sign
  key-explicit i first d r x b f t p m z =
      rw z.next (emits-yes _ _ _ (explicit-is deck pool first x ∙ sym f ∙ t) (drawn-first (sign '?') _ (of-byte mark '?' p) (drawn-last _ _ m z.drawn)))

  pub key-inline :
      (i : ℕ) (first : Bool) (r : Cursor) (x : Spot) (b : Bool) (P : Pen) {Q : Pen} → b ≡ explicit_in first x.lead x.body → b ≡ false → P.w.flow ≡ 0
      → Emits s (line_of s (on P.w.flow) (on P.w.key) Key i (node_in deck pool x)) P Q x.place (end_in deck pool x) r (length deck)
      → Emits s (key_part s i first (node_in deck pool x)) P Q x.place (end_in deck pool x) r (length deck)
  unfolding key_part key_of
  key-inline i first r x b P f t h m =
      let o : on P.w.flow ≡ false = unfold on in ap on h in
      emits-no _ _ _ (explicit-is deck pool first x ∙ sym f ∙ t) (rw (line-key deck pool s (on P.w.flow) (on P.w.key) i (node_in deck pool x), o) at m)

  pub key-below-block :
      (i j n : ℕ) (r : Cursor) (x : Spot) (b : Bool) {P₀ P₁ P₂ : Pen} → n ≡ step_of s → j ≡ i + n → b ≡ block_in x.body → b ≡ true
      → Draws (bare_line (brought_of deck pool x.lead)) P₀ P₁ → Emits s (members s j true (kind_in deck pool x)) P₁ P₂ x.place (end_in deck pool x) r (length deck)
      → Emits s (key_below s i (node_in deck pool x)) P₀ P₂ x.place (end_in deck pool x) r (length deck)
  unfolding ink key_below node_in bare_line
  key-below-block i j n r x b h k f t d m =
      let e = drawn-first _ _ d (rw (k, h) at m) in
      emits-yes _ _ _ (block-is deck pool x.body x.next ∙ sym f ∙ t) (record { drawn = e.drawn; next = e.next; onward = e.onward; within = e.within })

  pub key-below-line :
      (i j n : ℕ) (r : Cursor) (x : Spot) (b : Bool) {P Q : Pen} → n ≡ step_of s → j ≡ i + n → b ≡ block_in x.body → b ≡ false
      → Emits s (key_line s j (brought_in deck pool x) (node_in deck pool x)) P Q x.place (end_in deck pool x) r (length deck)
      → Emits s (key_below s i (node_in deck pool x)) P Q x.place (end_in deck pool x) r (length deck)
  unfolding key_below node_in key_line
  key-below-line i j n r x b h k f t m = emits-no _ _ _ (block-is deck pool x.body x.next ∙ sym f ∙ t) (rw (k, h) at m)

  -- ---- a collection below its introducer

  pub under_whole :
      (dashed : Bool) (x : Spot) (j k : ℕ) (d r : Cursor) {P₀ P₁ P₂ P₃ : Pen} → Draws (opening_of deck pool dashed x j) P₀ P₁
      → Emits s (members s j true (kind_in deck pool x)) P₁ P₂ x.place (end_in deck pool x) d (length deck) → Footed deck pool x k P₂ P₃ d r
      → Emits s (under_of s deck pool dashed x j k) P₀ P₃ x.place (end_in deck pool x) r (length deck)
  unfolding under_of
  under_whole dashed x j k d r o m f = rw f.next (drawn-first _ _ o (drawn-last _ _ m f.drawn))

  pub dashed-on :
      (i : ℕ) (d r : Cursor) (x : Spot) (b : Bool) {P₀ P₁ P₂ P₃ : Pen} → b ≡ on_dash_line_in x.lead.lines x.lead.tag x.lead.anchor x.lead.remark x.body → b ≡ true → P₁ ≡ put1 P₀ SP
      → Emits s (members s (i + 2) false (kind_in deck pool x)) P₁ P₂ x.place (end_in deck pool x) d (length deck) → Footed deck pool x (i + 2) P₂ P₃ d r
      → Emits s (dash_in s deck pool i x) P₀ P₃ x.place (end_in deck pool x) r (length deck)
  unfolding dash_in dash_compact sign
  dashed-on i d r x b e t p m f =
      rw f.next (emits-yes _ _ _ (on-dash-line-is s deck pool x.lead x.body x.next ∙ sym e ∙ t) (drawn-first (sign SP) _ (of-byte mark SP p) (drawn-last _ _ m f.drawn)))

  pub dashed-under :
      (i j : ℕ) (r : Cursor) (x : Spot) (b : Bool) {P Q : Pen} → b ≡ on_dash_line_in x.lead.lines x.lead.tag x.lead.anchor x.lead.remark x.body → b ≡ false
      → j ≡ item_column_in s x.lead.tag x.lead.anchor i x.body
      → Emits s (under_of s deck pool true x j (i + 2)) P Q x.place (end_in deck pool x) r (length deck)
      → Emits s (dash_in s deck pool i x) P Q x.place (end_in deck pool x) r (length deck)
  unfolding dash_in
  dashed-under i j r x b e t k m =
      emits-no _ _ _ (on-dash-line-is s deck pool x.lead x.body x.next ∙ sym e ∙ t) (rw (k ∙ sym (item-column-is s deck pool x.lead i x.body x.next)) at m)

  -- ---- values and items

  included-test : (x : Spot) (b : Bool) → b ≡ included_in x.lead.origin → included (kept_in deck pool x) ≡ b
  included-test x b e = included-is deck pool x.lead ∙ sym e

  block-test : (x : Spot) (b : Bool) → b ≡ block_in x.body → is_block (kind_in deck pool x) ≡ b
  block-test x b e = block-is deck pool x.body x.next ∙ sym e

  pub value-included :
      (i : ℕ) (c r : Cursor) (x : Spot) (b : Bool) {P Q : Pen} → c.at ≤ length deck → x ≡ spot_at deck c → b ≡ included_in x.lead.origin → b ≡ true
      → Emits s (include_after x.place (kept_in deck pool x)) P Q c.at (next_at deck pool c) r (length deck)
      → Emits s (value s i (node_at deck pool c)) P Q c.at (next_at deck pool c) r (length deck)
  value-included i c r x b k e f t m = at-node c r x (value s i) k e (unfold value node_in include_after in emits-yes _ _ _ (included-test x b f ∙ t) m)

  -- the stretches of `emit_value_after_colon` and `emit_sequence_item_body`, joined
  colon-under :
      (x : Spot) (j : ℕ) {P Q : Pen} {n : ℕ} {z r : Cursor} → Emits s (under_of s deck pool false x j j) P Q n z r (length deck)
      → Emits s (colon_block x.place (kept_in deck pool x) (brought_in deck pool x) j (members s j true (kind_in deck pool x))) P Q n z r (length deck)
  unfolding ink colon_block under_of opening_of colon_open breaks
  colon-under x j m = record { drawn = m.drawn; next = m.next; onward = m.onward; within = m.within }

  abbrev dash_walk : ℕ → Spot → Bool → Script
  dash_walk i x b =
      when b then dash_compact (kept_in deck pool x) (i + 2) (members s (i + 2) false (kind_in deck pool x))
      else dash_block x.place (kept_in deck pool x) (brought_in deck pool x) (item_column s (brought_in deck pool x) i (kind_in deck pool x)) (i + 2) (members s (item_column s (brought_in deck pool x) i (kind_in deck pool x)) true (kind_in deck pool x))

  dash-joined : (i : ℕ) (x : Spot) (P : Pen) → ink s (dash_in s deck pool i x) P ≡ ink s (dash_walk i x (on_dash_line (kept_in deck pool x) (brought_in deck pool x) (kind_in deck pool x))) P
  unfolding ink dash_in dash_block under_of opening_of dash_open breaks
  dash-joined i x P = go (on_dash_line (kept_in deck pool x) (brought_in deck pool x) (kind_in deck pool x))
    where
      go :
          (b : Bool) →
          ink s (when b then dash_compact (kept_in deck pool x) (i + 2) (members s (i + 2) false (kind_in deck pool x)) else under_of s deck pool true x (item_column s (brought_in deck pool x) i (kind_in deck pool x)) (i + 2)) P
          ≡ ink s (dash_walk i x b) P
      go true = refl
      go false = refl

  pub value-block :
      (i j : ℕ) (c r : Cursor) (x : Spot) (b d : Bool) {P Q : Pen} → c.at ≤ length deck → length deck ≤ 65536 → x ≡ spot_at deck c
      → b ≡ included_in x.lead.origin → b ≡ false → d ≡ block_in x.body → d ≡ true → j ≡ value_column_in s x.lead.lines x.lead.tag i x.body
      → Emits s (under_of s deck pool false x j j) P Q x.place (end_in deck pool x) r (length deck)
      → Emits s (value s i (node_at deck pool c)) P Q c.at (next_at deck pool c) r (length deck)
  unfolding value node_in
  value-block i j c r x b d k l e f t g u h m =
      let v : j ≡ value_column s (kept_in deck pool x) (brought_in deck pool x) i (kind_in deck pool x) = h ∙ sym (value-column-is s deck pool x.lead i x.body x.next) in
      at-cursor s deck pool c r x (value s i) k l e (emits-no _ _ _ (included-test x b f ∙ t) (emits-yes _ _ _ (block-test x d g ∙ u) (rw v at (colon-under x j m))))

  pub value-plain :
      (i j n : ℕ) (c r : Cursor) (x : Spot) (b d : Bool) {P Q : Pen} → c.at ≤ length deck → length deck ≤ 65536 → x ≡ spot_at deck c
      → b ≡ included_in x.lead.origin → b ≡ false → d ≡ block_in x.body → d ≡ false → n ≡ step_of s → j ≡ i + n
      → Emits s (value_of (bare s (kept_in deck pool x) (kind_in deck pool x)) x.place (kept_in deck pool x) (brought_in deck pool x) j (content s false false j (node_in deck pool x))) P Q x.place (end_in deck pool x) r (length deck)
      → Emits s (value s i (node_at deck pool c)) P Q c.at (next_at deck pool c) r (length deck)
  unfolding value node_in
  value-plain i j n c r x b d k l e f t g u h p m = at-cursor s deck pool c r x (value s i) k l e (emits-no _ _ _ (included-test x b f ∙ t) (emits-no _ _ _ (block-test x d g ∙ u) (rw (p, h) at m)))

  pub dash-included :
      (i : ℕ) (c r : Cursor) (x : Spot) (b : Bool) {P₀ P₁ P₂ : Pen} → c.at ≤ length deck → x ≡ spot_at deck c → P₁ ≡ put1 P₀ '-' → b ≡ included_in x.lead.origin → b ≡ true
      → Emits s (include_after x.place (kept_in deck pool x)) P₁ P₂ c.at (next_at deck pool c) r (length deck)
      → Emits s (dash s i (node_at deck pool c)) P₀ P₂ c.at (next_at deck pool c) r (length deck)
  unfolding dash node_in include_after sign
  dash-included i c r x b k e p f t m = at-node c r x (dash s i) k e (drawn-first (sign '-') _ (of-byte mark '-' p) (emits-yes _ _ _ (included-test x b f ∙ t) m))

  pub dash-block :
      (i : ℕ) (c r : Cursor) (x : Spot) (b d : Bool) {P₀ : Pen} (P₁ : Pen) {P₂ : Pen} → c.at ≤ length deck → length deck ≤ 65536 → x ≡ spot_at deck c → P₁ ≡ put1 P₀ '-'
      → b ≡ included_in x.lead.origin → b ≡ false → d ≡ block_in x.body → d ≡ true
      → Emits s (dash_in s deck pool i x) P₁ P₂ x.place (end_in deck pool x) r (length deck)
      → Emits s (dash s i (node_at deck pool c)) P₀ P₂ c.at (next_at deck pool c) r (length deck)
  unfolding dash node_in sign
  dash-block i c r x b d P₁ k l e p f t g u m =
      let w : Emits s (dash_walk i x (on_dash_line (kept_in deck pool x) (brought_in deck pool x) (kind_in deck pool x))) P₁ _ x.place (end_in deck pool x) r (length deck) =
      record { drawn = m.drawn ∙ dash-joined i x P₁; next = m.next; onward = m.onward; within = m.within } in
      at-cursor s deck pool c r x (dash s i) k l e (drawn-first (sign '-') _ (of-byte mark '-' p) (emits-no _ _ _ (included-test x b f ∙ t) (emits-yes _ _ _ (block-test x d g ∙ u) w)))

  pub dash-plain :
      (i : ℕ) (c r : Cursor) (x : Spot) (b d : Bool) {P₀ P₁ P₂ : Pen} → c.at ≤ length deck → length deck ≤ 65536 → x ≡ spot_at deck c → P₁ ≡ put1 P₀ '-'
      → b ≡ included_in x.lead.origin → b ≡ false → d ≡ block_in x.body → d ≡ false
      → Emits s (value_of (bare s (kept_in deck pool x) (kind_in deck pool x)) x.place (kept_in deck pool x) (brought_in deck pool x) (i + 2) (content s false false (i + 2) (node_in deck pool x))) P₁ P₂ x.place (end_in deck pool x) r (length deck)
      → Emits s (dash s i (node_at deck pool c)) P₀ P₂ c.at (next_at deck pool c) r (length deck)
  unfolding dash node_in sign
  dash-plain i c r x b d k l e p f t g u m =
      at-cursor s deck pool c r x (dash s i) k l e (drawn-first (sign '-') _ (of-byte mark '-' p) (emits-no _ _ _ (included-test x b f ∙ t) (emits-no _ _ _ (block-test x d g ∙ u) m)))
