-- Laws of documents.
-- Assumes nothing.
use mathlib.Core.Path.{◌≡◌, refl, sym, ap, ◌∙◌}
use Prim.Native.Nat.{ℕ, zero, suc, ◌+◌, ◌-◌, ◌<◌, ◌≤◌}
use native.Mathlib.Omega.{arith}
use mathlib.Core.Bool.{Bool, true, false, not, ◌&&◌, true≢false}
use mathlib.Core.List.{[], ◌∷◌}
use lib.ListN.{length}
use lib.Dec.{eqb, leb}
use borrow.Author.Tests.{ne_eqb, eqb-true, leb-true, leb-false, le-leb, lt-leb, not-true}
use Rattle.definition.specs.Base.{Bytes, when◌then◌else◌}
use Rattle.definition.specs.Settings.{step_of}
use Rattle.definition.specs.Deck.{marked, layout_of}
use Rattle.definition.specs.Tree.{Node, kept}
use Rattle.definition.specs.Ascii.{LF, DOT, '-'}
use Rattle.definition.specs.Pen.{Script, ◌>>◌, nothing, newline}
use Rattle.definition.specs.Walk.{comment_lines, heads_that, heads, foots, props_line, include_line, content, members}
use Rattle.definition.specs.Document.{dashes, dots, directives, body, bom, document, one_document, separation, later_documents, all_documents}
use Rattle.definition.specs.declared.Cursor.{Cursor}
use Rattle.definition.specs.declared.Lines.{Lines}
use Rattle.definition.specs.declared.Settings.{Settings}
use Rattle.laws.specs.Tests.{by-test, both_left, both_right}
use Rattle.node.specs.Head.{Maybe}
use Rattle.node.specs.declared.Lead.{Lead}
use Rattle.node.specs.Total.{run_from, kept_of, origin_of, remark_of, trees_from, trees_of}
use Rattle.node.specs.Ends.{Ends}
use Rattle.pen.specs.Pen.{Pen, puts, ink}
use Rattle.scripts.specs.Keep.{length-of}
use Rattle.pen.specs.Draws.{Draws}
use Rattle.parts.specs.Lines.{directed}
use Rattle.spot.specs.declared.Body.{Body}
use Rattle.spot.specs.declared.Body.TheVariants as body
use Rattle.spot.specs.declared.Spot.{Spot}
use Rattle.spot.specs.Spot.{count_in, end_of, kept_in, brought_in, kind_in, end_in, node_in, spot_at, tree-value}
use Rattle.spot.specs.Good.{Good, spot-good}
use Rattle.atoms.specs.Atoms.{on}
use Rattle.choices.specs.Choices.{block_in, none_in, included_in, root_column_in, bare_root_in, block-is, included-is, root-column-is, bare-root-is}
use Rattle.joints.specs.declared.Manner.TheVariants.{Value}
use Rattle.joints.specs.Line.{line_of}
use Rattle.joints.specs.Entries.{node_at, next_at}
use Rattle.flow.specs.Ready.{Emits, at_place}
use Rattle.layout.specs.Calm.{Calm, calm-further}
use Rattle.layout.specs.Emitting.{drawn-first, calm-line, line-value}
use Rattle.block.specs.Rows.{Footed}
use Rattle.document.specs.Root.{calm-emits}
use Rattle.document.specs.Pieces.{start_in, stop_in, plain_in, opened, front_in, placed_of, documents_left, placed_from, block_root, line_root, root_of, front-is}

-- what is written where it is wanted, and a line of dashes or dots
pub wanted :
    (b : Bool) (a : Script) (t : Bytes) {P Q : Pen} → ((s : Settings) → ink s a P ≡ puts t P) → Q ≡ puts (when b then t else []) P
    → Draws (when b then a else nothing) P Q
unfolding ink nothing puts
wanted true a t f e = record { drawn = λ s. e ∙ sym (f s) }
wanted false a t f e = record { drawn = λ s. e }

pub unwanted :
    (b : Bool) (a : Script) (t : Bytes) {P Q : Pen} → ((s : Settings) → ink s a P ≡ puts t P) → Q ≡ puts (when not b then t else []) P
    → Draws (when b then nothing else a) P Q
unfolding ink nothing puts
unwanted true a t f e = record { drawn = λ s. e }
unwanted false a t f e = record { drawn = λ s. e ∙ sym (f s) }

pub of-dashes : (s : Settings) (P : Pen) → ink s dashes P ≡ puts ('-' ∷ '-' ∷ '-' ∷ LF ∷ []) P
unfolding ink dashes newline puts
of-dashes s P = refl

pub of-dots : (s : Settings) (P : Pen) → ink s dots P ≡ puts (DOT ∷ DOT ∷ DOT ∷ LF ∷ []) P
unfolding ink dots newline puts
of-dots s P = refl

-- the documents that are left at the first turn, and one turn later; one that is not the first
pub first-left : (n : ℕ) → n - 0 ≡ n
first-left n = omega arith

pub next-left : (n k : ℕ) → n - (k + 1) ≡ n - k - 1
next-left n k = omega arith

pub not-first : (k : ℕ) → eqb (k + 1) 0 ≡ false
not-first k = ne_eqb (k + 1) 0 (λ e. absurd (omega (arith, e)))

-- nothing stands before the root
pub plain-opened : (deck pool : Bytes) (l : Lead) {P : Pen} → plain_in l ≡ true → Draws (opened deck pool l) P P
unfolding ink puts nothing plain_in opened kept_of run_from directives start_in heads heads_that comment_lines
plain-opened deck pool l t =
    let n = l.directives.count in
    let k = l.heads.count in
    let m = marked l.lines.marks 32 in
    let u = both_left (eqb n 0 && eqb k 0) (not m) t in
    let d = eqb-true n 0 (both_left (eqb n 0) _ u) in
    let h = eqb-true k 0 (both_right (eqb n 0) _ u) in
    record { drawn = λ s. rw (d, h, not-true m (both_right (eqb n 0 && eqb k 0) _ t)) }

module _ (s : Settings) (deck pool : Bytes) where
  -- ---- a root

  pub block-whole :
      (x : Spot) (i : ℕ) (r : Cursor) {P₀ P₁ P₂ : Pen} → i ≡ root_column_in s x.lead.lines x.lead.tag x.body
      → Draws (props_line (brought_in deck pool x)) P₀ P₁
      → Emits s (members s i true (kind_in deck pool x)) P₁ P₂ x.place (end_in deck pool x) r (length deck)
      → Emits s (block_root s deck pool x) P₀ P₂ x.place (end_in deck pool x) r (length deck)
  unfolding ink block_root
  block-whole x i r e d m =
      record {
        drawn = rw (root-column-is s deck pool x.lead x.body x.next, ← e) (m.drawn ∙ ap (ink s (members s i true (kind_in deck pool x))) (d.drawn s));
        next = m.next;
        onward = m.onward;
        within = m.within;
      }

  pub line-whole :
      (x : Spot) (i f k : ℕ) (r : Cursor) {P Q : Pen} → f ≡ 0 → k ≡ 0 → i ≡ step_of s
      → Emits s (line_of s (on f) (on k) Value i (node_in deck pool x)) P Q x.place (end_in deck pool x) r (length deck)
      → Emits s (line_root s deck pool x) P Q x.place (end_in deck pool x) r (length deck)
  unfolding line_root node_in content
  line-whole x i f k r h g e m =
      rw (calm-line s Value i f k (node_in deck pool x) h g, e, line-value s false false (step_of s) x.place (kept_in deck pool x) (brought_in deck pool x) (kind_in deck pool x)) at m

  abbrev body_in : Spot → Script
  body_in x = body s (node_in deck pool x)

  pub body-block :
      (x : Spot) (r : Cursor) {P Q : Pen} → block_in x.body ≡ true → Emits s (block_root s deck pool x) P Q x.place (end_in deck pool x) r (length deck)
      → Emits s (body_in x) P Q x.place (end_in deck pool x) r (length deck)
  unfolding body node_in block_root
  body-block x r t m =
      record { drawn = rw (block-is deck pool x.body x.next, t) m.drawn; next = m.next; onward = m.onward; within = m.within }

  -- a bare root has no children
  bare-end : (l : Lines) (m : Maybe) (t a : Maybe) (b : Body) (c : Cursor) → bare_root_in s l m t a b ≡ true → end_of deck pool b c ≡ c
  unfolding bare_root_in none_in end_of
  bare-end l m t a body.Null c h = refl
  bare-end l m t a (body.Scalar w) c h = refl
  bare-end l m t a (body.Alias w) c h = refl
  bare-end l m t a (body.Sequence g) c h = absurd (true≢false (sym h))
  bare-end l m t a (body.Mapping g) c h = absurd (true≢false (sym h))

  pub body-bare :
      (x : Spot) {P Q : Pen} → Good deck x → block_in x.body ≡ false
      → bare_root_in s x.lead.lines x.lead.remark x.lead.tag x.lead.anchor x.body ≡ true
      → Draws (props_line (brought_in deck pool x)) P Q → Emits s (body_in x) P Q x.place (end_in deck pool x) x.next (length deck)
  unfolding body node_in
  body-bare x g t h d =
      record {
        drawn = rw (block-is deck pool x.body x.next, t, bare-root-is s deck pool x.lead x.body x.next, h) (d.drawn s);
        next = sym (bare-end _ _ _ _ x.body x.next h);
        onward = g.ahead;
        within = g.within;
      }

  pub body-line :
      (x : Spot) (r : Cursor) {P Q : Pen} → block_in x.body ≡ false
      → bare_root_in s x.lead.lines x.lead.remark x.lead.tag x.lead.anchor x.body ≡ false
      → Emits s (line_root s deck pool x) P Q x.place (end_in deck pool x) r (length deck)
      → Emits s (body_in x) P Q x.place (end_in deck pool x) r (length deck)
  unfolding body node_in line_root content
  body-line x r t h m =
      record {
        drawn = rw (block-is deck pool x.body x.next, t, bare-root-is s deck pool x.lead x.body x.next, h) m.drawn;
        next = m.next;
        onward = m.onward;
        within = m.within;
      }

  -- what a root's content asks for
  pub root-asks :
      (c : Cursor) (x : Spot) {P : Pen} → Calm s deck pool P c.at 0 → count_in x.body < 65536 → x ≡ spot_at deck c
      → Calm s deck pool P x.place 0 × Good deck x × (count_in x.body < 65536)
  root-asks c x b h e =
      let k = b.ready.here in
      let g = spot-good deck c x k b.ready.deck-small e in
      (calm-further b x.place g.1 g.2, g.0, h)

  pub root-directed :
      (passed : Bool) (c r : Cursor) (x : Spot) {P Q : Pen} → (included_in x.lead.origin && not passed) ≡ true
      → Draws (directed x.place (origin_of deck pool x.lead.origin) (remark_of deck pool x.lead.remark)) P Q → Ends deck c r
      → Emits s (root_of s deck pool passed x) P Q c.at (next_at deck pool c) r (length deck)
  unfolding root_of include_line directed kept_of
  root-directed passed c r x t d n = record { drawn = rw t (d.drawn s); next = n.tree pool; onward = n.onward; within = n.within }

  pub root-body :
      (passed : Bool) (c r : Cursor) (x : Spot) {P Q : Pen} → Calm s deck pool P c.at 0 → x ≡ spot_at deck c
      → (included_in x.lead.origin && not passed) ≡ false → Emits s (body_in x) P Q x.place (end_in deck pool x) r (length deck)
      → Emits s (root_of s deck pool passed x) P Q c.at (next_at deck pool c) r (length deck)
  unfolding root_of
  root-body passed c r x b e t m = rw t (at_place s deck pool c r x (body_in x) b.ready.here b.ready.deck-small e m)

  -- ---- a document

  node-is : (c : Cursor) (x : Spot) → c.at ≤ length deck → x ≡ spot_at deck c → node_at deck pool c ≡ node_in deck pool x
  node-is c x k e = tree-value deck pool c k ∙ ap (node_in deck pool) (sym e)

  document-is :
      (passed : Bool) (x : Spot) →
      document s passed (node_in deck pool x)
      ≡ (directives (kept_in deck pool x).directives >> start_in x.lead.lines.marks >> heads (kept_in deck pool x) 0 >> root_of s deck pool passed x >> foots (kept_in deck pool x) 0)
  unfolding document node_in kept_of layout_of start_in root_of
  document-is passed x = rw (included-is deck pool x.lead)

  document-whole :
      (passed : Bool) (c r : Cursor) (x : Spot) {P₀ P₁ P₂ P₃ : Pen} → c.at ≤ length deck → x ≡ spot_at deck c
      → Draws (opened deck pool x.lead) P₀ P₁
      → Emits s (root_of s deck pool passed x) P₁ P₂ c.at (next_at deck pool c) r (length deck)
      → Draws (foots (kept_in deck pool x) 0) P₂ P₃
      → Emits s (document s passed (node_at deck pool c)) P₀ P₃ c.at (next_at deck pool c) r (length deck)
  unfolding ink opened
  document-whole passed c r x k e d m z =
      record {
        drawn = rw (node-is c x k e, document-is passed x) (z.drawn s ∙ ap (ink s (foots (kept_in deck pool x) 0)) (m.drawn ∙ ap (ink s (root_of s deck pool passed x)) (d.drawn s)));
        next = m.next;
        onward = m.onward;
        within = m.within;
      }

  pub document-footed :
      (passed : Bool) (c d r : Cursor) (x : Spot) {P₀ P₁ P₂ P₃ : Pen} → c.at ≤ length deck → x ≡ spot_at deck c
      → Draws (opened deck pool x.lead) P₀ P₁
      → Emits s (root_of s deck pool passed x) P₁ P₂ c.at (next_at deck pool c) d (length deck)
      → Footed deck pool x 0 P₂ P₃ d r
      → Emits s (document s passed (node_at deck pool c)) P₀ P₃ c.at (next_at deck pool c) r (length deck)
  document-footed passed c d r x k e o m f = document-whole passed c r x k e o (rw (← f.next) at m) f.drawn

  -- with what stands before it
  pub placed-whole :
      (first passed : Bool) (c r : Cursor) (x : Spot) {P Q R : Pen} → c.at ≤ length deck → x ≡ spot_at deck c → Draws (front_in first x.lead) P Q
      → Emits s (document s passed (node_at deck pool c)) Q R c.at (next_at deck pool c) r (length deck)
      → Emits s (placed_of s first passed (node_at deck pool c)) P R c.at (next_at deck pool c) r (length deck)
  unfolding placed_of
  placed-whole first passed c r x {P} {Q} k e d m =
      let f : Node → Script = λ n. when first then bom n else separation (kept n) in
      let y : Draws (f (node_at deck pool c)) P Q = rw (ap f (node-is c x k e) ∙ front-is s deck pool first x) d in
      drawn-first (f (node_at deck pool c)) (document s passed (node_at deck pool c)) y m

  -- ---- the documents of a deck

  -- the first of the trees from a cursor on, and the others
  trees-first : (n : ℕ) (c : Cursor) → c.at < length deck → trees_from deck pool (suc n) c ≡ node_at deck pool c ∷ trees_from deck pool n (next_at deck pool c)
  unfolding trees_from
  trees-first n c h = rw (lt-leb (length deck) c.at h)

  trees-none : (n : ℕ) (c : Cursor) → length deck ≤ c.at → trees_from deck pool n c ≡ []
  unfolding trees_from
  trees-none zero c h = refl
  trees-none (suc m) c h = rw (le-leb (length deck) c.at h)

  -- finishing from here ends as finishing from the start would
  pub record Pending (passed : Bool) (P₀ : Pen) (left₀ : ℕ) (here₀ : Cursor) (P : Pen) (first : Bool) (left : ℕ) (here : Cursor) : Type 0 where
    pub same : ink s (placed_from s deck pool passed first left here) P ≡ ink s (placed_from s deck pool passed true left₀ here₀) P₀
    pub size : length P.out ≡ length P₀.out
    pub calm : Calm s deck pool P here.at 0

  -- the documents that are left: none at the deck's end
  pub left-none : (c : Cursor) (left : ℕ) → length deck ≤ c.at → 0 ≡ documents_left deck c left
  unfolding documents_left
  left-none c left h = rw (le-leb (length deck) c.at h)

  pub left-more : (c : Cursor) (left : ℕ) → c.at < length deck → left - 1 ≡ documents_left deck c left
  unfolding documents_left
  left-more c left h = rw (lt-leb (length deck) c.at h)

  pub file-start : (passed : Bool) (P : Pen) (n : ℕ) (c : Cursor) → Calm s deck pool P c.at 0 → Pending passed P n c P true n c
  file-start passed P n c b = record { same = refl; size = refl; calm = b }

  pub file-turn :
      (passed : Bool) (P₀ : Pen) (left₀ : ℕ) (here₀ : Cursor) (P Q : Pen) (first : Bool) (left : ℕ) (here next : Cursor) (n : ℕ) → Pending passed P₀ left₀ here₀ P first left here → 0 < left
      → Emits s (placed_of s first passed (node_at deck pool here)) P Q here.at (next_at deck pool here) next (length deck) → n ≡ documents_left deck next left
      → Pending passed P₀ left₀ here₀ Q false n next
  unfolding ink placed_from documents_left
  file-turn passed P₀ left₀ here₀ P Q first zero here next n g l m e = absurd (omega arith)
  file-turn passed P₀ left₀ here₀ P Q first (suc k) here next n g l m e =
      let d = next_at deck pool here in
      let f : Cursor → Script = λ c. when leb (length deck) c.at then nothing else placed_from s deck pool passed false k c in
      let t : ink s (f d) Q ≡ ink s (placed_from s deck pool passed true left₀ here₀) P₀ = ap (ink s (f d)) m.drawn ∙ g.same in
      let u : ink s (f next) Q ≡ ink s (f d) Q = ap (λ (c : Cursor). ink s (f c) Q) m.next in
      record {
        same = rw e (go (leb (length deck) next.at) ∙ u ∙ t);
        size = length-of s (placed_of s first passed (node_at deck pool here)) P Q m.drawn ∙ g.size;
        calm = calm-emits g.calm m;
      }
    where
      go : (b : Bool) → ink s (placed_from s deck pool passed false (when b then 0 else suc k - 1) next) Q ≡ ink s (when b then nothing else placed_from s deck pool passed false k next) Q
      go true = refl
      go false = let z : suc k - 1 ≡ k = omega arith in rw z

  pub file-end :
      (passed : Bool) (P₀ : Pen) (left₀ : ℕ) (here₀ : Cursor) (P : Pen) (first : Bool) (left : ℕ) (here : Cursor) → Pending passed P₀ left₀ here₀ P first left here → left ≡ 0
      → P ≡ ink s (placed_from s deck pool passed true left₀ here₀) P₀
  unfolding ink nothing puts placed_from
  file-end passed P₀ left₀ here₀ P first left here g z = let e : ink s (placed_from s deck pool passed first left here) P ≡ P = rw z in sym e ∙ g.same

  -- ---- one document, and what the settings ask for after it

  pub one-whole :
      (passed : Bool) (c : Cursor) (P : Pen) {Q R : Pen} → Q ≡ ink s (placed_from s deck pool passed true 1 c) P → Draws (stop_in s) Q R
      → R ≡ ink s (one_document s passed (node_at deck pool c)) P
  unfolding ink placed_from placed_of one_document stop_in nothing puts
  one-whole passed c P m z = z.drawn s ∙ ap (ink s (stop_in s)) (m ∙ go (leb (length deck) (next_at deck pool c).at))
    where
      go : (b : Bool) → ink s (when b then nothing else nothing) (ink s (placed_of s true passed (node_at deck pool c)) P) ≡ ink s (placed_of s true passed (node_at deck pool c)) P
      go true = refl
      go false = refl

  -- ---- all documents

  rest-is :
      (n : ℕ) (c : Cursor) (Q : Pen) → (c.at < length deck → ink s (placed_from s deck pool false false n c) Q ≡ ink s (later_documents s (trees_from deck pool n c)) Q)
      → ink s (when leb (length deck) c.at then nothing else placed_from s deck pool false false n c) Q ≡ ink s (later_documents s (trees_from deck pool n c)) Q
  unfolding ink later_documents
  rest-is n c Q h =
      by-test (λ (a : Script). ink s a Q ≡ ink s (later_documents s (trees_from deck pool n c)) Q) (leb (length deck) c.at)
      (λ e. rw (trees-none n c (leb-true _ _ e)))
      (λ e. h (leb-false _ _ e))

  later : (n : ℕ) (c : Cursor) (P : Pen) → c.at < length deck → ink s (placed_from s deck pool false false n c) P ≡ ink s (later_documents s (trees_from deck pool n c)) P
  unfolding ink later_documents placed_from placed_of
  later zero c P h = unfold trees_from in refl
  later (suc n) c P h = rw (trees-first n c h) (rest-is n (next_at deck pool c) (ink s (placed_of s false false (node_at deck pool c)) P) (later n (next_at deck pool c) _))

  pub all_whole : (n : ℕ) (c : Cursor) (P : Pen) → c.at ≡ 0 → n ≡ length deck → ink s (placed_from s deck pool false true n c) P ≡ ink s (all_documents s (trees_of deck pool)) P
  unfolding ink all_documents placed_from placed_of trees_of nothing puts
  all_whole zero c P z e = let t : trees_from deck pool (length deck) (record { at = 0 }) ≡ [] = trees-none _ _ (omega (arith, e)) in rw t
  all_whole (suc n) c P z e =
      let t : trees_from deck pool (length deck) (record { at = 0 }) ≡ node_at deck pool c ∷ trees_from deck pool n (next_at deck pool c) = ap (λ (k : ℕ). trees_from deck pool k (record { at = 0 })) (sym e) ∙ ap (trees_from deck pool (suc n)) (start z) ∙ trees-first n c (omega (arith, z, e)) in
      rw t (rest-is n (next_at deck pool c) (ink s (placed_of s true false (node_at deck pool c)) P) (later n (next_at deck pool c) _))
    where
      start : c.at ≡ 0 → record { at = 0 } ≡ c
      start e = rw e
