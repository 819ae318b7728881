-- Laws of content on one line, for the members of the cycle.
-- Assumes nothing.
use mathlib.Core.Path.{◌≡◌, refl, sym, ap, subst, ◌∙◌}
use Prim.Native.Nat.{ℕ, zero, suc, ◌+◌, ◌-◌, ◌<◌, ◌≤◌, ◌^◌}
use native.Mathlib.Omega.{arith}
use mathlib.Core.Bool.{Bool, true, false}
use mathlib.Core.List.{[], ◌∷◌}
use lib.ListN.{length}
use lib.Dec.{eqb}
use borrow.Author.Tests.{ne_eqb, eq-eqb, eqb-true, eqb-false}
use Rattle.definition.specs.Base.{Bytes, when◌then◌else◌, spaces}
use Rattle.definition.specs.Ascii.{LF, SP, '*'}
use Rattle.definition.specs.Settings.{step_of}
use Rattle.definition.specs.Deck.{words, marked, layout_of}
use Rattle.definition.specs.Tree.{place, kept}
use Rattle.definition.specs.Pen.{Script, comma, ◌>>◌, nothing, newline, indent, sign}
use Rattle.definition.specs.Walk.{props, content, content_of, replays, fresh, null_text}
use Rattle.definition.specs.declared.Cursor.{Cursor}
use Rattle.definition.specs.declared.Group.{Group}
use Rattle.definition.specs.declared.Text.{Text}
use Rattle.definition.specs.declared.Words.{Words}
use Rattle.definition.specs.declared.Settings.{Settings}
use Rattle.node.specs.Total.{kept_of, brought_of, held_of, remark_of}
use Rattle.pen.specs.declared.Writer.{Writer}
use Rattle.pen.specs.Pen.{from_bool}
use Rattle.pen.specs.Pen.{Pen, pen, put1, puts, ink, fields, page, with_flow, with_key}
use Rattle.scripts.specs.Keep.{ink-in-flow, ink-in-key, flow-of, key_of, length-of}
use Rattle.pen.specs.Draws.{Draws}
use Rattle.spot.specs.declared.Body.{Body}
use Rattle.spot.specs.declared.Body.TheVariants as body
use Rattle.spot.specs.declared.Spot.{Spot}
use Rattle.spot.specs.Spot.{count_in, kind_of, end_of, kept_in, brought_in, kind_in, end_in, node_in, spot_at, tree-value}
use Rattle.spot.specs.Good.{Good, is_group}
use Rattle.atoms.specs.Atoms.{on, null_in, commented, fresh_in}
use Rattle.joints.specs.declared.Manner.{Manner}
use Rattle.joints.specs.declared.Manner.TheVariants.{Entry, Value, Below, Key, Asked}
use Rattle.joints.specs.Line.{dressed, key_by, ending, line_of, line-key, line-entry}
use Rattle.joints.specs.Told.{LastOf}
use Rattle.joints.specs.Entries.{node_at, next_at, last_of, entry_end, run_end, some_comments, item_of, entry_key, entry_of, flow_run, lined_before, lined_after, lined_of, is_none, lined_run, opening, closing, lined_in, plain_in, group_of, group-items, group-pairs, items-end, pairs_end}
use Rattle.flow.specs.Ready.{Ready, Emits, after, further, keyed, at-cursor}

-- ---- the marks of a pen: in flow, in a key

abbrev pub F : Pen → Bool
F P = on P.w.flow

abbrev pub K : Pen → Bool
K P = on P.w.key

pub flow-kept : (t : Settings) (a : Script) (P Q : Pen) → Q ≡ ink t a P → F Q ≡ F P
flow-kept t a P Q e = ap on (flow-of t a P Q e)

pub key-kept : (t : Settings) (a : Script) (P Q : Pen) → Q ≡ ink t a P → K Q ≡ K P
key-kept t a P Q e = ap on (key_of t a P Q e)

on-more : (n : ℕ) → on (n + 1) ≡ true
unfolding on
on-more n = rw (ne_eqb (n + 1) 0 (λ e. absurd (omega arith)))

-- a writer with a mark set, over its slice
pub keyed-is : (w v : Writer) (n : ℕ) (out : Bytes) → pen v [] ≡ with_key n (pen w []) → pen v out ≡ with_key n (pen w out)
unfolding with_key
keyed-is w v n out e = ap (λ (p : Pen). page p.w out) e

pub flowed-is : (w v : Writer) (n : ℕ) (out : Bytes) → pen v [] ≡ with_flow n (pen w []) → pen v out ≡ with_flow n (pen w out)
unfolding with_flow
flowed-is w v n out e = ap (λ (p : Pen). page p.w out) e

-- the entries that are left at the first turn, and one turn later; the last one; one that is not the first
pub first-left : (n : ℕ) → n - 0 ≡ n
first-left n = omega arith

pub next-left : (n k : ℕ) → n - (k + 1) ≡ n - k - 1
next-left n k = omega arith

pub last-left : (n k : ℕ) → k < n → eqb (k + 1) n ≡ eqb (n - k) 1
last-left n k h = go (eqb (n - k) 1) refl
  where
    go : (b : Bool) → eqb (n - k) 1 ≡ b → eqb (k + 1) n ≡ b
    go true e = eq-eqb _ _ (let p = eqb-true _ _ e in omega (arith, p))
    go false e = ne_eqb _ _ (λ z. eqb-false _ _ e (omega (arith, z)))

pub later : (k : ℕ) → eqb (k + 1) 0 ≡ false
later k = ne_eqb (k + 1) 0 (λ e. absurd (omega (arith, e)))

-- the mark inside a node, of a yes or no
bit-key : (m : Manner) (k : Bool) → from_bool (key_by m true k) ≡ key_by m 1 (from_bool k)
unfolding key_by
bit-key Entry k = refl
bit-key Value k = refl
bit-key Below k = refl
bit-key Key k = refl
bit-key Asked k = refl

-- the mark inside a node
mark_on : (m : Manner) (n : ℕ) → on (key_by m 1 n) ≡ key_by m true (on n)
unfolding on key_by
mark_on Entry n = refl
mark_on Value n = refl
mark_on Below n = refl
mark_on Key n = refl
mark_on Asked n = refl

last-is : (m : ℕ) → eqb (suc m) 1 ≡ is_none m
unfolding is_none
last-is zero = refl
last-is (suc m) = ne_eqb (suc (suc m)) 1 (λ e. absurd (omega arith))

-- ---- the content of a node

-- a collection: of pairs, or of items
abbrev pub grouped : Bool → Group → Body
grouped true g = body.Mapping g
grouped false g = body.Sequence g

module _ (s : Settings) (deck pool : Bytes) where
  -- a node without children
  leaf-emits : (x : Spot) (a : Script) {P Q : Pen} → Good deck x → end_in deck pool x ≡ x.next → Q ≡ ink s a P → Emits s a P Q x.place (end_in deck pool x) x.next (length deck)
  leaf-emits x a g e d = record { drawn = d; next = sym e; onward = g.ahead; within = g.within }

  abbrev content_in : Pen → ℕ → Spot → Script
  content_in P i x = content_of s (F P) (K P) i x.place (kept_in deck pool x) (brought_in deck pool x) (kind_in deck pool x)

  pub content-null :
      (x : Spot) (i : ℕ) {P Q : Pen} → Good deck x → x.body ≡ body.Null → Q ≡ puts (null_in s x.lead.lines) P
      → Emits s (content_in P i x) P Q x.place (end_in deck pool x) x.next (length deck)
  unfolding ink content_of kind_of end_of null_in null_text kept_of layout_of
  content-null x i g b d = leaf-emits x _ g (rw b) (rw b d)

  pub content-alias :
      (x : Spot) (t : Text) (i : ℕ) {P Q : Pen} → Good deck x → x.body ≡ body.Alias t → Q ≡ puts ('*' ∷ words pool t) P
      → Emits s (content_in P i x) P Q x.place (end_in deck pool x) x.next (length deck)
  unfolding ink content_of kind_of end_of
  content-alias x t i g b d = leaf-emits x _ g (rw b) (rw b d)

  pub content-words :
      (x : Spot) (t : Words) (i : ℕ) {P Q : Pen} → Good deck x → x.body ≡ body.Scalar t
      → Q ≡ ink s (replays x.place (held_of deck pool x.lead.raw) (marked x.lead.lines.marks 1) (fresh_in (F P) (K P) i x.place (remark_of deck pool x.lead.remark) (words pool t.text) t.style)) P
      → Emits s (content_in P i x) P Q x.place (end_in deck pool x) x.next (length deck)
  unfolding content_of kind_of end_of kept_of brought_of fresh fresh_in commented
  content-words x t i g b d = leaf-emits x _ g (rw b) (rw b d)

  -- a flow collection, of items or of pairs
  content-group :
      (x : Spot) (pairs : Bool) (n i : ℕ) {P Q : Pen} {r : Cursor} → Good deck x
      → ink s (content_in P i x) P ≡ ink s (group_of deck pool s true (K P) i pairs n x.next) P → end_in deck pool x ≡ run_end deck pool pairs n x.next
      → Emits s (group_of deck pool s true (K P) i pairs n x.next) P Q x.next.at (run_end deck pool pairs n x.next) r (length deck)
      → Emits s (content_in P i x) P Q x.place (end_in deck pool x) r (length deck)
  content-group x pairs n i h same end e =
      let a = h.ahead in
      let o = e.onward in
      record {
        drawn = e.drawn ∙ sym same;
        next = e.next ∙ sym end;
        onward = omega (arith, a, o);
        within = e.within;
      }

  pub content-grouped :
      (pairs : Bool) (x : Spot) (g : Group) (i : ℕ) {P Q : Pen} {r : Cursor} → Good deck x → x.body ≡ grouped pairs g
      → Emits s (group_of deck pool s true (K P) i pairs g.count x.next) P Q x.next.at (run_end deck pool pairs g.count x.next) r (length deck)
      → Emits s (content_in P i x) P Q x.place (end_in deck pool x) r (length deck)
  unfolding kind_of end_of
  content-grouped false x g i {P} h b e =
      content-group x false g.count i h
      (rw b (group-items deck pool s (K P) (F P) i x.place (kept_in deck pool x) (brought_in deck pool x) g.form g.count x.next P))
      (rw b (items-end deck pool g.count x.next))
      e
  content-grouped true x g i {P} h b e =
      content-group x true g.count i h
      (rw b (group-pairs deck pool s (K P) (F P) i x.place (kept_in deck pool x) (brought_in deck pool x) g.form g.count x.next P))
      (rw b (pairs_end deck pool g.count x.next))
      e

  -- ---- a flow collection: its entries on lines of their own, or on one line

  module _ (i : ℕ) (pairs : Bool) (n : ℕ) (c r : Cursor) (f k C : Bool) (told : C ≡ some_comments deck pool pairs n c) {P Q : Pen} where
    pub group-lined :
        (j : ℕ) → C ≡ true → j ≡ i + step_of s → Emits s (lined_in deck pool s f k i j pairs n c) P Q c.at (run_end deck pool pairs n c) r (length deck)
        → Emits s (group_of deck pool s f k i pairs n c) P Q c.at (run_end deck pool pairs n c) r (length deck)
    unfolding group_of
    group-lined j t h e = rw (← told, t, ← h) e

    pub group-plain :
        C ≡ false → Emits s (plain_in deck pool s f k i pairs n c) P Q c.at (run_end deck pool pairs n c) r (length deck)
        → Emits s (group_of deck pool s f k i pairs n c) P Q c.at (run_end deck pool pairs n c) r (length deck)
    unfolding group_of
    group-plain t e = rw (← told, t) e

  -- one flow collection deeper, and back
  deeper :
      (a : Script) {P Q R : Pen} {at : ℕ} {e r : Cursor} → Emits s a (with_flow (P.w.flow + 1) P) Q at e r (length deck) → R ≡ with_flow P.w.flow Q → Emits s a P R at e r (length deck)
  deeper a {P} d b =
      record {
        drawn = b ∙ ap (with_flow P.w.flow) d.drawn ∙ ink-in-flow s a (P.w.flow + 1) P;
        next = d.next;
        onward = d.onward;
        within = d.within;
      }

  -- the same of writers, by the depth that was read
  pub deeper-is :
      (i : ℕ) (pairs : Bool) (n : ℕ) (c r : Cursor) (f : ℕ) (w v x u : Writer) (out out' : Bytes) → f ≡ (fields w).flow → pen v [] ≡ with_flow (f + 1) (pen w [])
      → Emits s (group_of deck pool s (on (fields v).flow) (on (fields v).key) i pairs n c) (pen v out) (pen x out') c.at (run_end deck pool pairs n c) r (length deck)
      → pen u [] ≡ with_flow f (pen x [])
      → Emits s (group_of deck pool s true (on (fields w).key) i pairs n c) (pen w out) (pen u out') c.at (run_end deck pool pairs n c) r (length deck)
  deeper-is i pairs n c r f w v x u out out' g a e b =
      let d = subst (λ (p : Pen). Emits s (group_of deck pool s (F p) (K p) i pairs n c) p (pen x out') c.at (run_end deck pool pairs n c) r (length deck)) (flowed-is w v (f + 1) out a ∙ ap (λ (k : ℕ). with_flow (k + 1) (pen w out)) g) e in
      let m : F (with_flow ((fields w).flow + 1) (pen w out)) ≡ true = unfold with_flow in on-more (fields w).flow in
      let k : K (with_flow ((fields w).flow + 1) (pen w out)) ≡ on (fields w).key = unfold with_flow in refl in
      deeper (group_of deck pool s true (on (fields w).key) i pairs n c) {P = pen w out} (rw (m, k) at d) (flowed-is x u f out' b ∙ ap (λ (k : ℕ). with_flow k (pen x out')) g)

  -- ---- brackets

  pub lined-whole :
      (i j : ℕ) (pairs : Bool) (n : ℕ) (c r : Cursor) (o k : ℕ) {P₀ P₁ P₂ P₃ P₄ P₅ : Pen} → o ≡ opening pairs → k ≡ closing pairs
      → P₁ ≡ put1 P₀ o → P₂ ≡ put1 P₁ LF
      → Emits s (lined_run deck pool s (F P₂) (K P₂) j pairs n c) P₂ P₃ c.at (run_end deck pool pairs n c) r (length deck)
      → P₄ ≡ puts (spaces i) P₃ → P₅ ≡ put1 P₄ k
      → Emits s (lined_in deck pool s (F P₀) (K P₀) i j pairs n c) P₀ P₅ c.at (run_end deck pool pairs n c) r (length deck)
  unfolding ink lined_in sign newline indent puts put1
  lined-whole i j pairs n c r o k {P₀} {P₁} {P₂} {P₃} x y a b e f g =
      let d : P₃ ≡ ink s (lined_run deck pool s (F P₀) (K P₀) j pairs n c) (put1 (put1 P₀ o) LF) = e.drawn ∙ rw (b, a) in
      record {
        drawn = rw (← x, ← y) (g ∙ ap (λ (q : Pen). put1 q k) (f ∙ ap (puts (spaces i)) d));
        next = e.next;
        onward = e.onward;
        within = e.within;
      }

  pub plain-whole :
      (i : ℕ) (pairs : Bool) (n : ℕ) (c r : Cursor) (o k : ℕ) {P₀ P₁ P₂ P₃ : Pen} → o ≡ opening pairs → k ≡ closing pairs
      → P₁ ≡ put1 P₀ o
      → Emits s (flow_run deck pool s (F P₁) (K P₁) i pairs true n c) P₁ P₂ c.at (run_end deck pool pairs n c) r (length deck)
      → P₃ ≡ put1 P₂ k
      → Emits s (plain_in deck pool s (F P₀) (K P₀) i pairs n c) P₀ P₃ c.at (run_end deck pool pairs n c) r (length deck)
  unfolding ink plain_in sign puts put1
  plain-whole i pairs n c r o k {P₀} {P₁} {P₂} x y a e g =
      let d : P₂ ≡ ink s (flow_run deck pool s (F P₀) (K P₀) i pairs true n c) (put1 P₀ o) = e.drawn ∙ rw a in
      record {
        drawn = rw (← x, ← y) (g ∙ ap (λ (q : Pen). put1 q k) d);
        next = e.next;
        onward = e.onward;
        within = e.within;
      }

  -- ---- entries one after another

  pub flow-turn :
      (f k : Bool) (i : ℕ) (pairs first : Bool) (left : ℕ) (here next : Cursor) (P Q R Z : Pen) → 0 < left
      → Q ≡ ink s (when first then nothing else comma k i) P
      → R ≡ ink s (entry_of deck pool s f k i pairs here) Q → next ≡ entry_end deck pool pairs here
      → ink s (flow_run deck pool s f k i pairs first left here) P ≡ Z
      → ink s (flow_run deck pool s f k i pairs false (left - 1) next) R ≡ Z
  unfolding ink flow_run
  flow-turn f k i pairs first zero here next P Q R Z l a b n h = absurd (omega arith)
  flow-turn f k i pairs first (suc m) here next P Q R Z l a b n h = let z : suc m - 1 ≡ m = omega arith in rw (z, n, b, a) h

  pub flow-done :
      (f k : Bool) (i : ℕ) (pairs first : Bool) (left : ℕ) (here : Cursor) (P Z : Pen) → left ≡ 0 → ink s (flow_run deck pool s f k i pairs first left here) P ≡ Z → P ≡ Z
  unfolding ink flow_run nothing puts
  flow-done f k i pairs first left here P Z e h = rw e at h

  pub lined-turn :
      (f k : Bool) (i : ℕ) (pairs : Bool) (left : ℕ) (last : Bool) (here next : Cursor) (P Q Z : Pen) → 0 < left → last ≡ eqb left 1
      → Q ≡ ink s (lined_of deck pool s f k i pairs last here) P → next ≡ entry_end deck pool pairs here
      → ink s (lined_run deck pool s f k i pairs left here) P ≡ Z
      → ink s (lined_run deck pool s f k i pairs (left - 1) next) Q ≡ Z
  unfolding ink lined_run
  lined-turn f k i pairs zero last here next P Q Z l e b n h = absurd (omega arith)
  lined-turn f k i pairs (suc m) last here next P Q Z l e b n h =
      let z : suc m - 1 ≡ m = omega arith in
      let y : last ≡ is_none m = e ∙ last-is m in
      rw (z, n, b, y) h

  pub lined-done : (f k : Bool) (i : ℕ) (pairs : Bool) (left : ℕ) (here : Cursor) (P Z : Pen) → left ≡ 0 → ink s (lined_run deck pool s f k i pairs left here) P ≡ Z → P ≡ Z
  unfolding ink lined_run nothing puts
  lined-done f k i pairs left here P Z e h = rw e at h

  pub run-turn : (pairs : Bool) (left : ℕ) (here next z : Cursor) → 0 < left → next ≡ entry_end deck pool pairs here → run_end deck pool pairs left here ≡ z → run_end deck pool pairs (left - 1) next ≡ z
  unfolding run_end
  run-turn pairs zero here next w l n h = absurd (omega arith)
  run-turn pairs (suc m) here next w l n h = let z : suc m - 1 ≡ m = omega arith in rw (z, n) h

  pub run-done : (pairs : Bool) (left : ℕ) (here z : Cursor) → left ≡ 0 → run_end deck pool pairs left here ≡ z → here ≡ z
  unfolding run_end
  run-done pairs left here w e h = rw e at h

  -- ---- one entry

  pub key-emits :
      (i : ℕ) (pairs f k : Bool) (c r : Cursor) {P₀ P₁ P₂ : Pen} → pairs ≡ true
      → Emits s (line_of s f k Key i (node_at deck pool c)) P₀ P₁ c.at (next_at deck pool c) r (length deck) → P₂ ≡ put1 P₁ SP
      → Emits s (entry_key deck pool s f k i pairs c) P₀ P₂ c.at (last_of deck pool pairs c) r (length deck)
  unfolding ink entry_key last_of sign puts
  key-emits i pairs f k c r t e b =
      record {
        drawn = rw (t, ← line-key deck pool s f k i (node_at deck pool c)) (b ∙ ap (λ (q : Pen). put1 q SP) e.drawn);
        next = rw t e.next;
        onward = e.onward;
        within = e.within;
      }

  pub no_key :
      (i : ℕ) (pairs f k : Bool) (c : Cursor) {P : Pen} → pairs ≡ false → c.at ≤ length deck
      → Emits s (entry_key deck pool s f k i pairs c) P P c.at (last_of deck pool pairs c) c (length deck)
  unfolding ink entry_key last_of nothing puts
  no_key i pairs f k c t h = record { drawn = rw t; next = rw t; onward = omega arith; within = h }

  pub entry-emits :
      (i : ℕ) (pairs : Bool) (c d r : Cursor) {P₀ P₁ P₂ : Pen}
      → Emits s (entry_key deck pool s (F P₀) (K P₀) i pairs c) P₀ P₁ c.at (last_of deck pool pairs c) d (length deck)
      → Emits s (line_of s (F P₁) (K P₁) Entry i (node_at deck pool d)) P₁ P₂ d.at (next_at deck pool d) r (length deck)
      → Emits s (entry_of deck pool s (F P₀) (K P₀) i pairs c) P₀ P₂ c.at (entry_end deck pool pairs c) r (length deck)
  unfolding ink entry_of entry_end
  entry-emits i pairs c d r {P₀} {P₁} e f =
      let b : Script = entry_key deck pool s (F P₀) (K P₀) i pairs c in
      let a : Script = item_of deck pool s (F P₀) (K P₀) i (node_at deck pool (last_of deck pool pairs c)) in
      let z : ink s (item_of deck pool s (F P₁) (K P₁) i (node_at deck pool d)) P₁ ≡ ink s a P₁ = let f₁ : F P₁ ≡ F P₀ = flow-kept s b P₀ P₁ e.drawn in let k₁ : K P₁ ≡ K P₀ = key-kept s b P₀ P₁ e.drawn in rw (f₁, k₁, e.next) in
      let p = e.onward in
      let q = f.onward in
      record {
        drawn = f.drawn ∙ line-entry deck pool s (F P₁) (K P₁) i (node_at deck pool d) P₁ ∙ z ∙ ap (ink s a) e.drawn;
        next = f.next ∙ ap (next_at deck pool) e.next;
        onward = omega (arith, p, q);
        within = f.within;
      }

  -- the same where the item or the value is read already
  pub entry_read :
      (i : ℕ) (pairs : Bool) (c to d r : Cursor) (x : Spot) {P₀ P₁ P₂ : Pen} → length deck ≤ 65536 → LastOf deck pairs c to → x ≡ spot_at deck to
      → Emits s (entry_key deck pool s (F P₀) (K P₀) i pairs c) P₀ P₁ c.at (last_of deck pool pairs c) d (length deck)
      → Emits s (line_of s (F P₁) (K P₁) Entry i (node_in deck pool x)) P₁ P₂ x.place (end_in deck pool x) r (length deck)
      → Emits s (entry_of deck pool s (F P₀) (K P₀) i pairs c) P₀ P₂ c.at (entry_end deck pool pairs c) r (length deck)
  entry_read i pairs c to d r x {P₁ = P₁} b h t e f =
      let q : d ≡ to = e.next ∙ sym (h.is pool) in
      entry-emits i pairs c to r (rw q at e) (at-cursor s deck pool to r x (line_of s (F P₁) (K P₁) Entry i) h.within b t f)

  -- ---- the node at a cursor

  line-whole :
      (m : Manner) (r : Cursor) (x : Spot) (i n l : ℕ) {P₀ P₁ P₂ P₃ P₄ : Pen} → Draws (dressed m (props (brought_in deck pool x))) P₀ P₁
      → l ≡ key_by m 1 P₀.w.key → Emits s (content_in (with_key l P₁) i x) (with_key l P₁) P₂ x.place (end_in deck pool x) r (length deck)
      → n ≡ P₀.w.key → P₃ ≡ with_key n P₂ → Draws (ending m x.place (kept_in deck pool x) (kind_in deck pool x)) P₃ P₄
      → Emits s (line_of s (F P₀) (K P₀) m i (node_in deck pool x)) P₀ P₄ x.place (end_in deck pool x) r (length deck)
  unfolding ink line_of content node_in
  line-whole m r x i n l {P₀} {P₁} {P₂} {P₃} d t e h q z =
      let y = d.drawn s in
      let a : Script = content_of s (F P₁) (on l) i x.place (kept_in deck pool x) (brought_in deck pool x) (kind_in deck pool x) in
      let u : P₂ ≡ ink s a (with_key l P₁) = unfold with_key in e.drawn in
      let v : P₃ ≡ ink s a P₁ = q ∙ ap (λ (j : ℕ). with_key j P₂) (h ∙ sym (key_of s (dressed m (props (brought_in deck pool x))) P₀ P₁ y)) ∙ ap (with_key P₁.w.key) u ∙ ink-in-key s a l P₁ in
      let a₀ : Script = content_of s (F P₀) (key_by m true (K P₀)) i x.place (kept_in deck pool x) (brought_in deck pool x) (kind_in deck pool x) in
      let w : ink s a P₁ ≡ ink s a₀ P₁ = let f₁ : F P₁ ≡ F P₀ = flow-kept s (dressed m (props (brought_in deck pool x))) P₀ P₁ y in let k₁ : on l ≡ key_by m true (K P₀) = ap on t ∙ mark_on m P₀.w.key in rw (f₁, k₁) in
      record {
        drawn = z.drawn s ∙ ap (ink s (ending m x.place (kept_in deck pool x) (kind_in deck pool x))) (v ∙ w ∙ ap (ink s a₀) y);
        next = e.next;
        onward = e.onward;
        within = e.within;
      }

  -- the same of writers: the key mark read, set, and set back
  pub line-whole-is :
      (m : Manner) (r : Cursor) (x : Spot) (i : ℕ) (k l : Bool) (w w₁ w₂ u v : Writer) (out out₁ out₂ : Bytes) {P : Pen} → from_bool k ≡ (fields w).key
      → Draws (dressed m (props (brought_in deck pool x))) (pen w out) (pen w₁ out₁) → l ≡ key_by m true k → pen w₂ [] ≡ with_key (from_bool l) (pen w₁ [])
      → Emits s (content_in (pen w₂ out₁) i x) (pen w₂ out₁) (pen u out₂) x.place (end_in deck pool x) r (length deck)
      → pen v [] ≡ with_key (from_bool k) (pen u []) → Draws (ending m x.place (kept_in deck pool x) (kind_in deck pool x)) (pen v out₂) P
      → Emits s (line_of s (on (fields w).flow) (on (fields w).key) m i (node_in deck pool x)) (pen w out) P x.place (end_in deck pool x) r (length deck)
  line-whole-is m r x i k l w w₁ w₂ u v out out₁ out₂ g d t a e q z =
      let n = subst (λ (p : Pen). Emits s (content_in p i x) p (pen u out₂) x.place (end_in deck pool x) r (length deck)) (keyed-is w₁ w₂ (from_bool l) out₁ a) e in
      line-whole m r x i (from_bool k) (from_bool l) d (ap from_bool t ∙ bit-key m k ∙ ap (key_by m 1) g) n g (keyed-is u v (from_bool k) out₂ q) z

  pub lined-entry-whole :
      (pairs last : Bool) (c to r : Cursor) (x : Spot) (i : ℕ) {P₀ P₁ P₂ P₃ : Pen} → LastOf deck pairs c to → x ≡ spot_at deck to
      → Draws (lined_before deck pool i pairs c (kept_of deck pool x.lead)) P₀ P₁
      → Emits s (entry_of deck pool s (F P₁) (K P₁) i pairs c) P₁ P₂ c.at (entry_end deck pool pairs c) r (length deck)
      → Draws (lined_after last x.place (remark_of deck pool x.lead.remark)) P₂ P₃
      → Emits s (lined_of deck pool s (F P₀) (K P₀) i pairs last c) P₀ P₃ c.at (entry_end deck pool pairs c) r (length deck)
  unfolding ink lined_of place kept node_in kept_of
  lined-entry-whole pairs last c to r x i {P₀} {P₁} h e d m z =
      let b : Script = lined_before deck pool i pairs c (kept_of deck pool x.lead) in
      let y = d.drawn s in
      let a : Script = entry_of deck pool s (F P₀) (K P₀) i pairs c in
      let u : ink s (entry_of deck pool s (F P₁) (K P₁) i pairs c) P₁ ≡ ink s a P₁ = let f₁ : F P₁ ≡ F P₀ = flow-kept s b P₀ P₁ y in let k₁ : K P₁ ≡ K P₀ = key-kept s b P₀ P₁ y in rw (f₁, k₁) in
      record {
        drawn = rw (← h.is pool, tree-value deck pool to h.within, ← e) (z.drawn s ∙ ap (ink s (lined_after last x.place (remark_of deck pool x.lead.remark))) (m.drawn ∙ u ∙ ap (ink s a) y));
        next = m.next;
        onward = m.onward;
        within = m.within;
      }

  -- ---- ready after a byte, and with a mark set

  pub after-byte : {P Q : Pen} {at i : ℕ} (b : ℕ) → Ready s deck pool P at i → Q ≡ put1 P b → Ready s deck pool Q at i
  unfolding ink sign puts
  after-byte b r e = after r s (sign b) _ e

  pub keyed-at : (w v : Writer) (n : ℕ) (out : Bytes) {at i : ℕ} → pen v [] ≡ with_key n (pen w []) → Ready s deck pool (pen w out) at i → Ready s deck pool (pen v out) at i
  keyed-at w v n out e r = rw (keyed-is w v n out e) (keyed r n)

  -- inside a flow collection
  pub group-in :
      (f : ℕ) (w v : Writer) (out : Bytes) {at i : ℕ} → f ≡ (fields w).flow → pen v [] ≡ with_flow (f + 1) (pen w [])
      → Ready s deck pool (with_flow ((fields w).flow + 1) (pen w out)) at i → Ready s deck pool (pen v out) at i
  group-in f w v out g e r = rw (flowed-is w v (f + 1) out e, g) r

  -- the depth is small enough for one more
  pub depth_small : (f : ℕ) (w : Writer) (out : Bytes) {at i : ℕ} → f ≡ (fields w).flow → Ready s deck pool (with_flow ((fields w).flow + 1) (pen w out)) at i → f + 1 < 2 ^ 18
  unfolding with_flow
  depth_small f w out e r = let h = r.flow in omega (arith, e, h)

  -- ---- the loops over entries: finishing from here ends as finishing from the start would

  pub record Going (i : ℕ) (pairs : Bool) (run : Bool → ℕ → Cursor → Script) (P₀ : Pen) (first₀ : Bool) (left₀ : ℕ) (here₀ : Cursor) (P : Pen) (first : Bool) (left : ℕ) (here : Cursor) : Type 0 where
    pub same : ink s (run first left here) P ≡ ink s (run first₀ left₀ here₀) P₀
    pub flow : P.w.flow ≡ P₀.w.flow
    pub key : P.w.key ≡ P₀.w.key
    pub size : length P.out ≡ length P₀.out
    pub end : run_end deck pool pairs left here ≡ run_end deck pool pairs left₀ here₀
    pub onward : here₀.at ≤ here.at
    pub ready : Ready s deck pool P here.at i

  pub start : (i : ℕ) (pairs : Bool) (run : Bool → ℕ → Cursor → Script) (P : Pen) (first : Bool) (n : ℕ) (c : Cursor) → Ready s deck pool P c.at i → Going i pairs run P first n c P first n c
  start i pairs run P first n c r = record { same = refl; flow = refl; key = refl; size = refl; end = refl; onward = omega arith; ready = r }

  abbrev pub flow_runs : ℕ → Bool → Pen → Bool → ℕ → Cursor → Script
  flow_runs i pairs P₀ first left here = flow_run deck pool s (F P₀) (K P₀) i pairs first left here

  abbrev pub lined_runs : ℕ → Bool → Pen → Bool → ℕ → Cursor → Script
  lined_runs i pairs P₀ first left here = lined_run deck pool s (F P₀) (K P₀) i pairs left here

  -- one entry further
  step :
      (i : ℕ) (pairs : Bool) (run : Bool → ℕ → Cursor → Script) (P₀ : Pen) (first₀ : Bool) (left₀ : ℕ) (here₀ : Cursor) (P R : Pen) (first more : Bool) (left : ℕ) (here next : Cursor) (a : Script)
      → Going i pairs run P₀ first₀ left₀ here₀ P first left here → 0 < left → R ≡ ink s a P
      → ink s (run more (left - 1) next) R ≡ ink s (run first left here) P
      → next ≡ entry_end deck pool pairs here → here.at ≤ next.at → next.at ≤ length deck
      → Going i pairs run P₀ first₀ left₀ here₀ R more (left - 1) next
  step i pairs run P₀ first₀ left₀ here₀ P R first more left here next a g l e t n o w =
      let p = g.onward in
      record {
        same = t ∙ g.same;
        flow = flow-of s a P R e ∙ g.flow;
        key = key_of s a P R e ∙ g.key;
        size = length-of s a P R e ∙ g.size;
        end = run-turn pairs left here next _ l n g.end;
        onward = omega (arith, p, o);
        ready = further (after g.ready s a R e) next.at o w;
      }

  pub flow-step :
      (i : ℕ) (pairs : Bool) (P₀ : Pen) (first₀ : Bool) (left₀ : ℕ) (here₀ : Cursor) (P Q R : Pen) (first : Bool) (left : ℕ) (here next : Cursor)
      → Going i pairs (flow_runs i pairs P₀) P₀ first₀ left₀ here₀ P first left here → 0 < left
      → Q ≡ ink s (when first then nothing else comma (K P) i) P
      → Emits s (entry_of deck pool s (F Q) (K Q) i pairs here) Q R here.at (entry_end deck pool pairs here) next (length deck)
      → Going i pairs (flow_runs i pairs P₀) P₀ first₀ left₀ here₀ R false (left - 1) next
  unfolding ink
  flow-step i pairs P₀ first₀ left₀ here₀ P Q R first left here next g l b e =
      let kp : K P ≡ K P₀ = ap on g.key in
      let b₀ : Q ≡ ink s (when first then nothing else comma (K P₀) i) P = rw kp at b in
      let fq : F Q ≡ F P₀ = flow-kept s (when first then nothing else comma (K P) i) P Q b ∙ ap on g.flow in
      let kq : K Q ≡ K P₀ = key-kept s (when first then nothing else comma (K P) i) P Q b ∙ kp in
      let d : R ≡ ink s (entry_of deck pool s (F P₀) (K P₀) i pairs here) Q = rw (fq, kq) at e.drawn in
      step i pairs (flow_runs i pairs P₀) P₀ first₀ left₀ here₀ P R first false left here next ((when first then nothing else comma (K P₀) i) >> entry_of deck pool s (F P₀) (K P₀) i pairs here) g l
      (d ∙ ap (ink s (entry_of deck pool s (F P₀) (K P₀) i pairs here)) b₀)
      (flow-turn (F P₀) (K P₀) i pairs first left here next P Q R _ l b₀ d e.next refl)
      e.next e.onward e.within

  pub lined-step :
      (i : ℕ) (pairs : Bool) (P₀ : Pen) (first₀ : Bool) (left₀ : ℕ) (here₀ : Cursor) (P R : Pen) (first : Bool) (left : ℕ) (last : Bool) (here next : Cursor)
      → Going i pairs (lined_runs i pairs P₀) P₀ first₀ left₀ here₀ P first left here → 0 < left → last ≡ eqb left 1
      → Emits s (lined_of deck pool s (F P) (K P) i pairs last here) P R here.at (entry_end deck pool pairs here) next (length deck)
      → Going i pairs (lined_runs i pairs P₀) P₀ first₀ left₀ here₀ R first (left - 1) next
  lined-step i pairs P₀ first₀ left₀ here₀ P R first left last here next g l t e =
      let fp : F P ≡ F P₀ = ap on g.flow in
      let kp : K P ≡ K P₀ = ap on g.key in
      let d : R ≡ ink s (lined_of deck pool s (F P₀) (K P₀) i pairs last here) P = rw (fp, kp) at e.drawn in
      step i pairs (lined_runs i pairs P₀) P₀ first₀ left₀ here₀ P R first first left here next (lined_of deck pool s (F P₀) (K P₀) i pairs last here) g l d
      (lined-turn (F P₀) (K P₀) i pairs left last here next P R _ l t d e.next refl)
      e.next e.onward e.within

  -- no entry is left
  stop :
      (i : ℕ) (pairs : Bool) (run : Bool → ℕ → Cursor → Script) (P₀ : Pen) (first₀ : Bool) (n : ℕ) (c : Cursor) (P : Pen) (first : Bool) (left : ℕ) (here : Cursor)
      → Going i pairs run P₀ first₀ n c P first left here → left ≡ 0 → P ≡ ink s (run first₀ n c) P₀
      → Emits s (run first₀ n c) P₀ P c.at (run_end deck pool pairs n c) here (length deck)
  stop i pairs run P₀ first₀ n c P first left here g z d = record { drawn = d; next = run-done pairs left here _ z g.end; onward = g.onward; within = g.ready.here }

  pub flow-stop :
      (i : ℕ) (pairs : Bool) (P₀ : Pen) (n : ℕ) (c : Cursor) (P : Pen) (first : Bool) (left : ℕ) (here : Cursor)
      → Going i pairs (flow_runs i pairs P₀) P₀ true n c P first left here → left ≡ 0
      → Emits s (flow_run deck pool s (F P₀) (K P₀) i pairs true n c) P₀ P c.at (run_end deck pool pairs n c) here (length deck)
  flow-stop i pairs P₀ n c P first left here g z = stop i pairs (flow_runs i pairs P₀) P₀ true n c P first left here g z (flow-done _ _ i pairs first left here P _ z g.same)

  pub lined-stop :
      (i : ℕ) (pairs : Bool) (P₀ : Pen) (n : ℕ) (c : Cursor) (P : Pen) (first : Bool) (left : ℕ) (here : Cursor)
      → Going i pairs (lined_runs i pairs P₀) P₀ true n c P first left here → left ≡ 0
      → Emits s (lined_run deck pool s (F P₀) (K P₀) i pairs n c) P₀ P c.at (run_end deck pool pairs n c) here (length deck)
  lined-stop i pairs P₀ n c P first left here g z = stop i pairs (lined_runs i pairs P₀) P₀ true n c P first left here g z (lined-done _ _ i pairs left here P _ z g.same)

pub few-grouped : (pairs : Bool) (x : Spot) (g : Group) → count_in x.body < 65536 → x.body ≡ grouped pairs g → g.count < 65536
unfolding count_in
few-grouped true x g h e = rw e at h
few-grouped false x g h e = rw e at h

pub grouped-deeper : (deck : Bytes) (pairs : Bool) (x : Spot) (g : Group) → Good deck x → x.body ≡ grouped pairs g → x.place < x.next.at
unfolding is_group
grouped-deeper deck true x g h b = h.deeper (rw b)
grouped-deeper deck false x g h b = h.deeper (rw b)
