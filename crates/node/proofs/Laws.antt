-- Laws of the head, of its comments, and of where a subtree ends.
use mathlib.Core.Path.{◌≡◌, refl, sym, ap, ◌∙◌}
use Prim.Native.Nat.{ℕ, zero, suc, ◌+◌, ◌-◌, ◌<◌, ◌≤◌}
use native.Mathlib.Omega.{arith}
use mathlib.Core.Bool.{Bool, true, false}
use lib.ListN.{length}
use lib.Dec.{eqb}
use borrow.Author.Tests.{eq-eqb, ne_eqb, eqb-true, eqb-false}
use Rattle.definition.specs.Base.{Bytes, when◌then◌else◌}
use Rattle.definition.specs.Records.{kind_at, record_of, record_at}
use Rattle.definition.specs.Deck.{is_node}
use Rattle.definition.specs.declared.Cursor.{Cursor}
use Rattle.definition.specs.declared.Record.{Record}
use Rattle.definition.specs.declared.Record.TheVariants as is
use Rattle.deck.specs.Next.{next_of}
use Rattle.deck.specs.Kids.{either, kids_of, of-kind}
use Rattle.node.specs.declared.Run.{Run}
use Rattle.node.specs.declared.Lead.{Lead}
use Rattle.node.specs.declared.Front.{Front}
use Rattle.node.specs.Head.{onto, no_lead, add_to, Small, Head, front_of, headed, head_from, head_at}
use Rattle.node.specs.Comments.{is_comment, comment_from}
use Rattle.node.specs.Total.{tree_at}
use Rattle.node.specs.Fuel.{nexts, head-at-onward, place_same, place-within, tree-next}

-- how many are left at the first turn, and one turn later
pub first-left : (n : ℕ) → n - 0 ≡ n
first-left n = omega arith

pub next-left : (n k : ℕ) → n - (k + 1) ≡ n - k - 1
next-left n k = omega arith

-- ---- runs

pub onto-first : (r : Run) (c : Cursor) → r.count ≡ 0 → record { first = c; count = 1 } ≡ onto r c
unfolding onto
onto-first r c e = rw (eq-eqb r.count 0 e, e)

pub onto-later : (r : Run) (c : Cursor) → (r.count ≡ 0 → ⊥) → record { first = r.first; count = r.count + 1 } ≡ onto r c
unfolding onto
onto-later r c e = rw (ne_eqb r.count 0 e)

pub small-fits : {n : ℕ} {l : Lead} (m : ℕ) → n ≤ m → Small n l → Small m l
small-fits m h s = record { heads = omega arith; foots = omega arith; directives = omega arith }

pub small-none : (m : ℕ) (l : Lead) → l ≡ no_lead → Small m l
small-none m l e = rw e (record { heads = omega arith; foots = omega arith; directives = omega arith })

small-more : {n : ℕ} {l : Lead} (r : Record) (c : Cursor) → Small n l → Small (n + 1) (add_to r c l)
unfolding add_to onto
small-more (is.Tag t) c s = record { heads = omega arith; foots = omega arith; directives = omega arith }
small-more (is.Anchor t) c s = record { heads = omega arith; foots = omega arith; directives = omega arith }
small-more (is.Source i) c s = record { heads = omega arith; foots = omega arith; directives = omega arith }
small-more (is.Head h) c s = record { heads = omega arith; foots = omega arith; directives = omega arith }
small-more (is.Inline t) c s = record { heads = omega arith; foots = omega arith; directives = omega arith }
small-more (is.Foot t) c s = record { heads = omega arith; foots = omega arith; directives = omega arith }
small-more (is.Raw t) c s = record { heads = omega arith; foots = omega arith; directives = omega arith }
small-more (is.Directive t) c s = record { heads = omega arith; foots = omega arith; directives = omega arith }
small-more (is.Layout t) c s = record { heads = omega arith; foots = omega arith; directives = omega arith }
small-more is.Null c s = small-fits _ (omega arith) s
small-more (is.Scalar t) c s = small-fits _ (omega arith) s
small-more (is.Alias t) c s = small-fits _ (omega arith) s
small-more (is.Sequence t) c s = small-fits _ (omega arith) s
small-more (is.Mapping t) c s = small-fits _ (omega arith) s

pub small-step :
    (len left : ℕ) (l m : Lead) (r : Record) (c : Cursor) →
    0 < left → left ≤ len → Small (len - left) l → m ≡ add_to r c l → Small (len - (left - 1)) m
small-step len left l m r c h k s e = rw e (small-fits {n = len - left + 1} _ (omega arith) (small-more r c s))

-- ---- what a record adds, by its kind

module _ (deck : Bytes) (c : Cursor) (l : Lead) (k : ℕ) (f : k ≡ kind_at deck c) where
  -- a record of any other kind adds nothing
  pub add_none : (k ≡ 0x01 → ⊥) → (k ≡ 0x02 → ⊥) → (k ≡ 0x03 → ⊥) → (k ≡ 0x04 → ⊥) → (k ≡ 0x05 → ⊥) → (k ≡ 0x06 → ⊥) → (k ≡ 0x07 → ⊥) → (k ≡ 0x08 → ⊥) → (k ≡ 0x09 → ⊥) → l ≡ add_to (record_at deck c) c l
  unfolding record_at record_of add_to
  add_none a b d e g h i j m =
      rw (← f, ne_eqb k 0x01 a, ne_eqb k 0x02 b, ne_eqb k 0x03 d, ne_eqb k 0x04 e, ne_eqb k 0x05 g, ne_eqb k 0x06 h, ne_eqb k 0x07 i, ne_eqb k 0x08 j, ne_eqb k 0x09 m)
      (sym (own 0x21 _ _ refl (own 0x22 _ _ refl (own 0x23 _ _ refl (own 0x24 _ _ refl refl)))))
    where
      own : (n : ℕ) (x y : Record) → add_to x c l ≡ l → add_to y c l ≡ l → add_to (when eqb k n then x else y) c l ≡ l
      own n x y = either (λ (r : Record). add_to r c l ≡ l) (eqb k n) {x = x} {y = y}

-- ---- a head

module _ (deck : Bytes) where
  -- the front that is had where the walk over leading records stands
  abbrev fronted : Lead → Cursor → Front
  fronted l c = record { lead = l; own = c }

  pub front-stop : (n : ℕ) (l : Lead) (c : Cursor) (b : Bool) → b ≡ is_node (record_at deck c) → b ≡ true → fronted l c ≡ front_of (head_from deck n l c)
  unfolding head_from headed front_of
  front-stop zero l c b e t = refl
  front-stop (suc n) l c b e t = rw (← e, t)

  pub head_more :
      (n : ℕ) (l m : Lead) (c next : Cursor) (b : Bool) →
      0 < n → b ≡ is_node (record_at deck c) → b ≡ false → next ≡ next_of deck c → m ≡ add_to (record_at deck c) c l →
      head_from deck (n - 1) m next ≡ head_from deck n l c
  unfolding head_from
  head_more zero l m c next b h e f x a = absurd (omega arith)
  head_more (suc n) l m c next b h e f x a = let s : suc n - 1 ≡ n = omega arith in rw (s, ← e, f, a, x)

  pub front-done : (n : ℕ) (l : Lead) (c : Cursor) → n ≡ 0 → fronted l c ≡ front_of (head_from deck n l c)
  unfolding head_from headed front_of
  front-done n l c e = rw e

  pub front-is : (h : Head) (l : Lead) (c : Cursor) → h ≡ head_from deck (length deck) l c → l ≡ no_lead → front_of h ≡ front_of (head_at deck c)
  unfolding head_at
  front-is h l c q e = rw (q, e)

  -- ---- its own record's place

  abbrev pub own_from : ℕ → Cursor → Cursor
  own_from n c = (head_from deck n no_lead c).place

  pub own-stop : (n : ℕ) (c : Cursor) (b : Bool) → b ≡ is_node (record_at deck c) → b ≡ true → c ≡ own_from n c
  unfolding front_of
  own-stop n c b e t = ap (λ (f : Front). f.own) (front-stop n no_lead c b e t)

  pub own-more : (n : ℕ) (c next : Cursor) (b : Bool) → 0 < n → b ≡ is_node (record_at deck c) → b ≡ false → next ≡ next_of deck c → own_from (n - 1) next ≡ own_from n c
  own-more n c next b h e f x =
      place_same deck (n - 1) no_lead (add_to (record_at deck c) c no_lead) next
      ∙ ap (λ (z : Head). z.place) (head_more n no_lead (add_to (record_at deck c) c no_lead) c next b h e f x refl)

  pub own-done : (n : ℕ) (c : Cursor) → n ≡ 0 → c ≡ own_from n c
  unfolding front_of
  own-done n c e = ap (λ (f : Front). f.own) (front-done n no_lead c e)

  pub own-place : (c : Cursor) → own_from (length deck) c ≡ (head_at deck c).place
  unfolding head_at
  own-place c = refl

-- ---- its comments

module _ (deck : Bytes) (c : Cursor) (k : ℕ) (f : k ≡ kind_at deck c) where
  -- only kinds 04, 05 and 06 are comments
  pub comment-other : (k ≡ 0x04 → ⊥) → (k ≡ 0x05 → ⊥) → (k ≡ 0x06 → ⊥) → false ≡ is_comment (record_at deck c)
  unfolding record_at record_of is_comment
  comment-other p q r =
      rw (← f, ne_eqb k 0x04 p, ne_eqb k 0x05 q, ne_eqb k 0x06 r)
      (sym (no 0x01 _ _ refl (no 0x02 _ _ refl (no 0x03 _ _ refl (no 0x07 _ _ refl (no 0x08 _ _ refl (no 0x09 _ _ refl (no 0x21 _ _ refl (no 0x22 _ _ refl (no 0x23 _ _ refl (no 0x24 _ _ refl refl)))))))))))
    where
      no : (n : ℕ) (x y : Record) → is_comment x ≡ false → is_comment y ≡ false → is_comment (when eqb k n then x else y) ≡ false
      no n x y = either (λ (r : Record). is_comment r ≡ false) (eqb k n) {x = x} {y = y}

  -- kinds 4, 5 and 6 are those of comments
  pub comment-within : 4 ≤ k → k ≤ 6 → true ≡ is_comment (record_at deck c)
  unfolding record_of is_comment
  comment-within l u = go (eqb k 4) (eqb k 5) refl refl
    where
      go : (a b : Bool) → eqb k 4 ≡ a → eqb k 5 ≡ b → true ≡ is_comment (record_at deck c)
      go true b e h = of-kind is_comment deck c 4 f (eqb-true _ _ e)
      go false true e h = of-kind is_comment deck c 5 f (eqb-true _ _ h)
      go false false e h = of-kind is_comment deck c 6 f (let p = eqb-false _ _ e in let q = eqb-false _ _ h in omega (arith, l, u, p, q))

module _ (deck : Bytes) where
  pub comment-stop : (n : ℕ) (c : Cursor) (b : Bool) → b ≡ is_node (record_at deck c) → b ≡ true → false ≡ comment_from deck n c
  unfolding comment_from
  comment-stop zero c b e t = refl
  comment-stop (suc n) c b e t = rw (← e, t)

  pub comment-here :
      (n : ℕ) (c : Cursor) (b d : Bool) → 0 < n → b ≡ is_node (record_at deck c) → b ≡ false → d ≡ is_comment (record_at deck c) → d ≡ true → true ≡ comment_from deck n c
  unfolding comment_from
  comment-here zero c b d h e f g t = absurd (omega arith)
  comment-here (suc n) c b d h e f g t = rw (← e, f, ← g, t)

  pub comment-more :
      (n : ℕ) (c next : Cursor) (b d : Bool) → 0 < n → b ≡ is_node (record_at deck c) → b ≡ false → d ≡ is_comment (record_at deck c) → d ≡ false → next ≡ next_of deck c →
      comment_from deck (n - 1) next ≡ comment_from deck n c
  unfolding comment_from
  comment-more zero c next b d h e f g t x = absurd (omega arith)
  comment-more (suc n) c next b d h e f g t x = let s : suc n - 1 ≡ n = omega arith in rw (s, ← e, f, ← g, t, x)

  pub comment-done : (n : ℕ) (c : Cursor) → n ≡ 0 → false ≡ comment_from deck n c
  unfolding comment_from
  comment-done n c e = rw e

-- ---- where a subtree ends

module _ (deck : Bytes) (c : Cursor) (k : c.at ≤ length deck) (p : Cursor) (e : p ≡ (head_at deck c).place) where
  pub own-within : p.at ≤ length deck
  own-within = rw e (place-within deck c k)

  kids-are : (n : ℕ) → n ≡ kids_of (record_at deck p) → n ≡ kids_of (head_at deck c).own
  kids-are n q = q ∙ ap (λ (x : Cursor). kids_of (record_at deck x)) e ∙ ap kids_of (sym (head-at-onward deck c k).own)

  next-is : (x : Cursor) → x ≡ next_of deck p → x ≡ (head_at deck c).next
  next-is x q = q ∙ ap (next_of deck) e ∙ sym (head-at-onward deck c k).next

  pub child-after : (x : Cursor) (n : ℕ) → x ≡ next_of deck p → n ≡ kids_of (record_at deck p) → 0 < n → c.at < x.at
  child-after x n f q h =
      let o = head-at-onward deck c k in
      let y : n ≡ kids_of (head_at deck c).own = kids-are n q in
      let s = o.kids (λ z. absurd (omega arith)) in
      rw (next-is x f) (omega (arith, o.ahead, s))

  pub end-onward : (x : Cursor) → x ≡ next_of deck p → c.at ≤ x.at
  end-onward x f = let o = head-at-onward deck c k in rw (next-is x f) (omega (arith, o.ahead, o.beyond))

  pub end-tree : (pool : Bytes) (x : Cursor) (n : ℕ) → x ≡ next_of deck p → n ≡ kids_of (record_at deck p) → nexts (λ d. (tree_at deck pool d).next) n x ≡ (tree_at deck pool c).next
  end-tree pool x n f q = rw (kids-are n q, next-is x f) (sym (tree-next deck pool c k))

pub nexts-more : (f : Cursor → Cursor) (n : ℕ) (c e : Cursor) → 0 < n → e ≡ f c → nexts f (n - 1) e ≡ nexts f n c
unfolding nexts
nexts-more f zero c e h q = absurd (omega arith)
nexts-more f (suc n) c e h q = let s : suc n - 1 ≡ n = omega arith in rw (s, q)

pub nexts-done : (f : Cursor → Cursor) (n : ℕ) (c : Cursor) → n ≡ 0 → c ≡ nexts f n c
unfolding nexts
nexts-done f n c e = rw e
