-- Whether a node has comments: what its head says, and what the kinds of its leading records say. They are the same.
use Rattle.std.specs.Prelude.{◌≡◌, Bool, ◌||◌, length, eqb, None, Some}
use Rattle.std.proofs.Math.Path.{refl, sym}
use Rattle.std.proofs.Common.{◌∙◌, arith, ne_eqb}
use Prim.Native.Nat.{ℕ, zero, suc, ◌+◌}
use Rattle.std.proofs.Math.Bool.{true, false, not}
use Rattle.definition.specs.Base.{Bytes, when◌then◌else◌, is_nil, is_some}
use Rattle.definition.specs.Records.{record_at}
use Rattle.definition.specs.Tree.{Brought, Kind, node}
use Rattle.definition.specs.Deck.{is_node}
use Rattle.definition.specs.Walk.{has_comments}
use Rattle.definition.specs.declared.Cursor.{Cursor}
use Rattle.definition.specs.declared.Record.{Record}
use Rattle.definition.specs.declared.Record.TheVariants as is
use Rattle.deck.specs.Next.{next_of}
use Rattle.node.specs.declared.Lead.{Lead}
use Rattle.node.specs.Total.{remark_of, run_from, kept_of}
use Rattle.node.specs.Head.{Maybe, there, onto, no_lead, add_to, headed, head_from, head_at}

-- head comments, an inline comment, or foot comments
unfoldable pub commented : Lead → Bool
commented l = not (eqb l.heads.count 0) || there l.remark || not (eqb l.foots.count 0)

unfoldable pub is_comment : Record → Bool
is_comment (is.Tag t) = false
is_comment (is.Anchor t) = false
is_comment (is.Source i) = false
is_comment (is.Head h) = true
is_comment (is.Inline t) = true
is_comment (is.Foot t) = true
is_comment (is.Raw t) = false
is_comment (is.Directive t) = false
is_comment (is.Layout l) = false
is_comment is.Null = false
is_comment (is.Scalar w) = false
is_comment (is.Alias t) = false
is_comment (is.Sequence g) = false
is_comment (is.Mapping g) = false

-- some leading record, of n at most, is a comment
unfoldable pub comment_from : Bytes → ℕ → Cursor → Bool
comment_from deck zero c = false
comment_from deck (suc n) c = let on = comment_from deck n (next_of deck c) in when is_node (record_at deck c) then false else (is_comment (record_at deck c) || on)

or-none : (x : Bool) → x ≡ (x || false)
or-none true = refl
or-none false = refl

or-true : (x : Bool) → (x || true) ≡ true
or-true true = refl
or-true false = refl

or-group : (x y z : Bool) → ((x || y) || z) ≡ (x || (y || z))
or-group true y z = refl
or-group false y z = refl

counted : (n : ℕ) → eqb (n + 1) 0 ≡ false
counted n = ne_eqb (n + 1) 0 (λ e. absurd (omega (arith, e)))

-- a record adds a comment where it is one
pub added : (r : Record) (c : Cursor) (l : Lead) → commented (add_to r c l) ≡ (commented l || is_comment r)
unfolding commented add_to is_comment onto
added (is.Tag t) c l = or-none _
added (is.Anchor t) c l = or-none _
added (is.Source i) c l = or-none _
added (is.Head h) c l = rw (counted l.heads.count) (sym (or-true (commented l)))
added (is.Inline t) c l = rw (or-true (not (eqb l.heads.count 0))) (sym (or-true (commented l)))
added (is.Foot t) c l = rw (counted l.foots.count) (or-true (not (eqb l.heads.count 0) || there l.remark) ∙ sym (or-true (commented l)))
added (is.Raw t) c l = or-none _
added (is.Directive t) c l = or-none _
added (is.Layout s) c l = or-none _
added is.Null c l = or-none _
added (is.Scalar w) c l = or-none _
added (is.Alias t) c l = or-none _
added (is.Sequence g) c l = or-none _
added (is.Mapping g) c l = or-none _

module _ (deck : Bytes) where
  pub comment-from : (n : ℕ) (l : Lead) (c : Cursor) → commented (head_from deck n l c).lead ≡ (commented l || comment_from deck n c)
  unfolding head_from headed comment_from
  comment-from zero l c = or-none _
  comment-from (suc n) l c = go (is_node (record_at deck c)) (comment-from n (add_to (record_at deck c) c l) (next_of deck c))
    where
      go :
          (b : Bool) → commented (head_from deck n (add_to (record_at deck c) c l) (next_of deck c)).lead ≡ (commented (add_to (record_at deck c) c l) || comment_from deck n (next_of deck c)) →
          commented (when b then headed deck l c else head_from deck n (add_to (record_at deck c) c l) (next_of deck c)).lead
          ≡ (commented l || (when b then false else (is_comment (record_at deck c) || comment_from deck n (next_of deck c))))
      go true e = or-none (commented l)
      go false e = e ∙ rw (added (record_at deck c) c l) (or-group (commented l) (is_comment (record_at deck c)) (comment_from deck n (next_of deck c)))

  pub comment-is : (c : Cursor) → comment_from deck (length deck) c ≡ commented (head_at deck c).lead
  unfolding head_at commented
  comment-is c = sym (comment-from (length deck) no_lead c)

-- ---- what the tree says

some-run : {A : Type 0} (e : Cursor → A) (s n : ℕ) (c : Cursor) → not (is_nil (run_from e s n c)) ≡ not (eqb n 0)
unfolding is_nil run_from
some-run e s zero c = refl
some-run e s (suc n) c = rw (ne_eqb (suc n) 0 (λ e. absurd (omega arith)))

module _ (deck pool : Bytes) where
  some-remark : (m : Maybe) → is_some (remark_of deck pool m) ≡ there m
  unfolding remark_of is_some
  some-remark None = refl
  some-remark (Some c) = refl

  -- a node has the comments that its head says
  pub comments-are : (p : ℕ) (l : Lead) (b : Brought) (k : Kind) → has_comments (node p (kept_of deck pool l) b k) ≡ commented l
  unfolding has_comments kept_of commented
  comments-are p l b k = rw (some-run, some-run, some-remark)
