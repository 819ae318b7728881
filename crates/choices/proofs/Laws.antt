-- Laws of the tests, for the functions that make them.
-- Assumes nothing.
use mathlib.Core.Path.{◌≡◌, refl, sym, ◌∙◌}
use Prim.Native.Nat.{ℕ, zero, suc, ◌+◌, ◌-◌, ◌<◌, ◌≤◌}
use native.Mathlib.Omega.{arith}
use mathlib.Core.Bool.{Bool, true, false, ◌||◌}
use mathlib.Core.List.{[], ◌∷◌}
use lib.Dec.{eqb}
use lib.ListN.{length}
use borrow.Author.Tests.{ne_eqb}
use Rattle.definition.specs.Base.{Bytes, is_nil}
use Rattle.definition.specs.Walk.{has_comments}
use Rattle.definition.specs.declared.Cursor.{Cursor}
use Rattle.node.specs.Comments.{commented}
use Rattle.node.specs.Ends.{Ends}
use Rattle.node.specs.Head.{head_at}
use Rattle.node.specs.Total.{tree_at}
use Rattle.node.specs.Loud.{some_of}
use Rattle.spot.specs.Spot.{spot_of, spot_at, tree-value}
use Rattle.choices.specs.Choices.{comments-is}
use Rattle.choices.specs.Siblings.{some_from, Some}

-- how many trees are left where the loop begins, and one turn later
pub all-left : (n : ℕ) → (n ≡ 0 → ⊥) → n - 1 + 1 ≡ n
all-left n h = omega arith

pub less-left : (n k : ℕ) → k < n → n - (k + 1) + 1 ≡ n - k + 1 - 1
less-left n k h = omega arith

pub nil-length : (t : Bytes) → eqb (length t) 0 ≡ is_nil t
unfolding is_nil
nil-length [] = refl
nil-length (b ∷ t) = ne_eqb (length (b ∷ t)) 0 (λ e. absurd (omega (arith, e)))

or-none : (r : Bool) → r ≡ (r || false)
or-none true = refl
or-none false = refl

-- ---- trees one after another

-- with any pool, what is left says what the whole says
pub record Same (deck : Bytes) (left : ℕ) (here : Cursor) (n : ℕ) (c : Cursor) : Type 0 where
  pub same : (pool : Bytes) → some_from deck pool left here ≡ some_from deck pool n c

module _ (deck : Bytes) (left : ℕ) (here : Cursor) (n : ℕ) (c : Cursor) where
  comments-there : (pool : Bytes) {r : Bool} → here.at ≤ length deck → r ≡ commented (head_at deck here).lead → has_comments (tree_at deck pool here).value ≡ r
  unfolding spot_at spot_of
  comments-there pool k e = rw (tree-value deck pool here k, e) (comments-is deck pool (spot_at deck here))

  from-here :
      (pool : Bytes) {r : Bool} → 0 < left → here.at ≤ length deck → r ≡ commented (head_at deck here).lead
      → some_from deck pool left here ≡ (r || some_from deck pool (left - 1) (tree_at deck pool here).next)
  unfolding some_from some_of
  from-here pool {r} l k e = go left l
    where
      go : (m : ℕ) → 0 < m → some_from deck pool m here ≡ (r || some_from deck pool (m - 1) (tree_at deck pool here).next)
      go zero p = absurd (omega arith)
      go (suc m) p = let z : suc m - 1 ≡ m = omega arith in rw (z, comments-there pool k e)

  pub found : {r : Bool} → 0 < left → here.at ≤ length deck → r ≡ commented (head_at deck here).lead → r ≡ true → Same deck left here n c → Some deck c n true
  found l k e f h = record { told = λ pool. sym (rw f at (from-here pool l k e)) ∙ h.same pool }

  pub passed :
      {r : Bool} {e : Cursor} → 0 < left → here.at ≤ length deck → r ≡ commented (head_at deck here).lead → r ≡ false → Ends deck here e
      → Same deck left here n c → Same deck (left - 1) e n c
  passed l k e f d h = record { same = λ pool. rw (d.tree pool) (sym (rw f at (from-here pool l k e)) ∙ h.same pool) }

  pub last : (r : Bool) → left ≡ 1 → here.at ≤ length deck → r ≡ commented (head_at deck here).lead → Same deck left here n c → Some deck c n r
  unfolding some_from some_of
  last r o k e h = let l : 0 < left = omega arith in let z : left - 1 ≡ 0 = omega arith in record { told = λ pool. or-none r ∙ sym (rw z at (from-here pool l k e)) ∙ h.same pool }

pub none : (deck : Bytes) (c : Cursor) (n : ℕ) → n ≡ 0 → Some deck c n false
unfolding some_from some_of
none deck c n z = record { told = λ pool. rw z }
