-- Whether some of the trees that stand one after another have comments.
use Rattle.std.specs.Prelude.{ℕ, zero, suc, ◌≡◌, refl, Bool, true, false, ◌||◌}
use Rattle.definition.specs.Base.{Bytes}
use Rattle.definition.specs.Walk.{has_comments, any_comments, any_comments_in}
use Rattle.definition.specs.declared.Cursor.{Cursor}
use Rattle.deck.specs.Kids.{twice}
use Rattle.node.specs.Total.{items_from, pairs_from, tree_at}
use Rattle.node.specs.Loud.{some_of}

-- some of n trees
unfoldable pub some_from : Bytes → Bytes → ℕ → Cursor → Bool
some_from deck pool n c = some_of has_comments (tree_at deck pool) n c

-- with any pool: some of n trees
pub record Some (deck : Bytes) (c : Cursor) (n : ℕ) (r : Bool) : Type 0 where
  pub told : (pool : Bytes) → r ≡ some_from deck pool n c

pub some-items : (deck pool : Bytes) (n : ℕ) (c : Cursor) → some_from deck pool n c ≡ any_comments (items_from (tree_at deck pool) n c).value
unfolding some_from some_of any_comments items_from
some-items deck pool zero c = refl
some-items deck pool (suc n) c = rw (some-items deck pool n (tree_at deck pool c).next)

pub some_pairs : (deck pool : Bytes) (n : ℕ) (c : Cursor) → some_from deck pool (twice n) c ≡ any_comments_in (pairs_from (tree_at deck pool) n c).value
unfolding some_from some_of any_comments_in pairs_from twice
some_pairs deck pool zero c = refl
some_pairs deck pool (suc n) c =
    let d = (tree_at deck pool c).next in
    rw (some_pairs deck pool n (tree_at deck pool d).next) (regroup (has_comments (tree_at deck pool c).value) _ _)
  where
    regroup : (x y z : Bool) → (x || (y || z)) ≡ ((x || y) || z)
    regroup true y z = refl
    regroup false y z = refl
