-- Where a function is told that there are no comments, at any depth, so that it need not look.
use Rattle.std.specs.Prelude.{◌≡◌, ℕ, Bool, true, false, not, ◌||◌}
use Rattle.std.proofs.lemmas.Bool.{false≢true}
use Rattle.definition.specs.Base.{Bytes}
use Rattle.definition.specs.declared.Cursor.{Cursor}
use Rattle.deck.specs.Kids.{twice}
use Rattle.node.specs.Loud.{loud_kind, loud_from}
use Rattle.spot.specs.declared.Spot.{Spot}
use Rattle.spot.specs.Spot.{kind_in}
use Rattle.joints.specs.Entries.{some_comments}

-- how many trees n entries are
unfoldable pub trees_in : Bool → ℕ → ℕ
trees_in true n = twice n
trees_in false n = n

-- n trees have none, where that is told
pub record Hushed (deck pool : Bytes) (still : Bool) (n : ℕ) (c : Cursor) : Type 0 where
  pub told : still ≡ true → loud_from deck pool n c ≡ false

-- what is below a node has none, where that is told
pub record HushedIn (deck pool : Bytes) (still : Bool) (x : Spot) : Type 0 where
  pub told : still ≡ true → loud_kind (kind_in deck pool x) ≡ false

-- n trees are told or found to have none, whatever the pool holds
pub record Quiet (deck : Bytes) (still : Bool) (n : ℕ) (c : Cursor) (r : Bool) : Type 0 where
  pub told : (pool : Bytes) → r ≡ (still || not (loud_from deck pool n c))

-- whether some entries have comments, where what is told of them is true
pub record Lined (deck : Bytes) (quiet pairs : Bool) (n : ℕ) (c : Cursor) (r : Bool) : Type 0 where
  pub told : (pool : Bytes) → Hushed deck pool quiet (trees_in pairs n) c → r ≡ some_comments deck pool pairs n c

-- where nothing is told, nothing is asked
pub untold : (deck pool : Bytes) (n : ℕ) (c : Cursor) → Hushed deck pool false n c
untold deck pool n c = record { told = λ e. absurd (false≢true e) }

pub untold-in : (deck pool : Bytes) (x : Spot) → HushedIn deck pool false x
untold-in deck pool x = record { told = λ e. absurd (false≢true e) }
