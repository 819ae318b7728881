-- What small functions say of nodes, whatever the pool holds.
use Rattle.std.specs.Prelude.{◌≡◌, ◌≤◌, Bool, length}
use Rattle.definition.specs.Base.{Bytes}
use Rattle.definition.specs.Walk.{colon}
use Rattle.definition.specs.declared.Cursor.{Cursor}
use Rattle.pen.specs.Pen.{Pen}
use Rattle.pen.specs.Draws.{Draws}
use Rattle.spot.specs.declared.Body.{Body}
use Rattle.spot.specs.Spot.{kind_of}
use Rattle.joints.specs.Entries.{last_of}

-- the colon after a key
pub record Colon (b : Body) (P P' : Pen) : Type 0 where
  pub drawn : (deck pool : Bytes) (c : Cursor) → Draws (colon (kind_of deck pool b c)) P P'

-- the cursor of an entry's last node
pub record LastOf (deck : Bytes) (pairs : Bool) (c r : Cursor) : Type 0 where
  pub is : (pool : Bytes) → r ≡ last_of deck pool pairs c
  pub onward : c.at ≤ r.at
  pub within : r.at ≤ length deck
