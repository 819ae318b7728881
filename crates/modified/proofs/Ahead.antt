-- A node that has an include has bytes of its own before its children.
-- Assumes nothing.
use mathlib.Core.Path.{◌≡◌, refl}
use Prim.Native.Nat.{◌<◌}
use mathlib.Core.Bool.{Bool, true, false, false≢true}
use lib.ListN.{length}
use Rattle.definition.specs.Base.{Bytes}
use Rattle.definition.specs.Records.{record_at}
use Rattle.definition.specs.Deck.{is_node}
use Rattle.definition.specs.declared.Cursor.{Cursor}
use Rattle.node.specs.Head.{there, no_lead, headed, head_at}
use Rattle.node.specs.Fuel.{head-own, own-further}
use Rattle.spot.specs.Spot.{spot_of, spot_at}

module _ (deck : Bytes) where
  none-included : there no_lead.origin ≡ true → ⊥
  none-included e = false≢true e

  pub include-ahead : (c : Cursor) → there (spot_at deck c).lead.origin ≡ true → c.at < (spot_at deck c).place
  unfolding spot_at spot_of head_at headed
  include-ahead c e = go (is_node (record_at deck c)) refl
    where
      go : (b : Bool) → is_node (record_at deck c) ≡ b → c.at < (head_at deck c).place.at
      go true f = absurd (none-included (rw (head-own deck (length deck) no_lead c f) at e))
      go false f = own-further deck c f
