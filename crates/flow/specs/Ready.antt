-- What a function of the emitter asks for, and what it does.
use Rattle.std.specs.Prelude.{◌≡◌, ℕ, ◌+◌, ◌-◌, ◌*◌, ◌<◌, ◌≤◌, Bool, true, false, length, eqb}
use Rattle.std.proofs.Common.{ap, ◌∙◌, arith}
use Rattle.definition.specs.Base.{Bytes, when◌then◌else◌}
use Rattle.definition.specs.Settings.{step_of}
use Rattle.definition.specs.Tree.{Node}
use Rattle.definition.specs.Pen.{Script}
use Rattle.definition.specs.declared.Cursor.{Cursor}
use Rattle.definition.specs.declared.Settings.{Settings}
use Rattle.pen.specs.Pen.{Pen, ink, with_flow, with_key}
use Rattle.scripts.specs.Keep.{length-of, ink-length, ink-flow}
use Rattle.pen.specs.Draws.{Draws}
use Rattle.spot.specs.declared.Spot.{Spot}
use Rattle.spot.specs.Spot.{end_in, node_in, spot_at, tree-value, tree-end}
use Rattle.spot.specs.Good.{spot-good}
use Rattle.joints.specs.Entries.{node_at, next_at}

-- deck, pool and output are within their limits; from this place of the deck on, neither the indent nor the depth of flow collections can grow too
-- large, since each level is further on in the deck
pub record Ready (s : Settings) (deck pool : Bytes) (P : Pen) (at i : ℕ) : Type 0 where
  pub deck-small : length deck ≤ 65536
  pub pool-small : length pool ≤ 65536
  pub out-small : length P.out ≤ 1048576
  pub step : s.indent ≤ 16
  pub here : at ≤ length deck
  pub indent : i + 16 * (length deck - at) ≤ 4294967296
  pub flow : P.w.flow + (length deck - at) ≤ 131072

-- the script is drawn, and the cursor after it is handed back: no earlier than where it began, and in the deck
pub record Emits (s : Settings) (a : Script) (P P' : Pen) (start : ℕ) (after after' : Cursor) (limit : ℕ) : Type 0 where
  pub drawn : P' ≡ ink s a P
  pub next : after' ≡ after
  pub onward : start ≤ after'.at
  pub within : after'.at ≤ limit

-- the slice stays as long as it was
pub kept-length : (s : Settings) {a : Script} {P Q : Pen} {n : ℕ} {c r : Cursor} {l : ℕ} → Emits s a P Q n c r l → length Q.out ≡ length P.out
kept-length s {a} {P} {Q} e = length-of s a P Q e.drawn

pub step_small : (s : Settings) → s.indent ≤ 16 → step_of s ≤ 16
unfolding step_of
step_small s h = go (eqb s.indent 0)
  where
    go : (b : Bool) → (when b then 2 else s.indent) ≤ 16
    go true = omega arith
    go false = h

module _ {s : Settings} {deck pool : Bytes} where
  -- after a script
  pub after : {P : Pen} {at i : ℕ} → Ready s deck pool P at i → (t : Settings) (a : Script) (Q : Pen) → Q ≡ ink t a P → Ready s deck pool Q at i
  after {P} {at} {i} r t a Q e =
      record {
        deck-small = r.deck-small;
        pool-small = r.pool-small;
        out-small = rw (ap (λ (x : Pen). length x.out) e, ink-length t a P) r.out-small;
        step = r.step;
        here = r.here;
        indent = r.indent;
        flow = rw (ap (λ (x : Pen). x.w.flow) e, ink-flow t a P) r.flow;
      }

  pub after-drawn : {P Q : Pen} {at i : ℕ} {a : Script} → Ready s deck pool P at i → Draws a P Q → Ready s deck pool Q at i
  after-drawn {a = a} r d = after r s a _ (d.drawn s)

  -- further on, at a smaller or the same indent
  pub further : {P : Pen} {at i : ℕ} → Ready s deck pool P at i → (to : ℕ) → at ≤ to → to ≤ length deck → Ready s deck pool P to i
  further r to h l =
      record {
        deck-small = r.deck-small;
        pool-small = r.pool-small;
        out-small = r.out-small;
        step = r.step;
        here = l;
        indent = let x = r.indent in omega arith;
        flow = let x = r.flow in omega arith;
      }

  -- past a collection's record: one step in, and one flow collection more
  pub inside : {P : Pen} {at i : ℕ} → Ready s deck pool P at i → (to : ℕ) → at < to → to ≤ length deck → Ready s deck pool (with_flow (P.w.flow + 1) P) to (i + step_of s)
  unfolding with_flow
  inside {P} r to h l =
      record {
        deck-small = r.deck-small;
        pool-small = r.pool-small;
        out-small = r.out-small;
        step = r.step;
        here = l;
        indent = let x = r.indent in let y = step_small s r.step in omega arith;
        flow = let x = r.flow in omega arith;
      }

  -- at an indent that is no larger
  pub left-of : {P : Pen} {at i : ℕ} → Ready s deck pool P at i → (j : ℕ) → j ≤ i → Ready s deck pool P at j
  left-of r j h =
      record {
        deck-small = r.deck-small;
        pool-small = r.pool-small;
        out-small = r.out-small;
        step = r.step;
        here = r.here;
        indent = let x = r.indent in omega arith;
        flow = r.flow;
      }

  -- with another key mark
  pub keyed : {P : Pen} {at i : ℕ} → Ready s deck pool P at i → (n : ℕ) → Ready s deck pool (with_key n P) at i
  unfolding with_key
  keyed {P} r n =
      record {
        deck-small = r.deck-small;
        pool-small = r.pool-small;
        out-small = r.out-small;
        step = r.step;
        here = r.here;
        indent = r.indent;
        flow = r.flow;
      }

-- from the node that was read to the tree at its cursor: from one place to the other, and the script too
module _ (s : Settings) (deck pool : Bytes) (c r : Cursor) (x : Spot) where
  pub at_place :
      (a : Script) {P Q : Pen} → c.at ≤ length deck → length deck ≤ 65536 → x ≡ spot_at deck c
      → Emits s a P Q x.place (end_in deck pool x) r (length deck) → Emits s a P Q c.at (next_at deck pool c) r (length deck)
  at_place a h b e m =
      let g = spot-good deck c x h b e in
      let o = m.onward in
      record {
        drawn = m.drawn;
        next = m.next ∙ rw (tree-end deck pool c h, ← e);
        onward = omega (arith, o, g.1);
        within = m.within;
      }

  pub at-cursor :
      (f : Node → Script) {P Q : Pen} → c.at ≤ length deck → length deck ≤ 65536 → x ≡ spot_at deck c
      → Emits s (f (node_in deck pool x)) P Q x.place (end_in deck pool x) r (length deck) → Emits s (f (node_at deck pool c)) P Q c.at (next_at deck pool c) r (length deck)
  at-cursor f h b e m = rw (tree-value deck pool c h, ← e) (at_place (f (node_in deck pool x)) h b e m)
