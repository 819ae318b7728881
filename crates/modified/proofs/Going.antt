-- Nodes that stand one after another, passed one by one.
-- Assumes nothing.
use mathlib.Core.Path.{◌≡◌}
use Prim.Native.Nat.{ℕ, suc, ◌+◌, ◌-◌, ◌<◌, ◌≤◌}
use native.Mathlib.Omega.{arith}
use lib.ListN.{length}
use Rattle.definition.specs.Base.{Bytes}
use Rattle.definition.specs.declared.Cursor.{Cursor}
use Rattle.node.specs.Fuel.{nexts}
use Rattle.node.specs.Total.{tree_at}

-- n - i nodes are n - (i + 1) and one more, and after the last one none
pub one-more : (n i : ℕ) → i < n → n - i ≡ suc (n - (i + 1))
one-more n i h = omega arith

pub no-more : (n i : ℕ) → n ≤ i → n - i ≡ 0
no-more n i h = omega arith

-- of n nodes from c on, i are passed, and the others stand from here on; with any pool they end where all end
pub record Going (deck : Bytes) (n : ℕ) (c : Cursor) (i : ℕ) (here : Cursor) : Type 0 where
  pub ends : (pool : Bytes) → nexts (λ d. (tree_at deck pool d).next) (n - i) here ≡ nexts (λ d. (tree_at deck pool d).next) n c
  pub onward : c.at ≤ here.at
  pub within : here.at ≤ length deck

module _ (deck : Bytes) (n : ℕ) (c : Cursor) (i : ℕ) (here : Cursor) (g : Going deck n c i here) where
  pub going_on : {e : Cursor} → i < n → ((pool : Bytes) → e ≡ (tree_at deck pool here).next) → here.at ≤ e.at → e.at ≤ length deck → Going deck n c (i + 1) e
  unfolding nexts
  going_on h t o w =
      record {
        ends = λ pool. rw (t pool) (rw (one-more n i h) at (g.ends pool));
        onward = (let p = g.onward in omega arith);
        within = w;
      }

  pub going_end : (pool : Bytes) → n ≤ i → here ≡ nexts (λ d. (tree_at deck pool d).next) n c
  unfolding nexts
  going_end pool h = rw (no-more n i h) at (g.ends pool)
