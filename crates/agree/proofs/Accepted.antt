-- What a good verdict brings: the definition's reader gives the trees of the total decoder, as many as the verdict says.
use Rattle.std.specs.Prelude.{◌≡◌, refl, ℕ, zero, suc, Bool, true, false, List, [], ◌∷◌, length, leb}
use Rattle.std.proofs.Common.{arith}
use Rattle.definition.specs.Base.{Bytes, when◌then◌else◌}
use Rattle.definition.specs.Tree.{Node}
use Rattle.definition.specs.Deck.{Read, fault, got, read_deck}
use Rattle.definition.specs.declared.Cursor.{Cursor}
use Rattle.node.specs.Total.{tree_at, trees_from, trees_of}
use Rattle.judge.specs.Judge.{Good, Rejected, verdict_of}
use Rattle.agree.proofs.Agree.{agree-deck}
use Rattle.agree.specs.Accepted.{Accepted}

pub accepted : (deck pool : Bytes) (n : ℕ) → verdict_of (read_deck deck pool) ≡ Good n → Accepted deck pool n
unfolding verdict_of
accepted deck pool n e = go (read_deck deck pool) refl e
  where
    go : (r : Read (List Node)) → read_deck deck pool ≡ r → verdict_of r ≡ Good n → Accepted deck pool n
    go (fault k p) q e = cc
    go (got ts j) q e =
        let s : trees_of deck pool ≡ ts = agree-deck deck pool ts j q in
        record { end = j; read = rw s q; count = rw s (let u : length ts ≡ n = cc in u) }

-- and a refusal is the definition's own
pub refused : (deck pool : Bytes) (k p : ℕ) → verdict_of (read_deck deck pool) ≡ Rejected k p → read_deck deck pool ≡ fault k p
unfolding verdict_of
refused deck pool k p e = go (read_deck deck pool) e
  where
    go : (r : Read (List Node)) → verdict_of r ≡ Rejected k p → r ≡ fault k p
    go (fault a b) e = let u : a ≡ k = cc in let v : b ≡ p = cc in rw (u, v)
    go (got ts j) e = cc

-- ---- one document

one : (b : Bool) (x : Node) (xs : List Node) → length (when b then [] else x ∷ xs) ≡ 1 → (when b then [] else x ∷ xs) ≡ x ∷ []
one true x xs e = absurd (omega arith)
one false x [] e = refl
one false x (y ∷ xs) e = absurd (omega arith)

one_from : (deck pool : Bytes) (n : ℕ) (c : Cursor) → length (trees_from deck pool n c) ≡ 1 → trees_from deck pool n c ≡ (tree_at deck pool c).value ∷ []
unfolding trees_from
one_from deck pool zero c e = absurd (omega arith)
one_from deck pool (suc n) c e = one (leb (length deck) c.at) (tree_at deck pool c).value (trees_from deck pool n (tree_at deck pool c).next) e

-- where the verdict is one document, it is the tree at the deck's beginning
pub one-tree : (deck pool : Bytes) → length (trees_of deck pool) ≡ 1 → trees_of deck pool ≡ (tree_at deck pool (record { at = 0 })).value ∷ []
unfolding trees_of
one-tree deck pool e = one_from deck pool (length deck) (record { at = 0 }) e
