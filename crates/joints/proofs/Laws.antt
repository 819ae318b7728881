-- Laws of what stands between entries.
-- Assumes nothing.
use mathlib.Core.Path.{◌≡◌, refl}
use Rattle.std.proofs.Common.{◌⊎◌, inl, inr}
use Prim.Native.Nat.{ℕ, ◌≤◌}
use native.Mathlib.Omega.{arith}
use mathlib.Core.Bool.{Bool, true, false}
use lib.ListN.{length}
use Rattle.definition.specs.Base.{Bytes, spaces}
use Rattle.definition.specs.Ascii.{SP, ':'}
use Rattle.definition.specs.Tree.{Kept, Kind, kept}
use Rattle.definition.specs.Pen.{Script, mark, space, sign, indent, end_line}
use Rattle.definition.specs.Walk.{colon}
use Rattle.definition.specs.declared.Cursor.{Cursor}
use Rattle.node.specs.declared.Lead.{Lead}
use Rattle.node.specs.Ends.{Ends}
use Rattle.node.specs.Total.{kept_of}
use Rattle.pen.specs.Pen.{Pen, put1, puts}
use Rattle.pen.specs.Draws.{Draws, both, stays, of-puts, of-byte}
use Rattle.comments.specs.declared.Entries.TheVariants.{Heads}
use Rattle.comments.specs.Runs.{Short, repeated}
use Rattle.spot.specs.declared.Body.{Body}
use Rattle.spot.specs.declared.Body.TheVariants as body
use Rattle.spot.specs.declared.Spot.{Spot}
use Rattle.definition.specs.declared.Text.{Text}
use Rattle.spot.specs.Spot.{kind_of, spot_at, node_in, tree-value}
use Rattle.spot.specs.Good.{good-at}
use Rattle.joints.specs.declared.Manner.{Manner}
use Rattle.joints.specs.declared.Manner.TheVariants.{Entry, Value, Below, Key, Asked}
use Rattle.joints.specs.Line.{dressed, ending}
use Rattle.joints.specs.Entries.{last_of, key_heads, lined_before}
use Rattle.joints.specs.Told.{Colon, LastOf}

pub last-value : (deck : Bytes) (pairs : Bool) (c r : Cursor) → pairs ≡ true → Ends deck c r → LastOf deck pairs c r
unfolding last_of
last-value deck pairs c r e h = record { is = λ pool. rw e (h.tree pool); onward = h.onward; within = h.within }

pub last-item : (deck : Bytes) (pairs : Bool) (c : Cursor) → pairs ≡ false → c.at ≤ length deck → LastOf deck pairs c c
unfolding last_of
last-item deck pairs c e h = record { is = λ pool. rw e; onward = omega arith; within = h }

-- ---- how a node stands on its line

pub dressed-so : (m : Manner) (a : Script) → (m ≡ Below → ⊥) → dressed m a ≡ a
unfolding dressed
dressed-so Entry a h = refl
dressed-so Value a h = refl
dressed-so Below a h = absurd (h refl)
dressed-so Key a h = refl
dressed-so Asked a h = refl

pub ending-line : (m : Manner) (p : ℕ) (a : Kept) (k : Kind) → (m ≡ Below) ⊎ (m ≡ Asked) → ending m p a k ≡ end_line
unfolding ending
ending-line m p a k (inl e) = rw e
ending-line m p a k (inr e) = rw e

-- ---- the colon

pub colon-alias : (b : Body) (t : Text) (P Q R : Pen) → b ≡ body.Alias t → Q ≡ put1 P SP → R ≡ put1 Q ':' → Colon b P R
unfolding colon kind_of sign
colon-alias b t P Q R e d f = rw e (record { drawn = λ deck pool c. both _ _ (of-byte mark SP d) (of-byte mark ':' f) })

pub colon-other : (b : Body) (P Q : Pen) → ((t : Text) → b ≡ body.Alias t → ⊥) → Q ≡ put1 P ':' → Colon b P Q
unfolding colon kind_of sign
colon-other body.Null P Q h d = record { drawn = λ deck pool c. of-byte mark ':' d }
colon-other (body.Scalar w) P Q h d = record { drawn = λ deck pool c. of-byte mark ':' d }
colon-other (body.Alias t) P Q h d = absurd (h t refl)
colon-other (body.Sequence g) P Q h d = record { drawn = λ deck pool c. of-byte mark ':' d }
colon-other (body.Mapping g) P Q h d = record { drawn = λ deck pool c. of-byte mark ':' d }

-- ---- head comments

pub spot-short : (deck : Bytes) (c : Cursor) (x : Spot) → c.at ≤ length deck → length deck ≤ 65536 → x ≡ spot_at deck c → Short x.lead
spot-short deck c x k b e = rw e (good-at deck c k b).0.short

pub key-heads :
    (deck pool : Bytes) (i : ℕ) (pairs : Bool) (c : Cursor) (x : Spot) {P Q : Pen} → pairs ≡ true → c.at ≤ length deck → x ≡ spot_at deck c
    → Draws (repeated Heads (kept_of deck pool x.lead) i) P Q → Draws (key_heads deck pool i pairs c) P Q
unfolding key_heads repeated kept node_in
key-heads deck pool i pairs c x t k e d = rw (t, tree-value deck pool c k, ← e) d

pub no-key-heads : (deck pool : Bytes) (i : ℕ) (pairs : Bool) (c : Cursor) {P : Pen} → pairs ≡ false → Draws (key_heads deck pool i pairs c) P P
unfolding key_heads
no-key-heads deck pool i pairs c t = rw t stays

pub before-entry :
    (deck pool : Bytes) (i : ℕ) (pairs : Bool) (c : Cursor) (l : Lead) {P Q R S : Pen} → Draws (key_heads deck pool i pairs c) P Q
    → Draws (repeated Heads (kept_of deck pool l) i) Q R → S ≡ puts (spaces i) R → Draws (lined_before deck pool i pairs c (kept_of deck pool l)) P S
unfolding lined_before repeated indent
before-entry deck pool i pairs c l x y z = both _ _ x (both _ _ y (of-puts space _ z))
