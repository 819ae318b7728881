-- How many nodes follow a record as its children, and what a record's kind says of it.
use Rattle.std.specs.Prelude.{ℕ, zero, suc, ◌+◌, ◌<◌, ◌≤◌, refl, Bool, true, not, ◌&&◌, ◌||◌, T}
use Rattle.std.proofs.Math.Path.{◌≡◌, sym, ap}
use Rattle.std.proofs.Common.{◌∙◌, subst, ⊎_elim, eq-or-lt_of_le, not-suc-le-zero, le_of_suc-le-suc, eqb→eq}
use Rattle.std.proofs.Math.Bool.{false}
use native.Mathlib.Omega.{arith}
use Rattle.std.proofs.Math.Dec.{eqb, ltb}
use borrow.Author.Tests.{ne_eqb, ltb-true, ltb-false, le-leb, lt-leb}
use Rattle.definition.specs.Base.{Bytes, when◌then◌else◌, within}
use Rattle.definition.specs.Records.{kind_at, record_of, record_at, size_of}
use Rattle.definition.specs.Deck.{is_node}
use Rattle.definition.specs.declared.Cursor.{Cursor}
use Rattle.definition.specs.declared.Record.{Record}
use Rattle.definition.specs.declared.Record.TheVariants as is

-- what holds of both sides of a test holds of the test
pub either : {A : Type 0} (P : A → Type 0) (b : Bool) {x y : A} → P x → P y → P (when b then x else y)
either P true p q = p
either P false p q = q

-- what is had of the record at a cursor, where its kind is known
pub of-kind : {A : Type 0} (f : Record → A) (deck : Bytes) (c : Cursor) (v : ℕ) {k : ℕ} → k ≡ kind_at deck c → k ≡ v → f (record_of v deck (c.at + 1)) ≡ f (record_at deck c)
unfolding record_at
of-kind f deck c v p q = rw (← p, q)

unfoldable pub twice : ℕ → ℕ
twice zero = zero
twice (suc n) = suc (suc (twice n))

unfoldable pub kids_of : Record → ℕ
kids_of (is.Tag t) = 0
kids_of (is.Anchor t) = 0
kids_of (is.Source r) = 0
kids_of (is.Head h) = 0
kids_of (is.Inline t) = 0
kids_of (is.Foot t) = 0
kids_of (is.Raw t) = 0
kids_of (is.Directive t) = 0
kids_of (is.Layout l) = 0
kids_of is.Null = 0
kids_of (is.Scalar w) = 0
kids_of (is.Alias t) = 0
kids_of (is.Sequence g) = g.count
kids_of (is.Mapping g) = twice g.count

both_left : (a b : Bool) → T (a && b) → T a
both_left true b t = tt
both_left false b t = t

both_right : (a b : Bool) → T (a && b) → T b
both_right true b t = t
both_right false b t = absurd t

-- the test passes at each number below n
abbrev below : (ℕ → Bool) → ℕ → Bool
below f zero = true
below f (suc n) = f n && below f n

-- a rule of small numbers is proved at all of them by one test that is computed
all : (f : ℕ → Bool) (n : ℕ) → T (below f n) → (k : ℕ) → k < n → T (f k)
all f zero t k h = absurd (not-suc-le-zero h)
all f (suc n) t k h =
    ⊎_elim
    (λ (e : k ≡ n). subst (λ (m : ℕ). T (f m)) (sym e) (both_left (f n) (below f n) t))
    (λ (l : k < n). all f n (both_right (f n) (below f n) t) k l)
    (eq-or-lt_of_le (le_of_suc-le-suc h))

abbrev alike : Bool → Bool → Bool
alike true b = b
alike false b = not b

alike_is : (a b : Bool) → T (alike a b) → a ≡ b
alike_is true true t = refl
alike_is true false t = absurd t
alike_is false true t = absurd t
alike_is false false t = refl

second : (x y : Bool) → x ≡ false → T (x || y) → T y
second true y p t = let z : ◌≡◌ {A = ℕ} 0 1 = cc in absurd (omega arith)
second false y p t = t

positive : (n : ℕ) → T (ltb 0 n) → 0 < n
positive n t = ltb-true 0 n (alike_is (ltb 0 n) true (go (ltb 0 n) t))
  where
    go : (b : Bool) → T b → T (alike b true)
    go true u = tt
    go false u = u

third : (x y : Bool) (n : ℕ) → x ≡ false → y ≡ false → T (x || y || eqb n 0) → n ≡ 0
third true y n p q t = let z : ◌≡◌ {A = ℕ} 0 1 = cc in absurd (omega arith)
third false true n p q t = let z : ◌≡◌ {A = ℕ} 0 1 = cc in absurd (omega arith)
third false false n p q t = eqb→eq n 0 t

module _ (deck : Bytes) (at k : ℕ) where
  -- past the last kind every record is null
  beyond : 0x24 < k → record_of k deck at ≡ is.Null
  unfolding record_of
  beyond h =
      rw (
        other 0x01 (omega arith),
        other 0x02 (omega arith),
        other 0x03 (omega arith),
        other 0x04 (omega arith),
        other 0x05 (omega arith),
        other 0x06 (omega arith),
        other 0x07 (omega arith),
        other 0x08 (omega arith),
        other 0x09 (omega arith),
        other 0x21 (omega arith),
        other 0x22 (omega arith),
        other 0x23 (omega arith),
        other 0x24 (omega arith),
      )
    where
      other : (n : ℕ) → n < k → eqb k n ≡ false
      other n l = ne_eqb k n (λ e. absurd (omega arith))

  -- a rule of the kinds up to the last, computed, and of a null
  by_kind : {P : Type 0} → (k < 0x25 → P) → (0x24 < k → P) → P
  by_kind {P} f g = go (ltb k 0x25) refl
    where
      go : (b : Bool) → ltb k 0x25 ≡ b → P
      go true e = f (ltb-true _ _ e)
      go false e = let h : 0x25 ≤ k = ltb-false _ _ e in g (omega arith)

  -- kinds 01 to 09 lead, every other is a node's own
  pub node-kind : is_node (record_of k deck at) ≡ not (within 1 9 k)
  unfolding is_node record_of within
  node-kind =
      by_kind
      (λ h. alike_is (is_node (record_of k deck at)) (not (within 1 9 k)) (all (λ n. alike (is_node (record_of n deck at)) (not (within 1 9 n))) 0x25 tt k h))
      (λ h. let l : 1 ≤ k = omega arith in let u : 9 < k = omega arith in ap is_node (beyond h) ∙ sym (rw (le-leb 1 k l, lt-leb k 9 u)))

  -- only kinds 23 and 24 have children
  pub no_kids : (k ≡ 0x23 → ⊥) → (k ≡ 0x24 → ⊥) → kids_of (record_of k deck at) ≡ 0
  unfolding record_of kids_of
  no_kids p q =
      by_kind
      (λ h. third (eqb k 0x23) (eqb k 0x24) (kids_of (record_of k deck at)) (ne_eqb k 0x23 p) (ne_eqb k 0x24 q)
      (all (λ n. eqb n 0x23 || eqb n 0x24 || eqb (kids_of (record_of n deck at)) 0) 0x25 tt k h))
      (λ h. ap kids_of (beyond h))

  -- a leading record has a kind and bytes
  pub lead-sized : is_node (record_of k deck at) ≡ false → (0 < k) × (0 < size_of k)
  unfolding is_node record_of size_of
  lead-sized e =
      by_kind
      (λ h. let t = second (is_node (record_of k deck at)) (ltb 0 k && ltb 0 (size_of k)) e (all (λ n. is_node (record_of n deck at) || (ltb 0 n && ltb 0 (size_of n))) 0x25 tt k h) in
      (positive k (both_left (ltb 0 k) (ltb 0 (size_of k)) t), positive (size_of k) (both_right (ltb 0 k) (ltb 0 (size_of k)) t)))
      (λ h. let f : is_node is.Null ≡ false = rw (beyond h) at e in let z : ◌≡◌ {A = ℕ} 0 1 = cc in absurd (omega arith))
