-- Block scalars, a turn at a time: the lines, the line breaks at the end, the header and the body from their parts.
use Prim.Native.Nat.{ℕ, zero, suc, ◌+◌, ◌-◌, ◌≤◌, ◌<◌}
use native.Mathlib.Omega.{arith}
use native.Mathlib.Numerals.{add-one}
use mathlib.Core.Path.{◌≡◌, refl, sym, ap, ◌∙◌}
use mathlib.Core.Bool.{Bool, true, false, cond}
use mathlib.Core.List.{[], ◌∷◌, ◌++◌}
use mathlib.Core.Logic.{◌⊎◌, inl, inr}
use lib.ListN.{length, get_or, drop, take, replicate, length-replicate}
use lib.Seq.{drop-cons}
use lib.Dec.{eqb}
use borrow.Author.Tests.{eqb-true, eq-eqb, ne_eqb}
use Rattle.std.specs.Prelude.{reverse}
use Rattle.std.specs.List.{prefix_len}
use Rattle.std.proofs.lemmas.List.{reverse-append, length-reverse}
use Rattle.std.proofs.lemmas.List.Folds.{prefix_len-append}
use Rattle.pen.specs.Pen.{Pen, put1, puts, puts-append, and_then}
use Rattle.pen.specs.Runs.{Run, parted, run_length}
use Rattle.laws.specs.Tests.{Every, more}
use Rattle.definition.specs.Base.{Bytes, when◌then◌else◌, spaces}
use Rattle.definition.specs.Ascii.{LF}
use Rattle.definition.specs.Block.{all_breaks, trailing, trimmed, chomping, indented, beyond, block_header, block_body}
use Rattle.laws.specs.Trim.{trimmed-take, trailing_le, breaks-all, nothing_left, something-left}

-- ---- the lines

-- what holds of a byte and the text after it holds at a place of a text
along : (F : Bytes → ℕ → Bytes → Type 0) (s : Bytes) (i : ℕ) → i < length s → ((a : ℕ) (t : Bytes) → F (a ∷ t) a t) → F (drop i s) (get_or s i 0) (drop (i + 1) s)
along F s i h k = rw (add-one, drop-cons s i 0 h) (k (get_or s i 0) (drop (suc i) s))

module _ (n : ℕ) (s : Bytes) (i : ℕ) (h : i < length s) where
  pub line-broken : (fresh : Bool) (P P₁ : Pen) → get_or s i 0 ≡ 10 → P₁ ≡ put1 P 10 → puts (indented n true (drop (i + 1) s)) P₁ ≡ puts (indented n fresh (drop i s)) P
  unfolding indented puts
  line-broken fresh P P₁ e w =
      rw w (along (λ x a t. a ≡ 10 → puts (indented n true t) (put1 P 10) ≡ puts (indented n fresh x) P) s i h (λ a t e. rw (eq-eqb a 10 e)) e)

-- bytes without a line break
line-own : (n : ℕ) (fresh : Bool) (x y : Bytes) → Every (λ a. (a ≡ 10 → ⊥)) x → 0 < length x → indented n fresh (x ++ y) ≡ (when fresh then spaces n else []) ++ (x ++ indented n false y)
unfolding indented
line-own n fresh [] y ps h = absurd (omega arith)
line-own n fresh (a ∷ []) y (more p ps) h = rw (ne_eqb a 10 p)
line-own n fresh (a ∷ b ∷ x) y (more p ps) h = rw (ne_eqb a 10 p, line-own n false (b ∷ x) y ps (omega arith))

module _ (n : ℕ) (s : Bytes) (i j : ℕ) (r : Run (λ a. (a ≡ 10 → ⊥)) s i j) (h : i < j) where
  line-run : (fresh : Bool) → indented n fresh (drop i s) ≡ (when fresh then spaces n else []) ++ (take (j - i) (drop i s) ++ indented n false (drop j s))
  line-run fresh =
      ap (indented n fresh) (parted s i j r.on)
      ∙ line-own n fresh (take (j - i) (drop i s)) (drop j s) r.each (rw (run_length (λ a. (a ≡ 10 → ⊥)) s i j r) (omega arith))

  pub line-begun : (fresh : Bool) (P P₁ P₂ : Pen) → fresh ≡ true → P₁ ≡ puts (spaces n) P → P₂ ≡ puts (take (j - i) (drop i s)) P₁
      → puts (indented n false (drop j s)) P₂ ≡ puts (indented n fresh (drop i s)) P
  line-begun fresh P P₁ P₂ g w v =
      rw (v, w, g, line-run true) (sym (puts-append (spaces n) _ P ∙ puts-append (take (j - i) (drop i s)) _ (puts (spaces n) P)))

  pub line_on : (fresh : Bool) (P P₁ : Pen) → fresh ≡ false → P₁ ≡ puts (take (j - i) (drop i s)) P
      → puts (indented n false (drop j s)) P₁ ≡ puts (indented n fresh (drop i s)) P
  line_on fresh P P₁ g v = rw (v, g, line-run false) (sym (puts-append (take (j - i) (drop i s)) _ P))

-- ---- the line breaks at the end, counted backward

all-trailing : (s : Bytes) → all_breaks s ≡ eqb (trailing s) (length s)
unfolding trailing all_breaks
all-trailing [] = refl
all-trailing (b ∷ s) = go (all_breaks (b ∷ s)) refl
  where
    go : (k : Bool) → all_breaks (b ∷ s) ≡ k → k ≡ eqb (when k then suc (trailing s) else trailing s) (suc (length s))
    go true e =
        let h : trailing (b ∷ s) ≡ suc (trailing s) = rw e in
        let l = ap length (breaks-all (b ∷ s) e) in
        sym (eq-eqb (suc (trailing s)) (suc (length s)) (omega (arith, h, l, length-replicate (trailing (b ∷ s)) LF)))
    go false e = sym (ne_eqb (trailing s) (suc (length s)) (λ q. let h = trailing_le s in omega (arith, q, h)))

pub counted : (s : Bytes) → prefix_len (λ b. eqb b 10) (reverse s) ≡ trailing s
unfolding trailing all_breaks
counted [] = refl
counted (b ∷ s) =
    let r : reverse (b ∷ s) ≡ reverse s ++ (b ∷ []) = reverse-append (b ∷ []) s in
    rw (r, prefix_len-append (λ b. eqb b 10) (reverse s) (b ∷ []), counted s, length-reverse s, ← all-trailing s) (go (eqb b LF) (all_breaks s) refl)
  where
    go : (j k : Bool) → all_breaks s ≡ k → cond k (length s + cond j 1 0) (trailing s) ≡ (when (when j then k else false) then suc (trailing s) else trailing s)
    go true true e = let h = eqb-true (trailing s) (length s) (sym (all-trailing s) ∙ e) in omega (arith, h)
    go false true e = let h = eqb-true (trailing s) (length s) (sym (all-trailing s) ∙ e) in omega (arith, h)
    go true false e = refl
    go false false e = refl

many : (t : ℕ) → 1 < t → (x : Bytes) → chomping t x ≡ 43 ∷ []
unfolding chomping
many zero h x = absurd (omega arith)
many (suc zero) h x = absurd (omega arith)
many (suc (suc t)) h x = refl

module _ (marker : ℕ) (s : Bytes) (t : ℕ) (e : t ≡ trailing s) where
  pub header-strip : t ≡ 0 → block_header marker s ≡ marker ∷ 45 ∷ []
  unfolding block_header chomping
  header-strip h = rw (← e, h)

  pub header-keep : (t ≡ 0 → ⊥) → ((1 < t) ⊎ ((t ≤ 1) × (t ≡ length s))) → block_header marker s ≡ marker ∷ 43 ∷ []
  unfolding block_header chomping
  header-keep n (inl h) = rw (← e, many t h (trimmed s))
  header-keep n (inr l) = let o : t ≡ 1 = omega (arith, n, l) in rw (← e, o, nothing_left s (sym e ∙ l.1))

  pub header-clip : (t ≡ 0 → ⊥) → t ≤ 1 → (t ≡ length s → ⊥) → block_header marker s ≡ marker ∷ []
  unfolding block_header chomping
  header-clip n h l = let o : t ≡ 1 = omega arith in rw (← e, o, something-left s (λ (q : trailing s ≡ length s). l (e ∙ q)))

beyond-is : (t : ℕ) → beyond t ≡ replicate (t - 1) 10
unfolding beyond
beyond-is zero = refl
beyond-is (suc k) = let z : suc k - 1 ≡ k = omega arith in ap (λ (m : ℕ). replicate m 10) (sym z)

pub body_of : (n : ℕ) (s : Bytes) (t k : ℕ) (P P₁ P₂ P₃ : Pen) → t ≡ trailing s → P₁ ≡ put1 P 10 → P₂ ≡ puts (indented n true (take k s)) P₁ → k ≡ length s - t → P₃ ≡ puts (replicate (t - 1) 10) P₂ → P₃ ≡ puts (block_body n s) P
unfolding block_body puts
body_of n s t k P P₁ P₂ P₃ e a b g c =
    let l : take k s ≡ trimmed s = rw (g, e) (trimmed-take s) in
    and_then P (10 ∷ []) (indented n true (trimmed s) ++ beyond (trailing s)) a
    (and_then P₁ (indented n true (trimmed s)) (beyond (trailing s)) (rw l at b) (rw (← e, beyond-is t) c))
