-- Measuring ahead and folding, a turn at a time.
use Prim.Native.Nat.{ℕ, zero, suc, ◌+◌, ◌-◌, ◌≤◌, ◌<◌}
use native.Mathlib.Omega.{arith}
use native.Mathlib.Numerals.{add-one}
use mathlib.Core.Path.{◌≡◌, refl, sym, ap, ◌∙◌}
use mathlib.Core.Bool.{Bool, true, false}
use mathlib.Core.List.{[], ◌∷◌, ◌++◌}
use lib.ListN.{length, get_or, drop, take, drop_of_length-le}
use lib.Seq.{drop-cons, drop-drop}
use lib.Dec.{eqb}
use borrow.Author.Tests.{ne_eqb, lt-ltb, le-ltb}
use Rattle.pen.specs.Pen.{Pen, puts, put1, puts-append}
use Rattle.pen.specs.Runs.{Run, parted, run_length}
use Rattle.definition.specs.Base.{Bytes, spaces}
use Rattle.definition.specs.Fold.{Folding, size, breakable, breakable_in}
use Rattle.laws.specs.Tests.{Every, more}
use Rattle.laws.specs.Pieces.{Quote}
use Rattle.laws.specs.Folded.{ahead_of, folded_of, no-break}
use Rattle.pieces.specs.Piece.{spell, beside, Stands, Own}
use Rattle.quoted.specs.Turns.{folding}
use Rattle.pieces.specs.declared.Piece.{Piece}
use Rattle.quoted.specs.declared.Fold.{Fold}

-- what holds of a byte and the text after it holds at a place of a text
along : (F : Bytes → ℕ → Bytes → Type 0) (s : Bytes) (i : ℕ) → i < length s → ((a : ℕ) (t : Bytes) → F (a ∷ t) a t) → F (drop i s) (get_or s i 0) (drop (i + 1) s)
along F s i h k = rw (add-one, drop-cons s i 0 h) (k (get_or s i 0) (drop (suc i) s))

-- bytes that were spoken for are passed over
ahead-skip : (q : Quote) (k : ℕ) (after : Bool) (s : Bytes) → ahead_of q (λ b. 1) k after s ≡ ahead_of q (λ b. 1) 0 after (drop k s)
unfolding ahead_of
ahead-skip q zero after s = refl
ahead-skip q (suc k) after [] = refl
ahead-skip q (suc k) after (a ∷ s) = ahead-skip q k after s

fold-skip : (q : Quote) (f : Folding) (k : ℕ) (after : Bool) (col : ℕ) (s : Bytes) → folded_of q f k after col s ≡ folded_of q f 0 after col (drop k s)
unfolding folded_of
fold-skip q f zero after col s = refl
fold-skip q f (suc k) after col [] = refl
fold-skip q f (suc k) after col (a ∷ s) = fold-skip q f k after col s

-- ---- bytes that are written as they are, no space among them

ahead_own : (q : Quote) (after : Bool) (x y : Bytes) → Every (Own q 32) x → 0 < length x → ahead_of q (λ b. 1) 0 after (x ++ y) ≡ length x + ahead_of q (λ b. 1) 0 false y
unfolding ahead_of size
ahead_own q after [] y ps h = absurd (omega arith)
ahead_own q after (a ∷ []) y (more p ps) h = let e = ne_eqb a 32 p.other in rw (no-break after a y e, p.itself, p.alone, e)
ahead_own q after (a ∷ b ∷ x) y (more p ps) h =
    let e = ne_eqb a 32 p.other in
    rw (no-break after a ((b ∷ x) ++ y) e, p.itself, p.alone, e, ahead_own q false (b ∷ x) y ps (omega arith)) (omega arith)

fold-own : (q : Quote) (f : Fold) (after : Bool) (col : ℕ) (x y : Bytes) → Every (Own q 32) x → 0 < length x
    → folded_of q (folding f) 0 after col (x ++ y) ≡ x ++ folded_of q (folding f) 0 false (col + length x) y
unfolding folded_of size
fold-own q f after col [] y ps h = absurd (omega arith)
fold-own q f after col (a ∷ []) y (more p ps) h = let e = ne_eqb a 32 p.other in rw (no-break after a y e, p.itself, p.alone, e)
fold-own q f after col (a ∷ b ∷ x) y (more p ps) h =
    let e = ne_eqb a 32 p.other in
    let n : col + length (a ∷ b ∷ x) ≡ col + 1 + length (b ∷ x) = omega arith in
    rw (no-break after a ((b ∷ x) ++ y) e, p.itself, p.alone, e, fold-own q f false (col + 1) (b ∷ x) y ps (omega arith), n)

module _ (q : Quote) (s : Bytes) (i j : ℕ) (r : Run (Own q 32) s i j) (h : i < j) where
  long : 0 < length (take (j - i) (drop i s))
  long = rw (run_length (Own q 32) s i j r) (omega arith)

  pub measured-run : (n : ℕ) (after : Bool) → n + (j - i) + ahead_of q (λ b. 1) 0 false (drop j s) ≡ n + ahead_of q (λ b. 1) 0 after (drop i s)
  measured-run n after =
      let e : ahead_of q (λ b. 1) 0 after (drop i s) ≡ length (take (j - i) (drop i s)) + ahead_of q (λ b. 1) 0 false (drop j s) =
      ap (ahead_of q (λ b. 1) 0 after) (parted s i j r.on) ∙ ahead_own q after (take (j - i) (drop i s)) (drop j s) r.each long in
      rw (e, run_length (Own q 32) s i j r) (omega arith)

  pub fold-run : (f : Fold) (col : ℕ) (after : Bool) (P P' : Pen) → P' ≡ puts (take (j - i) (drop i s)) P
      → puts (folded_of q (folding f) 0 false (col + (j - i)) (drop j s)) P' ≡ puts (folded_of q (folding f) 0 after col (drop i s)) P
  fold-run f col after P P' w =
      let e : folded_of q (folding f) 0 after col (drop i s) ≡ take (j - i) (drop i s) ++ folded_of q (folding f) 0 false (col + length (take (j - i) (drop i s))) (drop j s) =
      ap (folded_of q (folding f) 0 after col) (parted s i j r.on) ∙ fold-own q f after col (take (j - i) (drop i s)) (drop j s) r.each long in
      rw (e, run_length (Own q 32) s i j r, w) (sym (puts-append (take (j - i) (drop i s)) _ P))

-- ---- one byte

module _ (q : Quote) (s : Bytes) (i : ℕ) (h : i < length s) where
  pub measured-piece : (n m w : ℕ) (after : Bool) (p : Piece) → breakable after (get_or s i 0) (drop (i + 1) s) ≡ false → Stands q (drop i s) p → w ≡ size (λ b. 1) (spell p) → m ≡ beside p
      → n + w + ahead_of q (λ b. 1) 0 (eqb (get_or s i 0) 32) (drop (i + 1 + m) s) ≡ n + ahead_of q (λ b. 1) 0 after (drop i s)
  unfolding ahead_of
  measured-piece n m w after p e st ew em =
      rw (← drop-drop m (i + 1) s, ← ahead-skip, ew, em)
      (along
      (λ x a t. breakable after a t ≡ false → Stands q x p → n + size (λ b. 1) (spell p) + ahead_of q (λ b. 1) (beside p) (eqb a 32) t ≡ n + ahead_of q (λ b. 1) 0 after x)
      s i h (λ a t e st. rw (e, ← st.spelled, ← st.speaks) (omega arith)) e st)

  pub fold_on : (f : Folding) (m w col : ℕ) (after : Bool) (p : Piece) (P P' : Pen) → breakable after (get_or s i 0) (drop (i + 1) s) ≡ false → Stands q (drop i s) p
      → w ≡ size f.weight (spell p) → m ≡ beside p → P' ≡ puts (spell p) P
      → puts (folded_of q f 0 (eqb (get_or s i 0) 32) (col + w) (drop (i + 1 + m) s)) P' ≡ puts (folded_of q f 0 after col (drop i s)) P
  unfolding folded_of
  fold_on f m w col after p P P' e st ew em e_p =
      rw (← drop-drop m (i + 1) s, ← fold-skip, ew, em, e_p)
      (along
      (λ x a t. breakable after a t ≡ false → Stands q x p
      → puts (folded_of q f (beside p) (eqb a 32) (col + size f.weight (spell p)) t) (puts (spell p) P) ≡ puts (folded_of q f 0 after col x) P)
      s i h (λ a t e st. rw (e, ← st.spelled, ← st.speaks) (sym (puts-append (spell p) _ P))) e st)

  pub fold-broken : (f : Folding) (n col : ℕ) (after : Bool) (P P₁ P₂ : Pen) → breakable after (get_or s i 0) (drop (i + 1) s) ≡ true
      → n ≡ ahead_of q f.weight 0 true (drop (i + 1) s) → f.width < col + 1 + n → P₁ ≡ put1 P 10 → P₂ ≡ puts (spaces f.indent) P₁
      → puts (folded_of q f 0 true f.indent (drop (i + 1) s)) P₂ ≡ puts (folded_of q f 0 after col (drop i s)) P
  unfolding folded_of puts
  fold-broken f n col after P P₁ P₂ e en wide e₁ e₂ =
      rw (e₂, e₁)
      (along
      (λ x a t. breakable after a t ≡ true → f.width < col + 1 + ahead_of q f.weight 0 true t
      → puts (folded_of q f 0 true f.indent t) (puts (spaces f.indent) (put1 P 10)) ≡ puts (folded_of q f 0 after col x) P)
      s i h
      (λ a t e w. rw (e, lt-ltb f.width _ w) (sym (puts-append (spaces f.indent) _ (put1 P 10))))
      e (rw en at wide))

  pub fold-kept : (f : Folding) (n col : ℕ) (after : Bool) (P P₁ : Pen) → breakable after (get_or s i 0) (drop (i + 1) s) ≡ true
      → n ≡ ahead_of q f.weight 0 true (drop (i + 1) s) → col + 1 + n ≤ f.width → P₁ ≡ put1 P 32
      → puts (folded_of q f 0 true (col + 1) (drop (i + 1) s)) P₁ ≡ puts (folded_of q f 0 after col (drop i s)) P
  unfolding folded_of puts
  fold-kept f n col after P P₁ e en fits e₁ =
      rw e₁
      (along
      (λ x a t. breakable after a t ≡ true → col + 1 + ahead_of q f.weight 0 true t ≤ f.width
      → puts (folded_of q f 0 true (col + 1) t) (put1 P 32) ≡ puts (folded_of q f 0 after col x) P)
      s i h
      (λ a t e w. rw (e, le-ltb f.width _ w))
      e (rw en at fits))

pub measured-stop : (q : Quote) (n m : ℕ) (after : Bool) (s : Bytes) (i : ℕ) → i < length s → n + ahead_of q (λ b. 1) 0 after (drop i s) ≡ m
    → breakable after (get_or s i 0) (drop (i + 1) s) ≡ true → n ≡ m
unfolding ahead_of
measured-stop q n m after s i h e b =
    along (λ x a t. n + ahead_of q (λ b. 1) 0 after x ≡ m → breakable after a t ≡ true → n ≡ m) s i h (λ a t e b. let g : n + 0 ≡ m = rw b at e in omega arith) e b

pub measured-end : (q : Quote) (n m : ℕ) (after : Bool) (s : Bytes) (i : ℕ) → n + ahead_of q (λ b. 1) 0 after (drop i s) ≡ m → length s ≤ i → n ≡ m
unfolding ahead_of
measured-end q n m after s i e h = let g : n + 0 ≡ m = rw (drop_of_length-le s h) at e in omega arith

pub breaks-here : (s : Bytes) (i : ℕ) (after : Bool) → i < length s → breakable after (get_or s i 0) (drop (i + 1) s) ≡ true → breakable_in after (drop i s) ≡ true
unfolding breakable_in
breaks-here s i after h e = along (λ x a t. breakable after a t ≡ true → breakable_in after x ≡ true) s i h (λ a t e. rw e) e

pub breaks-on : (s : Bytes) (i : ℕ) (after : Bool) → i < length s → breakable after (get_or s i 0) (drop (i + 1) s) ≡ false → breakable_in (eqb (get_or s i 0) 32) (drop (i + 1) s) ≡ breakable_in after (drop i s)
unfolding breakable_in
breaks-on s i after h e = along (λ x a t. breakable after a t ≡ false → breakable_in (eqb a 32) t ≡ breakable_in after x) s i h (λ a t e. rw e) e
