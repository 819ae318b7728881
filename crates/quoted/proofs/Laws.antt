-- A quoted body, a piece or a run of bytes at a time.
use Prim.Native.Nat.{ℕ, zero, suc, ◌+◌, ◌-◌, ◌<◌}
use native.Mathlib.Numerals.{add-one}
use mathlib.Core.Path.{◌≡◌, refl, sym, ap, ◌∙◌}
use mathlib.Core.Bool.{Bool, true, false, false≢true}
use mathlib.Core.List.{[], ◌∷◌, ◌++◌}
use lib.ListN.{length, get_or, drop, take}
use lib.Seq.{drop-cons, drop-drop}
use Rattle.pen.specs.Pen.{Pen, put1, puts, puts-append}
use Rattle.pen.specs.Runs.{Run, parted}
use Rattle.definition.specs.Base.{Bytes}
use Rattle.laws.specs.Tests.{Every, none, more}
use Rattle.laws.specs.Pieces.{Quote, single_piece, quote_by, body}
use Rattle.pieces.specs.Piece.{spell, beside, Stands, Own}
use Rattle.pieces.specs.declared.Piece.{Piece}

-- bytes that were spoken for are passed over
body-skip : (q : Quote) (k : ℕ) (s : Bytes) → body q k s ≡ body q 0 (drop k s)
unfolding body
body-skip q zero s = refl
body-skip q (suc k) [] = refl
body-skip q (suc k) (a ∷ s) = body-skip q k s

-- a piece is written
pub turn : (q : Quote) (s : Bytes) (i n : ℕ) (p : Piece) (P P' : Pen) → i < length s → Stands q (drop i s) p → P' ≡ puts (spell p) P → n ≡ beside p
    → puts (body q 0 (drop (i + 1 + n) s)) P' ≡ puts (body q 0 (drop i s)) P
unfolding body
turn q s i n p P P' h st w m =
    let d : drop i s ≡ get_or s i 0 ∷ drop (suc i) s = drop-cons s i 0 h in
    let a : spell p ≡ q.piece (get_or s i 0) (get_or (drop (suc i) s) 0 0) (get_or (drop (suc i) s) 1 0) = rw d at st.spelled in
    let b : beside p ≡ q.more (get_or s i 0) (get_or (drop (suc i) s) 0 0) (get_or (drop (suc i) s) 1 0) = rw d at st.speaks in
    rw (← drop-drop n (i + 1) s, ← body-skip, add-one, m, w, d, ← a, ← b, puts-append)

-- a byte between single quotes is written
pub turn-single : (s : Bytes) (i a : ℕ) (d : Bool) (P P' : Pen) → i < length s → d ≡ true → a ≡ get_or s i 0 → P' ≡ puts (single_piece a 0 0) P
    → puts (body (quote_by d) 0 (drop (i + 1) s)) P' ≡ puts (body (quote_by d) 0 (drop i s)) P
unfolding body single_piece
turn-single s i a true P P' h t e w =
    let d : drop i s ≡ get_or s i 0 ∷ drop (suc i) s = drop-cons s i 0 h in
    rw (add-one, w, e, d, puts-append)
turn-single s i a false P P' h t e w = absurd (false≢true t)

-- ---- bytes that are written as they are

body_own : (q : Quote) (stop : ℕ) (x y : Bytes) → Every (Own q stop) x → body q 0 (x ++ y) ≡ x ++ body q 0 y
unfolding body
body_own q stop [] y none = refl
body_own q stop (a ∷ x) y (more p ps) = rw (p.itself, p.alone) (ap (λ (r : Bytes). a ∷ r) (body_own q stop x y ps))

pub run-written : (q : Quote) (stop : ℕ) (s : Bytes) (i j : ℕ) (P P' : Pen) → Run (Own q stop) s i j → P' ≡ puts (take (j - i) (drop i s)) P
    → puts (body q 0 (drop j s)) P' ≡ puts (body q 0 (drop i s)) P
run-written q stop s i j P P' r e =
    rw e
    (sym (puts-append (take (j - i) (drop i s)) (body q 0 (drop j s)) P)
    ∙ ap (λ (x : Bytes). puts x P) (sym (body_own q stop (take (j - i) (drop i s)) (drop j s) r.each) ∙ ap (body q 0) (sym (parted s i j r.on))))

-- a text between two quotes
pub around : (q : ℕ) (x : Bytes) (P P₁ P₂ P₃ : Pen) → P₁ ≡ put1 P q → P₂ ≡ puts x P₁ → P₃ ≡ put1 P₂ q → P₃ ≡ puts (q ∷ (x ++ q ∷ [])) P
unfolding puts
around q x P P₁ P₂ P₃ a b c = rw (c, b, a) (sym (puts-append x (q ∷ []) (put1 P q)))
