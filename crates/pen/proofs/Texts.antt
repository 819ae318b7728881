-- A text is written at once, as far as it has room: where its bytes are stored, and what the writer is then.
use mathlib.Core.Path.{◌≡◌, refl, sym, ap, ◌∙◌}
use Prim.Native.Nat.{ℕ, zero, suc, ◌+◌, ◌-◌, ◌<◌, ◌≤◌, min}
use native.Mathlib.Omega.{arith}
use mathlib.Core.List.{[], ◌∷◌, ◌++◌, append_assoc}
use lib.ListN.{length, get_or, set, take, drop, replicate, length-set, length-replicate, get_or-replicate, get_or-eq_default}
use lib.Seq.{sets, sets-eq, drop-drop, take-nil, take-length, length-take-le, set_out, get_or-set_other}
use lib.Dec.{eqb, leb}
use Rattle.std.proofs.Common.{take-append-drop, length-drop}
use Rattle.std.proofs.Math.Seq.{take-suc}
use Rattle.std.proofs.lemmas.List.{take_more_set, take_all}
use borrow.Author.Tests.{leb-true, leb-false, eq-eqb, ne_eqb}
use borrow.Rule.Slice.PartMut.{put_mid, mid_of}
use mathlib.Core.Bool.{Bool, true, false}
use Rattle.definition.specs.Base.{Bytes, when◌then◌else◌}
use Rattle.definition.specs.Ascii.{LF}
use Rattle.pen.specs.Pen.{Fields, Pen, page, moved, put_to, at_column, next_column, column_after, column_over, column_past, put1, puts}

-- ---- copying

-- one byte more is copied
pub copied-more : (o t : Bytes) (i : ℕ) → take i o ≡ take i t → i < length o → i < length t → take (i + 1) (set o i (get_or t i 0)) ≡ take (i + 1) t
copied-more o t i e h k = let n : i + 1 ≡ suc i = omega arith in take_more_set o i _ h ∙ rw (e, n) (sym (take-suc t i 0 k))

-- all are
pub copied-all : (o t : Bytes) (i : ℕ) → take i o ≡ take i t → length o ≡ length t → length t ≤ i → o ≡ t
copied-all o t i e l h = sym (take_all i o (rw l h)) ∙ e ∙ take_all i t h

-- ---- storing what has room

-- past the end nothing is stored
pub sets-out : (l : Bytes) (i : ℕ) (t : Bytes) → length l ≤ i → sets l i t ≡ l
sets-out l i [] h = refl
sets-out l i (b ∷ t) h = let e : set l i b ≡ l = set_out l i b h in rw e (sets-out l (suc i) t (omega (arith, h)))

-- so it does to store what has room
pub sets-part : (t l : Bytes) (i k : ℕ) → i + k ≡ length l → sets l i (take k t) ≡ sets l i t
sets-part [] l i k e = ap (sets l i) (take-nil k)
sets-part (b ∷ t) l i zero e = sym (sets-out l i (b ∷ t) (omega (arith, e)))
sets-part (b ∷ t) l i (suc k) e = sets-part t (set l i b) (suc i) k (rw (length-set l i b) (omega (arith, e)))

take_again : (k n b : ℕ) → k ≤ n → take k (replicate n b) ≡ replicate k b
take_again zero n b h = refl
take_again (suc k) zero b h = absurd (omega (arith, h))
take_again (suc k) (suc n) b h = ap (λ (l : Bytes). b ∷ l) (take_again k n b (omega (arith, h)))

-- a part of the room is written, the rest is as it was: so it does to store all
pub stores : (o t m : Bytes) (at s e : ℕ) → s ≡ min at (length o) → e ≡ min (at + length t) (length o) → m ≡ take (e - s) t → put_mid s (e - s) o m ≡ sets o at t
stores o t m at s e es ee em = go (leb at (length o)) refl
  where
    within : (k : ℕ) → s ≡ at → e - s ≡ k → at + k ≤ length o → k ≤ length t → put_mid s (e - s) o m ≡ sets o at (take k t)
    within k sa ek h l =
        let n : length (take k t) ≡ k = length-take-le k t l in
        rw (em, ek, sa, sets-eq (take k t) o at (rw n h), n, drop-drop k at o) (sym (append_assoc (take at o) (take k t) (drop (at + k) o)))

    all : (d : Bool) → leb (at + length t) (length o) ≡ d → s ≡ at → at ≤ length o → put_mid s (e - s) o m ≡ sets o at t
    all true f sa h =
        let g = leb-true (at + length t) (length o) f in
        within (length t) sa (omega (arith, sa, ee, g)) g (omega arith) ∙ ap (sets o at) (take-length t)
    all false f sa h =
        let g = leb-false (at + length t) (length o) f in
        let k : ℕ = length o - at in
        within k sa (omega (arith, sa, ee, g)) (omega (arith, h)) (omega (arith, g)) ∙ sets-part t o at k (omega (arith, h))

    go : (d : Bool) → leb at (length o) ≡ d → put_mid s (e - s) o m ≡ sets o at t
    go true f = let g = leb-true at (length o) f in all (leb (at + length t) (length o)) refl (omega (arith, es, g)) g
    go false f =
        let g = leb-false at (length o) f in
        let n : e - s ≡ 0 = omega (arith, es, ee, g) in
        let l : s ≡ length o = omega (arith, es, g) in
        rw (em, n, l) (take-append-drop (length o) o) ∙ sym (sets-out o at t (omega (arith, g)))

pub fills : (o m : Bytes) (at n b s e : ℕ) → s ≡ min at (length o) → e ≡ min (at + n) (length o) → m ≡ replicate (length (mid_of s (e - s) o)) b
    → put_mid s (e - s) o m ≡ sets o at (replicate n b)
fills o m at n b s e es ee em =
    let l : length (replicate n b) ≡ n = length-replicate n b in
    let d : length (drop s o) ≡ length o - s = length-drop s o in
    let k : length (mid_of s (e - s) o) ≡ e - s = length-take-le (e - s) (drop s o) (omega (arith, ee, d)) in
    stores o (replicate n b) m at s e es (rw l ee) (em ∙ rw k (sym (take_again (e - s) n b (omega (arith, es, ee)))))

-- ---- the column

-- after a byte again and again
again : (most c b n : ℕ) → column_over most c (replicate (suc n) b) ≡ (when eqb b LF then 0 else min (c + suc n) most)
unfolding column_over
again most c b zero = refl
again most c b (suc n) = again most (next_column most c b) b n ∙ go (eqb b LF)
  where
    go : (k : Bool) → (when k then 0 else min ((when k then 0 else min (c + 1) most) + suc n) most) ≡ (when k then 0 else min (c + suc (suc n)) most)
    go true = refl
    go false = omega arith

pub again_break : (most c b n : ℕ) → 0 < n → b ≡ 10 → column_over most c (replicate n b) ≡ 0
again_break most c b zero h e = absurd (omega arith)
again_break most c b (suc n) h e = again most c b n ∙ rw (eq-eqb b 10 e)

pub again_other : (most c b n : ℕ) → 0 < n → (b ≡ 10 → ⊥) → column_over most c (replicate n b) ≡ min (c + n) most
again_other most c b zero h e = absurd (omega arith)
again_other most c b (suc n) h e = again most c b n ∙ rw (ne_eqb b 10 e)

-- after one byte more
pub column_push : (most c : ℕ) (t : Bytes) (b : ℕ) → column_over most c (t ++ (b ∷ [])) ≡ column_over most (column_over most c t) (b ∷ [])
unfolding column_over
column_push most c [] b = refl
column_push most c (a ∷ t) b = column_push most (next_column most c a) t b

-- of a text it is that of its first byte, and then of the rest
past-step : (w : Fields) (most b : ℕ) (t : Bytes) → column_past w most (b ∷ t) ≡ column_past (at_column (column_after w most b) w) most t
unfolding column_past column_after column_over
past-step w most b t = go (eqb w.tracks 0)
  where
    go : (k : Bool) → (when k then w.column else column_over most (next_column most w.column b) t)
        ≡ (when k then (when k then w.column else next_column most w.column b) else column_over most (when k then w.column else next_column most w.column b) t)
    go true = refl
    go false = refl

past_one : (w : Fields) (most b : ℕ) → column_past w most (b ∷ []) ≡ column_after w most b
unfolding column_past column_after column_over
past_one w most b = refl

-- ---- the pen

same : (w : Fields) {n n' b b' u u' c c' : ℕ} {o o' : Bytes} → n ≡ n' → b ≡ b' → u ≡ u' → c ≡ c' → o ≡ o' → page (moved w n b u c) o ≡ page (moved w n' b' u' c') o'
same w e f g h i = rw (e, f, g, h, i)

-- the place of the next byte, m, is one further, or past the end as the one before
module _ (o : Bytes) (len b m : ℕ) (e : m ≡ min (len + 1) (length o + 2)) where
  stored_on : (t : Bytes) → sets (set o len b) (suc len) t ≡ sets (set o len b) m t
  stored_on t = go (leb len (length o + 1)) refl
    where
      go : (d : Bool) → leb len (length o + 1) ≡ d → sets (set o len b) (suc len) t ≡ sets (set o len b) m t
      go true f = let g = leb-true len (length o + 1) f in let z : suc len ≡ m = omega (arith, e, g) in ap (λ (i : ℕ). sets (set o len b) i t) z
      go false f =
          let g = leb-false len (length o + 1) f in
          let l = length-set o len b in
          sets-out (set o len b) (suc len) t (omega (arith, g, l)) ∙ sym (sets-out (set o len b) m t (omega (arith, e, g, l)))

  under-on : (k : ℕ) → 0 < k → get_or o (len + suc k - 1) 0 ≡ get_or (set o len b) (m + k - 1) 0
  under-on k h = go (leb len (length o + 1)) refl
    where
      go : (d : Bool) → leb len (length o + 1) ≡ d → get_or o (len + suc k - 1) 0 ≡ get_or (set o len b) (m + k - 1) 0
      go true f =
          let g = leb-true len (length o + 1) f in
          let z : m + k - 1 ≡ len + suc k - 1 = omega (arith, e, g) in
          rw z (sym (get_or-set_other o len (len + suc k - 1) b 0 (λ q. omega (arith, q, h))))
      go false f =
          let g = leb-false len (length o + 1) f in
          let l = length-set o len b in
          get_or-eq_default o 0 (omega (arith, g)) ∙ sym (get_or-eq_default (set o len b) 0 (omega (arith, e, g, l)))

written : (t : Bytes) (w : Fields) (o : Bytes) → 0 < length t
    → page (moved w (min (w.len + length t) (length o + 2)) (get_or t (length t - 1) 0) (get_or o (w.len + length t - 1) 0) (column_past w (length o + 2) t)) (sets o w.len t) ≡ puts t (page w o)
unfolding puts put1 column_past
written [] w o h = absurd (omega arith)
written (b ∷ []) w o h = same w (omega arith) refl (ap (λ (k : ℕ). get_or o k 0) (omega arith)) (past_one w (length o + 2) b) refl
written (b ∷ c ∷ t) w o h =
    let m : ℕ = min (w.len + 1) (length o + 2) in
    let l : length (set o w.len b) ≡ length o = length-set o w.len b in
    same w
    (rw l (omega arith))
    (let e : length (b ∷ c ∷ t) - 1 ≡ suc (length (c ∷ t) - 1) = omega arith in rw e refl)
    (under-on o w.len b m refl (length (c ∷ t)) (omega arith))
    (rw l (past-step w (length o + 2) b (c ∷ t)))
    (stored_on o w.len b m refl (c ∷ t))
    ∙ written (c ∷ t) (put1 (page w o) b).w (set o w.len b) (omega arith)

pub no_text : (t : Bytes) (p : Pen) → length t ≡ 0 → p ≡ puts t p
unfolding puts
no_text [] p e = refl
no_text (b ∷ t) p e = absurd (omega arith)

pub paged : {w v : Fields} {o : Bytes} → w ≡ v → page w o ≡ page v o
paged {o = o} e = ap (λ (x : Fields). page x o) e

-- a writer v stands at the column after the text, and r is v after its bytes: then r is w after the text
module _ (w v r : Fields) (o o' : Bytes) (n b : ℕ) (f : r ≡ put_to (min (v.len + n) (length o + 2)) b (get_or o (v.len + n - 1) 0) v) where
  pub text_put : (t : Bytes) → 0 < length t → v ≡ at_column (column_past w (length o + 2) t) w
      → n ≡ length t → b ≡ get_or t (length t - 1) 0 → o' ≡ sets o w.len t
      → page r o' ≡ puts t (page w o)
  text_put t h g en eb eo = rw (f, g, en, eb, eo) (written t w o h)

  pub again_put : 0 < n → v ≡ at_column (column_past w (length o + 2) (replicate n b)) w → o' ≡ sets o w.len (replicate n b)
      → page r o' ≡ puts (replicate n b) (page w o)
  again_put h g eo =
      let l : length (replicate n b) ≡ n = length-replicate n b in
      text_put (replicate n b) (rw l h) g (sym l) (rw l (sym (get_or-replicate n (n - 1) b 0 (omega (arith, h))))) eo
