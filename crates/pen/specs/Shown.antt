-- The pen over a slice is the definition's pen: what a script leaves in the slice is the definition's bytes laid over what was there, and the
-- count says whether they have room. It is exact as long as at most two bytes more than the room are written; past that only the count
-- matters, and it stays two past the room.
use Rattle.std.specs.Prelude.{◌≡◌, ℕ, suc, ◌+◌, ◌-◌, ◌≤◌, ◌<◌, min, Bool, ◌&&◌, length, get_or, set, drop, eqb, ltb}
use Rattle.std.proofs.Math.Path.{refl, sym}
use Rattle.std.proofs.Common.{ap, subst, ◌∙◌, arith, le_of_suc-le-suc, true≢false, ltb-true, ltb-false, eq-eqb, ne_eqb, eqb-true}
use Rattle.std.proofs.Math.Bool.{true, false}
use mathlib.Core.List.{[], ◌∷◌, ◌++◌, reverse, reverse_aux, reverse-cons}
use Rattle.std.proofs.Math.Option.{Option, none, some}
use Rattle.std.proofs.Math.ListN.{length-set, length-reverse}
use Rattle.definition.specs.Base.{Bytes, when◌then◌else◌}
use Rattle.definition.specs.Ascii.{LF}
use Rattle.definition.specs.Utf8.{well_formed}
use Rattle.definition.specs.Fold.{Weight, column}
use Rattle.definition.specs.Settings.{weight_of, folds}
use Rattle.definition.specs.Scalar.{scalar_text, styled_quotes, own_quotes, must_quote, separator}
use Rattle.definition.specs.Tree.{Inline}
use Rattle.definition.specs.Pen.{Script, put, end_line, comment, replay, leaf, comma, ◌>>◌, St, start, write, at_line_start, inline_text, is_at, commented, ends_closed, replayed, run, finished, bytes_of}
use Rattle.definition.specs.declared.Settings.{Settings}
use Rattle.definition.specs.declared.Style.{Style}
use Rattle.definition.specs.declared.Style.TheVariants.{Plain, Single, Double, Literal, Folded}
use Rattle.laws.specs.Leaf.{scalar-same}
use Rattle.pen.specs.Pen.{Fields, Pen, page, column_after, put1, puts, line_ended, with_inline, with_raw, noted, note_of, rawed, unput, ended, ink}

-- ---- bytes laid over what was there, as far as there is room; `back` is what is written, last byte first

unfoldable pub overlay : Bytes → Bytes → Bytes
overlay [] bs = []
overlay (o ∷ os) [] = o ∷ os
overlay (o ∷ os) (b ∷ bs) = b ∷ overlay os bs

overlay-nil : (orig : Bytes) → overlay orig [] ≡ orig
unfolding overlay
overlay-nil [] = refl
overlay-nil (o ∷ os) = refl

-- where the bytes fit, they stand in front
pub overlay-fits : (orig bs : Bytes) → length bs ≤ length orig → overlay orig bs ≡ bs ++ drop (length bs) orig
unfolding overlay
overlay-fits [] [] h = refl
overlay-fits [] (b ∷ bs) h = absurd (omega arith)
overlay-fits (o ∷ os) [] h = refl
overlay-fits (o ∷ os) (b ∷ bs) h = ap (λ (l : Bytes). b ∷ l) (overlay-fits os bs (le_of_suc-le-suc h))

-- one byte more: stored, or past the end
over-one : (orig bs : Bytes) (b : ℕ) → set (overlay orig bs) (length bs) b ≡ overlay orig (bs ++ (b ∷ []))
unfolding overlay
over-one [] bs b = refl
over-one (o ∷ os) [] b = ap (λ (l : Bytes). b ∷ l) (sym (overlay-nil os))
over-one (o ∷ os) (x ∷ bs) b = ap (λ (l : Bytes). x ∷ l) (over-one os bs b)

-- past what was written the slice is as it was
over-get : (orig bs : Bytes) → get_or (overlay orig bs) (length bs) 0 ≡ get_or orig (length bs) 0
unfolding overlay
over-get [] bs = refl
over-get (o ∷ os) [] = refl
over-get (o ∷ os) (b ∷ bs) = over-get os bs

-- the last byte taken away again
over-undo : (orig bs : Bytes) (b : ℕ) → set (overlay orig (bs ++ (b ∷ []))) (length bs) (get_or orig (length bs) 0) ≡ overlay orig bs
unfolding overlay
over-undo [] bs b = refl
over-undo (o ∷ os) [] b = ap (λ (l : Bytes). o ∷ l) (overlay-nil os)
over-undo (o ∷ os) (x ∷ bs) b = ap (λ (l : Bytes). x ∷ l) (over-undo os bs b)

-- ---- what a writer shows of the definition's state

unfoldable pub head_or : ℕ → Bytes → ℕ
head_or d [] = d
head_or d (b ∷ out) = b

-- what the byte written last was put over
unfoldable pub under_of : Bytes → Bytes → ℕ
under_of orig [] = 0
under_of orig (b ∷ out) = get_or orig (length out) 0

-- one more than a place, 0 for none
unfoldable pub mark_of : Option ℕ → ℕ
mark_of none = 0
mark_of (some p) = p + 1

abbrev one : Weight
one = λ b. 1

pub record Exact (orig : Bytes) (p : Pen) (x : St) : Type 0 where
  pub last : p.w.last ≡ head_or 0 x.out
  pub under : p.w.under ≡ under_of orig x.out
  pub column : (p.w.tracks ≡ 0 → ⊥) → p.w.column ≡ column one x.out
  pub inline : p.w.inline ≡ mark_of x.inline
  pub raw : p.w.raw ≡ mark_of x.raw_end
  pub out : p.out ≡ overlay orig (reverse x.out)

pub record Shows (orig : Bytes) (k : ℕ) (p : Pen) (x : St) : Type 0 where
  pub size : length p.out ≡ length orig
  pub tracks : p.w.tracks ≡ k
  pub len : p.w.len ≡ min (length x.out) (length orig + 2)
  pub exact : length x.out ≤ length orig + 2 → Exact orig p x

-- ---- one byte

column-short : (out : Bytes) → column one out ≤ length out
unfolding column
column-short [] = omega arith
column-short (b ∷ out) = go (eqb b LF) (column-short out)
  where
    go : (t : Bool) → column one out ≤ length out → (when t then 0 else 1 + column one out) ≤ suc (length out)
    go true h = omega arith
    go false h = omega arith

column-after : (w : Fields) (out : Bytes) (most b : ℕ) → (w.tracks ≡ 0 → ⊥) → w.column ≡ column one out → suc (length out) ≤ most
    → column_after w most b ≡ column one (b ∷ out)
unfolding column_after column
column-after w out most b t e h = rw (ne_eqb _ _ t, e) (go (eqb b LF))
  where
    go : (t : Bool) → (when t then 0 else min (column one out + 1) most) ≡ (when t then 0 else 1 + column one out)
    go true = refl
    go false = let k = column-short out in omega arith

unfoldable pushed : ℕ → St → St
pushed b x = record { out = b ∷ x.out; inline = x.inline; raw_end = x.raw_end }

put1-shows : (orig : Bytes) (k : ℕ) (p : Pen) (x : St) (b : ℕ) → Shows orig k p x → Shows orig k (put1 p b) (pushed b x)
unfolding put1 pushed
put1-shows orig k p x b h = record {
  size = length-set p.out p.w.len b ∙ h.size;
  tracks = h.tracks;
  len = rw (h.size, h.len) (omega arith);
  exact = λ l.
      let l' : length x.out ≤ length orig + 2 = omega arith in
      let e = h.exact l' in
      let n : p.w.len ≡ length (reverse x.out) = h.len ∙ rw length-reverse (omega arith) in
      record {
        last = unfold head_or in refl;
        under = rw (e.out, n, over-get) (rw length-reverse (unfold under_of in refl));
        column = λ t. rw h.size (column-after p.w x.out (length orig + 2) b t (e.column t) (omega arith));
        inline = e.inline;
        raw = e.raw;
        out = rw (e.out, n, over-one) (rw reverse-cons);
      };
}

-- ---- texts

write-grows : (t : Bytes) (x : St) → length (write t x).out ≡ length t + length x.out
unfolding write
write-grows t x = go t x.out
  where
    go : (t r : Bytes) → length (reverse_aux t r) ≡ length t + length r
    go [] r = omega arith
    go (b ∷ t) r = go t (b ∷ r) ∙ omega arith

puts-shows : (t orig : Bytes) (k : ℕ) (p : Pen) (x : St) → Shows orig k p x → Shows orig k (puts t p) (write t x)
unfolding puts write pushed
puts-shows [] orig k p x h = h
puts-shows (b ∷ t) orig k p x h = puts-shows t orig k (put1 p b) (pushed b x) (put1-shows orig k p x b h)

-- ---- past the room and two more, only the count matters

puts-size : (t : Bytes) (p : Pen) → length (puts t p).out ≡ length p.out
unfolding puts put1
puts-size [] p = refl
puts-size (b ∷ t) p = puts-size t (put1 p b) ∙ length-set p.out p.w.len b

puts-tracks : (t : Bytes) (p : Pen) → (puts t p).w.tracks ≡ p.w.tracks
unfolding puts put1
puts-tracks [] p = refl
puts-tracks (b ∷ t) p = puts-tracks t (put1 p b)

puts-full : (t : Bytes) (p : Pen) → p.w.len ≡ length p.out + 2 → (puts t p).w.len ≡ length p.out + 2
unfolding puts
puts-full [] p h = h
puts-full (b ∷ t) p h = puts-full t (put1 p b) (unfold put1 in rw length-set (rw h (omega arith))) ∙ unfold put1 in rw length-set

-- a pen whose count is full, beside a state that is past the room
full-shows : (orig : Bytes) (k : ℕ) (p : Pen) (x : St) → length p.out ≡ length orig → p.w.tracks ≡ k → p.w.len ≡ length orig + 2 → length orig + 2 < length x.out
    → Shows orig k p x
full-shows orig k p x z t n l = record { size = z; tracks = t; len = n ∙ omega arith; exact = λ h. absurd (omega arith) }

-- whatever is written then
over-shows : (t u orig : Bytes) (k : ℕ) (p : Pen) (x : St) → Shows orig k p x → length orig + 2 < length x.out → Shows orig k (puts t p) (write u x)
over-shows t u orig k p x h l =
    let n : p.w.len ≡ length p.out + 2 = h.len ∙ rw h.size (omega arith) in
    full-shows orig k (puts t p) (write u x) (puts-size t p ∙ h.size) (puts-tracks t p ∙ h.tracks) (puts-full t p n ∙ ap (λ (m : ℕ). m + 2) h.size) (rw write-grows (omega arith))

-- texts that are the same as long as it matters
texts-show : (t u orig : Bytes) (k : ℕ) (p : Pen) (x : St) → Shows orig k p x → (length x.out ≤ length orig + 2 → t ≡ u) → Shows orig k (puts t p) (write u x)
texts-show t u orig k p x h e = go (ltb (length orig + 2) (length x.out)) refl
  where
    go : (b : Bool) → ltb (length orig + 2) (length x.out) ≡ b → Shows orig k (puts t p) (write u x)
    go true q = over-shows t u orig k p x h (ltb-true _ _ q)
    go false q = subst (λ (u : Bytes). Shows orig k (puts t p) (write u x)) (e (ltb-false _ _ q)) (puts-shows t orig k p x h)

-- ---- the steps

-- `end_line` is a text
unfoldable break_or : Bool → Bytes
break_or b = when b then [] else LF ∷ []

line-puts : (p : Pen) → line_ended p ≡ puts (break_or (eqb p.w.last LF)) p
unfolding line_ended break_or puts
line-puts p = go (eqb p.w.last LF)
  where
    go : (b : Bool) → (when b then p else put1 p LF) ≡ puts (when b then [] else LF ∷ []) p
    go true = refl
    go false = refl

line_write : (x : St) → (when at_line_start x.out then x else write (LF ∷ []) x) ≡ write (break_or (at_line_start x.out)) x
unfolding break_or write
line_write x = go (at_line_start x.out)
  where
    go : (b : Bool) → (when b then x else write (LF ∷ []) x) ≡ write (when b then [] else LF ∷ []) x
    go true = refl
    go false = refl

line-last : (out : Bytes) → eqb (head_or 0 out) LF ≡ at_line_start out
unfolding head_or at_line_start
line-last [] = refl
line-last (b ∷ out) = refl

line-shows : (orig : Bytes) (k : ℕ) (p : Pen) (x : St) → Shows orig k p x → Shows orig k (line_ended p) (when at_line_start x.out then x else write (LF ∷ []) x)
line-shows orig k p x h =
    rw (line-puts p, line_write x)
    (texts-show _ _ orig k p x h (λ l. ap break_or (ap (λ (b : ℕ). eqb b LF) (h.exact l).last ∙ line-last x.out)))

-- an inline comment
at_mark : (m : Option ℕ) (p : ℕ) → eqb (mark_of m) (p + 1) ≡ is_at m p
unfolding mark_of is_at
at_mark none p = ne_eqb 0 (p + 1) (λ (e : 0 ≡ p + 1). omega arith)
at_mark (some q) p = go (eqb q p) refl
  where
    go : (b : Bool) → eqb q p ≡ b → eqb (q + 1) (p + 1) ≡ b
    go true e = eq-eqb (q + 1) (p + 1) (ap (λ (n : ℕ). n + 1) (eqb-true q p e))
    go false e = ne_eqb (q + 1) (p + 1) (λ (f : q + 1 ≡ p + 1). true≢false (sym (eq-eqb q p (omega arith)) ∙ e))

unfoldable marked : ℕ → St → St
marked m x = record { out = x.out; inline = some m; raw_end = x.raw_end }

inline-shows : (orig : Bytes) (k : ℕ) (q : Pen) (y : St) (m : ℕ) → Shows orig k q y → Shows orig k (page (with_inline (m + 1) q.w) q.out) (marked m y)
unfolding with_inline marked
inline-shows orig k q y m h = record {
  size = h.size;
  tracks = h.tracks;
  len = h.len;
  exact = λ l. let e = h.exact l in record { last = e.last; under = e.under; column = e.column; inline = unfold mark_of in refl; raw = e.raw; out = e.out };
}

-- two pens and two states, of which each pair may be the one: past the room it does not matter which
either-shows : (orig : Bytes) (k : ℕ) (p q : Pen) (x y : St) → Shows orig k p x → Shows orig k q y → length orig + 2 < length x.out → length orig + 2 < length y.out → (a b : Bool)
    → Shows orig k (when a then p else q) (when b then x else y)
either-shows orig k p q x y h g l m true true = h
either-shows orig k p q x y h g l m true false = full-shows orig k p y h.size h.tracks (h.len ∙ omega arith) m
either-shows orig k p q x y h g l m false true = full-shows orig k q x g.size g.tracks (g.len ∙ omega arith) l
either-shows orig k p q x y h g l m false false = g

if-shows : (orig : Bytes) (k : ℕ) (p q : Pen) (x y : St) → Shows orig k p x → Shows orig k q y → length x.out ≤ length y.out → (a b : Bool) → (length x.out ≤ length orig + 2 → a ≡ b)
    → Shows orig k (when a then p else q) (when b then x else y)
if-shows orig k p q x y h g l a b e = go (ltb (length orig + 2) (length x.out)) refl
  where
    same : (a : Bool) → Shows orig k (when a then p else q) (when a then x else y)
    same true = h
    same false = g

    go : (t : Bool) → ltb (length orig + 2) (length x.out) ≡ t → Shows orig k (when a then p else q) (when b then x else y)
    go true t = let f : length orig + 2 < length x.out = ltb-true _ _ t in either-shows orig k p q x y h g f (omega arith) a b
    go false t = subst (λ (b : Bool). Shows orig k (when a then p else q) (when b then x else y)) (e (ltb-false _ _ t)) (same a)

note-shows : (orig : Bytes) (k place : ℕ) (c : Inline) (p : Pen) (x : St) → Shows orig k p x → Shows orig k (noted place c p) (commented place (some c) x)
unfolding noted commented marked write
note-shows orig k place c p x h =
    if-shows orig k p _ x (marked place (write (inline_text c) x)) h
    (inline-shows orig k (puts (inline_text c) p) (write (inline_text c) x) place (puts-shows (inline_text c) orig k p x h))
    (rw (write-grows (inline_text c) x) (omega arith))
    (eqb p.w.inline (place + 1)) (is_at x.inline place)
    (λ l. ap (λ (n : ℕ). eqb n (place + 1)) (h.exact l).inline ∙ at_mark x.inline place)

-- a raw text
unfoldable raw_ended : St → St
raw_ended y = record { out = y.out; inline = y.inline; raw_end = some (length y.out) }

raw-shows : (orig : Bytes) (k : ℕ) (q : Pen) (y : St) → Shows orig k q y → Shows orig k (page (with_raw (q.w.len + 1) q.w) q.out) (raw_ended y)
unfolding with_raw raw_ended
raw-shows orig k q y h = record {
  size = h.size;
  tracks = h.tracks;
  len = h.len;
  exact = λ l.
      let e = h.exact l in
      let n : q.w.len ≡ length y.out = h.len ∙ omega arith in
      record { last = e.last; under = e.under; column = e.column; inline = e.inline; raw = ap (λ (m : ℕ). m + 1) n ∙ unfold mark_of in refl; out = e.out };
}

replay-shows : (orig : Bytes) (k : ℕ) (t : Bytes) (p : Pen) (x : St) → Shows orig k p x → Shows orig k (rawed t p) (replayed t x)
unfolding rawed replayed
replay-shows orig k t p x h = go (ends_closed t)
  where
    done : Shows orig k (puts t p) (write t x)
    done = puts-shows t orig k p x h

    go : (b : Bool) → Shows orig k (when b then puts t p else page (with_raw ((puts t p).w.len + 1) (puts t p).w) (puts t p).out)
        (record { out = reverse_aux t x.out; inline = x.inline; raw_end = when b then x.raw_end else some (length (reverse_aux t x.out)) })
    go true = unfold write in done
    go false = unfold write raw_ended in raw-shows orig k (puts t p) (write t x) done

-- what looks at the column: nothing does where lines are not folded
flat : (s : Settings) (key : Bool) → s.width ≡ 0 → folds s key ≡ false
unfolding folds
flat s true e = refl
flat s false e = rw e

scalar-flat : (s : Settings) (flow key : Bool) (t : Bytes) (y : Style) (i c d : ℕ) → s.width ≡ 0 → scalar_text s flow key t y i c ≡ scalar_text s flow key t y i d
unfolding scalar_text styled_quotes own_quotes must_quote
scalar-flat s flow key t Plain i c d e = rw (flat s key e)
scalar-flat s flow key t Single i c d e = rw (flat s key e)
scalar-flat s flow key t Double i c d e = rw (flat s key e)
scalar-flat s flow key t Literal i c d e = refl
scalar-flat s flow key t Folded i c d e = refl

separator-flat : (s : Settings) (key : Bool) (i c d : ℕ) → s.width ≡ 0 → separator s key i c ≡ separator s key i d
unfolding separator
separator-flat s key i c d e = rw (flat s key e)

-- a text that is made from the column
column-text : (f : ℕ → Bytes) (orig : Bytes) (k : ℕ) (p : Pen) (x : St) (s : Settings) → (k ≡ 0 → (c d : ℕ) → f c ≡ f d) → Shows orig k p x
    → Shows orig k (puts (f p.w.column) p) (write (f (column (weight_of s) x.out)) x)
unfolding weight_of
column-text f orig k p x s g h = texts-show _ _ orig k p x h (λ l. go (eqb k 0) refl l)
  where
    go : (b : Bool) → eqb k 0 ≡ b → length x.out ≤ length orig + 2 → f p.w.column ≡ f (column one x.out)
    go true e l = g (eqb-true k 0 e) _ _
    go false e l = ap f ((h.exact l).column (λ (z : p.w.tracks ≡ 0). true≢false (sym (eq-eqb k 0 (sym h.tracks ∙ z)) ∙ e)))

-- ---- a script

-- the scalars of a script are well-formed texts
unfoldable pub Sound : Script → Type 0
Sound (put j t) = Unit {0}
Sound end_line = Unit {0}
Sound (comment place c) = Unit {0}
Sound (replay place t) = Unit {0}
Sound (leaf place flow key t y i) = well_formed t ≡ true
Sound (comma key i) = Unit {0}
Sound (a >> b) = Sound a × Sound b

module _ (s : Settings) where
  pub ink-shows : (a : Script) → Sound a → (orig : Bytes) (k : ℕ) → (k ≡ 0 → s.width ≡ 0) → (p : Pen) (x : St) → Shows orig k p x → Shows orig k (ink s a p) (run s a x)
  unfolding ink run Sound
  ink-shows (put j t) z orig k g p x h = puts-shows t orig k p x h
  ink-shows end_line z orig k g p x h = line-shows orig k p x h
  ink-shows (comment place none) z orig k g p x h = unfold note_of commented in h
  ink-shows (comment place (some c)) z orig k g p x h = unfold note_of in note-shows orig k place c p x h
  ink-shows (replay place t) z orig k g p x h = replay-shows orig k t p x h
  ink-shows (leaf place flow key t y i) z orig k g p x h =
      rw (scalar-same s flow key t y i p.w.column z) (column-text (λ c. scalar_text s flow key t y i c) orig k p x s (λ e c d. scalar-flat s flow key t y i c d (g e)) h)
  ink-shows (comma key i) z orig k g p x h = column-text (λ c. separator s key i c) orig k p x s (λ e c d. separator-flat s key i c d (g e)) h
  ink-shows (a >> b) z orig k g p x h = ink-shows b z.1 orig k g (ink s a p) (run s a x) (ink-shows a z.0 orig k g p x h)

-- ---- a file: from a new writer to its end

-- columns are kept where lines are folded
unfoldable pub keeps : ℕ → ℕ
keeps width = when eqb width 0 then 0 else 1

keeps-none : (width : ℕ) → keeps width ≡ 0 → width ≡ 0
unfolding keeps
keeps-none width = go (eqb width 0) refl
  where
    go : (b : Bool) → eqb width 0 ≡ b → ◌≡◌ {A = ℕ} (when b then 0 else 1) 0 → width ≡ 0
    go true e h = eqb-true width 0 e
    go false e h = absurd (omega arith)

-- a writer that has written nothing
unfoldable pub begun : Settings → Fields
begun s = record { len = 0; last = 0; under = 0; column = 0; tracks = keeps s.width; flow = 0; key = 0; inline = 0; raw = 0 }

begun-shows : (s : Settings) (orig : Bytes) → Shows orig (keeps s.width) (page (begun s) orig) start
unfolding begun start
begun-shows s orig = record {
  size = refl;
  tracks = refl;
  len = omega arith;
  exact = λ l. record {
    last = unfold head_or in refl;
    under = unfold under_of in refl;
    column = λ t. unfold column in refl;
    inline = unfold mark_of in refl;
    raw = unfold mark_of in refl;
    out = sym (overlay-nil orig);
  };
}

-- a pen that shows these bytes, which stand back to front
record Ends (orig : Bytes) (p : Pen) (back : Bytes) : Type 0 where
  len : p.w.len ≡ length back
  out : p.out ≡ overlay orig (reverse back)

unput-ends : (orig : Bytes) (k : ℕ) (p : Pen) (b : ℕ) (o : Bytes) (m r : Option ℕ) → Shows orig k p (record { out = b ∷ o; inline = m; raw_end = r }) → suc (length o) ≤ length orig + 2
    → Ends orig (unput p) o
unfolding unput
unput-ends orig k p b o m r h l =
    let e = h.exact l in
    let n : p.w.len - 1 ≡ length (reverse o) = ap (λ (z : ℕ). z - 1) h.len ∙ rw length-reverse (omega arith) in
    record {
      len = n ∙ length-reverse o;
      out = rw (n, e.out, e.under) (unfold under_of in rw (reverse-cons, ← (length-reverse o)) (over-undo orig (reverse o) b));
    }

stays : (orig : Bytes) (k : ℕ) (p : Pen) (x : St) → Shows orig k p x → length x.out ≤ length orig + 2 → Ends orig p x.out
stays orig k p x h l = record { len = h.len ∙ omega arith; out = (h.exact l).out }

-- the end, as long as the pen is exact
ended-exact : (orig : Bytes) (k : ℕ) (p : Pen) (o : Bytes) (m r : Option ℕ) → Shows orig k p (record { out = o; inline = m; raw_end = r }) → length o ≤ length orig + 2
    → Ends orig (ended p) (finished r o)
unfolding ended finished mark_of head_or
ended-exact orig k p o m none h l = rw (eq-eqb _ _ (h.exact l).raw) (stays orig k p _ h l)
ended-exact orig k p [] m (some q) h l =
    let r = (h.exact l).raw in
    let n = (stays orig k p _ h l).len in
    rw (ne_eqb p.w.raw 0 (λ (z : p.w.raw ≡ 0). omega arith), ne_eqb p.w.len p.w.raw (λ (z : p.w.len ≡ p.w.raw). omega arith)) (stays orig k p _ h l)
ended-exact orig k p (b ∷ o) m (some q) h l =
    rw (ne_eqb p.w.raw 0 (λ (z : p.w.raw ≡ 0). omega (arith, r)), ap (λ (z : ℕ). eqb z LF) (h.exact l).last) (go (eqb b LF) (eqb (length o) q) refl)
  where
    r : p.w.raw ≡ q + 1
    r = (h.exact l).raw

    n : p.w.len ≡ suc (length o)
    n = (stays orig k p _ h l).len

    go : (c d : Bool) → eqb (length o) q ≡ d → Ends orig (when eqb p.w.len p.w.raw then (when c then unput p else p) else p) (when c && d then o else b ∷ o)
    go true true e = rw (eq-eqb p.w.len p.w.raw (let z = eqb-true (length o) q e in omega (arith, r, n))) (unput-ends orig k p b o m (some q) h l)
    go true false e = rw (ne_eqb p.w.len p.w.raw (λ (z : p.w.len ≡ p.w.raw). true≢false (sym (eq-eqb (length o) q (omega (arith, r, n))) ∙ e))) (stays orig k p _ h l)
    go false d e = both (eqb p.w.len p.w.raw)
      where
        both : (t : Bool) → Ends orig (when t then p else p) (b ∷ o)
        both true = stays orig k p _ h l
        both false = stays orig k p _ h l

-- the count at the end, once the pen is full
ended-full : (p : Pen) (m : ℕ) → p.w.len ≡ m + 2 → m < (ended p).w.len
unfolding ended
ended-full p m h = go (eqb p.w.raw 0) (eqb p.w.len p.w.raw) (eqb p.w.last LF)
  where
    stay : m < p.w.len
    stay = omega (arith, h)

    drop : m < (unput p).w.len
    drop = unfold unput in omega (arith, h)

    go : (a b c : Bool) → m < (when a then p else (when b then (when c then unput p else p) else p)).w.len
    go true b c = stay
    go false false c = stay
    go false true true = drop
    go false true false = stay

ended-size : (p : Pen) → length (ended p).out ≡ length p.out
unfolding ended
ended-size p = go (eqb p.w.raw 0) (eqb p.w.len p.w.raw) (eqb p.w.last LF)
  where
    go : (a b c : Bool) → length (when a then p else (when b then (when c then unput p else p) else p)).out ≡ length p.out
    go true b c = refl
    go false false c = refl
    go false true true = unfold unput in length-set p.out (p.w.len - 1) p.w.under
    go false true false = refl

finished-less : (r : Option ℕ) (o : Bytes) → length o ≤ suc (length (finished r o))
unfolding finished
finished-less none o = omega arith
finished-less (some e) [] = omega arith
finished-less (some e) (b ∷ o) = go (eqb b LF && eqb (length o) e)
  where
    go : (t : Bool) → suc (length o) ≤ suc (length (when t then o else b ∷ o))
    go true = omega arith
    go false = omega arith

-- WHAT THE PEN LEAVES. A script from a new writer over a slice, and its end: where the definition's bytes fit, the count is their length, they stand
-- in front, and what lies past them is as it was; where they do not, the count is past the room.
pub record Leaves (orig t : Bytes) (p : Pen) : Type 0 where
  pub size : length p.out ≡ length orig
  pub fits : length t ≤ length orig → (p.w.len ≡ length t) × (p.out ≡ t ++ drop (length t) orig)
  pub over : length orig < length t → length orig < p.w.len

pub leaves : (s : Settings) (a : Script) → Sound a → (orig : Bytes) → Leaves orig (bytes_of s a) (ended (ink s a (page (begun s) orig)))
unfolding bytes_of
leaves s a z orig = go (ltb (length orig + 2) (length (run s a start).out)) refl
  where
    k : ℕ
    k = keeps s.width

    p : Pen
    p = ink s a (page (begun s) orig)

    x : St
    x = run s a start

    h : Shows orig k p x
    h = ink-shows s a z orig k (keeps-none s.width) (page (begun s) orig) start (begun-shows s orig)

    back : Bytes
    back = finished x.raw_end x.out

    exactly : Ends orig (ended p) back → Leaves orig (reverse back) (ended p)
    exactly e = record {
      size = ended-size p ∙ h.size;
      fits = λ l. (e.len ∙ sym (length-reverse back), e.out ∙ overlay-fits orig (reverse back) l);
      over = λ l. rw e.len (rw length-reverse at l);
    }

    go : (b : Bool) → ltb (length orig + 2) (length x.out) ≡ b → Leaves orig (reverse back) (ended p)
    go false e = exactly (ended-exact orig k p x.out x.inline x.raw_end h (ltb-false _ _ e))
    go true e =
        let l : length orig + 2 < length x.out = ltb-true _ _ e in
        let n = finished-less x.raw_end x.out in
        record {
          size = ended-size p ∙ h.size;
          fits = λ (z : length (reverse back) ≤ length orig). absurd (let w = rw length-reverse at z in omega arith);
          over = λ z. ended-full p (length orig) (h.len ∙ omega arith);
        }
