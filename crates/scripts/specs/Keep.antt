-- What a script leaves of the pen as it was: flow depth, key mark, whether columns are kept, the room; and that it does not look at flow
-- depth and key mark at all.
use Rattle.std.specs.Prelude.{◌≡◌, ℕ, ◌+◌, ◌-◌, Bool, true, false, length}
use Rattle.std.proofs.Math.Path.{refl, ap}
use Rattle.std.proofs.Common.{sym, ◌∙◌, length-set}
use mathlib.Core.List.{[], ◌∷◌}
use Rattle.std.proofs.Math.Option.{Option, none, some}
use Rattle.std.proofs.Math.Dec.{eqb}
use Rattle.definition.specs.Base.{Bytes, when◌then◌else◌}
use Rattle.definition.specs.Ascii.{LF}
use Rattle.definition.specs.Scalar.{separator}
use Rattle.definition.specs.Tree.{Inline}
use Rattle.definition.specs.Pen.{Script, put, end_line, comment, replay, leaf, comma, ◌>>◌, inline_text, ends_closed}
use Rattle.definition.specs.declared.Settings.{Settings}
use Rattle.laws.specs.Leaf.{scalar_bytes}
use Rattle.pen.specs.Pen.{Pen, page, column_after, put1, puts, line_ended, with_inline, with_raw, noted, note_of, rawed, unput, ended, with_flow, with_key, ink}

-- ---- what every step leaves true, every script does

unfoldable noting : ℕ → Pen → Pen
noting m p = page (with_inline m p.w) p.out

unfoldable rawing : Pen → Pen
rawing p = page (with_raw (p.w.len + 1) p.w) p.out

record Stable (P : Pen → Type 0) : Type 0 where
  one : (p : Pen) (b : ℕ) → P p → P (put1 p b)
  note : (p : Pen) (m : ℕ) → P p → P (noting m p)
  raw : (p : Pen) → P p → P (rawing p)

module _ (P : Pen → Type 0) (h : Stable P) where
  either : (b : Bool) (p q : Pen) → P p → P q → P (when b then p else q)
  either true p q x y = x
  either false p q x y = y

  puts-stable : (t : Bytes) (p : Pen) → P p → P (puts t p)
  unfolding puts
  puts-stable [] p x = x
  puts-stable (b ∷ t) p x = puts-stable t (put1 p b) (h.one p b x)

  note-stable : (place : ℕ) (c : Option Inline) (p : Pen) → P p → P (note_of place c p)
  unfolding note_of noted noting
  note-stable place none p x = x
  note-stable place (some c) p x =
      either (eqb p.w.inline (place + 1)) p _ x (h.note (puts (inline_text c) p) (place + 1) (puts-stable (inline_text c) p x))

  raw-stable : (t : Bytes) (p : Pen) → P p → P (rawed t p)
  unfolding rawed rawing
  raw-stable t p x = let y = puts-stable t p x in either (ends_closed t) (puts t p) _ y (h.raw (puts t p) y)

  ink-stable : (s : Settings) (a : Script) (p : Pen) → P p → P (ink s a p)
  unfolding ink line_ended
  ink-stable s (put k t) p x = puts-stable t p x
  ink-stable s end_line p x = either (eqb p.w.last LF) p (put1 p LF) x (h.one p LF x)
  ink-stable s (comment place c) p x = note-stable place c p x
  ink-stable s (replay place t) p x = raw-stable t p x
  ink-stable s (leaf place flow key t y i) p x = puts-stable (scalar_bytes s flow key t y i p.w.column) p x
  ink-stable s (comma key i) p x = puts-stable (separator s key i p.w.column) p x
  ink-stable s (a >> b) p x = ink-stable s b (ink s a p) (ink-stable s a p x)

-- ---- what stays as it was

-- a number that no step changes
record Steady (f : Pen → ℕ) : Type 0 where
  one : (p : Pen) (b : ℕ) → f (put1 p b) ≡ f p
  note : (p : Pen) (m : ℕ) → f (noting m p) ≡ f p
  raw : (p : Pen) → f (rawing p) ≡ f p

module _ (f : Pen → ℕ) (h : Steady f) where
  steady : (n : ℕ) → Stable (λ p. f p ≡ n)
  steady n = record { one = λ p b e. h.one p b ∙ e; note = λ p m e. h.note p m ∙ e; raw = λ p e. h.raw p ∙ e }

  ink-steady : (s : Settings) (a : Script) (p : Pen) → f (ink s a p) ≡ f p
  ink-steady s a p = ink-stable (λ q. f q ≡ f p) (steady (f p)) s a p refl

flow-steady : Steady (λ p. p.w.flow)
unfolding put1 noting rawing with_inline with_raw
flow-steady = record { one = λ p b. refl; note = λ p m. refl; raw = λ p. refl }

key-steady : Steady (λ p. p.w.key)
unfolding put1 noting rawing with_inline with_raw
key-steady = record { one = λ p b. refl; note = λ p m. refl; raw = λ p. refl }

length-steady : Steady (λ p. length p.out)
unfolding put1 noting rawing
length-steady = record { one = λ p b. length-set p.out p.w.len b; note = λ p m. refl; raw = λ p. refl }

pub ink-flow : (s : Settings) (a : Script) (p : Pen) → (ink s a p).w.flow ≡ p.w.flow
ink-flow s a p = ink-steady _ flow-steady s a p

pub ink-key : (s : Settings) (a : Script) (p : Pen) → (ink s a p).w.key ≡ p.w.key
ink-key s a p = ink-steady _ key-steady s a p

pub ink-length : (s : Settings) (a : Script) (p : Pen) → length (ink s a p).out ≡ length p.out
ink-length s a p = ink-steady _ length-steady s a p

-- ---- flow depth and key mark, which no step looks at

-- a change of the pen that no step sees
record Unseen (f : Pen → Pen) : Type 0 where
  one : (p : Pen) (b : ℕ) → put1 (f p) b ≡ f (put1 p b)
  note : (p : Pen) (m : ℕ) → noting m (f p) ≡ f (noting m p)
  raw : (p : Pen) → rawing (f p) ≡ f (rawing p)
  last : (p : Pen) → (f p).w.last ≡ p.w.last
  inline : (p : Pen) → (f p).w.inline ≡ p.w.inline
  column : (p : Pen) → (f p).w.column ≡ p.w.column

module _ (f : Pen → Pen) (h : Unseen f) where
  choice : (b c : Bool) (p q x y : Pen) → b ≡ c → p ≡ f x → q ≡ f y → (when b then p else q) ≡ f (when c then x else y)
  choice b c p q x y e m n = rw e (go c)
    where
      go : (c : Bool) → (when c then p else q) ≡ f (when c then x else y)
      go true = m
      go false = n

  puts-unseen : (t : Bytes) (p : Pen) → puts t (f p) ≡ f (puts t p)
  unfolding puts
  puts-unseen [] p = refl
  puts-unseen (b ∷ t) p = ap (puts t) (h.one p b) ∙ puts-unseen t (put1 p b)

  line-unseen : (p : Pen) → line_ended (f p) ≡ f (line_ended p)
  unfolding line_ended
  line-unseen p = choice _ _ (f p) (put1 (f p) LF) p (put1 p LF) (ap (λ (n : ℕ). eqb n LF) (h.last p)) refl (h.one p LF)

  note-unseen : (place : ℕ) (c : Option Inline) (p : Pen) → note_of place c (f p) ≡ f (note_of place c p)
  unfolding note_of noted noting
  note-unseen place none p = refl
  note-unseen place (some c) p =
      choice _ _ (f p) (noting (place + 1) (puts (inline_text c) (f p))) p (noting (place + 1) (puts (inline_text c) p))
      (ap (λ (n : ℕ). eqb n (place + 1)) (h.inline p))
      refl
      (ap (noting (place + 1)) (puts-unseen (inline_text c) p) ∙ h.note (puts (inline_text c) p) (place + 1))

  raw-unseen : (t : Bytes) (p : Pen) → rawed t (f p) ≡ f (rawed t p)
  unfolding rawed rawing
  raw-unseen t p =
      let e = puts-unseen t p in
      choice (ends_closed t) _ (puts t (f p)) (rawing (puts t (f p))) (puts t p) (rawing (puts t p)) refl e (ap rawing e ∙ h.raw (puts t p))

  ink-unseen : (s : Settings) (a : Script) (p : Pen) → ink s a (f p) ≡ f (ink s a p)
  unfolding ink
  ink-unseen s (put k t) p = puts-unseen t p
  ink-unseen s end_line p = line-unseen p
  ink-unseen s (comment place c) p = note-unseen place c p
  ink-unseen s (replay place t) p = raw-unseen t p
  ink-unseen s (leaf place flow key t y i) p =
      ap (λ (c : ℕ). puts (scalar_bytes s flow key t y i c) (f p)) (h.column p) ∙ puts-unseen (scalar_bytes s flow key t y i p.w.column) p
  ink-unseen s (comma key i) p = ap (λ (c : ℕ). puts (separator s key i c) (f p)) (h.column p) ∙ puts-unseen (separator s key i p.w.column) p
  ink-unseen s (a >> b) p = ap (ink s b) (ink-unseen s a p) ∙ ink-unseen s b (ink s a p)

flow-unseen : (n : ℕ) → Unseen (with_flow n)
unfolding with_flow put1 noting rawing with_inline with_raw column_after
flow-unseen n = record { one = λ p b. refl; note = λ p m. refl; raw = λ p. refl; last = λ p. refl; inline = λ p. refl; column = λ p. refl }

key-unseen : (n : ℕ) → Unseen (with_key n)
unfolding with_key put1 noting rawing with_inline with_raw column_after
key-unseen n = record { one = λ p b. refl; note = λ p m. refl; raw = λ p. refl; last = λ p. refl; inline = λ p. refl; column = λ p. refl }

pub ink-with-flow : (s : Settings) (a : Script) (n : ℕ) (p : Pen) → ink s a (with_flow n p) ≡ with_flow n (ink s a p)
ink-with-flow s a n p = ink-unseen (with_flow n) (flow-unseen n) s a p

pub ink-with-key : (s : Settings) (a : Script) (n : ℕ) (p : Pen) → ink s a (with_key n p) ≡ with_key n (ink s a p)
ink-with-key s a n p = ink-unseen (with_key n) (key-unseen n) s a p

-- set to what it was; set twice
pub with-flow-back : (p : Pen) → with_flow p.w.flow p ≡ p
unfolding with_flow
with-flow-back p = refl

pub with-key-back : (p : Pen) → with_key p.w.key p ≡ p
unfolding with_key
with-key-back p = refl

pub with-flow-twice : (m n : ℕ) (p : Pen) → with_flow m (with_flow n p) ≡ with_flow m p
unfolding with_flow
with-flow-twice m n p = refl

pub with-key-twice : (m n : ℕ) (p : Pen) → with_key m (with_key n p) ≡ with_key m p
unfolding with_key
with-key-twice m n p = refl

-- a script between setting a mark and setting it back
pub ink-in-flow : (s : Settings) (a : Script) (n : ℕ) (p : Pen) → with_flow p.w.flow (ink s a (with_flow n p)) ≡ ink s a p
ink-in-flow s a n p =
    let e : with_flow p.w.flow (ink s a p) ≡ ink s a p = sym (ink-with-flow s a p.w.flow p) ∙ ap (ink s a) (with-flow-back p) in
    ap (with_flow p.w.flow) (ink-with-flow s a n p) ∙ with-flow-twice p.w.flow n (ink s a p) ∙ e

pub ink-in-key : (s : Settings) (a : Script) (n : ℕ) (p : Pen) → with_key p.w.key (ink s a (with_key n p)) ≡ ink s a p
ink-in-key s a n p =
    let e : with_key p.w.key (ink s a p) ≡ ink s a p = sym (ink-with-key s a p.w.key p) ∙ ap (ink s a) (with-key-back p) in
    ap (with_key p.w.key) (ink-with-key s a n p) ∙ with-key-twice p.w.key n (ink s a p) ∙ e

-- ---- the same of a pen that is known by an equation

pub flow-of : (s : Settings) (a : Script) (p q : Pen) → q ≡ ink s a p → q.w.flow ≡ p.w.flow
flow-of s a p q e = ap (λ (r : Pen). r.w.flow) e ∙ ink-flow s a p

pub key_of : (s : Settings) (a : Script) (p q : Pen) → q ≡ ink s a p → q.w.key ≡ p.w.key
key_of s a p q e = ap (λ (r : Pen). r.w.key) e ∙ ink-key s a p

pub length-of : (s : Settings) (a : Script) (p q : Pen) → q ≡ ink s a p → length q.out ≡ length p.out
length-of s a p q e = ap (λ (r : Pen). length r.out) e ∙ ink-length s a p

-- ---- the end of a file

pub ended-length : (p : Pen) → length (ended p).out ≡ length p.out
unfolding ended unput
ended-length p = go (eqb p.w.raw 0) (eqb p.w.len p.w.raw) (eqb p.w.last LF)
  where
    go : (a b c : Bool) → length (when a then p else when b then (when c then unput p else p) else p).out ≡ length p.out
    go true b c = refl
    go false false c = refl
    go false true true = length-set p.out (p.w.len - 1) p.w.under
    go false true false = refl

pub ended-length-of : (s : Settings) (a : Script) (p q : Pen) → q ≡ ended (ink s a p) → length q.out ≡ length p.out
ended-length-of s a p q e = ap (λ (r : Pen). length r.out) e ∙ ended-length (ink s a p) ∙ ink-length s a p
