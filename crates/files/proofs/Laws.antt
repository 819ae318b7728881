-- Laws of the step: what a turn over the heads comes to, how a file's writer begins and ends.
-- Assumes nothing.
use mathlib.Core.Path.{◌≡◌, sym, ap, ◌∙◌}
use Prim.Native.Nat.{ℕ, suc, ◌+◌, ◌-◌, ◌<◌, ◌≤◌}
use native.Mathlib.Omega.{arith}
use mathlib.Core.Bool.{true, false}
use mathlib.Core.List.{[], ◌++◌, append-nil}
use lib.ListN.{length, take, drop, length-drop, drop_of_length-le}
use borrow.Author.Rules.{part_to_end}
use Rattle.std.specs.Prelude.{None, Some}
use Rattle.definition.specs.Base.{Bytes}
use Rattle.definition.specs.Settings.{null_as, plain_settings}
use Rattle.definition.specs.Document.{one_document}
use Rattle.definition.specs.Calls.{no_change}
use Rattle.definition.specs.declared.Cursor.{Cursor}
use Rattle.definition.specs.declared.Settings.{Settings}
use Rattle.pen.specs.declared.Writer.{Writer}
use Rattle.pen.specs.Pen.{Fields, Pen, fields, page, pen, ended, ink}
use Rattle.pen.specs.Shown.{begun}
use Rattle.modified.specs.Files as modified
use Rattle.joints.specs.Entries.{node_at}
use Rattle.layout.specs.Calm.{Calm, calm-further}
use Rattle.document.specs.Root.{begin}
use Rattle.files.specs.declared.Walk.{Walk}
use Rattle.files.specs.declared.Made.{Made}
use Rattle.files.specs.declared.Found.{Found}
use Rattle.files.specs.Scan.{step_at, step-onward}
use Rattle.files.specs.Files.{found_or, found_from, found_at, file_pen, Step, still, made_of, file_step, is_ready, step_of, made_at, out_after, Finds}
use Rattle.files.specs.Step.{step-unready, step-none, step-file}

-- ---- heads

-- i of n heads are passed: those that are left come to what all of them do
pub record Finding (deck : Bytes) (c : Cursor) (n i : ℕ) (d : Cursor) : Type 0 where
  pub same : (pool : Bytes) → found_from deck pool (n - i) d ≡ found_from deck pool n c
  pub here : d.at ≤ length deck

module _ (deck : Bytes) (c : Cursor) (i : ℕ) (d : Cursor) where
  one-more : (n : ℕ) → i < n → n - i ≡ suc (n - (i + 1))
  one-more n h = omega arith

  pub found-stop : (e : Cursor) (j : ℕ) → Finding deck c (length deck) i d → i < length deck → e ≡ step_at deck d → modified.Files deck d (Some j) → Finds deck c (Some (record { id = j; at = d; next = e }))
  unfolding found_at found_from found_or
  found-stop e j f h q t = record { told = λ pool. rw q (rw (one-more (length deck) h, ← t.told pool) at (f.same pool)); here = f.here }

  pub found-more : (n : ℕ) (e : Cursor) → Finding deck c n i d → i < n → e ≡ step_at deck d → modified.Files deck d None → Finding deck c n (i + 1) e
  unfolding found_from found_or
  found-more n e f h q t = record { same = λ pool. rw q (rw (one-more n h, ← t.told pool) at (f.same pool)); here = rw q (step-onward deck [] d f.here).1 }

  pub found_none : Finding deck c (length deck) i d → length deck ≤ i → Finds deck c None
  unfolding found_at found_from
  found_none f h = let z : length deck - i ≡ 0 = omega arith in record { told = λ pool. rw z at (f.same pool); here = tt }

-- ---- a file

-- the part of a slice from a place on, as it is lent
abbrev pub part : ℕ → Bytes → Bytes
part start out = take (length out - start) (drop start out)

plain_step : (s : Settings) → s ≡ plain_settings → s.indent ≤ 16
unfolding plain_settings null_as
plain_step s e = rw (ap (λ (x : Settings). x.indent) e) (omega arith)

-- a file's writer begins
pub file-calm :
    (deck pool out : Bytes) (start : ℕ) (c : Cursor) (s : Settings) (w : Writer) → s ≡ plain_settings → fields w ≡ begun s
    → length deck ≤ 65536 → length pool ≤ 65536 → length out ≤ 1048576 → c.at ≤ length deck
    → Calm s deck pool (pen w (part start out)) c.at 0
file-calm deck pool out start c s w e f d p o k =
    let l : length (drop start out) ≤ 1048576 = rw (length-drop start out) (omega (arith, o)) in
    rw (part_to_end out start, f) (calm-further (begin s deck pool (drop start out) d p l (plain_step s e)) c.at (omega arith) k)

-- what it leaves
file-pen :
    (deck pool out : Bytes) (start : ℕ) (c : Cursor) (s : Settings) (w v : Writer) (to : Bytes) → s ≡ plain_settings → fields w ≡ begun s
    → pen v to ≡ ended (ink s (one_document s true (node_at deck pool c)) (pen w (part start out))) → pen v to ≡ file_pen deck pool c (drop start out)
unfolding file_pen
file-pen deck pool out start c s w v to e f q =
    q
    ∙ ap (λ (x : Bytes). ended (ink s (one_document s true (node_at deck pool c)) (pen w x))) (part_to_end out start)
    ∙ ap (λ (x : Fields). ended (ink s (one_document s true (node_at deck pool c)) (page x (drop start out)))) f
    ∙ ap (λ (x : Settings). ended (ink x (one_document x true (node_at deck pool c)) (page (begun x) (drop start out)))) e

nothing-after : (out : Bytes) (start : ℕ) → drop (length out - start) (drop start out) ≡ []
nothing-after out start = drop_of_length-le (drop start out) {i = length out - start} (rw (length-drop start out) (omega arith))

pub file-done :
    (deck pool out : Bytes) (start : ℕ) (f : Found) (s : Settings) (w v : Writer) (to : Bytes) (n : ℕ) → n ≡ (fields v).len → s ≡ plain_settings → fields w ≡ begun s
    → pen v to ≡ ended (ink s (one_document s true (node_at deck pool f.at)) (pen w (part start out)))
    → (record { change = record { id = f.id; start = start; length = n }; next = record { at = f.next; start = start + n } } ≡ (file_step deck pool out start f).made)
    × (take start out ++ (to ++ drop (length out - start) (drop start out)) ≡ (file_step deck pool out start f).out)
unfolding file_step made_of
file-done deck pool out start f s w v to n l e g q =
    let z = file-pen deck pool out start f.at s w v to e g q in (
      ap (λ (k : ℕ). made_of start k f) (l ∙ ap (λ (p : Pen). p.w.len) z),
      ap (λ (x : Bytes). take start out ++ (to ++ x)) (nothing-after out start) ∙ ap (λ (x : Bytes). take start out ++ x) (append-nil to) ∙ ap (λ (p : Pen). take start out ++ p.out) z,
    )

-- ---- the step

module _ (deck pool out : Bytes) (w : Walk) where
  abbrev Steps : Made → Bytes → Type 0
  Steps r to = (r ≡ made_at deck pool out w) × (to ≡ out_after deck pool out w)

  stayed : {r : Made} → step_of deck pool out w ≡ still out w → r ≡ record { change = no_change; next = w } → Steps r out
  unfolding made_at out_after still
  stayed q h = (h ∙ sym (ap (λ (s : Step). s.made) q), sym (ap (λ (s : Step). s.out) q))

  pub unready-still : {r : Made} → false ≡ is_ready (length deck) (length pool) (length out) w → r ≡ record { change = no_change; next = w } → Steps r out
  unready-still e h = stayed (step-unready deck pool out w (sym e)) h

  module _ (e : true ≡ is_ready (length deck) (length pool) (length out) w) where
    pub none-still : {r : Made} → Finds deck w.at None → r ≡ record { change = no_change; next = w } → Steps r out
    none-still t h = stayed (step-none deck pool out w (sym (t.told pool))) h

    pub file-stepped :
        {f : Found} {r : Made} {to : Bytes} → Finds deck w.at (Some f)
        → (r ≡ (file_step deck pool out w.start f).made) × (to ≡ (file_step deck pool out w.start f).out) → Steps r to
    unfolding made_at out_after
    file-stepped {f} t p = let q = step-file deck pool out w (sym e) f (sym (t.told pool)) in (p.0 ∙ sym (ap (λ (s : Step). s.made) q), p.1 ∙ sym (ap (λ (s : Step). s.out) q))
