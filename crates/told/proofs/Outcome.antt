-- What a call comes to, in the definition's words: refusals 1 to 8 of every call, and of a call that writes the answer or refusal 10, from the
-- pen at its end.
use Rattle.std.specs.Prelude.{◌≡◌, refl, ℕ, ◌≤◌, ◌<◌, Bool, true, ◌||◌, List, [], ◌∷◌, ltb, length}
use Rattle.std.proofs.Common.{sym, subst, ◌∙◌, arith}
use Rattle.std.proofs.Math.Bool.{false}
use borrow.Author.Tests.{lt-ltb, le-ltb, ltb-true, ltb-false}
use Rattle.definition.specs.Base.{Bytes, when◌then◌else◌}
use Rattle.definition.specs.Settings.{null_as, plain_settings}
use Rattle.definition.specs.Tree.{Node}
use Rattle.definition.specs.Pen.{Script, bytes_of}
use Rattle.definition.specs.Document.{one_document, all_documents, emit_one, emit_all}
use Rattle.definition.specs.Change.{local_modified, collect}
use Rattle.definition.specs.Deck.{fault, got, read_deck}
use Rattle.definition.specs.Calls.{Lent, Outcome, refused, no_room, over, answered, handed, limited, on_trees, on_one, over_trees, entries, bytes_of_all, write_one, write_all, write_changed, tell_modified}
use Rattle.definition.specs.declared.NullStyle.{NullStyle}
use Rattle.definition.specs.declared.NullStyle.TheVariants.{Null}
use Rattle.definition.specs.declared.Settings.{Settings}
use Rattle.definition.specs.declared.Cursor.{Cursor}
use Rattle.pen.specs.Pen.{Pen, page, ended, ink}
use Rattle.pen.specs.Shown.{Sound, begun, Leaves, leaves}
use Rattle.told.proofs.Sound.{sound-read-one, sound-read-all}
use Rattle.told.specs.Outcome.{Settled, Small, Judged, one-judged, all-judged, changed-judged, modified-judged, lent, told}

-- a test of two parts, a test of four
two : (a b : Bool) (u v : Outcome) → ((a ≡ false) × (b ≡ false) → ⊥) → (when a || b then u else v) ≡ u
two true b u v h = refl
two false true u v h = refl
two false false u v h = absurd (h (refl, refl))

four : (a b c d : Bool) (u v : Outcome) → ((a ≡ false) × (b ≡ false) × (c ≡ false) × (d ≡ false) → ⊥) → (when a || b || c || d then u else v) ≡ u
four true b c d u v h = refl
four false true c d u v h = refl
four false false c d u v h = two c d u v (λ z. h (refl, refl, z.0, z.1))

module _ (s : Settings) (x : Lent) (r : Outcome) where
  -- what `limited` tests second
  abbrev second : Outcome
  second =
      when ltb 65536 (length x.deck) || ltb 65536 (length x.pool) || ltb 1048576 (length x.output) || ltb 4096 (length x.list) then refused 2 0 x
      else r

  limited-1 : (Settled s → ⊥) → limited s x r ≡ refused 1 0 x
  unfolding limited
  limited-1 h =
      two (ltb 16 s.indent) (ltb 65535 s.width) _ second (λ z. h (record { indent = ltb-false _ _ z.0; width = ltb-false _ _ z.1 }))

  limited-on : Settled s → limited s x r ≡ second
  unfolding limited
  limited-on z = rw (le-ltb _ _ z.indent, le-ltb _ _ z.width)

  limited-2 : Settled s → (Small x → ⊥) → limited s x r ≡ refused 2 0 x
  limited-2 z h =
      limited-on z
      ∙ four (ltb 65536 (length x.deck)) (ltb 65536 (length x.pool)) (ltb 1048576 (length x.output)) (ltb 4096 (length x.list)) (refused 2 0 x) r
      (λ n. h (record { deck = ltb-false _ _ n.0; pool = ltb-false _ _ n.1; output = ltb-false _ _ n.2; list = ltb-false _ _ n.3 }))

  limited-none : Settled s → Small x → limited s x r ≡ r
  limited-none z n = limited-on z ∙ rw (le-ltb _ _ n.deck, le-ltb _ _ n.pool, le-ltb _ _ n.output, le-ltb _ _ n.list)

pub refused-1 : {s : Settings} {call : Lent → Outcome} → Judged s call → (x : Lent) → (Settled s → ⊥) → call x ≡ refused 1 0 x
unfolding over_trees
refused-1 {s} j x h = j.is x ∙ limited-1 s x _ h

pub refused-2 : {s : Settings} {call : Lent → Outcome} → Judged s call → (x : Lent) → Settled s → (Small x → ⊥) → call x ≡ refused 2 0 x
unfolding over_trees
refused-2 {s} j x z h = j.is x ∙ limited-2 s x _ z h

-- refusals 3 to 7 are the reader's
pub refused-read : {s : Settings} {call : Lent → Outcome} → Judged s call → (x : Lent) (n p : ℕ) → Settled s → Small x
    → read_deck x.deck x.pool ≡ fault n p → call x ≡ refused n p x
unfolding over_trees on_trees
refused-read {s} j x n p z l e = j.is x ∙ limited-none s x _ z l ∙ rw e

pub read-trees : {s : Settings} {call : Lent → Outcome} (j : Judged s call) (x : Lent) (ns : List Node) (c : Cursor) → Settled s → Small x
    → read_deck x.deck x.pool ≡ got ns c → call x ≡ j.of x ns
unfolding over_trees on_trees
read-trees {s} j x ns c z l e = j.is x ∙ limited-none s x _ z l ∙ rw e

-- refusal 8, of a call that wants one document
not-one : (f : Node → Outcome) (x : Lent) (ns : List Node) → (length ns ≡ 1 → ⊥) → on_one f x ns ≡ refused 8 0 x
unfolding on_one
not-one f x [] h = refl
not-one f x (n ∷ []) h = absurd (h refl)
not-one f x (n ∷ m ∷ ns) h = refl

pub one-refused-8 : (s : Settings) (x : Lent) (ns : List Node) (c : Cursor) → Settled s → Small x → read_deck x.deck x.pool ≡ got ns c
    → (length ns ≡ 1 → ⊥) → write_one s x ≡ refused 8 0 x
unfolding one-judged
one-refused-8 s x ns c z l e h = read-trees (one-judged s) x ns c z l e ∙ not-one _ x ns h

-- ---- the answer, and refusal 10

pub told-fits : (q : Pen) (x : Lent) → q.w.len ≤ length x.output
    → told q x ≡ record { number = 0; place = 0; length = q.w.len; count = 0; modified = false; list = x.list; output = q.out }
unfolding told
told-fits q x h = rw (le-ltb _ _ h)

pub told_over : (q : Pen) (x : Lent) → length x.output < q.w.len → told q x ≡ no_room 10 x
unfolding told
told_over q x h = rw (lt-ltb _ _ h)

-- a pen that leaves a text tells what becomes of the text
leaves-told : (deck pool orig t : Bytes) (q : Pen) → Leaves orig t q → handed t [] (lent deck pool orig) ≡ told q (lent deck pool orig)
unfolding handed answered over
leaves-told deck pool orig t q h = go (ltb (length orig) (length t)) refl
  where
    go : (b : Bool) → ltb (length orig) (length t) ≡ b
        → (when b then no_room 10 (lent deck pool orig) else answered t [] false (lent deck pool orig)) ≡ told q (lent deck pool orig)
    go true e = sym (told_over q (lent deck pool orig) (h.over (ltb-true _ _ e)))
    go false e =
        let l : length t ≤ length orig = ltb-false _ _ e in
        let f = h.fits l in
        sym (told-fits q (lent deck pool orig) (rw f.0 l) ∙ rw (f.0, f.1))

-- from a new writer over the slice to the end
module _ (s : Settings) (deck pool orig : Bytes) where
  script-told : (a : Script) → Sound a → (q : Pen) → q ≡ ended (ink s a (page (begun s) orig))
      → handed (bytes_of s a) [] (lent deck pool orig) ≡ told q (lent deck pool orig)
  script-told a z q e = leaves-told deck pool orig (bytes_of s a) q (subst (Leaves orig (bytes_of s a)) (sym e) (leaves s a z orig))

  module _ (z : Settled s) (l : Small (lent deck pool orig)) where
    pub all_told : (ns : List Node) (c : Cursor) → read_deck deck pool ≡ got ns c → (q : Pen)
        → q ≡ ended (ink s (all_documents s ns) (page (begun s) orig)) → write_all s (lent deck pool orig) ≡ told q (lent deck pool orig)
    unfolding all-judged emit_all
    all_told ns c e q h =
        read-trees (all-judged s) (lent deck pool orig) ns c z l e ∙ script-told (all_documents s ns) (sound-read-all deck pool s ns c e) q h

    pub one_told : (n : Node) (c : Cursor) → read_deck deck pool ≡ got (n ∷ []) c → (q : Pen)
        → q ≡ ended (ink s (one_document s false n) (page (begun s) orig)) → write_one s (lent deck pool orig) ≡ told q (lent deck pool orig)
    unfolding one-judged on_one emit_one
    one_told n c e q h =
        read-trees (one-judged s) (lent deck pool orig) (n ∷ []) c z l e ∙ script-told (one_document s false n) (sound-read-one deck pool s n c e) q h

-- ---- the other calls

pub null-settled : (n : NullStyle) → Settled (null_as n)
unfolding null_as
null-settled n = record { indent = omega arith; width = omega arith }

pub plain-settled : Settled plain_settings
unfolding plain_settings
plain-settled = null-settled Null

pub modified-refused-8 : (x : Lent) (ns : List Node) (c : Cursor) → Small x → read_deck x.deck x.pool ≡ got ns c
    → (length ns ≡ 1 → ⊥) → tell_modified x ≡ refused 8 0 x
unfolding modified-judged
modified-refused-8 x ns c l e h = read-trees modified-judged x ns c plain-settled l e ∙ not-one _ x ns h

pub modified-told : (x : Lent) (n : Node) (c : Cursor) → Small x → read_deck x.deck x.pool ≡ got (n ∷ []) c
    → tell_modified x ≡ answered [] [] (local_modified n) x
unfolding modified-judged on_one
modified-told x n c l e = read-trees modified-judged x (n ∷ []) c plain-settled l e

pub changed-told : (x : Lent) (ns : List Node) (c : Cursor) → Small x → read_deck x.deck x.pool ≡ got ns c
    → write_changed x ≡ handed (bytes_of_all (collect ns)) (entries 0 (collect ns)) x
unfolding changed-judged
changed-told x ns c l e = read-trees changed-judged x ns c plain-settled l e
