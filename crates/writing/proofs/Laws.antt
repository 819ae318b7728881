-- Laws of the calls: from what their parts do to the definition's outcome.
-- Assumes nothing.
use mathlib.Core.Path.{◌≡◌, refl, sym, ap, ◌∙◌}
use Prim.Native.Nat.{ℕ, ◌<◌, ◌≤◌}
use native.Mathlib.Omega.{arith}
use mathlib.Core.Bool.{Bool, true, false}
use mathlib.Core.List.{List, [], ◌∷◌}
use lib.ListN.{length, replicate}
use Rattle.std.specs.Prelude.{Ok, Err}
use Rattle.definition.specs.Base.{Bytes}
use Rattle.definition.specs.Tree.{Node}
use Rattle.definition.specs.Deck.{got, read_deck}
use Rattle.definition.specs.Calls.{no_room}
use Rattle.definition.specs.declared.Refusal.{Refusal}
use Rattle.definition.specs.declared.Settings.{Settings}
use Rattle.node.specs.Total.{trees_of}
use Rattle.judge.specs.Judge.{told as judged}
use Rattle.pen.specs.declared.Writer.{Writer}
use Rattle.pen.specs.Pen.{Fields, Pen, fields, page, pen, ink, ended}
use Rattle.pen.specs.Shown.{begun}
use Rattle.scripts.specs.Keep.{ended-length-of}
use Rattle.agree.specs.Accepted.{Accepted}
use Rattle.agree.proofs.Accepted.{one-tree}
use Rattle.told.specs.Outcome.{Settled, Small, Judged, one-judged, all-judged, lent, told}
use Rattle.told.proofs.Outcome.{one-refused-8, told-fits, told_over, one_told, all_told}
use Rattle.layout.specs.Calm.{Calm}
use Rattle.document.specs.Root.{begin}
use Rattle.answers.specs.declared.Answer.{Answer}
use Rattle.answers.specs.Answer.{answer_of, outcome_of, refusal, refusal_is}
use Rattle.answers.specs.Admitted.{Says, Admits, admit_of, said}
use Rattle.writing.specs.Written.{written, script_of, Tells}

module _ (s : Settings) (deck pool orig : Bytes) where
  -- both calls test limits and deck first
  both-judged : (all : Bool) → Judged s (written s all)
  unfolding written
  both-judged true = all-judged s
  both-judged false = one-judged s

  -- ---- refusals

  pub refused-so :
      (all : Bool) (r : Refusal) → judged (Err r) ≡ admit_of s deck pool (length orig) 0 → outcome_of (answer_of (Err r)) orig [] ≡ written s all (lent deck pool orig)
  unfolding judged Says
  refused-so all r e =
      refusal_is (lent deck pool orig) _ _ _ refl ∙ sym ((said s (lent deck pool orig) _ _ e refl).refuses (written s all) (both-judged all))

  pub admits : (n : ℕ) → judged (Ok n) ≡ admit_of s deck pool (length orig) 0 → Admits s (lent deck pool orig) n
  unfolding judged Says
  admits n e = said s (lent deck pool orig) _ _ e refl

  module _ (z : Settled s) (l : Small (lent deck pool orig)) (all : Bool) (n : ℕ) (g : Accepted deck pool n) where
    pub not-one : all ≡ false → (n ≡ 1 → ⊥) → outcome_of (refusal 8 0) orig [] ≡ written s all (lent deck pool orig)
    unfolding written
    not-one e h =
        rw e (refusal_is (lent deck pool orig) 8 0 _ refl ∙ sym (one-refused-8 s (lent deck pool orig) (trees_of deck pool) g.end z l g.read (λ q. h (sym g.count ∙ q))))

    -- ---- the emission

    pub begin-at : (w : Writer) → fields w ≡ begun s → Calm s deck pool (pen w orig) 0 0
    begin-at w f = rw f (begin s deck pool orig l.deck l.pool l.output z.indent)

    module _ (q : Pen) where
      one-written : n ≡ 1 → q ≡ ended (ink s (script_of s deck pool false) (page (begun s) orig)) → told q (lent deck pool orig) ≡ written s false (lent deck pool orig)
      unfolding written script_of
      one-written o e =
          let c : read_deck deck pool ≡ got (_ ∷ []) g.end = g.read ∙ ap (λ (ns : List Node). got ns g.end) (one-tree deck pool (g.count ∙ o)) in
          sym (one_told s deck pool orig z l _ g.end c q e)

      all-written : q ≡ ended (ink s (script_of s deck pool true) (page (begun s) orig)) → told q (lent deck pool orig) ≡ written s true (lent deck pool orig)
      unfolding written script_of
      all-written e = sym (all_told s deck pool orig z l (trees_of deck pool) g.end g.read q e)

      both-written : (all ≡ false → n ≡ 1) → q ≡ ended (ink s (script_of s deck pool all) (page (begun s) orig)) → told q (lent deck pool orig) ≡ written s all (lent deck pool orig)
      both-written = go all
        where
          go : (all : Bool) → (all ≡ false → n ≡ 1) → q ≡ ended (ink s (script_of s deck pool all) (page (begun s) orig)) → told q (lent deck pool orig) ≡ written s all (lent deck pool orig)
          go true o e = all-written e
          go false o e = one-written (o refl) e

    pub emitted :
        (w v : Writer) (out out' : Bytes) (r : Answer) → (all ≡ false → n ≡ 1) → fields w ≡ begun s
        → pen v out ≡ ended (ink s (script_of s deck pool all) (pen w orig)) → Tells (pen v out) r out' → outcome_of r out' [] ≡ written s all (lent deck pool orig)
    emitted w v out out' r o f q t =
        let u : pen v out ≡ ended (ink s (script_of s deck pool all) (page (begun s) orig)) = q ∙ ap (λ (x : Fields). ended (ink s (script_of s deck pool all) (page x orig))) f in
        t.tells deck pool orig (ended-length-of s (script_of s deck pool all) (pen w orig) (pen v out) q) ∙ both-written (pen v out) o u

-- ---- the end of a run

pub tells-over : (q : Pen) (n : ℕ) → n ≡ q.w.len → length q.out < n → Tells q (refusal 10 0) (replicate (length q.out) 0)
unfolding outcome_of refusal no_room
tells-over q n l h = record { tells = λ deck pool orig e. sym (told_over q (lent deck pool orig) (let f : length q.out ≡ length orig = e in omega (arith, f, l, h)) ∙ rw e) }

pub tells-fits : (q : Pen) (n : ℕ) → n ≡ q.w.len → n ≤ length q.out → Tells q (record { number = 0; place = 0; length = n; count = 0; modified = false }) q.out
unfolding outcome_of
tells-fits q n l h = record { tells = λ deck pool orig e. sym (told-fits q (lent deck pool orig) (let f : length q.out ≡ length orig = e in omega (arith, f, l, h)) ∙ rw l) }
