-- What the limits and the judge say of a call, whatever call it is.
use Rattle.std.specs.Prelude.{◌≡◌, ℕ, Bool, length}
use Rattle.std.proofs.Math.Path.{refl}
use Rattle.std.proofs.Common.{sym, subst, ◌∙◌, arith, eqb-true}
use Rattle.std.proofs.Math.Bool.{true, false}
use Rattle.std.proofs.Math.Dec.{eqb}
use Rattle.std.proofs.lemmas.Bool.{eqb-false}
use Rattle.definition.specs.Base.{Bytes, when◌then◌else◌}
use Rattle.definition.specs.Deck.{read_deck}
use Rattle.definition.specs.Calls.{Lent, Outcome, refused}
use Rattle.definition.specs.declared.Settings.{Settings}
use Rattle.judge.specs.Judge.{Verdict, Good, Rejected, verdict_of}
use Rattle.agree.specs.Accepted as agreed
use Rattle.agree.proofs.Accepted as agreement
use Rattle.told.specs.Outcome.{Settled, Small, Judged}
use Rattle.told.proofs.Outcome.{refused-1, refused-2, refused-read}
use Rattle.answers.specs.Limits.{limit_of, Limited, over-1, over-2, within, limited}

-- a call that tests limits and deck first is refused so
pub record Refuses (s : Settings) (x : Lent) (n p : ℕ) : Type 0 where
  pub refuses : (call : Lent → Outcome) → Judged s call → call x ≡ refused n p x

-- nothing is over its limit, and the deck is read into so many trees
pub record Admits (s : Settings) (x : Lent) (n : ℕ) : Type 0 where
  pub settled : Settled s
  pub small : Small x
  pub accepted : agreed.Accepted x.deck x.pool n

unfoldable pub Says : Settings → Lent → Verdict → Type 0
Says s x (Good n) = Admits s x n
Says s x (Rejected n p) = Refuses s x n p

-- refusals 1 to 7, or how many trees
unfoldable pub admit_of : Settings → Bytes → Bytes → ℕ → ℕ → Verdict
admit_of s deck pool room entries =
    let n = limit_of s (length deck) (length pool) room entries in
    let read = verdict_of (read_deck deck pool) in
    when eqb n 0 then read else Rejected n 0

module _ (s : Settings) (x : Lent) where
  over-says : (n : ℕ) → Limited s x n → (n ≡ 0 → ⊥) → Says s x (Rejected n 0)
  unfolding Says
  over-says n (over-1 z) h = record { refuses = λ call j. refused-1 j x z }
  over-says n (over-2 z l) h = record { refuses = λ call j. refused-2 j x z l }
  over-says n (within z l) h = absurd (h refl)

  read-says : (n : ℕ) → Limited s x n → n ≡ 0 → (v : Verdict) → v ≡ verdict_of (read_deck x.deck x.pool) → Says s x v
  unfolding Says
  read-says n (over-1 z) h v e = absurd (omega arith)
  read-says n (over-2 z l) h v e = absurd (omega arith)
  read-says n (within z l) h (Good k) e = record { settled = z; small = l; accepted = agreement.accepted x.deck x.pool k (sym e) }
  read-says n (within z l) h (Rejected k p) e =
      record { refuses = λ call j. refused-read j x k p z l (agreement.refused x.deck x.pool k p (sym e)) }

  pub admit-says : Says s x (admit_of s x.deck x.pool (length x.output) (length x.list))
  unfolding admit_of
  admit-says = go _ (limited s x) (eqb (limit_of s (length x.deck) (length x.pool) (length x.output) (length x.list)) 0) refl
    where
      go : (n : ℕ) → Limited s x n → (b : Bool) → eqb n 0 ≡ b → Says s x (when b then verdict_of (read_deck x.deck x.pool) else Rejected n 0)
      go n l true e = read-says n l (eqb-true _ _ e) _ refl
      go n l false e = over-says n l (eqb-false _ _ e)

  -- of a verdict that is this one
  pub said : (v w : Verdict) → v ≡ admit_of s x.deck x.pool (length x.output) (length x.list) → v ≡ w → Says s x w
  said v w e f = subst (Says s x) (sym e ∙ f) admit-says
