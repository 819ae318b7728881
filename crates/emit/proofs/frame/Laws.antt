-- Laws of the emit program's parts.
-- Assumes nothing.
use mathlib.Core.Path.{◌≡◌, refl, sym, ap, ◌∙◌}
use Prim.Native.Nat.{ℕ, zero, suc, ◌+◌, ◌-◌, ◌/◌, ◌%◌, ◌≤◌, ◌<◌, min}
use native.Mathlib.Omega.{arith}
use mathlib.Core.Bool.{Bool, true, false}
use lib.Dec.{ltb}
use mathlib.Core.List.{[], ◌∷◌}
use lib.ListN.{length, take, drop, length-drop, drop_of_length-le}
use lib.Seq.{take_all, drop-drop}
use borrow.Author.Tests.{lt-ltb, le-ltb, ltb-true, ltb-false, eq-eqb, ne_eqb}
use Rattle.definition.specs.Base.{Bytes}
use Rattle.definition.specs.Settings.{plain_settings}
use Rattle.definition.specs.Calls.{Outcome, outcome, emit_roundtrip_all_with}
use Rattle.definition.specs.Program.{decimal, refusal_line, shown, emit_into, program}
use Rattle.definition.specs.declared.NullStyle.TheVariants.{Null}
use Rattle.told.specs.Outcome.{lent}
use Rattle.answers.specs.declared.Answer.{Answer}
use Rattle.answers.specs.Answer.{outcome_of}
use Rattle.emit.specs.Front.{Adds, Shows, adds-nothing, adds_then, blank}
use Rattle.emit.specs.Cut.{deck_length, all-fits, stated-program, cut-program}

-- ---- digits

pub no-digits : (most n at : ℕ) (out : Bytes) → most ≡ 0 → Adds (decimal most n) at out at out
unfolding decimal
no-digits most n at out e = rw e (adds-nothing at out)

pub one-digit : (most n at end : ℕ) (old new : Bytes) → (most ≡ 0 → ⊥) → n < 10 → Adds ((48 + n % 10) ∷ []) at old end new → Adds (decimal most n) at old end new
unfolding decimal
one-digit zero n at end old new h l a = absurd (h refl)
one-digit (suc most) n at end old new h l a = rw (lt-ltb _ _ l) a

pub more-digits :
    (most n at mid end : ℕ) (old half new : Bytes) → (most ≡ 0 → ⊥) → 10 ≤ n → Adds (decimal (most - 1) (n / 10)) at old mid half
    → Adds ((48 + n % 10) ∷ []) mid half end new → Adds (decimal most n) at old end new
unfolding decimal
more-digits zero n at mid end old half new h l a b = absurd (h refl)
more-digits (suc most) n at mid end old half new h l a b =
    let e : suc most - 1 ≡ most = omega arith in
    rw (le-ltb _ _ l) (adds_then (decimal most (n / 10)) ((48 + n % 10) ∷ []) (rw e at a) b)

-- ---- what the call's answer shows

module _ (deck pool orig out : Bytes) (r : Answer) (b : orig ≡ blank) (e : outcome_of r out [] ≡ outcome (emit_roundtrip_all_with Null) (lent deck pool orig)) where
  came : outcome_of r out [] ≡ emit_into deck pool
  unfolding outcome emit_into blank plain_settings
  came = rw b at e

  pub shows-refusal : (r.number ≡ 0 → ⊥) → (n : ℕ) (new : Bytes) → Shows (refusal_line r.number r.place) n new → Shows (shown (emit_into deck pool)) n new
  unfolding shown outcome_of
  shows-refusal h n new s = rw (← came, ne_eqb _ _ h) s

  pub shows-answer : r.number ≡ 0 → length out ≡ length orig → Shows (shown (emit_into deck pool)) r.length out
  unfolding shown outcome_of emit_into blank
  shows-answer h l =
      let q : r.length ≡ (emit_into deck pool).length = ap (λ (o : Outcome). o.length) came in
      let f : (emit_into deck pool).length ≤ length blank = all-fits plain_settings (lent deck pool blank) in
      let g : length orig ≡ length blank = ap length b in
      record { fits = omega (arith, l, q, f, g); bytes = rw (← came, eq-eqb _ _ h) }

-- ---- where the input is cut

pub shows-stated : (s : Bytes) (n end : ℕ) (out : Bytes) → 4 ≤ length s → n ≡ deck_length s → 65536 < n → Shows (refusal_line 2 0) end out → Shows (program s) end out
shows-stated s n end out h e l g = rw (stated-program s h (rw e at l)) g

-- a deck that is shorter than it is said to be has no pool after it
pub shows-cut :
    (s : Bytes) (n mid end : ℕ) (out : Bytes) → 4 ≤ length s → n ≡ deck_length s → n ≤ 65536 → mid ≡ min (4 + n) (length s)
    → Shows (shown (emit_into (take (mid - 4) (drop 4 s)) (take (length s - mid) (drop mid s)))) end out → Shows (program s) end out
shows-cut s n mid end out h e l m g =
    let d : take (mid - 4) (drop 4 s) ≡ take n (drop 4 s) = deck-part (ltb (length s) (4 + n)) refl in
    let p : take (length s - mid) (drop mid s) ≡ drop n (drop 4 s) = take_all (length s - mid) (drop mid s) (rw (length-drop mid s) (omega arith)) ∙ pool-part (ltb (length s) (4 + n)) refl ∙ sym (drop-drop n 4 s) in
    rw (cut-program s h (rw e at l), ← e, ← d, ← p) g
  where
    deck-part : (b : Bool) → ltb (length s) (4 + n) ≡ b → take (mid - 4) (drop 4 s) ≡ take n (drop 4 s)
    deck-part true t =
        let o : length s < 4 + n = ltb-true _ _ t in
        let k : length (drop 4 s) ≡ length s - 4 = length-drop 4 s in
        take_all (mid - 4) (drop 4 s) (omega (arith, o, k, m)) ∙ sym (take_all n (drop 4 s) (omega (arith, o, k)))
    deck-part false t =
        let o : 4 + n ≤ length s = ltb-false _ _ t in
        let k : mid - 4 ≡ n = omega (arith, o, m) in
        ap (λ (i : ℕ). take i (drop 4 s)) k

    pool-part : (b : Bool) → ltb (length s) (4 + n) ≡ b → drop mid s ≡ drop (4 + n) s
    pool-part true t =
        let o : length s < 4 + n = ltb-true _ _ t in
        drop_of_length-le s {i = mid} (omega (arith, o, m)) ∙ sym (drop_of_length-le s {i = 4 + n} (omega (arith, o)))
    pool-part false t =
        let o : 4 + n ≤ length s = ltb-false _ _ t in
        let k : mid ≡ 4 + n = omega (arith, o, m) in
        ap (λ (i : ℕ). drop i s) k
