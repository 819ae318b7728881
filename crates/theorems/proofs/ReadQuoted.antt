-- Quoted text, folded or not, is read as its body between quotes: joining the lines undoes folding.
use Rattle.std.specs.Prelude.{ℕ, zero, suc, ◌+◌, ◌≤◌, ◌≡◌, Bool, get_or, eqb, ltb}
use native.Mathlib.Omega.{arith}
use Rattle.std.proofs.Math.Path.{refl}
use Rattle.std.proofs.Common.{sym}
use Rattle.std.proofs.Math.Bool.{true, false, not}
use Rattle.std.proofs.lemmas.Bool.{false≢true}
use mathlib.Core.List.{[], ◌∷◌, ◌++◌, append_assoc}
use borrow.Author.Tests.{ne_eqb}
use Rattle.definition.specs.Base.{Bytes, when◌then◌else◌, spaces}
use Rattle.definition.specs.Ascii.{LF, SP}
use Rattle.definition.specs.Fold.{Folding, breakable, ahead, folded, fold}
use Rattle.definition.specs.Settings.{folds}
use Rattle.definition.specs.Scalar.{quote_of, body_of, quoted, quoted_folded, styled_quotes}
use Rattle.definition.specs.ReadBack.{is_json, joined, Taken, reads, read_quoted}
use Rattle.definition.specs.declared.Settings.{Settings}
use Rattle.laws.specs.Tests.{Every, none, more, every_append, every-as, none_any}
use Rattle.laws.specs.Folded.{break-space, break-next}
use Rattle.theorems.specs.ReadQuoted.{Clear, Fits, break, byte, fits-cr, fits-json, breaks-same, Laid}

clear-joins : {s : Bytes} → Clear s → (z : Bytes) → joined false (s ++ z) ≡ s ++ joined false z
unfolding joined
clear-joins none z = refl
clear-joins (more {x = b} h hs) z = rw (ne_eqb b LF (λ e. omega arith), clear-joins hs z)

pub clear-laid : {s : Bytes} → Clear s → Laid s s
clear-laid h = record { fits = every-as (λ b l. byte l) h; joins = clear-joins h }

-- ---- folded text

spaces-fit : (n : ℕ) → Every Fits (spaces n)
unfolding spaces
spaces-fit zero = none
spaces-fit (suc n) = more (byte {b = SP} (omega arith)) (spaces-fit n)

spaces-joined : (n : ℕ) (z : Bytes) → joined true (spaces n ++ z) ≡ joined true z
unfolding joined spaces
spaces-joined zero z = refl
spaces-joined (suc n) z = spaces-joined n z

module _ (f : Folding) where
  folded_fits : {s : Bytes} → Clear s → (after : Bool) (col : ℕ) → Every Fits (folded f after col s)
  unfolding folded
  folded_fits none after col = none
  folded_fits (more {x = b} {s = s} h hs) after col =
      go (breakable after b s) (ltb f.width (col + 1 + ahead f.weight true s)) (folded_fits hs)
    where
      go : (t u : Bool) → ((after : Bool) (col : ℕ) → Every Fits (folded f after col s))
          → Every Fits
          (when t
          then (when u then LF ∷ (spaces f.indent ++ folded f true f.indent s) else SP ∷ folded f true (col + 1) s)
          else b ∷ folded f (eqb b SP) (col + f.weight b) s)
      go true true r = more break (every_append (spaces-fit f.indent) (r true f.indent))
      go true false r = more (byte {b = SP} (omega arith)) (r true (col + 1))
      go false u r = more (byte h) (r (eqb b SP) (col + f.weight b))

  -- after a break the text goes on with something that is no space
  goes_on-joined : {s : Bytes} → Clear s → (col : ℕ) (z : Bytes) → eqb (get_or s 0 SP) SP ≡ false → joined true (folded f true col s ++ z) ≡ joined false (folded f true col s ++ z)
  unfolding folded joined breakable
  goes_on-joined none col z e = absurd (false≢true (sym e))
  goes_on-joined (more {x = b} h hs) col z e = rw (ne_eqb b LF (λ e. omega arith), e)

  folded-joins : {s : Bytes} → Clear s → (after : Bool) (col : ℕ) (z : Bytes) → joined false (folded f after col s ++ z) ≡ s ++ joined false z
  unfolding folded joined
  folded-joins none after col z = refl
  folded-joins (more {x = b} {s = s} h hs) after col z =
      go (breakable after b s) refl (ltb f.width (col + 1 + ahead f.weight true s)) (λ (after : Bool) (col : ℕ). folded-joins hs after col z)
    where
      go : (t : Bool) → breakable after b s ≡ t → (u : Bool) → ((after : Bool) (col : ℕ) → joined false (folded f after col s ++ z) ≡ s ++ joined false z)
          → joined false
          ((when t
          then (when u then LF ∷ (spaces f.indent ++ folded f true f.indent s) else SP ∷ folded f true (col + 1) s)
          else b ∷ folded f (eqb b SP) (col + f.weight b) s) ++ z)
          ≡ b ∷ (s ++ joined false z)
      go true e true r =
          rw (
            append_assoc (spaces f.indent) (folded f true f.indent s) z,
            spaces-joined f.indent (folded f true f.indent s ++ z),
            goes_on-joined hs f.indent z (break-next after b s e),
            r true f.indent,
            break-space after b s e,
          )
      go true e false r = rw (r true (col + 1), break-space after b s e)
      go false e u r = rw (ne_eqb b LF (λ e. omega arith), r (eqb b SP) (col + f.weight b))

  pub fold-laid : {s : Bytes} → Clear s → (start : ℕ) → Laid (fold f start s) s
  unfolding fold
  fold-laid h start = record { fits = folded_fits h true start; joins = folded-joins h true start }

-- ---- between quotes

module _ {S : Type 0} (step : S → ℕ → Taken S) (final : S → Bool) (from : S) where
  laid-read : (q : ℕ) (x s : Bytes) → 0x20 ≤ q → Laid x s → read_quoted step final from (q ∷ (x ++ q ∷ [])) ≡ reads step final from (q ∷ (s ++ q ∷ []))
  unfolding read_quoted
  laid-read q x s h l =
      let all : Every Fits (q ∷ (x ++ q ∷ [])) = more (byte h) (every_append l.fits (more (byte h) none)) in
      rw (breaks-same (every-as fits-cr all), none_any (λ b. not (is_json b)) (every-as fits-json all))
      (unfold joined in rw (ne_eqb q LF (λ e. omega arith), l.joins (q ∷ []), ne_eqb q LF (λ e. omega arith)))

  -- WHAT THE EMITTER WRITES IN QUOTES IS READ AS THE BODY BETWEEN QUOTES, at any width and column, in a key or not
  pub styled-read : (o : Settings) (key single : Bool) (t : Bytes) (col : ℕ) → Clear (body_of single t)
      → read_quoted step final from (styled_quotes o key single t col) ≡ reads step final from (quoted single t)
  unfolding styled_quotes quoted_folded quoted
  styled-read o key single t col h = go (folds o key)
    where
      quote-high : (single : Bool) → 0x20 ≤ quote_of single
      quote-high true = unfold quote_of in omega arith
      quote-high false = unfold quote_of in omega arith

      go : (b : Bool) → read_quoted step final from (when b then quoted_folded o single t col else quoted single t) ≡ reads step final from (quoted single t)
      go true = laid-read (quote_of single) _ (body_of single t) (quote-high single) (fold-laid _ h _)
      go false = laid-read (quote_of single) _ (body_of single t) (quote-high single) (clear-laid h)
