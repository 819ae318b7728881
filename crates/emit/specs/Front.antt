-- What stands at the front of an output.
use Rattle.std.specs.Prelude.{◌≡◌, refl, ℕ, suc, ◌+◌, ◌≤◌, ◌<◌, [], ◌∷◌, ◌++◌, length, take, get_or, set, replicate}
use Rattle.std.proofs.Common.{sym, ap, subst, ◌∙◌, arith, append_assoc, append-nil, length-append, take_all, take-suc, take-suc-set}
use Rattle.std.proofs.lemmas.List.{length-replicate}
use Rattle.definition.specs.Base.{Bytes}

-- an output as the emit program lends it
unfoldable pub blank : Bytes
blank = replicate 65536 0

pub blank-length : length blank ≡ 65536
unfolding blank
blank-length = length-replicate {A = ℕ} 65536 0

-- a text stands there, and no more is to be shown
pub record Shows (t : Bytes) (n : ℕ) (out : Bytes) : Type 0 where
  pub fits : n ≤ length out
  pub bytes : take n out ≡ t

-- a text was added after the first `at` bytes, and ends at `end`
pub record Adds (t : Bytes) (at : ℕ) (old : Bytes) (end : ℕ) (new : Bytes) : Type 0 where
  pub ends : end ≡ at + length t
  pub bytes : take end new ≡ take at old ++ t

pub adds-nothing : (at : ℕ) (out : Bytes) → Adds [] at out at out
adds-nothing at out = record { ends = omega arith; bytes = sym (append-nil _) }

pub adds_then : (s t : Bytes) {at mid end : ℕ} {old half new : Bytes} → Adds s at old mid half → Adds t mid half end new → Adds (s ++ t) at old end new
adds_then s t {at} {mid} {end} {old} {half} {new} a b =
    let e : mid ≡ at + length s = a.ends in
    let f : end ≡ mid + length t = b.ends in
    let l : length (s ++ t) ≡ length s + length t = length-append s t in
    record { ends = omega arith; bytes = b.bytes ∙ ap (λ (x : Bytes). x ++ t) a.bytes ∙ append_assoc (take at old) s t }

pub adds-byte : (b at : ℕ) (out : Bytes) → at + 1 ≤ length out → Adds (b ∷ []) at out (at + 1) (set out at b)
adds-byte b at out h = let e : at + 1 ≡ suc at = omega arith in record { ends = refl; bytes = rw e (take-suc-set out at b (omega arith)) }

-- a text, one byte after another
pub adds-next :
    (text : Bytes) (i at : ℕ) (old out : Bytes) → Adds (take i text) at old (at + i) out → i < length text → at + i + 1 ≤ length out
    → Adds (take (i + 1) text) at old (at + (i + 1)) (set out (at + i) (get_or text i 0))
adds-next text i at old out a h l =
    let e : i + 1 ≡ suc i = omega arith in
    let f : at + (i + 1) ≡ at + i + 1 = omega arith in
    subst (λ (t : Bytes). Adds t at old (at + (i + 1)) (set out (at + i) (get_or text i 0))) (sym (ap (λ (n : ℕ). take n text) e ∙ take-suc text i 0 h))
    (rw f (adds_then (take i text) (get_or text i 0 ∷ []) a (adds-byte (get_or text i 0) (at + i) out l)))

pub adds_none : (text : Bytes) (at : ℕ) (out : Bytes) → Adds (take 0 text) at out (at + 0) out
adds_none text at out = let e : at + 0 ≡ at = omega arith in rw e (adds-nothing at out)

pub adds-all : (text : Bytes) (i at : ℕ) (old : Bytes) (end : ℕ) (out : Bytes) → Adds (take i text) at old end out → length text ≤ i → Adds text at old end out
adds-all text i at old end out a h = subst (λ (t : Bytes). Adds t at old end out) (take_all i text h) a

pub adds-shows : (t : Bytes) {old new : Bytes} {end : ℕ} → Adds t 0 old end new → end ≤ length new → Shows t end new
adds-shows t a l = record { fits = l; bytes = a.bytes }
