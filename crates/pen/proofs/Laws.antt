-- What the proofs of this crate share: the last byte of a text, and a comment's text.
use mathlib.Core.Path.{◌≡◌, refl, sym}
use Prim.Native.Nat.{ℕ, suc, ◌-◌, ◌<◌}
use native.Mathlib.Omega.{arith}
use mathlib.Core.Bool.{false, ◌||◌}
use mathlib.Core.List.{[], ◌∷◌}
use lib.ListN.{length, get_or}
use lib.Dec.{eqb}
use Rattle.std.specs.Prelude.{Some, None, slice_get}
use Rattle.std.proofs.lemmas.Option.{slice_get_within, get_or_from_slice_get, slice_get-get_or}
use Rattle.definition.specs.Base.{Bytes, is_nil}
use Rattle.definition.specs.Ascii.{LF, CR, SP, '#'}
use Rattle.definition.specs.Pen.{ends_closed, hashed}

-- the last byte of a text, where it has one
pub some_last : (t : Bytes) (b : ℕ) → Some b ≡ slice_get t (length t - 1) → (0 < length t) × (b ≡ get_or t (length t - 1) 0)
some_last t b e = (omega (arith, slice_get_within t (length t - 1) b (sym e)), sym (get_or_from_slice_get t (length t - 1) b 0 (sym e)))

pub none_last : (t : Bytes) → None ≡ slice_get t (length t - 1) → t ≡ []
none_last [] e = refl
none_last (a ∷ t) e = let h = slice_get-get_or (a ∷ t) (length (a ∷ t) - 1) 0 (omega arith) in cc

-- the test of a text is that of its last byte
last-closed : (t : Bytes) → 0 < length t → ends_closed t ≡ (eqb (get_or t (length t - 1) 0) LF || eqb (get_or t (length t - 1) 0) CR)
unfolding ends_closed
last-closed [] h = absurd (omega arith)
last-closed (b ∷ []) h = refl
last-closed (b ∷ c ∷ t) h =
    let e : length (b ∷ c ∷ t) - 1 ≡ suc (length (c ∷ t) - 1) = omega arith in
    rw e (last-closed (c ∷ t) (omega arith))

pub some_closed : (t : Bytes) (b : ℕ) → Some b ≡ slice_get t (length t - 1) → ends_closed t ≡ (eqb b LF || eqb b CR)
some_closed t b e = let h = some_last t b e in rw h.1 (last-closed t h.0)

pub none_closed : (t : Bytes) → None ≡ slice_get t (length t - 1) → ends_closed t ≡ false
unfolding ends_closed
none_closed t e = rw (none_last t e)

pub hashed-nothing : (t : Bytes) → length t ≡ 0 → hashed t ≡ '#' ∷ []
unfolding hashed is_nil
hashed-nothing [] e = refl
hashed-nothing (b ∷ t) e = absurd (omega arith)

pub hashed-text : (t : Bytes) → (length t ≡ 0 → ⊥) → hashed t ≡ '#' ∷ SP ∷ t
unfolding hashed is_nil
hashed-text [] h = absurd (h refl)
hashed-text (b ∷ t) h = refl
