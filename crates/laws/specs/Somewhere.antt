-- A test that looks at a place of a text and the two bytes after it, and whether it passes at some place.
use Rattle.std.specs.Prelude.{ℕ, suc, ◌+◌, ◌<◌, ◌≤◌, ◌^◌, ◌≡◌, Bool, true, false, [], ◌∷◌, length, drop, get_or}
use Rattle.std.proofs.Common.{refl, sym, ap, ◌∙◌, arith, add-one, drop_of_length-le}
use Rattle.std.proofs.Math.Seq.{drop-cons, get_or-drop}
use Rattle.definition.specs.Base.{Bytes, when◌then◌else◌}
use Rattle.laws.specs.Places.{any_at}

-- the test passes at some place; `d` stands past the end
unfoldable pub some_at : ℕ → (ℕ → ℕ → ℕ → Bool) → Bytes → Bool
some_at d f [] = false
some_at d f (a ∷ s) = let r = some_at d f s in when f a (get_or s 0 d) (get_or s 1 d) then true else r

pub any_as_some : (f : ℕ → ℕ → ℕ → Bool) (s : Bytes) → any_at f s ≡ some_at 0 f s
unfolding any_at some_at
any_as_some f [] = refl
any_as_some f (a ∷ s) = rw (any_as_some f s)

-- of three bytes, a call that may give `r` gives what the test says
pub record Computes (calls : ℕ → ℕ → ℕ → Bool → Type 0) (f : ℕ → ℕ → ℕ → Bool) : Type 0 where
  pub gives : (a b c : ℕ) (r : Bool) → a < 2 ^ 8 → b < 2 ^ 8 → c < 2 ^ 8 → calls a b c r → r ≡ f a b c

-- carried from place to place
module _ (d : ℕ) (f : ℕ → ℕ → ℕ → Bool) (s : Bytes) (i b c : ℕ) (here : i < length s) (is_b : b ≡ get_or s (i + 1) d) (is_c : c ≡ get_or s (i + 2) d) where
  place : some_at d f (drop i s) ≡ (when f (get_or s i 0) b c then true else some_at d f (drop (i + 1) s))
  unfolding some_at
  place =
      let x : get_or (drop (suc i) s) 0 d ≡ get_or s (i + 1) d = get_or-drop (suc i) s 0 d ∙ ap (λ (n : ℕ). get_or s n d) (omega arith) in
      let y : get_or (drop (suc i) s) 1 d ≡ get_or s (i + 2) d = get_or-drop (suc i) s 1 d ∙ ap (λ (n : ℕ). get_or s n d) (omega arith) in
      rw (drop-cons s i 0 here, x, y, is_b, is_c, add-one)

  pub found_at : f (get_or s i 0) b c ≡ true → some_at d f (drop i s) ≡ true
  found_at e = place ∙ rw e

  pub passed_at : f (get_or s i 0) b c ≡ false → some_at d f (drop (i + 1) s) ≡ some_at d f (drop i s)
  passed_at e = sym (place ∙ rw e)

pub none_at : (d : ℕ) (f : ℕ → ℕ → ℕ → Bool) (s : Bytes) (i : ℕ) → length s ≤ i → some_at d f (drop i s) ≡ false
unfolding some_at
none_at d f s i h = rw (drop_of_length-le s h)
