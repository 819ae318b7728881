-- The tests of a text by one test at each place, and a scalar from its parts.
use Prim.Native.Nat.{ℕ, ◌≤◌, ◌<◌}
use native.Mathlib.Omega.{arith}
use mathlib.Core.Path.{◌≡◌, refl, sym}
use mathlib.Core.Bool.{Bool, true, false, false≢true, not, ◌&&◌, ◌||◌}
use mathlib.Core.List.{[], ◌∷◌}
use lib.ListN.{length, get_or}
use lib.Dec.{eqb, ltb}
use borrow.Author.Tests.{ne_eqb, le-ltb, lt-ltb}
use Rattle.definition.specs.Base.{Bytes, when◌then◌else◌, any, has, within}
use Rattle.definition.specs.Ascii.{':', SP}
use Rattle.definition.specs.Char.{non_printable}
use Rattle.definition.specs.Fold.{size}
use Rattle.definition.specs.Settings.{weight_of}
use Rattle.definition.specs.Scalar.{ends_key, unsafe_in_flow}
use Rattle.definition.specs.declared.Settings.{Settings}
use Rattle.laws.specs.Pieces.{is_c1, is_non, non_printable_at}
use Rattle.laws.specs.Leaf.{capable_at, quotable_at}
use Rattle.laws.specs.Computed.{all}
use Rattle.pen.specs.Pen.{Pen, put1, puts}
use Rattle.laws.specs.Somewhere.{some_at, any_as_some}
use Rattle.scalar.specs.Tests.{refused_at, flow_mark, unsafe_at}

-- ---- a test at each place

either : (x : Bool) → (x || true) ≡ true
either true = refl
either false = refl

-- of two tests one passes somewhere, where one of them does
any-or : (f g : ℕ → Bool) (s : Bytes) → any (λ a. f a || g a) s ≡ (any f s || any g s)
unfolding any
any-or f g [] = refl
any-or f g (a ∷ s) = go (f a) (g a) (any-or f g s)
  where
    go : (x y : Bool) → any (λ a. f a || g a) s ≡ (any f s || any g s)
        → (when x || y then true else any (λ a. f a || g a) s) ≡ ((when x then true else any f s) || (when y then true else any g s))
    go true y e = refl
    go false true e = sym (either (any f s))
    go false false e = e

some_or : (d : ℕ) (f : ℕ → Bool) (g : ℕ → ℕ → ℕ → Bool) (s : Bytes) → some_at d (λ a b c. f a || g a b c) s ≡ (any f s || some_at d g s)
unfolding any some_at
some_or d f g [] = refl
some_or d f g (a ∷ s) = go (f a) (g a (get_or s 0 d) (get_or s 1 d)) (some_or d f g s)
  where
    go : (x y : Bool) → some_at d (λ a b c. f a || g a b c) s ≡ (any f s || some_at d g s)
        → (when x || y then true else some_at d (λ a b c. f a || g a b c) s) ≡ ((when x then true else any f s) || (when y then true else some_at d g s))
    go true y e = refl
    go false true e = sym (either (any f s))
    go false false e = e

-- ---- what single quotes take

none_of : (x a b c d : Bool) → (not x && (not a && not b && not c && not d)) ≡ not (x || a || b || c || d)
none_of true a b c d = refl
none_of false true b c d = refl
none_of false false true c d = refl
none_of false false false true d = refl
none_of false false false false d = refl

pub quotable-by : (t : Bytes) → quotable_at t ≡ not (some_at 0 refused_at t)
unfolding quotable_at capable_at refused_at has
quotable-by t =
    rw (
      some_or 0 (λ a. eqb 39 a || eqb 10 a || eqb 13 a || (ltb a 0x20 || eqb a 0x7f)) non_printable_at t,
      any-or (λ a. eqb 39 a || eqb 10 a || eqb 13 a) (λ a. ltb a 0x20 || eqb a 0x7f) t,
      any-or (λ a. eqb 39 a || eqb 10 a) (eqb 13) t,
      any-or (eqb 39) (eqb 10) t,
      any_as_some non_printable_at t,
    )
    (none_of (any (eqb 39) t) (any (eqb 10) t) (any (eqb 13) t) (any (λ b. ltb b 0x20 || eqb b 0x7f) t) (some_at 0 non_printable_at t))

-- how the program asks
abbrev pub low : ℕ → Bool
low a = ltb a 0x20 || eqb a 39 || eqb a 0x7f

abbrev same : Bool → Bool → Bool
same true b = b
same false b = not b

same-is : (a b : Bool) → same a b ≡ true → a ≡ b
same-is true b e = sym e
same-is false true e = absurd (false≢true e)
same-is false false e = refl

pub refused_low : (a b c : ℕ) → a < 0x80 → refused_at a b c ≡ low a
unfolding refused_at non_printable_at non_printable within
refused_low a b c h =
    rw (lt-ltb a 0x80 h)
    (sym (same-is _ _ (all (λ k. same (low k) (eqb 39 k || eqb 10 k || eqb 13 k || (ltb k 0x20 || eqb k 0x7f) || non_printable k)) 0x80 refl a h)))

pub refused_high : (a b c : ℕ) → 0x80 ≤ a → refused_at a b c ≡ (is_c1 a b || is_non a b c)
unfolding refused_at non_printable_at
refused_high a b c h =
    rw (
      ne_eqb 39 a (λ (e : 39 ≡ a). omega arith),
      ne_eqb 10 a (λ (e : 10 ≡ a). omega arith),
      ne_eqb 13 a (λ (e : 13 ≡ a). omega arith),
      le-ltb a 0x20 (omega arith),
      ne_eqb a 0x7f (λ (e : a ≡ 0x7f). omega arith),
      le-ltb a 0x80 h,
    )

-- ---- what is safe in flow

ends_some : (s : Bytes) → ends_key s ≡ some_at SP (λ a b c. eqb a ':' && eqb b SP) s
unfolding ends_key some_at
ends_some [] = refl
ends_some (a ∷ s) = rw (ends_some s)

any-marks : (t : Bytes) → any flow_mark t ≡ (has 44 t || has 91 t || has 93 t || has 123 t || has 125 t)
unfolding flow_mark has
any-marks t =
    rw (
      any-or (λ a. eqb 44 a || eqb 91 a || eqb 93 a || eqb 123 a) (eqb 125) t,
      any-or (λ a. eqb 44 a || eqb 91 a || eqb 93 a) (eqb 123) t,
      any-or (λ a. eqb 44 a || eqb 91 a) (eqb 93) t,
      any-or (eqb 44) (eqb 91) t,
    )

pub unsafe-by : (t : Bytes) → unsafe_in_flow t ≡ some_at SP unsafe_at t
unfolding unsafe_in_flow unsafe_at
unsafe-by t = rw (some_or SP flow_mark (λ a b c. eqb a ':' && eqb b SP) t, any-marks t, ends_some t)

-- ---- every byte takes one column

pub size_length : (s : Settings) (t : Bytes) → size (weight_of s) t ≡ length t
unfolding size weight_of
size_length s [] = refl
size_length s (b ∷ t) = rw (size_length s t) (omega arith)

-- ---- a separator, byte after byte

pub comma-break : (x : Bytes) (P P₁ P₂ P₃ : Pen) → P₁ ≡ put1 P 44 → P₂ ≡ put1 P₁ 10 → P₃ ≡ puts x P₂ → P₃ ≡ puts (44 ∷ 10 ∷ x) P
unfolding puts
comma-break x P P₁ P₂ P₃ a b c = rw (c, b, a)

pub comma-space : (P P₁ P₂ : Pen) → P₁ ≡ put1 P 44 → P₂ ≡ put1 P₁ 32 → P₂ ≡ puts (44 ∷ 32 ∷ []) P
unfolding puts
comma-space P P₁ P₂ a b = rw (b, a)
