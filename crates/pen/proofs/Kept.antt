-- How a writer keeps what it says in two numbers: each part of a number by itself, and what is left of the others where one is put anew.
use Prim.Native.Nat.{ℕ, zero, suc, ◌+◌, ◌-◌, ◌*◌, ◌/◌, ◌%◌, ◌<◌, ◌^◌}
use mathlib.Core.Path.{◌≡◌, refl}
use mathlib.Core.Bool.{Bool, true, false, not}
use lib.Dec.{eqb}
use native.Mathlib.Omega.{arith}
use Rattle.pen.specs.Pen.{fields}
use Rattle.pen.specs.Pen.{from_bool}
use Rattle.pen.specs.declared.Writer.{Writer}

pub record Counts (z n r i : ℕ) : Type 0 where
  pub len : z % 4194304 ≡ n
  pub raw : z / 4194304 % 8388608 ≡ r
  pub inline : z / 35184372088832 ≡ i

pub record State (z u l k t f c : ℕ) : Type 0 where
  pub under : z % 256 ≡ u
  pub last : z / 256 % 256 ≡ l
  pub key : z / 65536 % 2 ≡ k
  pub tracks : z / 131072 % 2 ≡ t
  pub flow : z / 262144 % 262144 ≡ f
  pub column : z / 68719476736 ≡ c

-- a writer says what the parts of its numbers say
pub says : (w : Writer) {n r i u l k t f c : ℕ} → Counts w.counts n r i → State w.state u l k t f c
    → fields w ≡ record { len = n; last = l; under = u; column = c; tracks = t; flow = f; key = k; inline = i; raw = r }
says w a b = rw (a.len, a.raw, a.inline, b.under, b.last, b.key, b.tracks, b.flow, b.column)

-- ---- the counts

pub same-counts : (z : ℕ) → Counts z (z % 4194304) (z / 4194304 % 8388608) (z / 35184372088832)
same-counts z = record { len = omega arith; raw = omega arith; inline = omega arith }

pub other-len : (z n : ℕ) → n < 2 ^ 22 → Counts (z / 4194304 * 4194304 + n) n (z / 4194304 % 8388608) (z / 35184372088832)
other-len z n h = record { len = omega arith; raw = omega arith; inline = omega arith }

pub more-len : (z n : ℕ) → z % 4194304 + n < 2 ^ 22 → Counts (z + n) (z % 4194304 + n) (z / 4194304 % 8388608) (z / 35184372088832)
more-len z n h = record { len = omega arith; raw = omega arith; inline = omega arith }

pub less-len : (z : ℕ) → 0 < z % 4194304 → Counts (z - 1) (z % 4194304 - 1) (z / 4194304 % 8388608) (z / 35184372088832)
less-len z h = record { len = omega arith; raw = omega arith; inline = omega arith }

pub other-raw : (z n : ℕ) → n < 2 ^ 23 → Counts (z / 35184372088832 * 35184372088832 + n * 4194304 + z % 4194304) (z % 4194304) n (z / 35184372088832)
other-raw z n h = record { len = omega arith; raw = omega arith; inline = omega arith }

pub other-inline : (z n : ℕ) → Counts (n * 35184372088832 + z % 35184372088832) (z % 4194304) (z / 4194304 % 8388608) n
other-inline z n = record { len = omega arith; raw = omega arith; inline = omega arith }

-- ---- the state

pub same-state : (z : ℕ) → State z (z % 256) (z / 256 % 256) (z / 65536 % 2) (z / 131072 % 2) (z / 262144 % 262144) (z / 68719476736)
same-state z = record { under = omega arith; last = omega arith; key = omega arith; tracks = omega arith; flow = omega arith; column = omega arith }

pub other_edge : (z e : ℕ) → e < 65536 → State (z / 65536 * 65536 + e) (e % 256) (e / 256) (z / 65536 % 2) (z / 131072 % 2) (z / 262144 % 262144) (z / 68719476736)
other_edge z e h = record { under = omega arith; last = omega arith; key = omega arith; tracks = omega arith; flow = omega arith; column = omega arith }

halves : (z : ℕ) → z / 131072 ≡ z / 262144 * 2 + z / 131072 % 2
halves z = omega arith

key_above : (z n : ℕ) → n < 2 → (z / 131072 * 131072 + n * 65536 + z % 65536) / 262144 ≡ z / 262144
key_above z n h = let p = halves z in omega (arith, p, h)

key-at : (z n : ℕ) → n < 2 → (z / 131072 * 131072 + n * 65536 + z % 65536) / 65536 ≡ z / 131072 * 2 + n
key-at z n h = omega arith

columns-above : (y z : ℕ) → y / 262144 ≡ z / 262144 → y / 68719476736 ≡ z / 68719476736
columns-above y z e = omega arith

-- a yes or no is 0 or 1
pub bit-small : (b : Bool) → from_bool b < 2
bit-small true = omega arith
bit-small false = omega arith

pub odd_bit : (n : ℕ) → from_bool (not (eqb (n % 2) 0)) ≡ n % 2
odd_bit n = go (n % 2) (omega arith)
  where
    go : (m : ℕ) → m < 2 → from_bool (not (eqb m 0)) ≡ m
    go zero h = refl
    go (suc zero) h = refl
    go (suc (suc m)) h = absurd (omega (arith, h))

pub other_key : (z n : ℕ) → n < 2 → State (z / 131072 * 131072 + n * 65536 + z % 65536) (z % 256) (z / 256 % 256) n (z / 131072 % 2) (z / 262144 % 262144) (z / 68719476736)
other_key z n h =
    record {
      under = omega arith;
      last = omega arith;
      key = (let e = key-at z n h in omega (arith, e, h));
      tracks = omega arith;
      flow = rw (key_above z n h) refl;
      column = columns-above _ _ (key_above z n h);
    }

pub other-flow : (z n : ℕ) → n < 2 ^ 18 → State (z / 68719476736 * 68719476736 + n * 262144 + z % 262144) (z % 256) (z / 256 % 256) (z / 65536 % 2) (z / 131072 % 2) n (z / 68719476736)
other-flow z n h = record { under = omega arith; last = omega arith; key = omega arith; tracks = omega arith; flow = omega arith; column = omega arith }

pub other-column : (z n : ℕ) → State (n * 68719476736 + z % 68719476736) (z % 256) (z / 256 % 256) (z / 65536 % 2) (z / 131072 % 2) (z / 262144 % 262144) n
other-column z n = record { under = omega arith; last = omega arith; key = omega arith; tracks = omega arith; flow = omega arith; column = omega arith }
