-- A run: from a place of a text up to another there are only bytes that fit. A program finds it, and writes it as one text.
use Rattle.std.specs.Prelude.{◌≡◌, ℕ, suc, ◌+◌, ◌-◌, ◌≤◌, ◌<◌, ◌++◌, length, get_or, drop, take}
use Rattle.std.proofs.Common.{sym, ap, ◌∙◌, arith, length-drop, take-append-drop, drop-drop, get_or-drop, take-suc, length-take-le}
use Rattle.definition.specs.Base.{Bytes}
use Rattle.laws.specs.Tests.{Every, none, more, every_append}

-- a text from a place on is its bytes up to another place, and those from there on
pub parted : (s : Bytes) (i j : ℕ) → i ≤ j → drop i s ≡ take (j - i) (drop i s) ++ drop j s
parted s i j h =
    let e : i + (j - i) ≡ j = omega arith in
    sym (take-append-drop (j - i) (drop i s)) ∙ ap (λ (r : Bytes). take (j - i) (drop i s) ++ r) (drop-drop (j - i) i s ∙ ap (λ (n : ℕ). drop n s) e)

pub record Run (P : ℕ → Type 0) (s : Bytes) (i j : ℕ) : Type 0 where
  pub each : Every P (take (j - i) (drop i s))
  pub on : i ≤ j
  pub inside : j ≤ length s

module _ (P : ℕ → Type 0) (s : Bytes) where
  pub run-start : (i : ℕ) → i ≤ length s → Run P s i i
  run-start i h = let e : i - i ≡ 0 = omega arith in record { each = rw e none; on = omega arith; inside = h }

  pub run_on : (i j : ℕ) → Run P s i j → j < length s → P (get_or s j 0) → Run P s i (j + 1)
  run_on i j r h o =
      let on = r.on in
      let e : j + 1 - i ≡ suc (j - i) = omega arith in
      let k : i + (j - i) ≡ j = omega arith in
      let l : length (drop i s) ≡ length s - i = length-drop i s in
      record {
        each = rw (e, take-suc (drop i s) (j - i) 0 (omega arith), get_or-drop i s (j - i) 0, k) (every_append r.each (more o none));
        on = omega arith;
        inside = omega arith;
      }

  pub run_length : (i j : ℕ) → Run P s i j → length (take (j - i) (drop i s)) ≡ j - i
  run_length i j r =
      let h = r.inside in
      let l : length (drop i s) ≡ length s - i = length-drop i s in
      length-take-le (j - i) (drop i s) (omega arith)
