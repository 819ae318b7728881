-- Laws of one step: when it is made.
use Rattle.std.specs.Prelude.{◌≡◌, refl, ℕ, ◌≤◌, Bool, true, false, ◌&&◌, length, leb, Option, None, Some}
use Rattle.std.proofs.Common.{sym, true≢false, leb-true}
use Rattle.std.proofs.lemmas.Bool.{le-leb}
use Rattle.definition.specs.Base.{Bytes, when◌then◌else◌}
use Rattle.files.specs.declared.Walk.{Walk}
use Rattle.files.specs.declared.Found.{Found}
use Rattle.files.specs.Files.{found_at, still, file_step, found_step, is_ready, step_of}

-- ---- within the limits

pub record Ready (deck pool out : ℕ) (w : Walk) : Type 0 where
  pub deck-small : deck ≤ 65536
  pub pool-small : pool ≤ 65536
  pub out-small : out ≤ 1048576
  pub here : w.at.at ≤ deck
  pub room : w.start ≤ out

module _ (deck pool out : ℕ) (w : Walk) where
  pub ready-is : Ready deck pool out w → is_ready deck pool out w ≡ true
  unfolding is_ready
  ready-is r = rw (le-leb _ _ r.deck-small, le-leb _ _ r.pool-small, le-leb _ _ r.out-small, le-leb _ _ r.here, le-leb _ _ r.room)

  pub is-ready : is_ready deck pool out w ≡ true → Ready deck pool out w
  unfolding is_ready
  is-ready e = go (leb deck 65536) (leb pool 65536) (leb out 1048576) (leb w.at.at deck) (leb w.start out) refl refl refl refl refl e
    where
      go :
          (a b c d e : Bool) → leb deck 65536 ≡ a → leb pool 65536 ≡ b → leb out 1048576 ≡ c → leb w.at.at deck ≡ d → leb w.start out ≡ e
          → a && b && c && d && e ≡ true → Ready deck pool out w
      go true true true true true p q r s t z =
          record { deck-small = leb-true _ _ p; pool-small = leb-true _ _ q; out-small = leb-true _ _ r; here = leb-true _ _ s; room = leb-true _ _ t }
      go false b c d e p q r s t z = absurd (true≢false (sym z))
      go true false c d e p q r s t z = absurd (true≢false (sym z))
      go true true false d e p q r s t z = absurd (true≢false (sym z))
      go true true true false e p q r s t z = absurd (true≢false (sym z))
      go true true true true false p q r s t z = absurd (true≢false (sym z))

  pub unready : (Ready deck pool out w → ⊥) → is_ready deck pool out w ≡ false
  unready h = go (is_ready deck pool out w) refl
    where
      go : (b : Bool) → is_ready deck pool out w ≡ b → is_ready deck pool out w ≡ false
      go true e = absurd (h (is-ready e))
      go false e = e

-- ---- the step

module _ (deck pool out : Bytes) (w : Walk) where
  pub step-unready : is_ready (length deck) (length pool) (length out) w ≡ false → step_of deck pool out w ≡ still out w
  unfolding step_of
  step-unready e = rw e

  pub step-found : is_ready (length deck) (length pool) (length out) w ≡ true → (f : Option Found) → found_at deck pool w.at ≡ f → step_of deck pool out w ≡ found_step deck pool out w f
  unfolding step_of
  step-found e f g = rw (e, g)

  pub step-none : found_at deck pool w.at ≡ None → step_of deck pool out w ≡ still out w
  unfolding step_of found_step
  step-none e = rw e (go (is_ready (length deck) (length pool) (length out) w))
    where
      go : (b : Bool) → (when b then still out w else still out w) ≡ still out w
      go true = refl
      go false = refl

  pub step-file : is_ready (length deck) (length pool) (length out) w ≡ true → (f : Found) → found_at deck pool w.at ≡ Some f → step_of deck pool out w ≡ file_step deck pool out w.start f
  unfolding found_step
  step-file e f g = step-found e (Some f) g
