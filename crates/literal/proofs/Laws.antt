-- The tests of a text, carried from place to place.
use Prim.Native.Nat.{ℕ}
use mathlib.Core.Path.{◌≡◌, refl, sym, ◌∙◌}
use mathlib.Core.Bool.{Bool, true, false, not, ◌&&◌, ◌||◌}
use mathlib.Core.List.{[], ◌∷◌}
use Rattle.std.specs.Prelude.{Some, None, cond}
use Rattle.std.specs.List.{find, list_any}
use borrow.Author.Tests.{eq-eqb, ne_eqb, eqb-true, eqb-false}
use lib.Dec.{eqb}
use Rattle.definition.specs.Base.{Bytes, when◌then◌else◌, any, has}
use Rattle.definition.specs.Ascii.{TAB, LF, SP}
use Rattle.definition.specs.Utf8.{well_formed}
use Rattle.definition.specs.Block.{leads_blank, use_literal_block}
use Rattle.laws.specs.Places.{any_at, some-unfit}
use Rattle.literal.specs.Unfit.{unfit_at}

eqb-back : (a b : ℕ) → eqb a b ≡ eqb b a
eqb-back a b = go (eqb b a) refl
  where
    go : (t : Bool) → eqb b a ≡ t → eqb a b ≡ t
    go true e = eq-eqb _ _ (sym (eqb-true _ _ e))
    go false e = ne_eqb _ _ (λ f. eqb-false _ _ e (sym f))

pub has_by : (s : Bytes) → has LF s ≡ list_any (λ y. eqb y 10) s
unfolding has any
has_by [] = refl
has_by (a ∷ s) = rw (has_by s, eqb-back 10 a) (go (eqb a 10))
  where
    go : (t : Bool) → (when t then true else list_any (λ y. eqb y 10) s) ≡ (t || list_any (λ y. eqb y 10) s)
    go true = refl
    go false = refl

-- a text whose first byte that is no line break is known
leads : (b : ℕ) (s : Bytes) → find (λ b. not (eqb b LF)) s ≡ Some b → leads_blank s ≡ (eqb b SP || eqb b TAB)
unfolding leads_blank
leads b [] e = cc
leads b (a ∷ s) e = go (eqb a LF) (leads b s) e
  where
    go :
        (t : Bool) → (find (λ b. not (eqb b LF)) s ≡ Some b → leads_blank s ≡ (eqb b SP || eqb b TAB)) →
        cond (not t) (Some a) (find (λ b. not (eqb b LF)) s) ≡ Some b → (when t then leads_blank s else (eqb a SP || eqb a TAB)) ≡ (eqb b SP || eqb b TAB)
    go true f e = f e
    go false f e = let g : a ≡ b = cc in rw g

module _ (b : ℕ) (s : Bytes) (first : find (λ b. not (eqb b LF)) s ≡ Some b) where
  pub leads_space : b ≡ 32 → leads_blank s ≡ true
  leads_space e = leads b s first ∙ rw e

  pub leads_tab : b ≡ 9 → leads_blank s ≡ true
  leads_tab e = leads b s first ∙ rw e

  pub leads_other : (b ≡ 32 → ⊥) → (b ≡ 9 → ⊥) → leads_blank s ≡ false
  leads_other p q = leads b s first ∙ rw (ne_eqb b 32 p, ne_eqb b 9 q)

pub leads_not : (s : Bytes) → find (λ b. not (eqb b LF)) s ≡ None → leads_blank s ≡ false
unfolding leads_blank
leads_not [] e = refl
leads_not (a ∷ s) e = go (eqb a LF) (leads_not s) e
  where
    go :
        (t : Bool) → (find (λ b. not (eqb b LF)) s ≡ None → leads_blank s ≡ false) →
        cond (not t) (Some a) (find (λ b. not (eqb b LF)) s) ≡ None → (when t then leads_blank s else (eqb a SP || eqb a TAB)) ≡ false
    go true f e = f e
    go false f e = cc

-- the three tests together
pub together : (s : Bytes) → well_formed s ≡ true → use_literal_block s ≡ (has LF s && not (any_at unfit_at s) && not (leads_blank s))
unfolding use_literal_block unfit_at
together s w = rw (some-unfit s w)
