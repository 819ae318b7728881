-- Refusals 1 and 2 by number; 0 where neither has a reason.
use Rattle.std.specs.Prelude.{◌≡◌, refl, ℕ, ◌<◌, ◌≤◌, Bool, true, false, ◌||◌, ltb, length}
use Rattle.std.proofs.Common.{arith, ltb-true, ltb-false}
use Rattle.definition.specs.Base.{when◌then◌else◌}
use Rattle.definition.specs.Calls.{Lent}
use Rattle.definition.specs.declared.Settings.{Settings}
use Rattle.told.specs.Outcome.{Settled, Small}

unfoldable pub limit_of : Settings → ℕ → ℕ → ℕ → ℕ → ℕ
limit_of s deck pool output list =
    when ltb 16 s.indent || ltb 65535 s.width then 1
    else when ltb 65536 deck || ltb 65536 pool || ltb 1048576 output || ltb 4096 list then 2
    else 0

-- what the number says
pub data Limited (s : Settings) (x : Lent) : ℕ → Type 0 where
  over-1 : (Settled s → ⊥) → Limited s x 1
  over-2 : Settled s → (Small x → ⊥) → Limited s x 2
  within : Settled s → Small x → Limited s x 0

past : (n most : ℕ) → ltb most n ≡ true → n ≤ most → ⊥
past n most e h = let x : most < n = ltb-true _ _ e in absurd (omega (arith, x, h))

pub limited : (s : Settings) (x : Lent) → Limited s x (limit_of s (length x.deck) (length x.pool) (length x.output) (length x.list))
unfolding limit_of
limited s x =
    go (ltb 16 s.indent) (ltb 65535 s.width) (ltb 65536 (length x.deck)) (ltb 65536 (length x.pool)) (ltb 1048576 (length x.output)) (ltb 4096 (length x.list))
    refl refl refl refl refl refl
  where
    go :
        (a b c d e f : Bool) → ltb 16 s.indent ≡ a → ltb 65535 s.width ≡ b → ltb 65536 (length x.deck) ≡ c → ltb 65536 (length x.pool) ≡ d
        → ltb 1048576 (length x.output) ≡ e → ltb 4096 (length x.list) ≡ f → Limited s x (when a || b then 1 else when c || d || e || f then 2 else 0)
    go true b c d e f i j k l m n = over-1 (λ z. past _ _ i z.indent)
    go false true c d e f i j k l m n = over-1 (λ z. past _ _ j z.width)
    go false false true d e f i j k l m n = over-2 (record { indent = ltb-false _ _ i; width = ltb-false _ _ j }) (λ z. past _ _ k z.deck)
    go false false false true e f i j k l m n = over-2 (record { indent = ltb-false _ _ i; width = ltb-false _ _ j }) (λ z. past _ _ l z.pool)
    go false false false false true f i j k l m n = over-2 (record { indent = ltb-false _ _ i; width = ltb-false _ _ j }) (λ z. past _ _ m z.output)
    go false false false false false true i j k l m n = over-2 (record { indent = ltb-false _ _ i; width = ltb-false _ _ j }) (λ z. past _ _ n z.list)
    go false false false false false false i j k l m n =
        within (record { indent = ltb-false _ _ i; width = ltb-false _ _ j })
        (record { deck = ltb-false _ _ k; pool = ltb-false _ _ l; output = ltb-false _ _ m; list = ltb-false _ _ n })
