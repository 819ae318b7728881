-- The changed test: from what its parts do to the definition's outcome.
-- Assumes nothing.
use mathlib.Core.Path.{◌≡◌, refl, sym, ap, ◌∙◌}
use Prim.Native.Nat.{ℕ}
use mathlib.Core.Bool.{Bool}
use mathlib.Core.List.{List, [], ◌∷◌}
use Rattle.std.specs.Prelude.{Ok, Err}
use Rattle.definition.specs.Base.{Bytes}
use Rattle.definition.specs.Settings.{plain_settings}
use Rattle.definition.specs.Tree.{Node}
use Rattle.definition.specs.Change.{local_modified}
use Rattle.definition.specs.Deck.{got, read_deck}
use Rattle.definition.specs.Calls.{over, answered, tell_modified}
use Rattle.definition.specs.declared.Refusal.{Refusal}
use Rattle.node.specs.Total.{trees_of}
use Rattle.judge.specs.Judge.{told}
use Rattle.agree.proofs.Accepted.{one-tree}
use Rattle.joints.specs.Entries.{node_at}
use Rattle.told.specs.Outcome.{lent, modified-judged}
use Rattle.told.proofs.Outcome.{modified-refused-8, modified-told}
use Rattle.answers.specs.Answer.{answer_of, outcome_of, refusal, refusal_is}
use Rattle.answers.specs.Admitted.{Says, Admits, admit_of, said}

module _ (deck pool : Bytes) where
  pub refused-so : (r : Refusal) → told (Err r) ≡ admit_of plain_settings deck pool 0 0 → outcome_of (answer_of (Err r)) [] [] ≡ tell_modified (lent deck pool [])
  unfolding told Says
  refused-so r e = refusal_is (lent deck pool []) _ _ _ refl ∙ sym ((said plain_settings (lent deck pool []) _ _ e refl).refuses tell_modified modified-judged)

  module _ (n : ℕ) (e : told (Ok n) ≡ admit_of plain_settings deck pool 0 0) where
    pub admits : Admits plain_settings (lent deck pool []) n
    unfolding told Says
    admits = said plain_settings (lent deck pool []) _ _ e refl

    pub not-one : (n ≡ 1 → ⊥) → outcome_of (refusal 8 0) [] [] ≡ tell_modified (lent deck pool [])
    not-one h =
        let g = admits in
        refusal_is (lent deck pool []) 8 0 _ refl ∙ sym (modified-refused-8 (lent deck pool []) (trees_of deck pool) g.accepted.end g.small g.accepted.read (λ q. h (sym g.accepted.count ∙ q)))

    pub one : (b : Bool) → n ≡ 1 → b ≡ local_modified (node_at deck pool (record { at = 0 })) → outcome_of (record { number = 0; place = 0; length = 0; count = 0; modified = b }) [] [] ≡ tell_modified (lent deck pool [])
    unfolding outcome_of answered over
    one b h q =
        let g = admits in
        let f : read_deck deck pool ≡ got (node_at deck pool (record { at = 0 }) ∷ []) g.accepted.end = g.accepted.read ∙ ap (λ (ns : List Node). got ns g.accepted.end) (one-tree deck pool (g.accepted.count ∙ h)) in
        rw q (sym (modified-told (lent deck pool []) (node_at deck pool (record { at = 0 })) g.accepted.end g.small f))
