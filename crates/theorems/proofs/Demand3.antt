-- DEMAND 3, over the outcomes of the calls.
--
--     same_bytes        what one include brought in does not change the bytes of its document, in any call that writes documents
--     same-path         nor those of any file on the path down to it, nor whether each of them, and the document, is changed
--     same-modified     nor the answer of `local_modified`, unless the include is its document's root
--     same_entries      an include on that path has an entry in the one call's list exactly when it has one in the other's: the same entry
--     same-files        all other files that are handed back are the same, in the same order
--     handed-exactly    a file with an id is handed back, once per include and in tree order, exactly when its include is touched
--     handed-only       and no other list is so
--     modified-exactly  `local_modified` answers yes exactly when the document is touched
--     only-outcome      no two outcomes meet a call's definition
--
-- The premise, `TwinDecks`, speaks of the trees that two decks are read into: of the fields of their records and of the text that references
-- give. Of offsets and places it says nothing: texts may be shared or moved in the pool, and all that follows the include may stand elsewhere.
use Rattle.std.specs.Prelude.{◌≡◌, refl, ◌↔◌, Bool, false}
use Rattle.std.proofs.Math.Path.{sym, subst}
use Rattle.std.proofs.Common.{◌∙◌, true≢false}
use mathlib.Core.List.{List}
use Rattle.std.proofs.Math.Dec.{T}
use Rattle.definition.specs.Base.{is_nil}
use Rattle.definition.specs.Settings.{plain_settings, null_as}
use Rattle.definition.specs.Tree.{Node}
use Rattle.definition.specs.Change.{Written, local_modified, collect}
use Rattle.definition.specs.Deck.{got, read_deck}
use Rattle.definition.specs.Calls.{Lent, Outcome, Call, collect_changed_include_changes, call_local_modified, write_one, write_all, tell_modified, outcome}
use Rattle.definition.specs.declared.Settings.{Settings}
use Rattle.definition.specs.declared.Cursor.{Cursor}
use Rattle.theorems.specs.Around.{near_none, near-more, Twin, here, inside, TwinAll, this-document, later-document, SameAsFile, AlongAll, Touched}
use Rattle.theorems.specs.Order.{Ordered, OrderedAll, ordered-first}
use Rattle.theorems.specs.DeckOrder.{read-ordered}
use Rattle.theorems.specs.Twin.{SameAround, same-around, same-document, inside-local}
use Rattle.theorems.specs.Handed.{SameHanded, same-handed, changed-exactly}
use Rattle.theorems.specs.Listed.{Exactly, collect-exactly, exactly-one}
use Rattle.theorems.specs.Entries.{SameEntries}
use Rattle.theorems.specs.Answers.{bytes_back, files_back, Answered, One, the_one, one_map, all_back, one-back, modified-back, files-back}
use Rattle.theorems.specs.Demand3.{TwinDecks, Inner, Writes, writes-plain, writes-with, writes-all, writes-dump}
use Rattle.theorems.proofs.Entries.{entries-along}

-- ---- the first sentence

module _ (x y : Lent) (w : TwinDecks x y) where
  ordered₁ : OrderedAll w.trees₁
  ordered₁ = read-ordered x.deck x.pool w.read₁

  ordered₂ : OrderedAll w.trees₂
  ordered₂ = read-ordered y.deck y.pool w.read₂

  around : SameAround w.include₁ w.include₂ w.trees₁ w.trees₂ w.twin
  around = same-around w.twin ordered₁ ordered₂

  all_same : (s : Settings) → Answered (write_all s x) → Answered (write_all s y) → bytes_back (write_all s x) ≡ bytes_back (write_all s y)
  all_same s h k = all_back x w.read₁ s h ∙ around.documents s ∙ sym (all_back y w.read₂ s k)

some-document : {α β : Node} {ns ms : List Node} → TwinAll α β ns ms → is_nil ns ≡ false
unfolding is_nil
some-document (this-document t h) = refl
some-document (later-document h t) = refl

-- of two lists of one document each, that document holds the include
one-twin : {α β : Node} {ns ms : List Node} {P Q : Node → Type 0} {A : Type 0} → TwinAll α β ns ms → OrderedAll ns → OrderedAll ms → One P ns → One Q ms
    → ((n m : Node) → Twin α β n m → Ordered n → Ordered m → P n → Q m → A) → A
unfolding is_nil
one-twin (this-document {n = n} {m = m} t near_none) a b (the_one p) (the_one q) f = f n m t (ordered-first a) (ordered-first b) p q
one-twin (later-document h t) a b (the_one p) q f = absurd (true≢false (some-document t))
one-twin (this-document t (near-more _ _)) a b p q f = elim p [ ]

module _ (x y : Lent) (w : TwinDecks x y) where
  one_same : (s : Settings) → Answered (write_one s x) → Answered (write_one s y) → bytes_back (write_one s x) ≡ bytes_back (write_one s y)
  one_same s h k =
      one-twin w.twin (ordered₁ x y w) (ordered₂ x y w) (one-back x w.read₁ s h) (one-back y w.read₂ s k) (λ n m t a b p q. p ∙ same-document t a b s ∙ sym q)

  pub same_bytes : (c : Call) → Writes c → Answered (outcome c x) → Answered (outcome c y) → bytes_back (outcome c x) ≡ bytes_back (outcome c y)
  unfolding outcome
  same_bytes c writes-plain h k = one_same plain_settings h k
  same_bytes c (writes-with {n = n}) h k = one_same (null_as n) h k
  same_bytes c (writes-all {n = n}) h k = all_same x y w (null_as n) h k
  same_bytes c (writes-dump {s = s}) h k = one_same s h k

  pub same-path : AlongAll SameAsFile w.twin
  same-path = (around x y w).path

  pub same-modified : Inner w.twin → Answered (outcome call_local_modified x) → Answered (outcome call_local_modified y)
      → (outcome call_local_modified x).modified ≡ (outcome call_local_modified y).modified
  unfolding outcome is_nil
  same-modified i h k = go w.twin i (modified-back x w.read₁ h) (modified-back y w.read₂ k)
    where
      go : {ns ms : List Node} (t : TwinAll w.include₁ w.include₂ ns ms) → Inner t → One (λ n. (tell_modified x).modified ≡ local_modified n) ns
          → One (λ n. (tell_modified y).modified ≡ local_modified n) ms → (tell_modified x).modified ≡ (tell_modified y).modified
      go (this-document (here z) near_none) i (the_one p) (the_one q) = absurd i
      go (this-document (inside u) near_none) i (the_one p) (the_one q) = p ∙ inside-local u ∙ sym q
      go (later-document c t) i (the_one p) q = absurd (true≢false (some-document t))
      go (this-document (here z) (near-more _ _)) i _ q = elim q [ ]
      go (this-document (inside u) (near-more _ _)) i _ q = elim q [ ]

  pub same_entries : Answered (outcome collect_changed_include_changes x) → Answered (outcome collect_changed_include_changes y)
      → SameEntries w.twin (files_back (outcome collect_changed_include_changes x)) (files_back (outcome collect_changed_include_changes y))
  unfolding outcome
  same_entries h k =
      rw (files-back x w.read₁ h, files-back y w.read₂ k)
      (entries-along w.twin same-path (collect-exactly w.trees₁ (ordered₁ x y w)) (collect-exactly w.trees₂ (ordered₂ x y w)))

  pub same-files : Answered (outcome collect_changed_include_changes x) → Answered (outcome collect_changed_include_changes y)
      → SameHanded w.include₁ w.include₂ (files_back (outcome collect_changed_include_changes x)) (files_back (outcome collect_changed_include_changes y))
  unfolding outcome collect
  same-files h k =
      rw (files-back x w.read₁ h, files-back y w.read₂ k) (same-handed (around x y w).others)

-- ---- the second sentence

module _ (x : Lent) {ns : List Node} {c : Cursor} (q : read_deck x.deck x.pool ≡ got ns c) where
  pub handed-exactly : Answered (outcome collect_changed_include_changes x) → Exactly ns (files_back (outcome collect_changed_include_changes x))
  unfolding outcome
  handed-exactly h = rw (files-back x q h) (collect-exactly ns (read-ordered x.deck x.pool q))

  pub handed-only : Answered (outcome collect_changed_include_changes x) → (ws : List Written) → Exactly ns ws → ws ≡ files_back (outcome collect_changed_include_changes x)
  handed-only h ws b = exactly-one ns ws _ b (handed-exactly h)

  pub modified-exactly : Answered (outcome call_local_modified x) → One (λ n. T (outcome call_local_modified x).modified ↔ Touched n) ns
  unfolding outcome
  modified-exactly h = one_map (λ n e. subst (λ (b : Bool). T b ↔ Touched n) (sym e) (changed-exactly n)) (modified-back x q h)

-- ---- uniqueness

-- an outcome that meets the definition of a call, on what it is lent
abbrev pub Meets : Call → Lent → Outcome → Type 0
Meets c x o = o ≡ outcome c x

pub only-outcome : (c : Call) (x : Lent) (o o' : Outcome) → Meets c x o → Meets c x o' → o ≡ o'
only-outcome c x o o' h k = h ∙ sym k
