-- A node's leading records, as the definition's reader and as the head keep them: one record's step.
use Rattle.std.specs.Prelude.{◌≡◌, Bool, true, false, not, ◌&&◌, ◌||◌, eqb, ltb, leb}
use Rattle.std.proofs.Math.Path.{refl, ap}
use Rattle.std.proofs.Common.{sym, ◌∙◌, add-one, ltb-true, ltb-false, leb-true, eqb-true, ne_eqb, le-ltb}
use Prim.Native.Nat.{ℕ, zero, suc, ◌+◌, ◌<◌, ◌≤◌}
use native.Mathlib.Omega.{arith}
use mathlib.Core.List.{List, [], ◌∷◌, ◌++◌}
use Rattle.std.proofs.lemmas.Bool.{eqb-false}
use Rattle.definition.specs.Base.{Bytes, when◌then◌else◌, within}
use Rattle.definition.specs.Records.{kind_at, record_of, record_at, size_of, past, text_at, include_at, heading_at, trailer_at, lines_at}
use Rattle.definition.specs.Tree.{Kept, Brought}
use Rattle.definition.specs.Deck.{marked, no_lines, keep, bring, is_node, in_order, none_kept, none_brought}
use Rattle.definition.specs.declared.Cursor.{Cursor}
use Rattle.definition.specs.declared.Record.{Record}
use Rattle.definition.specs.declared.Record.TheVariants as is
use Rattle.deck.specs.Kids.{node-kind}
use Rattle.node.specs.declared.Run.{Run}
use Rattle.node.specs.declared.Lead.{Lead}
use Rattle.node.specs.Head.{onto, add_to, no_lead}
use Rattle.node.specs.Total.{held_of, origin_of, remark_of, run_from, comment_at, text_of, kept_of, brought_of}
use Rattle.agree.specs.Runs.{span, on, Ready, Fits}

-- ---- records of one kind, one after another

module _ {A : Type 0} (e : Cursor → A) (s : ℕ) where
  run-last : (n : ℕ) (f c : Cursor) → f.at + span s n ≡ c.at → run_from e s (suc n) f ≡ run_from e s n f ++ e c ∷ []
  unfolding run_from span
  run-last zero f c h = let z : f.at ≡ c.at = omega arith in let y : f ≡ c = ap (λ (a : ℕ). the-cursor a) z in rw y
    where
      the-cursor : ℕ → Cursor
      the-cursor a = record { at = a }
  run-last (suc n) f c h = ap (λ (l : List A). e f ∷ l) (run-last n (on f s) c (omega arith))

  run_more :
      (n : ℕ) (f c : Cursor) → ((n ≡ 0 → ⊥) → f.at + span s n ≡ c.at) →
      run_from e s (n + 1) (when eqb n 0 then c else f) ≡ run_from e s n f ++ e c ∷ []
  unfolding run_from
  run_more zero f c h = refl
  run_more (suc n) f c h = rw (ne_eqb (suc n) 0 (λ z. absurd (omega arith)), add-one) (run-last (suc n) f c (h (λ z. absurd (omega arith))))

ready-other : {k s last : ℕ} {c : Cursor} {r : Run} (k' : ℕ) (c' : Cursor) → (k' ≡ k → ⊥) → last ≤ k' → Ready k s last c r → Ready k s k' c' r
ready-other k' c' n l y = record { same = λ e. absurd (n e); fresh = λ h. y.fresh (omega arith) }

ready-ends : {k s last : ℕ} {c : Cursor} {r : Run} → last ≤ k → Ready k s last c r → (r.count ≡ 0 → ⊥) → r.first.at + span s r.count ≡ c.at
ready-ends {k} {s} {last} {c} {r} l y n = go (ltb last k) refl
  where
    go : (b : Bool) → ltb last k ≡ b → r.first.at + span s r.count ≡ c.at
    go true h = absurd (n (y.fresh (ltb-true _ _ h)))
    go false h = let g : k ≤ last = ltb-false _ _ h in y.same (omega arith)

ready-own : {k s last : ℕ} {c : Cursor} {r : Run} → last ≤ k → Ready k s last c r → Ready k s k (on c s) (onto r c)
unfolding onto span
ready-own {k} {s} {last} {c} {r} l y = record { same = λ e. go r.count r.first (ready-ends l y); fresh = λ h. absurd (omega arith) }
  where
    go : (n : ℕ) (f : Cursor) → ((n ≡ 0 → ⊥) → f.at + span s n ≡ c.at) → (when eqb n 0 then c else f).at + span s (n + 1) ≡ c.at + s
    go zero f h = omega arith
    go (suc n) f h = let g : f.at + (span s n + s) ≡ c.at = h (λ z. absurd (omega arith)) in rw (ne_eqb (suc n) 0 (λ z. absurd (omega arith)), add-one) (omega arith)

-- ---- one leading record more

-- the leading record at a cursor, by its kind
data Leading (deck : Bytes) (c : Cursor) : ℕ → Record → Type 0 where
  tag : Leading deck c 1 (is.Tag (text_at deck (c.at + 1)))
  anchor : Leading deck c 2 (is.Anchor (text_at deck (c.at + 1)))
  include : Leading deck c 3 (is.Source (include_at deck (c.at + 1)))
  head : Leading deck c 4 (is.Head (heading_at deck (c.at + 1)))
  inline : Leading deck c 5 (is.Inline (trailer_at deck (c.at + 1)))
  foot : Leading deck c 6 (is.Foot (text_at deck (c.at + 1)))
  raw : Leading deck c 7 (is.Raw (text_at deck (c.at + 1)))
  directive : Leading deck c 8 (is.Directive (text_at deck (c.at + 1)))
  layout : Leading deck c 9 (is.Layout (lines_at deck (c.at + 1)))

order_le : (last k : ℕ) → k ≤ 9 → in_order last k ≡ true → last ≤ k
unfolding in_order
order_le last k h e = go (ltb last k) (eqb last k) refl refl (rw (le-ltb 9 k h) at e)
  where
    go : (x y : Bool) → ltb last k ≡ x → eqb last k ≡ y → x || (y && (eqb k 0x04 || eqb k 0x06 || eqb k 0x08)) ≡ true → last ≤ k
    go true y p q e = let g : last < k = ltb-true _ _ p in omega arith
    go false true p q e = let g : last ≡ k = eqb-true _ _ q in omega arith
    go false false p q e = cc

split : {P : Type 0} {k : ℕ} (n : ℕ) → n ≤ k → (k ≡ n → P) → (suc n ≤ k → P) → P
split {P} {k} n l f g = go (eqb k n) refl
  where
    go : (b : Bool) → eqb k n ≡ b → P
    go true h = f (eqb-true _ _ h)
    go false h = let d : k ≡ n → ⊥ = eqb-false _ _ h in g (omega arith)

leads : (k : ℕ) → not (within 1 9 k) ≡ false → (1 ≤ k) × (k ≤ 9)
unfolding within
leads k e = go (leb 1 k) (leb k 9) refl refl e
  where
    go : (x y : Bool) → leb 1 k ≡ x → leb k 9 ≡ y → not (when x then y else false) ≡ false → (1 ≤ k) × (k ≤ 9)
    go true true p q e = (leb-true _ _ p, leb-true _ _ q)
    go true false p q e = cc
    go false y p q e = cc

leading : (deck : Bytes) (c : Cursor) (k : ℕ) → 1 ≤ k → k ≤ 9 → Leading deck c k (record_of k deck (c.at + 1))
unfolding record_of
leading deck c k l u =
    split 1 l (λ h. rw h tag) (λ l1.
    split 2 l1 (λ h. rw h anchor) (λ l2.
    split 3 l2 (λ h. rw h include) (λ l3.
    split 4 l3 (λ h. rw h head) (λ l4.
    split 5 l4 (λ h. rw h inline) (λ l5.
    split 6 l5 (λ h. rw h foot) (λ l6.
    split 7 l6 (λ h. rw h raw) (λ l7.
    split 8 l7 (λ h. rw h directive) (λ l8.
    split 9 l8 (λ h. rw h layout) (λ l9. absurd (omega arith))))))))))

module _ (deck pool : Bytes) (last : ℕ) (c : Cursor) (l : Lead) (a : Kept) (b : Brought) where
  fits-step :
      (k : ℕ) (r : Record) → Leading deck c k r → last ≤ k → Fits deck pool last c l a b →
      Fits deck pool k (on c (size_of k)) (add_to r c l) (keep pool r a) (bring pool r b)
  unfolding add_to keep bring kept_of brought_of held_of origin_of remark_of onto comment_at text_of size_of
  fits-step k r tag h y = record { kept = rw (← y.kept); brought = rw (← y.brought); heads = ready-other 1 (on c 5) (λ z. absurd (omega arith)) h y.heads; foots = ready-other 1 (on c 5) (λ z. absurd (omega arith)) h y.foots; directives = ready-other 1 (on c 5) (λ z. absurd (omega arith)) h y.directives }
  fits-step k r anchor h y = record { kept = rw (← y.kept); brought = rw (← y.brought); heads = ready-other 2 (on c 5) (λ z. absurd (omega arith)) h y.heads; foots = ready-other 2 (on c 5) (λ z. absurd (omega arith)) h y.foots; directives = ready-other 2 (on c 5) (λ z. absurd (omega arith)) h y.directives }
  fits-step k r include h y = record { kept = rw (← y.kept); brought = rw (← y.brought); heads = ready-other 3 (on c 14) (λ z. absurd (omega arith)) h y.heads; foots = ready-other 3 (on c 14) (λ z. absurd (omega arith)) h y.foots; directives = ready-other 3 (on c 14) (λ z. absurd (omega arith)) h y.directives }
  fits-step k r head h y = record { kept = rw (← y.kept, run_more (comment_at deck pool) 6 l.heads.count l.heads.first c (ready-ends h y.heads)); brought = rw (← y.brought); heads = ready-own h y.heads; foots = ready-other 4 (on c 6) (λ z. absurd (omega arith)) h y.foots; directives = ready-other 4 (on c 6) (λ z. absurd (omega arith)) h y.directives }
  fits-step k r inline h y = record { kept = rw (← y.kept); brought = rw (← y.brought); heads = ready-other 5 (on c 6) (λ z. absurd (omega arith)) h y.heads; foots = ready-other 5 (on c 6) (λ z. absurd (omega arith)) h y.foots; directives = ready-other 5 (on c 6) (λ z. absurd (omega arith)) h y.directives }
  fits-step k r foot h y = record { kept = rw (← y.kept, run_more (text_of deck pool) 5 l.foots.count l.foots.first c (ready-ends h y.foots)); brought = rw (← y.brought); heads = ready-other 6 (on c 5) (λ z. absurd (omega arith)) h y.heads; foots = ready-own h y.foots; directives = ready-other 6 (on c 5) (λ z. absurd (omega arith)) h y.directives }
  fits-step k r raw h y = record { kept = rw (← y.kept); brought = rw (← y.brought); heads = ready-other 7 (on c 5) (λ z. absurd (omega arith)) h y.heads; foots = ready-other 7 (on c 5) (λ z. absurd (omega arith)) h y.foots; directives = ready-other 7 (on c 5) (λ z. absurd (omega arith)) h y.directives }
  fits-step k r directive h y = record { kept = rw (← y.kept, run_more (text_of deck pool) 5 l.directives.count l.directives.first c (ready-ends h y.directives)); brought = rw (← y.brought); heads = ready-other 8 (on c 5) (λ z. absurd (omega arith)) h y.heads; foots = ready-other 8 (on c 5) (λ z. absurd (omega arith)) h y.foots; directives = ready-own h y.directives }
  fits-step k r layout h y = record { kept = rw (← y.kept); brought = rw (← y.brought); heads = ready-other 9 (on c 6) (λ z. absurd (omega arith)) h y.heads; foots = ready-other 9 (on c 6) (λ z. absurd (omega arith)) h y.foots; directives = ready-other 9 (on c 6) (λ z. absurd (omega arith)) h y.directives }

  pub fits_more :
      is_node (record_at deck c) ≡ false → in_order last (kind_at deck c) ≡ true → Fits deck pool last c l a b →
      Fits deck pool (kind_at deck c) (past deck c) (add_to (record_at deck c) c l) (keep pool (record_at deck c) a) (bring pool (record_at deck c) b)
  unfolding record_at past
  fits_more e o y =
      let g = leads (kind_at deck c) (sym (node-kind deck (c.at + 1) (kind_at deck c)) ∙ e) in
      fits-step _ _ (leading deck c (kind_at deck c) g.0 g.1) (order_le last _ g.1 o) y

pub fits-none : (deck pool : Bytes) (c : Cursor) → Fits deck pool 0 c no_lead none_kept none_brought
unfolding kept_of brought_of held_of origin_of remark_of none_kept none_brought run_from marked no_lines
fits-none deck pool c =
    record {
      kept = refl;
      brought = refl;
      heads = record { same = λ e. absurd (omega arith); fresh = λ h. refl };
      foots = record { same = λ e. absurd (omega arith); fresh = λ h. refl };
      directives = record { same = λ e. absurd (omega arith); fresh = λ h. refl };
    }
