-- A deck is its trees in preorder: the heads from a cursor on, in the order they stand, have the includes of the trees there, in tree order.
use Rattle.std.specs.Prelude.{◌≡◌, Bool, length}
use Rattle.std.proofs.Math.Path.{refl, sym, ap}
use Rattle.std.proofs.Common.{◌∙◌}
use Prim.Native.Nat.{ℕ, zero, suc, ◌-◌, ◌<◌, ◌≤◌}
use native.Mathlib.Omega.{arith}
use Rattle.std.proofs.Math.Bool.{true, false}
use mathlib.Core.List.{List, [], ◌∷◌, ◌++◌, append_assoc}
use Rattle.std.proofs.Math.Dec.{leb, ltb}
use borrow.Author.Tests.{ltb-true, ltb-false, leb-true}
use Rattle.definition.specs.Base.{Bytes, when◌then◌else◌}
use Rattle.definition.specs.Records.{record_at}
use Rattle.definition.specs.Tree.{kept}
use Rattle.definition.specs.Deck.{is_node}
use Rattle.definition.specs.Change.{Boundary, own_boundary, boundaries, boundaries_in, boundaries_items, boundaries_pairs, boundaries_all}
use Rattle.definition.specs.declared.Cursor.{Cursor}
use Rattle.node.specs.Head.{no_lead, headed, head_at}
use Rattle.node.specs.Total.{kept_of, origin_of, items_from, pairs_from, tree_at, trees_from, trees_of}
use Rattle.node.specs.Fuel.{nexts, tree-moves, tree-next, head-at-onward, head-own, own-further}
use Rattle.spot.specs.declared.Body.{Body}
use Rattle.spot.specs.declared.Body.TheVariants as body
use Rattle.spot.specs.Spot.{spot_of, spot_at, kind_of, end_of, node_in, tree-value, tree-end}
use Rattle.spot.specs.Good.{is_group, good-at}
use Rattle.joints.specs.Entries.{node_at, next_at}

-- the cursor after the own record of the node at a cursor: its first child's, or what follows
unfoldable pub step_at : Bytes → Cursor → Cursor
step_at deck c = (head_at deck c).next

module _ (deck pool : Bytes) where
  -- the include of the node at a cursor, if it has a file id
  unfoldable pub own_at : Cursor → List Boundary
  own_at c = own_boundary (kept (node_at deck pool c)).source (node_at deck pool c)

  -- those of n heads, from a cursor on
  unfoldable pub files_from : ℕ → Cursor → List Boundary
  files_from zero c = []
  files_from (suc n) c = own_at c ++ files_from n (step_at deck c)

  -- those of all heads from a cursor on
  unfoldable pub files_at : Cursor → List Boundary
  files_at c = files_from (length deck) c

  -- ---- a head goes onward, or is a null that has no leading record

  pub step-onward : (c : Cursor) → c.at ≤ length deck → (c.at ≤ (step_at deck c).at) × ((step_at deck c).at ≤ length deck)
  unfolding step_at
  step-onward c k = let o = head-at-onward deck c k in (omega (arith, o.ahead, o.beyond), o.within)

  step-further : (c : Cursor) → c.at ≤ length deck → is_node (record_at deck c) ≡ false → c.at < (step_at deck c).at
  unfolding step_at
  step-further c k e = let f = own-further deck c e in let o = head-at-onward deck c k in omega (arith, f, o.beyond)

  bare-own : (c : Cursor) → c.at ≤ length deck → is_node (record_at deck c) ≡ true → own_at c ≡ []
  unfolding own_at head_at spot_at spot_of node_in kept kept_of origin_of own_boundary headed
  bare-own c k e = rw (tree-value deck pool c k, head-own deck (length deck) no_lead c e)

  -- a head that does not go onward has no file
  stuck : (c : Cursor) → c.at ≤ length deck → (step_at deck c).at ≤ c.at → own_at c ≡ []
  stuck c k h = go (is_node (record_at deck c)) refl
    where
      go : (b : Bool) → is_node (record_at deck c) ≡ b → own_at c ≡ []
      go true e = bare-own c k e
      go false e = let f = step-further c k e in absurd (omega (arith, f, h))

  -- ---- fuel

  -- the test that decides between the two
  pub onward-or : {P : Type 0} (c : Cursor) → (c.at < (step_at deck c).at → P) → ((step_at deck c).at ≤ c.at → P) → P
  onward-or {P} c f g = go (ltb c.at (step_at deck c).at) refl
    where
      go : (b : Bool) → ltb c.at (step_at deck c).at ≡ b → P
      go true e = f (ltb-true _ _ e)
      go false e = g (ltb-false _ _ e)

  same_at : (c d : Cursor) → c.at ≡ d.at → c ≡ d
  same_at c d e = ap (λ (n : ℕ). record { at = n }) e

  stays : (c : Cursor) → c.at ≤ length deck → (step_at deck c).at ≤ c.at → step_at deck c ≡ c
  stays c k h = let o = step-onward c k in same_at _ _ (omega (arith, o.0, h))

  stuck-from : (n : ℕ) (c : Cursor) → c.at ≤ length deck → (step_at deck c).at ≤ c.at → files_from n c ≡ []
  unfolding files_from
  stuck-from zero c k h = refl
  stuck-from (suc n) c k h = rw (stuck c k h, stays c k h) (stuck-from n c k h)

  ended-from : (n : ℕ) (c : Cursor) → c.at ≤ length deck → length deck ≤ c.at → files_from n c ≡ []
  ended-from n c k h = let o = step-onward c k in stuck-from n c k (omega (arith, o.1, h))

  same-fuel : (n m : ℕ) (c : Cursor) → c.at ≤ length deck → length deck - c.at ≤ n → length deck - c.at ≤ m → files_from n c ≡ files_from m c
  unfolding files_from
  same-fuel zero m c k p q = sym (ended-from m c k (omega arith))
  same-fuel (suc n) zero c k p q = ended-from (suc n) c k (omega arith)
  same-fuel (suc n) (suc m) c k p q =
      onward-or c
      (λ h. ap (λ (bs : List Boundary). own_at c ++ bs) (let o = step-onward c k in same-fuel n m (step_at deck c) o.1 (omega (arith, h, p)) (omega (arith, h, q))))
      (λ h. stuck-from (suc n) c k h ∙ sym (stuck-from (suc m) c k h))

  -- the files from a head on are its own and those from the next head on
  pub files-is : (c : Cursor) → c.at ≤ length deck → files_at c ≡ own_at c ++ files_at (step_at deck c)
  unfolding files_at files_from
  files-is c k = same-fuel (length deck) (suc (length deck)) c k (omega arith) (omega arith)

  -- none, where the head does not go onward
  pub files-stuck : (c : Cursor) → c.at ≤ length deck → (step_at deck c).at ≤ c.at → files_at c ≡ []
  unfolding files_at
  files-stuck c k h = stuck-from (length deck) c k h

  pub files-ended : (c : Cursor) → c.at ≤ length deck → length deck ≤ c.at → files_at c ≡ []
  unfolding files_at
  files-ended c k h = ended-from (length deck) c k h

  -- ---- trees

  -- the files of a tree, and those after it, are those from its head on
  abbrev Scans : Cursor → Type 0
  Scans c = boundaries (node_at deck pool c) ++ files_at (next_at deck pool c) ≡ files_at c

  abbrev ScansFrom : Cursor → Type 0
  ScansFrom c = (d : Cursor) → c.at ≤ d.at → d.at ≤ length deck → Scans d

  -- one sibling more: its files, and those of the others
  one_more : (bs : List Boundary) (e c : Cursor) → Scans c → bs ++ files_at e ≡ files_at (next_at deck pool c) → (boundaries (node_at deck pool c) ++ bs) ++ files_at e ≡ files_at c
  one_more bs e c h q = append_assoc (boundaries (node_at deck pool c)) bs (files_at e) ∙ ap (λ (x : List Boundary). boundaries (node_at deck pool c) ++ x) q ∙ h

  after_one : (c : Cursor) → c.at ≤ length deck → ScansFrom c → ScansFrom (next_at deck pool c)
  after_one c k h d x y = let m = tree-moves deck pool c k in h d (omega (arith, m.0, x)) y

  scan-items : (n : ℕ) (c : Cursor) → c.at ≤ length deck → ScansFrom c → boundaries_items (items_from (tree_at deck pool) n c).value ++ files_at (items_from (tree_at deck pool) n c).next ≡ files_at c
  unfolding boundaries_items items_from
  scan-items zero c k h = refl
  scan-items (suc n) c k h =
      let m = tree-moves deck pool c k in
      one_more _ _ c (h c (omega arith) k) (scan-items n (next_at deck pool c) m.1 (after_one c k h))

  scan-pairs : (n : ℕ) (c : Cursor) → c.at ≤ length deck → ScansFrom c → boundaries_pairs (pairs_from (tree_at deck pool) n c).value ++ files_at (pairs_from (tree_at deck pool) n c).next ≡ files_at c
  unfolding boundaries_pairs pairs_from
  scan-pairs zero c k h = refl
  scan-pairs (suc n) c k h =
      let m = tree-moves deck pool c k in
      let d = next_at deck pool c in
      let l = tree-moves deck pool d m.1 in
      let g = after_one c k h in
      one_more _ _ c (h c (omega arith) k) (one_more _ _ d (g d (omega arith) m.1) (scan-pairs n (next_at deck pool d) l.1 (after_one d m.1 g)))

  scan-body : (b : Body) (c : Cursor) → c.at ≤ length deck → (is_group b ≡ true → ScansFrom c) → boundaries_in (kind_of deck pool b c) ++ files_at (end_of deck pool b c) ≡ files_at c
  unfolding boundaries_in kind_of end_of is_group
  scan-body body.Null c k h = refl
  scan-body (body.Scalar w) c k h = refl
  scan-body (body.Alias t) c k h = refl
  scan-body (body.Sequence g) c k h = scan-items g.count c k (h refl)
  scan-body (body.Mapping g) c k h = scan-pairs g.count c k (h refl)

  scan-node : (c : Cursor) → c.at ≤ length deck → (is_group (spot_at deck c).body ≡ true → ScansFrom (step_at deck c)) → Scans c
  unfolding boundaries node_in own_at kept step_at spot_at spot_of
  scan-node c k h =
      let o = step-onward c k in
      let x = spot_at deck c in
      let q = scan-body x.body (step_at deck c) o.1 h in
      rw (files-is c k, tree-value deck pool c k, tree-end deck pool c k)
      (append_assoc (own_boundary (kept_of deck pool x.lead).source (node_in deck pool x)) _ _ ∙ ap (λ (bs : List Boundary). own_boundary (kept_of deck pool x.lead).source (node_in deck pool x) ++ bs) q)

  module _ (small : length deck ≤ 65536) where
    -- children stand further on
    deeper : (c : Cursor) → c.at ≤ length deck → is_group (spot_at deck c).body ≡ true → c.at < (step_at deck c).at
    unfolding step_at spot_at spot_of
    deeper c k e = let g = good-at deck c k small in let d = g.0.deeper e in let p = g.1 in omega (arith, d, p)

    scan-from : (n : ℕ) (c : Cursor) → c.at ≤ length deck → length deck - c.at ≤ n → Scans c
    scan-from zero c k p = scan-node c k (λ e. let d = deeper c k e in let o = step-onward c k in absurd (omega (arith, d, o.1, p)))
    scan-from (suc n) c k p = scan-node c k (λ e d x y. let f = deeper c k e in scan-from n d y (omega (arith, f, x, p)))

    -- the scan over heads goes in tree order
    pub tree-files : (c : Cursor) → c.at ≤ length deck → boundaries (node_at deck pool c) ++ files_at (next_at deck pool c) ≡ files_at c
    tree-files c k = scan-from (length deck) c k (omega arith)

    -- ---- all trees of a deck

    nexts-onward : (n : ℕ) (c : Cursor) → c.at ≤ length deck → c.at ≤ (nexts (next_at deck pool) n c).at
    unfolding nexts
    nexts-onward zero c k = omega arith
    nexts-onward (suc n) c k = let m = tree-moves deck pool c k in let i = nexts-onward n (next_at deck pool c) m.1 in omega (arith, m.0, i)

    -- a tree ends past its head
    step-first : (c : Cursor) → c.at ≤ length deck → (step_at deck c).at ≤ (next_at deck pool c).at
    unfolding step_at
    step-first c k = let o = step-onward c k in rw (tree-next deck pool c k) (nexts-onward _ (head_at deck c).next (unfold step_at in o.1))

    -- where a tree does not go onward there is no file
    no-files : (c : Cursor) → c.at ≤ length deck → (next_at deck pool c).at ≤ c.at → files_at c ≡ []
    no-files c k h = let f = step-first c k in files-stuck c k (omega (arith, f, h))

    none_first : (xs ys : List Boundary) → xs ++ ys ≡ [] → xs ≡ []
    none_first [] ys e = refl
    none_first (x ∷ xs) ys e = absurd (let z : ◌≡◌ {A = ℕ} (suc (length (xs ++ ys))) 0 = ap length e in omega arith)

    no-boundaries : (c : Cursor) → c.at ≤ length deck → (next_at deck pool c).at ≤ c.at → boundaries (node_at deck pool c) ≡ []
    no-boundaries c k h = none_first _ (files_at (next_at deck pool c)) (tree-files c k ∙ no-files c k h)

    next-stays : (c : Cursor) → c.at ≤ length deck → (next_at deck pool c).at ≤ c.at → next_at deck pool c ≡ c
    next-stays c k h = let m = tree-moves deck pool c k in same_at _ _ (omega (arith, m.0, h))

    no-trees : (n : ℕ) (c : Cursor) → c.at ≤ length deck → (next_at deck pool c).at ≤ c.at → boundaries_all (trees_from deck pool n c) ≡ []
    unfolding boundaries_all trees_from
    no-trees zero c k h = refl
    no-trees (suc n) c k h = rw (next-stays c k h) (go (leb (length deck) c.at) (no-trees n c k h))
      where
        go : (b : Bool) → boundaries_all (trees_from deck pool n c) ≡ [] → boundaries_all (when b then [] else node_at deck pool c ∷ trees_from deck pool n c) ≡ []
        go true e = refl
        go false e = rw (no-boundaries c k h) e

    trees-files : (n : ℕ) (c : Cursor) → c.at ≤ length deck → length deck - c.at ≤ n → boundaries_all (trees_from deck pool n c) ≡ files_at c
    unfolding boundaries_all trees_from
    trees-files zero c k p = sym (files-ended c k (omega (arith, p)))
    trees-files (suc n) c k p =
        go (leb (length deck) c.at) (ltb c.at (next_at deck pool c).at) refl refl (λ (l : c.at < (next_at deck pool c).at). let m = tree-moves deck pool c k in trees-files n (next_at deck pool c) m.1 (omega (arith, l, p)))
      where
        go :
            (a b : Bool) → leb (length deck) c.at ≡ a → ltb c.at (next_at deck pool c).at ≡ b
            → (c.at < (next_at deck pool c).at → boundaries_all (trees_from deck pool n (next_at deck pool c)) ≡ files_at (next_at deck pool c))
            → boundaries_all (when a then [] else node_at deck pool c ∷ trees_from deck pool n (next_at deck pool c)) ≡ files_at c
        go true b e f i = sym (files-ended c k (leb-true _ _ e))
        go false true e f i = rw (i (ltb-true _ _ f)) (tree-files c k)
        go false false e f i =
            let h : (next_at deck pool c).at ≤ c.at = ltb-false _ _ f in
            rw (next-stays c k h, no-boundaries c k h, no-files c k h) (no-trees n c k h)

    -- the includes of a deck, in tree order, are those of its heads in the order they stand
    pub deck-files : boundaries_all (trees_of deck pool) ≡ files_at (record { at = 0 })
    unfolding trees_of
    deck-files = trees-files (length deck) (record { at = 0 }) (omega arith) (omega arith)
