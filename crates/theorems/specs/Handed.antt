-- The changed test against a predicate of its own, and the files that are handed back of two lists of includes that are the same but for one.
use Rattle.std.specs.Prelude.{◌≡◌, refl, ◌↔◌, Bool, true, false, not, ◌&&◌, ◌||◌, List, [], ◌∷◌, ◌++◌, T}
use Rattle.std.proofs.Common.{ap}
use Rattle.definition.specs.Base.{when◌then◌else◌}
use Rattle.definition.specs.Tree.{Node, Kind, Nodes, Pairs, node, null, scalar, alias, sequence, mapping, end, item, close, pair, kept}
use Rattle.definition.specs.Walk.{included}
use Rattle.definition.specs.Change.{local_modified, local_in, local_items, local_pairs, Boundary, boundaries, Written, written_of, changed}
use Rattle.theorems.specs.Around.{Touched, on, below, TouchedIn, through_items, through-pairs, TouchedItems, by-item, next-item, TouchedPairs, by_key, by_value, next-pair, SameFile, SameFiles, no-files, more-files, SameBut}
use Rattle.theorems.specs.Files.{inner}

-- ---- tests that pass

or_left : (b c : Bool) → T b → T (b || c)
or_left true c t = tt
or_left false c t = absurd t

or_right : (b c : Bool) → T c → T (b || c)
or_right true c t = tt
or_right false c t = t

and_both : (b c : Bool) → T b → T c → T (b && c)
and_both true c t u = u
and_both false c t u = absurd t

and_first : (b c : Bool) → T (b && c) → T b
and_first true c t = tt
and_first false c t = t

and_second : (b c : Bool) → T (b && c) → T c
and_second true c t = t
and_second false c t = absurd t

data Either (A B : Type 0) : Type 0 where
  one : A → Either A B
  other : B → Either A B

or-either : (b c : Bool) → T (b || c) → Either (T b) (T c)
or-either true c t = one tt
or-either false c t = other t

-- ---- the changed test and the path

mutual
  unfolding local_modified

  touched-local : {n : Node} → Touched n → T (local_modified n)
  touched-local (on {b = b} {k = k} t) = or_left b.modified (local_in k) t
  touched-local (below {b = b} {k = k} h) = or_right b.modified (local_in k) (touched-in h)

  touched-in : {k : Kind} → TouchedIn k → T (local_in k)
  touched-in (through_items h) = touched-items h
  touched-in (through-pairs h) = touched-pairs h

  touched-items : {xs : Nodes} → TouchedItems xs → T (local_items xs)
  touched-items (by-item {x = x} {xs = xs} o t) = or_left (inner x) (local_items xs) (and_both (not (included (kept x))) (local_modified x) o (touched-local t))
  touched-items (next-item {x = x} {xs = xs} h) = or_right (inner x) (local_items xs) (touched-items h)

  touched-pairs : {ps : Pairs} → TouchedPairs ps → T (local_pairs ps)
  touched-pairs (by_key {k = k} {v = v} {ps = ps} t) = or_left (local_modified k || inner v) (local_pairs ps) (or_left (local_modified k) (inner v) (touched-local t))
  touched-pairs (by_value {k = k} {v = v} {ps = ps} o t) =
      or_left (local_modified k || inner v) (local_pairs ps)
      (or_right (local_modified k) (inner v) (and_both (not (included (kept v))) (local_modified v) o (touched-local t)))
  touched-pairs (next-pair {k = k} {v = v} {ps = ps} h) = or_right (local_modified k || inner v) (local_pairs ps) (touched-pairs h)

mutual
  unfolding local_modified

  local-touched : (n : Node) → T (local_modified n) → Touched n
  local-touched (node p a b k) t = elim (or-either b.modified (local_in k) t) [ one u ↦ on u | other u ↦ below (local-in k u) ]

  local-in : (k : Kind) → T (local_in k) → TouchedIn k
  local-in null t = absurd t
  local-in (scalar x y) t = absurd t
  local-in (alias x) t = absurd t
  local-in (sequence f xs) t = through_items (local-items xs t)
  local-in (mapping f ps) t = through-pairs (local-pairs ps t)

  local-items : (xs : Nodes) → T (local_items xs) → TouchedItems xs
  local-items end t = absurd t
  local-items (item x xs) t = elim (or-either (inner x) (local_items xs) t) [
    | one u ↦ by-item (and_first (not (included (kept x))) (local_modified x) u) (local-touched x (and_second (not (included (kept x))) (local_modified x) u))
    | other u ↦ next-item (local-items xs u)
  ]

  local-pairs : (ps : Pairs) → T (local_pairs ps) → TouchedPairs ps
  local-pairs close t = absurd t
  local-pairs (pair k v ps) t = elim (or-either (local_modified k || inner v) (local_pairs ps) t) [
    | one u ↦ elim (or-either (local_modified k) (inner v) u) [
      | one w ↦ by_key (local-touched k w)
      | other w ↦ by_value (and_first (not (included (kept v))) (local_modified v) w) (local-touched v (and_second (not (included (kept v))) (local_modified v) w))
    ]
    | other u ↦ next-pair (local-pairs ps u)
  ]

-- a document, and an include's file, is changed exactly when a changed mark lies on it, or below it on a path that enters another include only
-- as a key
pub changed-exactly : (n : Node) → T (local_modified n) ↔ Touched n
changed-exactly n = (local-touched n, touched-local)

-- ---- two lists of includes that are the same but for one and those below it

changed-append : (bs cs : List Boundary) → changed (bs ++ cs) ≡ changed bs ++ changed cs
unfolding changed
changed-append [] cs = refl
changed-append (x ∷ bs) cs = go (local_modified x.node) (changed-append bs cs)
  where
    go : (b : Bool) → changed (bs ++ cs) ≡ changed bs ++ changed cs
        → (when b then written_of x ∷ changed (bs ++ cs) else changed (bs ++ cs)) ≡ (when b then written_of x ∷ changed bs else changed bs) ++ changed cs
    go true e = ap (λ (r : List Written). written_of x ∷ r) e
    go false e = e

same-written : {x y : Boundary} → SameFile x y → written_of x ≡ written_of y
unfolding written_of
same-written f = λ i. record { id = f.id i; bytes = f.bytes i }

same-changed : {bs cs : List Boundary} → SameFiles bs cs → changed bs ≡ changed cs
unfolding changed
same-changed no-files = refl
same-changed (more-files f h) = rw (f.handed, same-written f, same-changed h)

-- the files that two such calls hand back: the same but for those of the include and of the includes below it, which stand together
pub record SameHanded (α β : Node) (ws vs : List Written) : Type 0 where
  pub before : List Written
  pub after : List Written
  pub parts₁ : ws ≡ before ++ (changed (boundaries α) ++ after)
  pub parts₂ : vs ≡ before ++ (changed (boundaries β) ++ after)

pub same-handed : {α β : Node} {bs cs : List Boundary} → SameBut α β bs cs → SameHanded α β (changed bs) (changed cs)
same-handed o = record {
  before = changed o.before₁;
  after = changed o.after₁;
  parts₁ = rw o.parts₁ (simp changed-append);
  parts₂ = rw o.parts₂ (simp (changed-append, same-changed o.same-before, same-changed o.same_after));
}
