-- Demand 3, first sentence, of the list that a call hands back: which includes on the path have an entry in it, and what the entry says.
use Rattle.std.specs.Prelude.{◌≡◌, refl, List, T}
use Rattle.std.proofs.Common.{sym, subst, ◌∙◌}
use Rattle.definition.specs.Tree.{Node, Nodes, Pairs, kept}
use Rattle.definition.specs.Change.{Written}
use Rattle.theorems.specs.Around.{Twin, here, inside, Under, in-sequence, in-mapping, TwinItems, this-item, later-item, TwinPairs, this-value, later-pair, TwinAll, this-document, later-document, Touched, SameAsFile, Along, AlongUnder, AlongItems, AlongPairs, AlongAll}
use Rattle.theorems.specs.Handed.{changed-exactly}
use Rattle.theorems.specs.Listed
use Rattle.theorems.specs.Listed.{In, InItems, InPairs, InAll, self, of-items, of-pairs, id_of, Member, Exactly}
use Rattle.theorems.specs.Entries.{EntryOf, SameEntries}

-- ---- what stands on the path stands in the trees

module _ (P Q : Node → Node → Type 0) where
  -- from P of two partners to Q of them, where they stand as these say and have one id
  abbrev Turns : (Node → Type 0) → (Node → Type 0) → Type 0
  Turns A B = (n m : Node) → A n → B m → id_of n ≡ id_of m → P n m → Q n m

  mutual
    unfolding Along kept

    along-in : {α β a b : Node} (t : Twin α β a b) → Turns (λ n. In n a) (λ m. In m b) → Along P t → Along Q t
    along-in (here w) f p = tt
    along-in (inside u) f p = along_under u f p

    along_under : {α β a b : Node} (u : Under α β a b) → Turns (λ n. In n a) (λ m. In m b) → AlongUnder P u → AlongUnder Q u
    along_under (in-sequence t) f p =
        (f _ _ (self refl) (self refl) refl p.0, along-items t (λ n m i j. f n m (Listed.inside (of-items i)) (Listed.inside (of-items j))) p.1)
    along_under (in-mapping t) f p =
        (f _ _ (self refl) (self refl) refl p.0, along-pairs t (λ n m i j. f n m (Listed.inside (of-pairs i)) (Listed.inside (of-pairs j))) p.1)

    along-items : {α β : Node} {xs ys : Nodes} (t : TwinItems α β xs ys) → Turns (λ n. InItems n xs) (λ m. InItems m ys) → AlongItems P t → AlongItems Q t
    along-items (this-item t h) f p = along-in t (λ n m i j. f n m (Listed.this-item i) (Listed.this-item j)) p
    along-items (later-item h t) f p = along-items t (λ n m i j. f n m (Listed.later-item i) (Listed.later-item j)) p

    along-pairs : {α β : Node} {ps qs : Pairs} (t : TwinPairs α β ps qs) → Turns (λ n. InPairs n ps) (λ m. InPairs m qs) → AlongPairs P t → AlongPairs Q t
    along-pairs (this-value k t h) f p = along-in t (λ n m i j. f n m (Listed.this-value i) (Listed.this-value j)) p
    along-pairs (later-pair k h t) f p = along-pairs t (λ n m i j. f n m (Listed.later-pair i) (Listed.later-pair j)) p

  along-all : {α β : Node} {ns ms : List Node} (t : TwinAll α β ns ms) → Turns (λ n. InAll n ns) (λ m. InAll m ms) → AlongAll P t → AlongAll Q t
  unfolding AlongAll
  along-all (this-document t h) f p = along-in t (λ n m i j. f n m (Listed.this-document i) (Listed.this-document j)) p
  along-all (later-document h t) f p = along-all t (λ n m i j. f n m (Listed.later-document i) (Listed.later-document j)) p

-- ---- their entries

touched-too : {n m : Node} → SameAsFile n m → Touched n → Touched m
touched-too {n = n} {m = m} e h = (changed-exactly m).0 (subst T e.handed ((changed-exactly n).1 h))

turned : {n m : Node} → SameAsFile n m → SameAsFile m n
turned e = record { bytes = sym e.bytes; handed = sym e.handed }

-- an entry of n is one of m, if m stands in the other trees with n's id and as the same file
entry-too : {ns ms : List Node} {ws vs : List Written} {n m : Node} (a : Exactly ns ws) (b : Exactly ms vs) → InAll m ms → id_of n ≡ id_of m → SameAsFile n m
    → (w : Written) → EntryOf a n w → EntryOf b m w
entry-too {m = m} a b i e f w h =
    let s = a.stands _ h.stands in
    record { stands = b.every m w.id i (sym e ∙ s.1) (touched-too f s.2); bytes = h.bytes ∙ f.bytes }

pub entries-along : {α β : Node} {ns ms : List Node} {ws vs : List Written} (t : TwinAll α β ns ms) → AlongAll SameAsFile t → Exactly ns ws → Exactly ms vs → SameEntries t ws vs
entries-along t p a b = record {
  list₁ = a;
  list₂ = b;
  path = along-all SameAsFile _ t (λ n m i j e f w. (entry-too a b j e f w, entry-too b a i (sym e) (turned f) w)) p;
}
