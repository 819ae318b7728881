-- What a call that answers hands back, read off its outcome: the bytes up to its length, and each entry of its list with the bytes that it
-- names. It is what the definitions of the documents and of the changes say, whatever the output and the list held at entry.
use Rattle.std.specs.Prelude.{◌≡◌, refl, ℕ, Bool, true, false, ◌||◌, ltb, length, take, drop}
use Rattle.std.proofs.Math.Path.{ap, ap₂}
use Rattle.std.proofs.Common.{sym, subst, ◌∙◌, arith, length-append}
use mathlib.Core.List.{List, [], ◌∷◌, ◌++◌, append_assoc}
use Rattle.std.proofs.Math.Seq.{take-append_seam, drop-append_seam}
use Rattle.definition.specs.Base.{Bytes, when◌then◌else◌}
use Rattle.definition.specs.Settings.{plain_settings}
use Rattle.definition.specs.Tree.{Node}
use Rattle.definition.specs.Document.{emit_one, emit_all}
use Rattle.definition.specs.Change.{Written, collect, local_modified}
use Rattle.definition.specs.Deck.{Read, got, read_deck}
use Rattle.definition.specs.Calls.{Lent, Outcome, refused, no_room, over, answered, handed, limited, on_trees, on_one, over_trees, entries, bytes_of_all, write_one, write_all, write_changed, tell_modified}
use Rattle.definition.specs.declared.Cursor.{Cursor}
use Rattle.definition.specs.declared.Settings.{Settings}
use Rattle.definition.specs.declared.Change.{Change}

-- ---- what an outcome hands back

abbrev pub bytes_back : Outcome → Bytes
bytes_back o = take o.length o.output

unfoldable pub files_at : List Change → Bytes → List Written
files_at [] t = []
files_at (c ∷ cs) t = record { id = c.id; bytes = take c.length (drop c.start t) } ∷ files_at cs t

abbrev pub files_back : Outcome → List Written
files_back o = files_at (take o.count o.list) o.output

-- ---- an answer is taken apart

abbrev pub Answered : Outcome → Type 0
Answered o = o.number ≡ 0

limited-out : (s : Settings) (x : Lent) (r : Outcome) → Answered (limited s x r) → limited s x r ≡ r
unfolding limited refused
limited-out s x r h =
    go (ltb 16 s.indent || ltb 65535 s.width)
    (ltb 65536 (length x.deck) || ltb 65536 (length x.pool) || ltb 1048576 (length x.output) || ltb 4096 (length x.list)) h
  where
    go : (a b : Bool) → Answered (when a then refused 1 0 x else (when b then refused 2 0 x else r)) → (when a then refused 1 0 x else (when b then refused 2 0 x else r)) ≡ r
    go true b h = absurd (let z : ◌≡◌ {A = ℕ} 1 0 = h in omega arith)
    go false true h = absurd (let z : ◌≡◌ {A = ℕ} 2 0 = h in omega arith)
    go false false h = refl

-- a call over the trees of a deck, where it answers
trees-out : (s : Settings) (f : List Node → Outcome) (x : Lent) {ns : List Node} {c : Cursor} → read_deck x.deck x.pool ≡ got ns c → Answered (over_trees s f x)
    → over_trees s f x ≡ f ns
unfolding over_trees on_trees
trees-out s f x q h = limited-out s x _ h ∙ ap (λ (r : Read (List Node)). on_trees r f x) q

pub record Back (t : Bytes) (cs : List Change) (o : Outcome) : Type 0 where
  pub bytes : bytes_back o ≡ t
  pub list : take o.count o.list ≡ cs
  pub rest : Bytes
  pub whole : o.output ≡ t ++ rest

handed_out : (t : Bytes) (cs : List Change) (x : Lent) → Answered (handed t cs x) → Back t cs (handed t cs x)
unfolding handed no_room answered over
handed_out t cs x h = go (ltb (length x.list) (length cs)) (ltb (length x.output) (length t)) h
  where
    go : (a b : Bool) → Answered (when a then no_room 9 x else (when b then no_room 10 x else answered t cs false x))
        → Back t cs (when a then no_room 9 x else (when b then no_room 10 x else answered t cs false x))
    go true b h = absurd (let z : ◌≡◌ {A = ℕ} 9 0 = h in omega arith)
    go false true h = absurd (let z : ◌≡◌ {A = ℕ} 10 0 = h in omega arith)
    go false false h = record { bytes = take-append_seam t _; list = take-append_seam cs _; rest = drop (length t) x.output; whole = refl }

-- the one document of a deck
pub data One (P : Node → Type 0) : List Node → Type 0 where
  the_one : {n : Node} → P n → One P (n ∷ [])

pub one_map : {P Q : Node → Type 0} {ns : List Node} → ((n : Node) → P n → Q n) → One P ns → One Q ns
one_map f (the_one {n = n} h) = the_one (f n h)

one_out : (f : Node → Outcome) (x : Lent) (ns : List Node) → Answered (on_one f x ns) → One (λ n. on_one f x ns ≡ f n) ns
unfolding on_one refused
one_out f x [] h = absurd (let z : ◌≡◌ {A = ℕ} 8 0 = h in omega arith)
one_out f x (n ∷ []) h = the_one refl
one_out f x (n ∷ m ∷ ns) h = absurd (let z : ◌≡◌ {A = ℕ} 8 0 = h in omega arith)

-- ---- the files that the list's entries name

files-at : (pre : Bytes) (ws : List Written) (rest : Bytes) → files_at (entries (length pre) ws) (pre ++ (bytes_of_all ws ++ rest)) ≡ ws
unfolding files_at entries bytes_of_all
files-at pre [] rest = refl
files-at pre (w ∷ ws) rest =
    ap₂ (λ (t : Bytes) (r : List Written). record { id = w.id; bytes = t } ∷ r)
    (ap (take (length w.bytes)) (drop-append_seam pre _) ∙ ap (take (length w.bytes)) (append_assoc w.bytes _ _) ∙ take-append_seam w.bytes _)
    (ap₂ (λ (k : ℕ) (t : Bytes). files_at (entries k ws) t) (sym (length-append pre w.bytes)) (simp append_assoc) ∙ files-at (pre ++ w.bytes) ws rest)

-- ---- each call

module _ (x : Lent) {ns : List Node} {c : Cursor} (q : read_deck x.deck x.pool ≡ got ns c) where
  pub all_back : (s : Settings) → Answered (write_all s x) → bytes_back (write_all s x) ≡ emit_all s ns
  unfolding write_all
  all_back s h = let e = trees-out s _ x q h in ap bytes_back e ∙ (handed_out (emit_all s ns) [] x (subst Answered e h)).bytes

  pub one-back : (s : Settings) → Answered (write_one s x) → One (λ n. bytes_back (write_one s x) ≡ emit_one s n) ns
  unfolding write_one
  one-back s h =
      let e = trees-out s _ x q h in
      one_map (λ n g. ap bytes_back (e ∙ g) ∙ (handed_out (emit_one s n) [] x (subst Answered (e ∙ g) h)).bytes) (one_out (λ n. handed (emit_one s n) [] x) x ns (subst Answered e h))

  pub modified-back : Answered (tell_modified x) → One (λ n. (tell_modified x).modified ≡ local_modified n) ns
  unfolding tell_modified answered
  modified-back h =
      let e = trees-out plain_settings _ x q h in
      one_map (λ n g. ap (λ (o : Outcome). o.modified) (e ∙ g)) (one_out (λ n. answered [] [] (local_modified n) x) x ns (subst Answered e h))

  pub files-back : Answered (write_changed x) → files_back (write_changed x) ≡ collect ns
  unfolding write_changed
  files-back h =
      let e = trees-out plain_settings _ x q h in
      let b = handed_out (bytes_of_all (collect ns)) (entries 0 (collect ns)) x (subst Answered e h) in
      ap files_back e ∙ ap₂ files_at b.list b.whole ∙ files-at [] (collect ns) b.rest
