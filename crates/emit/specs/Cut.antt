-- The emit program's input, part by part; and that a program which reads 131,077 bytes of it has read enough.
use Rattle.std.specs.Prelude.{◌≡◌, refl, ℕ, ◌+◌, ◌-◌, ◌*◌, ◌≤◌, ◌<◌, Bool, true, false, ◌||◌, List, [], ltb, length, take, drop}
use Rattle.std.proofs.Common.{sym, ap, ◌∙◌, arith, length-drop, take_all, length-take-le, lt-ltb, le-ltb, ltb-true, ltb-false}
use Rattle.definition.specs.Base.{Bytes}
use Rattle.definition.specs.Records.{word_at}
use Rattle.definition.specs.Settings.{plain_settings}
use Rattle.definition.specs.Tree.{Node}
use Rattle.definition.specs.Deck.{Read, fault, got, read_deck}
use Rattle.definition.specs.Calls.{Lent, Outcome, refused, no_room, answered, handed, limited, on_trees, over_trees, write_all}
use Rattle.definition.specs.Program.{refusal_line, shown, emit_into, program}
use Rattle.definition.specs.declared.Settings.{Settings}
use Rattle.laws.specs.Tests.{by-test}
use Rattle.told.specs.Outcome.{Small, all-judged}
use Rattle.told.proofs.Outcome.{plain-settled, refused-2}

-- the length of the deck, as the input states it
unfoldable pub deck_length : Bytes → ℕ
deck_length input = word_at input 0 + 65536 * word_at input 2

-- ---- the program, by cases

pub short-program : (s : Bytes) → length s < 4 → program s ≡ shown (emit_into [] [])
unfolding program
short-program s h = rw (lt-ltb _ _ h)

pub stated-program : (s : Bytes) → 4 ≤ length s → 65536 < deck_length s → program s ≡ refusal_line 2 0
unfolding program deck_length
stated-program s h o = rw (le-ltb _ _ h, lt-ltb _ _ o)

pub cut-program : (s : Bytes) → 4 ≤ length s → deck_length s ≤ 65536
    → program s ≡ shown (emit_into (take (deck_length s) (drop 4 s)) (drop (deck_length s) (drop 4 s)))
unfolding program deck_length
cut-program s h o = rw (le-ltb _ _ h, le-ltb _ _ o)

-- ---- an answer's length

abbrev Fits : Lent → Outcome → Type 0
Fits x r = r.length ≤ length x.output

limited-fits : (s : Settings) (x : Lent) (r : Outcome) → Fits x r → Fits x (limited s x r)
unfolding limited refused
limited-fits s x r h =
    by-test (Fits x) (ltb 16 s.indent || ltb 65535 s.width) (λ e. omega arith)
    (λ e. by-test (Fits x) (ltb 65536 (length x.deck) || ltb 65536 (length x.pool) || ltb 1048576 (length x.output) || ltb 4096 (length x.list)) (λ e. omega arith) (λ e. h))

trees-fits : (x : Lent) (f : List Node → Outcome) → ((ns : List Node) → Fits x (f ns)) → (r : Read (List Node)) → Fits x (on_trees r f x)
unfolding on_trees refused
trees-fits x f h (fault n p) = omega arith
trees-fits x f h (got ns c) = h ns

handed-fits : (t : Bytes) (x : Lent) → Fits x (handed t [] x)
unfolding handed no_room answered
handed-fits t x =
    by-test (Fits x) (ltb (length x.list) 0) (λ e. omega arith)
    (λ e. by-test (Fits x) (ltb (length x.output) (length t)) (λ e. omega arith) (λ e. ltb-false _ _ e))

-- no more was written than there is output
pub all-fits : (s : Settings) (x : Lent) → (write_all s x).length ≤ length x.output
unfolding write_all over_trees
all-fits s x = limited-fits s x _ (trees-fits x _ (λ ns. handed-fits _ x) (read_deck x.deck x.pool))

-- ---- too much input

long-pool : (deck pool : Bytes) → 65536 < length pool → shown (emit_into deck pool) ≡ refusal_line 2 0
unfolding shown emit_into refused
long-pool deck pool h =
    ap shown (refused-2 (all-judged plain_settings) _ plain-settled (λ (l : Small _). let k : length pool ≤ 65536 = l.pool in absurd (omega (arith, h, k))))

long-program : (s : Bytes) → 131077 ≤ length s → program s ≡ refusal_line 2 0
long-program s h = go (ltb 65536 (deck_length s)) refl
  where
    go : (b : Bool) → ltb 65536 (deck_length s) ≡ b → program s ≡ refusal_line 2 0
    go true e = stated-program s (omega arith) (ltb-true _ _ e)
    go false e =
        let n : deck_length s ≤ 65536 = ltb-false _ _ e in
        let f : length (drop 4 s) ≡ length s - 4 = length-drop 4 s in
        let g : length (drop (deck_length s) (drop 4 s)) ≡ length (drop 4 s) - deck_length s = length-drop (deck_length s) (drop 4 s) in
        cut-program s (omega arith) n ∙ long-pool _ _ (omega (arith, n, f, g, h))

-- four bytes, the longest deck, the longest pool, and one byte by which too much is seen
pub enough : (s : Bytes) → program (take 131077 s) ≡ program s
enough s = go (ltb 131077 (length s)) refl
  where
    go : (b : Bool) → ltb 131077 (length s) ≡ b → program (take 131077 s) ≡ program s
    go true e =
        let h : 131077 < length s = ltb-true _ _ e in
        let l : length (take 131077 s) ≡ 131077 = length-take-le 131077 s (omega (arith, h)) in
        long-program (take 131077 s) (omega (arith, l)) ∙ sym (long-program s (omega (arith, h)))
    go false e = ap program (take_all 131077 s (ltb-false _ _ e))
