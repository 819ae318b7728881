-- A piece of a quoted body: how the program finds it is how the definition has it.
use Prim.Native.Nat.{ℕ, ◌+◌, ◌≤◌, ◌<◌}
use native.Mathlib.Omega.{arith}
use mathlib.Core.Path.{◌≡◌, refl, sym, ap, ◌∙◌}
use mathlib.Core.Bool.{Bool, true, false, true≢false, false≢true, not}
use mathlib.Core.List.{[], ◌∷◌, ◌++◌}
use lib.ListN.{get_or, drop}
use lib.Seq.{get_or-drop}
use lib.Dec.{ltb, leb, eqb}
use borrow.Author.Tests.{eqb-true, eq-eqb, ne_eqb, ltb-true, lt-ltb, le-ltb, le-leb, not-true}
use Rattle.definition.specs.Base.{Bytes, when◌then◌else◌, within}
use Rattle.std.specs.Prelude.{Option, Some, None}
use Rattle.std.proofs.lemmas.Bool.Decides.{nat_tests}
use Rattle.definition.specs.Char.{non_printable}
use Rattle.definition.specs.Quote.{digit, hex2, hex4, escaped}
use Rattle.laws.specs.Tests.{below-it, by-test}
use Rattle.laws.specs.Numbers.{c1-print, non-print, not-c1, not-non, not-non-next, non-is}
use Rattle.laws.specs.Pieces.{is_c1, is_non, double_piece, double_more, single_piece, double, quote_by}
use Rattle.laws.specs.Computed.{all, apply, equal, equal_is}
use Rattle.pieces.specs.Piece.{letter_of, Written, Stands, Own, marked}
use Rattle.pieces.specs.declared.Piece.{Piece}
use Rattle.pieces.specs.declared.Piece.TheVariants.{Plain, Pair, Hex, Latin, Wide}

abbrev pub table : Bytes
table = 48 ∷ 49 ∷ 50 ∷ 51 ∷ 52 ∷ 53 ∷ 54 ∷ 55 ∷ 56 ∷ 57 ∷ 97 ∷ 98 ∷ 99 ∷ 100 ∷ 101 ∷ 102 ∷ []

pub digits : (d : ℕ) → d < 16 → get_or table d 0 ≡ digit d
unfolding digit
digits d h = eqb-true _ _ (all (λ k. eqb (get_or table k 0) (digit k)) 16 refl d h)

-- how the program spells a character below 80, by its letter
abbrev by_letter : Option ℕ → ℕ → Bytes
by_letter (Some l) a = 92 ∷ l ∷ []
by_letter None a = when non_printable a then 92 ∷ 120 ∷ hex2 a else a ∷ []

by_letter-escaped : (a : ℕ) (l : Option ℕ) → a < 0x80 → l ≡ letter_of a → by_letter l a ≡ escaped a (a ∷ [])
unfolding escaped non_printable within digit hex2 hex4 letter_of
by_letter-escaped a l h e = rw e (equal_is _ _ (all (λ k. equal (by_letter (letter_of k) k) (escaped k (k ∷ []))) 0x80 refl a h))

pub ascii_pair : (a l : ℕ) → a < 0x80 → Some l ≡ letter_of a → Written (escaped a (a ∷ [])) 0 (Pair 92 l)
ascii_pair a l h e = record { spelled = by_letter-escaped a (Some l) h e; speaks = refl; good = tt }

pub ascii_hex : (a : ℕ) → a < 0x80 → None ≡ letter_of a → non_printable a ≡ true → Written (escaped a (a ∷ [])) 0 (Hex a)
ascii_hex a h e g = record { spelled = rw g at (by_letter-escaped a None h e); speaks = refl; good = tt }

pub ascii_plain : (a : ℕ) → a < 0x80 → None ≡ letter_of a → non_printable a ≡ false → Written (escaped a (a ∷ [])) 0 (Plain a)
ascii_plain a h e g = record { spelled = rw g at (by_letter-escaped a None h e); speaks = refl; good = tt }

pub c1_other : (a b : ℕ) → (a ≡ 0xc2 → ⊥) → false ≡ is_c1 a b
c1_other a b h = sym (not-c1 a b h)

pub c1_low : (a b : ℕ) → a ≡ 0xc2 → b < 0x80 → false ≡ is_c1 a b
unfolding is_c1
c1_low a b e h = rw (eq-eqb a 0xc2 e, ne_eqb b 0x85 (λ (q : b ≡ 0x85). omega arith), below-it 0x80 0x9f b h)

pub c1_high : (a b : ℕ) → a ≡ 0xc2 → 0x80 ≤ b → b < 256 → non_printable b ≡ is_c1 a b
c1_high a b e h l = rw e (c1-print b h l)

pub non_first : (a b c : ℕ) → (a ≡ 0xef → ⊥) → false ≡ is_non a b c
non_first a b c h = sym (not-non a b c h)

pub non_second : (a b c : ℕ) → a ≡ 0xef → (b ≡ 0xbf → ⊥) → false ≡ is_non a b c
non_second a b c e h = sym (not-non-next a b c e h)

pub non_third : (a b c : ℕ) → a ≡ 0xef → b ≡ 0xbf → non_printable (0xff40 + c) ≡ is_non a b c
non_third a b c e h = rw (e, h) (non-print c)

pub double_ascii : (a b c : ℕ) (p : Piece) → a < 0x80 → Written (escaped a (a ∷ [])) 0 p → Written (double_piece a b c) (double_more a b c) p
unfolding double_piece double_more
double_ascii a b c p h w = record { spelled = rw (lt-ltb a 0x80 h) w.spelled; speaks = rw (lt-ltb a 0x80 h) w.speaks; good = w.good }

pub double_latin : (a b c : ℕ) → 0x80 ≤ a → is_c1 a b ≡ true → Written (double_piece a b c) (double_more a b c) (Latin b)
unfolding double_piece double_more
double_latin a b c h e = record { spelled = rw (le-ltb a 0x80 h, e); speaks = rw (le-ltb a 0x80 h, e); good = tt }

pub double_wide : (a b c : ℕ) → 0x80 ≤ a → is_c1 a b ≡ false → is_non a b c ≡ true → Written (double_piece a b c) (double_more a b c) (Wide c)
unfolding double_piece double_more
double_wide a b c h e g =
    record { spelled = rw (le-ltb a 0x80 h, e, g); speaks = rw (le-ltb a 0x80 h, e, g); good = ((non-is a b c g).2, (non-is a b c g).3) }

pub double_plain : (a b c : ℕ) → 0x80 ≤ a → is_c1 a b ≡ false → is_non a b c ≡ false → Written (double_piece a b c) (double_more a b c) (Plain a)
unfolding double_piece double_more
double_plain a b c h e g = record { spelled = rw (le-ltb a 0x80 h, e, g); speaks = rw (le-ltb a 0x80 h, e, g); good = tt }

pub single_pair : (a : ℕ) → a ≡ 39 → Written (single_piece a 0 0) 0 (Pair a a)
unfolding single_piece
single_pair a e = record { spelled = rw e; speaks = refl; good = tt }

pub single_plain : (a : ℕ) → (a ≡ 39 → ⊥) → Written (single_piece a 0 0) 0 (Plain a)
unfolding single_piece
single_plain a e = record { spelled = rw (ne_eqb a 39 e); speaks = refl; good = tt }

here : (s : Bytes) (i : ℕ) → get_or (drop i s) 0 0 ≡ get_or s i 0
here s i = get_or-drop i s 0 0 ∙ ap (λ (n : ℕ). get_or s n 0) (omega arith)

pub stands_double : (s : Bytes) (i a b c : ℕ) (d : Bool) (p : Piece) → d ≡ false → a ≡ get_or s i 0 → b ≡ get_or s (i + 1) 0 → c ≡ get_or s (i + 2) 0
    → Written (double_piece a b c) (double_more a b c) p → Stands (quote_by d) (drop i s) p
stands_double s i a b c false p e ea eb ec w =
    record {
      spelled = rw (here s i, get_or-drop i s 1 0, get_or-drop i s 2 0, ← ea, ← eb, ← ec) w.spelled;
      speaks = rw (here s i, get_or-drop i s 1 0, get_or-drop i s 2 0, ← ea, ← eb, ← ec) w.speaks;
      good = w.good;
    }
stands_double s i a b c true p e ea eb ec w = absurd (true≢false e)

pub stands_single : (s : Bytes) (i a : ℕ) (d : Bool) (p : Piece) → d ≡ true → a ≡ get_or s i 0 → Written (single_piece a 0 0) 0 p → Stands (quote_by d) (drop i s) p
unfolding single_piece
stands_single s i a true p e ea w = record { spelled = rw (here s i, ← ea) w.spelled; speaks = w.speaks; good = w.good }
stands_single s i a false p e ea w = absurd (false≢true e)

-- FF40 and BE or BF: the digits ff, and those of the byte and 40
pub wide_digits : (c : ℕ) → 0xbe ≤ c → c ≤ 0xbf → hex4 (0xff40 + c) ≡ hex2 0xff ++ hex2 (c + 0x40)
unfolding digit hex2 hex4
wide_digits c l h =
    equal_is _ _
    (apply (leb 0xbe c) (equal (hex4 (0xff40 + c)) (hex2 0xff ++ hex2 (c + 0x40)))
    (all (λ k. when leb 0xbe k then equal (hex4 (0xff40 + k)) (hex2 0xff ++ hex2 (k + 0x40)) else true) 0xc0 refl c (omega arith)) (le-leb 0xbe c l))

-- ---- bytes that are written as they are

pub own_single : (a stop : ℕ) (d : Bool) → (a ≡ stop → ⊥) → d ≡ true → not (eqb a 39) ≡ true → Own (quote_by d) stop a
unfolding single_piece
own_single a stop true n e t = record { itself = λ b c. rw (not-true (eqb a 39) t); alone = λ b c. refl; other = n }
own_single a stop false n e t = absurd (false≢true e)

-- a character below 80 that has no escape
abbrev unescaped : ℕ → Bool
unescaped a = when ltb a 0x20 then false else (when eqb a 34 then false else (when eqb a 92 then false else (when eqb a 0x7f then false else true)))

ascii-own : (a : ℕ) → a < 0x80 → unescaped a ≡ true → escaped a (a ∷ []) ≡ a ∷ []
unfolding escaped non_printable within digit hex2 hex4
ascii-own a h e =
    equal_is _ _
    (apply (unescaped a) (equal (escaped a (a ∷ [])) (a ∷ []))
    (all (λ k. when unescaped k then equal (escaped k (k ∷ [])) (k ∷ []) else true) 0x80 refl a h) e)

own_unmarked : (a stop : ℕ) → (a ≡ stop → ⊥) → 0x20 ≤ a → (a ≡ 34 → ⊥) → (a ≡ 92 → ⊥) → (a ≡ 0x7f → ⊥) → (a ≡ 0xc2 → ⊥) → (a ≡ 0xef → ⊥) → Own double stop a
unfolding double_piece double_more
own_unmarked a stop n l q k r c f =
    let u : unescaped a ≡ true = rw (le-ltb a 0x20 l, ne_eqb a 34 q, ne_eqb a 92 k, ne_eqb a 0x7f r) in
    record {
      itself = λ b d. by-test (λ (x : Bytes). x ≡ a ∷ []) (ltb a 0x80) (λ h. ascii-own a (ltb-true a 0x80 h) u) (λ h. rw (not-c1 a b c, not-non a b d f));
      alone = λ b d. by-test (λ (x : ℕ). x ≡ 0) (ltb a 0x80) (λ h. refl) (λ h. rw (not-c1 a b c, not-non a b d f));
      other = n;
    }

pub own_double : (a stop : ℕ) (d : Bool) → (a ≡ stop → ⊥) → d ≡ false → marked a ≡ false → Own (quote_by d) stop a
own_double a stop true n e m = absurd (true≢false e)
own_double a stop false n e m = own_unmarked a stop n (grind (arith, nat_tests)) (grind (arith, nat_tests)) (grind (arith, nat_tests)) (grind (arith, nat_tests)) (grind (arith, nat_tests)) (grind (arith, nat_tests))
