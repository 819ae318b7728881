-- Records that repeat, written one after another: head comments, all of them or those of one side, foot comments, directives.
use Rattle.std.specs.Prelude.{◌≡◌, Bool, ◌∷◌}
use Rattle.std.proofs.Math.Path.{refl, ap}
use Rattle.std.proofs.Common.{sym, ◌∙◌}
use Prim.Native.Nat.{ℕ, zero, suc, ◌+◌, ◌≤◌}
use Rattle.std.proofs.Math.Bool.{true, false, not}
use Rattle.definition.specs.Base.{Bytes, when◌then◌else◌}
use Rattle.definition.specs.Ascii.{'%'}
use Rattle.definition.specs.Records.{heading_at}
use Rattle.definition.specs.Deck.{head_of}
use Rattle.definition.specs.Tree.{Head, Kept}
use Rattle.definition.specs.Pen.{directive, Script, put, ◌>>◌, nothing, newline}
use Rattle.definition.specs.Walk.{comment_line, comment_lines, heads_that, heads, heads_above, heads_below, foots}
use Rattle.definition.specs.Document.{directives}
use Rattle.definition.specs.declared.Cursor.{Cursor}
use Rattle.definition.specs.declared.Settings.{Settings}
use Rattle.node.specs.declared.Lead.{Lead}
use Rattle.node.specs.declared.Run.{Run}
use Rattle.node.specs.Total.{run_from, comment_at, text_of, kept_of}
use Rattle.pen.specs.Pen.{Pen, puts, ink}
use Rattle.pen.specs.Draws.{Draws}
use Rattle.comments.specs.declared.Entries.{Entries}
use Rattle.comments.specs.declared.Entries.TheVariants.{Heads, Over, Under, Foots, Directives}

-- the bytes of a record
unfoldable pub stride : Entries → ℕ
stride Heads = 6
stride Over = 6
stride Under = 6
stride Foots = 5
stride Directives = 5

unfoldable pub percent : Bytes → Script
percent t = put directive ('%' ∷ t) >> newline

-- what is written of the record at a cursor
unfoldable pub entry : Bytes → Bytes → Entries → ℕ → Cursor → Script
entry deck pool Heads i c = comment_line i (text_of deck pool c)
entry deck pool Over i c = when (comment_at deck pool c).below then nothing else comment_line i (text_of deck pool c)
entry deck pool Under i c = when (comment_at deck pool c).below then comment_line i (text_of deck pool c) else nothing
entry deck pool Foots i c = comment_line i (text_of deck pool c)
entry deck pool Directives i c = percent (text_of deck pool c)

-- and of n of them
unfoldable pub entries : Bytes → Bytes → Entries → ℕ → ℕ → Cursor → Script
entries deck pool e i zero c = nothing
entries deck pool e i (suc n) c = entry deck pool e i c >> entries deck pool e i n (record { at = c.at + stride e })

-- ---- the records of one node

unfoldable pub run_of : Entries → Lead → Run
run_of Heads l = l.heads
run_of Over l = l.heads
run_of Under l = l.heads
run_of Foots l = l.foots
run_of Directives l = l.directives

unfoldable pub repeated : Entries → Kept → ℕ → Script
repeated Heads a i = heads a i
repeated Over a i = heads_above a i
repeated Under a i = heads_below a i
repeated Foots a i = foots a i
repeated Directives a i = directives a.directives

-- the runs of a head are short, wherever they stand
pub record Short (l : Lead) : Type 0 where
  pub heads-first : l.heads.first.at ≤ 65536
  pub heads-count : l.heads.count ≤ 65536
  pub foots-first : l.foots.first.at ≤ 65536
  pub foots-count : l.foots.count ≤ 65536
  pub directives-first : l.directives.first.at ≤ 65536
  pub directives-count : l.directives.count ≤ 65536

module _ (deck pool : Bytes) (i : ℕ) (s : Settings) where
  -- head comments that pass a test
  heads-drawn :
      (e : Entries) (f : Head → Bool) → stride e ≡ 6
      → ((c : Cursor) (p : Pen) → ink s (entry deck pool e i c) p ≡ ink s (when f (comment_at deck pool c) then comment_line i (comment_at deck pool c).text else nothing) p)
      → (n : ℕ) (c : Cursor) (p : Pen) → ink s (comment_lines i (heads_that f (run_from (comment_at deck pool) 6 n c))) p ≡ ink s (entries deck pool e i n c) p
  unfolding ink puts nothing comment_lines heads_that run_from entries
  heads-drawn e f k h zero c p = refl
  heads-drawn e f k h (suc n) c p =
      let d : Cursor = record { at = c.at + stride e } in
      let same : d ≡ record { at = c.at + 6 } = ap (λ (m : ℕ). record { at = c.at + m }) k in
      go (f (comment_at deck pool c)) ∙ heads-drawn e f k h n (record { at = c.at + 6 }) _
      ∙ ap (λ (x : Cursor). ink s (entries deck pool e i n x) (ink s (when f (comment_at deck pool c) then comment_line i (comment_at deck pool c).text else nothing) p)) (sym same)
      ∙ ap (ink s (entries deck pool e i n d)) (sym (h c p))
    where
      go :
          (b : Bool) →
          ink s (comment_lines i (when b then (comment_at deck pool c).text ∷ heads_that f (run_from (comment_at deck pool) 6 n (record { at = c.at + 6 })) else heads_that f (run_from (comment_at deck pool) 6 n (record { at = c.at + 6 })))) p
          ≡ ink s (comment_lines i (heads_that f (run_from (comment_at deck pool) 6 n (record { at = c.at + 6 })))) (ink s (when b then comment_line i (comment_at deck pool c).text else nothing) p)
      go true = refl
      go false = refl

  texts-drawn : (e : Entries) → stride e ≡ 5 → ((c : Cursor) → entry deck pool e i c ≡ comment_line i (text_of deck pool c)) → (n : ℕ) (c : Cursor) (p : Pen) → ink s (comment_lines i (run_from (text_of deck pool) 5 n c)) p ≡ ink s (entries deck pool e i n c) p
  unfolding ink comment_lines run_from entries
  texts-drawn e k h zero c p = refl
  texts-drawn e k h (suc n) c p = rw (h c, k) (texts-drawn e k h n (record { at = c.at + 5 }) (ink s (comment_line i (text_of deck pool c)) p))

  directives-drawn : (n : ℕ) (c : Cursor) (p : Pen) → ink s (directives (run_from (text_of deck pool) 5 n c)) p ≡ ink s (entries deck pool Directives i n c) p
  unfolding ink directives run_from entries entry percent stride
  directives-drawn zero c p = refl
  directives-drawn (suc n) c p = directives-drawn n (record { at = c.at + 5 }) (ink s (percent (text_of deck pool c)) p)

  -- the records of one node, one after another
  pub repeated-drawn : (e : Entries) (l : Lead) (p : Pen) → ink s (repeated e (kept_of deck pool l) i) p ≡ ink s (entries deck pool e i (run_of e l).count (run_of e l).first) p
  unfolding repeated run_of kept_of heads heads_above heads_below foots entry stride comment_at text_of head_of heading_at
  repeated-drawn Heads l p = heads-drawn Heads (λ h. true) refl (λ c q. refl) _ _ p
  repeated-drawn Over l p = heads-drawn Over (λ h. not h.below) refl (λ c q. over (comment_at deck pool c).below (comment_line i (text_of deck pool c)) q) _ _ p
    where
      over : (b : Bool) (a : Script) (q : Pen) → ink s (when b then nothing else a) q ≡ ink s (when not b then a else nothing) q
      over true a q = refl
      over false a q = refl
  repeated-drawn Under l p = heads-drawn Under (λ h. h.below) refl (λ c q. refl) _ _ p
  repeated-drawn Foots l p = texts-drawn Foots refl (λ c. refl) _ _ p
  repeated-drawn Directives l p = directives-drawn _ _ p

-- a run of no records
pub none-repeated : (deck pool : Bytes) (e : Entries) (i : ℕ) (l : Lead) {P : Pen} → (run_of e l).count ≡ 0 → Draws (repeated e (kept_of deck pool l) i) P P
unfolding ink entries nothing puts
none-repeated deck pool e i l {P = P} z =
    record { drawn = λ s. sym (repeated-drawn deck pool i s e l P ∙ ap (λ (n : ℕ). ink s (entries deck pool e i n (run_of e l).first) P) z) }
