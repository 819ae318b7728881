-- `input::read_full`: a read adds what it gave to what stands at the front; an interrupted one adds nothing.
use Rattle.std.proofs.Common.{◌≡◌, ℕ, ◌+◌, ◌-◌, ◌≤◌, List, ◌++◌, rules, length, take, sym, ap, ◌∙◌, subst, le_refl, length-take-le}
use Rattle.std.proofs.lemmas.Slice.{take-put_mid_below}
use Rattle.std.proofs.lemmas.List.{take-append-le}
use Rattle.std.proofs.Math.Seq.{take-append-add}
use Rattle.std.specs.Io.KnownBytes.{Consumes}
use Rattle.std.proofs.KnownBytes.{Consumes-trans, Consumes-kept}
use borrow.Rule.Slice.PartMut.{put_mid, post_of}
use Rattle.input.proofs.read_full.Goals as goal
use Rattle.input.proofs.read_full.Goals.{in-Ok, in-Err}

-- what stood before, and the front of what was put after it
take-put_mid_past : (a k n : ℕ) (xs ys : List ℕ) → a ≤ length xs → n ≤ length ys → take (a + n) (put_mid a k xs ys) ≡ take a xs ++ take n ys
take-put_mid_past a k n xs ys h l =
    let post = post_of a k xs in
    let s = rw (length-take-le a xs h) at (take-append-add (take a xs) (ys ++ post) n) in
    s ∙ ap (λ m. take a xs ++ m) (take-append-le n ys post l)

pub loop-preserved : goal.loop-preserved
loop-preserved g c =
    let from = c.loop.at in
    let room = length c.loop.buf - from in
    let within = c.loop.invariant.1 in
    elim c.match-read.branch [
      | in-Ok w ↦
          let put = take-put_mid_past from room w.in-Ok.n c.loop.buf c.read.new.buf within w.in-Ok.ensures.bound.0 in
          (search rules, search rules, rw w.at-is (subst (Consumes _ _) (sym put) (Consumes-trans _ _ _ _ _ c.loop.invariant.2 w.in-Ok.ensures.bytes.0)))
      | in-Err w ↦
          (search rules, search rules, rw w.at-is (subst (Consumes _ _) (sym (take-put_mid_below _ _ _ _ _ (le_refl _) within)) (Consumes-kept _ _ _ _ c.loop.invariant.2 w.in-Err.ensures.bytes)))
    ]
