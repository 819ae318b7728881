use mathlib.Core.Path.{◌≡◌, refl}
use Prim.Native.Nat.{◌<◌}
use borrow.Author.Rules.{rules}
use Rattle.std.proofs.lemmas.Fn.{fold_over, slice_gives, fronts}
use Rattle.pen.specs.Pen.{column_over}
use Rattle.pen.proofs.Texts.{column_push}
use Rattle.pen.proofs.column_over.Goals as goal

pub returns : goal.returns
unfolding column_over
returns c =
    rw (← c.iter.ensures.rest)
    (fold_over fronts (λ y. y.now) _ (λ ys n. (n ≡ column_over c.args.most c.args.column ys) × (n < 268435456)) _
    (λ ys a x b f' j k. let e = column_push c.args.most c.args.column ys x.now in search rules)
    _ _ _ _ (slice_gives c.iter.result) (refl, c.requires.0) c.fold.ensures.ran)
