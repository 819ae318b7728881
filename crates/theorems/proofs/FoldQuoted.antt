-- What folding promises, of the bytes that the emitter writes in quotes.
use Rattle.std.specs.Prelude.{ℕ, ◌+◌, refl, Bool}
use Rattle.definition.specs.Base.{Bytes}
use Rattle.definition.specs.Fold.{fold}
use Rattle.definition.specs.Settings.{weight_of}
use Rattle.definition.specs.Scalar.{body_of, quoted_folded}
use Rattle.definition.specs.declared.Settings.{Settings}
use Rattle.theorems.proofs.FoldBound.{fold-way, fold-bounded}
use Rattle.theorems.specs.FoldQuoted.{folding, FoldedQuotes}

-- .. AS THE EMITTER WRITES IT
pub quoted-folds : (o : Settings) (single : Bool) (v : Bytes) (col : ℕ) → FoldedQuotes o single v col (quoted_folded o single v col)
unfolding quoted_folded weight_of
quoted-folds o single v col =
    let x : Bytes = fold (folding o col) (col + 1) (body_of single v) in
    record {
      content = x;
      between = refl;
      way = fold-way (folding o col) (col + 1) (body_of single v);
      bounded = fold-bounded (folding o col) refl (col + 1) (body_of single v);
    }
