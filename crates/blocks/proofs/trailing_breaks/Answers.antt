use Rattle.std.proofs.Common.{◌≡◌, ◌∙◌, rules, length, take, reverse, eqb}
use borrow.Author.Tests.{tests}
use Rattle.std.specs.List.{prefix_len}
use Rattle.std.proofs.lemmas.List.Folds.{length-prefix_len}
use Rattle.std.proofs.lemmas.Iterator.Search.{YieldsList-from_take_while}
use Rattle.std.proofs.lemmas.Iterator.Adapters.{YieldsList-from_rev_slice}
use Rattle.std.proofs.lemmas.Iterator.Consumers.{YieldsList-at, count_from_yields_List}
use Rattle.definition.specs.Block.{trailing}
use Rattle.laws.specs.Trim.{trailing_le}
use Rattle.blocks.proofs.Laws.{counted}
use Rattle.blocks.proofs.trailing_breaks.Goals as goal

pub returns : goal.returns
returns c =
    let s = c.args.t.now in
    let n : c.count.result ≡ length (take (prefix_len (λ b. eqb b 10) (reverse s)) (reverse s)) = count_from_yields_List _ _ c.count.ensures.ran (YieldsList-from_take_while _ (λ b. eqb b 10) (YieldsList-at c.take_while.ensures.source (YieldsList-from_rev_slice s cc)) c.take_while.ensures.closure c.take_while.ensures.done (λ x b q k. search (rules, tests))) in
    let e : c.count.result ≡ trailing s = n ∙ length-prefix_len (λ b. eqb b 10) (reverse s) ∙ counted s in
    (e, rw e (trailing_le s))
