use Rattle.std.proofs.Common.{length, ◌-◌, take, ap, ◌∙◌, rules}
use Rattle.std.proofs.lemmas.Iterator.Adapters.{YieldsList-from_rev_slice}
use Rattle.std.proofs.lemmas.Iterator.Consumers.{count_from_yields_List}
use Rattle.std.proofs.lemmas.Iterator.Search.{YieldsList-from_take_while}
use Rattle.std.proofs.lemmas.List.Folds.{length-prefix_len}
use mathlib.Core.List.{reverse}
use Rattle.words.specs.Bytes.{is_blank}
use Rattle.words.proofs.bytes.trimmed.Goals as goal

pub returns : goal.returns
returns c =
    let text = c.args.text.now in
    let counted =
    count_from_yields_List _ _ c.count-blanks.ensures.ran (YieldsList-from_take_while _ is_blank (YieldsList-from_rev_slice text cc) c.take_while.ensures.closure c.take_while.ensures.done (λ x b q k. search rules))
    ∙ length-prefix_len is_blank (reverse text) in
    ap (λ n. take (length text - n) text) counted
