use Rattle.std.proofs.Common.{◌≡◌, take, drop, ap, ◌∙◌, rules}
use Rattle.std.proofs.lemmas.Iterator.{YieldsList-from_slice}
use Rattle.std.proofs.lemmas.Iterator.Consumers.{count_from_yields_List}
use Rattle.std.proofs.lemmas.Iterator.Search.{YieldsList-from_take_while}
use Rattle.std.proofs.lemmas.List.Folds.{length-prefix_len}
use Rattle.words.specs.Bytes.{in_class, leading}
use Rattle.words.proofs.bytes.split.Goals as goal

counted : (c : goal.After-split_at) → c.count-count.result ≡ leading c.args.class c.args.text.now
counted c =
    let text = c.args.text.now in
    let test = in_class c.args.class in
    count_from_yields_List _ _ c.count-count.ensures.ran (YieldsList-from_take_while _ test (YieldsList-from_slice text cc) c.take_while.ensures.closure c.take_while.ensures.done (λ x b q k. search rules))
    ∙ length-prefix_len test text

pub returns-clause-front : goal.returns-clause-front
returns-clause-front c = c.split_at.ensures.front ∙ ap (λ n. take n c.args.text.now) (counted c)

pub returns-clause-past : goal.returns-clause-past
returns-clause-past c = c.split_at.ensures.back ∙ ap (λ n. drop n c.args.text.now) (counted c)
