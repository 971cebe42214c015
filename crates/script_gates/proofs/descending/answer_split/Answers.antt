use Rattle.std.proofs.Common.{◌∙◌}
use Rattle.bounded.specs.Rows.{items}
use Rattle.words.proofs.Heeding.{unless_fault}
use Rattle.script_gates.proofs.descending.answer_split.Goals as goal

pub returns : goal.returns
returns c =
    unless_fault c.split_modulo.result (record {
      q = c.in_ok-q.q;
      own = c.in_ok-challenge.challenge;
      numbers = items c.in_ok-numbers.numbers;
      long = c.in_ok-numbers.ensures ∙ c.share_count-count.ensures;
      split = c.split_modulo.ensures;
    })
