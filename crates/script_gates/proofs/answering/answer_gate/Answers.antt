use Rattle.words.proofs.Heeding.{unless_fault}
use Rattle.script_gates.proofs.answering.answer_gate.Goals as goal

pub returns : goal.returns
returns c = unless_fault c.obey.result (c.in_ok-read.field-0, c.obey.ensures)
