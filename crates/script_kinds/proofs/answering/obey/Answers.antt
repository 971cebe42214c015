use Rattle.supplied.specs.Supplied.{meant}
use Rattle.script_kinds.specs.KindReplies.{parts}
use Rattle.script_kinds.proofs.Asking.{set_answers}
use Rattle.script_kinds.proofs.answering.obey.Goals as goal

pub returns : goal.returns
returns c =
    set_answers (parts c.args.residues) (parts c.args.circle) c.args.command (meant c.in_ok-supplied.field-0) c.ask.result
    c.in_ok-supplied.ensures.refuses c.in_ok-supplied.ensures.makes c.ask.ensures
