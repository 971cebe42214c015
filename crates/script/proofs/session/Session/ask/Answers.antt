use Rattle.std.proofs.Common.{sym, ap, ◌∙◌}
use Rattle.std.specs.Option.{option_map}
use Rattle.std.specs.Result.{result_ok}
use Rattle.groups.specs.Circles.{circle}
use Rattle.script_kinds.specs.KindReplies.{parts}
use Rattle.script.specs.Sessions.{model, asked, asked_of}
use Rattle.script.proofs.Making.{group_asked}
use Rattle.script.proofs.session.Session.ask.Goals as goal

pub returns-in_ok-ok_or-in-Circle : goal.returns-in_ok-ok_or-in-Circle
returns-in_ok-ok_or-in-Circle c =
    let s = c.args.self.now in
    let last = option_map parts s.circle in
    let is = c.in-Circle.is in
    let made = c.ok_or-in-Circle.ensures.ok_part ∙ ap result_ok c.in_ok-ok_or-in-Circle.was in
    group_asked circle c.args.kind c.args.question last (parts c.in_ok-ok_or-in-Circle.field-0) c.ask-in-Circle.result
    (ap (option_map parts) made) c.ask-in-Circle.ensures ∙ ap (λ k. asked_of circle k last c.args.question) is ∙ sym (ap (λ k. asked (model s) k c.args.question) is)
