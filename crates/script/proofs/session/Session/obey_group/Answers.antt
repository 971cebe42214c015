use Rattle.std.proofs.Common.{sym, ap, ◌∙◌}
use Rattle.std.specs.Option.{option_map}
use Rattle.script_kinds.specs.KindReplies.{parts}
use Rattle.script.specs.Sessions.{model, group_step}
use Rattle.script.proofs.Making.{residue_stands, circle_stands}
use Rattle.script.proofs.session.Session.obey_group.Goals as goal

pub returns-in-MakeResidue : goal.returns-in-MakeResidue
returns-in-MakeResidue c =
    let m = model c.args.self.now in
    let made = c.in-MakeResidue in
    residue_stands m made.q made.p c.make.result (option_map parts c.make.new.last) made.g made.h c.new-g.result c.new-h.result c.new-g.ensures c.new-h.ensures
    c.make.ensures ∙ sym (ap (λ x. group_step m x) made.is)

pub returns-in-MakeCircle : goal.returns-in-MakeCircle
returns-in-MakeCircle c =
    let m = model c.args.self.now in
    let made = c.in-MakeCircle in
    circle_stands m made.q made.p c.make-in-MakeCircle.result (option_map parts c.make-in-MakeCircle.new.last) made.g made.h c.pair-g.result c.pair-h.result c.pair-g.ensures c.pair-h.ensures
    c.make-in-MakeCircle.ensures ∙ sym (ap (λ x. group_step m x) made.is)
