use Rattle.std.proofs.lemmas.Result.{err_from_is_err_and}
use Rattle.releases.specs.Transcripts.{challenge}
use Rattle.releases.specs.Checks.{Clear}
use Rattle.releases.proofs.Checking.{all_passed}
use Rattle.settings.specs.Rules.{rule_in}
use Rattle.transcripts.specs.Transcripts.{transcript_in}
use Rattle.checking.specs.Checkings.{GatesChecked, EquationsChecked}
use Rattle.checking.proofs.Steps.{each_refused, each_then}
use Rattle.checking.proofs.Fitting.{scalars_fit, images_fit, keys_fit}
use Rattle.checking.proofs.checker.Checker.check_transcript.Goals as goal

pub returns-in_err-check_words : goal.returns-in_err-check_words
returns-in_err-check_words g c =
    let m = g.S.LeafKinds.meaning c.args.self.now.set.now in
    let rule = rule_in c.args.self.now.rule.now in
    let t = transcript_in c.args.transcript.now in
    let p = err_from_is_err_and c.from_residual.result c.from_residual.ensures.1 in
    rw (p.1, p.2) (each_refused (GatesChecked m rule (challenge t) (EquationsChecked m rule t Clear)) _ c.in_err-check_words.ensures)

pub check_gates-requires-clause-scalars : goal.check_gates-requires-clause-scalars
check_gates-requires-clause-scalars g c =
    scalars_fit (g.S.LeafKinds.meaning c.args.self.now.set.now) (rule_in c.args.self.now.rule.now) (transcript_in c.args.transcript.now) (all_passed c.in_ok-check_words.ensures).0

pub returns-in_err-check_gates : goal.returns-in_err-check_gates
returns-in_err-check_gates g c =
    let m = g.S.LeafKinds.meaning c.args.self.now.set.now in
    let rule = rule_in c.args.self.now.rule.now in
    let t = transcript_in c.args.transcript.now in
    let p = err_from_is_err_and c.from_residual-in_err-check_gates.result c.from_residual-in_err-check_gates.ensures.1 in
    rw (p.1, p.2) (each_then (GatesChecked m rule (challenge t) (EquationsChecked m rule t Clear)) _ c.in_ok-check_words.ensures (each_refused (EquationsChecked m rule t Clear) _ c.in_err-check_gates.ensures))

pub check_equations-requires-clause-images : goal.check_equations-requires-clause-images
check_equations-requires-clause-images g c =
    images_fit (g.S.LeafKinds.meaning c.args.self.now.set.now) (rule_in c.args.self.now.rule.now) (transcript_in c.args.transcript.now) (all_passed c.in_ok-check_words.ensures).0

pub check_equations-requires-clause-keys : goal.check_equations-requires-clause-keys
check_equations-requires-clause-keys g c =
    keys_fit (g.S.LeafKinds.meaning c.args.self.now.set.now) (rule_in c.args.self.now.rule.now) (transcript_in c.args.transcript.now) (all_passed c.in_ok-check_words.ensures).0
