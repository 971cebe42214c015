use Rattle.std.proofs.Common.{◌≡◌, length, not, rules, tests}
use Rattle.std.specs.Prelude.{filter}
use Rattle.std.specs.List.{zip}
use Rattle.std.proofs.lemmas.Iterator.{YieldsList-from_slice, YieldsList-from_zip}
use Rattle.std.proofs.lemmas.Iterator.Consumers.{count_from_yields_List, YieldsList-from_filter, YieldsList-at}
use Rattle.splits.specs.Gates.{Differing}
use Rattle.splits.proofs.Forks.{differing_count, at_least_differ}
use Rattle.splits.proofs.compare.differing.Goals as goal

pub returns : goal.returns
returns g c =
    let m = g.F.Field.model c.args.field.now in
    let eq = g.F.Element.PartialEq.eq in
    let a = c.args.a.now in
    let b = c.args.b.now in
    let n : c.count.result ≡ length (filter (λ p. not (eq p.0 p.1)) (zip a b)) =
    count_from_yields_List c.filter.result c.count.result c.count.ensures.ran
    (YieldsList-from_filter _ (λ p. not (eq p.0 p.1)) (YieldsList-at c.filter.ensures.source (YieldsList-from_zip (YieldsList-from_slice a (cc)) (YieldsList-from_slice b (cc)))) c.filter.ensures.closure (λ x r q k. search (rules, tests))) in
    let count : Differing a b c.count.result = differing_count eq g.met.F.Field.same a b c.count.result n c.requires.0 in
    record { count = count; forked = at_least_differ m (g.met.F.Field.lawful c.args.field.now) a b c.count.result count c.requires.1 }
