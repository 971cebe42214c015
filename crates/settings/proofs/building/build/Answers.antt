use Rattle.std.proofs.Common.{length, sym, ap, ◌∙◌, subst}
use Rattle.rules.specs.Texts.{rows_in}
use Rattle.rings.specs.Rings.{ring_lines}
use Rattle.rings.specs.Pairings.{pair_refusal, paired}
use Rattle.releases.specs.Entries.{entries}
use Rattle.releases.specs.Theorems.{Setting}
use Rattle.releases.proofs.Tabled.{reading_sets}
use Rattle.settings.proofs.Listing.{length-paired}
use Rattle.settings.proofs.building.build.Goals as goal

pub with_lines-requires : goal.with_lines-requires
with_lines-requires g c =
    let rows = rows_in c.in_ok-table.table in
    let lines = c.in_ok-ring.ensures.reads in
    let known = sym (c.in_ok-lines.ensures.refuses ∙ ap (pair_refusal rows) lines) in
    ap length (c.deref.ensures ∙ c.in_ok-lines.ensures.pairs ∙ ap (paired rows) lines) ∙ length-paired rows (ring_lines c.args.ring.now) known

pub returns-clause-setting : goal.returns-clause-setting
returns-clause-setting g c =
    let m = g.S.LeafKinds.meaning c.args.set.now in
    let rows = rows_in c.in_ok-table.table in
    let ring = c.args.ring.now in
    let lines = c.in_ok-ring.ensures.reads in
    let whole = sym c.in_ok-ring.ensures.refuses in
    let known = sym (c.in_ok-lines.ensures.refuses ∙ ap (pair_refusal rows) lines) in
    let listed = c.with_lines.ensures ∙ ap (entries rows) (c.deref.ensures ∙ c.in_ok-lines.ensures.pairs ∙ ap (paired rows) lines) in
    let read = c.in_ok-table.ensures in
    subst (Setting m) (sym listed) (reading_sets m (g.met.S.LeafKinds.lawful c.args.set.now) rows read.well_formed ring whole known)
