use Rattle.std.proofs.Common.{◌^◌, length, ap, ◌∙◌, arith, rules}
use Rattle.std.proofs.lemmas.List.{length-map}
use Rattle.std.proofs.lemmas.Iterator.{YieldsList-from_slice, YieldsList-from_map}
use Rattle.std.proofs.lemmas.Iterator.Consumers.{sum_by_from_yields_List, fits_by_from_yields_list}
use Rattle.rules.specs.Views.{row_of}
use Rattle.rules.specs.Texts.{rows_in}
use Rattle.rules.proofs.Whole.{table_well_formed}
use Rattle.descent.specs.Descents.{share_size}
use Rattle.descent.proofs.Shares.{before_all, shares_few}
use Rattle.descent.proofs.descend.share_count.Goals as goal

pub sum-requires-clause-fits : goal.sum-requires-clause-fits
sum-requires-clause-fits c =
    let es = c.entries.result.now in
    fits_by_from_yields_list (λ e. share_size (row_of e)) es c.map.result (2 ^ 64) (YieldsList-from_map _ (λ e. share_size (row_of e)) (YieldsList-from_slice es (search rules)) c.map.ensures.closure (λ x r q h. search rules))
    (omega (arith, shares_few es, length-map es row_of, ap length c.entries.ensures, (table_well_formed c.args.table.now).few_rows))

pub returns : goal.returns
returns c =
    let es = c.entries.result.now in
    sum_by_from_yields_List (λ e. share_size (row_of e)) es c.map.result c.sum.result c.sum.ensures.ran (YieldsList-from_map _ (λ e. share_size (row_of e)) (YieldsList-from_slice es (search rules)) c.map.ensures.closure (λ x r q h. search rules))
    ∙ before_all es (rows_in c.args.table.now) c.entries.ensures
