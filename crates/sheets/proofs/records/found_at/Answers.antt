use Rattle.std.proofs.Common.{◌∙◌, arith, rules}
use Rattle.sheets.specs.Records.{said}
use Rattle.sheets.proofs.Standing.{none_read, found_read}
use Rattle.sheets.proofs.records.found_at.Goals as goal

pub returns-in_err-record_of : goal.returns-in_err-record_of
returns-in_err-record_of c =
    let k = c.in_ok-length.ensures.cases in
    let b = c.in_ok-body.ensures.lookup.0 in
    let f = none_read c.args.sheet.now c.in_ok-length.length.now c.in_ok-length.rest.now c.in_ok-body.body.now c.args.at c.from.result k.0 k.1 (c.from.ensures ∙ c.from_be_bytes.ensures) b.2 c.in_err-record_of.ensures in
    search rules

pub returns : goal.returns
returns c =
    let k = c.in_ok-length.ensures.cases in
    let b = c.in_ok-body.ensures.lookup.0 in
    found_read c.args.sheet.now c.in_ok-length.length.now c.in_ok-length.rest.now c.in_ok-body.body.now c.args.at c.from.result k.0 k.1 (c.from.ensures ∙ c.from_be_bytes.ensures) b.2
    (said c.in_ok-record_of.field-0) (λ i. (c.type_inv.sheet i).fits) (omega arith) k.2 b.1 c.in_ok-record_of.ensures
