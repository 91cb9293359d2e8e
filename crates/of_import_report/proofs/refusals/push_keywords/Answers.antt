use Rattle.std.proofs.Common.{rules}
use Rattle.of_json.proofs.ListingLemmas.{listed_words}
use Rattle.of_import_report.specs.Json.{keyword_object}
use Rattle.of_import_report.proofs.refusals.push_keywords.Goals as goal

pub returns : goal.returns
returns c =
    let text = keyword_object c.args.faults.now in
    rw (← listed_words text c.args.names.now) (c.push_listed.ensures (λ name. text name.items) (λ out name r left k. search rules))
