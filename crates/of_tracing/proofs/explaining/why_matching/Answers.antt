use Rattle.std.proofs.Common.{◌∙◌, sym}
use Rattle.of_table.specs.{Tables.table_at, Entries.entry_of}
use Rattle.of_tracing.proofs.WhyLemmas.{some_wins, winner_is_best, by_priority, by_age, lent_entry}
use Rattle.of_tracing.proofs.ReasonLemmas.{won_is, lower_is, younger_is}
use Rattle.of_tracing.proofs.explaining.why_matching.Goals as goal

pub returns-in_err-winner-clause-explains : goal.returns-in_err-winner-clause-explains
returns-in_err-winner-clause-explains g c = λ map matches wins.
    let flows = (table_at c.args.table c.args.switch.now.core.forwarding.tables).flows in
    absurd (some_wins flows map (sym wins ∙ c.in_err-winner.was) c.args.place (entry_of c.args.entry.now) c.requires.there matches)

pub returns-in_err-winner-clause-is : goal.returns-in_err-winner-clause-is
returns-in_err-winner-clause-is g c = λ map matches wins.
    let flows = (table_at c.args.table c.args.switch.now.core.forwarding.tables).flows in
    absurd (some_wins flows map (sym wins ∙ c.in_err-winner.was) c.args.place (entry_of c.args.entry.now) c.requires.there matches)

pub returns-in_err-better-clause-explains : goal.returns-in_err-better-clause-explains
returns-in_err-better-clause-explains g c = λ map matches wins.
    let flows = (table_at c.args.table c.args.switch.now.core.forwarding.tables).flows in
    let there = (winner_is_best flows map c.in_ok-winner.winner (sym wins ∙ c.in_ok-winner.was)).there in
    let bad = sym (lent_entry c.args.table c.in_ok-winner.winner c.datapath.ensures c.in_err-better.ensures) ∙ there in
    absurd cc

pub returns-in_err-better-clause-is : goal.returns-in_err-better-clause-is
returns-in_err-better-clause-is g c = λ map matches wins.
    let flows = (table_at c.args.table c.args.switch.now.core.forwarding.tables).flows in
    let there = (winner_is_best flows map c.in_ok-winner.winner (sym wins ∙ c.in_ok-winner.was)).there in
    let bad = sym (lent_entry c.args.table c.in_ok-winner.winner c.datapath.ensures c.in_err-better.ensures) ∙ there in
    absurd cc

pub returns-then-entry-better-clause-explains : goal.returns-then-entry-better-clause-explains
returns-then-entry-better-clause-explains g c = λ map matches wins.
    let flows = (table_at c.args.table c.args.switch.now.core.forwarding.tables).flows in
    by_priority flows map c.args.place c.in_ok-winner.winner (entry_of c.args.entry.now) (entry_of c.in_ok-better.better.now) c.requires.there matches (sym wins ∙ c.in_ok-winner.was) (lent_entry c.args.table c.in_ok-winner.winner c.datapath.ensures c.in_ok-better.ensures) c.if-entry-better.true

pub returns-else-entry-better-clause-explains : goal.returns-else-entry-better-clause-explains
returns-else-entry-better-clause-explains g c = λ map matches wins.
    let flows = (table_at c.args.table c.args.switch.now.core.forwarding.tables).flows in
    by_age flows map c.args.place c.in_ok-winner.winner (entry_of c.args.entry.now) (entry_of c.in_ok-better.better.now) c.requires.there matches (sym wins ∙ c.in_ok-winner.was) (lent_entry c.args.table c.in_ok-winner.winner c.datapath.ensures c.in_ok-better.ensures) c.if-entry-better.false c.if-winner-place.false

pub returns-then-winner-place-clause-is : goal.returns-then-winner-place-clause-is
returns-then-winner-place-clause-is g c = λ map matches wins.
    let flows = (table_at c.args.table c.args.switch.now.core.forwarding.tables).flows in
    won_is flows map c.args.place (entry_of c.args.entry.now) c.in_ok-winner.winner (sym wins ∙ c.in_ok-winner.was) c.if-winner-place.true

pub returns-then-entry-better-clause-is : goal.returns-then-entry-better-clause-is
returns-then-entry-better-clause-is g c = λ map matches wins.
    let flows = (table_at c.args.table c.args.switch.now.core.forwarding.tables).flows in
    lower_is flows map c.args.place (entry_of c.args.entry.now) c.in_ok-winner.winner (sym wins ∙ c.in_ok-winner.was) (entry_of c.in_ok-better.better.now) (lent_entry c.args.table c.in_ok-winner.winner c.datapath.ensures c.in_ok-better.ensures) c.if-winner-place.false c.if-entry-better.true

pub returns-else-entry-better-clause-is : goal.returns-else-entry-better-clause-is
returns-else-entry-better-clause-is g c = λ map matches wins.
    let flows = (table_at c.args.table c.args.switch.now.core.forwarding.tables).flows in
    younger_is flows map c.args.place (entry_of c.args.entry.now) c.in_ok-winner.winner (sym wins ∙ c.in_ok-winner.was) (entry_of c.in_ok-better.better.now) (lent_entry c.args.table c.in_ok-winner.winner c.datapath.ensures c.in_ok-better.ensures) c.if-winner-place.false c.if-entry-better.false
