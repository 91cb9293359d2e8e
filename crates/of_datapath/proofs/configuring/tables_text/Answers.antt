use Rattle.std.proofs.Common.{◌≡◌, ◌<◌, ◌∙◌, List, length, take, ap, subst, arith}
use Rattle.std.proofs.lemmas.List.{take_all, length-map}
use Rattle.of_table.specs.{Entries.table_of, Table.Table, Tables.tables_of}
use Rattle.of_datapath.{specs.Configuring.AreKeptFrom, specs.Loading.texts_from, proofs.ConfiguringLemmas.table_more, proofs.ConfiguringLemmas.table_kept_more}
use Rattle.of_datapath.proofs.configuring.tables_text.Goals as goal

pub loop-table-preserved : goal.loop-table-preserved
loop-table-preserved g c =
    let l = c.loop-table in
    let within : l.table < length c.args.tables.now.tables = omega (arith, c.known.ensures.sixteen) in
    record {
      made = table_more l.table c.args.tables.now.tables l.made.items c.push.new.self.items _ within (rw c.entries.ensures at c.in_ok-flows_text.ensures.text) c.in_ok-push.ensures.items l.invariant.made;
      kept = table_kept_more l.table c.args.tables.now.tables within (rw c.entries.ensures at c.in_ok-flows_text.ensures.kept) l.invariant.kept;
    }

pub returns-clause-text : goal.returns-clause-text
returns-clause-text g c =
    let l = c.loop-table in
    let ts = (tables_of c.args.tables.now).tables in
    let all : take l.table ts ≡ ts = take_all l.table ts (omega (arith, c.known.ensures.sixteen, length-map c.args.tables.now.tables table_of)) in
    l.invariant.made ∙ ap (λ (x : List Table). texts_from 0 x) all

pub returns-clause-kept : goal.returns-clause-kept
returns-clause-kept g c =
    let l = c.loop-table in
    let ts = (tables_of c.args.tables.now).tables in
    let all : take l.table ts ≡ ts = take_all l.table ts (omega (arith, c.known.ensures.sixteen, length-map c.args.tables.now.tables table_of)) in
    subst (AreKeptFrom 0) all l.invariant.kept
