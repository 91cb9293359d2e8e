use Rattle.std.proofs.Common.{◌≡◌, ◌∙◌, sym, ap, List, Option, Some, None}
use Rattle.std.specs.{Prelude.slice_get, Option.option_copied}
use Rattle.of_table.specs.declared.entry.Entry.{Entry}
use Rattle.of_datapath.{specs.Numbers.entries_at, proofs.Looking.flow_is, proofs.Looking.flow_of_entry}
use Rattle.of_datapath.proofs.dry_run.LookingWorld.flow.Goals as goal

pub unreachable-requires : goal.unreachable-requires
unreachable-requires g c =
    let datapath = c.args.self.now.datapath.now in
    let es = entries_at datapath.tables c.args.table in
    let absent : Option Entry = None in
    let none : absent ≡ slice_get es c.args.place = sym (ap (option_copied {T = Entry}) c.in-None.is) ∙ (c.at.ensures ∙ ap (λ (xs : List Entry). slice_get xs c.args.place) c.entries.ensures) in
    c.requires (flow_is datapath.tables datapath.groups datapath.ports c.args.table c.args.place ∙ flow_of_entry es c.args.place absent none)

pub returns : goal.returns
returns g c =
    let datapath = c.args.self.now.datapath.now in
    let es = entries_at datapath.tables c.args.table in
    let some : Some c.in-Some.entry.now ≡ slice_get es c.args.place = sym (ap (option_copied {T = Entry}) c.in-Some.is) ∙ (c.at.ensures ∙ ap (λ (xs : List Entry). slice_get xs c.args.place) c.entries.ensures) in
    flow_is datapath.tables datapath.groups datapath.ports c.args.table c.args.place ∙ flow_of_entry es c.args.place (Some c.in-Some.entry.now) some
