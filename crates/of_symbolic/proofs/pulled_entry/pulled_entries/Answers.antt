use Rattle.std.proofs.Common.{◌≡◌, ◌+◌, ℕ, true, List, Bor, drop, Option, subst}
use Rattle.std.specs.Prelude.{IfNone, IfSome, map}
use Rattle.of_table.specs.{declared.entry.Entry.Entry, Entries.entry_of}
use Rattle.of_symbolic.proofs.PulledLemmas.{listed_at, listed_end, one_unknown, pulled_done, pulled_more}
use Rattle.of_symbolic.specs.{declared.pulled_entry.PulledEntry.PulledEntry, Branches.flows_listed, Branching.IsPulledEntry, Pulling.is_unknown_in}
use Rattle.of_symbolic.proofs.pulled_entry.pulled_entries.Goals as goal

-- the entries from an index on
abbrev from : List (Bor Entry) → ℕ → List Entry
from entries i = map (λ (e : Bor Entry). e.now) (drop i entries)

pub returns-in-None-clause-none : goal.returns-in-None-clause-none
returns-in-None-clause-none c =
    let o = c.args.overlay.now in
    let entries = c.args.entries.now in
    let i = c.loop-entry.entry-index in
    let x = c.entry-item.result.now in
    let unknown : is_unknown_in o x.flow.fields ≡ true = subst (λ (found : Option PulledEntry). IfNone found (is_unknown_in o x.flow.fields ≡ true)) c.in-None.is c.in_ok-pulled_entry.ensures.none in
    one_unknown o c.args.metadata (flows_listed entries) (from entries i) (from entries (i + 1)) x c.loop-entry.pulled.items (listed_at entries i c.entry-item.result c.entry-item.is c.loop-entry-test.true) unknown c.loop-entry.invariant

pub loop-entry-preserved : goal.loop-entry-preserved
loop-entry-preserved c =
    let o = c.args.overlay.now in
    let entries = c.args.entries.now in
    let i = c.loop-entry.entry-index in
    let x = c.entry-item.result.now in
    let p = c.in-Some.one in
    let own : IsPulledEntry o c.args.metadata (entry_of x) p = subst (λ (found : Option PulledEntry). IfSome found (IsPulledEntry o c.args.metadata (entry_of x))) c.in-Some.is c.in_ok-pulled_entry.ensures.some in
    rw c.in_ok-push-in-Some.ensures.items
    (pulled_more o c.args.metadata (flows_listed entries) (from entries i) (from entries (i + 1)) x c.loop-entry.pulled.items p (listed_at entries i c.entry-item.result c.entry-item.is c.loop-entry-test.true) own c.loop-entry.invariant)

pub returns-clause-some : goal.returns-clause-some
returns-clause-some c =
    let entries = c.args.entries.now in
    pulled_done c.args.overlay.now c.args.metadata (flows_listed entries) (from entries c.loop-entry.entry-index) c.loop-entry.pulled.items (listed_end entries c.loop-entry.entry-index c.loop-entry-test.false) c.loop-entry.invariant
