use Rattle.std.proofs.Common.{◌≡◌, ◌∙◌, Bool, List, Option, ap, arith, length, subst}
use Rattle.std.{specs.Borrow.Bor, specs.Prelude.IfNone, specs.Global.Vec, proofs.lemmas.List.length-map}
use Rattle.of_table.specs.{declared.entry.Entry.Entry, Entries.flows_of, Table.FlowEntry}
use Rattle.of_symbolic.specs.{declared.branching.Branch.Branch, Branches.AreBranches, Branches.AsksUnknown, Branches.flows_listed}
use Rattle.of_symbolic_run.proofs.CaseLemmas.{cases_are, cases_next, key_is, own_branches, unknown_first}
use Rattle.of_symbolic_run.{specs.Cases.AreCasesOf, specs.JointCases.first_cases, specs.JointCases.second_cases, proofs.CopyLemmas.same_answer, proofs.CopyLemmas.same_key}
use Rattle.of_symbolic_run.proofs.ListedLemmas.{are_listed, kept_are, was_made}
use Rattle.of_symbolic_run.proofs.joint.look_up_both.Goals as goal

pub joint_cases_of-requires-clause-second : goal.joint_cases_of-requires-clause-second
joint_cases_of-requires-clause-second c = same_answer c.args.first.now.tasks.items c.args.second.now.tasks.items c.requires.same ∙ c.requires.lookup

pub joint_cases_of-requires-clause-each : goal.joint_cases_of-requires-clause-each
joint_cases_of-requires-clause-each c b kept =
    let made = c.in-Some.branches in
    let packet = c.index.result.now.packet in
    let there = was_made c.args.entries c.len.result made.items c.keep_listed.new.branches.items c.keep_listed.ensures b kept in
    let all = own_branches _ c.in_ok-branches.field-0 made c.in-Some.is c.in_ok-branches.ensures.some packet.rewrites c.in_ok-overlay.ensures.is c.known.ensures in
    let conditions = own_branches _ c.in_ok-branches.field-0 made c.in-Some.is c.in_ok-branches.ensures.conditions b there in
    (conditions, all.within b there)

pub returns-clause-first : goal.returns-clause-first
returns-clause-first c w is =
    let made = c.in-Some.branches in
    let kept = c.keep_listed.new.branches.items in
    let packet = c.index.result.now.packet in
    let frames = c.args.frames.now in
    let state = c.args.first.now in
    let cases = (first_cases c.in_ok-cases-in-Some.cases.items) in
    let flows : flows_listed c.deref.result.now ≡ flows_of c.args.entries = ap flows_listed c.deref.ensures.value ∙ ap flows_of c.in_ok-listed.ensures in
    let flows-2 : flows_listed c.deref-in-Some.result.now ≡ flows_of c.args.entries = ap flows_listed c.deref-in-Some.ensures.value ∙ ap flows_of c.in_ok-listed.ensures in
    let size : c.len.result ≡ length c.args.entries = omega (arith, c.len.ensures, c.in_ok-listed.listed.ok.0, ap length c.in_ok-listed.ensures, length-map c.in_ok-listed.listed.items (λ (e : Bor Entry). e.now)) in
    let all = own_branches _ c.in_ok-branches.field-0 made c.in-Some.is c.in_ok-branches.ensures.some packet.rewrites c.in_ok-overlay.ensures.is c.known.ensures in
    let are = kept_are c.args.entries c.len.result made.items kept c.keep_listed.ensures frames.inner packet.rewrites packet.metadata frames.part size (subst (λ (b : Bool). AreBranches b (flows_of c.args.entries) packet.rewrites packet.metadata frames.part made.items) c.in_ok-overlay.ensures.inner (subst (λ (fs : List FlowEntry). AreBranches c.in_ok-overlay.overlay.inner fs packet.rewrites packet.metadata frames.part made.items) flows all)) in
    let own : AreCasesOf c.args.table (flows_of c.args.entries) frames state kept cases = subst (λ (fs : List FlowEntry). AreCasesOf c.args.table fs frames state kept cases) flows-2 c.in_ok-cases-in-Some.ensures.first in
    cases_are c.args.table (flows_of c.args.entries) frames state w packet.rewrites packet.metadata kept cases c.requires.lookup is (key_is state.tasks.items c.index.result.now c.args.table c.requires.lookup c.index.ensures) are own

pub returns-clause-second : goal.returns-clause-second
returns-clause-second c w is =
    let made = c.in-Some.branches in
    let kept = c.keep_listed.new.branches.items in
    let packet = c.index.result.now.packet in
    let frames = c.args.frames.now in
    let state = c.args.second.now in
    let cases = (second_cases c.in_ok-cases-in-Some.cases.items) in
    let flows : flows_listed c.deref.result.now ≡ flows_of c.args.entries = ap flows_listed c.deref.ensures.value ∙ ap flows_of c.in_ok-listed.ensures in
    let flows-2 : flows_listed c.deref-in-Some.result.now ≡ flows_of c.args.entries = ap flows_listed c.deref-in-Some.ensures.value ∙ ap flows_of c.in_ok-listed.ensures in
    let size : c.len.result ≡ length c.args.entries = omega (arith, c.len.ensures, c.in_ok-listed.listed.ok.0, ap length c.in_ok-listed.ensures, length-map c.in_ok-listed.listed.items (λ (e : Bor Entry). e.now)) in
    let all = own_branches _ c.in_ok-branches.field-0 made c.in-Some.is c.in_ok-branches.ensures.some packet.rewrites c.in_ok-overlay.ensures.is c.known.ensures in
    let are = kept_are c.args.entries c.len.result made.items kept c.keep_listed.ensures frames.inner packet.rewrites packet.metadata frames.part size (subst (λ (b : Bool). AreBranches b (flows_of c.args.entries) packet.rewrites packet.metadata frames.part made.items) c.in_ok-overlay.ensures.inner (subst (λ (fs : List FlowEntry). AreBranches c.in_ok-overlay.overlay.inner fs packet.rewrites packet.metadata frames.part made.items) flows all)) in
    let own : AreCasesOf c.args.table (flows_of c.args.entries) frames state kept cases = subst (λ (fs : List FlowEntry). AreCasesOf c.args.table fs frames state kept cases) flows-2 c.in_ok-cases-in-Some.ensures.second in
    cases_are c.args.table (flows_of c.args.entries) frames state w packet.rewrites packet.metadata kept cases (same_answer c.args.first.now.tasks.items c.args.second.now.tasks.items c.requires.same ∙ c.requires.lookup) is (λ frame port. same_key c.args.first.now.tasks.items state.tasks.items c.requires.same frame port ∙ key_is c.args.first.now.tasks.items c.index.result.now c.args.table c.requires.lookup c.index.ensures frame port) are own

pub returns-in-None-clause-none : goal.returns-in-None-clause-none
returns-in-None-clause-none c =
    let o = c.in_ok-overlay.overlay in
    let flows : flows_listed c.deref.result.now ≡ flows_of c.args.entries = ap flows_listed c.deref.ensures.value ∙ ap flows_of c.in_ok-listed.ensures in
    unknown_first c.args.frames.now.inner c.args.first.now.tasks.items c.index.result.now c.args.table o (flows_of c.args.entries) c.requires.lookup c.index.ensures c.in_ok-overlay.ensures.inner c.in_ok-overlay.ensures.is
    (subst (AsksUnknown o) flows (subst (λ (found : Option (Vec Branch)). IfNone found (AsksUnknown o (flows_listed c.deref.result.now))) c.in-None.is c.in_ok-branches.ensures.none))

pub returns-clause-next_first : goal.returns-clause-next_first
returns-clause-next_first c w is =
    let made = c.in-Some.branches in
    let kept = c.keep_listed.new.branches.items in
    let packet = c.index.result.now.packet in
    let frames = c.args.frames.now in
    let state = c.args.first.now in
    let cases = (first_cases c.in_ok-cases-in-Some.cases.items) in
    let flows : flows_listed c.deref.result.now ≡ flows_of c.args.entries = ap flows_listed c.deref.ensures.value ∙ ap flows_of c.in_ok-listed.ensures in
    let flows-2 : flows_listed c.deref-in-Some.result.now ≡ flows_of c.args.entries = ap flows_listed c.deref-in-Some.ensures.value ∙ ap flows_of c.in_ok-listed.ensures in
    let size : c.len.result ≡ length c.args.entries = omega (arith, c.len.ensures, c.in_ok-listed.listed.ok.0, ap length c.in_ok-listed.ensures, length-map c.in_ok-listed.listed.items (λ (e : Bor Entry). e.now)) in
    let all = own_branches _ c.in_ok-branches.field-0 made c.in-Some.is c.in_ok-branches.ensures.some packet.rewrites c.in_ok-overlay.ensures.is c.known.ensures in
    let are = kept_are c.args.entries c.len.result made.items kept c.keep_listed.ensures frames.inner packet.rewrites packet.metadata frames.part size (subst (λ (b : Bool). AreBranches b (flows_of c.args.entries) packet.rewrites packet.metadata frames.part made.items) c.in_ok-overlay.ensures.inner (subst (λ (fs : List FlowEntry). AreBranches c.in_ok-overlay.overlay.inner fs packet.rewrites packet.metadata frames.part made.items) flows all)) in
    let own : AreCasesOf c.args.table (flows_of c.args.entries) frames state kept cases = subst (λ (fs : List FlowEntry). AreCasesOf c.args.table fs frames state kept cases) flows-2 c.in_ok-cases-in-Some.ensures.first in
    cases_next c.args.table (flows_of c.args.entries) frames state w kept cases c.requires.lookup is are.once (are_listed c.args.entries c.len.result made.items kept c.keep_listed.ensures size) own

pub returns-clause-next_second : goal.returns-clause-next_second
returns-clause-next_second c w is =
    let made = c.in-Some.branches in
    let kept = c.keep_listed.new.branches.items in
    let packet = c.index.result.now.packet in
    let frames = c.args.frames.now in
    let state = c.args.second.now in
    let cases = (second_cases c.in_ok-cases-in-Some.cases.items) in
    let flows : flows_listed c.deref.result.now ≡ flows_of c.args.entries = ap flows_listed c.deref.ensures.value ∙ ap flows_of c.in_ok-listed.ensures in
    let flows-2 : flows_listed c.deref-in-Some.result.now ≡ flows_of c.args.entries = ap flows_listed c.deref-in-Some.ensures.value ∙ ap flows_of c.in_ok-listed.ensures in
    let size : c.len.result ≡ length c.args.entries = omega (arith, c.len.ensures, c.in_ok-listed.listed.ok.0, ap length c.in_ok-listed.ensures, length-map c.in_ok-listed.listed.items (λ (e : Bor Entry). e.now)) in
    let all = own_branches _ c.in_ok-branches.field-0 made c.in-Some.is c.in_ok-branches.ensures.some packet.rewrites c.in_ok-overlay.ensures.is c.known.ensures in
    let are = kept_are c.args.entries c.len.result made.items kept c.keep_listed.ensures frames.inner packet.rewrites packet.metadata frames.part size (subst (λ (b : Bool). AreBranches b (flows_of c.args.entries) packet.rewrites packet.metadata frames.part made.items) c.in_ok-overlay.ensures.inner (subst (λ (fs : List FlowEntry). AreBranches c.in_ok-overlay.overlay.inner fs packet.rewrites packet.metadata frames.part made.items) flows all)) in
    let own : AreCasesOf c.args.table (flows_of c.args.entries) frames state kept cases = subst (λ (fs : List FlowEntry). AreCasesOf c.args.table fs frames state kept cases) flows-2 c.in_ok-cases-in-Some.ensures.second in
    cases_next c.args.table (flows_of c.args.entries) frames state w kept cases (same_answer c.args.first.now.tasks.items c.args.second.now.tasks.items c.requires.same ∙ c.requires.lookup) is are.once (are_listed c.args.entries c.len.result made.items kept c.keep_listed.ensures size) own
