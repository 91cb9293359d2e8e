use Rattle.std.proofs.Common.{◌≡◌, ◌∙◌, ◌<◌, ℕ, List, [], length, get_or, Option, Some, None, refl, sym, ap, subst, inl, inr}
use Rattle.std.{specs.Prelude.slice_get, specs.Prelude.IfNone, specs.Prelude.IfSome, proofs.lemmas.Option.slice_get_cases, proofs.lemmas.Option.slice_get_past, proofs.lemmas.Option.slice_get-get_or}
use Rattle.of_regions.proofs.SearchLemmas.{last_within, split_state, split_step, taken_state, taken_step, unreceived_state, unreceived_step, unrivalled}
use Rattle.of_regions.specs.{declared.witness.Packet.Packet, Regions.InRegion, Witness.HasNoIngress, Witness.IsReceived, Witness.IsShortFrame, Witness.fields_in, declared.looking.Rest.Rest}
use Rattle.of_regions.specs.{declared.rival.Rival.Rival, Naming.with_place}
use Rattle.of_regions.proofs.searching.step.Goals as goal

name_of : (rivals : List Rival) (i : ℕ) (q x : Rival) → slice_get rivals i ≡ Some q → i < length rivals → get_or rivals i x ≡ q
name_of rivals i q x there lt = let same : Some (get_or rivals i x) ≡ Some q = sym (slice_get-get_or rivals i x lt) ∙ there in cc

within : (rivals : List Rival) (i : ℕ) (q : Rival) → slice_get rivals i ≡ Some q → i < length rivals
within rivals i q there = elim (slice_get_cases rivals i).1 as (λ w. i < length rivals) [
  | inl some ↦ some.1
  | inr past ↦ (let none : Some q ≡ None = sym there ∙ slice_get_past rivals i past.0 in absurd cc)
]

pub returns-in_ok-add_name-in-Taken-clause-state : goal.returns-in_ok-add_name-in-Taken-clause-state
returns-in_ok-add_name-in-Taken-clause-state c start s =
    let rivals = c.args.rivals.now in
    let names = c.args.search.now.names.items in
    let rests = c.args.search.now.rests.items in
    let t = c.in-Taken.ensures in
    let d : Rival = record { name = 0; fields = record { ref_ptr = (0, 0); now = [] } } in
    let same = name_of rivals c.in-Taken.at t.rival d t.there (within rivals c.in-Taken.at t.rival t.there) in
    let more : c.add_name.new.names.items ≡ with_place t.rival.name names = c.in_ok-add_name-in-Taken.ensures ∙ ap (λ (q : Rival). with_place q.name names) same in
    rw more (taken_state start rivals rests c.args.rest names c.args.search.now.unreceived s c.in-Taken.at t)

pub returns-in_ok-add_name-in-Taken-clause-step : goal.returns-in_ok-add_name-in-Taken-clause-step
returns-in_ok-add_name-in-Taken-clause-step c start s =
    taken_step start c.args.rivals.now c.args.search.now.rests.items c.args.rest c.args.search.now.names.items c.args.search.now.unreceived s c.in-Taken.at c.in-Taken.ensures

pub returns-in_ok-push_parts-in-Splits-clause-state : goal.returns-in_ok-push_parts-in-Splits-clause-state
returns-in_ok-push_parts-in-Splits-clause-state c start s =
    let i = c.in-Splits.at in
    let a : Rest = record { region = c.divided.result.0; from = i } in
    let b : Rest = record { region = c.divided.result.1; from = i } in
    rw c.in_ok-push_parts-in-Splits.ensures (split_state start c.args.rivals.now c.args.search.now.rests.items c.args.rest c.args.search.now.names.items c.args.search.now.unreceived s i a b refl refl c.in-Splits.e c.divided.ensures c.in-Splits.ensures)

pub returns-in_ok-push_parts-in-Splits-clause-step : goal.returns-in_ok-push_parts-in-Splits-clause-step
returns-in_ok-push_parts-in-Splits-clause-step c start s =
    let i = c.in-Splits.at in
    let a : Rest = record { region = c.divided.result.0; from = i } in
    let b : Rest = record { region = c.divided.result.1; from = i } in
    rw c.in_ok-push_parts-in-Splits.ensures (split_step start c.args.rivals.now c.args.search.now.rests.items c.args.rest c.args.search.now.names.items c.args.search.now.unreceived s i a b refl refl c.in-Splits.e c.divided.ensures c.in-Splits.ensures)

pub returns-in-Some-clause-found : goal.returns-in-Some-clause-found
returns-in-Some-clause-found c start s =
    let rivals = c.args.rivals.now in
    let found : IsReceived c.in-Some.packet × IsShortFrame c.in-Some.packet.frame.items × InRegion c.args.rest.region (fields_in c.in-Some.packet) =
    subst (λ (o : Option Packet). IfSome o (λ p. IsReceived p × IsShortFrame p.frame.items × InRegion c.args.rest.region (fields_in p))) c.in-Some.is c.in_ok-packet-in-Free.ensures.some in
    record {
      received = found.0;
      short = found.1;
      within = last_within start rivals c.args.search.now.rests.items c.args.rest c.args.search.now.names.items c.args.search.now.unreceived s (fields_in c.in-Some.packet) found.2;
      unrivalled = unrivalled rivals c.args.rest.region c.in-Free.ensures (fields_in c.in-Some.packet) found.2;
    }

pub returns-in-None-clause-state : goal.returns-in-None-clause-state
returns-in-None-clause-state c start s =
    let none : HasNoIngress c.args.rest.region = subst (λ (o : Option Packet). IfNone o (HasNoIngress c.args.rest.region)) c.in-None.is c.in_ok-packet-in-Free.ensures.none in
    unreceived_state start c.args.rivals.now c.args.search.now.rests.items c.args.rest c.args.search.now.names.items c.args.search.now.unreceived s c.in-Free.ensures none

pub returns-in-None-clause-step : goal.returns-in-None-clause-step
returns-in-None-clause-step c start s =
    let none : HasNoIngress c.args.rest.region = subst (λ (o : Option Packet). IfNone o (HasNoIngress c.args.rest.region)) c.in-None.is c.in_ok-packet-in-Free.ensures.none in
    unreceived_step start c.args.rivals.now c.args.search.now.rests.items c.args.rest c.args.search.now.names.items c.args.search.now.unreceived s c.in-Free.ensures none
