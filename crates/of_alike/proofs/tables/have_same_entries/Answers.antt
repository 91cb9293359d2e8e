use Rattle.std.proofs.Common.{◌≡◌, true, List, [], ◌∷◌, map, Option, Some, None, ap}
use Rattle.std.specs.{Borrow.Bor, Option.MatchOption}
use Rattle.of_table.specs.{declared.entry.Entry.Entry, Entries.entry_of, Entries.flows_of}
use Rattle.of_alike.specs.SameTables.{EntrySays, says_of}
use Rattle.of_symbolic_run.proofs.Pairing.{pairing_decided, pairing_goes_on, pairing_parts}
use Rattle.of_alike.proofs.tables.have_same_entries.Goals as goal

said : List Entry → List EntrySays
said entries = map says_of (flows_of entries)

pub returns-in_default : goal.returns-in_default
unfolding said
returns-in_default c =
    let differ = pairing_parts (said c.args.a) (said c.args.b) (said c.loop-entry.entry-iterator) (said c.loop-entry.others) c.loop-entry.invariant (says_of (entry_of c.in-Some.entry.now)) (says_of (entry_of c.in-Some-next.other.now)) _ _
    (ap said c.in-Some.ensures.steps) (ap said c.in-Some-next.ensures.steps)
    (λ same. let yes : c.are_same_entries.result ≡ true = c.are_same_entries.ensures.1 same in let no = c.if-are_same_entries.false in absurd cc) in
    (λ h. absurd cc, λ h. absurd (differ h))

pub loop-entry-preserved : goal.loop-entry-preserved
unfolding said
loop-entry-preserved c =
    pairing_goes_on (said c.args.a) (said c.args.b) (said c.loop-entry.entry-iterator) (said c.loop-entry.others) c.loop-entry.invariant (says_of (entry_of c.in-Some.entry.now)) (says_of (entry_of c.in-Some-next.other.now)) _ _
    (ap said c.in-Some.ensures.steps) (ap said c.in-Some-next.ensures.steps) (c.are_same_entries.ensures.0 c.if-are_same_entries.true)

told : (r : Option (Bor Entry)) (left others : List Entry) → MatchOption r ((left ≡ []) × (others ≡ [])) (λ x. left ≡ x.now ∷ others) → MatchOption r (said left ≡ []) (λ x. said left ≡ says_of (entry_of x.now) ∷ said others)
unfolding said
told None left others h = ap said h.0
told (Some x) left others h = ap said h

pub returns : goal.returns
unfolding said
returns c =
    pairing_decided (said c.args.a) (said c.args.b) (said c.loop-entry.entry-iterator) (said c.loop-entry.others) c.loop-entry.invariant (ap said c.in-None.ensures.steps.0) (λ (x : Bor Entry). says_of (entry_of x.now)) (said c.loop-entry.others ≡ []) (λ none. none)
    c.next-2.result (said c.next-2.new.self) (told c.next-2.result c.loop-entry.others c.next-2.new.self c.next-2.ensures.steps) c.is_none.result c.is_none.ensures
