-- Entries, one after the other.
use Rattle.std.proofs.Common.{◌≡◌, ℕ, List, [], ◌∷◌, ◌++◌, sym, ◌∙◌, append_assoc}
use Rattle.std.{specs.List.flat_map, proofs.lemmas.List.append-nil}
use Rattle.of_table.specs.{Table.FlowEntry, declared.entry.Entry.Entry, Entries.entry_of, Entries.flows_of}

pub entry_more : (f : FlowEntry → List ℕ) (out new all : List ℕ) (e : Entry) (left others : List Entry) → left ≡ e ∷ others → new ≡ out ++ f (entry_of e) →
    out ++ flat_map f (flows_of left) ≡ all → new ++ flat_map f (flows_of others) ≡ all
entry_more f out new all e left others first more so_far = rw more (append_assoc out (f (entry_of e)) (flat_map f (flows_of others)) ∙ (rw first at so_far))

pub no_entry : (f : FlowEntry → List ℕ) (out all : List ℕ) (left : List Entry) → left ≡ [] → out ++ flat_map f (flows_of left) ≡ all → out ≡ all
no_entry f out all left none so_far = sym (append-nil out) ∙ (rw none at so_far)
