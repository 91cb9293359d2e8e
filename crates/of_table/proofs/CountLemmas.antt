-- Entries after a packet is counted.
use Rattle.std.proofs.Common.{◌≡◌, ℕ, ◌<◌, ◌≤◌, zero, suc, false, eqb, ltb, List, [], ◌∷◌, length, get_or, set, refl, sym, ◌∙◌, ap, arith}
use Rattle.std.proofs.{lemmas.Bool.ltb-false, lemmas.List.length-map}
use Rattle.of_table.specs.Entries.{entry_of, flows_of, entry_number, entry_numbers, place_of, is_entry_there}
use Rattle.of_table.{specs.Table.FlowEntry, specs.Table.counted_entry, specs.Table.counted_at, specs.declared.entry.Entry.Entry, proofs.PlaceLemmas.any-place}

pub counted-set : (now bytes : ℕ) (es : List Entry) (k : ℕ) (e d : Entry) → k < length es → entry_of e ≡ counted_entry now bytes (entry_of (get_or es k d)) → flows_of (set es k e) ≡ counted_at now k bytes (flows_of es)
counted-set now bytes [] k e d lt is = absurd (omega arith)
counted-set now bytes (x ∷ es) zero e d lt is = ap (λ (f : FlowEntry). f ∷ flows_of es) is
counted-set now bytes (x ∷ es) (suc k) e d lt is = ap (λ (fs : List FlowEntry). entry_of x ∷ fs) (counted-set now bytes es k e d (omega arith) is)

counted_past : (now k bytes : ℕ) (flows : List FlowEntry) → length flows ≤ k → counted_at now k bytes flows ≡ flows
counted_past now k bytes [] le = refl
counted_past now zero bytes (e ∷ flows) le = absurd (omega (arith, le))
counted_past now (suc k) bytes (e ∷ flows) le = ap (λ (fs : List FlowEntry). e ∷ fs) (counted_past now k bytes flows (omega (arith, le)))

-- where a number is not there, nothing is counted
pub counted_none : (now number bytes : ℕ) (es : List Entry) → is_entry_there number es ≡ false → flows_of es ≡ counted_at now (place_of number es) bytes (flows_of es)
counted_none now number bytes es absent =
    let far : ltb (place_of number es) (length (entry_numbers es)) ≡ false = sym (any-place (λ n. eqb n number) (entry_numbers es)) ∙ absent in
    sym (counted_past now (place_of number es) bytes (flows_of es) (omega (arith, ltb-false _ _ far, length-map es entry_of, length-map es entry_number)))
