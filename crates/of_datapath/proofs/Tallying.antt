-- What a run counted and emitted, one after the other.
use Rattle.std.proofs.Common.{◌≡◌, ℕ, suc, ◌+◌, ◌<◌, List, [], ◌∷◌, length, get_or, drop, refl, sym, ◌∙◌, ap, add-one, drop-cons, Option, eqb}
use Rattle.std.{specs.List.position_or_len, specs.Prelude.slice_index_or, proofs.Math.ListN.get_or-map}
use Rattle.of_table.specs.{Entries.no_entries, Entries.entry_numbers, Tables.NumberedTables, Tables.all_numbers}
use Rattle.of_machine.specs.declared.data.Count.TheVariants.{Matched}
use Rattle.of_machine.specs.declared.data.Count.{Count}
use Rattle.of_datapath.specs.Datapath.{Forwarding, tallied, all_tallied, sent, all_sent}
use Rattle.of_datapath.specs.{declared.effect.Effect.Effect, Buffers.Held, declared.reception.Reception.Reception, Applying.with_held, Applying.with_reception}
use Rattle.of_datapath.specs.Numbers.{entries_at, placed_count, all_placed}

-- a place depends on the numbers alone
numbers_at : (n : NumberedTables) (t : ℕ) → entry_numbers (entries_at n t) ≡ slice_index_or (all_numbers n) t []
numbers_at n t = sym (get_or-map (λ x. entry_numbers x.entries) n.tables t no_entries)

placed_same : (n m : NumberedTables) (c : Count) → all_numbers n ≡ all_numbers m → placed_count n c ≡ placed_count m c
placed_same n m (Matched t number bytes) e =
    ap (λ (ns : List ℕ). Matched t (position_or_len (λ k. eqb k number) ns) bytes) (numbers_at n t ∙ ap (λ (ns : List (List ℕ)). slice_index_or ns t []) e ∙ sym (numbers_at m t))
placed_same n m other e = refl

-- one count more
pub tallied_more : (first now : NumberedTables) (counts : List Count) (i : ℕ) (c d : Count) (f f' : Forwarding) (whole : Forwarding) → i < length counts → c ≡ get_or counts i d
    → all_numbers now ≡ all_numbers first → all_tallied (all_placed first (drop i counts)) f ≡ whole → f' ≡ tallied (placed_count now c) f → all_tallied (all_placed first (drop (i + 1) counts)) f' ≡ whole
tallied_more first now counts i c d f f' whole lt is numbers so step =
    let here : drop i counts ≡ c ∷ drop (suc i) counts = drop-cons counts i d lt ∙ ap (λ (x : Count). x ∷ drop (suc i) counts) (sym is) in
    let next : f' ≡ tallied (placed_count first c) f = step ∙ ap (λ (x : Count). tallied x f) (placed_same now first c numbers) in
    rw (add-one i, next) (ap (λ (cs : List Count). all_tallied (all_placed first cs) f) (sym here) ∙ so)

-- one effect sent more
pub sent_more : (effects : List Effect) (i : ℕ) (d x : Effect) (f f' whole : Forwarding) → i < length effects → x ≡ get_or effects i d → all_sent (drop i effects) f ≡ whole → f' ≡ sent x f → all_sent (drop (i + 1) effects) f' ≡ whole
sent_more effects i d x f f' whole lt is so step =
    let here : drop i effects ≡ x ∷ drop (suc i) effects = drop-cons effects i d lt ∙ ap (λ (y : Effect). y ∷ drop (suc i) effects) (sym is) in
    rw (add-one i, step) (ap (λ (es : List Effect). all_sent es f) (sym here) ∙ so)

-- what a run counted is carried out step by step
pub carried : (effects es : List Effect) (counts cs : List Count) (id : Option ℕ) (frames : List Held) (reception : Option Reception) (n n1 n2 : NumberedTables) (f f1 f2 f3 f4 : Forwarding)
    → f1 ≡ with_reception reception f → n1 ≡ n → f2 ≡ with_held id frames f1 → n2 ≡ n1 → cs ≡ counts → f3 ≡ all_tallied (all_placed n2 cs) f2 → es ≡ effects → f4 ≡ all_sent es f3
    → f4 ≡ all_sent effects (all_tallied (all_placed n counts) (with_held id frames (with_reception reception f)))
carried effects es counts cs id frames reception n n1 n2 f f1 f2 f3 f4 received same holds same' counted tallies sends ends =
    ends
    ∙ (ap (λ (x : List Effect). all_sent x f3) sends
    ∙ ap (all_sent effects) (tallies
    ∙ (ap (λ (x : List Count). all_tallied (all_placed n2 x) f2) counted
    ∙ (ap (λ (x : NumberedTables). all_tallied (all_placed x counts) f2) (same' ∙ same)
    ∙ ap (λ (x : Forwarding). all_tallied (all_placed n counts) x) (holds ∙ ap (with_held id frames) received)))))
