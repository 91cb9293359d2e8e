-- Whether an entry is kept.
use Rattle.std.proofs.Common.{◌≡◌, ◌∙◌, ◌<◌, ℕ, zero, suc, Bool, true, false, List, [], ◌∷◌, map, None, Some, ap, refl, sym, subst}
use Rattle.std.specs.{Prelude.◌↔◌, Prelude.IsTrue, Prelude.not, Prelude.slice_get, List.Contains}
use Rattle.of_table.specs.{declared.entry.Entry.Entry, Entries.entry_of, Entries.flows_of, Table.FlowEntry}
use Rattle.of_datapath.specs.Datapath.{Forwarding}
use Rattle.of_json.specs.declared.hits.Hit.{Hit}
use Rattle.of_alike.specs.SameTables.{says_of}
use Rattle.of_diff.specs.Changing.{entries_in}
use Rattle.of_diff_report.specs.Changed.{IsInOther}

at_flows : (es : List Entry) (n : ℕ) (e : Entry) → slice_get es n ≡ Some e → slice_get (flows_of es) n ≡ Some (entry_of e)
at_flows [] n e h = absurd cc
at_flows (x ∷ es) zero e h = let same : x ≡ e = cc in rw same refl
at_flows (x ∷ es) (suc n) e h = at_flows es n e h

none_at : (es : List Entry) (n : ℕ) → slice_get es n ≡ None → slice_get (flows_of es) n ≡ None
none_at [] n h = refl
none_at (x ∷ es) zero h = absurd cc
none_at (x ∷ es) (suc n) h = none_at es n h

module _ (f g : Forwarding) (hit : Hit) (es others : List Entry) (own : flows_of es ≡ entries_in f hit.table) (other : flows_of others ≡ entries_in g hit.table) where
  pub none_kept : slice_get es hit.number ≡ None → IsInOther f g hit → ⊥
  none_kept none kept =
      let at : slice_get (entries_in f hit.table) hit.number ≡ None = ap (λ (l : List FlowEntry). slice_get l hit.number) (sym own) ∙ none_at es hit.number none in
      let there : Some kept.1 ≡ None = sym kept.2 ∙ at in
      absurd cc

  module _ (e : Entry) (there : slice_get es hit.number ≡ Some e) (lt : hit.table < 16) where
    at : slice_get (entries_in f hit.table) hit.number ≡ Some (entry_of e)
    at = ap (λ (l : List FlowEntry). slice_get l hit.number) (sym own) ∙ at_flows es hit.number e there

    pub if_such : Contains (map says_of (flows_of others)) (says_of (entry_of e)) → IsInOther f g hit
    if_such such = (lt, entry_of e, at, subst (λ (l : List FlowEntry). Contains (map says_of l) (says_of (entry_of e))) other such)

    pub such_if : IsInOther f g hit → Contains (map says_of (flows_of others)) (says_of (entry_of e))
    such_if kept =
        let two : Some kept.1 ≡ Some (entry_of e) = sym kept.2 ∙ at in
        let same : kept.1 ≡ entry_of e = cc in
        subst (λ (l : List FlowEntry). Contains (map says_of l) (says_of (entry_of e))) (sym other) (subst (λ (x : FlowEntry). Contains (map says_of (entries_in g hit.table)) (says_of x)) same kept.3)

    pub kept_if : (has : Bool) → (IsTrue has ↔ Contains (map says_of (flows_of others)) (says_of (entry_of e))) → (not has ≡ false) ↔ IsInOther f g hit
    kept_if true such = (λ no. if_such (such.0 refl), λ kept. refl)
    kept_if false such = (λ no. absurd cc, λ kept. absurd (let yes : false ≡ true = such.1 (such_if kept) in cc))
