-- The entries of a table as conditions on the frame that came in.
use Rattle.std.proofs.Common.{◌≡◌, ◌<◌, ◌≤◌, ◌+◌, ℕ, zero, suc, Bor, length, get_or, drop, List, [], ◌∷◌, ◌++◌, Option, Some, None, refl, sym, ap, subst, arith, append_assoc, drop-cons, add-one, ◌∙◌}
use Rattle.std.{specs.Prelude.true, specs.Prelude.IfSome, specs.Prelude.map, specs.List.Contains, specs.Global.Vec, proofs.lemmas.List.drop_all}
use Rattle.of_oxm.specs.declared.match_field.MatchField.{MatchField}
use Rattle.of_regions.specs.Conditions.{AreConditions}
use Rattle.of_actions.specs.declared.action.Action.{Action}
use Rattle.of_table.specs.{declared.entry.Entry.Entry, Entries.entry_of, Entries.flows_of, Table.FlowEntry}
use Rattle.of_symbolic.specs.Branching.{AllHaveConditions, ArePulledEntries, HasConditions, IsPulledEntry, pulled_of}
use Rattle.of_symbolic.specs.{declared.overlay.Overlay.Overlay, declared.pulled_entry.PulledEntry.PulledEntry, declared.pulling.Pulled.Pulled, Branches.AsksUnknown, Overlays.IsOverlay}
use Rattle.of_symbolic.specs.Pulling.{AsksConditions, IsPulled, is_unknown_in}

-- the walk over entries: whatever is pulled of those that are left completes the whole, and those are entries of the whole
pub record IsPulledSoFar (o : Overlay) (metadata : ℕ) (flows : List FlowEntry) (left : List Entry) (out : List PulledEntry) : Type 0 where
  pub goes_on : (rest : List PulledEntry) → ArePulledEntries o metadata (flows_of left) rest → ArePulledEntries o metadata flows (out ++ rest)
  pub among : (e : FlowEntry) → Contains (flows_of left) e → Contains flows e

pub pulled_more : (o : Overlay) (metadata : ℕ) (flows : List FlowEntry) (left others : List Entry) (x : Entry) (out : List PulledEntry) (p : PulledEntry) → left ≡ x ∷ others → IsPulledEntry o metadata (entry_of x) p
    → IsPulledSoFar o metadata flows left out → IsPulledSoFar o metadata flows others (out ++ p ∷ [])
pulled_more o metadata flows left others x out p is own h = record {
  goes_on = λ rest are.
      let more : ArePulledEntries o metadata (flows_of left) (p ∷ rest) = subst (λ (es : List Entry). ArePulledEntries o metadata (flows_of es) (p ∷ rest)) (sym is) (own, are) in
      subst (ArePulledEntries o metadata flows) (sym (append_assoc out (p ∷ []) rest)) (h.goes_on (p ∷ rest) more);
  among = λ e c. h.among e (subst (λ (es : List Entry). Contains (flows_of es) e) (sym is) (suc c.0, omega (arith, c.1), c.2));
}

pub one_unknown : (o : Overlay) (metadata : ℕ) (flows : List FlowEntry) (left others : List Entry) (x : Entry) (out : List PulledEntry) → left ≡ x ∷ others → is_unknown_in o x.flow.fields ≡ true → IsPulledSoFar o metadata flows left out → AsksUnknown o flows
one_unknown o metadata flows left others x out is unknown h = record {
  entry = entry_of x;
  there = h.among (entry_of x) (subst (λ (es : List Entry). Contains (flows_of es) (entry_of x)) (sym is) (0, omega arith, refl));
  unknown = unknown;
}

-- entries that are referred to: one after the other
pub listed_at : (entries : List (Bor Entry)) (i : ℕ) (x : Bor Entry) → x ≡ get_or entries i x → i < length entries → map (λ (e : Bor Entry). e.now) (drop i entries) ≡ x.now ∷ map (λ (e : Bor Entry). e.now) (drop (i + 1) entries)
listed_at entries i x is lt = rw (add-one) (ap (map (λ (e : Bor Entry). e.now)) (drop-cons entries i x lt) ∙ ap (λ (e : Bor Entry). e.now ∷ map (λ (e : Bor Entry). e.now) (drop (suc i) entries)) (sym is))

pub listed_end : (entries : List (Bor Entry)) (i : ℕ) → length entries ≤ i → map (λ (e : Bor Entry). e.now) (drop i entries) ≡ []
listed_end entries i le = ap (map (λ (e : Bor Entry). e.now)) (drop_all i entries le)

pub pulled_done : (o : Overlay) (metadata : ℕ) (flows : List FlowEntry) (left : List Entry) (out : List PulledEntry) → left ≡ [] → IsPulledSoFar o metadata flows left out → ArePulledEntries o metadata flows out
pulled_done o metadata flows left out is h =
    let end : ArePulledEntries o metadata (flows_of left) [] = subst (λ (es : List Entry). ArePulledEntries o metadata (flows_of es) []) (sym is) tt in
    subst (ArePulledEntries o metadata flows) (append_empty out) (h.goes_on [] end)
  where
    append_empty : (xs : List PulledEntry) → xs ++ [] ≡ xs
    append_empty [] = refl
    append_empty (x ∷ xs) = ap (λ (ys : List PulledEntry). x ∷ ys) (append_empty xs)

-- each entry that was pulled asks conditions
pub pulled_kept : (o : Overlay) (metadata : ℕ) (flows : List FlowEntry) (pulled : List PulledEntry) → ArePulledEntries o metadata flows pulled → AllHaveConditions pulled
pulled_kept o metadata [] [] are k p at = absurd cc
pulled_kept o metadata [] (q ∷ pulled) are k p at = absurd are
pulled_kept o metadata (e ∷ flows) [] are k p at = absurd are
pulled_kept o metadata (e ∷ flows) (q ∷ pulled) are zero p at = subst HasConditions (let same : q ≡ p = cc in same) are.0.conditions
pulled_kept o metadata (e ∷ flows) (q ∷ pulled) are (suc k) p at = pulled_kept o metadata flows pulled are.1 k p at

-- what was pulled of one entry
pub one_pulled : (o : Overlay) (metadata : ℕ) (e : FlowEntry) (r : Pulled) (p : PulledEntry) → r ≡ pulled_of p.fields → p.priority ≡ e.flow.priority → ((l : List Action) → IsOverlay o l → IsPulled o.inner l metadata e.flow.fields r) → AsksConditions r → IsPulledEntry o metadata e p
one_pulled o metadata e r p is priority pulled asks = record {
  priority = priority;
  is = λ l over. subst (IsPulled o.inner l metadata e.flow.fields) is (pulled l over);
  conditions = kept p.fields (subst AsksConditions is asks);
}
  where
    kept : (fields : Option (Vec MatchField)) → AsksConditions (pulled_of fields) → IfSome fields (λ (m : Vec MatchField). AreConditions m.items)
    kept None h = tt
    kept (Some m) h = h
