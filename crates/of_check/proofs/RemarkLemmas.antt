-- Remarks, one after the other.
use Rattle.std.proofs.Common.{◌≡◌, ℕ, ◌+◌, ◌<◌, ◌≤◌, suc, List, ◌∷◌, ◌++◌, length, get_or, drop, sym, ap, ◌∙◌, add-one, drop-cons}
use Rattle.std.specs.Prelude.{map, Result, Ok, Err, OnOk, is_ok, if◌then◌else◌}
use Rattle.std.{specs.List.flat_map, proofs.lemmas.List.append_assoc, proofs.lemmas.List.append-nil, proofs.lemmas.List.drop_all}
use Rattle.of_text.specs.{Flows.Flow, declared.flow.FlowText.FlowText, Views.view, Views.view_flows}
use Rattle.of_check.specs.{declared.remark.Remark.Remark, Remarks.flow_remarks, Remarks.flows_remarks}

-- the next item of a list that is seen through a view
pub next_of : {X Y : Type 0} (f : Y → List Remark) (v : X → Y) (xs : List X) (i : ℕ) (d : X) (out new all : List Remark) → i < length xs → d ≡ get_or xs i d
    → new ≡ out ++ f (v d) → out ++ flat_map f (map v (drop i xs)) ≡ all → new ++ flat_map f (map v (drop (i + 1) xs)) ≡ all
next_of f v xs i d out new all lt is e so_far =
    let split : drop i xs ≡ d ∷ drop (i + 1) xs = rw (add-one, drop-cons xs i d) (ap (λ x. x ∷ drop (suc i) xs) (sym is)) in
    ap (λ (o : List Remark). o ++ flat_map f (map v (drop (i + 1) xs))) e
    ∙ append_assoc out (f (v d)) (flat_map f (map v (drop (i + 1) xs)))
    ∙ ap (λ ys. out ++ flat_map f (map v ys)) (sym split) ∙ so_far

-- the next entry
pub next_flow : (tables : List (List Flow)) (table i : ℕ) (xs : List FlowText) (d : FlowText) (out new all : List Remark) → i < length xs → d ≡ get_or xs i d
    → new ≡ out ++ flow_remarks tables table i (view d) → out ++ flows_remarks tables table i (view_flows (drop i xs)) ≡ all → new ++ flows_remarks tables table (i + 1) (view_flows (drop (i + 1) xs)) ≡ all
unfolding flows_remarks
next_flow tables table i xs d out new all lt is e so_far =
    let split : drop i xs ≡ d ∷ drop (i + 1) xs = rw (add-one, drop-cons xs i d) (ap (λ x. x ∷ drop (suc i) xs) (sym is)) in
    let after : flows_remarks tables table (suc i) (view_flows (drop (i + 1) xs)) ≡ flows_remarks tables table (i + 1) (view_flows (drop (i + 1) xs)) = ap (λ (n : ℕ). flows_remarks tables table n (view_flows (drop (i + 1) xs))) (sym (add-one i)) in
    ap (λ (o : List Remark). o ++ flows_remarks tables table (i + 1) (view_flows (drop (i + 1) xs))) e
    ∙ append_assoc out (flow_remarks tables table i (view d)) (flows_remarks tables table (i + 1) (view_flows (drop (i + 1) xs)))
    ∙ ap (λ (r : List Remark). out ++ (flow_remarks tables table i (view d) ++ r)) (sym after)
    ∙ ap (λ ys. out ++ flows_remarks tables table i (view_flows ys)) (sym split) ∙ so_far

-- no entry is left
pub no_flows : (tables : List (List Flow)) (table i : ℕ) (xs : List FlowText) (out all : List Remark) → length xs ≤ i → out ++ flows_remarks tables table i (view_flows (drop i xs)) ≡ all → out ≡ all
unfolding flows_remarks
no_flows tables table i xs out all le so_far = sym (append-nil out) ∙ ap (λ ys. out ++ flows_remarks tables table i (view_flows ys)) (sym (drop_all i xs le)) ∙ so_far

-- words after words
pub ended : {A E : Type 0} (r : Result A E) (out words tail mid new : List ℕ) → mid ≡ out ++ words → new ≡ (if is_ok r then mid ++ tail else mid) → OnOk r (new ≡ out ++ (words ++ tail))
ended (Ok x) out words tail mid new m n = n ∙ (ap (λ (xs : List ℕ). xs ++ tail) m ∙ append_assoc out words tail)
ended (Err e) out words tail mid new m n = tt
