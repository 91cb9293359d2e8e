-- What was read may stand in a flow text.
use Rattle.std.proofs.Common.{◌≡◌, ℕ, true, List, [], ◌∷◌, ◌++◌, Some, refl, ap, ◌∙◌}
use Rattle.std.specs.{Prelude.map, Prelude.nat_lt, List.AllByRecursion, List.flat_map, List.list_all}
use Rattle.of_actions.specs.{declared.action.Action.Action, Rising.is_ascending}
use Rattle.of_lines.specs.declared.order.Place.{Place}
use Rattle.of_lines.specs.declared.order.Place.TheVariants.{InGroup, InBucket}
use Rattle.of_lines.specs.declared.row.Row.{Row}
use Rattle.of_lines.specs.declared.row.Row.TheVariants as rows
use Rattle.of_text.specs.Groups.{TextBucket, TextGroup, bucket_rows, group_rows, rows_of_groups}
use Rattle.of_text.specs.{Flows.Flow, Flows.text_rows, Order.start_place, Order.following, Order.following_all, Rows.Fits, Texts.AreRows}
use Rattle.of_text.{specs.Views.view, specs.Views.view_group, specs.Views.view_groups, specs.Views.view_flows, proofs.TextLemmas.standing_both, proofs.TextLemmas.all_both}
use Rattle.of_text.proofs.ConfigLemmas.{IsWhole, rows_from}
use Rattle.of_import.specs.ParsedLinesViews.{id_of, view_group_line, view_flow_line, AreSoundGroups, FlowIsSound}
use Rattle.of_import.specs.{declared.parsed_lines.FlowLine.FlowLine, declared.parsed_lines.GroupLine.GroupLine}
use Rattle.of_ovs_lines.{specs.Sound.IsSoundFlow, proofs.SoundLemmas.and_parts}

-- a place in the group of that number
abbrev pub IsIn : ℕ → Place → Type 0
IsIn id (InGroup n) = n ≡ id
IsIn id (InBucket n) = n ≡ id
IsIn id other = ⊥

-- lines that lead to a place in it
record Leads (id : ℕ) (from : Place) (lines : List Row) : Type 0 where
  pub to : Place
  pub is : following_all from lines ≡ Some to
  pub within : IsIn id to

leads_both : (id : ℕ) (from : Place) (front back : List Row) → (a : Leads id from front) → Leads id a.to back → Leads id from (front ++ back)
leads_both id from front back a b = record { to = b.to; is = standing_both from front back ∙ rw a.is b.is; within = b.within }

actions_lead : (id : ℕ) (xs : List Action) → following_all (InBucket id) (map rows.Do xs) ≡ Some (InBucket id)
unfolding following
actions_lead id [] = refl
actions_lead id (x ∷ xs) = actions_lead id xs

bucket_leads : (id : ℕ) (p : Place) → IsIn id p → (b : TextBucket) → Leads id p (bucket_rows b)
unfolding following
bucket_leads id (InGroup n) h b = record { to = InBucket n; is = actions_lead n b.actions; within = h }
bucket_leads id (InBucket n) h b = record { to = InBucket n; is = actions_lead n b.actions; within = h }
bucket_leads id other h b = absurd h

buckets_lead : (id : ℕ) (p : Place) → IsIn id p → (bs : List TextBucket) → Leads id p (flat_map bucket_rows bs)
buckets_lead id p h [] = record { to = p; is = refl; within = h }
buckets_lead id p h (b ∷ bs) =
    let a = bucket_leads id p h b in
    leads_both id p (bucket_rows b) (flat_map bucket_rows bs) a (buckets_lead id a.to a.within bs)

begins_in : (id : ℕ) (p : Place) → IsIn id p → (g : TextGroup) → nat_lt id g.head.id ≡ true → following_all p (group_rows g) ≡ following_all (InGroup g.head.id) (flat_map bucket_rows g.buckets)
unfolding following
begins_in id (InGroup n) h g k = rw (h, k) refl
begins_in id (InBucket n) h g k = rw (h, k) refl
begins_in id other h g k = absurd h

-- groups of higher numbers, from a place in a group
groups_lead : (id : ℕ) (p : Place) → IsIn id p → (gs : List TextGroup) → list_all (λ g. nat_lt id g.head.id) gs ≡ true → is_ascending (λ g. g.head.id) gs ≡ true → (q : Place) × (following_all p (rows_of_groups gs) ≡ Some q)
groups_lead id p h [] k r = (p, refl)
groups_lead id p h (g ∷ gs) k r =
    let higher = and_parts (nat_lt id g.head.id) (list_all (λ g. nat_lt id g.head.id) gs) k in
    let rising = and_parts (list_all (λ y. nat_lt g.head.id y.head.id) gs) (is_ascending (λ g. g.head.id) gs) r in
    let inner = buckets_lead g.head.id (InGroup g.head.id) refl g.buckets in
    let others = groups_lead g.head.id inner.to inner.within gs rising.0 rising.1 in
    (others.0, standing_both p (group_rows g) (rows_of_groups gs) ∙ rw (begins_in id p h g higher.0 ∙ inner.is) others.1)

groups_stand : (gs : List TextGroup) → is_ascending (λ g. g.head.id) gs ≡ true → (q : Place) × (following_all start_place (rows_of_groups gs) ≡ Some q)
unfolding following
groups_stand [] r = (start_place, refl)
groups_stand (g ∷ gs) r =
    let rising = and_parts (list_all (λ y. nat_lt g.head.id y.head.id) gs) (is_ascending (λ g. g.head.id) gs) r in
    let inner = buckets_lead g.head.id (InGroup g.head.id) refl g.buckets in
    let others = groups_lead g.head.id inner.to inner.within gs rising.0 rising.1 in
    (others.0, standing_both start_place (group_rows g) (rows_of_groups gs) ∙ rw inner.is others.1)

-- ---- as they were read

viewed_fit : (gs : List GroupLine) → AllByRecursion (λ g. AllByRecursion Fits (group_rows (view_group g.group))) gs → AllByRecursion Fits (rows_of_groups (view_groups (map (λ g. g.group) gs)))
viewed_fit [] h = tt
viewed_fit (g ∷ gs) h = all_both Fits (group_rows (view_group g.group)) (rows_of_groups (view_groups (map (λ g. g.group) gs))) h.0 (viewed_fit gs h.1)

viewed_all : (n : ℕ) (gs : List GroupLine) → list_all (λ y. nat_lt n (id_of y)) gs ≡ true → list_all (λ y. nat_lt n y.head.id) (view_groups (map (λ g. g.group) gs)) ≡ true
viewed_all n [] h = refl
viewed_all n (g ∷ gs) h = let parts = and_parts (nat_lt n (id_of g)) (list_all (λ y. nat_lt n (id_of y)) gs) h in rw (parts.0, viewed_all n gs parts.1) refl

viewed_rise : (gs : List GroupLine) → is_ascending id_of gs ≡ true → is_ascending (λ g. g.head.id) (view_groups (map (λ g. g.group) gs)) ≡ true
viewed_rise [] h = refl
viewed_rise (g ∷ gs) h =
    let parts = and_parts (list_all (λ y. nat_lt (id_of g) (id_of y)) gs) (is_ascending id_of gs) h in
    rw (viewed_all (id_of g) gs parts.0, viewed_rise gs parts.1) refl

viewed_whole : (fs : List FlowLine) → AllByRecursion (λ f. IsSoundFlow (view f.flow)) fs → AllByRecursion IsWhole (view_flows (map (λ f. f.flow) fs))
viewed_whole [] h = tt
viewed_whole (f ∷ fs) h = (record { fits = h.0.fits; order = h.0.order }, viewed_whole fs h.1)

-- the lines of groups and flows
pub parsed_rows : (ls : List GroupLine) (ms : List FlowLine) (gs : List TextGroup) (fs : List Flow) → AreSoundGroups ls → AllByRecursion FlowIsSound ms → gs ≡ view_groups (map (λ g. g.group) ls) → fs ≡ view_flows (map (λ f. f.flow) ms) → AreRows (text_rows gs fs)
parsed_rows ls ms gs fs s h g f =
    let place = groups_stand (view_groups (map (λ g. g.group) ls)) (viewed_rise ls s.rising) in
    rw (g, f) (rows_from (view_groups (map (λ g. g.group) ls)) (view_flows (map (λ f. f.flow) ms)) (record { fits = viewed_fit ls s.each; place = place.0; order = place.1; whole = viewed_whole ms h }))

-- the groups and flows that were read
pub parsed_groups : (gs : List GroupLine) → view_groups (map (λ g. g.group) gs) ≡ map (λ g. g.1) (map view_group_line gs)
parsed_groups [] = refl
parsed_groups (g ∷ gs) = ap (λ xs. view_group g.group ∷ xs) (parsed_groups gs)

pub parsed_flows : (fs : List FlowLine) → view_flows (map (λ f. f.flow) fs) ≡ map (λ f. f.flow) (map view_flow_line fs)
parsed_flows [] = refl
parsed_flows (f ∷ fs) = ap (λ xs. view f.flow ∷ xs) (parsed_flows fs)

pub parsed_group_lines : (gs : List GroupLine) → map (λ g. g.line) gs ≡ map (λ g. g.0) (map view_group_line gs)
parsed_group_lines [] = refl
parsed_group_lines (g ∷ gs) = ap (λ xs. g.line ∷ xs) (parsed_group_lines gs)

pub parsed_flow_lines : (fs : List FlowLine) → map (λ f. f.line) fs ≡ map (λ f. f.line) (map view_flow_line fs)
parsed_flow_lines [] = refl
parsed_flow_lines (f ∷ fs) = ap (λ xs. f.line ∷ xs) (parsed_flow_lines fs)
