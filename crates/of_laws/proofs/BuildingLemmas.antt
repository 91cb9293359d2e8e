-- What messages add, one after the other.
use Rattle.std.proofs.Common.{◌≡◌, ℕ, ◌+◌, ◌<◌, ◌≤◌, Bool, true, false, List, [], ◌∷◌, ◌++◌, Option, Some, None, Ok, Err, refl, sym, ◌∙◌, ap, arith}
use Rattle.std.specs.{Prelude.map, Prelude.nat_lt, Prelude.◌&&◌, Prelude.slice_index_or, List.AllByRecursion, List.list_all, List.flat_map}
use Rattle.std.proofs.{lemmas.Bool.le-leb, lemmas.Bool.Decides.nat_tests}
use Rattle.of_actions.specs.{declared.action.Action.Action, Rising.is_ascending}
use Rattle.of_text.specs.Groups.{TextBucket, TextGroup, bucket_rows, group_rows, rows_of_groups}
use Rattle.of_text.specs.{declared.flow.FlowText.FlowText, declared.group.GroupText.GroupText, Flows.Flow, Flows.text_rows, Kept.IsKeptFlow, Order.start_place, Order.following, Order.following_all}
use Rattle.of_text.specs.{Rows.Fits, Texts.AreRows, Views.view, Views.view_group, Views.view_groups, Views.view_flows, First.first_refusal, Configs.Configuration, Configs.tables_of_flows}
use Rattle.of_text.proofs.{TextLemmas.standing_both, TextLemmas.all_both, KeptLemmas.flows_fit, KeptLemmas.flows_stand, ConfigLemmas.IsWhole, ConfigLemmas.each_whole, ConfigLemmas.rows_from}
use Rattle.of_lines.specs.declared.order.Place.{Place}
use Rattle.of_lines.specs.declared.order.Place.TheVariants.{InGroup, InBucket}
use Rattle.of_lines.specs.declared.row.Row.{Row}
use Rattle.of_lines.specs.declared.row.Row.TheVariants as rows
use Rattle.of_wire.specs.declared.code.Code.{Code}
use Rattle.of_laws.specs.Built.{Listed, config_listed, earlier, group_listed, with_fault, with_listed_group}
use Rattle.of_laws.specs.{declared.fault.ConfigFault.ConfigFault, declared.fault.ConfigFault.TheVariants.Refused, declared.building.Listed.Listed as InMemory}
use Rattle.of_laws.specs.BuiltViews.{IsSoundListed, joined_with_later, or_later}

and_parts : (a b : Bool) → (a && b) ≡ true → (a ≡ true) × (b ≡ true)
and_parts true b h = (refl, h)
and_parts false b h = absurd cc

-- ---- groups in ascending order of number stand in a flow text

-- a place in the group of that number
abbrev IsIn : ℕ → Place → Type 0
IsIn id (InGroup n) = n ≡ id
IsIn id (InBucket n) = n ≡ id
IsIn id other = ⊥

-- lines that lead to a place in it
record Leads (id : ℕ) (from : Place) (lines : List Row) : Type 0 where
  pub to : Place
  pub is : following_all from lines ≡ Some to
  pub within : IsIn id to

leads_both : (id : ℕ) (from : Place) (front back : List Row) → (a : Leads id from front) → Leads id a.to back → Leads id from (front ++ back)
leads_both id from front back a b = record { to = b.to; is = standing_both from front back ∙ rw a.is b.is; within = b.within }

actions_lead : (id : ℕ) (xs : List Action) → following_all (InBucket id) (map rows.Do xs) ≡ Some (InBucket id)
unfolding following
actions_lead id [] = refl
actions_lead id (x ∷ xs) = actions_lead id xs

bucket_leads : (id : ℕ) (p : Place) → IsIn id p → (b : TextBucket) → Leads id p (bucket_rows b)
unfolding following
bucket_leads id (InGroup n) h b = record { to = InBucket n; is = actions_lead n b.actions; within = h }
bucket_leads id (InBucket n) h b = record { to = InBucket n; is = actions_lead n b.actions; within = h }
bucket_leads id other h b = absurd h

buckets_lead : (id : ℕ) (p : Place) → IsIn id p → (bs : List TextBucket) → Leads id p (flat_map bucket_rows bs)
buckets_lead id p h [] = record { to = p; is = refl; within = h }
buckets_lead id p h (b ∷ bs) =
    let a = bucket_leads id p h b in
    leads_both id p (bucket_rows b) (flat_map bucket_rows bs) a (buckets_lead id a.to a.within bs)

begins_in : (id : ℕ) (p : Place) → IsIn id p → (g : TextGroup) → nat_lt id g.head.id ≡ true → following_all p (group_rows g) ≡ following_all (InGroup g.head.id) (flat_map bucket_rows g.buckets)
unfolding following
begins_in id (InGroup n) h g k = rw (h, k) refl
begins_in id (InBucket n) h g k = rw (h, k) refl
begins_in id other h g k = absurd h

-- groups of higher numbers, from a place in a group
groups_lead : (id : ℕ) (p : Place) → IsIn id p → (gs : List TextGroup) → list_all (λ g. nat_lt id g.head.id) gs ≡ true → is_ascending (λ g. g.head.id) gs ≡ true → (q : Place) × (following_all p (rows_of_groups gs) ≡ Some q)
groups_lead id p h [] k r = (p, refl)
groups_lead id p h (g ∷ gs) k r =
    let higher = and_parts (nat_lt id g.head.id) (list_all (λ g. nat_lt id g.head.id) gs) k in
    let rising = and_parts (list_all (λ y. nat_lt g.head.id y.head.id) gs) (is_ascending (λ g. g.head.id) gs) r in
    let inner = buckets_lead g.head.id (InGroup g.head.id) refl g.buckets in
    let others = groups_lead g.head.id inner.to inner.within gs rising.0 rising.1 in
    (others.0, standing_both p (group_rows g) (rows_of_groups gs) ∙ rw (begins_in id p h g higher.0 ∙ inner.is) others.1)

groups_stand : (gs : List TextGroup) → is_ascending (λ g. g.head.id) gs ≡ true → (q : Place) × (following_all start_place (rows_of_groups gs) ≡ Some q)
unfolding following
groups_stand [] r = (start_place, refl)
groups_stand (g ∷ gs) r =
    let rising = and_parts (list_all (λ y. nat_lt g.head.id y.head.id) gs) (is_ascending (λ g. g.head.id) gs) r in
    let inner = buckets_lead g.head.id (InGroup g.head.id) refl g.buckets in
    let others = groups_lead g.head.id inner.to inner.within gs rising.0 rising.1 in
    (others.0, standing_both start_place (group_rows g) (rows_of_groups gs) ∙ rw inner.is others.1)

-- ---- as they lie in memory

abbrev pub GroupFits : GroupText → Type 0
GroupFits g = AllByRecursion Fits (group_rows (view_group g))

groups_fit : (gs : List GroupText) → AllByRecursion GroupFits gs → AllByRecursion Fits (rows_of_groups (view_groups gs))
groups_fit [] h = tt
groups_fit (g ∷ gs) h = all_both Fits (group_rows (view_group g)) (rows_of_groups (view_groups gs)) h.0 (groups_fit gs h.1)

all_above : (n : ℕ) (gs : List GroupText) → list_all (λ y. nat_lt n y.head.id) gs ≡ true → list_all (λ y. nat_lt n y.head.id) (view_groups gs) ≡ true
all_above n [] h = refl
all_above n (g ∷ gs) h = let parts = and_parts (nat_lt n g.head.id) (list_all (λ y. nat_lt n y.head.id) gs) h in rw (parts.0, all_above n gs parts.1) refl

groups_rise : (gs : List GroupText) → is_ascending (λ g. g.head.id) gs ≡ true → is_ascending (λ g. g.head.id) (view_groups gs) ≡ true
groups_rise [] h = refl
groups_rise (g ∷ gs) h =
    let parts = and_parts (list_all (λ y. nat_lt g.head.id y.head.id) gs) (is_ascending (λ g. g.head.id) gs) h in
    rw (all_above g.head.id gs parts.0, groups_rise gs parts.1) refl

kept_whole : (f : Flow) → IsKeptFlow f → IsWhole f
kept_whole f k = (each_whole 0 (f ∷ []) (flows_fit (f ∷ []) (k, tt)) (flows_stand 0 (f ∷ []) (k, tt))).0

flows_whole : (fs : List FlowText) → AllByRecursion (λ f. IsKeptFlow (view f)) fs → AllByRecursion IsWhole (view_flows fs)
flows_whole [] h = tt
flows_whole (f ∷ fs) h = (kept_whole (view f) h.0, flows_whole fs h.1)

-- the lines of what was listed
pub listed_rows : (gs : List GroupText) (fs : List FlowText) → AllByRecursion GroupFits gs → is_ascending (λ g. g.head.id) gs ≡ true → AllByRecursion (λ f. IsKeptFlow (view f)) fs → AreRows (text_rows (view_groups gs) (view_flows fs))
listed_rows gs fs fits rising stand =
    let place = groups_stand (view_groups gs) (groups_rise gs rising) in
    rows_from (view_groups gs) (view_flows fs) (record { fits = groups_fit gs fits; place = place.0; order = place.1; whole = flows_whole fs stand })

-- ---- one more

pub one_more : {X : Type 0} (P : X → Type 0) (xs : List X) (x : X) → AllByRecursion P xs → P x → AllByRecursion P (xs ++ x ∷ [])
one_more P [] x h k = (k, tt)
one_more P (y ∷ ys) x h k = (h.0, one_more P ys x h.1 k)

pub weaker : {X : Type 0} (P Q : X → Type 0) → ((x : X) → P x → Q x) → (xs : List X) → AllByRecursion P xs → AllByRecursion Q xs
weaker P Q f [] h = tt
weaker P Q f (x ∷ xs) h = (f x h.0, weaker P Q f xs h.1)

above_more : (n : ℕ) (gs : List GroupText) (g : GroupText) → list_all (λ y. nat_lt n y.head.id) gs ≡ true → nat_lt n g.head.id ≡ true → list_all (λ y. nat_lt n y.head.id) (gs ++ g ∷ []) ≡ true
above_more n [] g h k = rw k refl
above_more n (x ∷ xs) g h k = let parts = and_parts (nat_lt n x.head.id) (list_all (λ y. nat_lt n y.head.id) xs) h in rw (parts.0, above_more n xs g parts.1 k) refl

pub rises_more : (least : ℕ) (gs : List GroupText) (g : GroupText) → AllByRecursion (λ x. x.head.id < least) gs → least ≤ g.head.id → is_ascending (λ x. x.head.id) gs ≡ true → is_ascending (λ x. x.head.id) (gs ++ g ∷ []) ≡ true
rises_more least [] g b l h = refl
rises_more least (x ∷ xs) g b l h =
    let parts = and_parts (list_all (λ y. nat_lt x.head.id y.head.id) xs) (is_ascending (λ y. y.head.id) xs) h in
    let below : x.head.id < least = b.0 in
    let above : nat_lt x.head.id g.head.id ≡ true = grind (arith, nat_tests, below, l) in
    rw (above_more x.head.id xs g parts.0 above, rises_more least xs g b.1 l parts.1) refl

-- ---- what is kept, and what the later messages add

first_stays : (a : Option ConfigFault) (fault : ConfigFault) (x : Option ConfigFault) → or_later a (Some fault) ≡ or_later (or_later a (Some fault)) x
first_stays None fault x = refl
first_stays (Some f) fault x = refl

-- a message at fault
pub noted : (l l' : InMemory) (fault : ConfigFault) (rest : ℕ → Listed) → l'.fault ≡ or_later l.fault (Some fault) → l'.places ≡ l.places → l'.groups ≡ l.groups → l'.flows ≡ l.flows → l'.least ≡ l.least
    → joined_with_later l (with_fault fault (rest l.least)) ≡ joined_with_later l' (rest l'.least)
noted l l' fault rest f p g x e =
    let r = rest l.least in
    rw (f, p, g, x, e) (ap (λ (o : Option ConfigFault). record { places = l.places.items ++ r.places; groups = view_groups l.groups.items ++ r.groups; flows = view_flows l.flows.items ++ r.flows; fault = o }) (first_stays l.fault fault r.fault))

pub group_in : (place least : ℕ) (g : TextGroup) (rest : ℕ → Listed) → least ≤ g.head.id → group_listed place least g rest ≡ with_listed_group place g (rest (g.head.id + 1))
group_in place least g rest le = rw (le-leb least g.head.id le) refl

-- ---- it may stand in a flow text

pub group_sound : (l l' : InMemory) (g : GroupText) → IsSoundListed l → l.least ≤ g.head.id → GroupFits g → l'.groups.items ≡ l.groups.items ++ g ∷ [] → l'.flows ≡ l.flows → l'.least ≡ g.head.id + 1 → IsSoundListed l'
group_sound l l' g s le fits gs x e = record {
  fits = rw gs (one_more GroupFits l.groups.items g s.fits fits);
  below = rw (gs, e) (one_more (λ y. y.head.id < g.head.id + 1) l.groups.items g (weaker (λ y. y.head.id < l.least) (λ y. y.head.id < g.head.id + 1) (λ y h. omega (arith, h, le)) l.groups.items s.below) (omega arith));
  rising = rw gs (rises_more l.least l.groups.items g s.below le s.rising);
  flows = rw x s.flows;
}

pub flow_sound : (l l' : InMemory) (f : FlowText) → IsSoundListed l → IsKeptFlow (view f) → l'.flows.items ≡ l.flows.items ++ f ∷ [] → l'.groups ≡ l.groups → l'.least ≡ 0x100000000 → IsSoundListed l'
flow_sound l l' f s stands fs x e = record {
  fits = rw x s.fits;
  below = rw (x, e) (weaker GroupFits (λ y. y.head.id < 0x100000000) (λ y h. h.0) l.groups.items s.fits);
  rising = rw x s.rising;
  flows = rw fs (one_more (λ y. IsKeptFlow (view y)) l.flows.items f s.flows stands);
}

-- ---- the first fault

-- what is kept alone
abbrev pub kept : InMemory → Listed
kept l = record { places = l.places.items; groups = view_groups l.groups.items; flows = view_flows l.flows.items; fault = l.fault }

pub given_so : (l : Listed) (c : Configuration) → l.fault ≡ None → first_refusal l.groups l.flows ≡ None → c.groups ≡ l.groups → c.tables ≡ tables_of_flows l.flows → config_listed l ≡ Ok c
given_so l c f r g t = rw (f, r, sym g, sym t) refl

pub refused_so : (l : Listed) (place : ℕ) (code : Code) (fault : ConfigFault) → first_refusal l.groups l.flows ≡ Some (place, code) → Some fault ≡ earlier l.fault (Some (Refused (slice_index_or l.places place 0) code)) → config_listed l ≡ Err fault
refused_so l place code fault r e = rw (r, sym e) refl
