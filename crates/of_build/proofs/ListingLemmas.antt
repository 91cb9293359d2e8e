-- The messages that build a configuration, flow by flow, table by table and group by group.
use Rattle.std.proofs.Common.{◌≡◌, ℕ, ◌+◌, ◌<◌, ◌≤◌, Bool, true, false, cond, List, [], ◌∷◌, ◌++◌, length, drop, get_or, refl, sym, ◌∙◌, ap, subst, append_assoc, add-one, drop-cons, arith}
use Rattle.std.specs.{Prelude.filter, Prelude.map, Prelude.slice_index_or, List.AllByRecursion, List.list_all}
use Rattle.std.proofs.lemmas.List.{length-append, length-map, get_or-map}
use Rattle.of_messages.specs.{Written.flow_mod_bytes, CanonicalGroups.group_add_bytes}
use Rattle.of_groups.specs.{declared.group.Group.Group, Chains.chain, Sound.is_fit_group}
use Rattle.of_text.specs.{declared.flow.FlowText.FlowText, declared.group.GroupText.GroupText, Groups.TextGroup, Groups.group_at, Groups.groups_at, Flows.Flow, Kept.IsEntry}
use Rattle.of_text.{specs.Views.view, specs.Views.view_flows, specs.Views.view_group, specs.Views.view_groups, specs.Configs.all_flows, proofs.WriteLemmas.next_flow}
use Rattle.of_build.specs.Listing.{add_of, flow_adds, group_adds, new_of, those}

-- ---- flows

pub entries_next : (table : ℕ) (fs : List FlowText) (i : ℕ) (x : FlowText) → i < length fs → x ≡ get_or fs i x → AllByRecursion (IsEntry table) (view_flows (drop i fs)) → IsEntry table (view x) × AllByRecursion (IsEntry table) (view_flows (drop (i + 1) fs))
entries_next table fs i x lt is h = let k : AllByRecursion (IsEntry table) (view x ∷ view_flows (drop (i + 1) fs)) = subst (AllByRecursion (IsEntry table)) (next_flow fs i x lt is) h in (k.0, k.1)

pub adds_next : (fs : List FlowText) (i xid : ℕ) (x : FlowText) (old new all : List (List ℕ)) → i < length fs → x ≡ get_or fs i x → new ≡ old ++ flow_mod_bytes xid (add_of (view x)) ∷ [] → old ++ flow_adds xid (view_flows (drop i fs)) ≡ all
    → new ++ flow_adds (xid + 1) (view_flows (drop (i + 1) fs)) ≡ all
adds_next fs i xid x old new all lt is n h =
    let one : List (List ℕ) = flow_mod_bytes xid (add_of (view x)) ∷ [] in
    let rest = flow_adds (xid + 1) (view_flows (drop (i + 1) fs)) in
    ap (λ (o : List (List ℕ)). o ++ rest) n
    ∙ (append_assoc old one rest
    ∙ (ap (λ (o : List (List ℕ)). old ++ o) (sym (ap (flow_adds xid) (next_flow fs i x lt is)))
    ∙ h))

both_adds : (xid : ℕ) (a b : List Flow) → flow_adds xid (a ++ b) ≡ flow_adds xid a ++ flow_adds (xid + length a) b
both_adds xid [] b = ap (λ (n : ℕ). flow_adds n b) (omega arith)
both_adds xid (f ∷ fs) b =
    let later : (xid + 1) + length fs ≡ xid + length (f ∷ fs) = omega arith in
    ap (λ (o : List (List ℕ)). flow_mod_bytes xid (add_of f) ∷ o) (both_adds (xid + 1) fs b ∙ ap (λ (n : ℕ). flow_adds (xid + 1) fs ++ flow_adds n b) later)

next_table : (ts : List (List Flow)) (k : ℕ) → k < length ts → all_flows (drop k ts) ≡ slice_index_or ts k [] ++ all_flows (drop (k + 1) ts)
next_table ts k lt = let parts : drop k ts ≡ get_or ts k [] ∷ drop (k + 1) ts = rw (add-one, drop-cons ts k []) refl in ap all_flows parts

pub table_next : (ts : List (List Flow)) (k xid next size : ℕ) (flows : List Flow) (old new all : List (List ℕ)) → k < length ts → flows ≡ slice_index_or ts k [] → length flows ≡ size → next ≡ xid + size → new ≡ old ++ flow_adds xid flows
    → old ++ flow_adds xid (all_flows (drop k ts)) ≡ all → new ++ flow_adds next (all_flows (drop (k + 1) ts)) ≡ all
table_next ts k xid next size flows old new all lt f s x n h =
    let rest = all_flows (drop (k + 1) ts) in
    let later : next ≡ xid + length flows = omega (arith, x, s) in
    ap (λ (o : List (List ℕ)). o ++ flow_adds next rest) n
    ∙ (append_assoc old (flow_adds xid flows) (flow_adds next rest)
    ∙ (ap (λ (o : List (List ℕ)). old ++ o)
    (ap (λ (m : ℕ). flow_adds xid flows ++ flow_adds m rest) later
    ∙ (sym (both_adds xid flows rest)
    ∙ ap (flow_adds xid) (ap (λ (fs : List Flow). fs ++ rest) f ∙ sym (next_table ts k lt))))
    ∙ h))

-- ---- groups

both_groups : (xid : ℕ) (a b : List TextGroup) → group_adds xid (a ++ b) ≡ group_adds xid a ++ group_adds (xid + length a) b
both_groups xid [] b = ap (λ (n : ℕ). group_adds n b) (omega arith)
both_groups xid (g ∷ gs) b =
    let later : (xid + 1) + length gs ≡ xid + length (g ∷ gs) = omega arith in
    ap (λ (o : List (List ℕ)). group_add_bytes xid (new_of g) ∷ o) (both_groups (xid + 1) gs b ∙ ap (λ (n : ℕ). group_adds (xid + 1) gs ++ group_adds n b) later)

these_first : (p : TextGroup → Bool) (g : TextGroup) (gs : List TextGroup) → filter p (g ∷ gs) ≡ those (p g) g ++ filter p gs
these_first p g gs = by_test (p g)
  where
    by_test : (b : Bool) → cond b (g ∷ filter p gs) (filter p gs) ≡ those b g ++ filter p gs
    by_test true = refl
    by_test false = refl

-- the groups that are left, the transaction id and the messages so far
pub record Adding (p : TextGroup → Bool) (xid : ℕ) (all left : List TextGroup) (start out : List (List ℕ)) (next : ℕ) : Type 0 where
  pub fit : list_all is_fit_group (groups_at 0 left) ≡ true
  pub count : next + length (filter p left) ≡ xid + length (filter p all)
  pub most : next + length left ≤ xid + length all
  pub messages : out ++ group_adds next (filter p left) ≡ start ++ group_adds xid (filter p all)

pub adding_start : (p : TextGroup → Bool) (xid : ℕ) (all : List TextGroup) (start : List (List ℕ)) → list_all is_fit_group (groups_at 0 all) ≡ true → Adding p xid all all start start xid
adding_start p xid all start f = record { fit = f; count = refl; most = omega arith; messages = refl }

few_those : (b : Bool) (g : TextGroup) → length (those b g) ≤ 1
few_those true g = omega arith
few_those false g = omega arith

pub adding_more : (p : TextGroup → Bool) (xid : ℕ) (all left rest : List TextGroup) (start out new : List (List ℕ)) (next later : ℕ) (g : TextGroup) (b : Bool) → left ≡ g ∷ rest → b ≡ p g → list_all is_fit_group (groups_at 0 rest) ≡ true
    → new ≡ out ++ group_adds next (those b g) → later ≡ next + length (those b g) → Adding p xid all left start out next → Adding p xid all rest start new later
adding_more p xid all left rest start out new next later g b e t f n l a =
    let parts : filter p left ≡ those b g ++ filter p rest = ap (filter p) e ∙ (these_first p g rest ∙ ap (λ (c : Bool). those c g ++ filter p rest) (sym t)) in
    let size = length-append (those b g) (filter p rest) in
    record {
      fit = f;
      count = omega (arith, l, a.count, ap length parts, size);
      most = omega (arith, l, few_those b g, a.most, ap length e);
      messages =
          ap (λ (o : List (List ℕ)). o ++ group_adds later (filter p rest)) n
          ∙ (append_assoc out (group_adds next (those b g)) (group_adds later (filter p rest))
          ∙ (ap (λ (o : List (List ℕ)). out ++ o) (ap (λ (m : ℕ). group_adds next (those b g) ++ group_adds m (filter p rest)) l ∙ (sym (both_groups next (those b g) (filter p rest)) ∙ ap (group_adds next) (sym parts)))
          ∙ a.messages));
    }

-- one pass after the other
pub three_passes : (a b c : List TextGroup) (start one two three : List (List ℕ)) (x y z : ℕ)
    → one ≡ start ++ group_adds 1 a → x ≡ 1 + length a → two ≡ one ++ group_adds x b → y ≡ x + length b → three ≡ two ++ group_adds y c → z ≡ y + length c
    → (three ≡ start ++ group_adds 1 (a ++ (b ++ c))) × (z ≡ 1 + length (a ++ (b ++ c)))
three_passes a b c start one two three x y z h1 n1 h2 n2 h3 n3 =
    let last : group_adds x b ++ group_adds y c ≡ group_adds x (b ++ c) = ap (λ (m : ℕ). group_adds x b ++ group_adds m c) n2 ∙ sym (both_groups x b c) in
    let all : group_adds 1 a ++ group_adds x (b ++ c) ≡ group_adds 1 (a ++ (b ++ c)) = ap (λ (m : ℕ). group_adds 1 a ++ group_adds m (b ++ c)) n1 ∙ sym (both_groups 1 a (b ++ c)) in (
      h3
          ∙ (ap (λ (o : List (List ℕ)). o ++ group_adds y c) h2
          ∙ (append_assoc one (group_adds x b) (group_adds y c)
          ∙ (ap (λ (o : List (List ℕ)). one ++ o) last
          ∙ (ap (λ (o : List (List ℕ)). o ++ group_adds x (b ++ c)) h1
          ∙ (append_assoc start (group_adds 1 a) (group_adds x (b ++ c)) ∙ ap (λ (o : List (List ℕ)). start ++ o) all))))),
      omega (arith, n1, n2, n3, length-append a (b ++ c), length-append b c),
    )

pub next_length : (all : List Group) (gs : List GroupText) (lengths : List ℕ) (i n e : ℕ) (d : GroupText) → i < length gs → d ≡ get_or gs i d → n ≡ get_or lengths i e
    → lengths ≡ map (λ (g : Group). chain all g.id) (groups_at 0 (view_groups gs)) → n ≡ chain all d.head.id
next_length all gs lengths i n e d lt is ni ls =
    let within : i < length (groups_at 0 (view_groups gs)) = omega (arith, lt, length-map (view_groups gs) (group_at 0), length-map gs view_group) in
    let inside : i < length (view_groups gs) = omega (arith, lt, length-map gs view_group) in
    ni
    ∙ (ap (λ (l : List ℕ). get_or l i e) ls
    ∙ (get_or-map (λ (g : Group). chain all g.id) (groups_at 0 (view_groups gs)) i (group_at 0 (view_group d)) e within
    ∙ (ap (λ (g : Group). chain all g.id) (get_or-map (group_at 0) (view_groups gs) i (view_group d) (group_at 0 (view_group d)) inside)
    ∙ (ap (λ (g : TextGroup). chain all g.head.id) (get_or-map view_group gs i d (view_group d) lt)
    ∙ ap (λ (g : GroupText). chain all g.head.id) (sym is)))))
