-- Groups that are added in turn.
use Rattle.std.proofs.Common.{◌≡◌, ℕ, suc, ◌+◌, ◌<◌, ◌≤◌, eqb, Bool, true, false, not, cond, List, [], ◌∷◌, ◌++◌, length, Option, Some, None, refl, sym, ◌∙◌, ap, subst, append_assoc, arith}
use Rattle.std.specs.Prelude.{◌&&◌, ◌||◌, map, filter, nat_le, nat_lt}
use Rattle.std.specs.{List.AllByRecursion, List.list_all, List.flat_map, Option.option_map_or}
use Rattle.std.proofs.{lemmas.Bool.and_parts, lemmas.Bool.eq-eqb, lemmas.Bool.eqb-true, lemmas.Bool.not-true, lemmas.Bool.Decides.nat_tests}
use Rattle.std.proofs.lemmas.List.{append-nil, length-append, length-map}
use Rattle.of_wire.{specs.Refusals.first_of, proofs.FirstLemmas.first_false}
use Rattle.of_actions.specs.Rising.{is_ascending}
use Rattle.of_groups.specs.Groups.{any_named, any_watches, find_group, is_there, names, new_group, group_number, with_group}
use Rattle.of_groups.specs.Chains.{AreShort, chain, is_chain, is_long, names_next}
use Rattle.of_groups.specs.Faults.{add_fault, is_absent, is_bad_watch, is_not_one, naming_fault}
use Rattle.of_groups.specs.{declared.bucket.Bucket.Bucket, declared.group.Group.Group, declared.group_fault.GroupFault.GroupFault, Buckets.any_sends, Buckets.are_fit, Buckets.fresh}
use Rattle.of_groups.{specs.Sound.is_fit_group, proofs.ChainLaws.chain_falls, proofs.ChainLaws.long_chain, proofs.ChainLemmas.there_found, proofs.NameLemmas.named_at, proofs.NameLemmas.named_number}
use Rattle.of_table.specs.Tables.{Tables}
use Rattle.of_text.specs.Groups.{TextBucket, TextGroup, bucket_of, buckets_of, group_at, groups_at}
use Rattle.of_text.proofs.TextLemmas.{all_both}
use Rattle.of_messages.specs.CanonicalGroups.{as_written, canonical_buckets, group_add_bytes, group_add_fixed_part, has_numbers}
use Rattle.of_messages.specs.{declared.group_mod.GroupMod.TheVariants.Add, declared.message.Message.TheVariants.GroupMod as IsGroupMod}
use Rattle.of_messages.proofs.{BucketsWritten.buckets_short, BucketsWritten.length_front, GroupAgain.group_add_again}
use Rattle.of_build.specs.{Building.chunk_line, Listing.group_adds, Listing.in_turn, Listing.new_of, Listing.of_length}
use Rattle.of_switch.specs.{declared.event.Event.Event, declared.event.Event.TheVariants.Chunk, GroupMods.refused_for, State.State, Runs.Gives, Runs.happened}
use Rattle.of_laws.proofs.Present.{all_kept, all_present, chain_among, comes_in, find_both, found_in_all, length_kept, next_present, none_as_high, none_present, not_found, not_yet, passed_over, present, rising_parts, shorter_found, stands_between}
use Rattle.of_laws.proofs.{ByteLemmas.group_add_are_bytes, StreamMessages.built, StreamMessages.one_message, Chunks.Leads, Chunks.handles, Chunks.leads_first, Chunks.ready}
use Rattle.of_replay.proofs.EventRowsRead.{IsShown, Means, means_chunk}

-- ---- a group that may be sent

pub record IsSentGroup (all : List Group) (g : TextGroup) : Type 0 where
  pub number : g.head.id ≤ 0xffffff00
  pub numbers : list_all has_numbers (buckets_of g) ≡ true
  pub fit : is_fit_group (group_at 0 g) ≡ true
  pub whole : any_named (is_absent all) (group_at 0 g) ≡ false
  pub some : 0 < chain all g.head.id
  pub short : chain all g.head.id ≤ 3

-- groups that may be sent in turn
pub record AreSentGroups (gs : List TextGroup) : Type 0 where
  pub each : AllByRecursion (IsSentGroup (groups_at 0 gs)) gs
  pub rising : is_ascending group_number (groups_at 0 gs) ≡ true
  pub few : length gs ≤ 256
  pub short : AreShort (groups_at 0 gs)

record Fit (g : TextGroup) : Type 0 where
  buckets : are_fit (buckets_of g) ≡ true
  watch : is_bad_watch g.head.kind (buckets_of g) ≡ false
  one : is_not_one g.head.kind (buckets_of g) ≡ false

fit_parts : (all : List Group) (g : TextGroup) → IsSentGroup all g → Fit g
fit_parts all g s =
    let outer = and_parts (are_fit (buckets_of g) && not (is_bad_watch g.head.kind (buckets_of g))) (not (is_not_one g.head.kind (buckets_of g))) s.fit in
    let inner = and_parts (are_fit (buckets_of g)) (not (is_bad_watch g.head.kind (buckets_of g))) outer.0 in
    record { buckets = inner.0; watch = not-true _ inner.1; one = not-true _ outer.1 }

second_false : (a b : Bool) → (a || b) ≡ false → b ≡ false
second_false true b h = absurd cc
second_false false b h = h

-- ---- the groups that exist

abbrev pub len_in : List TextGroup → ℕ → ℕ
len_in gs m = chain (groups_at 0 gs) m

abbrev pub there : List TextGroup → ℕ → List TextGroup → List TextGroup → List Group
there gs n before rest = groups_at 0 (present (len_in gs) n before rest)

-- groups, of which this one is next
record Next (gs before rest : List TextGroup) (g : TextGroup) (n : ℕ) : Type 0 where
  parted : gs ≡ before ++ g ∷ rest
  all : AreSentGroups gs
  one : IsSentGroup (groups_at 0 gs) g
  length_is : len_in gs g.head.id ≡ n

comes : (gs before rest : List TextGroup) (g : TextGroup) (n : ℕ) → Next gs before rest g n → with_group (group_at 0 g) (there gs n before (g ∷ rest)) ≡ there gs n (before ++ g ∷ []) rest
comes gs before rest g n x =
    let rising : is_ascending group_number (groups_at 0 (before ++ g ∷ rest)) ≡ true = subst (λ (l : List TextGroup). is_ascending group_number (groups_at 0 l) ≡ true) x.parted x.all.rising in
    let parts = rising_parts before rest g rising in
    let low = all_kept (λ (h : TextGroup). h.head.id < g.head.id) (λ (h : TextGroup). nat_lt (len_in gs h.head.id) (suc n)) before parts.0 in
    let high = all_kept (λ (h : TextGroup). g.head.id < h.head.id) (λ (h : TextGroup). nat_lt (len_in gs h.head.id) n) rest parts.1 in
    ap (λ (l : List TextGroup). with_group (group_at 0 g) (groups_at 0 l)) (not_yet (len_in gs) n before rest g x.length_is)
    ∙ (stands_between g (filter (λ (h : TextGroup). nat_lt (len_in gs h.head.id) (suc n)) before) (filter (λ (h : TextGroup). nat_lt (len_in gs h.head.id) n) rest) low high
    ∙ ap (groups_at 0) (sym (comes_in (len_in gs) n before rest g x.length_is)))

none_before : (gs before rest : List TextGroup) (g : TextGroup) (n : ℕ) → Next gs before rest g n → find_group g.head.id (groups_at 0 before) ≡ None
none_before gs before rest g n x =
    let rising : is_ascending group_number (groups_at 0 (before ++ g ∷ rest)) ≡ true = subst (λ (l : List TextGroup). is_ascending group_number (groups_at 0 l) ≡ true) x.parted x.all.rising in
    none_as_high g before (rising_parts before rest g rising).0

is_new : (gs before rest : List TextGroup) (g : TextGroup) (n : ℕ) → Next gs before rest g n → is_there g.head.id (there gs n before (g ∷ rest)) ≡ false
is_new gs before rest g n x =
    let none = not_found (len_in gs) n before rest g x.length_is (none_before gs before rest g n x) in
    there_found g.head.id (there gs n before (g ∷ rest)) ∙ ap (λ (o : Option Group). option_map_or (λ (h : Group). true) o false) none

has_room : (gs before rest : List TextGroup) (g : TextGroup) (n : ℕ) → Next gs before rest g n → nat_le 256 (length (there gs n before (g ∷ rest))) ≡ false
has_room gs before rest g n x =
    let front = filter (λ (h : TextGroup). nat_lt (len_in gs h.head.id) (suc n)) before in
    let back = filter (λ (h : TextGroup). nat_lt (len_in gs h.head.id) n) rest in
    let a = length_kept (λ (h : TextGroup). nat_lt (len_in gs h.head.id) (suc n)) before in
    let b = length_kept (λ (h : TextGroup). nat_lt (len_in gs h.head.id) n) rest in
    let size : length (there gs n before (g ∷ rest)) ≡ length (front ++ back) = ap (λ (l : List TextGroup). length (groups_at 0 l)) (not_yet (len_in gs) n before rest g x.length_is) ∙ length-map (front ++ back) (group_at 0) in
    let both = length-append front back in
    let whole : length gs ≡ length (before ++ g ∷ rest) = ap length x.parted in
    let parts = length-append before (g ∷ rest) in
    let few = x.all.few in
    let low : length (there gs n before (g ∷ rest)) < 256 = omega (arith, size, both, a, b, whole, parts, few) in
    grind (arith, nat_tests, low)

found_here : (gs before rest : List TextGroup) (g : TextGroup) (n : ℕ) → Next gs before rest g n → find_group g.head.id (groups_at 0 gs) ≡ Some (group_at 0 g)
found_here gs before rest g n x =
    let same : eqb g.head.id g.head.id ≡ true = eq-eqb g.head.id g.head.id refl in
    ap (λ (l : List TextGroup). find_group g.head.id (groups_at 0 l)) x.parted
    ∙ (find_both g.head.id before (g ∷ rest) ∙ rw (none_before gs before rest g n x, same) refl)

-- all, with the group before those that are left
whole_list : (gs before rest : List TextGroup) (g : TextGroup) (n : ℕ) → Next gs before rest g n → (before ++ g ∷ []) ++ rest ≡ gs
whole_list gs before rest g n x = append_assoc before (g ∷ []) rest ∙ sym x.parted

absent_or : (b : Bool) → not b ≡ true → b ≡ true → ⊥
absent_or true h k = absurd cc
absent_or false h k = absurd cc

is_whole : (gs before rest : List TextGroup) (g : TextGroup) (n : ℕ) → Next gs before rest g n → any_named (is_absent (there gs n (before ++ g ∷ []) rest)) (group_at 0 g) ≡ false
is_whole gs before rest g n x = by_test (any_named (is_absent (there gs n (before ++ g ∷ []) rest)) (group_at 0 g)) refl
  where
    known : (m : ℕ) → names m (group_at 0 g) ≡ true → (b : Bool) → is_there m (groups_at 0 gs) ≡ b → b ≡ true
    known m named true e = refl
    known m named false e =
        let missing : is_absent (groups_at 0 gs) m ≡ true = ap not e in
        let bad : any_named (is_absent (groups_at 0 gs)) (group_at 0 g) ≡ true = named_at (is_absent (groups_at 0 gs)) m (group_at 0 g) named missing in
        absurd (let good = x.one.whole in cc)

    by_test : (b : Bool) → any_named (is_absent (there gs n (before ++ g ∷ []) rest)) (group_at 0 g) ≡ b → b ≡ false
    by_test false e = refl
    by_test true e =
        let m = named_number (is_absent (there gs n (before ++ g ∷ []) rest)) (group_at 0 g) e in
        let among : is_there m.0 (groups_at 0 gs) ≡ true = known m.0 m.1 (is_there m.0 (groups_at 0 gs)) refl in
        let next : names_next (groups_at 0 gs) g.head.id m.0 ≡ true = ap (λ (o : Option Group). option_map_or (names m.0) o false) (found_here gs before rest g n x) ∙ m.1 in
        let falls = chain_falls (groups_at 0 gs) g.head.id m.0 x.all.short next in
        let less : len_in gs m.0 < n = omega (arith, falls, x.length_is) in
        let same : find_group m.0 (there gs n (before ++ g ∷ []) rest) ≡ find_group m.0 (groups_at 0 gs) = shorter_found (len_in gs) n m.0 (before ++ g ∷ []) rest less ∙ ap (λ (l : List TextGroup). find_group m.0 (groups_at 0 l)) (whole_list gs before rest g n x) in
        let here : is_there m.0 (there gs n (before ++ g ∷ []) rest) ≡ true =
        there_found m.0 (there gs n (before ++ g ∷ []) rest) ∙ (ap (λ (o : Option Group). option_map_or (λ (h : Group). true) o false) same ∙ (sym (there_found m.0 (groups_at 0 gs)) ∙ among)) in
        absurd (absent_or (is_there m.0 (there gs n (before ++ g ∷ []) rest)) m.2 here)

not_long : (gs before rest : List TextGroup) (g : TextGroup) (n : ℕ) → Next gs before rest g n → is_long (there gs n (before ++ g ∷ []) rest) ≡ false
not_long gs before rest g n x = by_test (is_long (there gs n (before ++ g ∷ []) rest)) refl
  where
    by_test : (b : Bool) → is_long (there gs n (before ++ g ∷ []) rest) ≡ b → b ≡ false
    by_test false e = refl
    by_test true e =
        let l = long_chain (there gs n (before ++ g ∷ []) rest) e in
        let chained : is_chain (groups_at 0 gs) l.0 l.1 ≡ true =
        chain_among (there gs n (before ++ g ∷ []) rest) (groups_at 0 gs)
        (λ m h k. ap (λ (us : List TextGroup). find_group m (groups_at 0 us)) (sym (whole_list gs before rest g n x)) ∙ found_in_all (len_in gs) n m (before ++ g ∷ []) rest h k) l.0 l.1 l.2 in
        let short = x.all.short l.0 l.1 chained in
        let long = l.3 in
        absurd (omega (arith, short, long))

no_fault : (gs before rest : List TextGroup) (g : TextGroup) (n : ℕ) → Next gs before rest g n → add_fault (group_at 0 g) (there gs n before (g ∷ rest)) ≡ None
no_fault gs before rest g n x =
    let fit = fit_parts (groups_at 0 gs) g x.one in
    let whole = is_whole gs before rest g n x in
    let after = there gs n (before ++ g ∷ []) rest in
    let sent : any_sends (is_absent after) (buckets_of g) ≡ false = first_false (any_sends (is_absent after) (buckets_of g)) (any_watches (is_absent after) g.head.kind (buckets_of g)) whole in
    let watched : any_watches (is_absent after) g.head.kind (buckets_of g) ≡ false = second_false (any_sends (is_absent after) (buckets_of g)) (any_watches (is_absent after) g.head.kind (buckets_of g)) whole in
    let named : naming_fault (group_at 0 g) (with_group (group_at 0 g) (there gs n before (g ∷ rest))) ≡ None =
    ap (naming_fault (group_at 0 g)) (comes gs before rest g n x) ∙ rw (sent, watched, not_long gs before rest g n x) refl in
    rw (fit.watch, fit.one, is_new gs before rest g n x, has_room gs before rest g n x) named

-- ---- its GROUP_MOD is handled

fresh_twice : (bs : List TextBucket) → map fresh (map fresh (map bucket_of bs)) ≡ map bucket_of bs
fresh_twice [] = refl
fresh_twice (b ∷ bs) = ap (λ (x : List Bucket). bucket_of b ∷ x) (fresh_twice bs)

as_new : (g : TextGroup) → new_group g.head.id g.head.kind (as_written (new_of g)).buckets 0 ≡ group_at 0 g
as_new g = ap (λ (bs : List Bucket). record { id = g.head.id; kind = g.head.kind; buckets = bs; packets = 0; bytes = 0; created = 0 }) (fresh_twice g.buckets)

group_size : (g : TextGroup) → are_fit (buckets_of g) ≡ true → length (group_add_fixed_part (new_of g) ++ canonical_buckets (buckets_of g)) ≤ 24840
group_size g fit = omega (arith, length_front (new_of g), length-append (group_add_fixed_part (new_of g)) (canonical_buckets (buckets_of g)), buckets_short (buckets_of g) fit)

handled_group : (dpid xid : ℕ) (all groups : List Group) (ts : Tables) (g : TextGroup) → ts.latest ≡ 0 → IsSentGroup all g → add_fault (group_at 0 g) groups ≡ None
    → happened (Chunk (group_add_bytes xid (new_of g))) (ready (built dpid groups ts)) ≡ record { report = Gives []; state = ready (built dpid (with_group (group_at 0 g) groups) ts) }
handled_group dpid xid all groups ts g now s none =
    let fit = fit_parts all g s in
    let new : new_group g.head.id g.head.kind (as_written (new_of g)).buckets ts.latest ≡ group_at 0 g = ap (λ (n : ℕ). new_group g.head.id g.head.kind (as_written (new_of g)).buckets n) now ∙ as_new g in
    let refused : first_of (refused_for (add_fault (new_group g.head.id g.head.kind (as_written (new_of g)).buckets ts.latest) groups)) ≡ None = ap (λ (h : Group). first_of (refused_for (add_fault h groups))) new ∙ ap (λ (f : Option GroupFault). first_of (refused_for f)) none in
    let size = group_size g fit.buckets in
    handles (group_add_bytes xid (new_of g)) (built dpid groups ts) (built dpid (with_group (group_at 0 g) groups) ts) (IsGroupMod (Add (as_written (new_of g))))
    (one_message 15 xid (group_add_fixed_part (new_of g) ++ canonical_buckets (buckets_of g)) (omega (arith, size)))
    refl
    (group_add_again xid (new_of g) s.number s.numbers fit.buckets)
    refused
    (ap (λ (h : Group). record { effects = []; core = built dpid (with_group h groups) ts }) new)

shown_group : (xid : ℕ) (all : List Group) (g : TextGroup) → IsSentGroup all g → IsShown (group_add_bytes xid (new_of g))
shown_group xid all g s =
    let fit = fit_parts all g s in
    let size = group_size g fit.buckets in
    record { each = group_add_are_bytes xid (new_of g) fit.buckets; some = omega arith; few = omega (arith, size) }

-- ---- the events

abbrev pub group_events : ℕ → List TextGroup → List Event → List Event
group_events xid [] more = more
group_events xid (g ∷ gs) more = Chunk (group_add_bytes xid (new_of g)) ∷ group_events (xid + 1) gs more

abbrev of_len : List TextGroup → ℕ → TextGroup → Bool
of_len gs n g = eqb (len_in gs g.head.id) n

-- the groups of one length, and then others
turn_leads : (dpid : ℕ) (gs : List TextGroup) (ts : Tables) (n : ℕ) (before rest others : List TextGroup) (more : List Event) (t : State) → ts.latest ≡ 0 → AreSentGroups gs → gs ≡ before ++ rest
    → AllByRecursion (IsSentGroup (groups_at 0 gs)) rest
    → ((x : ℕ) → Leads (group_events x others more) (ready (built dpid (there gs n gs []) ts)) t)
    → (xid : ℕ) → Leads (group_events xid (filter (of_len gs n) rest ++ others) more) (ready (built dpid (there gs n before rest) ts)) t
turn_leads dpid gs ts n before [] others more t now all parted sent later xid =
    let whole : gs ≡ before = parted ∙ append-nil before in
    subst (λ (b : List TextGroup). Leads (group_events xid others more) (ready (built dpid (there gs n b []) ts)) t) whole (later xid)
turn_leads dpid gs ts n before (g ∷ rest) others more t now all parted sent later xid =
    let whole : gs ≡ (before ++ g ∷ []) ++ rest = parted ∙ sym (append_assoc before (g ∷ []) rest) in
    by_test (of_len gs n g) refl (turn_leads dpid gs ts n (before ++ g ∷ []) rest others more t now all whole sent.1 later)
  where
    by_test : (b : Bool) → of_len gs n g ≡ b
        → ((x : ℕ) → Leads (group_events x (filter (of_len gs n) rest ++ others) more) (ready (built dpid (there gs n (before ++ g ∷ []) rest) ts)) t)
        → Leads (group_events xid (cond b (g ∷ filter (of_len gs n) rest) (filter (of_len gs n) rest) ++ others) more) (ready (built dpid (there gs n before (g ∷ rest)) ts)) t
    by_test true e next =
        let x : Next gs before rest g n = record { parted = parted; all = all; one = sent.0; length_is = eqb-true _ _ e } in
        let first = handled_group dpid xid (groups_at 0 gs) (there gs n before (g ∷ rest)) ts g now sent.0 (no_fault gs before rest g n x) in
        let after : State → Type 0 = λ (u : State). happened (Chunk (group_add_bytes xid (new_of g))) (ready (built dpid (there gs n before (g ∷ rest)) ts)) ≡ record { report = Gives []; state = u } in
        leads_first (Chunk (group_add_bytes xid (new_of g))) (group_events (xid + 1) (filter (of_len gs n) rest ++ others) more) (ready (built dpid (there gs n before (g ∷ rest)) ts)) (ready (built dpid (there gs n (before ++ g ∷ []) rest) ts)) t
        (subst (λ (hs : List Group). after (ready (built dpid hs ts))) (comes gs before rest g n x) first) (next (xid + 1))
    by_test false e next = subst (λ (hs : List TextGroup). Leads (group_events xid (filter (of_len gs n) rest ++ others) more) (ready (built dpid (groups_at 0 hs) ts)) t) (sym (passed_over (len_in gs) n before rest g e)) (next xid)

each_short : (all : List Group) (gs : List TextGroup) → AllByRecursion (IsSentGroup all) gs → AllByRecursion (λ (g : TextGroup). chain all g.head.id ≤ 3) gs
each_short all [] h = tt
each_short all (g ∷ gs) h = (h.0.short, each_short all gs h.1)

each_some : (all : List Group) (gs : List TextGroup) → AllByRecursion (IsSentGroup all) gs → AllByRecursion (λ (g : TextGroup). 0 < chain all g.head.id) gs
each_some all [] h = tt
each_some all (g ∷ gs) h = (h.0.some, each_some all gs h.1)

-- ALL GROUPS are added
pub groups_lead : (dpid : ℕ) (gs : List TextGroup) (ts : Tables) (more : List Event) (t : State) → ts.latest ≡ 0 → AreSentGroups gs
    → Leads more (ready (built dpid (groups_at 0 gs) ts)) t
    → (xid : ℕ) → Leads (group_events xid (in_turn gs) more) (ready (built dpid [] ts)) t
groups_lead dpid gs ts more t now all rest xid =
    let length_of : ℕ → List TextGroup → Type 0 = λ n hs. (x : ℕ) → Leads (group_events x hs more) (ready (built dpid (there gs n [] gs) ts)) t in
    let ended : (x : ℕ) → Leads (group_events x [] more) (ready (built dpid (there gs 3 gs []) ts)) t = λ x.
    subst (λ (hs : List TextGroup). Leads more (ready (built dpid (groups_at 0 hs) ts)) t) (sym (all_present (len_in gs) 3 gs (each_short (groups_at 0 gs) gs all.each))) rest in
    let third : length_of 3 (of_length gs 3 gs) = λ x.
    subst (λ (hs : List TextGroup). Leads (group_events x hs more) (ready (built dpid (there gs 3 [] gs) ts)) t) (append-nil (of_length gs 3 gs))
    (turn_leads dpid gs ts 3 [] gs [] more t now all refl all.each ended x) in
    let second : length_of 2 (of_length gs 2 gs ++ of_length gs 3 gs) = λ x. turn_leads dpid gs ts 2 [] gs (of_length gs 3 gs) more t now all refl all.each (over 2 (of_length gs 3 gs) third) x in
    let first : length_of 1 (in_turn gs) = λ x. turn_leads dpid gs ts 1 [] gs (of_length gs 2 gs ++ of_length gs 3 gs) more t now all refl all.each (over 1 (of_length gs 2 gs ++ of_length gs 3 gs) second) x in
    subst (λ (hs : List TextGroup). Leads (group_events xid (in_turn gs) more) (ready (built dpid (groups_at 0 hs) ts)) t) (none_present (len_in gs) gs (each_some (groups_at 0 gs) gs all.each)) (first xid)
  where
    over : (n : ℕ) (hs : List TextGroup) → ((x : ℕ) → Leads (group_events x hs more) (ready (built dpid (there gs (suc n) [] gs) ts)) t) → (x : ℕ) → Leads (group_events x hs more) (ready (built dpid (there gs n gs []) ts)) t
    over n hs later x = subst (λ (us : List TextGroup). Leads (group_events x hs more) (ready (built dpid (groups_at 0 us) ts)) t) (sym (next_present (len_in gs) n gs)) (later x)

-- ---- their rows

shown_all : (all : List Group) (xid : ℕ) (gs : List TextGroup) (rest : List ℕ) (more : List Event) → AllByRecursion (IsSentGroup all) gs → Means rest more → Means (flat_map chunk_line (group_adds xid gs) ++ rest) (group_events xid gs more)
shown_all all xid [] rest more sent others = others
shown_all all xid (g ∷ gs) rest more sent others =
    subst (λ (file : List ℕ). Means file (group_events xid (g ∷ gs) more)) (sym (append_assoc (chunk_line (group_add_bytes xid (new_of g))) (flat_map chunk_line (group_adds (xid + 1) gs)) rest))
    (means_chunk (group_add_bytes xid (new_of g)) (flat_map chunk_line (group_adds (xid + 1) gs) ++ rest) (group_events (xid + 1) gs more) (shown_group xid all g sent.0) (shown_all all (xid + 1) gs rest more sent.1 others))

pub groups_shown : (xid : ℕ) (gs : List TextGroup) (rest : List ℕ) (more : List Event) → AreSentGroups gs → Means rest more → Means (flat_map chunk_line (group_adds xid (in_turn gs)) ++ rest) (group_events xid (in_turn gs) more)
groups_shown xid gs rest more all others =
    let kept : (n : ℕ) → AllByRecursion (IsSentGroup (groups_at 0 gs)) (of_length gs n gs) = λ n. all_kept (IsSentGroup (groups_at 0 gs)) (of_len gs n) gs all.each in
    let each : AllByRecursion (IsSentGroup (groups_at 0 gs)) (in_turn gs) =
    all_both (IsSentGroup (groups_at 0 gs)) (of_length gs 1 gs) (of_length gs 2 gs ++ of_length gs 3 gs) (kept 1) (all_both (IsSentGroup (groups_at 0 gs)) (of_length gs 2 gs) (of_length gs 3 gs) (kept 2) (kept 3)) in
    shown_all (groups_at 0 gs) xid (in_turn gs) rest more each others
