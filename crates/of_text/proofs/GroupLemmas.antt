-- The groups of a configuration are ones that a switch may have, and those that it may have are in order.
use Rattle.std.proofs.Common.{◌≡◌, ℕ, ◌+◌, ◌<◌, ◌≤◌, Bool, true, false, cond, List, [], ◌∷◌, ◌++◌, length, take, Option, Some, None, refl, sym, ◌∙◌, ap, append_assoc, arith}
use Rattle.std.specs.Prelude.{map, not, ◌&&◌, nat_lt, nat_le}
use Rattle.std.proofs.lemmas.Bool.{and_parts, and_from, ltb-false, ltb-true, lt-ltb, le-leb}
use Rattle.std.{specs.List.AllByRecursion, specs.List.flat_map, specs.List.list_all, specs.List.list_any, proofs.lemmas.Bool.Decides.nat_tests}
use Rattle.std.proofs.lemmas.List.{take_all, length-map}
use Rattle.of_wire.{specs.declared.code.Code.Code, specs.Refusals.first_of, specs.Refusals.refusal, proofs.FirstLemmas.none_applies}
use Rattle.of_actions.specs.{declared.action.Action.Action, Rising.is_ascending}
use Rattle.of_groups.specs.{declared.group.Group.Group, Buckets.any_sends, Buckets.are_fit, Buckets.is_fit, Groups.group_number, Groups.any_watches, Chains.chain, Chains.leads}
use Rattle.of_groups.{specs.Faults.is_absent, specs.Faults.is_bad_watch, specs.Faults.is_not_one, specs.Sound.is_fit_group, specs.Sound.is_whole, proofs.ChainLemmas.not_long}
use Rattle.of_lines.specs.{declared.order.Place.Place, declared.order.Place.TheVariants.InGroup, declared.order.Place.TheVariants.InBucket, declared.row.Row.Row, Rows.Fits}
use Rattle.of_lines.specs.{Order.start_place, Order.following, Order.following_all, Reading.◌>>=◌}
use Rattle.of_lines.specs.declared.row.Row.TheVariants as rows
use Rattle.of_text.specs.Groups.{TextBucket, TextGroup, bucket_rows, group_rows, rows_of_groups, bucket_of, buckets_of, group_at, groups_at}
use Rattle.of_text.specs.Refusals.{list_refusals, buckets_refusals, group_refusals, counted_as, there_from, all_there, naming_refusals}
use Rattle.of_text.proofs.ConfigLemmas.{both_none, parts_of, rows_from, groups_stand, each_whole}
use Rattle.of_text.specs.{Flows.Flow, Flows.text_rows, Texts.AreRows, First.refused_group, Kept.AreKeptGroups, Kept.IsKeptFlow, Configs.Configuration, Configs.IsConfig}
use Rattle.of_text.proofs.{TextLemmas.all_front, TextLemmas.all_back, GatherLemmas.in_group, GatherLemmas.next_in, GatherLemmas.bind_cond}
use Rattle.of_text.proofs.EntryLemmas.{none_next, none_both, none_each, list_served}
use Rattle.of_text.proofs.KeptLemmas as flows

-- ---- none is refused

abbrev Passed : List Group → ℕ → List TextGroup → Type 0
Passed there place [] = Unit {0}
Passed there place (g ∷ gs) = (first_of (group_refusals place g) ≡ None) × (first_of (naming_refusals there g) ≡ None) × Passed there (place + 1) gs

passed : (there : List Group) (place : ℕ) (gs : List TextGroup) → refused_group there place gs ≡ None → Passed there place gs
passed there place [] h = tt
passed there place (g ∷ gs) h =
    let parts = both_none (λ code. (place, code)) (first_of (group_refusals place g ++ naming_refusals there g)) (refused_group there (place + 1) gs) h in
    let both = none_both (group_refusals place g) (naming_refusals there g) parts.0 in
    (both.0, both.1, passed there (place + 1) gs parts.1)

counted_same : (place : ℕ) (g : TextGroup) → first_of (group_refusals place g) ≡ None → counted_as place g ≡ group_at 0 g
counted_same place g h = rw h refl

there_same : (there : List Group) (place : ℕ) (gs : List TextGroup) → Passed there place gs → there_from place gs ≡ groups_at 0 gs
there_same there place [] h = refl
there_same there place (g ∷ gs) h = rw (counted_same place g h.0, there_same there (place + 1) gs h.2) refl

-- ---- a group alone

record Alone (place : ℕ) (g : TextGroup) : Type 0 where
  pub number : g.head.id ≤ 0xffffff00
  pub buckets : first_of (buckets_refusals g.buckets) ≡ None
  pub watch : is_bad_watch g.head.kind (buckets_of g) ≡ false
  pub one : is_not_one g.head.kind (buckets_of g) ≡ false
  pub room : place < 256

fewer : (n : ℕ) → nat_le 256 n ≡ false → n < 256
fewer n h = grind (arith, nat_tests)

alone : (place : ℕ) (g : TextGroup) → first_of (group_refusals place g) ≡ None → Alone place g
unfolding group_refusals
alone place g h =
    let behind : List (Bool × Code) = (is_bad_watch g.head.kind (buckets_of g), refusal 6 13) ∷ (is_not_one g.head.kind (buckets_of g), refusal 6 1) ∷ (nat_le 256 place, refusal 6 3) ∷ [] in
    let first = none_next (nat_lt 0xffffff00 g.head.id, refusal 6 1) (buckets_refusals g.buckets ++ behind) h in
    let parts = none_both (buckets_refusals g.buckets) behind first.1 in
    let others = none_applies behind parts.1 in
    record { number = ltb-false 0xffffff00 g.head.id first.0; buckets = parts.0; watch = others.0; one = others.1.0; room = fewer place others.1.1.0 }

each_fits : (bs : List TextBucket) → AllByRecursion Fits (flat_map bucket_rows bs) → AllByRecursion (λ (b : TextBucket). first_of (list_refusals b.actions) ≡ None) bs → list_all is_fit (map bucket_of bs) ≡ true
each_fits [] k h = refl
each_fits (b ∷ bs) k h =
    let mine : AllByRecursion Fits (bucket_rows b) = all_front Fits (bucket_rows b) (flat_map bucket_rows bs) k in
    and_from _ _ (list_served b.actions mine.1 h.0) (each_fits bs (all_back Fits (bucket_rows b) (flat_map bucket_rows bs) k) h.1)

pub buckets_fit : (bs : List TextBucket) → AllByRecursion Fits (flat_map bucket_rows bs) → first_of (buckets_refusals bs) ≡ None → are_fit (map bucket_of bs) ≡ true
unfolding buckets_refusals
buckets_fit bs k h =
    let parts = none_both (flat_map (λ (b : TextBucket). list_refusals b.actions) (take 16 bs)) _ h in
    let few : length bs ≤ 16 = ltb-false 16 (length bs) (none_next _ [] parts.1).0 in
    let all : first_of (flat_map (λ (b : TextBucket). list_refusals b.actions) bs) ≡ None = ap (λ (ys : List TextBucket). first_of (flat_map (λ (b : TextBucket). list_refusals b.actions) ys)) (sym (take_all 16 bs few)) ∙ parts.0 in
    and_from _ _ (le-leb (length (map bucket_of bs)) 16 (omega (arith, few, length-map bs bucket_of))) (each_fits bs k (none_each (λ (b : TextBucket). list_refusals b.actions) bs all))

-- ---- all groups

numbers_from : (there : List Group) (place : ℕ) (gs : List TextGroup) → Passed there place gs → AllByRecursion (λ (g : TextGroup). g.head.id ≤ 0xffffff00) gs
numbers_from there place [] h = tt
numbers_from there place (g ∷ gs) h = ((alone place g h.0).number, numbers_from there (place + 1) gs h.2)

few_from : (there : List Group) (place : ℕ) (gs : List TextGroup) → place ≤ 256 → Passed there place gs → place + length gs ≤ 256
few_from there place [] l h = omega (arith, l)
few_from there place (g ∷ gs) l h =
    let room = (alone place g h.0).room in
    let others = few_from there (place + 1) gs (omega (arith, room)) h.2 in
    omega (arith, others)

three_and : (a b c : Bool) → a ≡ true → b ≡ false → c ≡ false → (a && not b && not c) ≡ true
three_and a b c h k l = rw (h, k, l) refl

fit_from : (there : List Group) (place : ℕ) (gs : List TextGroup) → AllByRecursion Fits (rows_of_groups gs) → Passed there place gs → list_all is_fit_group (groups_at 0 gs) ≡ true
fit_from there place [] k h = refl
fit_from there place (g ∷ gs) k h =
    let mine : AllByRecursion Fits (group_rows g) = all_front Fits (group_rows g) (rows_of_groups gs) k in
    let one = alone place g h.0 in
    and_from _ _ (three_and _ _ _ (buckets_fit g.buckets mine.1 one.buckets) one.watch one.one) (fit_from there (place + 1) gs (all_back Fits (group_rows g) (rows_of_groups gs) k) h.2)

record Named (there : List Group) (g : TextGroup) : Type 0 where
  pub sends : any_sends (is_absent there) (buckets_of g) ≡ false
  pub watches : any_watches (is_absent there) g.head.kind (buckets_of g) ≡ false
  pub short : nat_lt 3 (chain there g.head.id) ≡ false

named : (there : List Group) (g : TextGroup) → first_of (naming_refusals there g) ≡ None → Named there g
unfolding naming_refusals
named there g h = let all = none_applies (naming_refusals there g) h in record { sends = all.0; watches = all.1.0; short = all.1.1.0 }

whole_from : (there : List Group) (place : ℕ) (gs : List TextGroup) → Passed there place gs → list_all (is_whole there) (groups_at 0 gs) ≡ true
whole_from there place [] h = refl
whole_from there place (g ∷ gs) h =
    let n = named there g h.1 in
    and_from _ _ (rw (n.sends, n.watches) refl) (whole_from there (place + 1) gs h.2)

not_led : (there : List Group) (n : ℕ) → nat_lt 3 (chain there n) ≡ false → leads there 3 n ≡ false
unfolding chain
not_led there n h = by_test (leads there 3 n) h
  where
    by_test : (b : Bool) → nat_lt 3 (cond b 4 (cond (leads there 2 n) 3 (cond (leads there 1 n) 2 (cond (leads there 0 n) 1 0)))) ≡ false → b ≡ false
    by_test true k = absurd cc
    by_test false k = refl

short_from : (there : List Group) (place : ℕ) (gs : List TextGroup) → Passed there place gs → list_any (λ (g : Group). leads there 3 g.id) (groups_at 0 gs) ≡ false
short_from there place [] h = refl
short_from there place (g ∷ gs) h =
    let n = named there g h.1 in
    rw (not_led there g.head.id n.short) (short_from there (place + 1) gs h.2)

-- ---- in ascending order of number

actions_placed : (n : ℕ) (xs : List Action) (rest : List Row) → following_all (InBucket n) (map rows.Do xs ++ rest) ≡ following_all (InBucket n) rest
unfolding following
actions_placed n [] rest = refl
actions_placed n (x ∷ xs) rest = actions_placed n xs rest

bucket_placed : (n : ℕ) (b : Bool) (x : TextBucket) (rest : List Row) → following_all (in_group n b) (bucket_rows x ++ rest) ≡ following_all (InBucket n) rest
unfolding following
bucket_placed n false x rest = actions_placed n x.actions rest
bucket_placed n true x rest = actions_placed n x.actions rest

buckets_placed : (n : ℕ) (b : Bool) (bs : List TextBucket) (rest : List Row) → (c : Bool) × (following_all (in_group n b) (flat_map bucket_rows bs ++ rest) ≡ following_all (in_group n c) rest)
buckets_placed n b [] rest = (b, refl)
buckets_placed n b (x ∷ bs) rest =
    let others = buckets_placed n true bs rest in
    (others.0, ap (following_all (in_group n b)) (append_assoc (bucket_rows x) (flat_map bucket_rows bs) rest) ∙ (bucket_placed n b x (flat_map bucket_rows bs ++ rest) ∙ others.1))

-- after the line of the next group
begun : (n : ℕ) (b : Bool) (g : TextGroup) (rest : List Row) → following_all (in_group n b) (group_rows g ++ rest) ≡ (cond (nat_lt n g.head.id) (Some (InGroup g.head.id)) None >>= λ p. following_all p (flat_map bucket_rows g.buckets ++ rest))
begun n b g rest = ap (λ (o : Option Place). o >>= λ p. following_all p (flat_map bucket_rows g.buckets ++ rest)) (next_in n b (rows.Group g.head))

abbrev above : ℕ → List TextGroup → Bool
above n gs = list_all (λ (g : Group). nat_lt n g.id) (groups_at 0 gs)

higher : (n m : ℕ) → nat_lt n m ≡ true → (gs : List TextGroup) → above m gs ≡ true → above n gs ≡ true
higher n m l [] h = refl
higher n m l (g ∷ gs) h =
    let parts = and_parts (nat_lt m g.head.id) (above m gs) h in
    and_from _ _ (lt-ltb n g.head.id (omega (arith, ltb-true n m l, ltb-true m g.head.id parts.0))) (higher n m l gs parts.1)

groups_rise : (n : ℕ) (b : Bool) (gs : List TextGroup) (q : Place) → following_all (in_group n b) (rows_of_groups gs) ≡ Some q → (above n gs ≡ true) × (is_ascending group_number (groups_at 0 gs) ≡ true)
groups_rise n b [] q h = (refl, refl)
groups_rise n b (g ∷ gs) q h =
    let parts = bind_cond (nat_lt n g.head.id) (InGroup g.head.id) (λ p. following_all p (flat_map bucket_rows g.buckets ++ rows_of_groups gs)) q (sym (begun n b g (rows_of_groups gs)) ∙ h) in
    let next = buckets_placed g.head.id false g.buckets (rows_of_groups gs) in
    let others = groups_rise g.head.id next.0 gs q (sym next.1 ∙ parts.1) in
    (and_from _ _ parts.0 (higher n g.head.id parts.0 gs others.0), and_from _ _ others.0 others.1)

all_rise : (gs : List TextGroup) (q : Place) → following_all start_place (rows_of_groups gs) ≡ Some q → is_ascending group_number (groups_at 0 gs) ≡ true
unfolding following
all_rise [] q h = refl
all_rise (g ∷ gs) q h =
    let next = buckets_placed g.head.id false g.buckets (rows_of_groups gs) in
    let others = groups_rise g.head.id next.0 gs q (sym next.1 ∙ h) in
    and_from _ _ others.0 others.1

risen_placed : (n : ℕ) (b : Bool) (gs : List TextGroup) → above n gs ≡ true → is_ascending group_number (groups_at 0 gs) ≡ true → (q : Place) × (following_all (in_group n b) (rows_of_groups gs) ≡ Some q)
risen_placed n b [] h k = (in_group n b, refl)
risen_placed n b (g ∷ gs) h k =
    let parts = and_parts (nat_lt n g.head.id) (above n gs) h in
    let rise = and_parts (above g.head.id gs) (is_ascending group_number (groups_at 0 gs)) k in
    let next = buckets_placed g.head.id false g.buckets (rows_of_groups gs) in
    let others = risen_placed g.head.id next.0 gs rise.0 rise.1 in
    (others.0, begun n b g (rows_of_groups gs) ∙ rw parts.0 (next.1 ∙ others.1))

all_placed : (gs : List TextGroup) → is_ascending group_number (groups_at 0 gs) ≡ true → (q : Place) × (following_all start_place (rows_of_groups gs) ≡ Some q)
unfolding following
all_placed [] k = (start_place, refl)
all_placed (g ∷ gs) k =
    let rise = and_parts (above g.head.id gs) (is_ascending group_number (groups_at 0 gs)) k in
    let next = buckets_placed g.head.id false g.buckets (rows_of_groups gs) in
    let others = risen_placed g.head.id next.0 gs rise.0 rise.1 in
    (others.0, next.1 ∙ others.1)

-- ---- configurations

pub config_groups : (c : Configuration) → IsConfig c → AreKeptGroups c.groups
config_groups c k =
    let parts = parts_of c.groups k.flows k.rows in
    let all = passed (all_there c.groups) 0 c.groups (groups_stand c.groups k.flows k.stand) in
    let same : all_there c.groups ≡ groups_at 0 c.groups = there_same (all_there c.groups) 0 c.groups all in
    let few = few_from (all_there c.groups) 0 c.groups (omega arith) all in
    record {
      fits = parts.fits;
      numbers = numbers_from (all_there c.groups) 0 c.groups all;
      sound = record {
        rising = all_rise c.groups parts.place parts.order;
        few = omega (arith, few, length-map c.groups (group_at 0));
        fit = fit_from (all_there c.groups) 0 c.groups parts.fits all;
        whole = rw same at (whole_from (all_there c.groups) 0 c.groups all);
        short = not_long (groups_at 0 c.groups) (rw same at (short_from (all_there c.groups) 0 c.groups all));
      };
    }

-- what a switch may keep may be written
pub kept_rows : (gs : List TextGroup) (fs : List Flow) → AreKeptGroups gs → AllByRecursion IsKeptFlow fs → AreRows (text_rows gs fs)
kept_rows gs fs g h =
    let place = all_placed gs g.sound.rising in
    rows_from gs fs (record { fits = g.fits; place = place.0; order = place.1; whole = each_whole 0 fs (flows.flows_fit fs h) (flows.flows_stand 0 fs h) })
