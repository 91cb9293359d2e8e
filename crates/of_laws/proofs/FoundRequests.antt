-- What was read as a MULTIPART_REQUEST is in its places, and after them.
use Rattle.std.proofs.Common.{◌≡◌, ◌≤◌, ◌+◌, ◌%◌, ℕ, Bool, true, false, not, eqb, ltb, cond, List, [], ◌∷◌, length, take, drop, Option, Some, None, Result, Ok, Err, refl, sym, ap, subst, ◌∙◌, arith}
use Rattle.std.specs.Prelude.{slice_index, ◌==◌, if◌then◌else◌, is_none}
use Rattle.std.proofs.{lemmas.Bool.eqb-true, lemmas.Bool.eqb-false, lemmas.Bool.ltb-false, lemmas.Bool.not-false, lemmas.Bool.Decides.nat_tests, lemmas.List.drop_all, lemmas.List.take-append-drop}
use Rattle.of_wire.specs.{declared.limits.TheConstants.OFPG_ALL, declared.limits.TheConstants.OFPP_ANY, declared.code.Code.Code, Refusals.refusal, Refusals.first_of}
use Rattle.of_wire.proofs.{FirstLemmas.none_applies, Numbers.IsBytes, Numbers.IsBytes-drop}
use Rattle.byteorder.specs.Endian.{big_number}
use Rattle.of_oxm.specs.MatchReading.{match_of}
use Rattle.of_messages.specs.declared.multipart.MultipartRequest.TheVariants.{Description, Flow, Aggregate, Table, PortStats, Group, GroupDescription, GroupFeatures, PortDescription}
use Rattle.of_messages.specs.Multiparts.{multipart_kind_of, multipart_kind_in, size_asked, multipart_refusals, multipart_by, flow_stats_of, one_or_all, requested_number, multipart_of}
use Rattle.of_messages.specs.{declared.multipart.FlowStatsRequest.FlowStatsRequest, declared.multipart.MultipartRequest.MultipartRequest, Configs.names_table}
use Rattle.of_formats.{specs.Messages.is_bad_size, proofs.Binding.bound, proofs.Binding.passed, proofs.Binding.same_ok}
use Rattle.of_laws.specs.Requests.{BeginsMatch, IsOne, IsValidRequest, NamesTable, RequestTail, flows_cells, or_all, request_cells}
use Rattle.of_laws.proofs.OnlyRequests.{Asks, as_flow, as_aggregate, asks_0, asks_1, asks_2, asks_3, asks_4, asks_6, asks_7, asks_8, asks_13}
use Rattle.of_laws.proofs.{FoundSmall.named, MatchTails.match_found, Places.Says, Places.size}

-- ---- FLOW and AGGREGATE

record FlowsSay (r : FlowStatsRequest) (m : List ℕ) : Type 0 where
  says : Says 16 (flows_cells r) m
  behind : BeginsMatch r.fields (drop 48 m)
  valid : NamesTable r.table

flows_found : (r : FlowStatsRequest) (m : List ℕ) → IsBytes m → flow_stats_of m ≡ Ok r → FlowsSay r m
flows_found r m fits h =
    let rest = drop 48 m in
    let t = passed ((not (names_table (slice_index m 16)), refusal 1 9) ∷ []) _ r h in
    let q = bound (match_of rest) _ r t.1 in
    let n = q.0.1 in
    subst (λ (x : FlowStatsRequest). FlowsSay x m) (same_ok q.2) (record {
      says = (refl, (refl, (refl, (refl, (refl, tt)))));
      behind = record { front = take n rest; rest = drop n rest; whole = sym (take-append-drop n rest); encoded = match_found rest q.0.0 n (IsBytes-drop 48 m fits) q.1 };
      valid = named (slice_index m 16) (not-false _ t.0.0);
    })

-- ---- of one, or of all

one_known : (all number : ℕ) → (number ≡ or_all all (one_or_all all number)) × IsOne all (one_or_all all number)
one_known all number = by_test (eqb number all) refl
  where
    by_test : (b : Bool) → eqb number all ≡ b → (number ≡ or_all all (cond b None (Some number))) × IsOne all (cond b None (Some number))
    by_test true is = (eqb-true number all is, tt)
    by_test false is = (refl, eqb-false number all is)

-- ---- the types of requests

data Asked : Type 0 where
  description : Asked
  flow : Asked
  aggregate : Asked
  table : Asked
  port_stats : Asked
  group : Asked
  group_description : Asked
  group_features : Asked
  port_description : Asked

abbrev number_of : Asked → ℕ
number_of description = 0
number_of flow = 1
number_of aggregate = 2
number_of table = 3
number_of port_stats = 4
number_of group = 6
number_of group_description = 7
number_of group_features = 8
number_of port_description = 13

unfoldable asked_by : ℕ → Option Asked
asked_by n =
    if n == 0 then Some description
    else if n == 1 then Some flow
    else if n == 2 then Some aggregate
    else if n == 3 then Some table
    else if n == 4 then Some port_stats
    else if n == 6 then Some group
    else if n == 7 then Some group_description
    else if n == 8 then Some group_features
    else if n == 13 then Some port_description
    else None

asked_known : (n : ℕ) (a : Asked) → asked_by n ≡ Some a → n ≡ number_of a
unfolding asked_by
asked_known n description h = grind (arith, nat_tests)
asked_known n flow h = grind (arith, nat_tests)
asked_known n aggregate h = grind (arith, nat_tests)
asked_known n table h = grind (arith, nat_tests)
asked_known n port_stats h = grind (arith, nat_tests)
asked_known n group h = grind (arith, nat_tests)
asked_known n group_description h = grind (arith, nat_tests)
asked_known n group_features h = grind (arith, nat_tests)
asked_known n port_description h = grind (arith, nat_tests)

asked_none : (n : ℕ) → asked_by n ≡ None → is_none (multipart_kind_of n) ≡ true
unfolding asked_by multipart_kind_of
asked_none n h = grind (arith, nat_tests)

-- the request cannot have that size
abbrev is_bad : Asked → ℕ → Bool
is_bad description size = not (eqb size 16)
is_bad flow size = ltb size 56
is_bad aggregate size = ltb size 56
is_bad table size = not (eqb size 16)
is_bad port_stats size = not (eqb size 24)
is_bad group size = not (eqb size 24)
is_bad group_description size = not (eqb size 16)
is_bad group_features size = not (eqb size 16)
is_bad port_description size = not (eqb size 16)

bad_known : (a : Asked) (size : ℕ) → is_bad_size (size_asked (multipart_kind_of (number_of a))) size ≡ is_bad a size
unfolding multipart_kind_of
bad_known description size = refl
bad_known flow size = refl
bad_known aggregate size = refl
bad_known table size = refl
bad_known port_stats size = refl
bad_known group size = refl
bad_known group_description size = refl
bad_known group_features size = refl
bad_known port_description size = refl

-- ---- each request

pub record RequestSays (r : MultipartRequest) (m : List ℕ) : Type 0 where
  pub says : Says 8 (request_cells r) m
  pub long : 8 + size (request_cells r) ≤ length m
  pub behind : RequestTail r (drop (8 + size (request_cells r)) m)
  pub valid : IsValidRequest r

pub exact : (n k : ℕ) → not (eqb n k) ≡ false → n ≡ k
exact n k h = eqb-true n k (not-false (eqb n k) h)

pub ended : (n : ℕ) (m : List ℕ) → length m ≡ n → drop n m ≡ []
ended n m e = drop_all n m (omega arith)

-- a request without a body
plain_says : (r : MultipartRequest) (m : List ℕ) → length m ≡ 16 → size (request_cells r) ≡ 8 → Says 8 (request_cells r) m → RequestTail r (drop 16 m) → IsValidRequest r → RequestSays r m
plain_says r m long none says behind valid =
    let place : 16 ≡ 8 + size (request_cells r) = omega arith in
    record { says = says; long = omega arith; behind = subst (λ (n : ℕ). RequestTail r (drop n m)) place behind; valid = valid }

by_asked : (a : Asked) (r : MultipartRequest) (m : List ℕ) → IsBytes m → Asks (number_of a) m → is_bad a (length m) ≡ false → multipart_of m ≡ Ok r → RequestSays r m
by_asked description r m fits a size h =
    let long = exact _ _ size in
    let e : ◌≡◌ {A = Result MultipartRequest Code} (Ok Description) (Ok r) = sym (asks_0 m a long) ∙ h in
    let same : Description ≡ r = cc in
    subst (λ (x : MultipartRequest). RequestSays x m) same (plain_says Description m long refl (a.type_is, (a.one_part, tt)) (ended 16 m long) tt)
by_asked flow r m fits a size h = by_flows (flow_stats_of m) refl (sym (asks_1 m a size) ∙ h)
  where
    by_flows : (s : Result FlowStatsRequest Code) → flow_stats_of m ≡ s → as_flow s ≡ Ok r → RequestSays r m
    by_flows (Err code) is e = absurd cc
    by_flows (Ok q) is e =
        let same : Flow q ≡ r = cc in
        let s = flows_found q m fits is in
        let long = ltb-false _ _ size in
        subst (λ (x : MultipartRequest). RequestSays x m) same (record { says = (a.type_is, (a.one_part, s.says)); long = omega (arith, long); behind = s.behind; valid = s.valid })
by_asked aggregate r m fits a size h = by_flows (flow_stats_of m) refl (sym (asks_2 m a size) ∙ h)
  where
    by_flows : (s : Result FlowStatsRequest Code) → flow_stats_of m ≡ s → as_aggregate s ≡ Ok r → RequestSays r m
    by_flows (Err code) is e = absurd cc
    by_flows (Ok q) is e =
        let same : Aggregate q ≡ r = cc in
        let s = flows_found q m fits is in
        let long = ltb-false _ _ size in
        subst (λ (x : MultipartRequest). RequestSays x m) same (record { says = (a.type_is, (a.one_part, s.says)); long = omega (arith, long); behind = s.behind; valid = s.valid })
by_asked table r m fits a size h =
    let long = exact _ _ size in
    let e : ◌≡◌ {A = Result MultipartRequest Code} (Ok Table) (Ok r) = sym (asks_3 m a long) ∙ h in
    let same : Table ≡ r = cc in
    subst (λ (x : MultipartRequest). RequestSays x m) same (plain_says Table m long refl (a.type_is, (a.one_part, tt)) (ended 16 m long) tt)
by_asked port_stats r m fits a size h =
    let long = exact _ _ size in
    let which = one_or_all OFPP_ANY (requested_number m) in
    let e : ◌≡◌ {A = Result MultipartRequest Code} (Ok (PortStats which)) (Ok r) = sym (asks_4 m a long) ∙ h in
    let same : PortStats which ≡ r = cc in
    let one = one_known OFPP_ANY (requested_number m) in
    subst (λ (x : MultipartRequest). RequestSays x m) same (record { says = (a.type_is, (a.one_part, (one.0, tt))); long = omega arith; behind = ended 24 m long; valid = one.1 })
by_asked group r m fits a size h =
    let long = exact _ _ size in
    let which = one_or_all OFPG_ALL (requested_number m) in
    let e : ◌≡◌ {A = Result MultipartRequest Code} (Ok (Group which)) (Ok r) = sym (asks_6 m a long) ∙ h in
    let same : Group which ≡ r = cc in
    let one = one_known OFPG_ALL (requested_number m) in
    subst (λ (x : MultipartRequest). RequestSays x m) same (record { says = (a.type_is, (a.one_part, (one.0, tt))); long = omega arith; behind = ended 24 m long; valid = one.1 })
by_asked group_description r m fits a size h =
    let long = exact _ _ size in
    let e : ◌≡◌ {A = Result MultipartRequest Code} (Ok GroupDescription) (Ok r) = sym (asks_7 m a long) ∙ h in
    let same : GroupDescription ≡ r = cc in
    subst (λ (x : MultipartRequest). RequestSays x m) same (plain_says GroupDescription m long refl (a.type_is, (a.one_part, tt)) (ended 16 m long) tt)
by_asked group_features r m fits a size h =
    let long = exact _ _ size in
    let e : ◌≡◌ {A = Result MultipartRequest Code} (Ok GroupFeatures) (Ok r) = sym (asks_8 m a long) ∙ h in
    let same : GroupFeatures ≡ r = cc in
    subst (λ (x : MultipartRequest). RequestSays x m) same (plain_says GroupFeatures m long refl (a.type_is, (a.one_part, tt)) (ended 16 m long) tt)
by_asked port_description r m fits a size h =
    let long = exact _ _ size in
    let e : ◌≡◌ {A = Result MultipartRequest Code} (Ok PortDescription) (Ok r) = sym (asks_13 m a long) ∙ h in
    let same : PortDescription ≡ r = cc in
    subst (λ (x : MultipartRequest). RequestSays x m) same (plain_says PortDescription m long refl (a.type_is, (a.one_part, tt)) (ended 16 m long) tt)

even_known : (n : ℕ) → eqb (n % 2) 1 ≡ false → n % 2 ≡ 0
even_known n h = let odd : ¬ (n % 2 ≡ 1) = eqb-false (n % 2) 1 h in omega arith

-- what holds of a request that is not refused
record Passes (m : List ℕ) : Type 0 where
  asked : Asked
  asks : Asks (number_of asked) m
  sized : is_bad asked (length m) ≡ false

passes : (m : List ℕ) → first_of (multipart_refusals m) ≡ None → Passes m
passes m none = by_kind (asked_by (big_number 2 (drop 8 m))) refl
  where
    by_kind : (o : Option Asked) → asked_by (big_number 2 (drop 8 m)) ≡ o → Passes m
    by_kind None is =
        let both : true ≡ false = sym (asked_none (big_number 2 (drop 8 m)) is) ∙ (none_applies (multipart_refusals m) none).0 in
        absurd cc
    by_kind (Some a) is =
        let n = none_applies (multipart_refusals m) none in
        let type_is = asked_known (big_number 2 (drop 8 m)) a is in
        record {
          asked = a;
          asks = record { type_is = type_is; one_part = even_known (big_number 2 (drop 10 m)) n.1.0 };
          sized = sym (bad_known a (length m)) ∙ ap (λ (t : ℕ). is_bad_size (size_asked (multipart_kind_of t)) (length m)) (sym type_is) ∙ n.1.1.0;
        }

first_none : (m : List ℕ) (r : MultipartRequest) → multipart_of m ≡ Ok r → first_of (multipart_refusals m) ≡ None
unfolding multipart_of
first_none m r h = by_first (first_of (multipart_refusals m)) refl h
  where
    by_first : (o : Option Code) → first_of (multipart_refusals m) ≡ o → multipart_by m o (multipart_kind_in m) ≡ Ok r → first_of (multipart_refusals m) ≡ None
    by_first (Some code) is e = absurd cc
    by_first None is e = is

pub request_found : (r : MultipartRequest) (m : List ℕ) → IsBytes m → multipart_of m ≡ Ok r → RequestSays r m
request_found r m fits h = let p = passes m (first_none m r h) in by_asked p.asked r m fits p.asks p.sized h
