-- What is in the places of a MULTIPART_REQUEST, and after them, it says.
use Rattle.std.proofs.Common.{◌≡◌, ◌≤◌, ◌+◌, ◌%◌, ℕ, true, false, eqb, ltb, List, [], ◌∷◌, ◌++◌, length, drop, Option, Some, None, Result, Ok, refl, sym, ap, ◌∙◌, arith}
use Rattle.std.proofs.{lemmas.Bool.le-ltb, lemmas.Bool.eq-eqb, lemmas.Bool.Decides.nat_tests, lemmas.List.length-append}
use Rattle.of_wire.specs.{declared.limits.TheConstants.OFPG_ALL, declared.limits.TheConstants.OFPP_ANY, declared.code.Code.Code}
use Rattle.byteorder.specs.Endian.{big_number}
use Rattle.of_oxm.specs.{declared.match_field.MatchField.MatchField, MatchReading.match_of}
use Rattle.of_messages.specs.declared.multipart.MultipartRequest.TheVariants.{Description, Flow, Aggregate, Table, PortStats, Group, GroupDescription, GroupFeatures, PortDescription}
use Rattle.of_messages.specs.Multiparts.{multipart_kind_of, flow_stats_by, flow_stats_of, one_or_all, requested_number, multipart_of}
use Rattle.of_messages.specs.{declared.multipart.FlowStatsRequest.FlowStatsRequest, declared.multipart.MultipartRequest.MultipartRequest}
use Rattle.of_formats.specs.{Reading.◌>>=◌, Structs.numbers}
use Rattle.of_formats.specs.Tables as tables
use Rattle.of_laws.specs.Requests.{BeginsMatch, IsOne, IsValidRequest, NamesTable, RequestTail, flows_cells, or_all, request_cells}
use Rattle.of_laws.proofs.{MatchTails.match_only, OnlySmall.table_named, Places.Says, Places.size}

-- ---- by the type of the request

-- what was read as a request for flows, as the request

abbrev pub as_flow : Result FlowStatsRequest Code → Result MultipartRequest Code
as_flow r = r >>= λ v. Ok (Flow v)

abbrev pub as_aggregate : Result FlowStatsRequest Code → Result MultipartRequest Code
as_aggregate r = r >>= λ v. Ok (Aggregate v)

-- in one part, of that type and size
pub record Asks (type : ℕ) (m : List ℕ) : Type 0 where
  pub type_is : big_number 2 (drop 8 m) ≡ type
  pub one_part : big_number 2 (drop 10 m) % 2 ≡ 0

pub asks_0 : (m : List ℕ) → Asks 0 m → length m ≡ 16 → multipart_of m ≡ Ok Description
unfolding multipart_of multipart_kind_of
asks_0 m a size = rw (a.type_is, a.one_part, size) refl

pub asks_1 : (m : List ℕ) → Asks 1 m → ltb (length m) 56 ≡ false → multipart_of m ≡ as_flow (flow_stats_of m)
unfolding multipart_of multipart_kind_of
asks_1 m a size = rw (a.type_is, a.one_part, size) refl

pub asks_2 : (m : List ℕ) → Asks 2 m → ltb (length m) 56 ≡ false → multipart_of m ≡ as_aggregate (flow_stats_of m)
unfolding multipart_of multipart_kind_of
asks_2 m a size = rw (a.type_is, a.one_part, size) refl

pub asks_3 : (m : List ℕ) → Asks 3 m → length m ≡ 16 → multipart_of m ≡ Ok Table
unfolding multipart_of multipart_kind_of
asks_3 m a size = rw (a.type_is, a.one_part, size) refl

pub asks_4 : (m : List ℕ) → Asks 4 m → length m ≡ 24 → multipart_of m ≡ Ok (PortStats (one_or_all OFPP_ANY (requested_number m)))
unfolding multipart_of multipart_kind_of
asks_4 m a size = rw (a.type_is, a.one_part, size) refl

pub asks_6 : (m : List ℕ) → Asks 6 m → length m ≡ 24 → multipart_of m ≡ Ok (Group (one_or_all OFPG_ALL (requested_number m)))
unfolding multipart_of multipart_kind_of
asks_6 m a size = rw (a.type_is, a.one_part, size) refl

pub asks_7 : (m : List ℕ) → Asks 7 m → length m ≡ 16 → multipart_of m ≡ Ok GroupDescription
unfolding multipart_of multipart_kind_of
asks_7 m a size = rw (a.type_is, a.one_part, size) refl

pub asks_8 : (m : List ℕ) → Asks 8 m → length m ≡ 16 → multipart_of m ≡ Ok GroupFeatures
unfolding multipart_of multipart_kind_of
asks_8 m a size = rw (a.type_is, a.one_part, size) refl

pub asks_13 : (m : List ℕ) → Asks 13 m → length m ≡ 16 → multipart_of m ≡ Ok PortDescription
unfolding multipart_of multipart_kind_of
asks_13 m a size = rw (a.type_is, a.one_part, size) refl

-- ---- FLOW and AGGREGATE

numbers_are : (r : FlowStatsRequest) (m : List ℕ) → Says 16 (flows_cells r) m → numbers tables.flow_stats_request 16 m ≡ r.table ∷ r.out_port ∷ r.out_group ∷ r.cookie ∷ r.cookie_mask ∷ []
numbers_are r m s = rw (s.0, s.1.0, s.1.1.0, s.1.1.1.0, s.1.1.1.1.0) refl

flows_only : (r : FlowStatsRequest) (m tail : List ℕ) → tail ≡ drop 48 m → Says 16 (flows_cells r) m → BeginsMatch r.fields tail → NamesTable r.table → flow_stats_of m ≡ Ok r
flows_only r m tail there s h valid =
    let named = table_named r.table valid in
    let whole : drop 48 m ≡ h.front ++ h.rest = sym there ∙ h.whole in
    let fields : match_of (drop 48 m) ≡ Ok (r.fields, length h.front) = ap match_of whole ∙ match_only h.front h.rest r.fields h.encoded in
    ap (λ (ns : List ℕ). flow_stats_by ns (drop 48 m)) (numbers_are r m s) ∙ rw (named, fields) refl

-- ---- of one, or of all

one_again : (all : ℕ) (which : Option ℕ) → IsOne all which → one_or_all all (or_all all which) ≡ which
one_again all None valid = let same : eqb all all ≡ true = eq-eqb all all refl in rw same refl
one_again all (Some number) valid = let other : eqb number all ≡ false = grind (arith, nat_tests, valid) in rw other refl

-- ---- each request

-- a match has 8 bytes at least
fields_long : (fields : List MatchField) (bytes : List ℕ) → BeginsMatch fields bytes → 8 ≤ length bytes
fields_long fields bytes h =
    let s = h.encoded in
    let len = s.len_is in
    let size = s.size in
    omega (arith, ap length h.whole, length-append h.front h.rest)

pub request_only : (r : MultipartRequest) (m tail : List ℕ) → Says 8 (request_cells r) m → length m ≡ 8 + size (request_cells r) + length tail → tail ≡ drop (8 + size (request_cells r)) m → RequestTail r tail → IsValidRequest r → multipart_of m ≡ Ok r
request_only Description m tail s long there h valid =
    let none : length tail ≡ 0 = ap length h in asks_0 m (record { type_is = s.0; one_part = s.1.0 }) (omega arith)
request_only (Flow r) m tail s long there h valid =
    let some = fields_long r.fields tail h in
    asks_1 m (record { type_is = s.0; one_part = s.1.0 }) (le-ltb _ _ (omega arith)) ∙ ap as_flow (flows_only r m tail there s.1.1 h valid)
request_only (Aggregate r) m tail s long there h valid =
    let some = fields_long r.fields tail h in
    asks_2 m (record { type_is = s.0; one_part = s.1.0 }) (le-ltb _ _ (omega arith)) ∙ ap as_aggregate (flows_only r m tail there s.1.1 h valid)
request_only Table m tail s long there h valid =
    let none : length tail ≡ 0 = ap length h in asks_3 m (record { type_is = s.0; one_part = s.1.0 }) (omega arith)
request_only (PortStats port) m tail s long there h valid =
    let none : length tail ≡ 0 = ap length h in
    asks_4 m (record { type_is = s.0; one_part = s.1.0 }) (omega arith) ∙ ap (λ (n : ℕ). Ok (PortStats (one_or_all OFPP_ANY n))) s.1.1.0 ∙ ap (λ (o : Option ℕ). Ok (PortStats o)) (one_again OFPP_ANY port valid)
request_only (Group group) m tail s long there h valid =
    let none : length tail ≡ 0 = ap length h in
    asks_6 m (record { type_is = s.0; one_part = s.1.0 }) (omega arith) ∙ ap (λ (n : ℕ). Ok (Group (one_or_all OFPG_ALL n))) s.1.1.0 ∙ ap (λ (o : Option ℕ). Ok (Group o)) (one_again OFPG_ALL group valid)
request_only GroupDescription m tail s long there h valid =
    let none : length tail ≡ 0 = ap length h in asks_7 m (record { type_is = s.0; one_part = s.1.0 }) (omega arith)
request_only GroupFeatures m tail s long there h valid =
    let none : length tail ≡ 0 = ap length h in asks_8 m (record { type_is = s.0; one_part = s.1.0 }) (omega arith)
request_only PortDescription m tail s long there h valid =
    let none : length tail ≡ 0 = ap length h in asks_13 m (record { type_is = s.0; one_part = s.1.0 }) (omega arith)
