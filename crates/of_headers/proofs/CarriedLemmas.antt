-- What an IP packet carries: read from the whole packet, and from the bytes that its length leaves.
use Rattle.std.proofs.Common.{◌≡◌, ℕ, ◌+◌, ◌-◌, ◌*◌, ◌<◌, ◌≤◌, min, Bool, true, false, cond, List, [], ◌∷◌, ◌++◌, length, get_or, take, drop, refl, sym, ap, ◌∙◌, arith}
use Rattle.std.{specs.Prelude.nat_le, specs.Option.option_or, proofs.lemmas.Bool.leb-true}
use Rattle.std.proofs.lemmas.List.{get_or-drop, get_or-take, length-drop, length-take}
use Rattle.of_layers.specs.declared.transport.Transport.TheVariants.{Nothing, Tcp, Udp}
use Rattle.of_layers.specs.Layers.{size_of, items_of, cells_in, byte_cells, carried_cells, body_cells, ipv4}
use Rattle.of_layers.specs.Reading.{word, double, numbers_of, whole_in, carried_of, header_size, is_ipv4, ipv4_of, ipv4_numbers, ipv4_kind, ipv4_inside}
use Rattle.of_layers.specs.{declared.transport.Transport.Transport, Looking.look_up}
use Rattle.of_headers.{specs.declared.layout.Payload.Payload, specs.Places.network_of, proofs.LayoutLemmas.IsWhole, proofs.LayoutLemmas.whole_ipv4, proofs.LayoutLemmas.inside_room}
use Rattle.of_headers.proofs.LookLemmas.{look-append, look_front, look_behind}
use Rattle.of_headers.specs.declared.layout.Network.TheVariants as network

-- ---- a header is read from its own bytes alone

word_same : (s t : List ℕ) (n i : ℕ) → ((k : ℕ) → k < n → get_or s k 0 ≡ get_or t k 0) → i + 2 ≤ n → word s i ≡ word t i
word_same s t n i h l = let a : get_or s i 0 ≡ get_or t i 0 = h i (omega arith) in let b : get_or s (i + 1) 0 ≡ get_or t (i + 1) 0 = h (i + 1) (omega arith) in λ j. 256 * a j + b j

double_same : (s t : List ℕ) (n i : ℕ) → ((k : ℕ) → k < n → get_or s k 0 ≡ get_or t k 0) → i + 4 ≤ n → double s i ≡ double t i
double_same s t n i h l = let a : word s i ≡ word t i = word_same s t n i h (omega arith) in let b : word s (i + 2) ≡ word t (i + 2) = word_same s t n (i + 2) h (omega arith) in λ j. 65536 * a j + b j

numbers_same : (kind : Transport) (s t : List ℕ) → ((k : ℕ) → k < size_of kind → get_or s k 0 ≡ get_or t k 0) → numbers_of kind s ≡ numbers_of kind t
unfolding numbers_of
numbers_same Nothing s t h = refl
numbers_same Tcp s t h =
    let a = word_same s t 20 0 h (omega arith) in
    let b = word_same s t 20 2 h (omega arith) in
    let c = double_same s t 20 4 h (omega arith) in
    let d = double_same s t 20 8 h (omega arith) in
    let e = word_same s t 20 12 h (omega arith) in
    let f = word_same s t 20 14 h (omega arith) in
    let g = word_same s t 20 16 h (omega arith) in
    let k = word_same s t 20 18 h (omega arith) in
    λ i. a i ∷ b i ∷ c i ∷ d i ∷ e i ∷ f i ∷ g i ∷ k i ∷ []
numbers_same Udp s t h =
    let a = word_same s t 8 0 h (omega arith) in
    let b = word_same s t 8 2 h (omega arith) in
    let c = word_same s t 8 4 h (omega arith) in
    let d = word_same s t 8 6 h (omega arith) in
    λ i. a i ∷ b i ∷ c i ∷ d i ∷ []
numbers_same other s t h =
    let a = h 0 (omega arith) in
    let b = h 1 (omega arith) in
    let c = word_same s t 4 2 h (omega arith) in
    λ i. a i ∷ b i ∷ c i ∷ []

pub numbers_cut : (kind : Transport) (at w : ℕ) (p : List ℕ) → size_of kind ≤ length (drop at (take w p)) → numbers_of kind (drop at p) ≡ numbers_of kind (drop at (take w p))
numbers_cut kind at w p h = numbers_same kind (drop at p) (drop at (take w p)) (λ k l.
    let room : length (drop at (take w p)) ≡ min w (length p) - at = length-drop at (take w p) ∙ ap (λ (n : ℕ). n - at) (length-take w p) in
    let inside : at + k < w = omega arith in
    get_or-drop at p k 0 ∙ sym (get_or-take w p (at + k) 0 inside) ∙ sym (get_or-drop at (take w p) k 0))

pub size_fits : (kind : Transport) (n : ℕ) → size_of (whole_in kind n) ≤ n
size_fits kind n =
    let split : (b : Bool) → nat_le (size_of kind) n ≡ b → size_of (cond b kind Nothing) ≤ n
    = λ b. elim b as (λ b. nat_le (size_of kind) n ≡ b → size_of (cond b kind Nothing) ≤ n) [
      | true ↦ λ e. leb-true (size_of kind) n e
      | false ↦ λ e. omega arith
    ] in
    split (nat_le (size_of kind) n) refl

-- ---- IPv4

pub record IsIpv4Payload (p : List ℕ) (y : Payload) : Type 0 where
  pub at : y.at ≡ header_size p
  pub kind : y.transport ≡ whole_in (ipv4_kind p) (length (ipv4_inside p))
  pub room : y.at ≤ length p
  pub size : size_of y.transport ≤ length (drop y.at p)

payload_by : (y z : Payload) → network.Ipv4 y ≡ network.Ipv4 z → y ≡ z
payload_by y z e = cc

pub ipv4_payload : (p : List ℕ) (y : Payload) → is_ipv4 p ≡ true → network.Ipv4 y ≡ network_of (ipv4_of p) → IsIpv4Payload p y
unfolding ipv4_of
ipv4_payload p y h e =
    let whole : IsWhole p = whole_ipv4 p h in
    let same = payload_by y (record { transport = whole_in (ipv4_kind p) (length (ipv4_inside p)); at = 20 + length (drop 20 (take (header_size p) p)) }) e in
    let kind : y.transport ≡ whole_in (ipv4_kind p) (length (ipv4_inside p)) = ap (λ (z : Payload). z.transport) same in
    let at : y.at ≡ header_size p = ap (λ (z : Payload). z.at) same ∙ (let r = whole.room in let l = whole.header in omega (arith, length-drop 20 (take (header_size p) p), length-take (header_size p) p)) in
    let fits : size_of y.transport ≤ length (ipv4_inside p) = rw kind (size_fits (ipv4_kind p) (length (ipv4_inside p))) in
    let room : header_size p ≤ length p = whole.room in
    record { at = at; kind = kind; room = omega arith; size = omega (arith, fits, inside_room p, length-drop y.at p, at) }

pub look_ipv4 : (n : ℕ) (p : List ℕ) (y : Payload) → IsIpv4Payload p y →
    option_or (look_up n (cells_in ipv4 (ipv4_numbers p))) (look_up n (cells_in (items_of y.transport) (numbers_of y.transport (drop y.at p)))) ≡ look_up n (body_cells (ipv4_of p))
unfolding ipv4_of
look_ipv4 n p y h =
    let carried = carried_of (ipv4_kind p) (ipv4_inside p) in
    let opts : List ℕ = drop 20 (take (header_size p) p) in
    let rest : List ℕ = drop (word p 2) p in
    let same : numbers_of y.transport (drop y.at p) ≡ numbers_of (whole_in (ipv4_kind p) (length (ipv4_inside p))) (ipv4_inside p) =
    (λ i. numbers_of (h.kind i) (drop (h.at i) p)) ∙ numbers_cut (whole_in (ipv4_kind p) (length (ipv4_inside p))) (header_size p) (word p 2) p (size_fits (ipv4_kind p) (length (ipv4_inside p))) in
    let kind : y.transport ≡ whole_in (ipv4_kind p) (length (ipv4_inside p)) = h.kind in
    let tail : look_up n (cells_in (items_of y.transport) (numbers_of y.transport (drop y.at p))) ≡ look_up n (byte_cells opts ++ (carried_cells carried ++ byte_cells rest)) =
    (λ i. look_up n (cells_in (items_of (kind i)) (same i)))
    ∙ sym (look_front n (cells_in (items_of carried.kind) carried.numbers) carried.rest)
    ∙ sym (look_front n (carried_cells carried) rest)
    ∙ sym (look_behind n opts (carried_cells carried ++ byte_cells rest)) in
    ap (option_or (look_up n (cells_in ipv4 (ipv4_numbers p)))) tail
    ∙ sym (look-append n (cells_in ipv4 (ipv4_numbers p)) (byte_cells opts ++ (carried_cells carried ++ byte_cells rest)))
