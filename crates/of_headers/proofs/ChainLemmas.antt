-- The extension headers of an IPv6 packet, one at a time.
use Rattle.std.proofs.Common.{◌≡◌, ℕ, zero, suc, ◌+◌, ◌-◌, ◌*◌, ◌/◌, ◌<◌, ◌≤◌, Bool, true, false, cond, ◌&&◌, ◌||◌, List, length, get_or, take, drop, refl, sym, ap, ◌∙◌, arith}
use Rattle.std.{specs.Prelude.nat_le, specs.Prelude.not, specs.Prelude.◌==◌, proofs.lemmas.Bool.leb-true}
use Rattle.std.proofs.lemmas.List.{drop-drop, length-drop, length-take}
use Rattle.of_layers.specs.Layers.{Extension, Options, Fragment, extension_bytes, all_bytes}
use Rattle.of_layers.specs.Reading.{Chain, behind_extension, ends_as, word, over_ipv6, whole_in, has_options, is_fragment, extension_size, has_extension, is_later, extension_of, options_numbers, fragment_numbers, chain_of}
use Rattle.of_layers.specs.declared.transport.Transport.TheVariants.{Nothing}
use Rattle.of_headers.specs.declared.layout.Network.TheVariants as network
use Rattle.of_headers.specs.Places.{protocol_at, network_behind}

-- ---- one step

pub chain_stop : (n kind : ℕ) (s : List ℕ) → has_extension kind s ≡ false → chain_of n kind s ≡ ends_as (over_ipv6 kind) s
unfolding chain_of
chain_stop zero kind s e = refl
chain_stop (suc n) kind s e = rw e refl

pub chain_later : (n kind : ℕ) (s : List ℕ) → 0 < n → has_extension kind s ≡ true → is_later kind s ≡ true → chain_of n kind s ≡ behind_extension (extension_of kind s) (ends_as Nothing (drop 8 s))
unfolding chain_of
chain_later zero kind s h e l = absurd (omega arith)
chain_later (suc n) kind s h e l = rw (e, l) refl

pub chain_more : (n kind : ℕ) (s : List ℕ) → has_extension kind s ≡ true → is_later kind s ≡ false → chain_of (suc n) kind s ≡ behind_extension (extension_of kind s) (chain_of n (get_or s 0 0) (drop (extension_size kind s) s))
unfolding chain_of
chain_more n kind s e l = rw (e, l) refl

-- ---- how long a header is

pub and_left : (a b : Bool) → (a && b) ≡ true → a ≡ true
and_left true b e = refl
and_left false b e = absurd cc

pub and_right : (a b : Bool) → (a && b) ≡ true → b ≡ true
and_right true b e = e
and_right false b e = absurd cc

pub size_fits : (kind : ℕ) (s : List ℕ) → has_extension kind s ≡ true → extension_size kind s ≤ length s
size_fits kind s e =
    leb-true (extension_size kind s) (length s) (and_right ((is_fragment kind || has_options kind) && nat_le 8 (length s)) (nat_le (extension_size kind s) (length s)) e)

pub eight_fit : (kind : ℕ) (s : List ℕ) → has_extension kind s ≡ true → 8 ≤ length s
eight_fit kind s e =
    leb-true 8 (length s) (and_right (is_fragment kind || has_options kind) (nat_le 8 (length s)) (and_left ((is_fragment kind || has_options kind) && nat_le 8 (length s)) (nat_le (extension_size kind s) (length s)) e))

size_by : (b : Bool) (n : ℕ) → 8 ≤ cond b 8 (8 * (n + 1))
size_by true n = omega arith
size_by false n = omega arith

pub size_least : (kind : ℕ) (s : List ℕ) → 8 ≤ extension_size kind s
size_least kind s = size_by (is_fragment kind) (get_or s 1 0)

bytes_by : (b : Bool) (fs os s : List ℕ) (n : ℕ) → cond b 8 (8 * (n + 1)) ≤ length s → extension_bytes (cond b (Fragment fs) (Options os (drop 2 (take (cond b 8 (8 * (n + 1))) s)))) ≡ cond b 8 (8 * (n + 1))
bytes_by true fs os s n h = refl
bytes_by false fs os s n h = omega (arith, length-drop 2 (take (8 * (n + 1)) s), length-take (8 * (n + 1)) s)

pub extension_is : (kind : ℕ) (s : List ℕ) → has_extension kind s ≡ true → extension_bytes (extension_of kind s) ≡ extension_size kind s
extension_is kind s e = bytes_by (is_fragment kind) (fragment_numbers s) (options_numbers s) s (get_or s 1 0) (size_fits kind s e)

-- ---- more turns than bytes change nothing

pub chain_turns : (m n kind : ℕ) (s : List ℕ) → length s ≤ m → length s ≤ n → chain_of m kind s ≡ chain_of n kind s
chain_turns zero n kind s a b =
    let split : (x : Bool) → has_extension kind s ≡ x → chain_of zero kind s ≡ chain_of n kind s
    = λ x. elim x as (λ x. has_extension kind s ≡ x → chain_of zero kind s ≡ chain_of n kind s) [
      | false ↦ λ e. chain_stop zero kind s e ∙ sym (chain_stop n kind s e)
      | true ↦ λ e. (let long : 8 ≤ length s = eight_fit kind s e in absurd (omega arith))
    ] in
    split (has_extension kind s) refl
chain_turns (suc m) zero kind s a b =
    let split : (x : Bool) → has_extension kind s ≡ x → chain_of (suc m) kind s ≡ chain_of zero kind s
    = λ x. elim x as (λ x. has_extension kind s ≡ x → chain_of (suc m) kind s ≡ chain_of zero kind s) [
      | false ↦ λ e. chain_stop (suc m) kind s e ∙ sym (chain_stop zero kind s e)
      | true ↦ λ e. (let long : 8 ≤ length s = eight_fit kind s e in absurd (omega arith))
    ] in
    split (has_extension kind s) refl
chain_turns (suc m) (suc n) kind s a b =
    let least : 8 ≤ extension_size kind s = size_least kind s in
    let shorter : length (drop (extension_size kind s) s) ≡ length s - extension_size kind s = length-drop (extension_size kind s) s in
    let split : (x y : Bool) → has_extension kind s ≡ x → is_later kind s ≡ y → chain_of (suc m) kind s ≡ chain_of (suc n) kind s
    = λ x y. elim x as (λ x. has_extension kind s ≡ x → is_later kind s ≡ y → chain_of (suc m) kind s ≡ chain_of (suc n) kind s) [
      | false ↦ λ e l. chain_stop (suc m) kind s e ∙ sym (chain_stop (suc n) kind s e)
      | true ↦ λ e. elim y as (λ y. is_later kind s ≡ y → chain_of (suc m) kind s ≡ chain_of (suc n) kind s) [
        | true ↦ λ l. chain_later (suc m) kind s (omega arith) e l ∙ sym (chain_later (suc n) kind s (omega arith) e l)
        | false ↦ λ l. (let h : extension_size kind s ≤ length s = size_fits kind s e in
            chain_more m kind s e l
            ∙ ap (λ (c : Chain). behind_extension (extension_of kind s) c) (chain_turns m n (get_or s 0 0) (drop (extension_size kind s) s) (omega arith) (omega arith))
            ∙ sym (chain_more n kind s e l))
      ]
    ] in
    split (has_extension kind s) (is_later kind s) refl refl

one_more : (kind : ℕ) (s : List ℕ) → has_extension kind s ≡ true → is_later kind s ≡ false →
    chain_of (length s) kind s ≡ behind_extension (extension_of kind s) (chain_of (length (drop (extension_size kind s) s)) (get_or s 0 0) (drop (extension_size kind s) s))
one_more kind s e l =
    let long : 8 ≤ length s = eight_fit kind s e in
    let least : 8 ≤ extension_size kind s = size_least kind s in
    let shorter : length (drop (extension_size kind s) s) ≡ length s - extension_size kind s = length-drop (extension_size kind s) s in
    let turns : length s ≡ suc (length s - 1) = omega arith in
    ap (λ (n : ℕ). chain_of n kind s) turns
    ∙ chain_more (length s - 1) kind s e l
    ∙ ap (λ (c : Chain). behind_extension (extension_of kind s) c) (chain_turns (length s - 1) (length (drop (extension_size kind s) s)) (get_or s 0 0) (drop (extension_size kind s) s) (omega arith) (omega arith))

pub nothing_in : (n : ℕ) → whole_in Nothing n ≡ Nothing
nothing_in n = elim (nat_le 0 n) as (λ b. cond b Nothing Nothing ≡ Nothing) [ true ↦ refl | false ↦ refl ]

-- ---- where the layers begin

later_by : (b c : Bool) (n : ℕ) → (b && c) ≡ true → cond b 8 (8 * (n + 1)) ≡ 8
later_by true c n e = refl
later_by false c n e = absurd cc

pub later_size : (kind : ℕ) (s : List ℕ) → is_later kind s ≡ true → extension_size kind s ≡ 8
later_size kind s e = later_by (is_fragment kind) (not ((word s 2 / 8) == 0)) (get_or s 1 0) e

behind_is : (named at : ℕ) (e : Extension) (c : Chain) → network_behind named at (behind_extension e c) ≡ network_behind at (at + extension_bytes e) c
behind_is named at e c =
    let same : at + (extension_bytes e + all_bytes c.extensions) ≡ at + extension_bytes e + all_bytes c.extensions = omega arith in
    λ i. network.Ipv6 (protocol_at at (at + extension_bytes e) c.extensions) (record { transport = c.carried.kind; at = same i })

pub drops : (at n : ℕ) (p : List ℕ) → drop n (drop at p) ≡ drop (at + n) p
drops at n p = drop-drop n at p ∙ ap (λ (k : ℕ). drop k p) (omega arith)

pub walk_stop : (named at kind : ℕ) (p : List ℕ) → has_extension kind (drop at p) ≡ false →
    network_behind named at (chain_of (length (drop at p)) kind (drop at p)) ≡ network.Ipv6 named (record { transport = whole_in (over_ipv6 kind) (length p - at); at = at })
walk_stop named at kind p e =
    ap (network_behind named at) (chain_stop (length (drop at p)) kind (drop at p) e)
    ∙ (let m : length (drop at p) ≡ length p - at = length-drop at p in
    let n : at + 0 ≡ at = omega arith in
    λ i. network.Ipv6 named (record { transport = whole_in (over_ipv6 kind) (m i); at = n i }))

pub walk_later : (named at kind : ℕ) (p : List ℕ) → has_extension kind (drop at p) ≡ true → is_later kind (drop at p) ≡ true →
    network_behind named at (chain_of (length (drop at p)) kind (drop at p)) ≡ network.Ipv6 at (record { transport = Nothing; at = at + 8 })
walk_later named at kind p e l =
    let long : 8 ≤ length (drop at p) = eight_fit kind (drop at p) e in
    let size : extension_bytes (extension_of kind (drop at p)) + 0 ≡ 8 = omega (arith, extension_is kind (drop at p) e, later_size kind (drop at p) l) in
    ap (network_behind named at) (chain_later (length (drop at p)) kind (drop at p) (omega arith) e l)
    ∙ (let none : whole_in Nothing (length (drop 8 (drop at p))) ≡ Nothing = nothing_in (length (drop 8 (drop at p))) in
    λ i. network.Ipv6 at (record { transport = none i; at = at + size i }))

pub walk_more : (named at kind : ℕ) (p : List ℕ) → has_extension kind (drop at p) ≡ true → is_later kind (drop at p) ≡ false →
    network_behind named at (chain_of (length (drop at p)) kind (drop at p))
    ≡ network_behind at (at + extension_size kind (drop at p)) (chain_of (length (drop (at + extension_size kind (drop at p)) p)) (get_or (drop at p) 0 0) (drop (at + extension_size kind (drop at p)) p))
walk_more named at kind p e l =
    ap (network_behind named at) (one_more kind (drop at p) e l)
    ∙ behind_is named at (extension_of kind (drop at p)) (chain_of (length (drop (extension_size kind (drop at p)) (drop at p))) (get_or (drop at p) 0 0) (drop (extension_size kind (drop at p)) (drop at p)))
    ∙ ap (λ (k : ℕ). network_behind at (at + k) (chain_of (length (drop (extension_size kind (drop at p)) (drop at p))) (get_or (drop at p) 0 0) (drop (extension_size kind (drop at p)) (drop at p)))) (extension_is kind (drop at p) e)
    ∙ ap (λ (r : List ℕ). network_behind at (at + extension_size kind (drop at p)) (chain_of (length r) (get_or (drop at p) 0 0) r)) (drops at (extension_size kind (drop at p)) p)
