-- The longest chain that begins at a group.
use Rattle.std.proofs.Common.{◌≡◌, ℕ, zero, suc, ◌≤◌, ◌<◌, min, Bool, true, false, cond, List, [], ◌∷◌, length, Option, Some, None, refl, ap, arith}
use Rattle.std.specs.Option.{option_map_or}
use Rattle.of_groups.specs.Chains.{names_next, is_chain, AreShort, leads, chain, is_long}
use Rattle.of_groups.proofs.ChainLemmas.{there_found, on_found, chain_leads, leads_three, long_leads, leads_there, any_there}
use Rattle.of_groups.specs.{declared.group.Group.Group, Groups.find_group, Groups.is_there, Groups.any_named, Groups.names}
use Rattle.of_groups.proofs.NameLemmas.{named_number, any_passing}

-- a chain with this many groups after its first
abbrev pub Behind : List Group → ℕ → ℕ → Type 0
Behind groups k n = (behind : List ℕ) × (is_chain groups n behind ≡ true) × (length behind ≡ k)

one_more : (groups : List Group) (k n m : ℕ) → names_next groups n m ≡ true → Behind groups k m → Behind groups (suc k) n
one_more groups k n m next b = (m ∷ b.0, rw (next, b.1) refl, ap suc b.2)

pub led_chain : (groups : List Group) (k n : ℕ) → leads groups k n ≡ true → Behind groups k n
unfolding leads
led_chain groups zero n h = ([], h, refl)
led_chain groups (suc k) n h = by_found (find_group n groups) refl (led_chain groups k) h
  where
    by_found : (o : Option Group) → find_group n groups ≡ o → ((m : ℕ) → leads groups k m ≡ true → Behind groups k m) → option_map_or (any_named (leads groups k)) o false ≡ true → Behind groups (suc k) n
    by_found None e again t = absurd (cc)
    by_found (Some g) e again t =
        let m = named_number (leads groups k) g t in
        one_more groups k n m.0 (rw e m.1) (again m.0 m.2)

-- ---- the number

count : Bool → Bool → Bool → Bool → ℕ
count b3 b2 b1 b0 = cond b3 4 (cond b2 3 (cond b1 2 (cond b0 1 0)))

chain_is : (groups : List Group) (n : ℕ) → chain groups n ≡ count (leads groups 3 n) (leads groups 2 n) (leads groups 1 n) (leads groups 0 n)
unfolding chain count
chain_is groups n = refl

at_least_1 : (b3 b2 b1 b0 : Bool) → b0 ≡ true → 1 ≤ count b3 b2 b1 b0
unfolding count
at_least_1 true b2 b1 b0 e = omega arith
at_least_1 false true b1 b0 e = omega arith
at_least_1 false false true b0 e = omega arith
at_least_1 false false false true e = omega arith
at_least_1 false false false false e = absurd (cc)

at_least_2 : (b3 b2 b1 b0 : Bool) → b1 ≡ true → 2 ≤ count b3 b2 b1 b0
unfolding count
at_least_2 true b2 b1 b0 e = omega arith
at_least_2 false true b1 b0 e = omega arith
at_least_2 false false true b0 e = omega arith
at_least_2 false false false b0 e = absurd (cc)

at_least_3 : (b3 b2 b1 b0 : Bool) → b2 ≡ true → 3 ≤ count b3 b2 b1 b0
unfolding count
at_least_3 true b2 b1 b0 e = omega arith
at_least_3 false true b1 b0 e = omega arith
at_least_3 false false b1 b0 e = absurd (cc)

at_least_4 : (b3 b2 b1 b0 : Bool) → b3 ≡ true → 4 ≤ count b3 b2 b1 b0
unfolding count
at_least_4 true b2 b1 b0 e = omega arith
at_least_4 false b2 b1 b0 e = absurd (cc)

-- where this many can be reached, the chain has one more
pub led_counts : (groups : List Group) (k n : ℕ) → k ≤ 3 → leads groups k n ≡ true → suc k ≤ chain groups n
led_counts groups zero n le h = rw (chain_is groups n) (at_least_1 (leads groups 3 n) (leads groups 2 n) (leads groups 1 n) (leads groups 0 n) h)
led_counts groups (suc zero) n le h = rw (chain_is groups n) (at_least_2 (leads groups 3 n) (leads groups 2 n) (leads groups 1 n) (leads groups 0 n) h)
led_counts groups (suc (suc zero)) n le h = rw (chain_is groups n) (at_least_3 (leads groups 3 n) (leads groups 2 n) (leads groups 1 n) (leads groups 0 n) h)
led_counts groups (suc (suc (suc zero))) n le h = rw (chain_is groups n) (at_least_4 (leads groups 3 n) (leads groups 2 n) (leads groups 1 n) (leads groups 0 n) h)
led_counts groups (suc (suc (suc (suc k)))) n le h = absurd (omega (arith, le))

led_least : (groups : List Group) (k n : ℕ) → leads groups k n ≡ true → min 4 (suc k) ≤ chain groups n
led_least groups zero n h = let more = led_counts groups 0 n (omega arith) h in omega (arith, more)
led_least groups (suc zero) n h = let more = led_counts groups 1 n (omega arith) h in omega (arith, more)
led_least groups (suc (suc zero)) n h = let more = led_counts groups 2 n (omega arith) h in omega (arith, more)
led_least groups (suc (suc (suc k))) n h = let more = led_counts groups 3 n (omega arith) (leads_three groups k n h) in omega (arith, more)

pub chain_counts : (groups : List Group) (n : ℕ) (behind : List ℕ) → is_chain groups n behind ≡ true → min 4 (suc (length behind)) ≤ chain groups n
chain_counts groups n behind h = led_least groups (length behind) n (chain_leads groups n behind h)

-- the number is that of some chain
abbrev Counted : List Group → ℕ → ℕ → Type 0
Counted groups n c = 0 < c → (behind : List ℕ) × (is_chain groups n behind ≡ true) × (suc (length behind) ≡ c)

counted_chain : (groups : List Group) (k n : ℕ) → leads groups k n ≡ true → Counted groups n (suc k)
counted_chain groups k n h some = let b = led_chain groups k n h in (b.0, b.1, ap suc b.2)

counted_by : (groups : List Group) (n : ℕ) (b3 b2 b1 b0 : Bool) → leads groups 3 n ≡ b3 → leads groups 2 n ≡ b2 → leads groups 1 n ≡ b1 → leads groups 0 n ≡ b0 → Counted groups n (count b3 b2 b1 b0)
unfolding count
counted_by groups n true b2 b1 b0 e3 e2 e1 e0 = counted_chain groups 3 n e3
counted_by groups n false true b1 b0 e3 e2 e1 e0 = counted_chain groups 2 n e2
counted_by groups n false false true b0 e3 e2 e1 e0 = counted_chain groups 1 n e1
counted_by groups n false false false true e3 e2 e1 e0 = counted_chain groups 0 n e0
counted_by groups n false false false false e3 e2 e1 e0 = λ some. absurd (omega (arith, some))

pub counted_is_chain : (groups : List Group) (n : ℕ) → Counted groups n (chain groups n)
counted_is_chain groups n = rw (chain_is groups n) (counted_by groups n (leads groups 3 n) (leads groups 2 n) (leads groups 1 n) (leads groups 0 n) refl refl refl refl)

-- ---- long chains

abbrev pub Long : List Group → Type 0
Long groups = (n : ℕ) × (behind : List ℕ) × (is_chain groups n behind ≡ true) × (3 ≤ length behind)

pub long_chain : (groups : List Group) → is_long groups ≡ true → Long groups
long_chain groups h =
    let g = any_passing (λ (g : Group). leads groups 3 g.id) groups h in
    let b = led_chain groups 3 g.0.id g.1 in
    (g.0.id, b.0, b.1, omega (arith, b.2))

pub chain_long : (groups : List Group) → Long groups → is_long groups ≡ true
chain_long groups l =
    let led = long_leads groups l.0 l.1 l.2 l.3 in
    any_there (leads groups 3) l.0 groups (leads_there groups 3 l.0 led) led

-- ---- where no chain is long

at_most_3 : (b2 b1 b0 : Bool) → count false b2 b1 b0 ≤ 3
unfolding count
at_most_3 true b1 b0 = omega arith
at_most_3 false true b0 = omega arith
at_most_3 false false true = omega arith
at_most_3 false false false = omega arith

pub chain_at_most : (groups : List Group) (n : ℕ) → AreShort groups → chain groups n ≤ 3
chain_at_most groups n short = by_test (leads groups 3 n) refl
  where
    by_test : (b : Bool) → leads groups 3 n ≡ b → chain groups n ≤ 3
    by_test true e = let b = led_chain groups 3 n e in let le = short n b.0 b.1 in absurd (omega (arith, le, b.2))
    by_test false e = rw (chain_is groups n, e) (at_most_3 (leads groups 2 n) (leads groups 1 n) (leads groups 0 n))

pub chain_there : (groups : List Group) (n : ℕ) → is_there n groups ≡ true → 0 < chain groups n
unfolding leads
chain_there groups n h = let more = led_counts groups 0 n (omega arith) h in omega (arith, more)

-- a group that another names begins shorter chains
pub chain_falls : (groups : List Group) (n m : ℕ) → AreShort groups → names_next groups n m ≡ true → chain groups m < chain groups n
chain_falls groups n m short next = by_count (chain groups m) (counted_is_chain groups m)
  where
    by_count : (c : ℕ) → Counted groups m c → c < chain groups n
    by_count zero counted = chain_there groups n (rw (there_found n groups) (on_found (names m) (find_group n groups) next))
    by_count (suc c) counted =
        let b = counted (omega arith) in
        let longer : is_chain groups n (m ∷ b.0) ≡ true = rw (next, b.1) refl in
        let few = short n (m ∷ b.0) longer in
        let more = chain_counts groups n (m ∷ b.0) longer in
        omega (arith, few, more, b.2)
