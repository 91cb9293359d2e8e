-- Where a number is replaced the layering stays.
use Rattle.std.proofs.Common.{◌≡◌, ◌≢◌, ℕ, ◌%◌, ◌^◌, Bool, true, false, cond, List, [], ◌∷◌, ◌++◌, refl, sym, ap, ◌∙◌, append_assoc}
use Rattle.std.{specs.Prelude.◌==◌, specs.Prelude.◌||◌, specs.Prelude.not, specs.Prelude.nat_lt, proofs.lemmas.Bool.ne_eqb, proofs.lemmas.Bool.eqb-true}
use Rattle.of_layers.specs.Layers.{Item, Cell, Layers, Carried, Extension, Options, Fragment, Body, Plain, Arp, Ipv4, Ipv6, cells_in, byte_cells, inner_cells, tag_cells, extension_cells, carried_cells, body_cells, cells, addresses, outer_tag, ether_type, arp, ipv4, ipv6, options, fragment, items_of, next_before}
use Rattle.of_layers.specs.{declared.transport.Transport.Transport, declared.transport.Transport.TheVariants.Nothing, Fields.row_of, Looking.name_is}
use Rattle.of_rewrite.specs.Replaced.{numbers_with, tags_with, carried_with, body_with, layers_with}
use Rattle.of_rewrite.proofs.Parts.{has, All, all_has, apart_by, all_append, all_bytes as all_byte_cells, all_in, passes}
use Rattle.of_rewrite.proofs.Covering.{outside, no_carried, front_outside, all_inner, all_tags, extensions_pass, ipv6_pass, items_carried}

-- ---- the same cells with one number changed, to as many bits as it has

abbrev pub cut_at : ℕ → (ℕ → ℕ) → List Cell → List Cell
cut_at n f [] = []
cut_at n f (c ∷ cs) = cond (name_is n c.name) (record c { value = f c.value % 2 ^ c.width } ∷ cs) (c ∷ cut_at n f cs)

cut_front : (n : ℕ) (f : ℕ → ℕ) (a b : List Cell) → has n a ≡ true → cut_at n f (a ++ b) ≡ cut_at n f a ++ b
cut_front n f [] b h = absurd cc
cut_front n f (c ∷ a) b h =
    elim (name_is n c.name) as (λ t. (t || has n a) ≡ true → cond t (record c { value = f c.value % 2 ^ c.width } ∷ (a ++ b)) (c ∷ cut_at n f (a ++ b)) ≡ cond t (record c { value = f c.value % 2 ^ c.width } ∷ a) (c ∷ cut_at n f a) ++ b) [
      | true ↦ λ g. refl
      | false ↦ λ g. ap (λ (x : List Cell). c ∷ x) (cut_front n f a b g)
    ] h

cut_back : (n : ℕ) (f : ℕ → ℕ) (a b : List Cell) → has n a ≡ false → cut_at n f (a ++ b) ≡ a ++ cut_at n f b
cut_back n f [] b h = refl
cut_back n f (c ∷ a) b h =
    elim (name_is n c.name) as (λ t. (t || has n a) ≡ false → cond t (record c { value = f c.value % 2 ^ c.width } ∷ (a ++ b)) (c ∷ cut_at n f (a ++ b)) ≡ c ∷ (a ++ cut_at n f b)) [
      | true ↦ λ g. absurd cc
      | false ↦ λ g. ap (λ (x : List Cell). c ∷ x) (cut_back n f a b g)
    ] h

pub cut_none : (n : ℕ) (f : ℕ → ℕ) (a : List Cell) → has n a ≡ false → cut_at n f a ≡ a
cut_none n f [] h = refl
cut_none n f (c ∷ a) h =
    elim (name_is n c.name) as (λ t. (t || has n a) ≡ false → cond t (record c { value = f c.value % 2 ^ c.width } ∷ a) (c ∷ cut_at n f a) ≡ c ∷ a) [
      | true ↦ λ g. absurd cc
      | false ↦ λ g. ap (λ (x : List Cell). c ∷ x) (cut_none n f a g)
    ] h

-- part by part, where the parts have different names
cut_parts : (n : ℕ) (f : ℕ → ℕ) (a b : List Cell) → (has n a ≡ true → has n b ≡ false) → cut_at n f (a ++ b) ≡ cut_at n f a ++ cut_at n f b
cut_parts n f a b apart =
    elim (has n a) as (λ t. has n a ≡ t → cut_at n f (a ++ b) ≡ cut_at n f a ++ cut_at n f b) [
      | true ↦ λ h. cut_front n f a b h ∙ ap (λ (x : List Cell). cut_at n f a ++ x) (sym (cut_none n f b (apart h)))
      | false ↦ λ h. cut_back n f a b h ∙ ap (λ (x : List Cell). x ++ cut_at n f b) (sym (cut_none n f a h))
    ] refl

pub cut_cells : (n : ℕ) (f : ℕ → ℕ) (is : List Item) (ns : List ℕ) → cut_at n f (cells_in is ns) ≡ cells_in is (numbers_with n f is ns)
cut_cells n f [] ns = refl
cut_cells n f (i ∷ is) [] = refl
cut_cells n f (i ∷ is) (m ∷ ns) =
    let c : Cell = record { name = i.name; width = i.width; value = m } in
    elim (name_is n i.name) as (λ t. cond t (record { name = i.name; width = i.width; value = f m % 2 ^ i.width } ∷ cells_in is ns) (record { name = i.name; width = i.width; value = m } ∷ cut_at n f (cells_in is ns)) ≡ cells_in (i ∷ is) (cond t ((f m % 2 ^ i.width) ∷ ns) (m ∷ numbers_with n f is ns))) [
      | true ↦ refl
      | false ↦ ap (λ (x : List Cell). record { name = i.name; width = i.width; value = m } ∷ x) (cut_cells n f is ns)
    ]

-- ---- names: none at all; a part in front of others

abbrev none_named : ℕ → Bool
none_named n = false

nameless : (n : ℕ) (cs : List Cell) → All none_named cs → has n cs ≡ false
nameless n cs h = elim (has n cs) as (λ t. has n cs ≡ t → t ≡ false) [
  | true ↦ λ e. absurd (let z : false ≡ true = all_has none_named n cs h e in cc)
  | false ↦ λ e. refl
] refl

pub absent_by : (q : ℕ → Bool) (n : ℕ) (cs : List Cell) → All q cs → q n ≡ false → has n cs ≡ false
absent_by q n cs h e = elim (has n cs) as (λ t. has n cs ≡ t → t ≡ false) [
  | true ↦ λ k. absurd (let z : q n ≡ true = all_has q n cs h k in let y : true ≡ false = sym z ∙ e in cc)
  | false ↦ λ k. refl
] refl

has_both : (n : ℕ) (a b : List Cell) → has n a ≡ false → has n b ≡ false → has n (a ++ b) ≡ false
has_both n [] b h k = k
has_both n (c ∷ a) b h k = elim (name_is n c.name) as (λ t. (t || has n a) ≡ false → (t || has n (a ++ b)) ≡ false) [
  | true ↦ λ g. absurd cc
  | false ↦ λ g. has_both n a b g k
] h

-- after a part the others have no such name
pub cut_named : (n : ℕ) (f : ℕ → ℕ) (a b : List Cell) → has n b ≡ false → cut_at n f (a ++ b) ≡ cut_at n f a ++ b
cut_named n f a b h = cut_parts n f a b (λ _. h) ∙ ap (λ (x : List Cell). cut_at n f a ++ x) (cut_none n f b h)

pub bytes_nameless : (n : ℕ) (s : List ℕ) → has n (byte_cells s) ≡ false
bytes_nameless n s = nameless n (byte_cells s) (all_byte_cells none_named s)

inner_nameless : (n : ℕ) (ts : List (List ℕ)) → has n (inner_cells ts) ≡ false
inner_nameless n ts = nameless n (inner_cells ts) (all_inner none_named ts)

cut_tags : (n : ℕ) (f : ℕ → ℕ) (ts : List (List ℕ)) → cut_at n f (tag_cells ts) ≡ tag_cells (tags_with n f ts)
cut_tags n f [] = refl
cut_tags n f (t ∷ ts) = cut_named n f (cells_in outer_tag t) (inner_cells ts) (inner_nameless n ts) ∙ ap (λ (x : List Cell). x ++ inner_cells ts) (cut_cells n f outer_tag t)

extensions_named : (es : List Extension) → All (λ n. n == 10) (extension_cells es)
unfolding row_of
extensions_named [] = tt
extensions_named (Options ns bytes ∷ []) = all_append (λ n. n == 10) (cells_in (options (next_before [])) ns) (byte_cells bytes ++ []) (all_in (λ n. n == 10) (options (next_before [])) ns refl) (all_append (λ n. n == 10) (byte_cells bytes) [] (all_byte_cells (λ n. n == 10) bytes) tt)
extensions_named (Options ns bytes ∷ (e ∷ es)) = all_append (λ n. n == 10) (cells_in (options (next_before (e ∷ es))) ns) (byte_cells bytes ++ extension_cells (e ∷ es)) (all_in (λ n. n == 10) (options (next_before (e ∷ es))) ns refl) (all_append (λ n. n == 10) (byte_cells bytes) (extension_cells (e ∷ es)) (all_byte_cells (λ n. n == 10) bytes) (extensions_named (e ∷ es)))
extensions_named (Fragment ns ∷ []) = all_append (λ n. n == 10) (cells_in (fragment (next_before [])) ns) [] (all_in (λ n. n == 10) (fragment (next_before [])) ns refl) tt
extensions_named (Fragment ns ∷ (e ∷ es)) = all_append (λ n. n == 10) (cells_in (fragment (next_before (e ∷ es))) ns) (extension_cells (e ∷ es)) (all_in (λ n. n == 10) (fragment (next_before (e ∷ es))) ns refl) (extensions_named (e ∷ es))

extensions_nameless : (n : ℕ) (es : List Extension) → n ≢ 10 → has n (extension_cells es) ≡ false
extensions_nameless n es h = absent_by (λ n. n == 10) n (extension_cells es) (extensions_named es) (ne_eqb n 10 h)

-- ---- what follows the type

assoc_last : (h o c r z : List Cell) → h ++ (o ++ ((c ++ r) ++ z)) ≡ (h ++ o) ++ (c ++ (r ++ z))
assoc_last h o c r z = simp append_assoc

-- what an IP packet has: a header with what belongs to it, and what it carries
cut_packet : (n : ℕ) (f : ℕ → ℕ) (is : List Item) (ns : List ℕ) (os : List Cell) (c : Carried) (rest : List ℕ) → has n os ≡ false →
    (has n (cells_in is ns ++ os) ≡ true → has n (cells_in (items_of c.kind) c.numbers) ≡ false) →
    cut_at n f (cells_in is ns ++ (os ++ (carried_cells c ++ byte_cells rest))) ≡ cells_in is (numbers_with n f is ns) ++ (os ++ (carried_cells (carried_with n f c) ++ byte_cells rest))
cut_packet n f is ns os c rest none apart =
    let hs : List Cell = cells_in is ns in
    let cs : List Cell = cells_in (items_of c.kind) c.numbers in
    let rs : List Cell = byte_cells c.rest in
    let zs : List Cell = byte_cells rest in
    let tail : has n (byte_cells c.rest ++ byte_cells rest) ≡ false = has_both n rs zs (bytes_nameless n c.rest) (bytes_nameless n rest) in
    let far : has n (hs ++ os) ≡ true → has n (cs ++ (rs ++ zs)) ≡ false = λ e. has_both n cs (rs ++ zs) (apart e) tail in
    ap (cut_at n f) (assoc_last hs os cs rs zs)
    ∙ cut_parts n f (hs ++ os) (cs ++ (rs ++ zs)) far
    ∙ (λ j. (cut_named n f hs os none ∙ ap (λ (x : List Cell). x ++ os) (cut_cells n f is ns)) j ++ (cut_named n f cs (rs ++ zs) tail ∙ ap (λ (x : List Cell). x ++ (rs ++ zs)) (cut_cells n f (items_of c.kind) c.numbers)) j)
    ∙ sym (assoc_last (cells_in is (numbers_with n f is ns)) os (cells_in (items_of c.kind) (numbers_with n f (items_of c.kind) c.numbers)) rs zs)

pub cut_body : (n : ℕ) (f : ℕ → ℕ) (b : Body) → n ≢ 10 → cut_at n f (body_cells b) ≡ body_cells (body_with n f b)
unfolding row_of
cut_body n f (Plain rest) h = cut_none n f (byte_cells rest) (bytes_nameless n rest)
cut_body n f (Arp ns rest) h = cut_named n f (cells_in arp ns) (byte_cells rest) (bytes_nameless n rest) ∙ ap (λ (x : List Cell). x ++ byte_cells rest) (cut_cells n f arp ns)
cut_body n f (Ipv4 ns o c rest) h =
    cut_packet n f ipv4 ns (byte_cells o) c rest (bytes_nameless n o)
    (apart_by no_carried (cells_in ipv4 ns ++ byte_cells o) (cells_in (items_of c.kind) c.numbers) (all_append no_carried (cells_in ipv4 ns) (byte_cells o) (all_in no_carried ipv4 ns refl) (all_byte_cells no_carried o)) (all_in (λ n. not (no_carried n)) (items_of c.kind) c.numbers (items_carried c.kind)) n)
cut_body n f (Ipv6 ns es c rest) h =
    cut_packet n f (ipv6 (next_before es)) ns (extension_cells es) c rest (extensions_nameless n es h)
    (apart_by no_carried (cells_in (ipv6 (next_before es)) ns ++ extension_cells es) (cells_in (items_of c.kind) c.numbers) (all_append no_carried (cells_in (ipv6 (next_before es)) ns) (extension_cells es) (all_in no_carried (ipv6 (next_before es)) ns (ipv6_pass es)) (extensions_pass es)) (all_in (λ n. not (no_carried n)) (items_of c.kind) c.numbers (items_carried c.kind)) n)

-- ---- the frame

abbrev inside : ℕ → Bool
inside n = not (outside n)

ipv6_inside : (es : List Extension) → passes inside (ipv6 (next_before es)) ≡ true
unfolding row_of
ipv6_inside [] = refl
ipv6_inside (e ∷ es) = refl

items_inside : (k : Transport) → passes inside (items_of k) ≡ true
unfolding row_of
items_inside k = elim k as (λ k. passes inside (items_of k) ≡ true) [ Nothing ↦ refl | _ ↦ refl ]

weaken : (p q : ℕ → Bool) (cs : List Cell) → ((n : ℕ) → p n ≡ true → q n ≡ true) → All p cs → All q cs
weaken p q [] w h = tt
weaken p q (c ∷ cs) w h = ((λ n e. w n (h.0 n e)), weaken p q cs w h.1)

ten_inside : (n : ℕ) → (n == 10) ≡ true → inside n ≡ true
ten_inside n e = let same : n ≡ 10 = eqb-true n 10 e in rw same refl

carried_inside : (c : Carried) (rest : List ℕ) → All inside (carried_cells c ++ byte_cells rest)
carried_inside c rest = all_append inside (carried_cells c) (byte_cells rest) (all_append inside (cells_in (items_of c.kind) c.numbers) (byte_cells c.rest) (all_in inside (items_of c.kind) c.numbers (items_inside c.kind)) (all_byte_cells inside c.rest)) (all_byte_cells inside rest)

body_inside : (b : Body) → All inside (body_cells b)
unfolding row_of
body_inside (Plain rest) = all_byte_cells inside rest
body_inside (Arp ns rest) = all_append inside (cells_in arp ns) (byte_cells rest) (all_in inside arp ns refl) (all_byte_cells inside rest)
body_inside (Ipv4 ns o c rest) = all_append inside (cells_in ipv4 ns) (byte_cells o ++ (carried_cells c ++ byte_cells rest)) (all_in inside ipv4 ns refl) (all_append inside (byte_cells o) (carried_cells c ++ byte_cells rest) (all_byte_cells inside o) (carried_inside c rest))
body_inside (Ipv6 ns es c rest) =
    all_append inside (cells_in (ipv6 (next_before es)) ns) (extension_cells es ++ (carried_cells c ++ byte_cells rest)) (all_in inside (ipv6 (next_before es)) ns (ipv6_inside es))
    (all_append inside (extension_cells es) (carried_cells c ++ byte_cells rest) (weaken (λ n. n == 10) inside (extension_cells es) ten_inside (extensions_named es)) (carried_inside c rest))

abbrev before_tags : ℕ → Bool
before_tags n = nat_lt n 5

ends_before : (ns : List ℕ) → All before_tags (cells_in addresses ns)
unfolding row_of
ends_before ns = all_in before_tags addresses ns refl

tags_behind : (ts : List (List ℕ)) (type : ℕ) → All (λ n. not (before_tags n)) (tag_cells ts ++ cells_in ether_type (type ∷ []))
unfolding row_of
tags_behind ts type = all_append (λ n. not (before_tags n)) (tag_cells ts) (cells_in ether_type (type ∷ [])) (all_tags (λ n. not (before_tags n)) ts refl) (all_in (λ n. not (before_tags n)) ether_type (type ∷ []) refl)

type_named : (type : ℕ) → All (λ n. n == 5) (cells_in ether_type (type ∷ []))
unfolding row_of
type_named type = all_in (λ n. n == 5) ether_type (type ∷ []) refl

assoc_front : (a t y b : List Cell) → a ++ (t ++ (y ++ b)) ≡ (a ++ (t ++ y)) ++ b
assoc_front a t y b = simp append_assoc

pub cut_layers : (n : ℕ) (f : ℕ → ℕ) (l : Layers) → n ≢ 5 → n ≢ 10 → cut_at n f (cells l) ≡ cells (layers_with n f l)
cut_layers n f l h k =
    let a : List Cell = cells_in addresses l.ends in
    let t : List Cell = tag_cells l.tags in
    let y : List Cell = cells_in ether_type (l.type ∷ []) in
    let b : List Cell = body_cells l.body in
    let none : has n (cells_in ether_type (l.type ∷ [])) ≡ false = absent_by (λ n. n == 5) n y (type_named l.type) (ne_eqb n 5 h) in
    let tags : cut_at n f (t ++ y) ≡ tag_cells (tags_with n f l.tags) ++ y = cut_named n f t y none ∙ ap (λ (x : List Cell). x ++ y) (cut_tags n f l.tags) in
    let front : cut_at n f (a ++ (t ++ y)) ≡ cells_in addresses (numbers_with n f addresses l.ends) ++ (tag_cells (tags_with n f l.tags) ++ y) =
    cut_parts n f a (t ++ y) (apart_by before_tags a (t ++ y) (ends_before l.ends) (tags_behind l.tags l.type) n) ∙ (λ j. cut_cells n f addresses l.ends j ++ tags j) in
    ap (cut_at n f) (assoc_front a t y b)
    ∙ cut_parts n f (a ++ (t ++ y)) b (apart_by outside (a ++ (t ++ y)) b (front_outside l) (body_inside l.body) n)
    ∙ (λ j. front j ++ cut_body n f l.body k j)
    ∙ sym (assoc_front (cells_in addresses (numbers_with n f addresses l.ends)) (tag_cells (tags_with n f l.tags)) y (body_cells (body_with n f l.body)))
