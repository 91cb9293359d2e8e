-- What is found by its name among the cells of a frame where a number is replaced, or the tags are.
use Rattle.std.proofs.Common.{◌≡◌, ◌≢◌, ℕ, ◌%◌, ◌^◌, ◌<◌, true, false, cond, eqb, List, [], ◌∷◌, ◌++◌, Option, Some, None, refl, sym, ap, subst, ◌∙◌, arith}
use Rattle.std.{specs.Prelude.IsTrue, specs.Prelude.slice_index, specs.Option.option_map, specs.Option.option_or, proofs.lemmas.Bool.eq-eqb, proofs.lemmas.Bool.eqb-true}
use Rattle.of_layers.specs.Layers.{Item, Cell, Layers, Extension, addresses, ether_type, outer_tag, inner_tag, ipv6, options, fragment, items_of, next_before, cells_in, inner_cells, tag_cells, body_cells, cells, ttl}
use Rattle.of_layers.specs.{declared.field.Field.Field, declared.field.Field.TheVariants.VlanVid, declared.field.Field.TheVariants.VlanPcp, declared.transport.Transport.TheVariants.Nothing}
use Rattle.of_layers.specs.{Fields.row_of, Fields.number_of, Fields.is_settable, Looking.name_is, Looking.look_up, WellFormed.FitsItems, WellFormed.AreTags, WellFormed.IsLayers}
use Rattle.of_layers.proofs.Table.{number_below, same_number}
use Rattle.of_headers.proofs.LookLemmas.{look-append, or_none, lacks, no_name, IsOuter, vid_outer, lacks_body}
use Rattle.of_rewrite.proofs.Widths.{IsWide, cell_bits, settable_wide, ttl_wide, layers_wide, look_cut}
use Rattle.of_rewrite.{specs.Replaced.LeavesLayers, specs.Replaced.layers_with, specs.Replaced.layers_set, specs.Rewriting.header_updated, specs.Rewriting.carried_after, proofs.Finding.names_apart}
use Rattle.of_rewrite.proofs.{Kept.cut_at, Kept.cut_layers, KeptLayers.leaves, KeptLayers.leaves_ttl}

-- ---- a number is replaced

look_others : (m n : ℕ) (f : ℕ → ℕ) (cs : List Cell) → m ≢ n → look_up m (cut_at n f cs) ≡ look_up m cs
look_others m n f [] ne = refl
look_others m n f (c ∷ cs) ne =
    elim (name_is n c.name) as (λ t. name_is n c.name ≡ t → look_up m (cond t (record c { value = f c.value % 2 ^ c.width } ∷ cs) (c ∷ cut_at n f cs)) ≡ cond (name_is m c.name) (Some c.value) (look_up m cs)) [
      | true ↦ λ t. let k : name_is m c.name ≡ false = names_apart m n c.name ne t in rw k refl
      | false ↦ λ t. ap (λ (x : Option ℕ). cond (name_is m c.name) (Some c.value) x) (look_others m n f cs ne)
    ] refl

-- the names from 102 on are those of checksums
look_set : (m n v : ℕ) (l : Layers) → LeavesLayers n → m < 102 → look_up m (cells (layers_set n v l)) ≡ look_up m (cut_at n (λ x. v) (cells l))
unfolding layers_set row_of
look_set m n v l leaves below =
    let g : ℕ → ℕ = header_updated l.body n v in
    let k : ℕ → ℕ = carried_after l.body n v in
    let one : Layers = layers_with n (λ x. v) l in
    let two : Layers = layers_with 102 g one in
    ap (look_up m) (sym (cut_layers 103 k two (omega arith) (omega arith))) ∙ look_others m 103 k (cells two) (omega arith)
    ∙ ap (look_up m) (sym (cut_layers 102 g one (omega arith) (omega arith))) ∙ look_others m 102 g (cells one) (omega arith)
    ∙ ap (look_up m) (sym (cut_layers n (λ x. v) l leaves.0 leaves.1))

look_this : (n w v : ℕ) (l : Layers) → LeavesLayers n → n < 102 → IsWide n w → look_up n (cells (layers_set n v l)) ≡ option_map (λ x. v % 2 ^ w) (look_up n (cells l))
look_this n w v l leaves below wide = look_set n n v l leaves below ∙ look_cut n w (λ x. v) (cells l) (layers_wide n w wide l)

pub look_that : (m n v : ℕ) (l : Layers) → LeavesLayers n → m < 102 → m ≢ n → look_up m (cells (layers_set n v l)) ≡ look_up m (cells l)
look_that m n v l leaves below ne = look_set m n v l leaves below ∙ look_others m n (λ x. v) (cells l) ne

-- ---- a field is set

module _ (f : Field) (v : ℕ) (settable : IsTrue (is_settable f)) where
  same_found : (l : Layers) (g : Field) → number_of g ≡ number_of f → look_up (number_of g) (cells (layers_set (number_of f) v l)) ≡ option_map (λ x. v % 2 ^ cell_bits g) (look_up (number_of g) (cells l))
  same_found l g same =
      let is : g ≡ f = same_number g f same in
      let below : number_of f < 31 = number_below f in
      subst (λ (x : Field). look_up (number_of x) (cells (layers_set (number_of f) v l)) ≡ option_map (λ y. v % 2 ^ cell_bits x) (look_up (number_of x) (cells l))) (sym is)
      (look_this (number_of f) (cell_bits f) v l (leaves f settable) (omega arith) (settable_wide f settable))

  other_found : (l : Layers) (g : Field) → number_of g ≢ number_of f → look_up (number_of g) (cells (layers_set (number_of f) v l)) ≡ look_up (number_of g) (cells l)
  other_found l g other = let below : number_of g < 31 = number_below g in look_that (number_of g) (number_of f) v l (leaves f settable) (omega arith) other

  pub field_found : (l : Layers) (g : Field) → look_up (number_of g) (cells (layers_set (number_of f) v l)) ≡ cond (eqb (number_of g) (number_of f)) (option_map (λ x. v % 2 ^ cell_bits g) (look_up (number_of g) (cells l))) (look_up (number_of g) (cells l))
  field_found l g = elim (eqb (number_of g) (number_of f)) as (λ t. eqb (number_of g) (number_of f) ≡ t → look_up (number_of g) (cells (layers_set (number_of f) v l)) ≡ cond t (option_map (λ x. v % 2 ^ cell_bits g) (look_up (number_of g) (cells l))) (look_up (number_of g) (cells l))) [
    | true ↦ λ t. same_found l g (eqb-true (number_of g) (number_of f) t)
    | false ↦ λ t. other_found l g (λ e. let no : true ≡ false = sym (eq-eqb (number_of g) (number_of f) e) ∙ t in cc)
  ] refl

  -- what may not be set is not set
  pub not_set : (g : Field) (x y : Option ℕ) → is_settable g ≡ false → x ≡ cond (eqb (number_of g) (number_of f)) y x
  not_set g x y h = elim (eqb (number_of g) (number_of f)) as (λ t. eqb (number_of g) (number_of f) ≡ t → x ≡ cond t y x) [
    | true ↦ λ t. absurd (let is : g ≡ f = same_number g f (eqb-true (number_of g) (number_of f) t) in let yes : is_settable g ≡ true = ap is_settable is ∙ settable in let no : true ≡ false = sym yes ∙ h in cc)
    | false ↦ λ t. refl
  ] refl

  pub ttl_kept : (l : Layers) → look_up ttl (cells (layers_set (number_of f) v l)) ≡ look_up ttl (cells l)
  ttl_kept l = let below : number_of f < 31 = number_below f in look_that ttl (number_of f) v l (leaves f settable) (omega arith) (omega arith)

-- ---- the TTL is set

pub field_kept : (v : ℕ) (l : Layers) (g : Field) → look_up (number_of g) (cells (layers_set ttl v l)) ≡ look_up (number_of g) (cells l)
field_kept v l g = let below : number_of g < 31 = number_below g in look_that (number_of g) ttl v l leaves_ttl (omega arith) (omega arith)

pub ttl_found : (v : ℕ) (l : Layers) → look_up ttl (cells (layers_set ttl v l)) ≡ option_map (λ x. v % 2 ^ 8) (look_up ttl (cells l))
ttl_found v l = look_this ttl 8 v l leaves_ttl (omega arith) ttl_wide

-- ---- tags

abbrev with_tags : List (List ℕ) → Layers → Layers
with_tags ts l = record l { tags = ts }

inner_none : (n : ℕ) (ts : List (List ℕ)) → look_up n (inner_cells ts) ≡ None
inner_none n [] = refl
inner_none n (t ∷ ts) =
    look-append n (cells_in inner_tag t) (inner_cells ts)
    ∙ ap (λ (x : Option ℕ). option_or x (look_up n (inner_cells ts))) (no_name n inner_tag t refl)
    ∙ inner_none n ts

-- tags have numbers of their own
tags_none : (n : ℕ) (ts : List (List ℕ)) → lacks n outer_tag ≡ true → look_up n (tag_cells ts) ≡ None
tags_none n [] h = refl
tags_none n (t ∷ ts) h =
    look-append n (cells_in outer_tag t) (inner_cells ts)
    ∙ ap (λ (x : Option ℕ). option_or x (look_up n (inner_cells ts))) (no_name n outer_tag t h)
    ∙ inner_none n ts

abbrev behind_tags : Layers → List Cell
behind_tags l = cells_in ether_type (l.type ∷ []) ++ body_cells l.body

look_through : (n : ℕ) (l : Layers) → look_up n (tag_cells l.tags) ≡ None → look_up n (cells l) ≡ option_or (look_up n (cells_in addresses l.ends)) (look_up n (behind_tags l))
look_through n l none =
    look-append n (cells_in addresses l.ends) (tag_cells l.tags ++ behind_tags l)
    ∙ ap (option_or (look_up n (cells_in addresses l.ends)))
    (look-append n (tag_cells l.tags) (behind_tags l) ∙ ap (λ (x : Option ℕ). option_or x (look_up n (behind_tags l))) none)

-- a number that tags lack is not theirs to decide
pub look_untagged : (n : ℕ) (ts : List (List ℕ)) (l : Layers) → lacks n outer_tag ≡ true → look_up n (cells (with_tags ts l)) ≡ look_up n (cells l)
look_untagged n ts l h = look_through n (with_tags ts l) (tags_none n ts h) ∙ sym (look_through n l (tags_none n l.tags h))

-- ---- VLAN_VID and VLAN_PCP

next_lacks : (n : ℕ) (es : List Extension) (is : Item → List Item) → lacks n (is (next_before [])) ≡ true → ((e : Extension) (rest : List Extension) → lacks n (is (next_before (e ∷ rest))) ≡ true) → lacks n (is (next_before es)) ≡ true
next_lacks n [] is a b = a
next_lacks n (e ∷ es) is a b = b e es

pcp_outer : IsOuter (number_of VlanPcp)
unfolding row_of
pcp_outer = record {
  no_arp = refl;
  no_ipv4 = refl;
  no_ipv6 = λ es. next_lacks 7 es ipv6 refl (λ e rest. refl);
  no_options = λ es. next_lacks 7 es options refl (λ e rest. refl);
  no_fragment = λ es. next_lacks 7 es fragment refl (λ e rest. refl);
  no_transport = λ t. elim t as (λ t. lacks 7 (items_of t) ≡ true) [ Nothing ↦ refl | _ ↦ refl ];
}

-- a field of tags is that of the outermost
look_tag : (n : ℕ) (l : Layers) → IsOuter n → lacks n addresses ≡ true → lacks n ether_type ≡ true → look_up n (cells l) ≡ look_up n (tag_cells l.tags)
look_tag n l outer ends type =
    look-append n (cells_in addresses l.ends) (tag_cells l.tags ++ behind_tags l)
    ∙ ap (λ (x : Option ℕ). option_or x (look_up n (tag_cells l.tags ++ behind_tags l))) (no_name n addresses l.ends ends)
    ∙ look-append n (tag_cells l.tags) (behind_tags l)
    ∙ ap (option_or (look_up n (tag_cells l.tags)))
    (look-append n (cells_in ether_type (l.type ∷ [])) (body_cells l.body)
    ∙ ap (λ (x : Option ℕ). option_or x (look_up n (body_cells l.body))) (no_name n ether_type (l.type ∷ []) type)
    ∙ lacks_body n outer l.body)
    ∙ or_none (look_up n (tag_cells l.tags))

first_tag : (n : ℕ) (t : List ℕ) (ts : List (List ℕ)) → look_up n (tag_cells (t ∷ ts)) ≡ look_up n (cells_in outer_tag t)
first_tag n t ts =
    look-append n (cells_in outer_tag t) (inner_cells ts) ∙ ap (option_or (look_up n (cells_in outer_tag t))) (inner_none n ts) ∙ or_none (look_up n (cells_in outer_tag t))

-- a number of the outermost tag
abbrev pub in_outermost : ℕ → List (List ℕ) → Option ℕ
in_outermost k [] = None
in_outermost k (t ∷ ts) = Some (slice_index t k)

tag_vid : (t : List ℕ) → FitsItems inner_tag t → look_up (number_of VlanVid) (cells_in outer_tag t) ≡ Some (slice_index t 3)
unfolding row_of
tag_vid [] h = absurd h
tag_vid (a ∷ []) h = absurd h.1
tag_vid (a ∷ b ∷ []) h = absurd h.1.1
tag_vid (a ∷ b ∷ c ∷ []) h = absurd h.1.1.1
tag_vid (a ∷ b ∷ c ∷ d ∷ rest) h = refl

tag_pcp : (t : List ℕ) → FitsItems inner_tag t → look_up (number_of VlanPcp) (cells_in outer_tag t) ≡ Some (slice_index t 1)
unfolding row_of
tag_pcp [] h = absurd h
tag_pcp (a ∷ []) h = absurd h.1
tag_pcp (a ∷ b ∷ rest) h = refl

vid_in : (ts : List (List ℕ)) → AreTags ts → look_up (number_of VlanVid) (tag_cells ts) ≡ in_outermost 3 ts
vid_in [] h = refl
vid_in (t ∷ ts) h = first_tag (number_of VlanVid) t ts ∙ tag_vid t h.0

pcp_in : (ts : List (List ℕ)) → AreTags ts → look_up (number_of VlanPcp) (tag_cells ts) ≡ in_outermost 1 ts
pcp_in [] h = refl
pcp_in (t ∷ ts) h = first_tag (number_of VlanPcp) t ts ∙ tag_pcp t h.0

pub vid_found : (l : Layers) → IsLayers l → look_up (number_of VlanVid) (cells l) ≡ in_outermost 3 l.tags
unfolding row_of
vid_found l h = look_tag (number_of VlanVid) l vid_outer refl refl ∙ vid_in l.tags h.tags

pub pcp_found : (l : Layers) → IsLayers l → look_up (number_of VlanPcp) (cells l) ≡ in_outermost 1 l.tags
unfolding row_of
pcp_found l h = look_tag (number_of VlanPcp) l pcp_outer refl refl ∙ pcp_in l.tags h.tags
