-- Looking a field up in cells.
use Rattle.std.proofs.Common.{◌≡◌, ℕ, zero, suc, Bool, true, false, cond, ◌&&◌, List, [], ◌∷◌, ◌++◌, drop, Option, Some, None, refl, sym, ap, ◌∙◌}
use Rattle.std.specs.{Prelude.not, Option.option_or}
use Rattle.of_layers.specs.Layers.{Item, Cell, Extension, Options, Fragment, Body, Plain, Arp, Ipv4, Ipv6, Carried, cells_in, byte_cells, inner_cells, tag_cells, extension_cells, carried_cells, body_cells, next_before, outer_tag, arp, ipv4, ipv6, options, fragment, items_of}
use Rattle.of_layers.specs.{declared.field.Field.TheVariants.VlanVid, declared.transport.Transport.Transport, declared.transport.Transport.TheVariants.Nothing, Fields.row_of, Fields.number_of}
use Rattle.of_layers.specs.{Reading.tags_of, Reading.tag_numbers, Looking.name_is, Looking.look_up}

pub look-append : (n : ℕ) (a b : List Cell) → look_up n (a ++ b) ≡ option_or (look_up n a) (look_up n b)
look-append n [] b = refl
look-append n (c ∷ a) b =
    elim (name_is n c.name) as (λ t. cond t (Some c.value) (look_up n (a ++ b)) ≡ option_or (cond t (Some c.value) (look_up n a)) (look_up n b)) [
      | true ↦ refl
      | false ↦ look-append n a b
    ]

pub look_bytes : (n : ℕ) (s : List ℕ) → look_up n (byte_cells s) ≡ None
look_bytes n [] = refl
look_bytes n (b ∷ s) = look_bytes n s

pub or_none : (a : Option ℕ) → option_or a None ≡ a
or_none None = refl
or_none (Some a) = refl

pub or_assoc : (a b c : Option ℕ) → option_or (option_or a b) c ≡ option_or a (option_or b c)
or_assoc None b c = refl
or_assoc (Some a) b c = refl

-- bytes after cells hold no field
pub look_front : (n : ℕ) (a : List Cell) (s : List ℕ) → look_up n (a ++ byte_cells s) ≡ look_up n a
look_front n a s = look-append n a (byte_cells s) ∙ ap (option_or (look_up n a)) (look_bytes n s) ∙ or_none (look_up n a)

-- nor do those before them
pub look_behind : (n : ℕ) (s : List ℕ) (a : List Cell) → look_up n (byte_cells s ++ a) ≡ look_up n a
look_behind n s a = look-append n (byte_cells s) a ∙ ap (λ (x : Option ℕ). option_or x (look_up n a)) (look_bytes n s)

-- ---- tags

look_inner : (n m : ℕ) (s : List ℕ) → look_up n (inner_cells (tags_of m s)) ≡ None
look_inner n zero s = refl
look_inner n (suc m) s = look_inner n m (drop 4 s)

-- only the outermost tag is seen
pub look_tags : (n m : ℕ) (s : List ℕ) → look_up n (tag_cells (tags_of (suc m) s)) ≡ look_up n (cells_in outer_tag (tag_numbers s))
look_tags n m s =
    look-append n (cells_in outer_tag (tag_numbers s)) (inner_cells (tags_of m (drop 4 s)))
    ∙ ap (λ (x : Option ℕ). option_or (look_up n (cells_in outer_tag (tag_numbers s))) x) (look_inner n m (drop 4 s))
    ∙ or_none (look_up n (cells_in outer_tag (tag_numbers s)))

-- ---- names that do not occur

-- no item has this name
abbrev pub lacks : ℕ → List Item → Bool
lacks n [] = true
lacks n (i ∷ is) = not (name_is n i.name) && lacks n is

no_name_by : (b c : Bool) (v : ℕ) (x : Option ℕ) → (not b && c) ≡ true → (c ≡ true → x ≡ None) → cond b (Some v) x ≡ None
no_name_by true c v x e h = absurd cc
no_name_by false c v x e h = h e

pub no_name : (n : ℕ) (is : List Item) (ns : List ℕ) → lacks n is ≡ true → look_up n (cells_in is ns) ≡ None
no_name n [] ns e = refl
no_name n (i ∷ is) [] e = refl
no_name n (i ∷ is) (m ∷ ns) e = no_name_by (name_is n i.name) (lacks n is) m (look_up n (cells_in is ns)) e (no_name n is ns)

next_lacks : (n : ℕ) (es : List Extension) (is : Item → List Item) → lacks n (is (next_before [])) ≡ true → ((e : Extension) (rest : List Extension) → lacks n (is (next_before (e ∷ rest))) ≡ true) → lacks n (is (next_before es)) ≡ true
next_lacks n [] is a b = a
next_lacks n (e ∷ es) is a b = b e es

-- a body names neither of a tag's fields, nor any other that is not of its own
pub record IsOuter (n : ℕ) : Type 0 where
  pub no_arp : lacks n arp ≡ true
  pub no_ipv4 : lacks n ipv4 ≡ true
  pub no_ipv6 : (es : List Extension) → lacks n (ipv6 (next_before es)) ≡ true
  pub no_options : (es : List Extension) → lacks n (options (next_before es)) ≡ true
  pub no_fragment : (es : List Extension) → lacks n (fragment (next_before es)) ≡ true
  pub no_transport : (t : Transport) → lacks n (items_of t) ≡ true

pub vid_outer : IsOuter (number_of VlanVid)
unfolding row_of
vid_outer = record {
  no_arp = refl;
  no_ipv4 = refl;
  no_ipv6 = λ es. next_lacks 6 es ipv6 refl (λ e rest. refl);
  no_options = λ es. next_lacks 6 es options refl (λ e rest. refl);
  no_fragment = λ es. next_lacks 6 es fragment refl (λ e rest. refl);
  no_transport = λ t. elim t as (λ t. lacks 6 (items_of t) ≡ true) [ Nothing ↦ refl | _ ↦ refl ];
}

lacks_extensions : (n : ℕ) → IsOuter n → (es : List Extension) → look_up n (extension_cells es) ≡ None
lacks_extensions n h [] = refl
lacks_extensions n h (Options ns bytes ∷ es) =
    look-append n (cells_in (options (next_before es)) ns) (byte_cells bytes ++ extension_cells es)
    ∙ ap (λ (x : Option ℕ). option_or x (look_up n (byte_cells bytes ++ extension_cells es))) (no_name n (options (next_before es)) ns (h.no_options es))
    ∙ look_behind n bytes (extension_cells es)
    ∙ lacks_extensions n h es
lacks_extensions n h (Fragment ns ∷ es) =
    look-append n (cells_in (fragment (next_before es)) ns) (extension_cells es)
    ∙ ap (λ (x : Option ℕ). option_or x (look_up n (extension_cells es))) (no_name n (fragment (next_before es)) ns (h.no_fragment es))
    ∙ lacks_extensions n h es

lacks_carried : (n : ℕ) → IsOuter n → (c : Carried) → look_up n (carried_cells c) ≡ None
lacks_carried n h c = look_front n (cells_in (items_of c.kind) c.numbers) c.rest ∙ no_name n (items_of c.kind) c.numbers (h.no_transport c.kind)

pub lacks_body : (n : ℕ) → IsOuter n → (b : Body) → look_up n (body_cells b) ≡ None
lacks_body n h (Plain rest) = look_bytes n rest
lacks_body n h (Arp ns rest) = look_front n (cells_in arp ns) rest ∙ no_name n arp ns h.no_arp
lacks_body n h (Ipv4 ns opts carried rest) =
    look-append n (cells_in ipv4 ns) (byte_cells opts ++ (carried_cells carried ++ byte_cells rest))
    ∙ ap (λ (x : Option ℕ). option_or x (look_up n (byte_cells opts ++ (carried_cells carried ++ byte_cells rest)))) (no_name n ipv4 ns h.no_ipv4)
    ∙ look_behind n opts (carried_cells carried ++ byte_cells rest)
    ∙ look_front n (carried_cells carried) rest
    ∙ lacks_carried n h carried
lacks_body n h (Ipv6 ns es carried rest) =
    look-append n (cells_in (ipv6 (next_before es)) ns) (extension_cells es ++ (carried_cells carried ++ byte_cells rest))
    ∙ ap (λ (x : Option ℕ). option_or x (look_up n (extension_cells es ++ (carried_cells carried ++ byte_cells rest)))) (no_name n (ipv6 (next_before es)) ns (h.no_ipv6 es))
    ∙ look-append n (extension_cells es) (carried_cells carried ++ byte_cells rest)
    ∙ ap (λ (x : Option ℕ). option_or x (look_up n (carried_cells carried ++ byte_cells rest))) (lacks_extensions n h es)
    ∙ look_front n (carried_cells carried) rest
    ∙ lacks_carried n h carried

-- an outer part is put in after an inner one
pub put_two : (h t b x y z : Option ℕ) → y ≡ option_or h z → z ≡ option_or t x → option_or h t ≡ b → y ≡ option_or b x
put_two h t b x y z p q r = p ∙ ap (option_or h) q ∙ sym (or_assoc h t x) ∙ ap (λ (u : Option ℕ). option_or u x) r
