-- What the extension headers of an IPv6 packet say of their packet.
use Rattle.std.proofs.Common.{◌≡◌, ℕ, zero, suc, ◌+◌, ◌-◌, ◌*◌, ◌<◌, ◌≤◌, Bool, true, false, cond, List, [], ◌∷◌, length, get_or, set, take, drop, Option, Some, None, refl, sym, ap, ◌∙◌, subst, arith}
use Rattle.std.{specs.Prelude.◌==◌, specs.Option.option_or, proofs.lemmas.List.get_or-drop, proofs.lemmas.List.length-drop}
use Rattle.of_layers.specs.Layers.{Extension, Options, Fragment, extension_bytes, all_bytes, extension_cells, byte_cells, size_of, cells_in, ipv6, named, next_before}
use Rattle.of_layers.specs.Reading.{Chain, behind_extension, ends_as, over_ipv6, is_fragment, extension_size, has_extension, is_later, extension_of, options_numbers, fragment_numbers, ipv6_numbers, numbers_of, chain_of}
use Rattle.of_layers.specs.{declared.field.Field.Field, declared.field.Field.TheVariants.InPort, declared.field.Field.TheVariants.IpProto, declared.transport.Transport.Transport}
use Rattle.of_layers.specs.{declared.transport.Transport.TheVariants.Nothing, Fields.row_of, Fields.number_of, declared.place.Place.Place, Looking.look_up, Looking.look, Looking.locate_at}
use Rattle.of_headers.proofs.ChainLemmas.{chain_stop, chain_later, chain_more, eight_fit, extension_is, later_size, drops, size_fits as extension_fits}
use Rattle.of_headers.{specs.Places.protocol_at, specs.Places.width, proofs.CarriedLemmas.size_fits, proofs.LookLemmas.look_behind, proofs.LookLemmas.or_none}
use Rattle.of_headers.proofs.LocateLemmas.{locate_behind, width-append, width_bytes}

-- the protocol is named by the last extension header, if there is any
abbrev pub proto_in : List Extension → ℕ → ℕ → Option ℕ
proto_in [] n v = None
proto_in (e ∷ es) n v = cond (n == 10) (Some v) None

-- and stands in a byte of it
abbrev pub placed_in : List Extension → ℕ → ℕ → Option Place
placed_in [] n v = None
placed_in (e ∷ es) n v = cond (n == 10) (Some (record { first = v; bits = 8 })) None

pub record IsWalk (q : List ℕ) (at before : ℕ) (c : Chain) : Type 0 where
  pub room : at + all_bytes c.extensions ≤ length q
  pub size : size_of c.carried.kind ≤ length (drop (at + all_bytes c.extensions) q)
  pub numbers : c.carried.numbers ≡ numbers_of c.carried.kind (drop (at + all_bytes c.extensions) q)
  pub low : protocol_at before at c.extensions < length q
  pub left : at + all_bytes c.extensions + size_of c.carried.kind + length c.carried.rest ≡ length q
  pub wide : width (extension_cells c.extensions) ≡ 8 * all_bytes c.extensions
  pub placed : (n : ℕ) → locate_at (8 * at) n (extension_cells c.extensions) ≡ placed_in c.extensions n (8 * protocol_at before at c.extensions)
  pub proto : (n : ℕ) → look_up n (extension_cells c.extensions) ≡ proto_in c.extensions n (get_or q (protocol_at before at c.extensions) 0)

walk_end : (q : List ℕ) (at before : ℕ) (kind : Transport) → at ≤ length q → before < length q → IsWalk q at before (ends_as kind (drop at q))
walk_end q at before kind h l =
    let same : at ≡ at + 0 = omega arith in
    record {
      room = omega arith;
      size = subst (λ (k : ℕ). size_of (ends_as kind (drop at q)).carried.kind ≤ length (drop k q)) same (size_fits kind (length (drop at q)));
      numbers = ap (λ (k : ℕ). numbers_of (ends_as kind (drop at q)).carried.kind (drop k q)) same;
      low = l;
      left = omega (arith, size_fits kind (length (drop at q)), length-drop at q, length-drop (size_of (ends_as kind (drop at q)).carried.kind) (drop at q));
      wide = refl;
      placed = λ n. refl;
      proto = λ n. refl;
    }

-- a header whose next is not the last names nothing
abbrev next_in : List Extension → ℕ → ℕ → Option ℕ → Option ℕ
next_in [] n v x = cond (n == 10) (Some v) None
next_in (e ∷ es) n v x = x

look_next : (b : Bool) (n : ℕ) (s bytes : List ℕ) (es : List Extension) →
    look_up n (extension_cells (cond b (Fragment (fragment_numbers s)) (Options (options_numbers s) bytes) ∷ es)) ≡ next_in es n (get_or s 0 0) (look_up n (extension_cells es))
unfolding row_of
look_next true n s bytes [] = refl
look_next true n s bytes (e ∷ es) = refl
look_next false n s bytes [] = ap (cond (n == 10) (Some (get_or s 0 0))) (look_behind n bytes [])
look_next false n s bytes (e ∷ es) = look_behind n bytes (extension_cells (e ∷ es))

proto_by : (es : List Extension) (q : List ℕ) (before at n : ℕ) (x : Option ℕ) → x ≡ proto_in es n (get_or q (protocol_at before at es) 0) →
    next_in es n (get_or q before 0) x ≡ cond (n == 10) (Some (get_or q (protocol_at before at es) 0)) None
proto_by [] q before at n x e = refl
proto_by (y ∷ es) q before at n x e = e

width_next : (b : Bool) (s bytes : List ℕ) (es : List Extension) →
    width (extension_cells (cond b (Fragment (fragment_numbers s)) (Options (options_numbers s) bytes) ∷ es)) ≡ 8 * extension_bytes (cond b (Fragment (fragment_numbers s)) (Options (options_numbers s) bytes)) + width (extension_cells es)
width_next true s bytes [] = refl
width_next true s bytes (e ∷ es) = omega arith
width_next false s bytes [] = omega (arith, width-append (byte_cells bytes) [], width_bytes bytes)
width_next false s bytes (e ∷ es) = omega (arith, width-append (byte_cells bytes) (extension_cells (e ∷ es)), width_bytes bytes)

abbrev place_next : List Extension → ℕ → ℕ → Option Place → Option Place
place_next [] n v x = cond (n == 10) (Some (record { first = v; bits = 8 })) None
place_next (e ∷ es) n v x = x

locate_next : (b : Bool) (at n : ℕ) (s bytes : List ℕ) (es : List Extension) →
    locate_at at n (extension_cells (cond b (Fragment (fragment_numbers s)) (Options (options_numbers s) bytes) ∷ es))
    ≡ place_next es n at (locate_at (at + 8 * extension_bytes (cond b (Fragment (fragment_numbers s)) (Options (options_numbers s) bytes))) n (extension_cells es))
unfolding row_of
locate_next true at n s bytes [] = refl
locate_next true at n s bytes (e ∷ es) = ap (λ (k : ℕ). locate_at k n (extension_cells (e ∷ es))) (omega arith)
locate_next false at n s bytes [] = ap (cond (n == 10) (Some (record { first = at; bits = 8 }))) (locate_behind (at + 8 + 8) n bytes [])
locate_next false at n s bytes (e ∷ es) = locate_behind (at + 8 + 8) n bytes (extension_cells (e ∷ es)) ∙ ap (λ (k : ℕ). locate_at k n (extension_cells (e ∷ es))) (omega arith)

placed_by : (es : List Extension) (before at n : ℕ) (x : Option Place) → x ≡ placed_in es n (8 * protocol_at before at es) →
    place_next es n (8 * before) x ≡ cond (n == 10) (Some (record { first = 8 * protocol_at before at es; bits = 8 })) None
placed_by [] before at n x e = refl
placed_by (y ∷ es) before at n x e = e

walk_step : (q : List ℕ) (at before kind : ℕ) (c : Chain) → has_extension kind (drop at q) ≡ true → IsWalk q (at + extension_size kind (drop at q)) at c →
    IsWalk q at before (behind_extension (extension_of kind (drop at q)) c)
walk_step q at before kind c h w =
    let e : Extension = extension_of kind (drop at q) in
    let size : extension_size kind (drop at q) ≡ extension_bytes (extension_of kind (drop at q)) = sym (extension_is kind (drop at q) h) in
    let u : IsWalk q (at + extension_bytes (extension_of kind (drop at q))) at c = subst (λ (k : ℕ). IsWalk q (at + k) at c) size w in
    let sum : at + extension_bytes (extension_of kind (drop at q)) + all_bytes c.extensions ≡ at + (extension_bytes (extension_of kind (drop at q)) + all_bytes c.extensions) = omega arith in
    let first : get_or (drop at q) 0 0 ≡ get_or q at 0 = get_or-drop at q 0 0 ∙ ap (λ (k : ℕ). get_or q k 0) (omega arith) in
    record {
      room = subst (λ (k : ℕ). k ≤ length q) sum u.room;
      size = subst (λ (k : ℕ). size_of c.carried.kind ≤ length (drop k q)) sum u.size;
      numbers = u.numbers ∙ ap (λ (k : ℕ). numbers_of c.carried.kind (drop k q)) sum;
      low = u.low;
      left = let h = u.left in omega arith;
      wide = let wider : width (extension_cells (extension_of kind (drop at q) ∷ c.extensions)) ≡ 8 * extension_bytes (extension_of kind (drop at q)) + width (extension_cells c.extensions) =
          width_next (is_fragment kind) (drop at q) (drop 2 (take (extension_size kind (drop at q)) (drop at q))) c.extensions in
          let h = u.wide in omega arith;
      placed = λ n.
          locate_next (is_fragment kind) (8 * at) n (drop at q) (drop 2 (take (extension_size kind (drop at q)) (drop at q))) c.extensions
          ∙ placed_by c.extensions at (at + extension_bytes (extension_of kind (drop at q))) n (locate_at (8 * at + 8 * extension_bytes (extension_of kind (drop at q))) n (extension_cells c.extensions))
          (ap (λ (k : ℕ). locate_at k n (extension_cells c.extensions)) (omega arith) ∙ u.placed n);
      proto = λ n.
          look_next (is_fragment kind) n (drop at q) (drop 2 (take (extension_size kind (drop at q)) (drop at q))) c.extensions
          ∙ ap (λ (v : ℕ). next_in c.extensions n v (look_up n (extension_cells c.extensions))) first
          ∙ proto_by c.extensions q at (at + extension_bytes (extension_of kind (drop at q))) n (look_up n (extension_cells c.extensions)) (u.proto n);
    }

pub walk_is : (m kind at before : ℕ) (q : List ℕ) → at ≤ length q → before < length q → IsWalk q at before (chain_of m kind (drop at q))
unfolding chain_of
walk_is zero kind at before q h l = walk_end q at before (over_ipv6 kind) h l
walk_is (suc m) kind at before q h l =
    let split : (x y : Bool) → has_extension kind (drop at q) ≡ x → is_later kind (drop at q) ≡ y → IsWalk q at before (chain_of (suc m) kind (drop at q))
    = λ x y. elim x as (λ x. has_extension kind (drop at q) ≡ x → is_later kind (drop at q) ≡ y → IsWalk q at before (chain_of (suc m) kind (drop at q))) [
      | false ↦ λ e r. subst (IsWalk q at before) (sym (chain_stop (suc m) kind (drop at q) e)) (walk_end q at before (over_ipv6 kind) h l)
      | true ↦ λ e. (let long : 8 ≤ length (drop at q) = eight_fit kind (drop at q) e in
          let fits : extension_size kind (drop at q) ≤ length (drop at q) = extension_fits kind (drop at q) e in
          let left : length (drop at q) ≡ length q - at = length-drop at q in
          let next : at + extension_size kind (drop at q) ≤ length q = omega arith in
          let here : at < length q = omega arith in
          let gone : drop (extension_size kind (drop at q)) (drop at q) ≡ drop (at + extension_size kind (drop at q)) q = drops at (extension_size kind (drop at q)) q in
          elim y as (λ y. is_later kind (drop at q) ≡ y → IsWalk q at before (chain_of (suc m) kind (drop at q))) [
            | true ↦ λ r.
                let eight : drop 8 (drop at q) ≡ drop (at + extension_size kind (drop at q)) q = ap (λ (k : ℕ). drop k (drop at q)) (sym (later_size kind (drop at q) r)) ∙ gone in
                subst (IsWalk q at before)
                (sym (chain_later (suc m) kind (drop at q) (omega arith) e r ∙ ap (λ (s : List ℕ). behind_extension (extension_of kind (drop at q)) (ends_as Nothing s)) eight))
                (walk_step q at before kind (ends_as Nothing (drop (at + extension_size kind (drop at q)) q)) e (walk_end q (at + extension_size kind (drop at q)) at Nothing next here))
            | false ↦ λ r.
                subst (IsWalk q at before)
                (sym (chain_more m kind (drop at q) e r ∙ ap (λ (s : List ℕ). behind_extension (extension_of kind (drop at q)) (chain_of m (get_or (drop at q) 0 0) s)) gone))
                (walk_step q at before kind (chain_of m (get_or (drop at q) 0 0) (drop (at + extension_size kind (drop at q)) q)) e (walk_is m (get_or (drop at q) 0 0) (at + extension_size kind (drop at q)) at q next here))
          ])
    ] in
    split (has_extension kind (drop at q)) (is_later kind (drop at q)) refl refl

-- the fields of IPv6's own header and of the protocol's number
pub header_next : (f : Field) (p : List ℕ) (es : List Extension) (v : ℕ) → (es ≡ [] → v ≡ get_or p 6 0) →
    option_or (look f (cells_in (ipv6 (next_before es)) (ipv6_numbers p))) (proto_in es (number_of f) v) ≡ look f (cells_in (ipv6 (named IpProto 8)) (set (ipv6_numbers p) 5 v))
unfolding row_of
header_next f p [] v h = let own : v ≡ get_or p 6 0 = h refl in
    rw own (or_none (look f (cells_in (ipv6 (next_before [])) (ipv6_numbers p))))
header_next f p (e ∷ es) v h = elim f as (λ f. option_or (look f (cells_in (ipv6 (next_before (e ∷ es))) (ipv6_numbers p))) (proto_in (e ∷ es) (number_of f) v) ≡ look f (cells_in (ipv6 (named IpProto 8)) (set (ipv6_numbers p) 5 v))) [
  | InPort ↦ refl
  | _ ↦ refl
]
