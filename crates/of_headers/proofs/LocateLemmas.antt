-- The place of a field among cells, and how many bits cells take.
use Rattle.std.proofs.Common.{◌≡◌, ℕ, zero, suc, ◌+◌, ◌*◌, ◌^◌, ◌<◌, ◌≤◌, ◌%◌, Bool, true, false, cond, List, [], ◌∷◌, ◌++◌, length, drop, Option, Some, None, refl, sym, ap, ◌∙◌, arith}
use Rattle.std.specs.Option.{option_or}
use Rattle.of_layers.specs.Layers.{Cell, byte_cells, cells_in, inner_cells, tag_cells, outer_tag}
use Rattle.of_layers.specs.{declared.place.Place.Place, Reading.tags_of, Reading.tag_numbers, Looking.name_is, Looking.locate_at}
use Rattle.of_headers.specs.Places.{width}

-- ---- parts of cells

pub locate-append : (at n : ℕ) (a b : List Cell) → locate_at at n (a ++ b) ≡ option_or (locate_at at n a) (locate_at (at + width a) n b)
locate-append at n [] b = ap (λ (k : ℕ). locate_at k n b) (omega arith)
locate-append at n (c ∷ a) b =
    let sum : at + c.width + width a ≡ at + (c.width + width a) = omega arith in
    elim (name_is n c.name) as (λ t. cond t (Some (record { first = at; bits = c.width })) (locate_at (at + c.width) n (a ++ b)) ≡ option_or (cond t (Some (record { first = at; bits = c.width })) (locate_at (at + c.width) n a)) (locate_at (at + (c.width + width a)) n b)) [
      | true ↦ refl
      | false ↦ locate-append (at + c.width) n a b ∙ ap (λ (k : ℕ). option_or (locate_at (at + c.width) n a) (locate_at k n b)) sum
    ]

pub locate_bytes : (at n : ℕ) (s : List ℕ) → locate_at at n (byte_cells s) ≡ None
locate_bytes at n [] = refl
locate_bytes at n (b ∷ s) = locate_bytes (at + 8) n s

pub place_or_none : (a : Option Place) → option_or a None ≡ a
place_or_none None = refl
place_or_none (Some a) = refl

pub place_or_assoc : (a b c : Option Place) → option_or (option_or a b) c ≡ option_or a (option_or b c)
place_or_assoc None b c = refl
place_or_assoc (Some a) b c = refl

pub locate_front : (at n : ℕ) (a : List Cell) (s : List ℕ) → locate_at at n (a ++ byte_cells s) ≡ locate_at at n a
locate_front at n a s = locate-append at n a (byte_cells s) ∙ ap (option_or (locate_at at n a)) (locate_bytes (at + width a) n s) ∙ place_or_none (locate_at at n a)

pub width_bytes : (s : List ℕ) → width (byte_cells s) ≡ 8 * length s
width_bytes [] = refl
width_bytes (b ∷ s) = omega (arith, width_bytes s)

pub width-append : (a b : List Cell) → width (a ++ b) ≡ width a + width b
width-append [] b = omega arith
width-append (c ∷ a) b = omega (arith, width-append a b)

pub locate_behind : (at n : ℕ) (s : List ℕ) (a : List Cell) → locate_at at n (byte_cells s ++ a) ≡ locate_at (at + 8 * length s) n a
locate_behind at n s a =
    locate-append at n (byte_cells s) a
    ∙ ap (λ (x : Option Place). option_or x (locate_at (at + width (byte_cells s)) n a)) (locate_bytes at n s)
    ∙ ap (λ (k : ℕ). locate_at (at + k) n a) (width_bytes s)

-- ---- from another bit on

abbrev pub later : ℕ → Option Place → Option Place
later at None = None
later at (Some p) = Some (record { first = at + p.first; bits = p.bits })

pub locate_later : (at k n : ℕ) (cs : List Cell) → locate_at (at + k) n cs ≡ later at (locate_at k n cs)
locate_later at k n [] = refl
locate_later at k n (c ∷ cs) =
    let sum : at + k + c.width ≡ at + (k + c.width) = omega arith in
    elim (name_is n c.name) as (λ t. cond t (Some (record { first = at + k; bits = c.width })) (locate_at (at + k + c.width) n cs) ≡ later at (cond t (Some (record { first = k; bits = c.width })) (locate_at (k + c.width) n cs))) [
      | true ↦ refl
      | false ↦ ap (λ (j : ℕ). locate_at j n cs) sum ∙ locate_later at (k + c.width) n cs
    ]

abbrev first_of : ℕ → Option Place → ℕ
first_of d None = d
first_of d (Some q) = q.first

within_by : (b : Bool) (at w k : ℕ) (x : Option Place) (p : Place) → ((q : Place) → x ≡ Some q → q.first ≤ k) → at ≤ k → cond b (Some (record { first = at; bits = w })) x ≡ Some p → p.first ≤ k
within_by true at w k x p h l e = let same : at ≡ p.first = ap (first_of at) e in omega arith
within_by false at w k x p h l e = h p e

pub located_within : (at n : ℕ) (cs : List Cell) (p : Place) → locate_at at n cs ≡ Some p → p.first ≤ at + width cs
located_within at n [] p e = absurd cc
located_within at n (c ∷ cs) p e =
    within_by (name_is n c.name) at c.width (at + (c.width + width cs)) (locate_at (at + c.width) n cs) p
    (λ q h. (let r : q.first ≤ at + c.width + width cs = located_within (at + c.width) n cs q h in omega arith)) (omega arith) e

pub none_later : (at n : ℕ) (cs : List Cell) (x : Option Place) → x ≡ None → x ≡ locate_at 0 n cs → None ≡ locate_at at n cs
none_later at n cs x a b =
    ap (later at) (sym a ∙ b) ∙ sym (locate_later at 0 n cs) ∙ ap (λ (k : ℕ). locate_at k n cs) (omega arith)

pub some_later : (at n : ℕ) (cs : List Cell) (p : Place) (q : Option Place) → at + width cs < 2 ^ 64 → Some p ≡ locate_at 0 n cs →
    q ≡ Some (record { first = (at + p.first) % 2 ^ 64; bits = p.bits }) → q ≡ locate_at at n cs
some_later at n cs p q l e h =
    let low : p.first ≤ width cs = omega (arith, located_within 0 n cs p (sym e)) in
    let exact : (at + p.first) % 2 ^ 64 ≡ at + p.first = omega arith in
    h ∙ (λ i. Some (record { first = exact i; bits = p.bits })) ∙ ap (later at) e ∙ sym (locate_later at 0 n cs) ∙ ap (λ (k : ℕ). locate_at k n cs) (omega arith)

-- ---- tags

pub width_inner : (n : ℕ) (s : List ℕ) → width (inner_cells (tags_of n s)) ≡ 32 * n
width_inner zero s = refl
width_inner (suc n) s = omega (arith, width_inner n (drop 4 s))

pub width_tags : (n : ℕ) (s : List ℕ) → width (tag_cells (tags_of n s)) ≡ 32 * n
width_tags zero s = refl
width_tags (suc n) s = omega (arith, width_inner n (drop 4 s))

locate_inner : (at n m : ℕ) (s : List ℕ) → locate_at at n (inner_cells (tags_of m s)) ≡ None
locate_inner at n zero s = refl
locate_inner at n (suc m) s = locate_inner (at + 16 + 3 + 1 + 12) n m (drop 4 s)

pub locate_tags : (at n m : ℕ) (s : List ℕ) → locate_at at n (tag_cells (tags_of (suc m) s)) ≡ locate_at at n (cells_in outer_tag (tag_numbers s))
locate_tags at n m s =
    locate-append at n (cells_in outer_tag (tag_numbers s)) (inner_cells (tags_of m (drop 4 s)))
    ∙ ap (option_or (locate_at at n (cells_in outer_tag (tag_numbers s)))) (locate_inner (at + 32) n m (drop 4 s))
    ∙ place_or_none (locate_at at n (cells_in outer_tag (tag_numbers s)))
