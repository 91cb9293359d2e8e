-- Headers as far as they are read.
use Rattle.std.proofs.Common.{◌≡◌, ℕ, ◌<◌, Bool, true, false, cond, eqb, List, [], ◌∷◌, ◌++◌, length, get_or, zero, suc, Option, Some, None, refl, sym, ap, subst, ◌∙◌, arith}
use Rattle.std.{specs.List.list_all, proofs.lemmas.Bool.eqb-true, proofs.lemmas.Bool.Decides.nat_tests, proofs.lemmas.List.Folds.list_all-append}
use Rattle.of_wire.{specs.Numbered.is_used, specs.Numbered.is_distinct, proofs.NumberedLemmas.distinct-push}
use Rattle.of_actions.specs.Headers.{Header, goto, write, apply, clear, kind_of, header_at, goto_table_at, actions_at}
use Rattle.of_actions.specs.{Beginnings.type_at, Unread.is_sound_header, Unread.leads_on}

-- no two are of one type, and each is fit for an entry of the table
pub record Fine (table : ℕ) (headers : List Header) : Type 0 where
  pub sound : list_all is_sound_header headers ≡ true
  pub later : list_all (leads_on table) headers ≡ true
  pub once : is_distinct kind_of headers ≡ true

-- ---- a header is of the type that stands in the bytes

some_kind : (n k : ℕ) (h g : Header) (other : Option Header) → (Some h ≡ cond (eqb n k) (Some g) other) → kind_of g ≡ k → (other ≡ Some h → kind_of h ≡ n) → kind_of h ≡ n
some_kind n k h g other e is f = by_test (eqb n k) refl e
  where
    by_test : (b : Bool) → eqb n k ≡ b → Some h ≡ cond b (Some g) other → kind_of h ≡ n
    by_test true t s = let same : h ≡ g = cc in ap kind_of same ∙ (is ∙ sym (eqb-true n k t))
    by_test false t s = f (sym s)

pub kind_is : (rest : List ℕ) (h : Header) → header_at rest ≡ Some h → kind_of h ≡ type_at rest
unfolding header_at
kind_is rest h e =
    let n = type_at rest in
    some_kind n 1 h (goto (goto_table_at rest)) _ (sym e) refl
    (λ e2. some_kind n 2 h _ _ (sym e2) refl
    (λ e3. some_kind n 3 h (write (actions_at rest)) _ (sym e3) refl
    (λ e4. some_kind n 4 h (apply (actions_at rest)) _ (sym e4) refl
    (λ e5. some_kind n 5 h clear None (sym e5) refl
    (λ e6. absurd cc)))))

pub fine_push : (table : ℕ) (headers given new : List Header) (rest : List ℕ) (h : Header) → Fine table headers → given ≡ headers → header_at rest ≡ Some h → is_sound_header h ≡ true → leads_on table h ≡ true → is_used kind_of (type_at rest) given ≡ false
    → new ≡ headers ++ h ∷ [] → Fine table new
fine_push table headers given new rest h fine e at sound later unused is =
    let kind = kind_is rest h at in
    let sound' : list_all is_sound_header (headers ++ h ∷ []) ≡ true = rw (list_all-append is_sound_header headers (h ∷ []), fine.sound, sound) refl in
    let later' : list_all (leads_on table) (headers ++ h ∷ []) ≡ true = rw (list_all-append (leads_on table) headers (h ∷ []), fine.later, later) refl in
    let unused' : is_used kind_of (kind_of h) headers ≡ false = subst (λ (hs : List Header). is_used kind_of (kind_of h) hs ≡ false) e (rw kind unused) in
    let pushed : Fine table (headers ++ h ∷ []) = record { sound = sound'; later = later'; once = distinct-push kind_of headers h fine.once unused' } in
    subst (Fine table) (sym is) pushed

pub sound_at : (headers : List Header) (i : ℕ) (h d : Header) → list_all is_sound_header headers ≡ true → i < length headers → h ≡ get_or headers i d → is_sound_header h ≡ true
sound_at [] i h d all lt is = absurd (omega arith)
sound_at (x ∷ xs) zero h d all lt is = let first : is_sound_header x ≡ true = grind (arith, nat_tests) in ap is_sound_header is ∙ first
sound_at (x ∷ xs) (suc i) h d all lt is = sound_at xs i h d (grind (arith, nat_tests)) (omega arith) is
