-- Keywords as they lie in memory.
use Rattle.std.proofs.Common.{◌≡◌, ℕ, Bool, true, false, List, [], ◌∷◌, ◌++◌, refl, sym, ap, ◌∙◌}
use Rattle.std.specs.{Prelude.◌||◌, List.list_any, Str.bytes_eq, Global.Vec}
use Rattle.of_ovs_lines.specs.declared.word_fault.WordFault.{WordFault}
use Rattle.of_import_report.specs.{Keywords.keyword_of_fault, Keywords.with_keyword, Views.view_names}

any_name : (p : List ℕ → Bool) (names : List (Vec ℕ)) → list_any (λ name. p name.items) names ≡ list_any p (view_names names)
any_name p [] = refl
any_name p (name ∷ names) = ap (λ (b : Bool). p name.items || b) (any_name p names)

one_more : (names : List (Vec ℕ)) (name : Vec ℕ) → view_names (names ++ name ∷ []) ≡ view_names names ++ name.items ∷ []
one_more [] name = refl
one_more (n ∷ names) name = ap (λ (ns : List (List ℕ)). n.items ∷ ns) (one_more names name)

-- whether the keyword of a fault is there
is_there : (names slice : List (Vec ℕ)) (fault : WordFault) (name : List ℕ) (b t : Bool) → name ≡ keyword_of_fault fault → slice ≡ names → b ≡ list_any (λ (other : Vec ℕ). bytes_eq other.items name) slice → b ≡ t → list_any (λ (x : List ℕ). bytes_eq x (keyword_of_fault fault)) (view_names names) ≡ t
is_there names slice fault name b t n s a f =
    ap (λ (k : List ℕ). list_any (λ (x : List ℕ). bytes_eq x k) (view_names names)) (sym n)
    ∙ (sym (any_name (λ (x : List ℕ). bytes_eq x name) names) ∙ (ap (λ (xs : List (Vec ℕ)). list_any (λ (other : Vec ℕ). bytes_eq other.items name) xs) (sym s) ∙ (sym a ∙ f)))

pub kept : (names slice : List (Vec ℕ)) (fault : WordFault) (name : List ℕ) (b : Bool) → name ≡ keyword_of_fault fault → slice ≡ names → b ≡ list_any (λ (other : Vec ℕ). bytes_eq other.items name) slice → b ≡ true → view_names names ≡ with_keyword (view_names names) fault
kept names slice fault name b n s a f = rw (is_there names slice fault name b true n s a f) refl

pub added : (names new slice : List (Vec ℕ)) (fault : WordFault) (word : Vec ℕ) (name : List ℕ) (b : Bool) → name ≡ keyword_of_fault fault → slice ≡ names → b ≡ list_any (λ (other : Vec ℕ). bytes_eq other.items name) slice → b ≡ false → new ≡ names ++ word ∷ [] → word.items ≡ name → view_names new ≡ with_keyword (view_names names) fault
added names new slice fault word name b n s a f e w =
    rw (is_there names slice fault name b false n s a f) (ap view_names e ∙ (one_more names word ∙ ap (λ (k : List ℕ). view_names names ++ k ∷ []) (w ∙ n)))
