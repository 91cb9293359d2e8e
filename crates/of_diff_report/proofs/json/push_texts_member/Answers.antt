use Rattle.std.proofs.Common.{◌∙◌, ◌++◌, ◌∷◌, ℕ, List, [], ap, append_assoc}
use Rattle.of_json.specs.{Parts.key, Strings.array_member}
use Rattle.of_diff_report.proofs.json.push_texts_member.Goals as goal

pub returns : goal.returns
unfolding array_member
returns c =
    let before = c.args.out.now.items in
    let head : List ℕ = 44 ∷ key c.args.name.now in
    let texts = c.args.texts.now in
    c.in_ok-push.ensures.items
    ∙ (ap (λ (l : List ℕ). l ++ (93 ∷ [])) (c.in_ok-extend_from_slice.ensures.items ∙ (ap (λ (l : List ℕ). l ++ texts) c.in_ok-begin_array.ensures
    ∙ (append_assoc (before ++ head) (91 ∷ []) texts ∙ append_assoc before head (91 ∷ texts))))
    ∙ append_assoc before (head ++ (91 ∷ texts)) (93 ∷ []))
